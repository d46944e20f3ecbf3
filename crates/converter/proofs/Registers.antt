-- The register of a bank, and the loop over all banks.
use mathlib.Core.Path.{◌≡◌, refl, ap, ap₂, sym, ◌∙◌, subst, fun_ext}
use mathlib.Core.List.{List, [], ◌∷◌}
use Prim.Native.Nat.{ℕ, ◌+◌, ◌≤◌, ◌<◌}
use native.Mathlib.Omega.{arith}
use lib.ListN.{length, drop, drop_of_length-le}
use Rattle.std.specs.Prelude.{Option, None, Result, IsErrAnd}
use Rattle.refusal.specs.declared.Refusal.{Refusal}
use Rattle.refusal.specs.Refusal.{number_of, place_of}
use Rattle.netlist.specs.declared.Bit.{Bit}
use Rattle.netlist.specs.declared.Reset.{Reset}
use Rattle.netlist.specs.Netlist.{FlipFlop}
use Rattle.netlist.specs.Fields.{word_at, bit_at, cells_at}
use Rattle.behaviour.specs.Banks.{Member, Bank, async_reset, collect_flip_flop_banks}
use Rattle.recorder.specs.declared.Recorder.{Recorder}
use Rattle.recorder.specs.Record.{RegReset, Stmt.reg}
use Rattle.recorder.specs.Writer.{Writer, End, End.ok, End.no, state, ◌>>=◌}
use Rattle.recorder.specs.Calls.{SameLists, Writes, ended}
use Rattle.recorder.proofs.Events.{bind_assoc}
use Rattle.recorder.proofs.Calls.{same_lists, handed, writes_as, writes_pure, Underway, underway_start, underway_step, underway_stop, underway_end}
use Rattle.wires.specs.declared.Constants.{Constants}
use Rattle.wires.specs.declared.WireMap.{WireMap}
use Rattle.wires.specs.Wires.{WireRef, Wires, wires_in}
use Rattle.wires.specs.Expressions.{wire_ref, bit_signal, concat_parts, roomy}
use Rattle.wires.proofs.Laws.{roomy_yes}
use Rattle.lowering.specs.Emit.{next_bits, bank_reset, emit_flip_flop_bank, emit_banks}
use Rattle.converter.specs.declared.members.Banks.{Banks}
use Rattle.converter.specs.declared.members.Members.{Members}
use Rattle.converter.specs.Banked.{flop_at}
use Rattle.converter.specs.Members.{members_left}
use Rattle.converter.specs.Reserved.{Noted}
use Rattle.converter.specs.BankEmits.{next_value, clock_bank, EmitsBank, EmitsBanks}
use Rattle.converter.proofs.Noted.{bank_of, bank_next, banks_end, bank_is, members_few}
use Rattle.converter.proofs.BanksReserved.{TheMembers, members_of_bank}

module _ (m : Wires) (z : Constants) where
  -- ONE BANK

  pub clock_is : (words : List ℕ) (at : ℕ) {bit : Bit} {edge : ℕ} → bit ≡ bit_at words (at + 3) → edge ≡ word_at words (at + 4) → (target next : ℕ) (reset : Option RegReset)
      → clock_bank m z (flop_at words at) target next reset ≡ (bit_signal m z bit >>= λ clock. state (reg target next clock edge reset None))
  clock_is words at p q target next reset = λ i. bit_signal m z (sym p i) >>= λ clock. state (reg target next clock (sym q i) reset None)

  -- what stands behind the bank's signal
  abbrev pub behind : FlipFlop → Option Reset → List Member → ℕ → Writer (Unit {0})
  behind f rs ms target = next_value m ms >>= λ next. bank_reset m z rs ms >>= λ reset. clock_bank m z f target next reset

  emit_is : (leader : Member) (ms : List Member) → emit_flip_flop_bank m z (record { leader = leader; members = ms }) ≡ (wire_ref m leader.flop.output >>= λ target. behind leader.flop (async_reset leader.flop) ms target.signal)
  unfolding emit_flip_flop_bank
  emit_is leader ms =
      ap (λ (k : WireRef → Writer (Unit {0})). wire_ref m leader.flop.output >>= k)
      (fun_ext (λ target. sym (bind_assoc (next_bits m ms []) concat_parts (λ next. bank_reset m z (async_reset leader.flop) ms >>= λ reset. clock_bank m z leader.flop target.signal next reset))))

  -- by the leader's fields
  pub bank_writes : (leader : Member) (ms : List Member) {f : FlipFlop} → leader.flop ≡ f → {w : ℕ} → w ≡ f.output → {rs : Option Reset} → rs ≡ async_reset f
      → emit_flip_flop_bank m z (record { leader = leader; members = ms }) ≡ (wire_ref m w >>= λ target. behind f rs ms target.signal)
  bank_writes leader ms {f} is out e =
      emit_is leader ms ∙ ap (λ (x : FlipFlop). wire_ref m x.output >>= λ target. behind x (async_reset x) ms target.signal) is
      ∙ ap₂ (λ (v : ℕ) (o : Option Reset). wire_ref m v >>= λ target. behind f o ms target.signal) (sym out) (sym e)

-- ALL BANKS

module _ (banks : Banks) (map : WireMap) where
  abbrev bs : List Bank
  bs = collect_flip_flop_banks (cells_at banks.cells.words.now banks.cells.at banks.n)

  abbrev m : Wires
  m = wires_in map

  abbrev z : Constants
  z = map.constants

  -- what is left from bank b on
  unfoldable pub left : ℕ → Writer (Unit {0})
  left b = emit_banks m z (drop b bs)

  abbrev whole : List ℕ → Writer (Unit {0})
  whole parts = roomy banks.n parts (emit_banks m z bs)

  pub record EmitsLoop (parts₀ : List ℕ) (r₀ r : Recorder) (parts : List ℕ) (b : ℕ) : Type 0 where
    pub same : SameLists r₀ r
    pub goes : Noted banks → Underway r₀ (whole parts₀) r (left b)
    pub room : banks.n ≤ length parts₀
    pub kept : length parts ≡ length parts₀

  pub emits_start : (parts : List ℕ) (r₀ : Recorder) → banks.n ≤ length parts → EmitsLoop parts r₀ r₀ parts 0
  unfolding left
  emits_start parts r₀ h = record { same = record { signals = refl; exprs = refl; stmts = refl }; goes = λ so. underway_start (roomy_yes banks.n parts (emit_banks m z bs) h); room = h; kept = refl }

  module _ {parts₀ : List ℕ} {r₀ r : Recorder} {parts : List ℕ} {b : ℕ} (now : EmitsLoop parts₀ r₀ r parts b) where
    module _ (less : b < banks.count) {ms : Members} (are : TheMembers banks b ms) where
      begins : (so : Noted banks) → left b ≡ (emit_flip_flop_bank m z (bank_of so b) >>= λ u. left (b + 1))
      unfolding left emit_banks
      begins so = ap (emit_banks m z) (bank_next so b less)

      one_bank : (so : Noted banks) {e : End (Unit {0})} {r₁ : Recorder} → EmitsBank r parts map (members_left ms) e r₁ → Writes r (emit_flip_flop_bank m z (bank_of so b)) e r₁
      unfolding bank_of
      one_bank so h =
          let q = (bank_is so b less).first in
          let is = members_of_bank banks b are so in
          let few : length (members_left ms) ≤ length parts = omega (arith, ap length is, members_few so b less, now.room, now.kept) in
          writes_as
          (ap (λ (l : List Member). emit_flip_flop_bank m z (record { leader = (bank_of so b).leader; members = l })) (sym is)
          ∙ sym (roomy_yes (length (members_left ms)) parts (emit_flip_flop_bank m z (record { leader = (bank_of so b).leader; members = members_left ms })) few))
          (h.so (bank_of so b).leader q.0 (is ∙ q.1))

      pub emits_step : {parts' : List ℕ} → length parts' ≡ length parts → {u : Unit {0}} {r₁ : Recorder} → EmitsBank r parts map (members_left ms) (ok u) r₁ → EmitsLoop parts₀ r₀ r₁ parts' (b + 1)
      emits_step k h = record { same = same_lists now.same h.same; goes = λ so. underway_step (λ u. left (b + 1)) (now.goes so) (begins so) (one_bank so h) refl; room = now.room; kept = k ∙ now.kept }

      pub emits_err : {C : Type 0} (f : C → Unit {0}) (q : Result C Refusal) (x : Refusal) → IsErrAnd q (λ y. y ≡ x) → {r₁ : Recorder} → EmitsBank r parts map (members_left ms) (no (number_of x) (place_of x)) r₁ → EmitsBanks r₀ parts₀ map banks (ended f q) r₁
      emits_err f q x e {r₁} h = record {
        same = same_lists now.same h.same;
        so = λ so. subst (λ (y : End (Unit {0})). Writes r₀ (whole parts₀) y r₁) (sym (handed f q x e)) (underway_stop (λ u. left (b + 1)) (now.goes so) (begins so) (one_bank so h) refl);
      }

    pub emits_end : banks.count ≤ b → EmitsBanks r₀ parts₀ map banks (ok tt) r
    unfolding left emit_banks
    emits_end h = record { same = now.same; so = λ so. underway_end (now.goes so) (ap (emit_banks m z) (drop_of_length-le bs (banks_end so b h))) writes_pure }

-- ONE BANK, whose first member is known, and whose work is long enough

module _ (map : WireMap) {ms : List Member} {parts : List ℕ} (room : length ms ≤ length parts) {x : Member} {more : List Member} (is : ms ≡ x ∷ more) {w : ℕ} (out : w ≡ x.flop.output) {rs : Option Reset} (reset : rs ≡ async_reset x.flop) where
  pub one_emits : {r : Recorder} {e : End (Unit {0})} {r' : Recorder} → Writes r (wire_ref (wires_in map) w >>= λ target. behind (wires_in map) map.constants x.flop rs ms target.signal) e r' → EmitsBank r parts map ms e r'
  one_emits {r} {e} {r'} h = record {
    same = h.same;
    so = λ leader others q.
        let same : leader ≡ x = let z : leader ∷ others ≡ x ∷ more = sym q ∙ is in cc in
        writes_as
        (roomy_yes (length ms) parts (emit_flip_flop_bank (wires_in map) map.constants (record { leader = leader; members = ms })) room
        ∙ bank_writes (wires_in map) map.constants leader ms (ap (λ (y : Member). y.flop) same) out reset)
        h;
  }
