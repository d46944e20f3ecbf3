-- The steps one after another.
use mathlib.Core.Path.{◌≡◌, refl, ap, sym, ◌∙◌, subst}
use mathlib.Core.List.{List}
use Prim.Native.Nat.{ℕ, zero, suc, ◌≤◌, min}
use native.Mathlib.Omega.{arith}
use lib.ListN.{length, take, get_or, replicate, length-replicate}
use lib.Seq.{length-take-le}
use Rattle.std.specs.Prelude.{Result, Ok, Err, IsErrAnd}
use Rattle.std.proofs.lemmas.Result.{err_from_is_err_and}
use Rattle.netlist.specs.declared.Limits.{Limits}
use Rattle.netlist.specs.declared.fields.Fields.{Fields}
use Rattle.netlist.specs.Fields.{ports_at, cells_at}
use Rattle.refusal.specs.declared.Refusal.{Refusal}
use Rattle.refusal.specs.Refusal.{number_of, place_of}
use Rattle.behaviour.specs.Banks.{collect_flip_flop_banks}
use Rattle.recorder.specs.declared.Recorder.{Recorder}
use Rattle.recorder.specs.Writer.{Writer, End, End.ok, End.no, ◌>>=◌}
use Rattle.recorder.specs.declared.Tapes.{Tapes}
use denote.Ref.{Bor}
use Rattle.netlist.specs.declared.Layout.{Layout}
use Rattle.converter.specs.Banked.{Collects}
use Rattle.recorder.specs.Lists.{Lists, Wrote}
use Rattle.recorder.specs.Calls.{lists_in, tapes_in, Writes, ended}
use Rattle.recorder.proofs.Calls.{same_lists, writes_as, writes_then, writes_stop, writes_err}
use Rattle.wires.specs.declared.Constants.{Constants}
use Rattle.wires.specs.declared.Emitter.{Emitter}
use Rattle.wires.specs.declared.WireMap.{WireMap}
use Rattle.wires.specs.Wires.{Wires, wires_in, wires_of}
use Rattle.wires.proofs.Laws.{roomy_yes}
use Rattle.address_mux.specs.declared.Works.{Works}
use Rattle.lowering.specs.Reserve.{reserve_ports, reserve_cells, reserve_flip_flop_banks}
use Rattle.lowering.specs.Emit.{emit_cells, emit_banks, emit_outputs}
use Rattle.lowering.specs.Lower.{start, emit_constants, reserve_netlist, emit_netlist, lower_netlist}
use Rattle.converter.specs.declared.Reserver.{Reserver}
use Rattle.converter.specs.declared.members.Banks.{Banks}
use Rattle.converter.specs.Tables.{map_in, Reserves}
use Rattle.converter.specs.Reserved.{BanksFit}
use Rattle.converter.specs.BankEmits.{EmitsBanks}
use Rattle.converter.specs.Emits.{Work, Old, EmitsCells, EmitsAll, EmitsPorts}
use Rattle.converter.specs.Steps.{Ordered, Unmapped, netlist_of, netlist_by, recorded, ReservesNetlist, EmitsNetlist, RecordsParts, RecordsNetlist}
use Rattle.converter.proofs.Reserving.{reserves_then, reserves_err}
use Rattle.converter.proofs.Rows.{CellsIn, PortsIn}

-- RESERVING

module _ (r : Reserver) (ports : Fields) (n : ℕ) (b : Banks) where
  abbrev ports_from : Wires → Writer Wires
  ports_from m = reserve_ports m 0 (ports_at ports.words.now ports.at n)

  abbrev cells_from : Wires → Writer Wires
  cells_from m = reserve_cells m 0 (cells_at b.cells.words.now b.cells.at b.n)

  abbrev banks_from : Wires → Writer Wires
  banks_from m = reserve_flip_flop_banks m 0 (collect_flip_flop_banks (cells_at b.cells.words.now b.cells.at b.n))

  abbrev pub Fit : Limits → Type 0
  Fit limits = Ordered limits ports n b

  abbrev pub whole : Writer Wires
  whole = ports_from (map_in r) >>= λ m. cells_from m >>= banks_from

  banks_fit : (limits : Limits) → Fit limits → BanksFit b limits
  banks_fit limits p = (p.cells_fit, omega (arith, p.few), p.noted)

  module _ {r₁ : Reserver} where
    pub ports_err : (x : Refusal) → Reserves (PortsIn ports.words.now ports.at n r) r (ports_from (map_in r)) (Err x) r₁ → (q : Result (Unit {0}) Refusal) → IsErrAnd q (λ y. y ≡ x) → Reserves Fit r whole q r₁
    ports_err x h q e = reserves_err (λ limits room p. p.ports_fit) (λ m. cells_from m >>= banks_from) h q e

    module _ (h : Reserves (PortsIn ports.words.now ports.at n r) r (ports_from (map_in r)) (Ok tt) r₁) {r₂ : Reserver} where
      pub cells_err : (x : Refusal) → Reserves (CellsIn b.cells.words.now b.cells.at b.n r₁) r₁ (cells_from (map_in r₁)) (Err x) r₂ → (q : Result (Unit {0}) Refusal) → IsErrAnd q (λ y. y ≡ x) → Reserves Fit r whole q r₂
      cells_err x g q e = reserves_then (λ limits room p. p.ports_fit) (λ m. cells_from m >>= banks_from) h (λ limits room p. p) (reserves_err {P = Fit} (λ limits room p. p.cells_fit) banks_from g q e)

      pub banks_last : Reserves (CellsIn b.cells.words.now b.cells.at b.n r₁) r₁ (cells_from (map_in r₁)) (Ok tt) r₂ → {q : Result (Unit {0}) Refusal} {r₃ : Reserver} → Reserves (BanksFit b) r₂ (banks_from (map_in r₂)) q r₃ → Reserves Fit r whole q r₃
      banks_last g k = reserves_then (λ limits room p. p.ports_fit) (λ m. cells_from m >>= banks_from) h (λ limits room p. p) (reserves_then {P = Fit} (λ limits room p. p.cells_fit) banks_from g (λ limits room p. banks_fit limits p) k)

  pub reserved : {q : Result (Unit {0}) Refusal} {r' : Reserver} → Reserves Fit r whole q r' → ReservesNetlist r.recorder.now r.wires.now r.places.now ports n b q r'.recorder.now r'.wires.now r'.places.now
  unfolding reserve_netlist
  reserved {q} {r'} h = record {
    same = h.same.lists;
    so = λ limits p u.
        writes_as (ap (λ (m : Wires). ports_from m >>= λ k. cells_from k >>= banks_from) (sym u.none_yet))
        (h.so limits (record { wires_long = omega (arith, p.within.wires, u.wires_long); places_long = omega (arith, p.within.wires, u.places_long); narrow = omega (arith, p.within.width) }) p);
  }

-- ALL CELLS, with a table of zeros

zeros_low : (k n w : ℕ) → get_or (take k (replicate {A = ℕ} n 0)) w 0 ≡ 0
zeros_low zero n w = refl
zeros_low (suc k) zero w = refl
zeros_low (suc k) (suc n) zero = refl
zeros_low (suc k) (suc n) (suc w) = zeros_low k n w

pub shared_cells : {e : Emitter} {works : Works} {words : List ℕ} {at n : ℕ} {r : End (Unit {0})} {e' : Emitter} (k end shared : ℕ) → k ≡ 16384 → end ≡ min k shared → e.seen.now ≡ take end (replicate {A = ℕ} k 0)
    → EmitsCells e works words at n r e' → EmitsAll e.recorder.now works e.map words at n shared r e'.recorder.now
shared_cells {e} {works} {words} {at} {n} {r} {e'} k end shared is cut table h = record {
  same = h.same.lists;
  so = λ few limits p.
      let all : length (replicate {A = ℕ} k 0) ≡ k = length-replicate k 0 in
      let long : length (take end (replicate {A = ℕ} k 0)) ≡ end = length-take-le end (replicate k 0) (omega arith) in
      let same : length e.seen.now ≡ shared = omega (arith, ap length table) in
      let old : Old e = λ w. omega (arith, ap (λ (l : List ℕ). get_or l w 0) table, zeros_low end k w) in
      subst (λ (i : ℕ). Writes e.recorder.now (emit_cells i (wires_in e.map) e.map.constants 0 (cells_at words at n)) r e'.recorder.now) same (h.so limits p old);
}

-- ALL THAT IS EMITTED

module _ (works : Works) (wires places : List ℕ) (ports : Fields) (n : ℕ) (b : Banks) (shared : ℕ) where
  abbrev Fits : Limits → Type 0
  Fits limits = Ordered limits ports n b

  abbrev m : Wires
  m = wires_of wires places

  abbrev after_banks : Writer (Unit {0})
  after_banks = emit_outputs m 0 (ports_at ports.words.now ports.at n)

  abbrev after_cells : Constants → Writer (Unit {0})
  after_cells z = emit_banks m z (collect_flip_flop_banks (cells_at b.cells.words.now b.cells.at b.n)) >>= λ u. after_banks

  abbrev after_start : Constants → Writer (Unit {0})
  after_start z = emit_cells shared m z 0 (cells_at b.cells.words.now b.cells.at b.n) >>= λ u. after_cells z

  module _ {r : Recorder} where
    pub constants_err : {r₁ : Recorder} (x : Refusal) → Writes r emit_constants (no (number_of x) (place_of x)) r₁ → {C : Type 0} (g : C → Unit {0}) (q : Result C Refusal) → IsErrAnd q (λ y. y ≡ x) → EmitsNetlist r works wires places ports n b shared (ended g q) r₁
    unfolding emit_netlist
    constants_err x h g q e = record { same = h.same; so = λ few limits p a c. writes_err h after_start g q x refl e }

    module _ {z : Constants} {r₁ : Recorder} (first : Writes r emit_constants (ok z) r₁) {map : WireMap} (is : wires_in map ≡ m) (of_z : map.constants ≡ z) where
      module _ {e : End (Unit {0})} {r₂ : Recorder} (cells : EmitsAll r₁ works map b.cells.words.now b.cells.at b.n shared e r₂) where
        wrote_cells : shared ≤ 16384 → (limits : Limits) → Fits limits → Work works.parts.now → Work works.values.now → Writes r₁ (emit_cells shared m z 0 (cells_at b.cells.words.now b.cells.at b.n)) e r₂
        wrote_cells few limits p a c = writes_as (λ i. emit_cells shared (sym is i) (sym of_z i) 0 (cells_at b.cells.words.now b.cells.at b.n)) (cells.so few limits (a, c, p.cells_fit))

      pub cells_refused : (x : Refusal) {r₂ : Recorder} → EmitsAll r₁ works map b.cells.words.now b.cells.at b.n shared (no (number_of x) (place_of x)) r₂ → {C : Type 0} (g : C → Unit {0}) (q : Result C Refusal) → IsErrAnd q (λ y. y ≡ x) → EmitsNetlist r works wires places ports n b shared (ended g q) r₂
      unfolding emit_netlist
      cells_refused x h g q e = record { same = same_lists first.same h.same; so = λ few limits p a c. writes_then first after_start refl (writes_err (wrote_cells h few limits p a c) (λ u. after_cells z) g q x refl e) }

      module _ {r₂ : Recorder} (cells : EmitsAll r₁ works map b.cells.words.now b.cells.at b.n shared (ok tt) r₂) {parts : List ℕ} (kept : length parts ≡ length works.parts.now) where
        wrote_banks : {e : End (Unit {0})} {r₃ : Recorder} → EmitsBanks r₂ parts map b e r₃ → (limits : Limits) → Fits limits → Work works.parts.now → Writes r₂ (emit_banks m z (collect_flip_flop_banks (cells_at b.cells.words.now b.cells.at b.n))) e r₃
        wrote_banks h limits p a =
            writes_as ((λ i. emit_banks (sym is i) (sym of_z i) (collect_flip_flop_banks (cells_at b.cells.words.now b.cells.at b.n))) ∙ sym (roomy_yes b.n parts (emit_banks (wires_in map) map.constants (collect_flip_flop_banks (cells_at b.cells.words.now b.cells.at b.n))) (omega (arith, p.few, a, kept)))) (h.so p.noted)

        pub banks_refused : (x : Refusal) {r₃ : Recorder} → EmitsBanks r₂ parts map b (no (number_of x) (place_of x)) r₃ → {C : Type 0} (g : C → Unit {0}) (q : Result C Refusal) → IsErrAnd q (λ y. y ≡ x) → EmitsNetlist r works wires places ports n b shared (ended g q) r₃
        unfolding emit_netlist
        banks_refused x h g q e = record {
          same = same_lists first.same (same_lists cells.same h.same);
          so = λ few limits p a c. writes_then first after_start refl (writes_then (wrote_cells cells few limits p a c) (λ u. after_cells z) refl (writes_err (wrote_banks h limits p a) (λ u. after_banks) g q x refl e));
        }

        pub outputs_last : {r₃ : Recorder} → EmitsBanks r₂ parts map b (ok tt) r₃ → (parts' : List ℕ) → length parts' ≡ length parts → {e : End (Unit {0})} {r₄ : Recorder} → EmitsPorts r₃ parts' (wires_in map) ports.words.now ports.at n e r₄ → EmitsNetlist r works wires places ports n b shared e r₄
        unfolding emit_netlist
        outputs_last h parts' k g = record {
          same = same_lists first.same (same_lists cells.same (same_lists h.same g.same));
          so = λ few limits p a c.
              writes_then first after_start refl
              (writes_then (wrote_cells cells few limits p a c) (λ u. after_cells z) refl
              (writes_then (wrote_banks h limits p a) (λ u. after_banks) refl
              (writes_as (λ i. emit_outputs (sym is i) 0 (ports_at ports.words.now ports.at n)) (g.so limits (omega (arith, p.within.width, a, kept, k), p.ports_fit)))));
        }

-- THE WHOLE

module _ (r : Recorder) (wires places : List ℕ) (works : Works) (ports : Fields) (n : ℕ) (b : Banks) (shared : ℕ) where
  abbrev emitted_from : Wires → Writer (Unit {0})
  emitted_from m = emit_netlist shared (netlist_of ports n b) m

  pub reserve_refused : (x : Refusal) {r₁ : Recorder} {wires₁ places₁ : List ℕ} → ReservesNetlist r wires places ports n b (Err x) r₁ wires₁ places₁ → (q : Result Tapes Refusal) → IsErrAnd q (λ y. y ≡ x) → RecordsParts r wires places works ports n b shared q r₁
  unfolding lower_netlist
  reserve_refused x {r₁} h q e =
      let p = err_from_is_err_and q e in
      subst (λ (y : Result Tapes Refusal). RecordsParts r wires places works ports n b shared y r₁) (sym (p.1 ∙ ap Err p.2)) (record { same = h.same; so = λ few limits o u a c. (writes_stop (h.so limits o u) emitted_from refl).wrote })

  module _ {r₁ : Recorder} {wires₁ places₁ : List ℕ} (h : ReservesNetlist r wires places ports n b (Ok tt) r₁ wires₁ places₁) where
    wrote_both : {e : End (Unit {0})} {r₂ : Recorder} → EmitsNetlist r₁ works wires₁ places₁ ports n b shared e r₂ → shared ≤ 16384 → (limits : Limits) → Ordered limits ports n b → Unmapped wires places → Work works.parts.now → Work works.values.now
        → Writes r (lower_netlist shared (netlist_of ports n b)) e r₂
    unfolding lower_netlist emit_netlist
    wrote_both g few limits o u a c = writes_then (h.so limits o u) emitted_from refl (g.so few limits o a c)

    pub emit_refused : (x : Refusal) {r₂ : Recorder} → EmitsNetlist r₁ works wires₁ places₁ ports n b shared (no (number_of x) (place_of x)) r₂ → (q : Result Tapes Refusal) → IsErrAnd q (λ y. y ≡ x) → RecordsParts r wires places works ports n b shared q r₂
    emit_refused x {r₂} g q e =
        let p = err_from_is_err_and q e in
        subst (λ (y : Result Tapes Refusal). RecordsParts r wires places works ports n b shared y r₂) (sym (p.1 ∙ ap Err p.2)) (record { same = same_lists h.same g.same; so = λ few limits o u a c. (wrote_both g few limits o u a c).wrote })

    pub recorded_all : {r₂ : Recorder} → EmitsNetlist r₁ works wires₁ places₁ ports n b shared (ok tt) r₂ → {t : Tapes} → t ≡ tapes_in r₂ → RecordsParts r wires places works ports n b shared (Ok t) r₂
    recorded_all {r₂} g {t} is = subst (λ (v : Tapes). RecordsParts r wires places works ports n b shared (Ok v) r₂) (sym is) (record { same = same_lists h.same g.same; so = λ few limits o u a c. (wrote_both g few limits o u a c).wrote })

-- the words of a checked netlist, whose banks are collected
module _ (words numbers : Bor (List ℕ)) (l : Layout) (count : ℕ) where
  abbrev the_ports : Fields
  the_ports = record { words = words; at = 0 }

  abbrev the_banks : Banks
  the_banks = record { cells = record { words = words; at = l.start }; n = l.cells; numbers = numbers; count = count }

  pub recorded_netlist : (r : Recorder) (wires places parts values banks : List ℕ) (works : Works) (shared : ℕ) {q : Result Tapes Refusal} {r' : Recorder} → tapes_in r ≡ start → Collects words.now l.start l.cells banks parts values count numbers.now
      → length works.parts.now ≡ length parts → length works.values.now ≡ length values → RecordsParts r wires places works the_ports l.ports the_banks shared q r'
      → RecordsNetlist (lists_in r) wires places parts values banks words.now l shared q (lists_in r')
  recorded_netlist r wires places parts values banks works shared {q} {r'} begun noting lp lv h = record {
    so = λ few limits c u room.
        let noted = noting limits (omega (arith, c.within.wires)) c.cells (record { numbers = omega (arith, c.few, room.banks_long); clocks = omega (arith, c.few, room.parts_long); resets = omega (arith, c.few, room.values_long) }) in
        subst (λ (t : Tapes). Wrote (lists_in r) t (lower_netlist shared (netlist_by words.now l)) (recorded q) (lists_in r')) begun
        (h.so few limits (record { within = c.within; ports_fit = c.ports; cells_fit = c.cells; few = c.few; noted = noted }) u (omega (arith, lp, room.parts_long)) (omega (arith, lv, room.values_long)));
  }

-- the lists by other names
pub by_lists : {l₀ : Lists} {wires places parts values banks words : List ℕ} {l : Layout} {shared : ℕ} {q : Result Tapes Refusal} {l₁ l₂ : Lists} → RecordsNetlist l₀ wires places parts values banks words l shared q l₁ → l₂.signals ≡ l₁.signals → l₂.exprs ≡ l₁.exprs → l₂.stmts ≡ l₁.stmts
    → RecordsNetlist l₀ wires places parts values banks words l shared q l₂
by_lists {l₀} {wires} {places} {parts} {values} {banks} {words} {l} {shared} {q} h s e t = subst (λ (k : Lists). RecordsNetlist l₀ wires places parts values banks words l shared q k) (λ i. sym (λ j. record { signals = s j; exprs = e j; stmts = t j }) i) h
