-- A checked netlist's records, judged, are what the definition says. Assumes nothing.
use Prim.Native.Nat.{ℕ, zero, suc}
use mathlib.Core.Path.{◌≡◌, refl, sym, ◌∙◌, ap, ap₂, subst, fun_ext}
use mathlib.Core.List.{List}
use Rattle.std.specs.Prelude.{Option, None, Some, Result, Ok, Err, IsErrAnd}
use Rattle.std.proofs.lemmas.Result.{err_from_is_err_and}
use native.Mathlib.Omega.{arith}
use lib.ListN.{length, get_or, replicate}
use Rattle.refusal.specs.declared.Refusal as x
use Rattle.netlist.specs.declared.Limits.{Limits}
use Rattle.netlist.specs.declared.Layout.{Layout}
use Rattle.netlist.specs.Netlist.{Netlist}
use Rattle.netlist.specs.Reader.{Read, netlist, read_words}
use Rattle.netlist.specs.Fields.{layout_of, netlist_at}
use Rattle.reader.specs.Checks.{Checks}
use Rattle.netlist.proofs.FieldLaws.{laid, port_placed, cell_placed}
use Rattle.recorder.specs.declared.Tapes.{Tapes}
use Rattle.converter.specs.declared.Buffers.{Buffers}
use Rattle.recorder.specs.Record.{Model, signal_words, stmt_words}
use Rattle.recorder.specs.Writer.{model_of, Out}
use Rattle.recorder.specs.Lists.{Lists, lists, Answer, Answer.Done, Left, Wrote}
use Rattle.recorder.specs.Words.{list_words, holding, holding_all, blank}
use Rattle.recorder.specs.Outcome.{none_yet, Ended, done, refused as turned, filled}
use Rattle.recorder.proofs.Outcomes.{wrote_ended}
use Rattle.wires.specs.Wires.{entry, no_wires, wires_of}
use Rattle.lowering.specs.Lower.{start, Lowered, overdriven_from, judged, ended, lower_netlist, lowered, lowered_read}
use Rattle.converter.specs.Steps.{Within, netlist_by, Checked, Unmapped, recorded as recorded_of, RecordsNetlist}
use Rattle.converter.specs.Entry.{answer_of, kept, Ready, Attempts, AnswersTo}

-- THE TABLES

zeros_at : (n i : ℕ) → get_or (replicate {A = ℕ} n 0) i 0 ≡ 0
zeros_at zero i = refl
zeros_at (suc n) zero = refl
zeros_at (suc n) (suc i) = zeros_at n i

no_wires_lem : (n m : ℕ) → wires_of (replicate n 0) (replicate m 0) ≡ no_wires
unfolding wires_of
no_wires_lem n m = fun_ext (λ w. ap (λ (s : ℕ). entry s (get_or (replicate m 0) w 0)) (zeros_at n w))

unmapped : {b : Buffers} → Ready b → Unmapped b.wires.now b.places.now
unmapped {b} h = record { wires_long = h.wires_long; places_long = h.places_long; none_yet = ap₂ wires_of h.no_signals h.no_places ∙ no_wires_lem (length b.wires.now) (length b.places.now) }

-- A CHECKED NETLIST

module _ (limits : Limits) (words : List ℕ) (n : Netlist) (read : read_words limits words ≡ netlist n) (w : Within limits) where
  checked : Checked limits words (layout_of words)
  checked =
      let h = laid limits words n read in
      record {
        within = w;
        ports = record { fit = λ k q. (port_placed limits words n read k q).fits; inside = λ k q. omega (arith, (port_placed limits words n read k q).inside, h.trailer, h.start) };
        cells = record { fit = λ k q. (cell_placed limits words n read k q).fits; inside = λ k q. omega (arith, (cell_placed limits words n read k q).inside, h.trailer) };
        few = omega (arith, h.cells, w.cells);
      }

by_layout : (words : List ℕ) → netlist_by words (layout_of words) ≡ netlist_at words
unfolding netlist_at
by_layout words = refl

-- HOW IT ENDS

module _ (shared : ℕ) (n : Netlist) (s e t : ℕ) where
  abbrev model : Model
  model = model_of (lower_netlist shared n none_yet).events

  abbrev conflict : Option ℕ
  conflict = overdriven_from 0 model.signals model.stmts

  lowered_as : {a : Answer (Unit {0})} {l : Lists} → Wrote (blank s e t) start (lower_netlist shared n) a l → lowered shared n s e t ≡ ended a conflict l (blank s e t)
  unfolding lowered
  lowered_as h = ap (λ (x : Left (Unit {0})). ended x.answer conflict x.lists (blank s e t)) h.wrote

  -- a model lies in the lists
  held : {o : Out (Unit {0})} {a : Answer (Unit {0})} {l : Lists} → Ended s e t o a l → {x : Unit {0}} {u : Tapes} → a ≡ Done x u → l ≡ holding_all s e t (model_of o.events)
  held (done f q) d = refl
  held (turned f q) d = refl
  held (filled f) d = let z : ◌≡◌ {A = ℕ} 0 1 = cc in absurd (omega arith)

finish : (o : Option ℕ) (u : Tapes) (a : Lowered) (l l' z : Lists) → a ≡ (judged o u l l).answer → l' ≡ l → record { answer = a; lists = kept a l' z } ≡ judged o u l z
finish None u a l l' z p e = λ i. record { answer = p i; lists = kept (p i) (e i) z }
finish (Some s) u a l l' z p e = λ i. record { answer = p i; lists = kept (p i) (e i) z }

-- THE ATTEMPT

module _ (limits : Limits) (words : List ℕ) (l : Lists) (b : Buffers) where
  -- the words are refused
  pub attempt_refused : (w : x.Refusal) {l' : Lists} → Checks limits words (Err w) → (q : Result Tapes x.Refusal) → IsErrAnd q (λ y. y ≡ w) → Attempts limits words l b q l'
  attempt_refused w {l'} read q e =
      let p = err_from_is_err_and q e in
      subst (λ (y : Result Tapes x.Refusal). Attempts limits words l b y l') (sym (p.1 ∙ ap Err p.2)) (record { value = λ h g s e t from. sym (ap (λ (y : Read). lowered_read limits.wires y s e t) read) })

  module _ {layout : Layout} (read : read_words limits words ≡ netlist (netlist_at words)) (is : layout ≡ layout_of words) {p : Result Tapes x.Refusal} {l₁ : Lists}
      (recorded : RecordsNetlist l b.wires.now b.places.now b.parts.now b.values.now b.banks.now words layout limits.wires p l₁) {q : Result Tapes x.Refusal} {s' : List ℕ}
      (answer : AnswersTo l₁.signals l₁.stmts p q s') (s e t : ℕ) (from : l ≡ blank s e t) (h : Within limits) (g : Ready b) where
    wrote : Wrote (blank s e t) start (lower_netlist limits.wires (netlist_at words)) (recorded_of p) l₁
    wrote =
        let k : Checked limits words layout = subst (Checked limits words) (sym is) (checked limits words (netlist_at words) read h) in
        let w = recorded.so h.wires limits k (unmapped g) (record { parts_long = g.parts_long; values_long = g.values_long; banks_long = g.banks_long }) in
        let n : netlist_by words layout ≡ netlist_at words = ap (netlist_by words) is ∙ by_layout words in
        subst (λ (y : Lists). Wrote y start (lower_netlist limits.wires (netlist_at words)) (recorded_of p) l₁) from (subst (λ (y : Netlist). Wrote l start (lower_netlist limits.wires y) (recorded_of p) l₁) n w)

    by_end : (y : Result Tapes x.Refusal) → p ≡ y → record { answer = answer_of q; lists = kept (answer_of q) (lists s' l₁.exprs l₁.stmts) (blank s e t) } ≡ lowered limits.wires (netlist_at words) s e t
    by_end (Err w) d =
        (λ i. record { answer = answer.refused w d i; lists = kept (answer.refused w d i) (lists s' l₁.exprs l₁.stmts) (blank s e t) })
        ∙ sym (lowered_as limits.wires (netlist_at words) s e t (subst (λ (y : Result Tapes x.Refusal). Wrote (blank s e t) start (lower_netlist limits.wires (netlist_at words)) (recorded_of y) l₁) d wrote))
    by_end (Ok u) d =
        let m = model limits.wires (netlist_at words) s e t in
        let lies : l₁ ≡ holding_all s e t m = held limits.wires (netlist_at words) s e t (wrote_ended s e t (lower_netlist limits.wires (netlist_at words)) wrote) (ap recorded_of d) in
        let hs : l₁.signals ≡ holding s (list_words signal_words m.signals) = ap (λ (y : Lists). y.signals) lies in
        let ht : l₁.stmts ≡ holding t (list_words stmt_words m.stmts) = ap (λ (y : Lists). y.stmts) lies in
        let back : lists s' l₁.exprs l₁.stmts ≡ l₁ = ap (λ (y : List ℕ). lists y l₁.exprs l₁.stmts) (answer.same u d s t m.signals m.stmts hs ht) in
        finish (conflict limits.wires (netlist_at words) s e t) u (answer_of q) l₁ (lists s' l₁.exprs l₁.stmts) (blank s e t) (answer.recorded u d s t m.signals m.stmts hs ht l₁) back
        ∙ sym (lowered_as limits.wires (netlist_at words) s e t (subst (λ (y : Result Tapes x.Refusal). Wrote (blank s e t) start (lower_netlist limits.wires (netlist_at words)) (recorded_of y) l₁) d wrote))

  pub attempt_done : {layout : Layout} → read_words limits words ≡ netlist (netlist_at words) → layout ≡ layout_of words → {p : Result Tapes x.Refusal} {l₁ : Lists} → RecordsNetlist l b.wires.now b.places.now b.parts.now b.values.now b.banks.now words layout limits.wires p l₁
      → {q : Result Tapes x.Refusal} {s' : List ℕ} → AnswersTo l₁.signals l₁.stmts p q s' → Attempts limits words l b q (lists s' l₁.exprs l₁.stmts)
  attempt_done read is {p} recorded answer = record {
    value = λ h g s e t from. by_end read is recorded answer s e t from h g p refl ∙ sym (ap (λ (y : Read). lowered_read limits.wires y s e t) read);
  }
