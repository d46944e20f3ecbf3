-- What a signal that was declared is: numbered below 2,147,483,648.
use mathlib.Core.Path.{◌≡◌, refl, ap}
use mathlib.Core.Bool.{Bool, true, false, ◌&&◌}
use Prim.Native.Nat.{ℕ, ◌+◌, ◌<◌, min}
use native.Mathlib.Omega.{arith}
use lib.Dec.{leb}
use lib.ListN.{length}
use borrow.Author.Tests.{leb-true}
use Rattle.bits.specs.Bits.{pick}
use Rattle.recorder.specs.declared.Tapes.{Tapes}
use Rattle.recorder.specs.Record.{Signal, signal_words}
use Rattle.recorder.specs.Writer.{declare}
use Rattle.recorder.specs.declared.Recorder.{Recorder}
use Rattle.recorder.specs.Calls.{Writes, lists_in, tapes_in}
use Rattle.recorder.specs.Lists.{Lists, fits, lists, tapes, behind, over, play, onward, Played.going, Played.full, finish, Left, Answer.Done, Answer.Failed, Wrote}
use Rattle.recorder.specs.Writer.{End.ok}

both : (a b : Bool) → a && b ≡ true → (a ≡ true) × (b ≡ true)
both true true h = (refl, refl)
both true false h = (refl, h)
both false b h = let z : ◌≡◌ {A = ℕ} 0 1 = cc in absurd (omega arith)

wrote_small : (l : Lists) (t : Tapes) (x : Signal) (n : ℕ) (u : Tapes) (l' : Lists) → Wrote l t (declare x) (Done n u) l' → n < 2147483648
unfolding play
wrote_small l t x n u l' h = go (fits (length l.signals) t.signals (length (signal_words x))) refl h.wrote
  where
    room : fits (length l.signals) t.signals (length (signal_words x)) ≡ true → t.signals.count < 2147483648
    room q = inside (both (leb t.signals.count t.signals.used) (leb (t.signals.used + 4) (min (length l.signals) 2147483648)) (opened q))
      where
        opened : fits (length l.signals) t.signals (length (signal_words x)) ≡ true → leb t.signals.count t.signals.used && leb (t.signals.used + 4) (min (length l.signals) 2147483648) ≡ true
        opened e = unfold fits in e

        inside : (leb t.signals.count t.signals.used ≡ true) × (leb (t.signals.used + 4) (min (length l.signals) 2147483648) ≡ true) → t.signals.count < 2147483648
        inside p = omega (arith, leb-true t.signals.count t.signals.used p.0, leb-true (t.signals.used + 4) (min (length l.signals) 2147483648) p.1)

    go : (b : Bool) → fits (length l.signals) t.signals (length (signal_words x)) ≡ b
        → ◌≡◌ {A = Left ℕ} (finish (onward (pick b (going (lists (over l.signals t.signals.used (signal_words x)) l.exprs l.stmts) (tapes (behind t.signals (length (signal_words x))) t.exprs t.stmts)) (full 0 l)) (λ k v. going k v)) (ok t.signals.count)) (record { answer = Done n u; lists = l' })
        → n < 2147483648
    go true q e =
        let f : Done t.signals.count (tapes (behind t.signals (length (signal_words x))) t.exprs t.stmts) ≡ Done n u = ap (λ (y : Left ℕ). y.answer) e in
        let z : t.signals.count ≡ n = cc in
        omega (arith, room q)
    go false q e =
        let f : Failed 2 0 ≡ Done n u = ap (λ (y : Left ℕ). y.answer) e in
        let z : ◌≡◌ {A = ℕ} 0 1 = cc in
        absurd (omega arith)

pub declared_small : {r : Recorder} {x : Signal} {s : ℕ} {r' : Recorder} → Writes r (declare x) (ok s) r' → s < 2147483648
declared_small {r} {x} {s} {r'} h = wrote_small (lists_in r) (tapes_in r) x s (tapes_in r') (lists_in r') h.wrote
