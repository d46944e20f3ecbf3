-- Laws of a RAM's words: their numbers, and the loops that make them and go over them.
use mathlib.Core.Path.{◌≡◌, refl, ap, ap₂, sym, ◌∙◌, subst}
use Rattle.std.specs.Prelude.{Bool, true, false, ◌&&◌, List, [], ◌∷◌, ◌++◌, ℕ, zero, suc, ◌+◌, ◌-◌, ◌*◌, ◌≤◌, ◌<◌, min, leb, length, map, Option, None, Some, Result, IsErrAnd}
use Rattle.std.proofs.Common.{arith, take}
use Rattle.std.proofs.Math.ListN.{set}
use Rattle.std.proofs.Math.Nat.{suc-mul}
use native.Mathlib.Nat.{add-zero, not-suc-le-zero, le_of_suc-le-suc}
use native.Mathlib.Numerals.{add-one}
use borrow.Author.Tests.{leb-true}
use Rattle.bits.specs.Bits.{pick}
use Rattle.refusal.specs.declared.Refusal.{Refusal}
use Rattle.refusal.specs.Refusal.{number_of, place_of}
use Rattle.recorder.specs.declared.Tape.{Tape}
use Rattle.recorder.specs.declared.Tapes.{Tapes}
use Rattle.recorder.specs.declared.Recorder.{Recorder}
use Rattle.recorder.specs.Record.{Signal, Expr, signal_words, expr_words, Expr.and, Expr.mux, Stmt.reg}
use Rattle.recorder.specs.Writer.{Event, Event.signal, Event.expr, Event.stmt, Count, further, End.ok, End.no, Writer, pure, emit, state, ◌>>=◌}
use Rattle.recorder.specs.Lists.{fits, Lists, count_of, Played.going, Played.full, list_of, has_room, laid, advanced, put, onward, play}
use Rattle.recorder.specs.Calls.{lists_in, tapes_in, ended, Writes}
use Rattle.recorder.proofs.Calls.{wrote_went, writes_value, writes_pure, Underway, underway_start, underway_step, underway_end}
use Rattle.recorder.proofs.Events.{bind_assoc}
use Rattle.address_mux.specs.declared.AddressMuxNode.{AddressMuxNode}
use Rattle.address_mux.specs.Address.{match_address}
use Rattle.address_mux.specs.AddressMux.{Node}
use Rattle.address_mux.specs.Candidates.{node_of}
use Rattle.address_mux.proofs.Binds.{bind_two, underway_err}
use Rattle.memories.specs.declared.Port.{Port}
use Rattle.memories.specs.declared.Words.{Words}
use Rattle.memories.specs.Memories.{Word, PortExprs, write_word, ram_word, ram_words, candidates_from, update_words, dram_words, dram_select}
use Rattle.memories.specs.Rams.{second_in, last_of, words_from, words_of, nth_word, Small}
use Rattle.memories.specs.Steps.{dram_word, select_one}

-- NUMBERS STAY SMALL: a list has at most 2,147,483,648 words, and no more records than words

both : (a b : Bool) → (a && b) ≡ true → (a ≡ true) × (b ≡ true)
both true b e = (refl, e)
both false b e = let z : ◌≡◌ {A = ℕ} 0 1 = cc in absurd (omega arith)

fits_small : (len : ℕ) (t : Tape) (n : ℕ) → 1 ≤ n → fits len t n ≡ true → t.count + 1 ≤ 2147483648
unfolding fits
fits_small len t n h e =
    let x = both (leb t.count t.used) (leb (t.used + n) (min len 2147483648)) e in
    let p = leb-true t.count t.used x.0 in
    let q = leb-true (t.used + n) (min len 2147483648) x.1 in
    omega arith

small_more : (l : Lists) (t : Tapes) (e : Event) → has_room l t e ≡ true → Small t → Small (advanced t e)
small_more l t (signal x) h s = record { signals = fits_small (length l.signals) t.signals (length (signal_words x)) (omega arith) h; exprs = s.exprs }
small_more l t (expr x) h s = record { signals = s.signals; exprs = fits_small (length l.exprs) t.exprs (length (expr_words x)) (some x) h }
  where
    some : (x : Expr) → 1 ≤ length (expr_words x)
    some (Expr.const a b) = omega arith
    some (Expr.read a b d) = omega arith
    some (Expr.concat a b) = omega arith
    some (Expr.not a) = omega arith
    some (Expr.and a b) = omega arith
    some (Expr.or a b) = omega arith
    some (Expr.xor a b) = omega arith
    some (Expr.mux a b d f) = omega arith
    some (Expr.eq a b) = omega arith
    some (Expr.mul a b) = omega arith
small_more l t (stmt x) h s = record { signals = s.signals; exprs = s.exprs }

small_kept : (es : List Event) (l : Lists) (t : Tapes) {l' : Lists} {u : Tapes} → play l t es ≡ going l' u → Small t → Small u
unfolding play
small_kept [] l t {l'} {u} q s = let e : t ≡ u = cc in subst (λ (x : Tapes). Small x) e s
small_kept (e ∷ es) l t {l'} {u} q s = go (has_room l t e) refl (λ h k. small_kept es (laid l t e) (advanced t e) h k) q
  where
    go : (b : Bool) → has_room l t e ≡ b → (play (laid l t e) (advanced t e) es ≡ going l' u → Small (advanced t e) → Small u)
        → onward (pick b (going (laid l t e) (advanced t e)) (full (list_of e) l)) (λ k v. play k v es) ≡ going l' u → Small u
    go true r f h = f h (small_more l t e r s)
    go false r f h = let z : ◌≡◌ {A = ℕ} 0 1 = cc in absurd (omega arith)

-- a signal and then a read of it
small_word : (x : Signal) (w s b : ℕ) (es : List Event) (l : Lists) (t : Tapes) {l' : Lists} {u : Tapes} → play l t (signal x ∷ expr (Expr.read w s b) ∷ es) ≡ going l' u → Small u
unfolding play
small_word x w s b es l t {l'} {u} q = first (has_room l t (signal x)) refl q
  where
    y : Event
    y = expr (Expr.read w s b)

    l₁ : Lists
    l₁ = laid l t (signal x)

    t₁ : Tapes
    t₁ = advanced t (signal x)

    second : (b : Bool) → has_room l t (signal x) ≡ true → has_room l₁ t₁ y ≡ b
        → onward (pick b (going (laid l₁ t₁ y) (advanced t₁ y)) (full (list_of y) l₁)) (λ k v. play k v es) ≡ going l' u → Small u
    second true r r₂ h = small_kept es (laid l₁ t₁ y) (advanced t₁ y) h (record {
      signals = fits_small (length l.signals) t.signals (length (signal_words x)) (omega arith) r;
      exprs = fits_small (length l.exprs) t.exprs (length (expr_words (Expr.read w s b))) (omega arith) r₂;
    })
    second false r r₂ h = let z : ◌≡◌ {A = ℕ} 0 1 = cc in absurd (omega arith)

    first : (b : Bool) → has_room l t (signal x) ≡ b
        → onward (pick b (going l₁ t₁) (full 0 l)) (λ k v. onward (put k v y) (λ k' v'. play k' v' es)) ≡ going l' u → Small u
    first true r h = second (has_room l₁ t₁ y) r refl h
    first false r h = let z : ◌≡◌ {A = ℕ} 0 1 = cc in absurd (omega arith)

-- ONE WORD

pub write_word_lem : (p : PortExprs) (width aw index now : ℕ)
    → write_word p width aw index now ≡ (match_address p.write_address aw index >>= λ e. emit (and p.write_asserted e) >>= λ y. emit (mux width y p.write_data now))
unfolding write_word match_address
write_word_lem p width aw index now = sym (bind_assoc _ _ _)

-- the word made when so many signals and expressions are there
abbrev pub word_at : ℕ → ℕ → ℕ → Word
word_at s q last = record { signal = s; current = q; next = q + last }

-- a word was made: its numbers, and those that are next
pub record Made (s q last : ℕ) (w : Word) (u : Tapes) : Type 0 where
  pub word : w ≡ word_at s q last
  pub signals : u.signals.count ≡ s + 1
  pub exprs : u.exprs.count ≡ q + (last + 1)
  pub small : Small u

pub made_as : {s q k k' : ℕ} {w : Word} {u : Tapes} → k' ≡ k → Made s q k w u → Made s q k' w u
made_as {s} {q} {w = w} {u = u} e h = subst (λ (x : ℕ). Made s q x w u) (sym e) h

module _ (a : PortExprs) (b : Option Port) (owner width aw index : ℕ) where
  word_end : (n : Count) → (ram_word a (second_in b) owner width aw index n).end ≡ ok (word_at n.signals n.exprs (last_of b))
  unfolding ram_word write_word ◌>>=◌
  word_end n = go b
    where
      go : (b : Option Port) → (ram_word a (second_in b) owner width aw index n).end ≡ ok (word_at n.signals n.exprs (last_of b))
      go None =
          let p : n.exprs + 0 ≡ n.exprs = omega arith in
          let q : n.exprs + 0 + 1 + 1 + 1 + 1 ≡ n.exprs + 4 = omega arith in
          λ i. ok (record { signal = n.signals; current = p i; next = q i })
      go (Some b) =
          let p : n.exprs + 0 ≡ n.exprs = omega arith in
          let q : n.exprs + 0 + 1 + 4 + 1 + 1 + 1 ≡ n.exprs + 8 = omega arith in
          λ i. ok (record { signal = n.signals; current = p i; next = q i })

  word_count : (n : Count) → further n (ram_word a (second_in b) owner width aw index n).events ≡ record { signals = n.signals + 1; exprs = n.exprs + (last_of b + 1); stmts = n.stmts + 0 }
  unfolding ram_word write_word ◌>>=◌
  word_count n = go b
    where
      go : (b : Option Port) → further n (ram_word a (second_in b) owner width aw index n).events ≡ record { signals = n.signals + 1; exprs = n.exprs + (last_of b + 1); stmts = n.stmts + 0 }
      go None = refl
      go (Some b) = refl

  word_small : (l : Lists) (t : Tapes) {l' : Lists} {u : Tapes} → play l t (ram_word a (second_in b) owner width aw index (count_of t)).events ≡ going l' u → Small u
  unfolding ram_word write_word ◌>>=◌
  word_small l t {l'} {u} h = go b h
    where
      go : (b : Option Port) → play l t (ram_word a (second_in b) owner width aw index (count_of t)).events ≡ going l' u → Small u
      go None h = small_word _ _ _ _ _ l t h
      go (Some b) h = small_word _ _ _ _ _ l t h

  pub word_made : {r r' : Recorder} {w : Word} → Writes r (ram_word a (second_in b) owner width aw index) (ok w) r' → Made r.tapes.signals.count r.tapes.exprs.count (last_of b) w (tapes_in r')
  word_made {r} {r'} {w} h =
      let v = writes_value h in
      let e : ok w ≡ ok (word_at r.tapes.signals.count r.tapes.exprs.count (last_of b)) = sym v.0 ∙ word_end (count_of (tapes_in r)) in
      let c = v.1 ∙ word_count (count_of (tapes_in r)) in
      record {
        word = cc;
        signals = ap (λ (n : Count). n.signals) c;
        exprs = ap (λ (n : Count). n.exprs) c;
        small = word_small (lists_in r) (tapes_in r) (wrote_went h.wrote).1;
      }

-- of a distributed RAM, with its statement
module _ (p : PortExprs) (owner clock edge i : ℕ) where
  dram_end : (n : Count) → (dram_word p owner clock edge i n).end ≡ ok (word_at n.signals n.exprs 4)
  unfolding dram_word ram_word write_word ◌>>=◌
  dram_end n =
      let a : n.exprs + 0 ≡ n.exprs = omega arith in
      let b : n.exprs + 0 + 1 + 1 + 1 + 1 ≡ n.exprs + 4 = omega arith in
      λ i. ok (record { signal = n.signals; current = a i; next = b i })

  dram_count : (n : Count) → further n (dram_word p owner clock edge i n).events ≡ record { signals = n.signals + 1; exprs = n.exprs + 5; stmts = n.stmts + 1 }
  unfolding dram_word ram_word write_word ◌>>=◌
  dram_count n = refl

  dram_small : (l : Lists) (t : Tapes) {l' : Lists} {u : Tapes} → play l t (dram_word p owner clock edge i (count_of t)).events ≡ going l' u → Small u
  unfolding dram_word ram_word write_word ◌>>=◌
  dram_small l t h = small_word _ _ _ _ _ l t h

  pub dram_made : {r r' : Recorder} {w : Word} → Writes r (dram_word p owner clock edge i) (ok w) r' → Made r.tapes.signals.count r.tapes.exprs.count 4 w (tapes_in r')
  dram_made {r} {r'} {w} h =
      let v = writes_value h in
      let e : ok w ≡ ok (word_at r.tapes.signals.count r.tapes.exprs.count 4) = sym v.0 ∙ dram_end (count_of (tapes_in r)) in
      let c = v.1 ∙ dram_count (count_of (tapes_in r)) in
      record {
        word = cc;
        signals = ap (λ (n : Count). n.signals) c;
        exprs = ap (λ (n : Count). n.exprs) c;
        small = dram_small (lists_in r) (tapes_in r) (wrote_went h.wrote).1;
      }

-- WORDS BY THEIR NUMBERS

-- the read of the one at an index
abbrev pub read_at : ℕ → ℕ → ℕ → ℕ
read_at q last i = q + i * (last + 1)

read_first : (q last : ℕ) → read_at q last 0 ≡ q
read_first q last = omega arith

read_next : (q last i : ℕ) → read_at q last (i + 1) ≡ read_at q last i + (last + 1)
read_next q last i = let m : (i + 1) * (last + 1) ≡ i * (last + 1) + (last + 1) = ap (λ (k : ℕ). k * (last + 1)) (add-one i) ∙ suc-mul i (last + 1) in omega (arith, m)

read_over : (q last i : ℕ) → read_at (q + (last + 1)) last i ≡ read_at q last (suc i)
read_over q last i = let m = suc-mul i (last + 1) in omega (arith, m)

-- one more behind them
words_more : (s q last n : ℕ) → words_from s q last (n + 1) ≡ words_from s q last n ++ (word_at (s + n) (read_at q last n) last ∷ [])
unfolding words_from
words_more s q last n = ap (λ (k : ℕ). words_from s q last k) (add-one n) ∙ go s q n
  where
    go : (s q n : ℕ) → words_from s q last (suc n) ≡ words_from s q last n ++ (word_at (s + n) (read_at q last n) last ∷ [])
    go s q zero = ap₂ (λ (k j : ℕ). word_at k j last ∷ []) (sym (add-zero s)) (sym (read_first q last))
    go s q (suc n) =
        let e : s + 1 + n ≡ s + suc n = omega arith in
        ap (λ (l : List Word). word_at s q last ∷ l) (go (s + 1) (q + (last + 1)) n ∙ ap₂ (λ (k j : ℕ). words_from (s + 1) (q + (last + 1)) last n ++ (word_at k j last ∷ [])) e (read_over q last n))

-- those from an index on
abbrev pub rest : Words → ℕ → List Word
rest w i = words_from (w.signal.0 + i) (read_at w.current.0 w.last i) w.last (w.depth - i)

module _ (w : Words) where
  rest_all : words_of w ≡ rest w 0
  rest_all =
      let a : w.signal.0 ≡ w.signal.0 + 0 = omega arith in
      let b : w.depth ≡ w.depth - 0 = omega arith in
      λ i. words_from (a i) (sym (read_first w.current.0 w.last) i) w.last (b i)

  rest_more : (i : ℕ) → i < w.depth → rest w i ≡ nth_word w i ∷ rest w (i + 1)
  unfolding words_from
  rest_more i h =
      let e : w.depth - i ≡ suc (w.depth - (i + 1)) = omega arith in
      let a : w.signal.0 + i + 1 ≡ w.signal.0 + (i + 1) = omega arith in
      ap (λ (k : ℕ). words_from (w.signal.0 + i) (read_at w.current.0 w.last i) w.last k) e
      ∙ (λ j. nth_word w i ∷ words_from (a j) (sym (read_next w.current.0 w.last i) j) w.last (w.depth - (i + 1)))

  rest_none : (i : ℕ) → i ≡ w.depth → rest w i ≡ []
  unfolding words_from
  rest_none i h = let e : w.depth - i ≡ 0 = omega arith in ap (λ (k : ℕ). words_from (w.signal.0 + i) (read_at w.current.0 w.last i) w.last k) e

-- MAKING THEM

-- i of the words are made
pub record Making (last : ℕ) (whole : Writer (List Word)) (left : ℕ → List Word → Writer (List Word)) (r₀ r : Recorder) (i : ℕ) : Type 0 where
  pub does : Underway r₀ whole r (left i (words_from r₀.tapes.signals.count r₀.tapes.exprs.count last i))
  pub signals : r.tapes.signals.count ≡ r₀.tapes.signals.count + i
  pub exprs : r.tapes.exprs.count ≡ read_at r₀.tapes.exprs.count last i
  pub small : 1 ≤ i → Small (tapes_in r)

module _ {last : ℕ} {whole : Writer (List Word)} {left : ℕ → List Word → Writer (List Word)} {r₀ : Recorder} where
  pub making_start : whole ≡ left 0 [] → Making last whole left r₀ r₀ 0
  unfolding words_from
  making_start q = record {
    does = underway_start q;
    signals = omega arith;
    exprs = sym (read_first r₀.tapes.exprs.count last);
    small = λ h. absurd (omega arith);
  }

  module _ {r : Recorder} {i : ℕ} (doing : Making last whole left r₀ r i) where
    abbrev done : List Word
    done = words_from r₀.tapes.signals.count r₀.tapes.exprs.count last i

    module _ {one : Writer Word} (more : left i done ≡ (one >>= λ w. left (i + 1) (done ++ (w ∷ [])))) where
      pub making_step : {w : Word} {r₁ : Recorder} → Writes r one (ok w) r₁ → Made r.tapes.signals.count r.tapes.exprs.count last w (tapes_in r₁) → Making last whole left r₀ r₁ (i + 1)
      making_step {w} {r₁} h made =
          let ws : done ++ (w ∷ []) ≡ words_from r₀.tapes.signals.count r₀.tapes.exprs.count last (i + 1) =
          ap (λ (x : Word). done ++ (x ∷ [])) (made.word ∙ ap₂ (λ (x y : ℕ). word_at x y last) doing.signals doing.exprs)
          ∙ sym (words_more r₀.tapes.signals.count r₀.tapes.exprs.count last i) in
          record {
            does = subst (λ (l : List Word). Underway r₀ whole r₁ (left (i + 1) l)) ws (underway_step _ doing.does more h refl);
            signals = let p = made.signals in let q = doing.signals in omega arith;
            exprs = made.exprs ∙ ap (λ (k : ℕ). k + (last + 1)) doing.exprs ∙ sym (read_next r₀.tapes.exprs.count last i);
            small = λ g. made.small;
          }

      pub making_err : {C : Type 0} (f : C → List Word) (q : Result C Refusal) (x : Refusal) → IsErrAnd q (λ y. y ≡ x) → {r₁ : Recorder} → Writes r one (no (number_of x) (place_of x)) r₁ → Writes r₀ whole (ended f q) r₁
      making_err f q x e h = underway_err _ doing.does more f q x e h

    -- all n are made; the numbers of the first were read from the recorder
    module _ (n : ℕ) (z : i ≡ n) {t : Tapes} (q : t ≡ tapes_in r₀) where
      pub making_end : left i done ≡ pure done → Writes r₀ whole (ok (words_from t.signals.count t.exprs.count last n)) r
      making_end e =
          underway_end doing.does
          (e ∙ ap (λ (k : ℕ). pure (words_from r₀.tapes.signals.count r₀.tapes.exprs.count last k)) z ∙ ap (λ (u : Tapes). pure (words_from u.signals.count u.exprs.count last n)) (sym q))
          writes_pure

-- of a block RAM
module _ (a : PortExprs) (b : Option Port) (owner width aw depth : ℕ) where
  abbrev pub ram_left : ℕ → List Word → Writer (List Word)
  ram_left i ws = ram_words a (second_in b) owner width aw (depth - i) i ws

  pub ram_all : ram_words a (second_in b) owner width aw depth 0 [] ≡ ram_left 0 []
  ram_all = let z : depth ≡ depth - 0 = omega arith in ap (λ (k : ℕ). ram_words a (second_in b) owner width aw k 0 []) z

  pub ram_more : (i : ℕ) (ws : List Word) → i < depth → ram_left i ws ≡ (ram_word a (second_in b) owner width aw i >>= λ w. ram_left (i + 1) (ws ++ (w ∷ [])))
  unfolding ram_words
  ram_more i ws h =
      let e : depth - i ≡ suc (depth - (i + 1)) = omega arith in
      ap (λ (k : ℕ). ram_words a (second_in b) owner width aw k i ws) e
      ∙ ap (λ (k : ℕ). ram_word a (second_in b) owner width aw i >>= λ w. ram_words a (second_in b) owner width aw (depth - (i + 1)) k (ws ++ (w ∷ []))) (sym (add-one i))

  pub ram_none : (i : ℕ) (ws : List Word) → i ≡ depth → ram_left i ws ≡ pure ws
  unfolding ram_words
  ram_none i ws h = let e : depth - i ≡ 0 = omega arith in ap (λ (k : ℕ). ram_words a (second_in b) owner width aw k i ws) e

-- of a distributed RAM
module _ (p : PortExprs) (owner clock edge : ℕ) where
  abbrev pub dram_left : ℕ → List Word → Writer (List Word)
  dram_left i ws = dram_words p owner clock edge (16 - i) i ws

  pub dram_more : (i : ℕ) (ws : List Word) → i < 16 → dram_left i ws ≡ (dram_word p owner clock edge i >>= λ w. dram_left (i + 1) (ws ++ (w ∷ [])))
  unfolding dram_words dram_word
  dram_more i ws h =
      let e : 16 - i ≡ suc (16 - (i + 1)) = omega arith in
      ap (λ (k : ℕ). dram_words p owner clock edge k i ws) e
      ∙ ap (λ (k : ℕ). ram_word p None owner 4 4 i >>= λ w. state (reg w.signal w.next clock edge None None) >>= λ x. dram_words p owner clock edge (16 - (i + 1)) k (ws ++ (w ∷ []))) (sym (add-one i))
      ∙ sym (bind_two (ram_word p None owner 4 4 i) (λ w. state (reg w.signal w.next clock edge None None)) (λ w x. w) (λ w. dram_left (i + 1) (ws ++ (w ∷ []))))

  pub dram_none : (i : ℕ) (ws : List Word) → i ≡ 16 → dram_left i ws ≡ pure ws
  unfolding dram_words
  dram_none i ws h = let e : 16 - i ≡ 0 = omega arith in ap (λ (k : ℕ). dram_words p owner clock edge k i ws) e

-- GOING OVER THEM

module _ (w : Words) (clock edge : ℕ) where
  abbrev pub updates : ℕ → Writer (Unit {0})
  updates i = update_words (rest w i) clock edge

  pub update_all : update_words (words_of w) clock edge ≡ updates 0
  update_all = ap (λ (l : List Word). update_words l clock edge) (rest_all w)

  pub update_more : (i : ℕ) {x : Word} → i < w.depth → x ≡ nth_word w i → updates i ≡ (state (reg x.signal x.next clock edge None None) >>= λ u. updates (i + 1))
  unfolding update_words
  update_more i h q = ap (λ (l : List Word). update_words l clock edge) (rest_more w i h) ∙ ap (λ (x : Word). state (reg x.signal x.next clock edge None None) >>= λ u. updates (i + 1)) (sym q)

  pub update_none : (i : ℕ) → i ≡ w.depth → updates i ≡ pure tt
  unfolding update_words
  update_none i h = ap (λ (l : List Word). update_words l clock edge) (rest_none w i h)

module _ (w : Words) (address : ℕ) where
  abbrev pub selects : ℕ → ℕ → Writer ℕ
  selects i now = dram_select address i (rest w i) now

  pub select_all : (now : ℕ) → dram_select address 0 (words_of w) now ≡ selects 0 now
  select_all now = ap (λ (l : List Word). dram_select address 0 l now) (rest_all w)

  pub select_more : (i now : ℕ) {x : Word} → i < w.depth → x ≡ nth_word w i → selects i now ≡ (select_one address i x.current now >>= λ v. selects (i + 1) v)
  unfolding dram_select select_one match_address
  select_more i now h q =
      ap (λ (l : List Word). dram_select address i l now) (rest_more w i h)
      ∙ sym (bind_assoc _ _ _ ∙ bind_assoc _ _ _)
      ∙ ap₂ (λ (k : ℕ) (x : Word). select_one address i x.current now >>= λ v. dram_select address k (rest w (i + 1)) v) (sym (add-one i)) (sym q)

  pub select_none : (i now : ℕ) → i ≡ w.depth → selects i now ≡ pure now
  unfolding dram_select
  select_none i now h = ap (λ (l : List Word). dram_select address i l now) (rest_none w i h)

-- a node is stored behind the first i
node_put : (ns : List AddressMuxNode) (i : ℕ) (d : AddressMuxNode) → i < length ns → map node_of (take (i + 1) (set ns i d)) ≡ map node_of (take i ns) ++ (node_of d ∷ [])
node_put ns i d h = ap (λ (k : ℕ). map node_of (take k (set ns i d))) (add-one i) ∙ go ns i h
  where
    go : (ns : List AddressMuxNode) (i : ℕ) → i < length ns → map node_of (take (suc i) (set ns i d)) ≡ map node_of (take i ns) ++ (node_of d ∷ [])
    go [] i h = absurd (not-suc-le-zero h)
    go (x ∷ ns) zero h = refl
    go (x ∷ ns) (suc i) h = ap (λ (l : List Node). node_of x ∷ l) (go ns i (le_of_suc-le-suc h))

module _ (w : Words) (address aw : ℕ) where
  abbrev pub gathers : ℕ → List AddressMuxNode → Writer (List Node)
  gathers i ns = candidates_from address aw i (rest w i) (map node_of (take i ns))

  pub gather_all : (ns : List AddressMuxNode) → candidates_from address aw 0 (words_of w) [] ≡ gathers 0 ns
  gather_all ns = ap (λ (l : List Word). candidates_from address aw 0 l []) (rest_all w)

  pub gather_more : (i : ℕ) (ns : List AddressMuxNode) {x : Word} → i < w.depth → x ≡ nth_word w i
      → gathers i ns ≡ (match_address address aw i >>= λ e. candidates_from address aw (i + 1) (rest w (i + 1)) (map node_of (take i ns) ++ (record { matched = e; value = x.current } ∷ [])))
  unfolding candidates_from match_address
  gather_more i ns h q =
      ap (λ (l : List Word). candidates_from address aw i l (map node_of (take i ns))) (rest_more w i h)
      ∙ sym (bind_assoc _ _ _)
      ∙ ap₂ (λ (k : ℕ) (x : Word). match_address address aw i >>= λ e. candidates_from address aw k (rest w (i + 1)) (map node_of (take i ns) ++ (record { matched = e; value = x.current } ∷ []))) (sym (add-one i)) (sym q)

  -- a node more
  pub gathered : {r₀ r r₁ : Recorder} {whole : Writer (List Node)} {i : ℕ} (ns : List AddressMuxNode) {x : Word} {d : AddressMuxNode} → Underway r₀ whole r (gathers i ns) → i < w.depth → x ≡ nth_word w i → i < length ns → d.value.0 ≡ x.current → Writes r (match_address address aw i) (ok d.matched.0) r₁ → Underway r₀ whole r₁ (gathers (i + 1) (set ns i d))
  gathered {r₀} {r} {r₁} {whole} {i} ns {x} {d} on h q room v step =
      subst (λ (l : List Node). Underway r₀ whole r₁ (candidates_from address aw (i + 1) (rest w (i + 1)) l))
      (ap (λ (y : ℕ). map node_of (take i ns) ++ (record { matched = d.matched.0; value = y } ∷ [])) (sym v) ∙ sym (node_put ns i d room))
      (underway_step _ on (gather_more i ns h q) step refl)

  pub gather_none : (i : ℕ) (ns : List AddressMuxNode) → i ≡ w.depth → gathers i ns ≡ pure (map node_of (take w.depth ns))
  unfolding candidates_from
  gather_none i ns h = ap (λ (l : List Word). candidates_from address aw i l (map node_of (take i ns))) (rest_none w i h) ∙ ap (λ (k : ℕ). pure (map node_of (take k ns))) h
