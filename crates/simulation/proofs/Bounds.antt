-- In a sound model every signal that is read is there, and every value has its expression's width. Assumes nothing.
use Prim.Native.Nat.{ℕ, zero, suc, ◌+◌, ◌*◌, ◌/◌, ◌<◌}
use mathlib.Core.Path.{◌≡◌, refl, sym, ◌∙◌, ap, ap₂, subst}
use mathlib.Core.Logic.{◌⊎◌, inl, inr}
use mathlib.Core.Bool.{Bool, true, false, ◌&&◌}
use mathlib.Core.List.Memᴰ.{append_cases}
use mathlib.Core.List.Memᴰ.{eq_of_singleton as singleton}
use mathlib.Core.List.Memᴰ.{not-nil}
use mathlib.Core.List.{List, [], ◌∷◌, ◌++◌, map, Memᴰ as Mem}
use Rattle.std.specs.Prelude.{Option, None, Some}
use native.Mathlib.Omega.{arith}
use native.Mathlib.Nat.{not-suc-le-zero, zero-add}
use native.Mathlib.Decide.{dec_lt}
use lib.Dec.{eqb, leb, ltb}
use lib.ListN.{length, get_or, length-append, length-map}
use borrow.Author.Tests.{eqb-true, ltb-true}
use Rattle.bits.specs.Bits.{pick, Bits, binary, number, lowest, window}
use Rattle.recorder.specs.Record.{Signal, Expr, Model}
use Rattle.recorder.specs.Record.{const, read, concat, not, and, or, xor, mux, eq, mul}
use Rattle.recorder.specs.Evaluate.{Signals, joined_parts, eval_expr, eval_all}
use Rattle.recorder.proofs.Makes.{length_all}
use Rattle.settle.specs.Loop.{DepsUnder}
use Rattle.settle.specs.Tests.{and_left, and_right}
use Rattle.simulation.specs.Wellformed.{wide, in_range, earlier, width_sum, expr_fits}
use Rattle.simulation.specs.Tick.{given, assigns, joined_reads, reads_expr, reads_all, reads_by, depends}
use Rattle.simulation.specs.Run.{expr_width}
use Rattle.simulation.specs.Sound.{AllFrom, Sound, signal_widths, expr_widths}
use Rattle.simulation.proofs.Settles.{get_d_last}

-- WHAT IS READ IS THERE

module _ (N : ℕ) where
  abbrev Und : List ℕ → Type 0
  Und l = (y : ℕ) → Mem y l → y < N

  und_append : (s t : List ℕ) → Und s → Und t → Und (s ++ t)
  und_append s t hs ht y m = go (append_cases s m)
    where
      go : Mem y s ⊎ Mem y t → y < N
      go (inl q) = hs y q
      go (inr q) = ht y q

  abbrev AllUnd : List (List ℕ) → Type 0
  AllUnd d = (i : ℕ) → Und (get_or d i [])

  und_snoc : (d : List (List ℕ)) (x : List ℕ) → AllUnd d → Und x → AllUnd (d ++ (x ∷ []))
  und_snoc [] x hd hx zero = hx
  und_snoc [] x hd hx (suc i) = λ y m. absurd (not-nil m)
  und_snoc (a ∷ d) x hd hx zero = hd zero
  und_snoc (a ∷ d) x hd hx (suc i) = und_snoc d x (λ j. hd (suc j)) hx i

  und_joined : (d : List (List ℕ)) → AllUnd d → (ps : List ℕ) → Und (joined_reads d ps)
  und_joined d hd [] = λ y m. absurd (not-nil m)
  und_joined d hd (p ∷ ps) = und_append (joined_reads d ps) (get_or d p []) (und_joined d hd ps) (hd p)

  module _ (widest : ℕ) (sw ew : List ℕ) (sn : length sw ≡ N) where
    und_two : (d : List (List ℕ)) → AllUnd d → (a b : ℕ) → Und (get_or d a [] ++ get_or d b [])
    und_two d hd a b = und_append (get_or d a []) (get_or d b []) (hd a) (hd b)

    und_reads : (n : ℕ) (e : Expr) (d : List (List ℕ)) → AllUnd d → expr_fits widest sw ew n e ≡ true → Und (reads_expr d e)
    und_reads n (const w v) d hd h = λ y m. absurd (not-nil m)
    und_reads n (read w s l) d hd h =
        λ y m. let q = ltb-true s (length sw) (and_right (in_range widest w) (ltb s (length sw)) (and_left (in_range widest w && ltb s (length sw)) (leb (l + w) (get_or sw s 0)) h)) in omega (arith, singleton m, sn)
    und_reads n (concat w ps) d hd h = und_joined d hd ps
    und_reads n (not a) d hd h = hd a
    und_reads n (and a b) d hd h = und_two d hd a b
    und_reads n (or a b) d hd h = und_two d hd a b
    und_reads n (xor a b) d hd h = und_two d hd a b
    und_reads n (mux w s t f) d hd h = und_append (get_or d s [] ++ get_or d t []) (get_or d f []) (und_two d hd s t) (hd f)
    und_reads n (eq a b) d hd h = und_two d hd a b
    und_reads n (mul a b) d hd h = und_two d hd a b

    und_all : (n : ℕ) (es : List Expr) (d : List (List ℕ)) → AllUnd d → AllFrom (expr_fits widest sw ew) n es → AllUnd (reads_all d es)
    unfolding reads_all
    und_all n [] d hd h = hd
    und_all n (e ∷ es) d hd h = und_all (suc n) es (d ++ (reads_expr d e ∷ [])) (und_snoc d (reads_expr d e) hd (und_reads n e d hd h.0)) h.1

-- of every expression
pub reads_there : (widest : ℕ) (m : Model) → Sound widest m → (e y : ℕ) → Mem y (get_or (reads_all [] m.exprs) e []) → y < length m.signals
reads_there widest m h e y k =
    und_all (length m.signals) widest (signal_widths m) (expr_widths m) (length-map m.signals (λ (s : Signal). s.width)) 0 m.exprs [] (λ i z q. absurd (not-nil q)) h.exprs_fit e y k

pub reads_under : (widest : ℕ) (m : Model) → Sound widest m → DepsUnder (length m.signals) (depends m)
reads_under widest m h x y p = go (given assigns m.stmts x)
  where
    go : (o : Option ℕ) → Mem y (reads_by (reads_all [] m.exprs) o) → y < length m.signals
    go None k = absurd (not-nil k)
    go (Some e) k = reads_there widest m h e y k

-- VALUES HAVE THEIR WIDTHS

pub length_binary : (w n : ℕ) → length (binary w n) ≡ w
length_binary zero n = refl
length_binary (suc w) n = ap suc (length_binary w (n / 2))

pub length_window : (v : Bits) (l w : ℕ) → length (window v l w) ≡ w
length_window v l zero = refl
length_window v l (suc w) = ap suc (length_window v (suc l) w)

module _ (widest : ℕ) (sw ew : List ℕ) (v : Signals) where
  abbrev Right : List Bits → Type 0
  Right d = (i : ℕ) → i < length d → length (get_or d i []) ≡ get_or ew i 0

  wide_there : (n a w : ℕ) → wide ew n a w ≡ true → a < n
  wide_there n a w h = ltb-true a n (and_left (ltb a n) (eqb (get_or ew a 0) w) h)

  wide_width : (n a w : ℕ) → wide ew n a w ≡ true → get_or ew a 0 ≡ w
  wide_width n a w h = eqb-true (get_or ew a 0) w (and_right (ltb a n) (eqb (get_or ew a 0) w) h)

  joined_width : (d : List Bits) → Right d → (ps : List ℕ) → earlier (length d) ps ≡ true → length (joined_parts d ps) ≡ width_sum ew ps
  joined_width d hd [] h = refl
  joined_width d hd (p ∷ ps) h =
      length-append (joined_parts d ps) (get_or d p [])
      ∙ ap₂ ◌+◌ (joined_width d hd ps (and_right (ltb p (length d)) (earlier (length d) ps) h)) (hd p (ltb-true p (length d) (and_left (ltb p (length d)) (earlier (length d) ps) h)))
      ∙ omega arith

  pick_width : (b : Bool) (x y : Bits) (w : ℕ) → length x ≡ w → length y ≡ w → length (pick b x y) ≡ w
  pick_width true x y w hx hy = hx
  pick_width false x y w hx hy = hy

  pub value_width : (e : Expr) (d : List Bits) → Right d → expr_fits widest sw ew (length d) e ≡ true → length (eval_expr v d e) ≡ expr_width e
  value_width (const w n) d hd h = length_binary w n
  value_width (read w s l) d hd h = length_window (v s) l w
  value_width (concat w ps) d hd h =
      joined_width d hd ps (and_right (in_range widest w) (earlier (length d) ps) (and_left (in_range widest w && earlier (length d) ps) (eqb (width_sum ew ps) w) h))
      ∙ eqb-true (width_sum ew ps) w (and_right (in_range widest w && earlier (length d) ps) (eqb (width_sum ew ps) w) h)
  value_width (not a) d hd h = refl
  value_width (and a b) d hd h = refl
  value_width (or a b) d hd h = refl
  value_width (xor a b) d hd h = refl
  value_width (mux w s t f) d hd h =
      let hf = and_right (in_range widest w && wide ew (length d) s 1 && wide ew (length d) t w) (wide ew (length d) f w) h in
      let ht = and_right (in_range widest w && wide ew (length d) s 1) (wide ew (length d) t w) (and_left (in_range widest w && wide ew (length d) s 1 && wide ew (length d) t w) (wide ew (length d) f w) h) in
      pick_width (lowest (get_or d s [])) (get_or d t []) (get_or d f []) w
      (hd t (wide_there (length d) t w ht) ∙ wide_width (length d) t w ht)
      (hd f (wide_there (length d) f w hf) ∙ wide_width (length d) f w hf)
  value_width (eq a b) d hd h = refl
  value_width (mul a b) d hd h = length_binary 36 (number (get_or d a []) * number (get_or d b []))

  right_snoc : (d : List Bits) (x : Bits) → Right d → length x ≡ get_or ew (length d) 0 → Right (d ++ (x ∷ []))
  right_snoc d x hd hx i h = go (dec_lt i (length d))
    where
      go : Dec (i < length d) → length (get_or (d ++ (x ∷ [])) i []) ≡ get_or ew i 0
      go (yes q) = ap length ((get_d_last d x [] i).0 q) ∙ hd i q
      go (no q) =
          let e : i ≡ length d = (let k : i < length d + 1 = (rw (length-append d (x ∷ [])) at h) in omega arith) in
          ap length ((get_d_last d x [] i).1 e) ∙ hx ∙ ap (λ (j : ℕ). get_or ew j 0) (sym e)

  right_all : (es : List Expr) (d : List Bits) → Right d → AllFrom (expr_fits widest sw ew) (length d) es → ((i : ℕ) → get_or ew (length d + i) 0 ≡ get_or (map expr_width es) i 0) → Right (eval_all v d es)
  unfolding eval_all
  right_all [] d hd h tail = hd
  right_all (e ∷ es) d hd h tail =
      right_all es d' (right_snoc d (eval_expr v d e) hd (value_width e d hd h.0 ∙ sym (tail 0) ∙ ap (λ (j : ℕ). get_or ew j 0) (omega arith)))
      (subst (λ (n : ℕ). AllFrom (expr_fits widest sw ew) n es) (sym longer) h.1)
      (λ i. ap (λ (j : ℕ). get_or ew j 0) (ap (λ (n : ℕ). n + i) longer ∙ omega arith) ∙ tail (suc i))
    where
      d' : List Bits
      d' = d ++ (eval_expr v d e ∷ [])

      longer : length (d ++ (eval_expr v d e ∷ [])) ≡ suc (length d)
      longer = length-append d (eval_expr v d e ∷ []) ∙ omega arith

pub values_width : (widest : ℕ) (m : Model) → Sound widest m → (v : Signals) (i : ℕ) → i < length m.exprs → length (get_or (eval_all v [] m.exprs) i []) ≡ get_or (expr_widths m) i 0
values_width widest m h v i q =
    right_all widest (signal_widths m) (expr_widths m) v m.exprs [] (λ j k. absurd (not-suc-le-zero k)) h.exprs_fit (λ j. ap (λ (k : ℕ). get_or (expr_widths m) k 0) (zero-add j)) i
    (omega (arith, length_all v m.exprs []))
