-- Laws of writers that make good records.
-- Assumes nothing.
use mathlib.Core.Path.{◌≡◌, refl, ap, sym, ◌∙◌, subst}
use mathlib.Core.Logic.{◌⊎◌, inl, inr}
use mathlib.Core.List.Memᴰ.{append_cases}
use mathlib.Core.List.Memᴰ.{cases_cons}
use mathlib.Core.List.Memᴰ.{not-nil}
use mathlib.Core.List.{List, [], ◌∷◌, ◌++◌, Memᴰ as Mem}
use Prim.Native.Nat.{ℕ, suc, ◌+◌, ◌^◌, ◌≤◌, ◌<◌}
use native.Mathlib.Omega.{arith}
use lib.ListN.{length, get_or, length-append, get_or-append}
use lib.Seq.{get_or-append_seam}
use Rattle.recorder.specs.Record.{Signal, Expr, Expr.const, Expr.read, Expr.concat, Expr.not, Expr.and, Expr.or, Expr.xor, Expr.mux, Expr.eq, Expr.mul, Stmt}
use Rattle.recorder.specs.Writer.{Event, Event.signal, Event.expr, Event.stmt, Count, further, End, End.ok, End.no, Writer, pure, refuse, declare, emit, state, after, ◌>>=◌}
use Rattle.recorder.specs.Meaning.{Ends}
use Rattle.simulation.specs.Tick.{reads_expr, joined_reads}
use Rattle.simulation.specs.Run.{expr_width}
use Rattle.forms.specs.Typed.{Context, grow, grow_all, At, Sig, Exp, Parts, no_part, part, Typed₁, Grows, Numbered, Wide, GoodExpr, GoodStmt, GoodAll, Fit}

-- CONTEXTS

at_more : {ws : List ℕ} {i w : ℕ} (x : ℕ) → At ws i w → At (ws ++ (x ∷ [])) i w
at_more {ws} {i} x h = record { there = omega (arith, h.there, length-append ws (x ∷ [])); width = get_or-append ws (x ∷ []) 0 i h.there ∙ h.width }

at_new : (ws : List ℕ) (w : ℕ) → At (ws ++ (w ∷ [])) (length ws) w
at_new ws w = record { there = omega (arith, length-append ws (w ∷ [])); width = get_or-append_seam ws w [] 0 }

grows_event : (c : Context) (e : Event) → Grows c (grow c e)
grows_event c (signal s) = record { signals = λ i w h. at_more s.width h; exprs = λ i w h. h; reads = λ e h. (h, refl); many = omega (arith, length-append c.signals (s.width ∷ [])) }
grows_event c (expr x) = record {
  signals = λ i w h. h;
  exprs = λ i w h. at_more (expr_width x) h;
  reads = λ e h. (omega (arith, h, length-append c.reads (reads_expr c.reads x ∷ [])), get_or-append c.reads (reads_expr c.reads x ∷ []) [] e h);
  many = omega arith;
}
grows_event c (stmt t) = record { signals = λ i w h. h; exprs = λ i w h. h; reads = λ e h. (h, refl); many = omega arith }

pub grows_trans : {a b c : Context} → Grows a b → Grows b c → Grows a c
grows_trans f g = record {
  signals = λ i w h. g.signals i w (f.signals i w h);
  exprs = λ i w h. g.exprs i w (f.exprs i w h);
  reads = λ e h. let p = f.reads e h in let q = g.reads e p.0 in (q.0, q.1 ∙ p.1);
  many = omega (arith, f.many, g.many);
}

pub grows_all : (c : Context) (es : List Event) → Grows c (grow_all c es)
grows_all c [] = record { signals = λ i w h. h; exprs = λ i w h. h; reads = λ e h. (h, refl); many = omega arith }
grows_all c (e ∷ es) = grows_trans (grows_event c e) (grows_all (grow c e) es)

grow_append : (c : Context) (xs ys : List Event) → grow_all c (xs ++ ys) ≡ grow_all (grow_all c xs) ys
grow_append c [] ys = refl
grow_append c (x ∷ xs) ys = grow_append (grow c x) xs ys

numbered_more : (c : Context) (es : List Event) (n : Count) → Numbered c n → Numbered (grow_all c es) (further n es)
numbered_more c [] n h = record { signals = omega (arith, h.signals); exprs = omega (arith, h.exprs); reads = omega (arith, h.reads) }
numbered_more c (signal s ∷ es) n h =
    let r = numbered_more (grow c (signal s)) es (record { signals = n.signals + 1; exprs = n.exprs; stmts = n.stmts }) (record { signals = omega (arith, h.signals, length-append c.signals (s.width ∷ [])); exprs = h.exprs; reads = h.reads }) in
    record { signals = omega (arith, r.signals); exprs = omega (arith, r.exprs); reads = omega (arith, r.reads) }
numbered_more c (expr x ∷ es) n h =
    let r = numbered_more (grow c (expr x)) es (record { signals = n.signals; exprs = n.exprs + 1; stmts = n.stmts }) (record { signals = h.signals; exprs = omega (arith, h.exprs, length-append c.exprs (expr_width x ∷ [])); reads = omega (arith, h.reads, length-append c.reads (reads_expr c.reads x ∷ [])) }) in
    record { signals = omega (arith, r.signals); exprs = omega (arith, r.exprs); reads = omega (arith, r.reads) }
numbered_more c (stmt t ∷ es) n h =
    let r = numbered_more c es n h in
    record { signals = omega (arith, r.signals); exprs = omega (arith, r.exprs); reads = omega (arith, r.reads) }

-- EXPRESSIONS

pub grow_exp : {c c' : Context} {e w : ℕ} {S : ℕ → Type 0} → Grows c c' → Exp c e w S → Exp c' e w S
grow_exp {c} {c'} {e} {w} {S} g h =
    let r = g.reads e h.recorded in
    record { typed = g.exprs e w h.typed; recorded = r.0; only = λ y m. h.only y (subst (λ (l : List ℕ). Mem y l) r.1 m) }

pub exp_so : {c : Context} {e w : ℕ} {S S' : ℕ → Type 0} → ((y : ℕ) → S y → S' y) → Exp c e w S → Exp c e w S'
exp_so f h = record { typed = h.typed; recorded = h.recorded; only = λ y m. f y (h.only y m) }

pub grow_sig : {c c' : Context} {s w : ℕ} → Grows c c' → Sig c s w → Sig c' s w
grow_sig {s = s} {w} g h = g.signals s w h

pub grow_parts : {c c' : Context} {S : ℕ → Type 0} {ps : List ℕ} → Grows c c' → Parts c S ps → Parts c' S ps
grow_parts g no_part = no_part
grow_parts g (part x h) = part (grow_exp g x) (grow_parts g h)

pub parts_snoc : {c : Context} {S : ℕ → Type 0} {ps : List ℕ} {e : ℕ} → Parts c S ps → Exp c e 1 S → Parts c S (ps ++ (e ∷ []))
parts_snoc no_part y = part y no_part
parts_snoc (part x h) y = part x (parts_snoc h y)

typed_parts : {c : Context} {S : ℕ → Type 0} {ps : List ℕ} → Parts c S ps → Typed₁ c ps
typed_parts no_part = tt
typed_parts (part x h) = (x.typed, typed_parts h)

joined_only : {c : Context} {S : ℕ → Type 0} {ps : List ℕ} → Parts c S ps → (y : ℕ) → Mem y (joined_reads c.reads ps) → S y
joined_only no_part y m = absurd (not-nil m)
joined_only {c} {S} (part {p = p} {ps = ps} x h) y m = go (append_cases (joined_reads c.reads ps) m) (joined_only h y)
  where
    go : Mem y (joined_reads c.reads ps) ⊎ Mem y (get_or c.reads p []) → (Mem y (joined_reads c.reads ps) → S y) → S y
    go (inl q) f = f q
    go (inr q) f = x.only y q

-- ONE STEP

-- an expression has the next number
pub record New (c : Context) (x : Expr) (S : ℕ → Type 0) (e : ℕ) (c' : Context) : Type 0 where
  pub exp : Exp c' e (expr_width x) S
  pub number : e ≡ length c.exprs
  pub count : length c'.exprs ≡ suc (length c.exprs)

module _ {widest words : ℕ} {D : ℕ → ℕ → Type 0} {c : Context} where
  pub fit_pure : {A : Type 0} {a : A} {P : A → Context → Type 0} → P a c → Fit widest words D c (pure a) P
  fit_pure h = record { fit = λ n q. (tt, h) }

  pub fit_refuse : {A : Type 0} {a b : ℕ} {P : A → Context → Type 0} → Fit widest words D c (refuse {A = A} a b) P
  fit_refuse = record { fit = λ n q. (tt, tt) }

  pub fit_new : {x : Expr} {S : ℕ → Type 0} → GoodExpr widest words D c x → ((y : ℕ) → Mem y (reads_expr c.reads x) → S y) → Fit widest words D c (emit x) (λ e c'. New c x S e c')
  fit_new {x} {S} h f = record {
    fit = λ n q. (
      (h, tt),
      record {
        exp = record {
          typed = subst (λ (i : ℕ). At (c.exprs ++ (expr_width x ∷ [])) i (expr_width x)) (sym q.exprs) (at_new c.exprs (expr_width x));
          recorded = omega (arith, q.reads, length-append c.reads (reads_expr c.reads x ∷ []));
          only = λ y m. f y (subst (λ (l : List ℕ). Mem y l) (ap (λ (i : ℕ). get_or (c.reads ++ (reads_expr c.reads x ∷ [])) i []) q.reads ∙ get_or-append_seam c.reads (reads_expr c.reads x) [] []) m);
        };
        number = q.exprs;
        count = omega (arith, length-append c.exprs (expr_width x ∷ []));
      },
    );
  }

  pub fit_declare : {s : Signal} → Wide widest s.width → Fit widest words D c (declare s) (λ i c'. Sig c' i s.width × (i ≡ length c.signals) × (c'.exprs ≡ c.exprs) × (length c'.signals ≡ suc (length c.signals)))
  fit_declare {s} h = record { fit = λ n q. ((h, tt), (subst (λ (i : ℕ). At (c.signals ++ (s.width ∷ [])) i s.width) (sym q.signals) (at_new c.signals s.width), q.signals, refl, let k : length (c.signals ++ (s.width ∷ [])) ≡ suc (length c.signals) = omega (arith, length-append c.signals (s.width ∷ [])) in k)) }

  pub fit_state : {t : Stmt} → GoodStmt widest words D c t → Fit widest words D c (state t) (λ x c'. Unit {0})
  fit_state h = record { fit = λ n q. ((h, tt), tt) }

-- ONE WRITER AFTER ANOTHER

pub good_append : (widest words : ℕ) (D : ℕ → ℕ → Type 0) (c : Context) (xs ys : List Event) → GoodAll widest words D c xs → GoodAll widest words D (grow_all c xs) ys → GoodAll widest words D c (xs ++ ys)
good_append widest words D c [] ys h g = g
good_append widest words D c (x ∷ xs) ys h g = (h.0, good_append widest words D (grow c x) xs ys h.1 g)

module _ {A B : Type 0} (widest words : ℕ) (D : ℕ → ℕ → Type 0) (c : Context) (w : Writer A) (k : A → Writer B) (P : A → Context → Type 0) (Q : B → Context → Type 0)
    (g : (a : A) (c₁ : Context) → Grows c c₁ → P a c₁ → Fit widest words D c₁ (k a) Q) (n : Count) (q : Numbered c n) where
  abbrev es : List Event
  es = (w n).events

  abbrev m : Count
  m = further n es

  abbrev c₂ : Context
  c₂ = grow_all c es

  move : (y : End B) (ys : List Event) → Ends y (λ b. Q b (grow_all c₂ ys)) → Ends y (λ b. Q b (grow_all c (es ++ ys)))
  move (ok b) ys h = subst (Q b) (sym (grow_append c es ys)) h
  move (no x y) ys h = tt

  go : (y : End A) → GoodAll widest words D c es → Ends y (λ a. P a c₂) → GoodAll widest words D c (after es y m k).events × Ends (after es y m k).end (λ b. Q b (grow_all c (after es y m k).events))
  go (ok a) h e =
      let f : GoodAll widest words D c₂ (k a m).events × Ends (k a m).end (λ b. Q b (grow_all c₂ (k a m).events)) = (g a c₂ (grows_all c es) e).fit m (numbered_more c es n q) in
      (good_append widest words D c es (k a m).events h f.0, move (k a m).end (k a m).events f.1)
  go (no x y) h e = (h, tt)

module _ {widest words : ℕ} {D : ℕ → ℕ → Type 0} {A B : Type 0} {c : Context} {w : Writer A} {k : A → Writer B} {P : A → Context → Type 0} {Q : B → Context → Type 0} where
  pub fit_bind : Fit widest words D c w P → ((a : A) (c₁ : Context) → Grows c c₁ → P a c₁ → Fit widest words D c₁ (k a) Q) → Fit widest words D c (w >>= k) Q
  unfolding ◌>>=◌
  fit_bind f g = record { fit = λ n q. go widest words D c w k P Q g n q (w n).end (f.fit n q).0 (f.fit n q).1 }

module _ {widest words : ℕ} {D : ℕ → ℕ → Type 0} {A : Type 0} {c : Context} {w : Writer A} {P Q : A → Context → Type 0} where
  pub fit_so : Fit widest words D c w P → ((a : A) (c₁ : Context) → Grows c c₁ → P a c₁ → Q a c₁) → Fit widest words D c w Q
  fit_so f g = record { fit = λ n q. ((f.fit n q).0, so (w n).end (grows_all c (w n).events) (f.fit n q).1) }
    where
      so : {c₁ : Context} (y : End A) → Grows c c₁ → Ends y (λ a. P a c₁) → Ends y (λ a. Q a c₁)
      so (ok a) k h = g a _ k h
      so (no x y) k h = tt

-- ONE EXPRESSION, by its kind

both : (S : ℕ → Type 0) (l k : List ℕ) (y : ℕ) → ((y : ℕ) → Mem y l → S y) → ((y : ℕ) → Mem y k → S y) → Mem y (l ++ k) → S y
both S l k y f g m = go (append_cases l m)
  where
    go : Mem y l ⊎ Mem y k → S y
    go (inl q) = f y q
    go (inr q) = g y q

module _ {widest words : ℕ} {D : ℕ → ℕ → Type 0} {c : Context} {S : ℕ → Type 0} where
  one_more : {x : Expr} → GoodExpr widest words D c x → ((y : ℕ) → Mem y (reads_expr c.reads x) → S y) → Fit widest words D c (emit x) (λ e c'. Exp c' e (expr_width x) S)
  one_more h f = fit_so (fit_new h f) (λ e c₁ g r. r.exp)

  pub emit_const : {w v : ℕ} → Wide widest w → v < 2 ^ w → Fit widest words D c (emit (const w v)) (λ e c'. Exp c' e w S)
  emit_const h l = one_more (h, l) (λ y m. absurd (not-nil m))

  pub emit_read : {w s l width : ℕ} → Wide widest w → Sig c s width → l + w ≤ width → S s → Fit widest words D c (emit (read w s l)) (λ e c'. Exp c' e w S)
  emit_read {s = s} {width = width} h g l k = one_more (h, (width, g, l)) (λ y m. only y (cases_cons m))
    where
      only : (y : ℕ) → (y ≡ s) ⊎ Mem y [] → S y
      only y (inl e) = subst S (sym e) k
      only y (inr q) = absurd (not-nil q)

  pub emit_concat : {w : ℕ} {ps : List ℕ} → Wide widest w → w ≡ length ps → Parts c S ps → Fit widest words D c (emit (concat w ps)) (λ e c'. Exp c' e w S)
  emit_concat h e p = one_more (h, e, typed_parts p) (joined_only p)

  module _ {a : ℕ} (ha : Exp c a 1 S) where
    pub emit_not : Fit widest words D c (emit (not a)) (λ e c'. Exp c' e 1 S)
    emit_not = one_more ha.typed ha.only

    module _ {b : ℕ} (hb : Exp c b 1 S) where
      pub emit_and : Fit widest words D c (emit (and a b)) (λ e c'. Exp c' e 1 S)
      emit_and = one_more (ha.typed, hb.typed) (λ y m. both S (get_or c.reads a []) (get_or c.reads b []) y ha.only hb.only m)

      pub emit_or : Fit widest words D c (emit (or a b)) (λ e c'. Exp c' e 1 S)
      emit_or = one_more (ha.typed, hb.typed) (λ y m. both S (get_or c.reads a []) (get_or c.reads b []) y ha.only hb.only m)

      pub emit_xor : Fit widest words D c (emit (xor a b)) (λ e c'. Exp c' e 1 S)
      emit_xor = one_more (ha.typed, hb.typed) (λ y m. both S (get_or c.reads a []) (get_or c.reads b []) y ha.only hb.only m)

  pub emit_mux : {w s t f : ℕ} → Wide widest w → Exp c s 1 S → Exp c t w S → Exp c f w S → Fit widest words D c (emit (mux w s t f)) (λ e c'. Exp c' e w S)
  emit_mux {w} {s} {t} {f} h hs ht hf =
      one_more (h, hs.typed, ht.typed, hf.typed)
      (λ y m. both S (get_or c.reads s [] ++ get_or c.reads t []) (get_or c.reads f []) y (λ z q. both S (get_or c.reads s []) (get_or c.reads t []) z hs.only ht.only q) hf.only m)

  pub emit_eq : {w a b : ℕ} → Exp c a w S → Exp c b w S → Fit widest words D c (emit (eq a b)) (λ e c'. Exp c' e 1 S)
  emit_eq {w} {a} {b} ha hb = one_more (w, ha.typed, hb.typed) (λ y m. both S (get_or c.reads a []) (get_or c.reads b []) y ha.only hb.only m)

  pub emit_mul : {a b : ℕ} → Exp c a 36 S → Exp c b 36 S → Fit widest words D c (emit (mul a b)) (λ e c'. Exp c' e 36 S)
  emit_mul {a} {b} ha hb = one_more (ha.typed, hb.typed) (λ y m. both S (get_or c.reads a []) (get_or c.reads b []) y ha.only hb.only m)
