-- The local rewrites: the first rule that fits, and what is recorded for it.
use Rattle.std.specs.Prelude.{◌&&◌, ◌||◌, ℕ, eqb}
use Rattle.bits.specs.Bits.{pick}
use Rattle.recorder.specs.declared.ExprId.{ExprId}
use Rattle.recorder.specs.Record.{Expr.not as complement, Expr.and, Expr.or, Expr.xor, Expr.mux}
use Rattle.recorder.specs.Writer.{Writer, pure, emit, ◌>>=◌}
use Rattle.optimize.specs.declared.optimizer.Rewrite.{Rewrite}
use Rattle.optimize.specs.declared.optimizer.Rewrite.TheVariants.{Value, Not, And, Or, Xor, AndNot, OrNot, Mux}

abbrev pub expr : ℕ → ExprId
expr n = record { 0 = n }

-- the constants are expressions 0 and 1
abbrev pub simplify_xor : ExprId → ExprId → Rewrite
simplify_xor a b =
    pick (eqb a.0 b.0) (Value (expr 0))
    (pick (eqb a.0 0) (Value b)
    (pick (eqb b.0 0) (Value a)
    (pick (eqb a.0 1) (Not b)
    (pick (eqb b.0 1) (Not a)
    (Xor a b)))))

-- select, true arm, false arm
abbrev pub simplify_mux : ExprId → ExprId → ExprId → Rewrite
simplify_mux s t f =
    pick (eqb s.0 0) (Value f)
    (pick (eqb s.0 1 || eqb t.0 f.0) (Value t)
    (pick (eqb f.0 0 && eqb t.0 1) (Value s)
    (pick (eqb f.0 1 && eqb t.0 0) (Not s)
    (pick (eqb f.0 0) (And s t)
    (pick (eqb t.0 1) (Or s f)
    (pick (eqb t.0 0) (AndNot s f)
    (pick (eqb f.0 1) (OrNot s t)
    (Mux s t f))))))))

-- no record for a value, two for an operation on a negated operand, one for the others
unfoldable pub emit_rewrite : Rewrite → Writer ℕ
emit_rewrite (Value v) = pure v.0
emit_rewrite (Not a) = emit (complement a.0)
emit_rewrite (And a b) = emit (and a.0 b.0)
emit_rewrite (Or a b) = emit (or a.0 b.0)
emit_rewrite (Xor a b) = emit (xor a.0 b.0)
emit_rewrite (AndNot a b) = do
  i ← emit (complement a.0)
  emit (and i b.0)
emit_rewrite (OrNot a b) = do
  i ← emit (complement a.0)
  emit (or i b.0)
emit_rewrite (Mux s t f) = emit (mux 1 s.0 t.0 f.0)

unfoldable pub xor_of : ℕ → ℕ → Writer ℕ
xor_of a b = emit_rewrite (simplify_xor (expr a) (expr b))

unfoldable pub mux_of : ℕ → ℕ → ℕ → Writer ℕ
mux_of s t f = emit_rewrite (simplify_mux (expr s) (expr t) (expr f))
