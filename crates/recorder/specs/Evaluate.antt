-- What expression records mean: the bits of each, over the signals' bits and the bits of the expressions before it.
use Rattle.std.specs.Prelude.{Bool, not, ◌&&◌, ◌||◌, List, [], ◌∷◌, ◌++◌, ℕ, ◌*◌, get_or}
use Rattle.bits.specs.Bits.{pick, Bits, number, binary, lowest, window, differ, same_bits}
use Rattle.recorder.specs.Record.{Expr, Expr.const, Expr.read, Expr.concat, Expr.not as complement, Expr.and, Expr.or, Expr.xor, Expr.mux, Expr.eq, Expr.mul}

-- the bits of every signal
abbrev pub Signals : Type 0
Signals = ℕ → Bits

-- the bits of the expressions so far
abbrev pub Values : Type 0
Values = List Bits

abbrev pub value_of : Values → ℕ → Bits
value_of env e = get_or env e []

abbrev pub bit_of : Values → ℕ → Bool
bit_of env e = lowest (value_of env e)

-- the highest part comes first
abbrev pub joined_parts : Values → List ℕ → Bits
joined_parts env [] = []
joined_parts env (p ∷ ps) = joined_parts env ps ++ value_of env p

abbrev pub eval_expr : Signals → Values → Expr → Bits
eval_expr σ env (const w v) = binary w v
eval_expr σ env (read w s l) = window (σ s) l w
eval_expr σ env (concat w ps) = joined_parts env ps
eval_expr σ env (complement a) = not (bit_of env a) ∷ []
eval_expr σ env (and a b) = (bit_of env a && bit_of env b) ∷ []
eval_expr σ env (or a b) = (bit_of env a || bit_of env b) ∷ []
eval_expr σ env (xor a b) = differ (bit_of env a) (bit_of env b) ∷ []
eval_expr σ env (mux w s t f) = pick (bit_of env s) (value_of env t) (value_of env f)
eval_expr σ env (eq a b) = same_bits (value_of env a) (value_of env b) ∷ []
eval_expr σ env (mul a b) = binary 36 (number (value_of env a) * number (value_of env b))

-- the values after more records
unfoldable pub eval_all : Signals → Values → List Expr → Values
eval_all σ env [] = env
eval_all σ env (x ∷ xs) = eval_all σ (env ++ (eval_expr σ env x ∷ [])) xs
