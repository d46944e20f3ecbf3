use Rattle.std.proofs.Common.{rules, ℕ, Bool, List, [], ◌∷◌, get_or, eqb}
use Rattle.optimize.specs.Lut.{evens}
use Rattle.optimize.proofs.Table.{at}
use lib.Dec.{eqb→eq}
use Rattle.optimize.proofs.lut.even_bits.Goals as goal

table : List ℕ
table = 0 ∷ 1 ∷ 0 ∷ 1 ∷ 2 ∷ 3 ∷ 2 ∷ 3 ∷ 0 ∷ 1 ∷ 0 ∷ 1 ∷ 2 ∷ 3 ∷ 2 ∷ 3 ∷ 4 ∷ 5 ∷ 4 ∷ 5 ∷ 6 ∷ 7 ∷ 6 ∷ 7 ∷ 4 ∷ 5 ∷ 4 ∷ 5 ∷ 6 ∷ 7 ∷ 6 ∷ 7 ∷ 0 ∷ 1 ∷ 0 ∷ 1 ∷ 2 ∷ 3 ∷ 2 ∷ 3 ∷ 0 ∷ 1 ∷ 0 ∷ 1 ∷ 2 ∷ 3 ∷ 2 ∷ 3 ∷ 4 ∷ 5 ∷ 4 ∷ 5 ∷ 6 ∷ 7 ∷ 6 ∷ 7 ∷ 4 ∷ 5 ∷ 4 ∷ 5 ∷ 6 ∷ 7 ∷ 6 ∷ 7 ∷ 8 ∷ 9 ∷ 8 ∷ 9 ∷ 10 ∷ 11 ∷ 10 ∷ 11 ∷ 8 ∷ 9 ∷ 8 ∷ 9 ∷ 10 ∷ 11 ∷ 10 ∷ 11 ∷ 12 ∷ 13 ∷ 12 ∷ 13 ∷ 14 ∷ 15 ∷ 14 ∷ 15 ∷ 12 ∷ 13 ∷ 12 ∷ 13 ∷ 14 ∷ 15 ∷ 14 ∷ 15 ∷ 8 ∷ 9 ∷ 8 ∷ 9 ∷ 10 ∷ 11 ∷ 10 ∷ 11 ∷ 8 ∷ 9 ∷ 8 ∷ 9 ∷ 10 ∷ 11 ∷ 10 ∷ 11 ∷ 12 ∷ 13 ∷ 12 ∷ 13 ∷ 14 ∷ 15 ∷ 14 ∷ 15 ∷ 12 ∷ 13 ∷ 12 ∷ 13 ∷ 14 ∷ 15 ∷ 14 ∷ 15 ∷ 0 ∷ 1 ∷ 0 ∷ 1 ∷ 2 ∷ 3 ∷ 2 ∷ 3 ∷ 0 ∷ 1 ∷ 0 ∷ 1 ∷ 2 ∷ 3 ∷ 2 ∷ 3 ∷ 4 ∷ 5 ∷ 4 ∷ 5 ∷ 6 ∷ 7 ∷ 6 ∷ 7 ∷ 4 ∷ 5 ∷ 4 ∷ 5 ∷ 6 ∷ 7 ∷ 6 ∷ 7 ∷ 0 ∷ 1 ∷ 0 ∷ 1 ∷ 2 ∷ 3 ∷ 2 ∷ 3 ∷ 0 ∷ 1 ∷ 0 ∷ 1 ∷ 2 ∷ 3 ∷ 2 ∷ 3 ∷ 4 ∷ 5 ∷ 4 ∷ 5 ∷ 6 ∷ 7 ∷ 6 ∷ 7 ∷ 4 ∷ 5 ∷ 4 ∷ 5 ∷ 6 ∷ 7 ∷ 6 ∷ 7 ∷ 8 ∷ 9 ∷ 8 ∷ 9 ∷ 10 ∷ 11 ∷ 10 ∷ 11 ∷ 8 ∷ 9 ∷ 8 ∷ 9 ∷ 10 ∷ 11 ∷ 10 ∷ 11 ∷ 12 ∷ 13 ∷ 12 ∷ 13 ∷ 14 ∷ 15 ∷ 14 ∷ 15 ∷ 12 ∷ 13 ∷ 12 ∷ 13 ∷ 14 ∷ 15 ∷ 14 ∷ 15 ∷ 8 ∷ 9 ∷ 8 ∷ 9 ∷ 10 ∷ 11 ∷ 10 ∷ 11 ∷ 8 ∷ 9 ∷ 8 ∷ 9 ∷ 10 ∷ 11 ∷ 10 ∷ 11 ∷ 12 ∷ 13 ∷ 12 ∷ 13 ∷ 14 ∷ 15 ∷ 14 ∷ 15 ∷ 12 ∷ 13 ∷ 12 ∷ 13 ∷ 14 ∷ 15 ∷ 14 ∷ 15 ∷ []

right : ℕ → ℕ → Bool
right k x = eqb x (evens 4 k)

-- src/lut.rt:22:1
pub returns : goal.returns
unfolding table right evens
returns c = eqb→eq (get_or table c.args.byte 0) (evens 4 c.args.byte) (at right table tt c.args.byte (search rules))
