-- An option is none or some, and some of one value only.
use Rattle.std.specs.Prelude.{◌≡◌, ◌≢◌, Some, None, unwrap_or}
use Rattle.std.proofs.Common.{ap, sym}
use Rattle.std.proofs.lemmas.Option.{none-some}

pub some_injective : {A : Type 0} (a b : A) → Some a ≡ Some b → a ≡ b
some_injective a b e = ap (λ o. unwrap_or o a) e

pub none_ne_some : {A : Type 0} (a : A) → None ≢ Some a
none_ne_some a e = none-some a e

pub some_ne_none : {A : Type 0} (a : A) → Some a ≢ None
some_ne_none a e = none-some a (sym e)
