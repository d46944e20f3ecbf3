-- What a parser means to code that only checks: where it ends, or the refusal. The values are forgotten.
use Rattle.std.specs.Prelude.{◌≡◌, [], true, false, ℕ, eqb, Result, Ok, Err}
use Rattle.refusal.specs.declared.Refusal.{Refusal}
use Rattle.refusal.specs.declared.Refusal.TheVariants.{WordCount, WordValue}
use Rattle.netlist.specs.Reader
use Rattle.netlist.specs.Reader.{base, Step, got, fault, Parser}

-- a parser's faults are 4 and 5
abbrev pub refusal_of : ℕ → ℕ → Refusal
refusal_of n place = elim (eqb n 4) [ true ↦ WordCount place | false ↦ WordValue place ]

abbrev pub end_of : {A : Type 0} → Step A → Result ℕ Refusal
end_of (got a i) = Ok i
end_of (fault n place) = Err (refusal_of n place)

-- r is what the parser comes to at index i
pub record Passed {A : Type 0} (p : Parser A) (i : ℕ) (r : Result ℕ Refusal) : Type 0 where
  pub is : r ≡ end_of (p i)

-- the section must end here
abbrev pub ends_at : ℕ → Parser ℕ
ends_at end = Reader.section_end base [] end 0
