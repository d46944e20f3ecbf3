-- Parts of an address, and counts that are limited.
use mathlib.Core.Path.{◌≡◌}
use mathlib.Core.List.{List, ◌++◌}
use Prim.Native.Nat.{ℕ, ◌≤◌, ◌<◌}
use borrow.Author.Tests.{le-leb, lt-leb}
use native.Mathlib.Omega.{arith}
use lib.ListN.{length}
use Rattle.std.proofs.lemmas.List.{length-append}
use Rattle.recorder.specs.Writer.{Writer, refuse}
use Rattle.address_mux.specs.Address.{at_most}

pub long_enough : (parts rest : List ℕ) {n : ℕ} → length parts ≡ n → n ≤ length (parts ++ rest)
long_enough parts rest q = omega (arith, q, length-append parts rest)

pub at_most_yes : {A : Type 0} (most n : ℕ) (w : Writer A) → n ≤ most → at_most most n w ≡ w
unfolding at_most
at_most_yes most n w h = rw (le-leb n most h)

pub at_most_no : {A : Type 0} (most n : ℕ) (w : Writer A) → most < n → at_most most n w ≡ refuse 1 n
unfolding at_most
at_most_no most n w h = rw (lt-leb n most h)
