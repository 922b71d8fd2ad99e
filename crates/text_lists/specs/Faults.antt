-- What is wrong with a value, as an answer; and the fault of a list whose brackets are right.
use Rattle.std.specs.Prelude.{ℕ, List, Bool, Result, Ok, Err, cond, eqb}
use Rattle.paper.specs.Common.{all_of}
use Rattle.paper.specs.declared.Scalar.{Scalar}
use Rattle.paper.specs.Scalars.{is_scalar}
use Rattle.paper.specs.Lists.{spaced, elements_in}
use Rattle.paper.specs.Listing.{no_fault}

-- what is wrong with what stands between the brackets
abbrev pub inside_fault : Scalar → List ℕ → ℕ
inside_fault scalar s = cond (spaced 0 s) (cond (all_of (is_scalar scalar) (elements_in s)) 0 5) 4

-- what is right, or the number of what is wrong with it
abbrev pub right_or : Bool → ℕ → Result (Unit {0}) ℕ
right_or right number = cond right (Ok tt) (Err number)

-- the same by the number alone, which is 0 where nothing is wrong
abbrev pub unless_fault : ℕ → Result (Unit {0}) ℕ
unless_fault number = right_or (eqb number no_fault) number
