-- Document 01 as definitions, file by file in its own order; Promises.antt says what each public function answers and leaves behind.
-- How to read one:
--   `unfoldable f` and `abbrev f` define f by the equations that follow; the difference concerns proofs alone;
--   `cond test a b` is a where the test is true, else b; `a && b`, `a || b`, `not a` are as in code; `eqb`, `ltb`, `leb` test =, <, ≤;
--   `x ∷ xs` is a list with x in front, `[]` the empty one, `++` joins two; `map f xs` is f of each element;
--   `r.field` is a field of the record r, and `record { field = v; .. }` makes one;
--   `λ x. e` is the function that gives e for x; `f x y` is f applied to x and y;
--   numbers are whole and unbounded; `a - b` is 0 where b is larger; `get_or xs i d` is element i of a list, or d past its end.
pub mod Common
pub mod Limits
pub mod Text
pub mod Scalars
pub mod Lists
pub mod Listing
pub mod Page
pub mod Entries
pub mod Rules
pub mod Policy
pub mod Table
pub mod Match
pub mod Verdict
pub mod Overlap
pub mod Filled
pub mod Lookup
pub mod Answers
pub mod Promises
pub mod Program
