-- The program never writes 30: it lends the filler room for the longest filled text, and the reader has no such number.
use mathlib.Core.Path.{◌≡◌, refl}
use mathlib.Core.Bool.{Bool, true, false, cond}
use mathlib.Core.List.{List}
use Prim.Native.Nat.{ℕ, ◌≤◌}
use native.Mathlib.Omega.{arith}
use lib.Dec.{ltb}
use lib.ListN.{length}
use Rattle.paper.specs.declared.Filling.TheVariants.{Written, Unfilled}
use Rattle.paper.specs.Limits.{text_bytes}
use Rattle.paper.specs.Text.{no_line}
use Rattle.paper.specs.Page.{Outcome, fields, fault}
use Rattle.paper.specs.Filled.{filled_text}
use Rattle.paper.specs.Promises.{file_of, written_in, filling_of}
use Rattle.laws_file.specs.AtFault.{Refusal, text_too_long, bad_byte, layout, empty_field, malformed_scalar}
use Rattle.laws_file.specs.AtFault.{count_over_limit, name_twice, name_unknown, variable_unbound, principal_twin, number_of, RefusedRightly}
use Rattle.laws_file.proofs.Accepted.{refused_smallest}

up_to_eleven : (r : Refusal) → number_of r ≤ 11
up_to_eleven text_too_long = omega arith
up_to_eleven bad_byte = omega arith
up_to_eleven layout = omega arith
up_to_eleven empty_field = omega arith
up_to_eleven malformed_scalar = omega arith
up_to_eleven count_over_limit = omega arith
up_to_eleven name_twice = omega arith
up_to_eleven name_unknown = omega arith
up_to_eleven variable_unbound = omega arith
up_to_eleven principal_twin = omega arith

never_no_room : (size line : ℕ) → written_in text_bytes size ≡ Unfilled 30 line → ⊥
unfolding written_in
never_no_room size line e = go (ltb text_bytes size) e
  where
    go : (x : Bool) → cond x (Unfilled 31 no_line) (cond x (Unfilled 30 no_line) (Written size)) ≡ Unfilled 30 line → ⊥
    go true e = let z : ◌≡◌ {A = ℕ} 31 30 = cc in omega arith
    go false e = let z : ◌≡◌ {A = ℕ} 0 1 = cc in omega arith

pub never_thirty : (t : List ℕ) (line : ℕ) → filling_of text_bytes (file_of t) ≡ Unfilled 30 line → ⊥
never_thirty t line e = go (file_of t) refl e
  where
    go : (o : Outcome) → file_of t ≡ o → filling_of text_bytes o ≡ Unfilled 30 line → ⊥
    go (fields fs) p q = never_no_room (length (filled_text fs)) line q
    go (fault k m) p q =
        let w : RefusedRightly t k m = refused_smallest t k m p in
        let z : k ≡ 30 = cc in
        omega (arith, w.number, up_to_eleven w.refusal)
