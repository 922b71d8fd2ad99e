-- What the program writes: numbers at the edges of their digits, the refusal of each text, and the filled text (document 01, "The pieces": "the filled
-- text, or the refusal number and line as `4 12` and LF"; that 2 and 31 are written `2 0` and `31 0` is point 22 of docs/DECISIONS.md).
use mathlib.Core.Path.{◌≡◌, refl}
use mathlib.Core.List.{[], ◌∷◌, ◌++◌, map}
use lib.ListN.{replicate}
use Rattle.paper.specs.declared.Filling.TheVariants.{Unfilled}
use Rattle.paper.specs.Common.{bytes}
use Rattle.paper.specs.Program.{decimal, writes, program_writes, program_size, program_leaves}
use Rattle.paper.proofs.Computing.{computing}
use Rattle.paper.proofs.Texts.{Trial}
use Rattle.paper.proofs.Example.{example, example_filled}
use Rattle.paper.proofs.Refused.{refused, shortest}

numbers_in_decimal :
    map decimal (0 ∷ 9 ∷ 10 ∷ 11 ∷ 31 ∷ 99 ∷ 100 ∷ 1009 ∷ 65537 ∷ [])
    ≡ bytes "0" ∷ bytes "9" ∷ bytes "10" ∷ bytes "11" ∷ bytes "31" ∷ bytes "99" ∷ bytes "100" ∷ bytes "1009" ∷ bytes "65537" ∷ []
unfolding computing
numbers_in_decimal = refl

refusals_as_told :
    map (writes shortest) (Unfilled 2 0 ∷ Unfilled 31 0 ∷ Unfilled 4 12 ∷ []) ≡ bytes "2 0\n" ∷ bytes "31 0\n" ∷ bytes "4 12\n" ∷ []
unfolding computing
refusals_as_told = refl

-- every number from 3 to 11
each_refusal_written :
    map (λ (t : Trial). program_writes t.given) refused
    ≡ bytes "3 1\n"
    ∷ bytes "4 1\n"
    ∷ bytes "5 2\n"
    ∷ bytes "6 11\n"
    ∷ bytes "7 10\n"
    ∷ bytes "8 10\n"
    ∷ bytes "9 10\n"
    ∷ bytes "10 13\n"
    ∷ bytes "11 10\n"
    ∷ []
unfolding computing
each_refusal_written = refl

example_filled_out : program_writes example ≡ example_filled
unfolding computing
example_filled_out = refl

-- nothing changes behind what is written
sizes_and_what_is_left :
    (program_size shortest ∷ program_size [] ∷ [] ≡ 46 ∷ 4 ∷ [])
    × (program_leaves shortest (replicate 48 1) ∷ program_leaves [] (replicate 6 1) ∷ [] ≡ (shortest ++ (1 ∷ 1 ∷ [])) ∷ (bytes "4 1\n" ++ (1 ∷ 1 ∷ [])) ∷ [])
unfolding computing
sizes_and_what_is_left = (refl, refl)
