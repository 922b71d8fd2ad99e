-- Names of document 01's example, found by its list.
use mathlib.Core.Path.{◌≡◌, refl}
use mathlib.Core.List.{[], ◌∷◌, ◌++◌}
use Rattle.paper.specs.Common.{bytes}
use Rattle.paper.proofs.Computing.{computing}
use Rattle.paper.proofs.Example.{example}
use Rattle.file_listing.proofs.Example.{example_list}
use Rattle.file_find.specs.Number.{names_of_kind, number_of}

-- each kind is numbered by itself; a name that is not of the kind, or only begins with one that is, gets the kind's count
example_found :
    number_of example example_list 1 (bytes "Meter")
    ∷ number_of example example_list 2 (bytes "GLOBAL|m.c|4|kwh")
    ∷ number_of example example_list 3 (bytes "Bill")
    ∷ number_of example example_list 4 (bytes "b.c|sum")
    ∷ number_of example example_list 5 (bytes "Bill")
    ∷ number_of example example_list 3 (bytes "Meter")
    ∷ number_of example example_list 4 (bytes "b.c|su")
    ∷ number_of example example_list 0 (bytes "Bill")
    ∷ []
    ≡ 0 ∷ 0 ∷ 1 ∷ 2 ∷ 0 ∷ 2 ∷ 3 ∷ 0 ∷ []
unfolding computing number_of names_of_kind
example_found = refl

-- a rest of fewer than four words is not looked at
rest_unread : number_of example (example_list ++ (5 ∷ 0 ∷ 0 ∷ [])) 5 (bytes "Main") ≡ 1
unfolding computing number_of names_of_kind
rest_unread = refl
