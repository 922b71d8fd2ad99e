-- Name lookup on texts that are refused, and at the count of a map (document 01: "with an empty stretch at the front").
use Prim.Native.Nat.{ℕ}
use mathlib.Core.Path.{◌≡◌, refl}
use mathlib.Core.List.{List, [], ◌∷◌, ◌++◌, map}
use Rattle.paper.specs.declared.Map.{Map}
use Rattle.paper.specs.declared.Map.TheVariants.{Objects, Subjects}
use Rattle.paper.specs.Common.{bytes}
use Rattle.paper.specs.Page.{fault}
use Rattle.paper.specs.Lookup.{Stretch, front as lookupFront}
use Rattle.paper.specs.Promises.{file_of, lookup_answer, lookup_numbered}
use Rattle.paper.proofs.Computing.{computing}
use Rattle.paper.proofs.Texts.{Trial, maps}
use Rattle.paper.proofs.Refused.{refused, shortest}

abbrev front : Stretch
front = record { start = 0; bytes = [] }

every_refusal_at_the_front : (t : List ℕ) (number line d : ℕ) (which : Map) → file_of t ≡ fault number line → lookup_answer t which d ≡ front
unfolding lookup_answer lookupFront
every_refusal_at_the_front t number line d which r = rw r

-- every number from 3 to 11, though most of these texts have names
front_of_refused : map (λ (t : Trial). lookup_answer t.given Subjects 0) refused ++ map (λ (t : Trial). lookup_answer t.given Objects 0) refused ≡ map (λ (t : Trial). front) (refused ++ refused)
unfolding computing
front_of_refused = refl

-- one domain in each map: A at place 20, B at place 57
abbrev one : List ℕ
one = maps ++ bytes "- principal:\n    subject: B\n"

found_below_the_count :
    lookup_answer one Objects 0 ∷ lookup_answer one Objects 1 ∷ lookup_answer one Subjects 0 ∷ lookup_answer one Subjects 1 ∷ lookup_answer shortest Objects 0 ∷ lookup_answer shortest Subjects 0 ∷ []
    ≡ record { start = 20; bytes = bytes "A" } ∷ front ∷ record { start = 57; bytes = bytes "B" } ∷ front ∷ front ∷ front ∷ []
unfolding computing
found_below_the_count = refl

-- the maps are 1 and 2, and no other number is a map's
found_by_number :
    map (λ n. lookup_numbered one n 0) (0 ∷ 1 ∷ 2 ∷ 3 ∷ 65535 ∷ [])
    ≡ front ∷ record { start = 20; bytes = bytes "A" } ∷ record { start = 57; bytes = bytes "B" } ∷ front ∷ front ∷ []
unfolding computing
found_by_number = refl
