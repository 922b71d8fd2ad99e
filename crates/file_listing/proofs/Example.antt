-- The list of document 01's example, word for word, and lists that are too short for it.
use Prim.Native.Nat.{ℕ}
use mathlib.Core.Path.{◌≡◌, refl}
use mathlib.Core.List.{List, [], ◌∷◌, ◌++◌, map}
use lib.ListN.{replicate}
use Rattle.paper.specs.Answers.{packed}
use Rattle.paper.proofs.Computing.{computing}
use Rattle.paper.proofs.Example.{example}
use Rattle.file_listing.specs.declared.Listing.TheVariants.{Listed, Unlisted}
use Rattle.file_things.specs.Things.{thing, name_thing, element_things, each_thing, naming_at, things_in, things_of}
use Rattle.file_listing.specs.Answer.{list_answer, list_left, list_leaves, listing_packed}

-- Meter, its object, Main, its function, Bill, its two functions, and the entry of Bill
abbrev pub example_list : List ℕ
example_list =
    1 ∷ 2 ∷ 20 ∷ 5
    ∷ 2 ∷ 3 ∷ 38 ∷ 16
    ∷ 3 ∷ 5 ∷ 77 ∷ 4
    ∷ 4 ∷ 6 ∷ 95 ∷ 8
    ∷ 3 ∷ 7 ∷ 113 ∷ 4
    ∷ 4 ∷ 8 ∷ 131 ∷ 7
    ∷ 4 ∷ 8 ∷ 140 ∷ 7
    ∷ 5 ∷ 10 ∷ 187 ∷ 4
    ∷ []

example_answered : list_answer example ≡ Listed 32
unfolding computing list_answer things_of things_in naming_at name_thing each_thing element_things thing
example_answered = refl

example_listed : list_leaves example (replicate 33 7) ≡ example_list ++ (7 ∷ [])
unfolding computing list_leaves list_left things_of things_in naming_at name_thing each_thing element_things thing
example_listed = refl

one_word_short : list_leaves example (replicate 31 7) ≡ replicate 31 7
unfolding computing list_leaves list_left things_of things_in naming_at name_thing each_thing element_things thing
one_word_short = refl

-- what a caller in C gets
numbers : map listing_packed (Unlisted 4 12 ∷ Unlisted 2 0 ∷ Listed 32 ∷ Listed 9728 ∷ []) ≡ 0xC00010004 ∷ 0x10002 ∷ 0x2000020000 ∷ 0x260000020000 ∷ []
unfolding packed listing_packed
numbers = refl
