-- The names of the second worked file, as stretches of its text by their places in it, and the empty one at the front past the last (document 01: "Name lookup").
use Prim.Native.Nat.{ℕ}
use Prim.Native.String.{String}
use mathlib.Core.Path.{◌≡◌, refl}
use mathlib.Core.List.{List, [], ◌∷◌, ◌++◌, map}
use Rattle.paper.specs.declared.Map.TheVariants.{Objects, Subjects}
use Rattle.paper.specs.Common.{bytes, count_up}
use Rattle.paper.specs.Page.{Outcome, fields, fault}
use Rattle.paper.specs.Lookup.{Stretch, name_in}
use Rattle.paper.specs.Promises.{file_of}
use Rattle.paper.proofs.Computing.{computing}
use Rattle.paper.proofs.Worked.{worked}

abbrev stretch : ℕ → String → Stretch
stretch start name = record { start = start; bytes = bytes name }

-- the names of object domains 0 to 4, and of subject domains 0 to 5
abbrev names : Outcome → List Stretch
names (fields fs) = map (λ d. name_in Objects d (fields fs)) (count_up 0 5) ++ map (λ d. name_in Subjects d (fields fs)) (count_up 0 6)
names (fault number line) = []

pub worked_names :
    names (file_of worked)
    ≡ (stretch 70 "Gauges" ∷ stretch 140 "Spare" ∷ stretch 211 "Heaps" ∷ stretch 296 "Misc" ∷ stretch 0 "" ∷ [])
    ++ (stretch 364 "Boot" ∷ stretch 410 "Idle" ∷ stretch 438 "Ctl" ∷ stretch 492 "Net" ∷ stretch 527 "Log" ∷ stretch 0 "" ∷ [])
unfolding computing
worked_names = refl
