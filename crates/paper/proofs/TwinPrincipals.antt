-- 11, limb by limb: "Principals are the same when subject and pattern elements are equal and uid and gid are of the same sort (two variables are the same sort)".
use Prim.Native.Nat.{ℕ, ◌+◌}
use Prim.Native.String.{String}
use mathlib.Core.Path.{◌≡◌, refl}
use mathlib.Core.Bool.{Bool, true, false}
use mathlib.Core.List.{List, [], ◌∷◌, ◌++◌, map}
use lib.ListN.{replicate}
use Rattle.paper.specs.Common.{bytes}
use Rattle.paper.specs.Listing.{principal, subject_of_entry, execution_context, can_call, can_read, call_context_in, uid_in, gid_in, namespace_in}
use Rattle.paper.specs.Page.{Field}
use Rattle.paper.specs.Rules.{same_principal, twin_principal}
use Rattle.paper.proofs.Computing.{computing}
use Rattle.paper.proofs.Texts.{at}

-- an entry from a line on: its subject, and what else is written in it
abbrev from : ℕ → String → List Field → List Field
from line subject others = at principal [] line ∷ at subject_of_entry (bytes subject) (line + 1) ∷ others

abbrev pattern : String → List Field
pattern v = at (call_context_in execution_context) (bytes v) 0 ∷ []

abbrev uid : String → List Field
uid v = at (uid_in execution_context) (bytes v) 0 ∷ []

abbrev gid : String → List Field
gid v = at (gid_in execution_context) (bytes v) 0 ∷ []

abbrev namespace : String → List Field
namespace v = at (namespace_in execution_context) (bytes v) 0 ∷ []

record Pair : Type 0 where
  one : List Field
  other : List Field

abbrev pair : List Field → List Field → Pair
pair a b = record { one = from 1 "B" a; other = from 9 "B" b }

abbrev twins : List Pair → List Bool
twins pairs = map (λ (p : Pair). same_principal p.one p.other) pairs

-- what tells two entries apart, alone
told_apart_lem :
    twins
    (record { one = from 1 "B" []; other = from 9 "C" [] }
    ∷ pair (pattern "[f|g]") (pattern "[f|h]")
    ∷ pair (pattern "[all]") (pattern "[all, all]")
    ∷ pair (pattern "[f|g, all]") (pattern "[all, f|g]")
    -- "Principals stay compared as written" (document 02 d): a domain, and its only function
    ∷ pair (pattern "[B]") (pattern "[f|g]")
    ∷ pair (pattern "[B]") (pattern "[C]")
    ∷ pair (pattern "[B]") (pattern "[all]")
    ∷ pair (uid "all") (uid "U")
    ∷ pair (uid "all") (uid "root")
    ∷ pair (uid "user") (uid "all")
    ∷ pair (uid "U") (uid "root")
    ∷ pair (uid "user") (uid "U")
    ∷ pair (uid "root") (uid "user")
    ∷ pair (gid "all") (gid "G")
    ∷ pair (uid "U") (gid "U")
    ∷ pair (namespace "all") (namespace "N")
    ∷ pair (gid "U") (namespace "U")
    ∷ [])
    ≡ replicate 17 false
unfolding computing
told_apart_lem = refl

-- "omitted and written defaults are the same"; a variable's name, and what is granted, play no part
one_principal_lem :
    twins
    (pair [] (pattern "[all]" ++ (uid "all" ++ (gid "all" ++ namespace "all")))
    ∷ pair (uid "root") (uid "root" ++ gid "all")
    ∷ pair (uid "user") (uid "user")
    ∷ pair (uid "U" ++ (gid "G" ++ namespace "N")) (uid "V" ++ (gid "H" ++ namespace "M"))
    ∷ pair (pattern "[f|h, B, all]") (pattern "[f|h, B, all]")
    ∷ pair (at can_call (bytes "[B]") 3 ∷ at can_read [] 4 ∷ []) (at can_call (bytes "all") 11 ∷ [])
    ∷ [])
    ≡ true ∷ true ∷ true ∷ true ∷ true ∷ true ∷ []
unfolding computing
one_principal_lem = refl

-- "the later entry's `principal` line", whatever stands between the two; of two pairs the one that ends first
line_of_the_later :
    map twin_principal
    ((from 1 "B" (uid "root") ++ from 5 "B" (uid "root"))
    ∷ (from 1 "B" (uid "root") ++ (from 5 "B" (uid "user") ++ (from 9 "C" (uid "root") ++ from 13 "B" (uid "root"))))
    ∷ (from 1 "B" (uid "root") ++ (from 5 "C" (uid "root") ++ (from 9 "C" (uid "root") ++ from 13 "B" (uid "root"))))
    ∷ (from 1 "B" [] ++ (from 5 "B" [] ++ from 9 "B" []))
    ∷ (from 1 "B" (uid "all") ++ (from 5 "B" (uid "U") ++ (from 9 "B" (uid "root") ++ (from 13 "B" (uid "user") ++ from 17 "C" []))))
    ∷ [])
    ≡ 5 ∷ 13 ∷ 9 ∷ 5 ∷ 0 ∷ []
unfolding computing
line_of_the_later = refl
