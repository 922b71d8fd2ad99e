-- 9,728 words have room for the list of any accepted text: 128 domains, 1,024 objects, 128 domains, 1,024 functions and 128 entries, four words each.
use mathlib.Core.Path.{◌≡◌}
use mathlib.Core.Bool.{Bool, true, false, cond}
use mathlib.Core.List.{List, [], ◌∷◌}
use Prim.Native.Nat.{ℕ, ◌+◌, ◌*◌, ◌≤◌}
use native.Mathlib.Omega.{arith}
use lib.ListN.{length}
use Rattle.paper.specs.Lists.{elements}
use Rattle.paper.specs.Listing.{object_name, object_members, subject_name, subject_members, principal}
use Rattle.paper.specs.Page.{Field, fields}
use Rattle.paper.specs.Entries.{is_at}
use Rattle.paper.specs.Rules.{one_at, members_at}
use Rattle.paper.specs.Promises.{file_of}
use Rattle.laws_file.specs.Accepted.{total}
use Rattle.laws_file.proofs.Kept.{Counted, counted, no_line_lem}
use Rattle.laws_file.proofs.EachRule.{page_numbered}
use Rattle.laws_file.proofs.Reader.{accepted_page}
use Rattle.file_things.specs.Things.{thing_size, naming_at, things_of, count_as, thing_count}
use Rattle.file_things.proofs.Words.{by_tests, file_long}

-- what a field names is counted by one of the five limits
few_in : (f : Field)
    → thing_count f ≤ one_at object_name f + members_at object_members f + one_at subject_name f + members_at subject_members f + one_at principal f
unfolding thing_count naming_at one_at members_at
few_in f = go (is_at object_name f) (is_at object_members f) (is_at subject_name f) (is_at subject_members f) (is_at principal f)
  where
    go : (u v w x y : Bool)
        → count_as (by_tests u v w x y) f
        ≤ cond u 1 0 + cond v (length (elements f.value)) 0 + cond w 1 0 + cond x (length (elements f.value)) 0 + cond y 1 0
    go true v w x y = omega arith
    go false true w x y = omega arith
    go false false true x y = omega arith
    go false false false true y = omega arith
    go false false false false true = omega arith
    go false false false false false = omega arith

few : (fs : List Field)
    → length (things_of fs)
    ≤ thing_size
    * (total (one_at object_name) fs
    + total (members_at object_members) fs
    + total (one_at subject_name) fs
    + total (members_at subject_members) fs
    + total (one_at principal) fs)
unfolding things_of total
few [] = omega arith
few (f ∷ fs) = omega (arith, file_long f fs, few_in f, few fs)

pub room_for_any : (t : List ℕ) (fs : List Field) → file_of t ≡ fields fs → length (things_of fs) ≤ 9728
room_for_any t fs h =
    let a = accepted_page t fs h in
    let c : Counted fs = counted fs (page_numbered t fs a.0) (no_line_lem fs fs a.1).0.limits in
    omega (arith, few fs, c.object_domains, c.objects, c.subject_domains, c.functions, c.entries)
