-- The indexes of a file's maps: its object domains, its subject domains, its functions.
use Rattle.std.specs.Prelude.{ℕ, ◌+◌, ◌*◌, ◌≤◌, List, length}
use Rattle.paper.specs.Limits.{most_domains, most_members}
use Rattle.paper.specs.Listing.{object_name, subject_name, subject_members}
use Rattle.paper.specs.Page.{Field}
use Rattle.paper.specs.Rules.{domains_at, identifiers_at}
use Rattle.file_index.specs.Words.{names_at, name_size}
use Rattle.file_index.specs.Buckets.{Index}

-- an index of so many names has room for them, and no map has more of them than its limit
pub record Mapped (t ix : List ℕ) (n limit : ℕ) (names : List (List ℕ)) : Type 0 where
  pub index : Index t ix n names
  pub room : names_at + name_size * n ≤ length ix
  pub few : n ≤ limit

-- the three indexes that the rules and the table look names up in
pub record Maps (t : List ℕ) (file : List Field) (objectIx subjectIx functionIx : List ℕ) (objects subjects functions : ℕ) : Type 0 where
  pub of_objects : Mapped t objectIx objects most_domains (domains_at object_name file)
  pub of_subjects : Mapped t subjectIx subjects most_domains (domains_at subject_name file)
  pub of_functions : Mapped t functionIx functions most_members (identifiers_at subject_members file)
