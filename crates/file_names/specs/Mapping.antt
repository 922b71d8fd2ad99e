-- What is asked of the indexes of the maps before their names go in, and what is known of them then.
use Rattle.std.specs.Prelude.{ℕ, ◌+◌, ◌*◌, ◌≤◌, ◌≡◌, List, [], false, length}
use Rattle.paper.specs.Limits.{most_domains, most_members}
use Rattle.paper.specs.Text.{no_line}
use Rattle.paper.specs.Listing.{object_name, subject_name, subject_members}
use Rattle.paper.specs.Page.{Field}
use Rattle.paper.specs.Rules.{repeats, repeated, domain_named, members_named, domains_at, identifiers_at}
use Rattle.file_index.specs.Words.{names_at, name_size}
use Rattle.file_index.specs.Buckets.{Index}
use Rattle.file_index.specs.Maps.{Maps}
use Rattle.file_names.specs.declared.Named.{Named}

-- an index with no name, and room for so many
pub record Fresh (t ix : List ℕ) (limit : ℕ) : Type 0 where
  pub empty : Index t ix 0 []
  pub room : names_at + name_size * limit ≤ length ix

-- an index has room for so many names, and there are no more than the limit
pub record HasRoom (ix : List ℕ) (count limit : ℕ) : Type 0 where
  pub room : names_at + name_size * count ≤ length ix
  pub few : count ≤ limit

-- the line of a function that stands twice; the indexes are those of the maps where there is none and no domain stands twice
pub record MapsTo (t : List ℕ) (fs : List Field) (objectIx subjectIx functionIx : List ℕ) (r : Named) : Type 0 where
  pub line : r.twice ≡ repeated (members_named subject_members) [] fs
  pub maps : repeated domain_named [] fs ≡ no_line → r.twice ≡ no_line → Maps t fs objectIx subjectIx functionIx r.objects r.subjects r.functions
  pub few_objects : r.objects ≤ most_domains
  pub few_subjects : r.subjects ≤ most_domains
  pub few_functions : r.functions ≤ most_members

-- no name stands in a map twice
pub record Distinct (fs : List Field) : Type 0 where
  pub objects : repeats [] (domains_at object_name fs) ≡ false
  pub subjects : repeats [] (domains_at subject_name fs) ≡ false
  pub functions : repeats [] (identifiers_at subject_members fs) ≡ false
