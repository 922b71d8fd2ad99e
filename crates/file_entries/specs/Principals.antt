-- Principals by number: the hash of each, and the entries that were passed, each with its hash.
use Rattle.std.specs.Prelude.{ℕ, zero, suc, ◌+◌, ◌*◌, ◌%◌, ◌<◌, ◌≤◌, ◌≡◌, List, [], ◌∷◌, Bool, not, eqb, length, get_or}
use Rattle.paper.specs.Listing.{subject_of_entry, execution_context, call_context_in, uid_in, gid_in, namespace_in}
use Rattle.paper.specs.Scalars.{sort_number, sort_of}
use Rattle.paper.specs.Page.{Field}
use Rattle.paper.specs.Entries.{value_at}
use Rattle.file_fields.specs.Fields.{between}
use Rattle.file_fields.specs.declared.file.FieldAt.{FieldAt}
use Rattle.file_entries.specs.declared.Bounds.{Bounds}
use Rattle.file_index.specs.Buckets.{hashes}
use Rattle.file_entries.specs.Weights.{weight_of}

-- there are four sorts
abbrev pub sorts : ℕ
sorts = 4

-- the weight of the value at a place
unfoldable pub weight_at : ℕ → List Field → ℕ
weight_at place entry = weight_of (value_at place entry)

-- the number of the sort at a place
unfoldable pub sort_at : ℕ → List Field → ℕ
sort_at place entry = sort_number (sort_of (value_at place entry))

-- a number that equal principals have in common, and others hardly ever
unfoldable pub principal_hash : List Field → ℕ
principal_hash entry =
    (sorts
    * (sorts
    * (sorts * (weight_at subject_of_entry entry + weight_at (call_context_in execution_context) entry) + sort_at (uid_in execution_context) entry)
    + sort_at (gid_in execution_context) entry)
    + sort_at (namespace_in execution_context) entry)
    % hashes

-- the hash of entry j is not that of entry k
abbrev pub is_other_hash : List ℕ → ℕ → ℕ → Bool
is_other_hash hashes k j = not (eqb (get_or hashes j 0) (get_or hashes k 0))

-- what is looked at where no entry is
abbrev pub no_bounds : Bounds
no_bounds = record { from = 0; to = 0 }

-- entry j: from its first field up to the next entry's
abbrev pub entry_in : List ℕ → List FieldAt → List Bounds → ℕ → List Field
entry_in t list bounds j = between t list (get_or bounds j no_bounds).from (get_or bounds j no_bounds).to

-- the entries below number j, the last first
unfoldable pub entries_below : List ℕ → List FieldAt → List Bounds → ℕ → List (List Field)
entries_below t list bounds zero = []
entries_below t list bounds (suc j) = entry_in t list bounds j ∷ entries_below t list bounds j

-- entry j stands within the list and has its hash
pub record Hashed (t : List ℕ) (list : List FieldAt) (bounds : List Bounds) (hashes : List ℕ) (j : ℕ) : Type 0 where
  pub start : j < length bounds
  pub room : j < length hashes
  pub order : (get_or bounds j no_bounds).from ≤ (get_or bounds j no_bounds).to
  pub end : (get_or bounds j no_bounds).to ≤ length list
  pub hash : get_or hashes j 0 ≡ principal_hash (entry_in t list bounds j)

-- so does each of those below number n
abbrev pub AllHashed : List ℕ → List FieldAt → List Bounds → List ℕ → ℕ → Type 0
AllHashed t list bounds hashes n = (j : ℕ) → j < n → Hashed t list bounds hashes j
