-- What is counted of a field against a limit.
use Rattle.std.specs.Prelude.{◌≡◌, ℕ, ◌+◌, ◌≤◌, List, length}
use Rattle.paper.specs.Limits.{most_domains, most_members}
use Rattle.paper.specs.Listing.{object_name, object_members, subject_name, subject_members}
use Rattle.paper.specs.Page.{Field}
use Rattle.paper.specs.Rules.{earlier, passing, one_at, members_at}
use Rattle.file_fields.specs.Fields.{field_of}
use Rattle.file_fields.specs.declared.file.FieldAt.{FieldAt}

-- a closure answers no more for a field than a text has room for
abbrev pub Few : List ℕ → (FieldAt → ℕ → Type 0) → Type 0
Few t answers = (f : FieldAt) (w : ℕ) → answers f w → w ≤ length t + 1

-- it answers the weight of each field of the text
abbrev pub Weighs : List ℕ → (FieldAt → ℕ → Type 0) → (Field → ℕ) → Type 0
Weighs t answers weigh = (f : FieldAt) (w : ℕ) → answers f w → w ≡ weigh (field_of t f)

-- the first line at which a map has too many domains or members, or the line given
unfoldable pub map_line : List Field → ℕ → ℕ
map_line fs after =
    earlier (passing (λ f. f.line) (one_at object_name) most_domains 0 fs)
    (earlier (passing (λ f. f.line) (one_at subject_name) most_domains 0 fs)
    (earlier (passing (λ f. f.line) (members_at object_members) most_members 0 fs)
    (earlier (passing (λ f. f.line) (members_at subject_members) most_members 0 fs) after)))
