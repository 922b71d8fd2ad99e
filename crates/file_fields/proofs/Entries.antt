-- The entries one after the other: each begins at a `principal` and ends at the next one, where the walk stands then.
use mathlib.Core.Path.{◌≡◌, refl, sym}
use mathlib.Core.List.{List, [], ◌∷◌}
use Prim.Native.Nat.{ℕ, ◌+◌, ◌-◌, ◌<◌, ◌≤◌}
use native.Mathlib.Omega.{arith}
use lib.ListN.{length}
use Rattle.paper.specs.Listing.{principal}
use Rattle.paper.specs.Entries.{entries_of, line_of_entry}
use Rattle.file_fields.specs.Fields.{field_of, line_in, between, next_at}
use Rattle.file_fields.proofs.Between.{between_more}
use Rattle.file_fields.proofs.Walking.{walk_stands, walk_on, walk_within, walk_less, stretches_first, stretches_more, stretches_none}
use Rattle.file_fields.specs.declared.file.FieldAt.{FieldAt}

module _ (list : List FieldAt) (from n to : ℕ) (e : to ≡ next_at list principal from (n - from)) where
  -- the walk stands at a `principal`, or at the end
  pub entry_stands : next_at list principal to (n - to) ≡ to
  entry_stands = walk_stands list principal from n to e

  -- before it there is no entry
  pub entries_first : (t : List ℕ) → from ≤ n → entries_of (between t list to n) ≡ entries_of (between t list from n)
  unfolding entries_of
  entries_first t h = sym (stretches_first list principal from n to t h e)

-- the entry where the walk stands ends at the next one
module _ (list : List FieldAt) (from n to : ℕ) (h : from < n) (e : to ≡ next_at list principal (from + 1) (n - (from + 1))) where
  pub entry_less : n - to < n - from
  entry_less = walk_less list principal from n to e h

  pub entry_room : n ≤ length list → to ≤ length list
  entry_room l = omega (arith, walk_within list principal from n to e h)

  module _ (t : List ℕ) where
    pub entry_line : line_of_entry (between t list from to) ≡ line_in list from
    unfolding line_of_entry field_of
    entry_line = rw (between_more t list from to (omega (arith, walk_on list principal from n to e))) refl

    pub entries_more : next_at list principal from (n - from) ≡ from → entries_of (between t list from n) ≡ between t list from to ∷ entries_of (between t list to n)
    unfolding entries_of
    entries_more s = stretches_more list principal from n to e t (record { within = omega arith; stands = s }) h

pub entries_none : (t : List ℕ) (list : List FieldAt) (from n : ℕ) → n ≤ from → entries_of (between t list from n) ≡ []
unfolding entries_of
entries_none t list from n h = stretches_none list principal from n t h
