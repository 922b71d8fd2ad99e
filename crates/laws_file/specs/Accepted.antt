-- What is known of the fields and entries of a file that is accepted.
use Rattle.std.specs.Prelude.{ℕ, ◌+◌, List, [], ◌∷◌, Bool, not, ◌&&◌, ◌||◌, eqb, length}
use Rattle.paper.specs.Common.{is_empty, any_of, all_of, up_to}
use Rattle.paper.specs.Listing.{subject_of_entry, listing, row_at, bare_is_none}
use Rattle.paper.specs.Page.{Field}
use Rattle.paper.specs.Entries.{is_at}
use Rattle.paper.specs.Rules.{long_pattern, names_unknown, is_unbound}
use Rattle.laws_page.specs.Right.{is_right}

-- what several things weigh together
unfoldable pub total : {A : Type 0} → (A → ℕ) → List A → ℕ
total weight [] = 0
total weight (x ∷ xs) = weight x + total weight xs

-- a field is not left empty: it has a value, or means `[]`, or can have a block
unfoldable pub is_filled : Field → Bool
is_filled f = not (is_empty f.value) || bare_is_none (row_at f.place).value || not (is_empty (row_at f.place).block)

-- a field is right, is not left empty, holds to the limit of patterns, and names what the file has
unfoldable pub is_good : List Field → Field → Bool
is_good file f = is_right f && is_filled f && not (long_pattern f) && not (names_unknown file f)

-- an entry says its subject, its fields are good, and their variables are bound
unfoldable pub is_good_entry : List Field → List Field → Bool
is_good_entry file entry = any_of (is_at subject_of_entry) entry && all_of (is_good file) entry && all_of (λ f. not (is_unbound entry f)) entry

-- one place begins the block of another, or follows it
unfoldable pub comes_behind : ℕ → ℕ → Bool
comes_behind behind place = any_of (eqb behind) (row_at place).block || any_of (eqb behind) (row_at place).next

-- it does so of this place alone
unfoldable pub only_behind : ℕ → ℕ → Bool
only_behind alone behind = up_to (λ place. eqb place alone || not (comes_behind behind place)) (length listing)
