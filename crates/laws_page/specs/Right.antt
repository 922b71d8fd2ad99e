-- What holds of every field of a page that is not refused.
use Rattle.std.specs.Prelude.{List, [], ◌∷◌, Bool, not, ◌&&◌, ◌||◌, ℕ, ◌+◌, ◌≤◌, eqb, leb, length, take, drop}
use Rattle.paper.specs.Common.{is_empty, any_of, same}
use Rattle.paper.specs.Listing.{row_at, bare_is_none, no_fault, value_fault}
use Rattle.paper.specs.Page.{Field}

-- its value is right for its place, or it is bare
unfoldable pub is_right : Field → Bool
is_right f = is_empty f.value || eqb (value_fault (row_at f.place).value f.value) no_fault

-- its line is one: "numbered, from 1"
unfoldable pub is_numbered : Field → Bool
is_numbered f = leb 1 f.line

-- the lines of these are n or more, and ascend
abbrev pub Ascending : {A : Type 0} → (A → ℕ) → ℕ → List A → Type 0
Ascending line n [] = Unit
Ascending line n (x ∷ xs) = (n ≤ line x) × Ascending line (line x + 1) xs

-- its value is the very stretch of the text from its start on
unfoldable pub stands : List ℕ → Field → Bool
stands t f = same f.value (take (length f.value) (drop f.start t))

-- a bare field above that does not mean `[]` must have its block
unfoldable pub needs_block : ℕ → Bool → Bool
needs_block place bare = bare && not (bare_is_none (row_at place).value)

-- a field may stand behind the field of a place: its place begins the block of that place, or follows it
unfoldable pub may_follow : ℕ → Bool → Field → Bool
may_follow place bare f =
    (bare && any_of (eqb f.place) (row_at place).block) || (not (needs_block place bare) && any_of (eqb f.place) (row_at place).next)

-- fields in the order of the listing, behind the field of a place; the text may end with the last of them
unfoldable pub in_listing_order : ℕ → Bool → List Field → Bool
in_listing_order place bare [] = not (needs_block place bare) && (row_at place).last
in_listing_order place bare (f ∷ fs) = may_follow place bare f && in_listing_order f.place (is_empty f.value) fs
