-- The promise of the list fixes everything.
use mathlib.Core.Path.{◌≡◌, sym, ◌∙◌}
use mathlib.Core.List.{List}
use Prim.Native.Nat.{ℕ}
use Rattle.file_listing.specs.declared.Listing.{Listing}
use Rattle.file_listing.specs.Answer.{list_answer, list_leaves}

-- "any two results satisfying it agree": the answer and every word lent, refused calls as well
pub listings_agree : (t out : List ℕ) (a a' : Listing) (left left' : List ℕ)
    → (a ≡ list_answer t) × (left ≡ list_leaves t out) → (a' ≡ list_answer t) × (left' ≡ list_leaves t out) → (a ≡ a') × (left ≡ left')
listings_agree t out a a' left left' p q = (p.0 ∙ sym q.0, p.1 ∙ sym q.1)
