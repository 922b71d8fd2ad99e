-- The texts of a value's line, a context, an item and an access, part by part: room for a text is room for its parts, and it is put as they are.
use mathlib.Core.Path.{◌≡◌, refl, sym, ap, ◌∙◌}
use mathlib.Core.Bool.{false}
use mathlib.Core.List.{List, [], ◌∷◌, ◌++◌, flat_map}
use Prim.Native.Nat.{ℕ, ◌+◌, ◌-◌, ◌<◌, ◌≤◌}
use native.Mathlib.Omega.{arith}
use lib.ListN.{length}
use borrow.Author.Tests.{ne_eqb}
use Rattle.paper.specs.Common.{bytes, is_empty}
use Rattle.paper.specs.Listing.{call_context_in, uid_in, gid_in, namespace_in, objects_in, object_context_in}
use Rattle.paper.specs.Page.{Field}
use Rattle.paper.specs.Entries.{default_at, stretches_from, items_of}
use Rattle.paper.specs.Filled.{key_line, bare_line, value_line, context_text, item_text, access_text}
use Rattle.file_fields.specs.Fields.{between, value_or, next_at, next_key}
use Rattle.file_fields.specs.Places.{IsContext}
use Rattle.file_fields.specs.declared.file.FieldAt.{FieldAt}
use Rattle.file_fields.proofs.Places.{told_value}
use Rattle.file_fields.proofs.Walking.{walked, stretches_first, stretches_more, stretches_none}
use Rattle.filled_lines.specs.Omitted.{omitted_keys}
use Rattle.filled_lines.proofs.Omitted.{context_skipped, context_omitted}

-- the value that the code found at a place
value_is : (place : ℕ) (fs : List Field) (omitted v : List ℕ) → default_at place ≡ omitted → v ≡ value_or omitted (bytes "[]") place fs → value_line place fs ≡ key_line place v
unfolding value_line
value_is place fs omitted v d e = ap (key_line place) (sym (told_value place fs omitted v d e))

-- `can_read` or `can_write`: items stand there where there is a field of their place
there_are : (x : List Field) (xs ys : List (List Field)) → ys ≡ x ∷ xs → is_empty ys ≡ false
there_are x xs ys e = ne_eqb (length ys) 0 (λ z. absurd (omega (arith, ap length e)))

module _ (t : List ℕ) (list : List FieldAt) (access from to n : ℕ) (h : from ≤ to) (e : n ≡ next_at list (access + 1) from (to - from)) where
  -- where the first item ends, and the items from a number on
  abbrev after : ℕ
  after = next_at list (access + 1) (n + 1) (to - (n + 1))

  abbrev items : ℕ → List (List Field)
  items i = stretches_from (objects_in access) (between t list i to)

  line_is : to ≤ n → access_text access (between t list from to) ≡ value_line access (between t list from to)
  unfolding access_text items_of
  line_is k =
      let none : items from ≡ [] = stretches_first list (access + 1) from to n t h e ∙ stretches_none list (access + 1) n to t k in
      rw none refl

  items_are : n < to
      → access_text access (between t list from to) ≡ bare_line access ++ flat_map (item_text access) (items_of access (between t list from to))
  unfolding access_text items_of
  items_are k =
      let first : items from ≡ items n = stretches_first list (access + 1) from to n t h e in
      let more : items n ≡ between t list n after ∷ items after =
      stretches_more list (access + 1) n to after refl t (walked list (access + 1) from to n h e) k in
      rw (there_are _ _ _ (first ∙ more)) refl

module _ {S : Type 0} (Fits : S → List ℕ → Type 0) (s : S) where
  pub value_fits : (place : ℕ) (fs : List Field) (omitted v : List ℕ) → default_at place ≡ omitted → v ≡ value_or omitted (bytes "[]") place fs
      → Fits s (value_line place fs) → Fits s (key_line place v)
  value_fits place fs omitted v d e h = rw (value_is place fs omitted v d e) at h

  module _ (place : ℕ) (fs : List Field) where
    pub context_fits : Fits s (context_text place fs)
        → Fits s (bare_line place ++ (value_line (call_context_in place) fs ++ (value_line (uid_in place) fs ++ (value_line (gid_in place) fs ++ value_line (namespace_in place) fs))))
    unfolding context_text
    context_fits h = h

    pub item_fits : Fits s (item_text place fs) → Fits s (value_line (objects_in place) fs ++ context_text (object_context_in place) fs)
    unfolding item_text
    item_fits h = h

  module _ (t : List ℕ) (list : List FieldAt) (place from to : ℕ) where
    pub found_fits : (first : ℕ) → first ≡ next_key list place from (to - from) → Fits s (context_text place (between t list from to))
        → Fits s (context_text place (between t list first to))
    found_fits first e h = rw (context_skipped t list place from to first e) h

    pub omitted_fits : IsContext place → to ≤ next_key list place from (to - from) → Fits s (context_text place (between t list from to))
        → Fits s (bare_line place ++ omitted_keys)
    omitted_fits which k h = rw (context_omitted t list place from to _ refl which k) at h

  module _ (t : List ℕ) (list : List FieldAt) (access from to n : ℕ) where
    pub line_fits : from ≤ to → n ≡ next_at list (access + 1) from (to - from) → to ≤ n → Fits s (access_text access (between t list from to))
        → Fits s (value_line access (between t list from to))
    line_fits h e k r = rw (line_is t list access from to n h e k) at r

    pub items_fit : from ≤ to → n ≡ next_at list (access + 1) from (to - from) → n < to → Fits s (access_text access (between t list from to))
        → Fits s (bare_line access ++ flat_map (item_text access) (items_of access (between t list from to)))
    items_fit h e k r = rw (items_are t list access from to n h e k) at r

module _ {S : Type 0} (Put : S → List ℕ → S → Type 0) (s m : S) where
  pub value_put : (place : ℕ) (fs : List Field) (omitted v : List ℕ) → default_at place ≡ omitted → v ≡ value_or omitted (bytes "[]") place fs
      → Put s (key_line place v) m → Put s (value_line place fs) m
  value_put place fs omitted v d e h = rw (value_is place fs omitted v d e) h

  module _ (place : ℕ) (fs : List Field) where
    pub context_put : Put s (bare_line place ++ (value_line (call_context_in place) fs ++ (value_line (uid_in place) fs ++ (value_line (gid_in place) fs ++ value_line (namespace_in place) fs)))) m
        → Put s (context_text place fs) m
    unfolding context_text
    context_put h = h

    pub item_put : Put s (value_line (objects_in place) fs ++ context_text (object_context_in place) fs) m → Put s (item_text place fs) m
    unfolding item_text
    item_put h = h

  module _ (t : List ℕ) (list : List FieldAt) (place from to : ℕ) where
    pub found_put : (first : ℕ) → first ≡ next_key list place from (to - from) → Put s (context_text place (between t list first to)) m
        → Put s (context_text place (between t list from to)) m
    found_put first e h = rw (context_skipped t list place from to first e) at h

    pub omitted_put : IsContext place → to ≤ next_key list place from (to - from) → Put s (bare_line place ++ omitted_keys) m
        → Put s (context_text place (between t list from to)) m
    omitted_put which k h = rw (context_omitted t list place from to _ refl which k) h

  module _ (t : List ℕ) (list : List FieldAt) (access from to n : ℕ) where
    pub line_put : from ≤ to → n ≡ next_at list (access + 1) from (to - from) → to ≤ n → Put s (value_line access (between t list from to)) m
        → Put s (access_text access (between t list from to)) m
    line_put h e k r = rw (line_is t list access from to n h e k) r

    pub items_put : from ≤ to → n ≡ next_at list (access + 1) from (to - from) → n < to
        → Put s (bare_line access ++ flat_map (item_text access) (items_of access (between t list from to))) m → Put s (access_text access (between t list from to)) m
    items_put h e k r = rw (items_are t list access from to n h e k) r
