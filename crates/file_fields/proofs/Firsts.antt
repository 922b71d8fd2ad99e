-- The first field with a fault, field by field: the line of what is left is the line of all.
use mathlib.Core.Path.{◌≡◌, ap, ◌∙◌}
use mathlib.Core.Bool.{Bool, true, false, cond}
use mathlib.Core.List.{List}
use Prim.Native.Nat.{ℕ, ◌+◌, ◌-◌, ◌<◌, ◌≤◌}
use native.Mathlib.Omega.{arith}
use lib.ListN.{length, get_or, take, drop}
use Rattle.paper.specs.Page.{Field}
use Rattle.paper.specs.Rules.{first_with}
use Rattle.file_fields.specs.Fields.{nowhere_at, field_of, line_in, field_at, between}
use Rattle.file_fields.proofs.Between.{between_more, between_none}
use Rattle.file_fields.proofs.Items.{item_within, item_is, items_end}
use Rattle.file_fields.specs.declared.file.FieldAt.{FieldAt}

module _ (t : List ℕ) (list : List FieldAt) (test : Field → Bool) (to i whole : ℕ) (inv : first_with test (between t list i to) ≡ whole) where
  module _ (h : i < to) (b : Bool) (e : b ≡ test (field_at t list i)) where
    first_step : cond b (line_in list i) (first_with test (between t list (i + 1) to)) ≡ whole
    unfolding first_with field_of
    first_step = rw (between_more t list i to h, ← e) at inv

    pub first_here : (line : ℕ) → b ≡ true → line ≡ line_in list i → line ≡ whole
    first_here line l q = q ∙ (rw l at first_step)

    pub first_on : b ≡ false → first_with test (between t list (i + 1) to) ≡ whole
    first_on l = rw l at first_step

  pub first_nowhere : to ≤ i → 0 ≡ whole
  unfolding first_with
  first_nowhere h = rw (between_none t list i to h) at inv

-- the same over the fields of a stretch
module _ (t : List ℕ) (list items : List FieldAt) (from to : ℕ) (cut : items ≡ take (to - from) (drop from list)) (ordered : from ≤ to) (listed : to ≤ length list)
    (test : Field → Bool) (i whole : ℕ) (inv : first_with test (between t list (from + i) to) ≡ whole) where
  module _ (h : i < length items) (b : Bool) (e : b ≡ test (field_of t (get_or items i nowhere_at))) where
    item_tested : b ≡ test (field_at t list (from + i))
    item_tested = e ∙ ap (λ (f : FieldAt). test (field_of t f)) (item_is list items from to cut ordered listed i h)

    pub item_first : (line : ℕ) → b ≡ true → line ≡ (get_or items i nowhere_at).line → line ≡ whole
    item_first line l q =
        first_here t list test to (from + i) whole inv (item_within list items from to cut ordered listed i h) b item_tested line l
        (q ∙ ap (λ (f : FieldAt). f.line) (item_is list items from to cut ordered listed i h))

    pub item_on : b ≡ false → first_with test (between t list (from + (i + 1)) to) ≡ whole
    item_on l =
        let next : from + i + 1 ≡ from + (i + 1) = omega arith in
        rw next at (first_on t list test to (from + i) whole inv (item_within list items from to cut ordered listed i h) b item_tested l)

  pub item_nowhere : length items ≤ i → 0 ≡ whole
  item_nowhere h = first_nowhere t list test to (from + i) whole inv (items_end list items from to cut ordered listed i h)
