-- The fields that a loop over a stretch goes over are those of the file from its first one on.
use mathlib.Core.Path.{◌≡◌, sym, ap, ◌∙◌}
use mathlib.Core.List.{List, ◌∷◌, map}
use Prim.Native.Nat.{ℕ, zero, suc, ◌+◌, ◌-◌, ◌<◌, ◌≤◌}
use native.Mathlib.Omega.{arith}
use lib.ListN.{length, get_or, take, drop, length-drop}
use lib.Seq.{drop-cons, get_or-take, get_or-drop}
use Rattle.std.proofs.Common.{length-take-le}
use Rattle.std.proofs.Math.ListN.{drop_of_length-le}
use native.Mathlib.Numerals.{add-one}
use Rattle.paper.specs.Page.{Field}
use Rattle.file_fields.specs.Fields.{nowhere_at, field_of, between}
use Rattle.file_fields.proofs.Between.{between_more, between_none}
use Rattle.file_fields.specs.declared.file.FieldAt.{FieldAt}

module _ (list items : List FieldAt) (from to : ℕ) (cut : items ≡ take (to - from) (drop from list)) (ordered : from ≤ to) (listed : to ≤ length list) where
  pub items_many : length items ≡ to - from
  items_many = rw cut (length-take-le (to - from) (drop from list) (omega (arith, length-drop from list)))

  module _ (i : ℕ) (h : i < length items) where
    pub item_within : from + i < to
    item_within = omega (arith, items_many)

    pub item_is : get_or items i nowhere_at ≡ get_or list (from + i) nowhere_at
    item_is = rw (cut, get_or-take (to - from) (drop from list) i nowhere_at (omega (arith, items_many))) (get_or-drop from list i nowhere_at)

  pub items_end : (i : ℕ) → length items ≤ i → to ≤ from + i
  items_end i h = omega (arith, items_many)

-- the fields of a file are those of its list, one by one
module _ (t : List ℕ) (list : List FieldAt) where
  mapped_from : (k i : ℕ) → i + k ≡ length list → between t list i (length list) ≡ map (field_of t) (drop i list)
  mapped_from zero i e = between_none t list i (length list) (omega (arith, e)) ∙ ap (map (field_of t)) (sym (drop_of_length-le list (omega (arith, e))))
  mapped_from (suc k) i e =
      let h : i < length list = omega (arith, e) in
      let d : drop i list ≡ get_or list i nowhere_at ∷ drop (i + 1) list = rw add-one (drop-cons list i nowhere_at h) in
      rw (between_more t list i (length list) h, d) (ap (λ (l : List Field). field_of t (get_or list i nowhere_at) ∷ l) (mapped_from k (i + 1) (omega (arith, e))))

  pub fields_mapped : between t list 0 (length list) ≡ map (field_of t) list
  fields_mapped = mapped_from (length list) 0 (omega arith)
