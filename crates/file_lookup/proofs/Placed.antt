-- Where a value stands, and number d among the fields of a place.
use mathlib.Core.Path.{◌≡◌, refl, sym, ap, ◌∙◌}
use mathlib.Core.Bool.{Bool, true, false, cond}
use mathlib.Core.Logic.{⊎_elim}
use mathlib.Core.List.{List, [], ◌∷◌, map}
use Prim.Native.Nat.{ℕ, zero, suc, ◌+◌, ◌-◌, ◌^◌, ◌*◌, ◌<◌, ◌≤◌}
use native.Mathlib.Omega.{arith}
use mir.Syntax.{w64}
use mir.Val.{Fits}
use lib.Dec.{eqb}
use lib.ListN.{length, get_or, take, drop, length-take, length-drop}
use borrow.Author.Tests.{lt-ltb, le-ltb}
use Rattle.std.specs.Prelude.{Option, Some, None}
use Rattle.std.specs.List.{filter, slice_get}
use Rattle.std.specs.Option.{option_map}
use Rattle.std.proofs.lemmas.List.{length-map}
use Rattle.std.proofs.lemmas.Option.{slice_get_within, get_or_from_slice_get, slice_get-map, slice_get-get_or}
use Rattle.paper.specs.Page.{Field, no_field}
use Rattle.paper.specs.Entries.{fields_at}
use Rattle.paper.specs.Lookup.{Stretch, front, stretch_of, name_among}
use Rattle.laws.proofs.Tests.{le_or_lt}
use Rattle.file_fields.specs.Fields.{nowhere_at, stands_at, value_of, field_of, between}
use Rattle.file_fields.specs.declared.file.FieldAt.{FieldAt}
use Rattle.file_fields.proofs.Items.{fields_mapped}

-- ---- the value of a field

take_again : (k : ℕ) (xs : List ℕ) → take (length (take k xs)) xs ≡ take k xs
take_again zero xs = refl
take_again (suc k) [] = refl
take_again (suc k) (x ∷ xs) = ap (λ (l : List ℕ). x ∷ l) (take_again k xs)

module _ (t : List ℕ) (f : FieldAt) (s : ℕ) (v : List ℕ) (e : s ≡ f.start) (q : v ≡ value_of t f) where
  bytes_are : take (s + length v - s) (drop s t) ≡ v
  bytes_are =
      let k : s + length v - s ≡ length v = omega arith in
      rw (k, q, e) (take_again (f.end - f.start) (drop f.start t))

  pub value_fits : s < 2 ^ 64 → length t * 1 < 2 ^ 63 → Fits w64 (s + length v)
  value_fits a b =
      let k : length v ≤ length t - s = rw (q, e) (omega (arith, length-take (f.end - f.start) (drop f.start t), length-drop f.start t)) in
      omega arith

  pub value_stretch : ◌≡◌ {A = Stretch} (record { start = s; bytes = take (s + length v - s) (drop s t) }) (stretch_of (field_of t f))
  unfolding stretch_of field_of
  value_stretch = rw (bytes_are, q, e) refl

  pub value_ends : s + length v ≡ s + length (take (s + length v - s) (drop s t))
  value_ends = rw bytes_are refl

-- ---- number d of the fields of a place

-- what is found is taken as it is
pub as_it_is : (r o : Option FieldAt) → option_map (λ (x : FieldAt). x) r ≡ o → r ≡ o
as_it_is None o e = e
as_it_is (Some f) o e = e

-- with nothing left there is none
pub no_name : (t : List ℕ) → ◌≡◌ {A = Stretch} (record { start = 0; bytes = take (0 - 0) (drop 0 t) }) front
unfolding front
no_name t = refl

-- the fields of a place are those that stand there
at_place_are : (t : List ℕ) (place : ℕ) (list : List FieldAt) → fields_at place (map (field_of t) list) ≡ map (field_of t) (filter (stands_at place) list)
unfolding fields_at field_of
at_place_are t place [] = refl
at_place_are t place (f ∷ fs) = go (eqb f.place place) (at_place_are t place fs)
  where
    go : (b : Bool) → fields_at place (map (field_of t) fs) ≡ map (field_of t) (filter (stands_at place) fs)
        → cond b (field_of t f ∷ fields_at place (map (field_of t) fs)) (fields_at place (map (field_of t) fs))
        ≡ map (field_of t) (cond b (f ∷ filter (stands_at place) fs) (filter (stands_at place) fs))
    go true h = ap (λ (l : List Field). field_of t f ∷ l) h
    go false h = h

-- number d of them, as it is looked up
module _ (t : List ℕ) (fs : List FieldAt) (d : ℕ) where
  pub looked_up : (f : FieldAt) → slice_get fs d ≡ Some f → name_among (map (field_of t) fs) d ≡ stretch_of (field_of t f)
  unfolding name_among
  looked_up f e =
      let g : get_or (map (field_of t) fs) d no_field ≡ field_of t f =
      get_or_from_slice_get (map (field_of t) fs) d (field_of t f) no_field (slice_get-map (field_of t) fs d ∙ ap (option_map (field_of t)) e) in
      rw (length-map, lt-ltb d (length fs) (slice_get_within fs d f e), g) refl

  pub looked_past : slice_get fs d ≡ None → name_among (map (field_of t) fs) d ≡ front
  unfolding name_among
  looked_past e = ⊎_elim
      (λ (h : length fs ≤ d). rw (length-map, le-ltb d (length fs) h) refl)
      (λ (h : d < length fs). let g : slice_get fs d ≡ Some (get_or fs d nowhere_at) = slice_get-get_or fs d nowhere_at h in
      absurd (let z : ◌≡◌ {A = Option FieldAt} None (Some (get_or fs d nowhere_at)) = sym e ∙ g in cc))
      (le_or_lt (length fs) d)

module _ (t : List ℕ) (list : List FieldAt) (place d : ℕ) (r : Option FieldAt) (q : r ≡ slice_get (filter (stands_at place) list) d) where
  names_are : name_among (fields_at place (between t list 0 (length list))) d ≡ name_among (map (field_of t) (filter (stands_at place) list)) d
  names_are = ap (λ (fs : List Field). name_among fs d) (ap (fields_at place) (fields_mapped t list) ∙ at_place_are t place list)

  pub name_here : (f : FieldAt) → r ≡ Some f → (s : Stretch) → s ≡ stretch_of (field_of t f) → s ≡ name_among (fields_at place (between t list 0 (length list))) d
  name_here f e s g = g ∙ sym (names_are ∙ looked_up t (filter (stands_at place) list) d f (sym q ∙ e))

  pub name_nowhere : r ≡ None → ◌≡◌ {A = Stretch} (record { start = 0; bytes = take (0 - 0) (drop 0 t) }) (name_among (fields_at place (between t list 0 (length list))) d)
  name_nowhere e = no_name t ∙ sym (names_are ∙ looked_past t (filter (stands_at place) list) d (sym q ∙ e))
