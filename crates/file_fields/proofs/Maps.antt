-- The fields behind the maps: whatever asks for places of maps finds nothing there.
use mathlib.Core.Path.{◌≡◌, refl, sym, ap, ◌∙◌}
use mathlib.Core.Bool.{Bool, true, false, cond}
use mathlib.Core.List.{List, [], ◌∷◌, ◌++◌}
use Prim.Native.Nat.{ℕ, zero, suc, ◌+◌, ◌<◌, ◌≤◌}
use native.Mathlib.Numerals.{add-one}
use native.Mathlib.Omega.{arith}
use lib.Dec.{ltb}
use lib.ListN.{length, get_or, get_or-append}
use lib.Seq.{get_or-append_seam}
use borrow.Author.Tests.{ne_eqb, lt-ltb, le-ltb, ltb-false}
use Rattle.paper.specs.Listing.{principal}
use Rattle.paper.specs.Page.{Field}
use Rattle.paper.specs.Entries.{is_at, fields_at}
use Rattle.file_fields.specs.Fields.{field_of, nowhere_at, place_in, field_at, between, maps_end}
use Rattle.file_fields.proofs.Between.{between_last}
use Rattle.file_fields.specs.declared.file.FieldAt.{FieldAt}

-- ---- found from the last field on

-- the fields of a place behind are not asked of those before
ends_front : (front behind : List FieldAt) (n : ℕ) → n ≤ length front → maps_end (front ++ behind) n ≡ maps_end front n
unfolding maps_end
ends_front front behind zero h = refl
ends_front front behind (suc n) h =
    let e : get_or (front ++ behind) n nowhere_at ≡ get_or front n nowhere_at = get_or-append front behind nowhere_at n (omega arith) in
    ap (λ (x : FieldAt). cond (ltb x.place principal) (suc n) (maps_end (front ++ behind) n)) e
    ∙ ap (cond (ltb (place_in front n) principal) (suc n)) (ends_front front behind n (omega arith))

module _ (front : List FieldAt) (last : FieldAt) where
  ends_last : maps_end (front ++ last ∷ []) (length front + 1) ≡ cond (ltb last.place principal) (length front + 1) (maps_end front (length front))
  unfolding maps_end
  ends_last =
      let e : length front + 1 ≡ suc (length front) = omega arith in
      let g : get_or (front ++ last ∷ []) (length front) nowhere_at ≡ last = get_or-append_seam front last [] nowhere_at in
      rw e (ap (λ (x : FieldAt). cond (ltb x.place principal) (suc (length front)) (maps_end (front ++ last ∷ []) (length front))) g
      ∙ ap (cond (ltb last.place principal) (suc (length front))) (ends_front front (last ∷ []) (length front) (omega arith)))

  module _ (rest : List FieldAt) (split : rest ≡ front ++ last ∷ []) (size : length front + 1 ≡ length rest) (whole : ℕ) (inv : maps_end rest (length rest) ≡ whole) where
    end_step : cond (ltb last.place principal) (length rest) (maps_end front (length front)) ≡ whole
    end_step =
        let e : maps_end (front ++ last ∷ []) (length front + 1) ≡ whole = ap (maps_end (front ++ last ∷ [])) size ∙ ap (λ (l : List FieldAt). maps_end l (length rest)) (sym split) ∙ inv in
        ap (λ (n : ℕ). cond (ltb last.place principal) n (maps_end front (length front))) (sym size) ∙ sym ends_last ∙ e

    pub end_here : last.place < principal → length rest ≡ whole
    end_here l = rw (lt-ltb last.place principal l) at end_step

    pub end_on : principal ≤ last.place → maps_end front (length front) ≡ whole
    end_on l = rw (le-ltb last.place principal l) at end_step

pub end_less : (m n : ℕ) → m + 1 ≡ n → m < n
end_less m n h = omega arith

pub end_none : (rest : List FieldAt) (whole : ℕ) → length rest ≡ 0 → maps_end rest (length rest) ≡ whole → 0 ≡ whole
unfolding maps_end
end_none rest whole h inv = rw h at inv

-- ---- what it tells

pub maps_within : (list : List FieldAt) (n : ℕ) → maps_end list n ≤ n
unfolding maps_end
maps_within list zero = omega arith
maps_within list (suc n) = go (ltb (place_in list n) principal) (maps_within list n)
  where
    go : (b : Bool) → maps_end list n ≤ n → cond b (suc n) (maps_end list n) ≤ suc n
    go true h = omega arith
    go false h = omega arith

pub maps_room : (list : List FieldAt) (n end : ℕ) → end ≡ maps_end list n → n ≤ length list → end ≤ length list
maps_room list n end e h = let l : end ≤ n = rw e (maps_within list n) in omega arith

-- what a field behind the maps does not change is the same of the maps and of all fields
module _ (t : List ℕ) (list : List FieldAt) {A : Type 0} (told : List Field → A)
    (blind : (fs : List Field) (f : Field) → principal ≤ f.place → told (fs ++ (f ∷ [])) ≡ told fs) where
  pub as_in_maps : (n : ℕ) → told (between t list 0 (maps_end list n)) ≡ told (between t list 0 n)
  unfolding maps_end field_of
  as_in_maps zero = refl
  as_in_maps (suc n) = go (ltb (place_in list n) principal) refl (as_in_maps n)
    where
      go : (b : Bool) → ltb (place_in list n) principal ≡ b → told (between t list 0 (maps_end list n)) ≡ told (between t list 0 n)
          → told (between t list 0 (cond b (suc n) (maps_end list n))) ≡ told (between t list 0 (suc n))
      go true e before = refl
      go false e before =
          before
          ∙ sym (blind (between t list 0 n) (field_at t list n) (ltb-false _ _ e))
          ∙ ap told (sym (between_last t list n) ∙ ap (between t list 0) (add-one n))

-- the fields of a place in the maps are all of that place
fields_blind : (place : ℕ) → place < principal → (fs : List Field) (f : Field) → principal ≤ f.place → fields_at place (fs ++ (f ∷ [])) ≡ fields_at place fs
unfolding fields_at
fields_blind place l [] f h = rw (ne_eqb f.place place (λ e. omega arith)) refl
fields_blind place l (x ∷ xs) f h = ap (λ (r : List Field). cond (is_at place x) (x ∷ r) r) (fields_blind place l xs f h)

pub fields_in_maps : (t : List ℕ) (list : List FieldAt) (n end place : ℕ) → end ≡ maps_end list n → place < principal → fields_at place (between t list 0 end) ≡ fields_at place (between t list 0 n)
fields_in_maps t list n end place e l = rw e (as_in_maps t list (fields_at place) (fields_blind place l) n)
