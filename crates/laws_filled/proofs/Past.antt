-- Fields of other places are passed over: which places the fields of an entry with every default written have, and which not.
use mathlib.Core.Path.{◌≡◌, refl, ap, ◌∙◌}
use mathlib.Core.List.{List, [], ◌∷◌, ◌++◌, flat_map, append-nil}
use mathlib.Core.Bool.{Bool, true, false, cond, not}
use Prim.Native.Nat.{ℕ, ◌+◌, ◌≤◌}
use native.Mathlib.Omega.{arith}
use borrow.Author.Tests.{ne_eqb, eq-eqb, not-true}
use Rattle.paper.specs.Common.{is_empty, all_of}
use Rattle.paper.specs.Listing.{subject_of_entry, execution_context, can_call, can_return, can_read, can_write}
use Rattle.paper.specs.Page.{Field}
use Rattle.paper.specs.Entries.{is_at, meant, value_at, fields_at, up_to_next, stretches_from, items_of}
use Rattle.laws.proofs.Tests.{both_true, both_left, both_right}
use Rattle.laws.proofs.Counting.{all_of_append}
use Rattle.laws_filled.specs.Fields.{unwritten, value_field, context_fields, item_fields, access_fields, entry_rest}
use Rattle.laws_filled.proofs.Text.{value_some}

-- no field stands at the place
unfoldable pub none_at : ℕ → List Field → Bool
none_at p fs = all_of (λ f. not (is_at p f)) fs

module _ (p : ℕ) where
  pub next_past : (xs ys : List Field) → none_at p xs ≡ true → up_to_next p (xs ++ ys) ≡ xs ++ up_to_next p ys
  unfolding none_at all_of up_to_next
  next_past [] ys h = refl
  next_past (f ∷ fs) ys h = rw (not-true (is_at p f) (both_left (not (is_at p f)) _ h), next_past fs ys (both_right (not (is_at p f)) _ h)) refl

  pub stretches_past : (xs ys : List Field) → none_at p xs ≡ true → stretches_from p (xs ++ ys) ≡ stretches_from p ys
  unfolding none_at all_of stretches_from
  stretches_past [] ys h = refl
  stretches_past (f ∷ fs) ys h = rw (not-true (is_at p f) (both_left (not (is_at p f)) _ h)) (stretches_past fs ys (both_right (not (is_at p f)) _ h))

  pub value_past : (xs ys : List Field) → none_at p xs ≡ true → value_at p (xs ++ ys) ≡ value_at p ys
  unfolding none_at all_of value_at
  value_past [] ys h = refl
  value_past (f ∷ fs) ys h = rw (not-true (is_at p f) (both_left (not (is_at p f)) _ h)) (value_past fs ys (both_right (not (is_at p f)) _ h))

  pub fields_none : (xs : List Field) → none_at p xs ≡ true → fields_at p xs ≡ []
  unfolding none_at all_of fields_at
  fields_none [] h = refl
  fields_none (f ∷ fs) h = rw (not-true (is_at p f) (both_left (not (is_at p f)) _ h)) (fields_none fs (both_right (not (is_at p f)) _ h))

  fields_append : (xs ys : List Field) → fields_at p (xs ++ ys) ≡ fields_at p xs ++ fields_at p ys
  unfolding fields_at
  fields_append [] ys = refl
  fields_append (f ∷ fs) ys = go (is_at p f) (fields_append fs ys)
    where
      go : (t : Bool) → fields_at p (fs ++ ys) ≡ fields_at p fs ++ fields_at p ys
          → cond t (f ∷ fields_at p (fs ++ ys)) (fields_at p (fs ++ ys)) ≡ cond t (f ∷ fields_at p fs) (fields_at p fs) ++ fields_at p ys
      go true e = rw e refl
      go false e = e

  pub fields_front : (xs ys : List Field) → none_at p ys ≡ true → fields_at p (xs ++ ys) ≡ fields_at p xs
  fields_front xs ys h = fields_append xs ys ∙ rw (fields_none ys h) (append-nil (fields_at p xs))

  -- none stands before the next one
  pub none_before : (fs : List Field) → none_at p (up_to_next p fs) ≡ true
  unfolding none_at all_of up_to_next
  none_before [] = refl
  none_before (f ∷ fs) = go (is_at p f) refl (none_before fs)
    where
      go : (t : Bool) → is_at p f ≡ t → all_of (λ f. not (is_at p f)) (up_to_next p fs) ≡ true
          → all_of (λ f. not (is_at p f)) (cond t [] (f ∷ up_to_next p fs)) ≡ true
      go true e h = refl
      go false e h = both_true (not (is_at p f)) _ (ap not e) h

  pub none_more : (f : Field) (fs : List Field) → (f.place ≡ p → ⊥) → none_at p fs ≡ true → none_at p (f ∷ fs) ≡ true
  unfolding none_at all_of
  none_more f fs n h = both_true (not (is_at p f)) _ (ap not (ne_eqb f.place p n)) h

  pub none_here : none_at p [] ≡ true
  unfolding none_at all_of
  none_here = refl

  pub none_both : (xs ys : List Field) → none_at p xs ≡ true → none_at p ys ≡ true → none_at p (xs ++ ys) ≡ true
  unfolding none_at
  none_both xs ys g h = all_of_append (λ f. not (is_at p f)) xs ys g h

  pub none_value : (q : ℕ) (e fs : List Field) → (q ≡ p → ⊥) → none_at p fs ≡ true → none_at p (value_field q e ∷ fs) ≡ true
  unfolding value_field unwritten
  none_value q e fs n h = none_more (value_field q e) fs n h

  pub none_bare : (q : ℕ) (fs : List Field) → (q ≡ p → ⊥) → none_at p fs ≡ true → none_at p (unwritten q [] ∷ fs) ≡ true
  unfolding unwritten
  none_bare q fs n h = none_more (unwritten q []) fs n h

  -- ---- the fields of a context, of an item and of an entry

  pub context_none : (c : ℕ) (e : List Field) → ((q : ℕ) → c ≤ q → q ≤ c + 4 → q ≡ p → ⊥) → none_at p (context_fields c e) ≡ true
  unfolding context_fields
  context_none c e n =
      none_bare c _ (n c (omega arith) (omega arith))
      (none_value (c + 1) e _ (n (c + 1) (omega arith) (omega arith))
      (none_value (c + 2) e _ (n (c + 2) (omega arith) (omega arith))
      (none_value (c + 3) e _ (n (c + 3) (omega arith) (omega arith)) (none_value (c + 4) e [] (n (c + 4) (omega arith) (omega arith)) none_here))))

  item_none : (a : ℕ) (i : List Field) → ((q : ℕ) → a ≤ q → q ≤ a + 6 → q ≡ p → ⊥) → none_at p (item_fields a i) ≡ true
  unfolding item_fields
  item_none a i n = none_value (a + 1) i _ (n (a + 1) (omega arith) (omega arith)) (context_none (a + 2) i (λ q l u. n q (omega arith) (omega arith)))

  items_none : (a : ℕ) (is : List (List Field)) → ((q : ℕ) → a ≤ q → q ≤ a + 6 → q ≡ p → ⊥) → none_at p (flat_map (item_fields a) is) ≡ true
  unfolding flat_map
  items_none a [] n = none_here
  items_none a (i ∷ is) n = none_both (item_fields a i) (flat_map (item_fields a) is) (item_none a i n) (items_none a is n)

  pub access_none : (a : ℕ) (e : List Field) → ((q : ℕ) → a ≤ q → q ≤ a + 6 → q ≡ p → ⊥) → none_at p (access_fields a e) ≡ true
  unfolding access_fields
  access_none a e n = go (is_empty (items_of a e))
    where
      go : (t : Bool) → none_at p (cond t (value_field a e ∷ []) (unwritten a [] ∷ flat_map (item_fields a) (items_of a e))) ≡ true
      go true = none_value a e [] (n a (omega arith) (omega arith)) none_here
      go false = none_bare a _ (n a (omega arith) (omega arith)) (items_none a (items_of a e) n)

  pub rest_none : (e : List Field) → ((q : ℕ) → subject_of_entry ≤ q → q ≡ p → ⊥) → none_at p (entry_rest e) ≡ true
  unfolding entry_rest
  rest_none e n =
      none_value subject_of_entry e _ (n subject_of_entry (omega arith))
      (none_both (context_fields execution_context e) _ (context_none execution_context e (λ q l u. n q (omega arith)))
      (none_value can_call e _ (n can_call (omega arith))
      (none_value can_return e _ (n can_return (omega arith))
      (none_both (access_fields can_read e) (access_fields can_write e) (access_none can_read e (λ q l u. n q (omega arith)))
      (access_none can_write e (λ q l u. n q (omega arith)))))))

-- ---- the value of a field that is written, and of one behind it

module _ (p : ℕ) where
  pub value_here : (e fs : List Field) → value_at p (value_field p e ∷ fs) ≡ value_at p e
  unfolding value_at meant value_field unwritten
  value_here e fs = rw (eq-eqb p p refl, value_some p e) refl

  pub value_skips : (q : ℕ) (e fs : List Field) → (q ≡ p → ⊥) → value_at p (value_field q e ∷ fs) ≡ value_at p fs
  unfolding value_at value_field unwritten
  value_skips q e fs n = rw (ne_eqb q p n) refl

  pub bare_skips : (q : ℕ) (fs : List Field) → (q ≡ p → ⊥) → value_at p (unwritten q [] ∷ fs) ≡ value_at p fs
  unfolding value_at unwritten
  bare_skips q fs n = rw (ne_eqb q p n) refl
