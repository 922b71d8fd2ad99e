-- What the chains of iterators over a stretch find, in the words of the definitions: place by place from its front.
use Rattle.std.specs.Prelude.{◌≡◌, ℕ, zero, suc, ◌+◌, ◌-◌, ◌<◌, ◌≤◌, Bool, true, false, cond, not, List, [], ◌∷◌, length, take, drop, get_or, Option, Some, None, count_by, nat_lt, MatchOption}
use Rattle.std.proofs.Common.{refl, sym, ap, ◌∙◌, subst, length-take-le}
use Rattle.std.specs.List.{fold, position, position_or_len, prefix_len}
use Rattle.paper.specs.Common.{is_empty}
use Rattle.file_fields.proofs.Between.{value_is_omitted, value_found}
use Rattle.file_fields.specs.Fields.{nowhere_at, value_of, value_or, between, stands_at, is_key_of, place_in, next_at, next_key, count_at}
use Rattle.file_fields.specs.declared.file.FieldAt.{FieldAt}
use native.Mathlib.Omega.{arith}
use native.Mathlib.Numerals.{add-one}
use lib.ListN.{length-drop}
use lib.Seq.{drop-cons, get_or-take, get_or-drop}
use borrow.Author.Rules.{get_or_read}
use lib.Dec.{eqb}
use borrow.Author.Tests.{ltb-false}

-- what `position` answers is the length of what stands before
position_some : {X : Type 0} (p : X → Bool) (xs : List X) (i : ℕ) → position p xs ≡ Some i → i ≡ position_or_len p xs
position_some p xs i = go (nat_lt (position_or_len p xs) (length xs))
  where
    go : (b : Bool) → cond b (Some (position_or_len p xs)) None ≡ Some i → i ≡ position_or_len p xs
    go true e = search
    go false e = search

position_none : {X : Type 0} (p : X → Bool) (xs : List X) → position p xs ≡ None → length xs ≤ position_or_len p xs
position_none p xs = go (nat_lt (position_or_len p xs) (length xs)) refl
  where
    go : (b : Bool) → nat_lt (position_or_len p xs) (length xs) ≡ b → cond b (Some (position_or_len p xs)) None ≡ None → length xs ≤ position_or_len p xs
    go true h e = absurd (subst (λ (o : Option ℕ). MatchOption o ⊥ (λ _. Unit)) e tt)
    go false h e = ltb-false (position_or_len p xs) (length xs) h

prefix_short : {X : Type 0} (p : X → Bool) (xs : List X) → prefix_len p xs ≤ length xs
prefix_short p [] = omega arith
prefix_short p (x ∷ xs) = go (p x) (prefix_short p xs)
  where
    go : (b : Bool) → prefix_len p xs ≤ length xs → cond b (1 + prefix_len p xs) 0 ≤ suc (length xs)
    go true h = omega arith
    go false h = omega arith

module _ (list : List FieldAt) where
  cut_more : (from k : ℕ) → from < length list → take (suc k) (drop from list) ≡ get_or list from nowhere_at ∷ take k (drop (from + 1) list)
  cut_more from k h = rw (add-one, drop-cons list from nowhere_at h) refl

  -- the number of the first that passes, among k fields from one on
  module _ (test : FieldAt → Bool) where
    abbrev next_by : ℕ → ℕ → ℕ
    next_by i zero = i
    next_by i (suc k) = cond (test (get_or list i nowhere_at)) i (next_by (i + 1) k)

    next_prefix : (from k : ℕ) → from + k ≤ length list → next_by from k ≡ from + position_or_len test (take k (drop from list))
    next_prefix from zero h = omega arith
    next_prefix from (suc k) h = rw (cut_more from k (omega arith)) (go (test (get_or list from nowhere_at)) (next_prefix (from + 1) k (omega arith)))
      where
        go : (b : Bool) → next_by (from + 1) k ≡ from + 1 + position_or_len test (take k (drop (from + 1) list))
            → cond b from (next_by (from + 1) k) ≡ from + cond (not b) (1 + position_or_len test (take k (drop (from + 1) list))) 0
        go true e = omega arith
        go false e = omega (arith, e)

    module _ (from to : ℕ) (ordered : from ≤ to) (listed : to ≤ length list) where
      whole : next_by from (to - from) ≡ from + position_or_len test (take (to - from) (drop from list))
      whole = next_prefix from (to - from) (omega arith)

      by_found : (i : ℕ) → position test (take (to - from) (drop from list)) ≡ Some i → from + i ≡ next_by from (to - from)
      by_found i e = omega (arith, whole, position_some test (take (to - from) (drop from list)) i e)

      by_none : position test (take (to - from) (drop from list)) ≡ None → to ≡ next_by from (to - from)
      by_none e =
          let n : length (take (to - from) (drop from list)) ≡ to - from = length-take-le (to - from) (drop from list) (omega (arith, length-drop from list)) in
          let m : position_or_len test (take (to - from) (drop from list)) ≤ length (take (to - from) (drop from list)) = prefix_short _ _ in
          omega (arith, whole, position_none test (take (to - from) (drop from list)) e, n, m)

  -- that is the next field of a place, and the next key of a context
  next_is : (place i k : ℕ) → next_at list place i k ≡ next_by (stands_at place) i k
  unfolding next_at
  next_is place i zero = refl
  next_is place i (suc k) = ap (cond (stands_at place (get_or list i nowhere_at)) i) (next_is place (i + 1) k)

  key_is : (place i k : ℕ) → next_key list place i k ≡ next_by (is_key_of place) i k
  unfolding next_key
  key_is place i zero = refl
  key_is place i (suc k) = ap (cond (is_key_of place (get_or list i nowhere_at)) i) (key_is place (i + 1) k)

  module _ (place from to : ℕ) (ordered : from ≤ to) (listed : to ≤ length list) where
    pub next_found : (i : ℕ) → position (stands_at place) (take (to - from) (drop from list)) ≡ Some i → from + i ≡ next_at list place from (to - from)
    next_found i e = by_found (stands_at place) from to ordered listed i e ∙ sym (next_is place from (to - from))

    pub next_not : position (stands_at place) (take (to - from) (drop from list)) ≡ None → to ≡ next_at list place from (to - from)
    next_not e = by_none (stands_at place) from to ordered listed e ∙ sym (next_is place from (to - from))

    pub key_found : (i : ℕ) → position (is_key_of place) (take (to - from) (drop from list)) ≡ Some i → from + i ≡ next_key list place from (to - from)
    key_found i e = by_found (is_key_of place) from to ordered listed i e ∙ sym (key_is place from (to - from))

    pub key_not : position (is_key_of place) (take (to - from) (drop from list)) ≡ None → to ≤ next_key list place from (to - from)
    key_not e = omega (arith, by_none (is_key_of place) from to ordered listed e, key_is place from (to - from))

    pub key_within : (i : ℕ) → i < length (take (to - from) (drop from list)) → from + i < to
    key_within i l = omega (arith, l, length-take-le (to - from) (drop from list) (omega (arith, length-drop from list)))

  -- the value of the first that is found
  module _ (t omitted none : List ℕ) (place from to : ℕ) (ordered : from ≤ to) (listed : to ≤ length list) where
    abbrev values : List ℕ
    values = value_or omitted none place (between t list from to)

    pub value_first : (i : ℕ) (f : FieldAt) → position (stands_at place) (take (to - from) (drop from list)) ≡ Some i → i < length (take (to - from) (drop from list))
        → f ≡ get_or (take (to - from) (drop from list)) i f → cond (is_empty (value_of t f)) none (value_of t f) ≡ values
    value_first i f e l q =
        sym (value_found t list place from to omitted none (from + i) (next_found place from to ordered listed i e) (omega (arith, l, size))
        ∙ ap (λ (x : FieldAt). cond (is_empty (value_of t x)) none (value_of t x)) (sym here))
      where
        size : length (take (to - from) (drop from list)) ≡ to - from
        size = length-take-le (to - from) (drop from list) (omega (arith, length-drop from list))

        read : get_or (take (to - from) (drop from list)) i nowhere_at ≡ get_or list (from + i) nowhere_at
        read = get_or-take (to - from) (drop from list) i nowhere_at (omega (arith, l, size)) ∙ get_or-drop from list i nowhere_at

        here : f ≡ get_or list (from + i) nowhere_at
        here = get_or_read (take (to - from) (drop from list)) i f l q nowhere_at ∙ read

    pub value_nowhere : position (stands_at place) (take (to - from) (drop from list)) ≡ None → omitted ≡ values
    value_nowhere e = value_is_omitted t list place from to omitted none to (next_not place from to ordered listed e) (omega arith)

-- ---- how many are found

counted_from : (place n : ℕ) (xs : List FieldAt) → fold (λ a x. a + cond (stands_at place x) 1 0) n xs ≡ n + count_by (stands_at place) xs
counted_from place n [] = omega arith
counted_from place n (x ∷ xs) =
    counted_from place (n + cond (stands_at place x) 1 0) xs
    ∙ omega (arith, counted_from place (0 + cond (stands_at place x) 1 0) xs)

module _ (list : List FieldAt) (place : ℕ) where
  counted : (from k : ℕ) → from + k ≤ length list → count_by (stands_at place) (take k (drop from list)) ≡ count_at list place from k
  unfolding count_at
  counted from zero h = refl
  counted from (suc k) h = rw (cut_more list from k (omega arith))
      (counted_from place (0 + cond (eqb (place_in list from) place) 1 0) (take k (drop (from + 1) list)) ∙ omega (arith, counted (from + 1) k (omega arith)))

  pub counted_between : (from to : ℕ) → from ≤ to → to ≤ length list → (n : ℕ) → n ≡ count_by (stands_at place) (take (to - from) (drop from list)) → n ≡ count_at list place from (to - from)
  counted_between from to a b n e = e ∙ counted from (to - from) (omega arith)
