-- An index knows its names: at first none, and one more when a new one goes in.
use mathlib.Core.Path.{◌≡◌, refl, sym, ap, ◌∙◌}
use mathlib.Core.Bool.{Bool, true, false}
use mathlib.Core.Logic.{⊎_elim}
use mathlib.Core.List.{List, [], ◌∷◌, ◌++◌}
use Prim.Native.Nat.{ℕ, zero, suc, ◌+◌, ◌-◌, ◌<◌, ◌≤◌}
use native.Mathlib.Omega.{arith}
use lib.Dec.{eqb, ltb}
use lib.ListN.{length, get_or, take, drop, set, replicate, length-append}
use lib.Seq.{get_or-set_other}
use borrow.Author.Tests.{eq-eqb, lt-ltb, le-ltb, ltb-true}
use Rattle.paper.specs.Common.{same, among, number_in}
use Rattle.laws.proofs.Tests.{same_or_not, le_or_lt, same_equal, same_refl, both_true, both_false}
use Rattle.file_index.specs.Words.{multiplier_at, heads_at, name_at, multiplier_in, link_in, hash_in, name_in}
use Rattle.file_index.specs.Buckets.{hash_of, bucket_of, is_name, way_end_from, way_end, Within, number_of, numbers_in}
use Rattle.file_index.specs.declared.names.Place.{Place}
use Rattle.file_index.specs.declared.names.Place.TheVariants.{Found, Free}
use Rattle.file_index.specs.Buckets.{word_of, inserted_at, inserted, LinkOf, Index}
use Rattle.file_index.proofs.Numbers.{among_number, number_within, number_kept, number_on}
use Rattle.file_index.proofs.Links.{link_before, link_behind, link_first, link_head}
use Rattle.file_index.proofs.Inserted.{kept_before, kept_behind, multiplier_kept, link_put, hash_put, start_put, end_put}
use Rattle.file_index.proofs.Ways.{Ended, place_within, way_ended, passes, finds}

-- ---- what an index tells of a name

module _ {t ix : List ℕ} {n : ℕ} {names : List (List ℕ)} (index : Index t ix n names) (x : List ℕ) where
  pub index_known : among x names ≡ ltb (numbers_in t ix n x) n
  index_known = rw (index.knows x, index.count) (among_number x names)

  module _ (r : ℕ) (told : r ≡ numbers_in t ix n x) where
    pub index_number : r ≡ number_in names x
    index_number = told ∙ index.knows x

    -- a number below n is that of a name that is there
    pub known_among : r < n → among x names ≡ true
    known_among l = index_known ∙ rw (← told) (lt-ltb r n l)

    pub among_below : among x names ≡ true → r < n
    among_below h = ltb-true r n (rw (← told) at (sym index_known ∙ h))

    -- n is that of a name that is new
    pub known_new : n ≤ r → among x names ≡ false
    known_new l = index_known ∙ rw (← told) (le-ltb r n l)

    pub new_number : n ≤ r → number_in names x ≡ n
    new_number l = omega (arith, index_number, number_within names x, index.count)

-- ---- an index with no name

zero_word : (size i : ℕ) → get_or {A = ℕ} (replicate size 0) i 0 ≡ 0
zero_word zero i = refl
zero_word (suc size) zero = refl
zero_word (suc size) (suc i) = zero_word size i

-- zeros with a multiplier in front
pub index_cleared : (t : List ℕ) (size m : ℕ) → Index t (set (replicate size 0) multiplier_at m) 0 []
unfolding numbers_in number_in way_end_from number_of
index_cleared t size m = record {
  count = refl;
  low = λ k w l p. rw (nothing w (link_first k w p)) (omega arith);
  clear = λ w l. nothing w (omega arith);
  knows = λ x. refl;
}
  where
    nothing : (w : ℕ) → heads_at ≤ w → get_or (set (replicate size 0) multiplier_at m) w 0 ≡ 0
    nothing w l = get_or-set_other (replicate size 0) multiplier_at w m 0 (λ (e : w ≡ multiplier_at). omega arith) ∙ zero_word size w

-- ---- an index with one name more

-- the number of a place among one name more, where that name is not the one looked for
number_passes : (names : List (List ℕ)) (x y : List ℕ) (n : ℕ) (p : Place) → n ≡ length names → same x y ≡ false → Within n p
    → number_of n p ≡ number_in names y → number_of (n + 1) p ≡ number_in (names ++ (x ∷ [])) y
unfolding number_of number_in Within
number_passes names x y n (Found k) e d l h = rw (number_kept names (x ∷ []) y (omega arith)) h
number_passes names x y n (Free w) e d l h =
    let on : number_in (names ++ (x ∷ [])) y ≡ length names + number_in (x ∷ []) y = number_on names (x ∷ []) y (omega arith) in
    rw (on, d) (omega arith)

-- the place of a new name is free
place_free : (n : ℕ) (p : Place) → Within n p → number_of n p ≡ n → p ≡ Free (word_of p)
unfolding number_of Within word_of
place_free n (Found k) l e = absurd (omega arith)
place_free n (Free w) l e = refl

module _ {t ix : List ℕ} {n : ℕ} {names : List (List ℕ)} (start end h : ℕ) (x : List ℕ) (index : Index t ix n names) (room : name_at (n + 1) ≤ length ix)
    (new : number_in names x ≡ n) (hashed : h ≡ hash_of (multiplier_in ix) x) (stretch : x ≡ take (end - start) (drop start t)) where
  within : (g : ℕ) (y : List ℕ) → Within n (way_end t ix n g y)
  within g y = place_within t ix n index.low g y n 0 0 (heads_at + bucket_of g) (omega arith) (link_head g)

  abbrev slot : ℕ
  slot = word_of (way_end t ix n h x)

  free : way_end t ix n h x ≡ Free slot
  unfolding numbers_in
  free = place_free n (way_end t ix n h x) (within h x) (rw hashed (index.knows x ∙ new))

  ended : Ended ix n slot
  ended = way_ended t ix n index.low h x n 0 0 (heads_at + bucket_of h) slot (omega arith) (omega arith) (link_head h) free

  abbrev after : List ℕ
  after = inserted_at ix n slot start end h

  name_put : name_in t after n ≡ x
  name_put =
      rw (
        start_put ix n slot start end h ended.last ended.at room ended.few,
        end_put ix n slot start end h ended.last ended.at room ended.few,
      )
      (sym stretch)

  hash_kept : (y : List ℕ) → hash_of (multiplier_in after) y ≡ hash_of (multiplier_in ix) y
  hash_kept y = ap (λ (m : ℕ). hash_of m y) (multiplier_kept ix n slot start end h ended.last ended.at)

  it_is : is_name t after h x n ≡ true
  it_is =
      both_true (eqb (hash_in after n) h) (same (name_in t after n) x)
      (eq-eqb _ _ (hash_put ix n slot start end h ended.last ended.at room ended.few))
      (rw name_put (same_refl x))

  new_last : number_in (names ++ (x ∷ [])) x ≡ n
  unfolding number_in
  new_last = rw (number_on names (x ∷ []) x (omega (arith, index.count)), same_refl x) (omega (arith, index.count))

  -- the number of a name with its hash, among one name more
  abbrev numbered : ℕ → List ℕ → ℕ
  numbered g y = number_of (n + 1) (way_end_from t after (n + 1) g y (suc n) 0 0 (heads_at + bucket_of g))

  numbers_are : (g : ℕ) (y : List ℕ) → g ≡ hash_of (multiplier_in ix) y → numbers_in t after (n + 1) y ≡ numbered g y
  unfolding numbers_in
  numbers_are g y e =
      let f : n + 1 ≡ suc n = omega arith in
      rw (hash_kept y, ← e) (ap (λ (fuel : ℕ). number_of (n + 1) (way_end_from t after (n + 1) g y fuel 0 0 (heads_at + bucket_of g))) f)

  found : numbered h x ≡ n
  unfolding number_of
  found =
      ap (number_of (n + 1))
      (finds t ix n index.low index.clear room slot start end h ended h x it_is n 0 0 (heads_at + bucket_of h)
      (omega arith) (omega arith) (link_head h) free)

  -- any other name y, of hash g
  module _ (y : List ℕ) (other : same x y ≡ false) (g : ℕ) (e : g ≡ hash_of (multiplier_in ix) y) where
    is_not : is_name t after g y n ≡ false
    is_not = both_false (eqb (hash_in after n) g) (same (name_in t after n) y) (rw name_put other)

    numbers_other : numbered g y ≡ number_in (names ++ (x ∷ [])) y
    unfolding numbers_in
    numbers_other =
        passes t ix n index.low index.clear room slot start end h ended g y is_not n 0 0 (heads_at + bucket_of g)
        (omega arith) (omega arith) (link_head g)
        ∙ number_passes names x y n (way_end t ix n g y) index.count other (within g y) (rw e (index.knows y))

  numbers_more : (y : List ℕ) → numbers_in t after (n + 1) y ≡ number_in (names ++ (x ∷ [])) y
  numbers_more y = go (same x y) refl
    where
      go : (b : Bool) → same x y ≡ b → numbers_in t after (n + 1) y ≡ number_in (names ++ (x ∷ [])) y
      go true s = let e : x ≡ y = same_equal x y s in rw (← e) (numbers_are h x hashed ∙ found ∙ sym new_last)
      go false s = numbers_are (hash_of (multiplier_in ix) y) y refl ∙ numbers_other y s (hash_of (multiplier_in ix) y) refl

  links_low : (k w : ℕ) → k ≤ n + 1 → LinkOf k w → link_in after w ≤ n + 1
  links_low k w l p = ⊎_elim
      (λ (e : w ≡ slot). rw (e, link_put ix n slot start end h ended.last ended.at room ended.few) (omega arith))
      (λ (d : w ≡ slot → ⊥). ⊎_elim
      (λ (m : k ≤ n). rw (kept_before ix n slot start end h w (omega (arith, link_before k w p)) d) (omega (arith, index.low k w m p)))
      (λ (m : n < k).
      let f : k ≡ suc n = omega arith in
      let q : LinkOf (suc n) w = rw f at p in
      rw (kept_behind ix n slot start end h w (link_behind n w q) d, index.clear w (omega (arith, link_behind n w q))) (omega arith))
      (le_or_lt k n))
      (same_or_not w slot)

  words_clear : (w : ℕ) → name_at (n + 1) ≤ w → get_or after w 0 ≡ 0
  words_clear w l =
      kept_behind ix n slot start end h w (omega arith) (λ (e : w ≡ slot). omega (arith, link_before ended.last slot ended.at, ended.few))
      ∙ index.clear w (omega arith)

  pub index_more : Index t (inserted_at ix n (word_of (way_end t ix n h x)) start end h) (n + 1) (names ++ (x ∷ []))
  index_more = record {
    count = rw length-append (omega (arith, index.count));
    low = links_low;
    clear = words_clear;
    knows = numbers_more;
  }

  -- the same of the words as `insert` leaves them
  pub index_after : (left : List ℕ) → left ≡ inserted t ix n start end h → Index t left (n + 1) (names ++ (x ∷ []))
  index_after left e = rw (e, ← stretch) index_more
