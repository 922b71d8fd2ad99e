-- The set that the names of a list make, one domain put in for each, is the set of the domains that the list names.
use mathlib.Core.Path.{◌≡◌, refl, sym, ◌∙◌}
use mathlib.Core.Bool.{Bool, true, false, cond, ◌||◌, or-false}
use mathlib.Core.Logic.{dite}
use mathlib.Core.List.{List, [], ◌∷◌, map}
use Prim.Native.Nat.{ℕ, zero, suc, ◌+◌, ◌-◌, ◌*◌, ◌/◌, ◌%◌, ◌^◌, min, ◌<◌, ◌≤◌}
use native.Mathlib.Decide.{ℕ_discrete, dec_lt}
use native.Mathlib.Nat.{not-suc-le-zero, zero-add, pow-suc, zero-div}
use native.Mathlib.Numerals.{add-one}
use native.Mathlib.Omega.{arith}
use borrow.Author.Tests.{eqb-true, eqb-false, eq-eqb, ne_eqb, lt-ltb, le-ltb}
use lib.Dec.{eqb}
use lib.ListN.{length, get_or, set, replicate, length-set, length-map, length-replicate, get_or-replicate}
use lib.Seq.{get_or-set_same, get_or-set_other, ext_get_or}
use Rattle.paper.specs.Common.{count_up, is, any_of, same, among, number_in}
use Rattle.paper.specs.Lists.{elements}
use Rattle.paper.specs.Rules.{repeats}
use Rattle.paper.specs.Policy.{every, these, grant_of}
use Rattle.paper.specs.Limits.{most_domains}
use Rattle.paper.specs.Table.{word_bits, set_size, padded, is_in, with_domain, grant_in, grant_fits, grant_words}
use Rattle.paper.proofs.Bits.{bit_fits}
use Rattle.laws.proofs.Tests.{up_to_all, eqb_same, same_refl, same_equal, same_test, neither_left, neither_right}
use Rattle.laws.proofs.Counting.{length_map_counted, get_d_counted}
use Rattle.laws.proofs.Stretches.{Stands}
use Rattle.laws.proofs.Sets.{contains_after_insert}
use Rattle.file_index.proofs.Numbers.{same_sym}
use Rattle.laws_table.proofs.Grants.{length_grant, grant_stands}
use Rattle.file_blocks.specs.Written.{with_word, with_words, grant_by}

-- ---- names that do not repeat are numbered by their places

-- name e is none of those seen before, and has number e
record Own (seen names : List (List ℕ)) (e : ℕ) : Type 0 where
  new : among (get_or names e []) seen ≡ false
  own : number_in names (get_or names e []) ≡ e

own_number : (seen names : List (List ℕ)) → repeats seen names ≡ false → (e : ℕ) → e < length names → Own seen names e
unfolding repeats among any_of number_in
own_number seen [] h e l = absurd (not-suc-le-zero l)
own_number seen (x ∷ xs) h zero l = record { new = neither_left _ _ h; own = rw (same_refl x) }
own_number seen (x ∷ xs) h (suc e) l =
    let r : Own (x ∷ seen) xs e = own_number (x ∷ seen) xs (neither_right (among x seen) _ h) e (omega arith) in
    let d : same x (get_or xs e []) ≡ false = same_sym x (get_or xs e []) ∙ neither_left _ _ r.new in
    record { new = neither_right (same (get_or xs e []) x) _ r.new; own = rw (d, r.own, add-one) }

-- a number below the count is a name's
number_named : (names : List (List ℕ)) (s : List ℕ) → number_in names s < length names → get_or names (number_in names s) [] ≡ s
unfolding number_in
number_named [] s h = absurd (not-suc-le-zero h)
number_named (x ∷ xs) s h = go (same x s) refl h (number_named xs s)
  where
    go : (t : Bool) → same x s ≡ t → cond t 0 (number_in xs s + 1) < suc (length xs) → (number_in xs s < length xs → get_or xs (number_in xs s) [] ≡ s)
        → get_or (x ∷ xs) (cond t 0 (number_in xs s + 1)) [] ≡ s
    go true e l ih = same_equal x s e
    go false e l ih = rw add-one (ih (omega arith))

module _ (names : List (List ℕ)) (apart : repeats [] names ≡ false) (e : ℕ) (l : e < length names) where
  number_is : (s : List ℕ) → eqb (number_in names s) e ≡ same (get_or names e []) s
  number_is s =
      same_test _ _
      (λ h.
      let q : number_in names s ≡ e = eqb-true _ _ h in
      let p : get_or names e [] ≡ s = rw q at (number_named names s (omega arith)) in
      rw p (same_refl s))
      (λ h. let p : get_or names e [] ≡ s = same_equal _ _ h in eq-eqb _ _ (rw p at (own_number [] names apart e l).own))

  -- one of the words of a list is e if name e stands in the list
  any_named : (xs : List (List ℕ)) → any_of (λ w. eqb w e) (map (number_in names) xs) ≡ among (get_or names e []) xs
  unfolding among any_of
  any_named [] = refl
  any_named (x ∷ xs) = rw (number_is x, any_named xs)

-- ---- a set of n domains

-- it has no bit at or past n
record Among (n : ℕ) (domains : List ℕ) : Type 0 where
  long : length domains ≡ set_size
  below : (j : ℕ) → j < set_size → get_or domains j 0 < 2 ^ min word_bits (n - word_bits * j)

none_in : (n : ℕ) → Among n (replicate set_size 0)
none_in n = record { long = length-replicate {A = ℕ} set_size 0; below = λ j l. rw (get_or-replicate {A = ℕ} set_size j 0 0 l) (pow_pos (min word_bits (n - word_bits * j))) }
  where
    pow_pos : (k : ℕ) → 0 < 2 ^ k
    pow_pos zero = omega arith
    pow_pos (suc k) = omega (arith, pow-suc 2 k, pow_pos k)

none_is_in : (e : ℕ) → e < most_domains → is_in (replicate set_size 0) e ≡ false
unfolding is_in
none_is_in e l = let q : e / word_bits < set_size = omega arith in rw (get_or-replicate {A = ℕ} set_size (e / word_bits) 0 0 q, zero-div)

module _ (n : ℕ) (domains : List ℕ) (d : ℕ) (l : d < n) (few : n ≤ most_domains) (a : Among n domains) where
  -- its word, and that word with its bit
  abbrev at : ℕ
  at = d / word_bits

  abbrev put : ℕ
  put = get_or domains at 0 + 2 ^ (d % word_bits)

  off : is_in domains d ≡ false → get_or domains at 0 / 2 ^ (d % word_bits) % 2 ≡ 0
  unfolding is_in
  off h = let m : get_or domains at 0 / 2 ^ (d % word_bits) % 2 ≡ 1 → ⊥ = eqb-false _ 1 h in omega arith

  put_below : is_in domains d ≡ false → (j : ℕ) → j < set_size → get_or (set domains at put) j 0 < 2 ^ min word_bits (n - word_bits * j)
  put_below h j k = dite (ℕ_discrete j at)
      (λ (e : j ≡ at). rw (e, get_or-set_same domains at put 0 (omega (arith, a.long)))
      (bit_fits (min word_bits (n - word_bits * at)) (d % word_bits) (get_or domains at 0) (omega arith) (a.below at (omega arith)) (off h)))
      (λ (m : j ≡ at → ⊥). rw (get_or-set_other domains at j put 0 m) (a.below j k))

  one_more : Among n (with_domain domains d)
  unfolding with_domain
  one_more = go (is_in domains d) refl
    where
      go : (t : Bool) → is_in domains d ≡ t → Among n (cond t domains (set domains at put))
      go true h = a
      go false h = record { long = length-set domains at put ∙ a.long; below = put_below h }

either_turned : (a b c : Bool) → (b || (a || c)) ≡ ((a || b) || c)
either_turned true true c = refl
either_turned true false c = refl
either_turned false b c = refl

module _ (n : ℕ) (few : n ≤ most_domains) where
  word_more : (domains : List ℕ) (d : ℕ) → Among n domains → Among n (with_word n domains d)
  unfolding with_word
  word_more domains d a = dite (dec_lt d n)
      (λ (h : d < n). rw (lt-ltb d n h) (one_more n domains d h few a))
      (λ (h : ¬ (d < n)). rw (le-ltb d n (omega arith)) a)

  is_in_more : (domains : List ℕ) (d e : ℕ) → e < n → Among n domains → is_in (with_word n domains d) e ≡ (eqb d e || is_in domains e)
  unfolding with_word
  is_in_more domains d e l a = dite (dec_lt d n)
      (λ (h : d < n). rw (lt-ltb d n h, contains_after_insert domains d e (omega (arith, a.long)), eqb_same e d d e (λ p. sym p) (λ p. sym p)))
      (λ (h : ¬ (d < n)). rw (le-ltb d n (omega arith), ne_eqb d e (λ q. h (omega arith))))

  words_more : (domains ds : List ℕ) → Among n domains → Among n (with_words n domains ds)
  unfolding with_words
  words_more domains [] a = a
  words_more domains (d ∷ ds) a = words_more (with_word n domains d) ds (word_more domains d a)

  are_in : (domains ds : List ℕ) (e : ℕ) → e < n → Among n domains → is_in (with_words n domains ds) e ≡ (any_of (λ w. eqb w e) ds || is_in domains e)
  unfolding with_words any_of
  are_in domains [] e l a = refl
  are_in domains (d ∷ ds) e l a =
      are_in (with_word n domains d) ds e l (word_more domains d a)
      ∙ rw (is_in_more domains d e l a) (either_turned (eqb d e) (any_of (λ w. eqb w e) ds) (is_in domains e))

-- ---- the words of a grant

module _ (n : ℕ) (domains : List ℕ) (few : n ≤ most_domains) (a : Among n domains) where
  second_on : (j : ℕ) → get_or (0 ∷ domains) (0 + 1 + j) 0 ≡ get_or domains j 0
  second_on j = let e : 0 + 1 + j ≡ suc j = omega arith in rw e

  fits : grant_fits (0 ∷ domains) 0 n ≡ true
  unfolding grant_fits
  fits = up_to_all _ set_size (λ j l. rw (second_on j) (lt-ltb _ _ (a.below j l)))

  these_in : grant_in (0 ∷ domains) 0 n ≡ these (map (is_in domains) (count_up 0 n))
  unfolding grant_in
  these_in = refl

  set_is : (bs : List Bool) → length bs ≡ n → ((e : ℕ) → e < n → is_in domains e ≡ get_or bs e false) → 0 ∷ domains ≡ grant_words (these bs)
  set_is bs long h =
      let q : map (is_in domains) (count_up 0 n) ≡ bs =
      ext_get_or false _ bs (length_map_counted (is_in domains) 0 n ∙ sym long)
      (λ e l. get_d_counted (is_in domains) false 0 n e (rw length_map_counted at l) ∙ rw zero-add (h e (rw length_map_counted at l))) in
      let s : Stands (0 ∷ domains) 0 (grant_words (these bs)) = rw (these_in, q) at (grant_stands (0 ∷ domains) 0 n fits) in
      let k : length (grant_words (these bs)) ≡ 9 = length_grant (these bs) in
      ext_get_or 0 (0 ∷ domains) (grant_words (these bs)) (omega (arith, a.long)) (λ i l. rw zero-add at (s.reads i (omega (arith, a.long))))

every_is : 1 ∷ replicate set_size 0 ≡ grant_words every
unfolding grant_words padded
every_is = refl

mapped : {A B : Type 0} (f : A → B) (xs : List A) (d : A) (d' : B) (i : ℕ) → i < length xs → f (get_or xs i d) ≡ get_or (map f xs) i d'
mapped f [] d d' i l = absurd (not-suc-le-zero l)
mapped f (x ∷ xs) d d' zero l = refl
mapped f (x ∷ xs) d d' (suc i) l = mapped f xs d d' i (omega arith)

module _ (names : List (List ℕ)) (n : ℕ) (count : n ≡ length names) (few : n ≤ most_domains) (apart : repeats [] names ≡ false) where
  -- the words of a list's names
  abbrev ws : List (List ℕ) → List ℕ
  ws xs = map (number_in names) xs

  these_are : (xs : List (List ℕ)) → 0 ∷ with_words n (replicate set_size 0) (ws xs) ≡ grant_words (these (map (λ name. among name xs) names))
  these_are xs =
      set_is n _ few (words_more n few (replicate set_size 0) (ws xs) (none_in n)) _ (length-map names (λ name. among name xs) ∙ sym count)
      (λ e l.
      are_in n few (replicate set_size 0) (ws xs) e l (none_in n)
      ∙ rw (any_named names apart e (omega arith) xs, none_is_in e (omega arith), or-false)
      (mapped (λ name. among name xs) names [] false e (omega arith)))

  pub grant_is : (v : List ℕ) → grant_by (number_in names) n v ≡ grant_words (grant_of names v)
  unfolding grant_by grant_of
  grant_is v = go (is "all" v)
    where
      go : (t : Bool) → cond t (1 ∷ replicate set_size 0) (0 ∷ with_words n (replicate set_size 0) (ws (elements v)))
          ≡ grant_words (cond t every (these (map (λ name. among name (elements v)) names)))
      go true = every_is
      go false = these_are (elements v)
