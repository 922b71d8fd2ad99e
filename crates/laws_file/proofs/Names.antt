-- A name that a list has is known by its number: over any list of names.
use mathlib.Core.Path.{◌≡◌, refl, sym, ap, ◌∙◌}
use mathlib.Core.Bool.{Bool, true, false, cond, false≢true}
use mathlib.Core.Logic.{⊎_elim}
use mathlib.Core.List.{List, [], ◌∷◌, ◌++◌, map}
use Prim.Native.Nat.{ℕ, suc, ◌+◌, ◌<◌, ◌≤◌}
use native.Mathlib.Numerals.{add-one}
use native.Mathlib.Omega.{arith}
use lib.ListN.{length, get_or}
use borrow.Author.Tests.{lt-ltb}
use Rattle.paper.specs.Common.{bytes, is, all_of, any_of, same, among, number_in}
use Rattle.paper.specs.Limits.{most_members}
use Rattle.paper.specs.Policy.{Element, all, fn, any_in, element_of}
use Rattle.paper.specs.Table.{element_word, element_in}
use Rattle.laws.proofs.Tests.{both_left, both_right, either_of, neither_left, neither_right, same_refl, same_equal}
use Rattle.laws.proofs.Counting.{all_of_weaker}
use Rattle.laws_table.specs.Proper.{element_below}
use Rattle.laws_table.proofs.Contexts.{elements_read}
use Rattle.laws_file.proofs.Stretched.{all_of_map}

same_turned : (x y : List ℕ) → same x y ≡ false → same y x ≡ true → ◌≡◌ {A = ℕ} 0 1
same_turned x y p q = let e : y ≡ x = same_equal y x q in let z : true ≡ false = sym (same_refl x) ∙ rw e at p in cc

-- a name that is not the first is one of the others
among_others : (s name : List ℕ) (names : List (List ℕ)) → among s (name ∷ names) ≡ true → same name s ≡ false → among s names ≡ true
unfolding among any_of
among_others s name names h n =
    ⊎_elim (λ k. absurd (let z = same_turned name s n k in omega arith)) (λ k. k) (either_of (same s name) (any_of (same s) names) h)

-- one that the first list lacks is in the second
among_behind : (s : List ℕ) (xs ys : List (List ℕ)) → among s (xs ++ ys) ≡ true → among s xs ≡ false → among s ys ≡ true
unfolding among any_of
among_behind s [] ys h n = h
among_behind s (x ∷ xs) ys h n = among_behind s xs ys (rw (neither_left (same s x) (any_of (same s) xs) n) at h) (neither_right (same s x) (any_of (same s) xs) n)

none_among : (s : List ℕ) → among s [] ≡ true → ◌≡◌ {A = ℕ} 0 1
unfolding among any_of
none_among s h = absurd (false≢true h)

-- its number is below how many there are, and it is the name with that number
pub number_below : (names : List (List ℕ)) (s : List ℕ) → among s names ≡ true → number_in names s < length names
unfolding number_in
number_below [] s h = absurd (let z = none_among s h in omega arith)
number_below (name ∷ names) s h = go (same name s) refl (number_below names s)
  where
    go : (t : Bool) → same name s ≡ t → (among s names ≡ true → number_in names s < length names) → cond t 0 (number_in names s + 1) < suc (length names)
    go true e k = omega arith
    go false e k = omega (arith, k (among_others s name names h e))

named : (names : List (List ℕ)) (s : List ℕ) → among s names ≡ true → get_or names (number_in names s) [] ≡ s
unfolding number_in
named [] s h = absurd (let z = none_among s h in omega arith)
named (name ∷ names) s h = go (same name s) refl (named names s)
  where
    go : (t : Bool) → same name s ≡ t → (among s names ≡ true → get_or names (number_in names s) [] ≡ s) → get_or (name ∷ names) (cond t 0 (number_in names s + 1)) [] ≡ s
    go true e k = same_equal name s e
    go false e k = rw add-one (k (among_others s name names h e))

-- two names with one number are the same
pub one_number : (names : List (List ℕ)) (s r : List ℕ) → among s names ≡ true → among r names ≡ true → number_in names s ≡ number_in names r → s ≡ r
one_number names s r p q e = sym (named names s p) ∙ ap (λ (k : ℕ). get_or names k []) e ∙ named names r q

-- ---- the elements of a pattern: `all`, a function or a subject domain

module _ (functions domains : List (List ℕ)) where
  -- what is known
  abbrev pub known : List ℕ → Bool
  known s = among s (bytes "all" ∷ (functions ++ domains))

  -- what an element is written as
  name_of : Element → List ℕ
  name_of all = bytes "all"
  name_of (fn f) = get_or functions f []
  name_of (any_in d) = get_or domains d []

  -- a known element is one of the three
  module _ (s : List ℕ) (h : known s ≡ true) where
    others : is "all" s ≡ false → among s functions ≡ false → among s domains ≡ true
    others a f = among_behind s functions domains (among_others s (bytes "all") (functions ++ domains) h a) f

    pub element_below_lem : element_below (length functions) (length domains) (element_of functions domains s) ≡ true
    unfolding element_of element_below
    element_below_lem = go (is "all" s) refl (among s functions) refl
      where
        go : (a : Bool) → is "all" s ≡ a → (f : Bool) → among s functions ≡ f
            → element_below (length functions) (length domains) (cond a all (cond f (fn (number_in functions s)) (any_in (number_in domains s)))) ≡ true
        go true e f g = refl
        go false e true g = lt-ltb _ _ (number_below functions s g)
        go false e false g = lt-ltb _ _ (number_below domains s (others e g))

    as_written : name_of (element_of functions domains s) ≡ s
    unfolding element_of name_of
    as_written = go (is "all" s) refl (among s functions) refl
      where
        go : (a : Bool) → is "all" s ≡ a → (f : Bool) → among s functions ≡ f
            → name_of (cond a all (cond f (fn (number_in functions s)) (any_in (number_in domains s)))) ≡ s
        go true e f g = same_equal (bytes "all") s e
        go false e true g = named functions s g
        go false e false g = named domains s (others e g)

  pub all_below_lem : (xs : List (List ℕ)) → all_of known xs ≡ true → all_of (element_below (length functions) (length domains)) (map (element_of functions domains) xs) ≡ true
  all_below_lem xs h = all_of_map (element_of functions domains) (element_below (length functions) (length domains)) xs (all_of_weaker known _ element_below_lem xs h)

  all_written : (xs : List (List ℕ)) → all_of known xs ≡ true → map name_of (map (element_of functions domains) xs) ≡ xs
  unfolding all_of
  all_written [] h = refl
  all_written (x ∷ xs) h =
      let a : name_of (element_of functions domains x) ≡ x = as_written x (both_left (known x) _ h) in
      let b : map name_of (map (element_of functions domains) xs) ≡ xs = all_written xs (both_right (known x) _ h) in
      cc

  -- two patterns with the same words are written alike: no function has the word of a domain
  pub one_pattern : length functions ≤ most_members → (xs ys : List (List ℕ)) → all_of known xs ≡ true → all_of known ys ≡ true
      → map element_word (map (element_of functions domains) xs) ≡ map element_word (map (element_of functions domains) ys) → xs ≡ ys
  one_pattern few xs ys p q e =
      let read : (zs : List (List ℕ)) → all_of known zs ≡ true → map element_in (map element_word (map (element_of functions domains) zs)) ≡ map (element_of functions domains) zs =
      λ zs h. elements_read (length functions) (length domains) few (map (element_of functions domains) zs) (all_below_lem zs h) in
      sym (all_written xs p) ∙ ap (map name_of) (sym (read xs p) ∙ ap (map element_in) e ∙ read ys q) ∙ all_written ys q
