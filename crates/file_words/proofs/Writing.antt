-- The words of names, element by element: what is written and what is left to write is the whole.
use mathlib.Core.Path.{◌≡◌, refl, sym, ap, ◌∙◌}
use mathlib.Core.Bool.{Bool, true, false}
use mathlib.Core.List.{List, [], ◌∷◌, ◌++◌, map}
use Prim.Native.Nat.{ℕ, suc, ◌+◌, ◌-◌, ◌*◌, ◌^◌, ◌<◌, ◌≤◌}
use native.Mathlib.Omega.{arith}
use mir.Syntax.{w64}
use mir.Val.{Fits}
use lib.ListN.{length, take, drop, set, length-map, length-set}
use lib.Seq.{sets, sets-eq, take-length}
use borrow.Author.Tests.{lt-ltb, le-ltb}
use Rattle.paper.specs.Common.{is}
use Rattle.paper.specs.Lists.{elements_in}
use Rattle.paper.specs.Table.{first_domain_word}
use Rattle.text_lists.specs.Walk.{first_element, element_at, elements_left, SpacedFrom}
use Rattle.text_lists.specs.declared.Element.{Element}
use Rattle.std.specs.Prelude.{Option, Some, None}
use Rattle.text_lists.proofs.Walk.{left_first, left_none, left_found, found_from, found_to_lem, found_less, spaced_found}
use Rattle.file_index.specs.Buckets.{hash_of, numbers_in}
use Rattle.file_words.specs.declared.Hashed.{Hashed}
use Rattle.file_words.specs.Hashed.{hashed_by, hashed_at}
use Rattle.file_words.specs.Words.{element_word_by, word_by}

-- ---- lent anew

-- a list lent from its front to its end
abbrev lent : List ℕ → List ℕ
lent xs = take (length xs - 0) (drop 0 xs)

is_lent : (xs : List ℕ) → lent xs ≡ xs
is_lent xs = let e : length xs - 0 ≡ length xs = omega arith in rw e (take-length xs)

module _ (t ix name : List ℕ) (n : ℕ) where
  pub lent_number : (d : ℕ) → d ≡ numbers_in (lent t) ix n (lent name) → d ≡ numbers_in t ix n name
  lent_number d e = e ∙ rw (is_lent t, is_lent name) refl

-- ---- the word of a name

module _ (function : List ℕ → ℕ) (functions : ℕ) (subject : List ℕ → ℕ) (s : List ℕ) (a : Bool) (p : a ≡ is "all" s) where
  pub word_of_all : a ≡ true → 0 ≡ element_word_by function functions subject s
  unfolding element_word_by
  word_of_all l = rw (← p, l) refl

  module _ (l : a ≡ false) (k : ℕ) (e : k ≡ function s) where
    pub word_of_function : k < functions → k + 1 ≡ element_word_by function functions subject s
    unfolding element_word_by
    word_of_function h = rw (← p, l, ← e, lt-ltb k functions h) refl

    pub word_of_domain : (d : ℕ) → functions ≤ k → d ≡ subject s → first_domain_word + d ≡ element_word_by function functions subject s
    unfolding element_word_by
    word_of_domain d h f = rw (← p, l, ← e, le-ltb k functions h, f) refl

module _ (pattern : Bool) (number : List ℕ → ℕ) (n : ℕ) (subject : List ℕ → ℕ) (s : List ℕ) (k : ℕ) where
  pub word_of_name : pattern ≡ false → k ≡ number s → k ≡ word_by pattern number n subject s
  unfolding word_by
  word_of_name h e = rw h e

  pub word_of_element : pattern ≡ true → k ≡ element_word_by number n subject s → k ≡ word_by pattern number n subject s
  unfolding word_by
  word_of_element h e = rw h e

-- in a list of domains the words are their numbers
pub domains_written : (number : List ℕ → ℕ) (n : ℕ) (subject : List ℕ → ℕ) (xs : List (List ℕ)) (out rest : List ℕ)
    → out ≡ map (word_by false number n subject) xs ++ rest → out ≡ map number xs ++ rest
unfolding word_by
domains_written number n subject xs out rest h = h

-- ---- the walk, an element with its hash at a time

module _ (s : List ℕ) (at : ℕ) (h : at ≡ first_element s) where
  left_at_first : elements_left s at ≡ elements_in s
  left_at_first = rw h (left_first s)

  pub count_first : 0 + length (elements_left s at) ≡ length (elements_in s)
  count_first = rw left_at_first (omega arith)

  pub written_first : (word : List ℕ → ℕ) (out : List ℕ) → sets out 0 (map word (elements_left s at)) ≡ sets out 0 (map word (elements_in s))
  written_first word out = rw left_at_first refl

abbrev some_element : Element → Option Element
some_element e = Some e

module _ (m : ℕ) (s : List ℕ) (at : ℕ) (r : Option Hashed) (q : r ≡ hashed_at m s at) where
  none_left : r ≡ None → elements_left s at ≡ []
  unfolding hashed_at
  none_left n = go (element_at s at) refl q
    where
      go : (x : Option Element) → element_at s at ≡ x → r ≡ hashed_by m s at x → elements_left s at ≡ []
      go None e h = left_none s at None (sym e) refl
      go (Some x) e h = cc

  module _ (y : Hashed) (n : r ≡ Some y) where
    abbrev end : ℕ
    end = y.end

    abbrev next : ℕ
    next = y.next

    -- the element, without its hash
    abbrev found : Element
    found = record { end = y.end; next = y.next }

    found_hashed : (Some found ≡ element_at s at) × (y.hash ≡ hash_of m (take (y.end - at) (drop at s)))
    unfolding hashed_at
    found_hashed = go (element_at s at) refl q
      where
        go : (x : Option Element) → element_at s at ≡ x → r ≡ hashed_by m s at x → (Some found ≡ element_at s at) × (y.hash ≡ hash_of m (take (y.end - at) (drop at s)))
        go None e h = cc
        go (Some x) e h =
            let same : y ≡ record { end = x.end; next = x.next; hash = hash_of m (take (x.end - at) (drop at s)) } = cc in
            (ap (λ (z : Hashed). some_element (record { end = z.end; next = z.next })) same ∙ sym e, ap (λ (z : Hashed). z.hash) same ∙ ap (λ (z : Hashed). hash_of m (take (z.end - at) (drop at s))) (sym same))

    is_found : Some found ≡ element_at s at
    is_found = found_hashed.0

    pub its_hash : y.hash ≡ hash_of m (take (y.end - at) (drop at s))
    its_hash = found_hashed.1

    pub its_start : at ≤ end
    its_start = found_from s at (Some found) is_found found refl

    pub its_end : end ≤ length s
    its_end = found_to_lem s at (Some found) is_found found refl

    pub less_left : length s + 3 - next < length s + 3 - at
    less_left = found_less s at (Some found) is_found found refl

    module _ (k : SpacedFrom s at) where
      pub spaced_on : SpacedFrom s next
      spaced_on = spaced_found s at (Some found) is_found found refl k

      one_left : elements_left s at ≡ take (end - at) (drop at s) ∷ elements_left s next
      one_left = left_found s at (Some found) is_found found refl k

      module _ (w : ℕ) (out start : List ℕ) (long : length out ≡ length start) (count : w + length (elements_left s at) ≡ length (elements_in s)) where
        pub count_on : w + 1 + length (elements_left s next) ≡ length (elements_in s)
        count_on = omega (arith, ap length one_left)

        pub room_here : length (elements_in s) ≤ length start → w < length out
        room_here l = omega (arith, ap length one_left)

        pub room_fits : length (elements_in s) ≤ length start → length start * 2 < 2 ^ 63 → Fits w64 (w + 1)
        room_fits l z = omega (arith, ap length one_left)

        pub long_on : (x : ℕ) → length (set out w x) ≡ length start
        long_on x = length-set out w x ∙ long

        pub written_on : (word : List ℕ → ℕ) (x : ℕ) (whole : List ℕ) → sets out w (map word (elements_left s at)) ≡ whole
            → x ≡ word (take (end - at) (drop at s)) → sets (set out w x) (w + 1) (map word (elements_left s next)) ≡ whole
        written_on word x whole inv e = let one : w + 1 ≡ suc w = omega arith in rw (one, e) (rw one_left at inv)

  module _ (n : r ≡ None) (w : ℕ) (count : w + length (elements_left s at) ≡ length (elements_in s)) where
    pub all_counted : w ≡ length (elements_in s)
    all_counted = omega (arith, ap length (none_left n))

    pub all_written : (word : List ℕ → ℕ) (out start : List ℕ) → length (elements_in s) ≤ length start
        → sets out w (map word (elements_left s at)) ≡ sets start 0 (map word (elements_in s)) → out ≡ map word (elements_in s) ++ drop w start
    all_written word out start l inv =
        let e : 0 + length (map word (elements_in s)) ≡ w = omega (arith, all_counted, length-map (elements_in s) word) in
        let f : out ≡ sets start 0 (map word (elements_in s)) = rw (none_left n) at inv in
        f ∙ sets-eq (map word (elements_in s)) start 0 (omega arith) ∙ ap (λ (k : ℕ). map word (elements_in s) ++ drop k start) e
