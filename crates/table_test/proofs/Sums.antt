-- Equal principals have equal sums: one whose sum is new is new.
use Prim.Native.Nat.{ℕ, ◌+◌, ◌*◌, ◌^◌, ◌<◌, ◌≤◌, suc}
use native.Mathlib.Nat.{mul-le-mul, le_of_lt}
use native.Mathlib.Omega.{arith}
use native.Mathlib.Decide.{ℕ_discrete}
use mathlib.Core.Path.{◌≡◌, refl, sym, ap, ◌∙◌}
use mathlib.Core.Bool.{Bool, true, false, not, false≢true}
use mathlib.Core.List.{List, [], ◌∷◌}
use mathlib.Core.Logic.{dite}
use lib.ListN.{length, take, drop, get_or, set, length-take}
use lib.Seq.{get_or-set_same, get_or-set_other, get_or-take}
use borrow.Author.Tests.{eq-eqb}
use Rattle.std.specs.List.{list_all, enumerate_from, sum_by}
use Rattle.std.proofs.lemmas.List.Folds.{list_all_at}
use Rattle.std.proofs.lemmas.List.Sums.{sum_by-cons}
use Rattle.paper.specs.Table.{principal_size, entry_at, one_principal}
use Rattle.table_blocks.specs.Parts.{differs_from, principal_is_new}
use Rattle.paper.specs.Common.{up_to}
use Rattle.laws.proofs.Tests.{up_to_all, same_equal, test_fails, tests_again}
use Rattle.table_test.specs.Sums.{weight, weighed, is_other_sum, principal_words, principal_sum, Summed}

-- ---- the sum of some words

-- more than the weight of any word of a principal
abbrev most_weight : ℕ
most_weight = 2 ^ 21

fits_from : (n : ℕ) (ws : List ℕ) → n + length ws ≤ principal_size → ((i : ℕ) → get_or ws i 0 < 2 ^ 16) → sum_by weight (enumerate_from n ws) ≤ most_weight * length ws
fits_from n [] l f = omega arith
fits_from n (w ∷ ws) l f =
    let place : n + 1 ≤ 32 = omega arith in
    let one : w * (n + 1) ≤ most_weight = mul-le-mul (le_of_lt (f 0)) place in
    let rest : sum_by weight (enumerate_from (n + 1) ws) ≤ most_weight * length ws = fits_from (n + 1) ws (omega arith) (λ i. f (suc i)) in
    let more : most_weight * suc (length ws) ≡ most_weight + most_weight * length ws = omega arith in
    omega (arith, sum_by-cons weight (n, w) (enumerate_from (n + 1) ws))

pub weighed_fits : (ws : List ℕ) → length ws ≤ principal_size → ((i : ℕ) → get_or ws i 0 < 2 ^ 16) → weighed ws < 2 ^ 32
weighed_fits ws l f = omega (arith, fits_from 0 ws (omega arith) f)

-- ---- the sums of the principals

pub principal_short : (ws : List ℕ) (k : ℕ) → length (principal_words ws k) ≤ principal_size
principal_short ws k = omega (arith, length-take principal_size (drop (entry_at k) ws))

module _ (ws sums : List ℕ) (summed : Summed ws sums) (sum : ℕ) (is : sum ≡ principal_sum ws (length sums)) where
  twin_summed : (j : ℕ) → j < length sums → one_principal ws j (length sums) ≡ true → list_all (is_other_sum sum) sums ≡ false
  unfolding one_principal
  twin_summed j h e =
      let q : get_or sums j 0 ≡ sum = summed.each j h ∙ ap weighed (same_equal _ _ e) ∙ sym is in
      list_all_at (is_other_sum sum) sums j 0 h (ap not (eq-eqb _ _ q))

  pub new_by_sum : (r : Bool) → r ≡ list_all (is_other_sum sum) sums → r ≡ true → r ≡ principal_is_new ws (length sums)
  new_by_sum r told new = new ∙ sym (up_to_all (differs_from ws (length sums)) (length sums) (λ j h. go j h (one_principal ws j (length sums)) refl))
    where
      go : (j : ℕ) → j < length sums → (t : Bool) → one_principal ws j (length sums) ≡ t → not t ≡ true
      go j h false e = refl
      go j h true e = absurd (false≢true (sym (twin_summed j h e) ∙ sym told ∙ new))

pub none_summed : (ws : List ℕ) → Summed ws []
none_summed ws = record { each = λ j l. absurd (omega arith) }

-- the sums of the entries before entry k, kept at the front of more
module _ (ws sums : List ℕ) (k : ℕ) (room : k < length sums) where
  front : length (take k sums) ≡ k
  front = omega (arith, length-take k sums)

  pub summed_more : (sum : ℕ) → Summed ws (take k sums) → sum ≡ principal_sum ws k → Summed ws (take (k + 1) (set sums k sum))
  summed_more sum summed is = record { each = λ j l. go j (omega (arith, length-take (k + 1) (set sums k sum))) }
    where
      go : (j : ℕ) → j < k + 1 → get_or (take (k + 1) (set sums k sum)) j 0 ≡ principal_sum ws j
      go j l = get_or-take (k + 1) (set sums k sum) j 0 l ∙ dite (ℕ_discrete j k)
          (λ q. rw q (get_or-set_same sums k sum 0 room ∙ is))
          (λ n. let below : j < k = omega arith in
          get_or-set_other sums k j sum 0 n ∙ sym (get_or-take k sums j 0 below) ∙ summed.each j (omega (arith, front)))

  module _ (r : Bool) (told : r ≡ principal_is_new ws (length (take k sums))) where
    pub twin_found : (n : ℕ) → k < n → not r ≡ true → false ≡ up_to (principal_is_new ws) n
    twin_found n l h = test_fails (principal_is_new ws) n k r l (rw front at told) h

    pub none_yet : up_to (principal_is_new ws) k ≡ true → not r ≡ false → up_to (principal_is_new ws) (k + 1) ≡ true
    none_yet new h = tests_again (principal_is_new ws) k r new (rw front at told) h
