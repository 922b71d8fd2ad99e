-- A pattern whose first or last element is neither `all` nor one of the words that can meet its frame does not match.
use Prim.Native.Nat.{ℕ, suc, ◌+◌, ◌-◌, ◌<◌, ◌≤◌}
use native.Mathlib.Omega.{arith}
use mathlib.Core.Path.{◌≡◌, refl, sym, ◌∙◌}
use mathlib.Core.Bool.{Bool, false, ◌||◌}
use mathlib.Core.Logic.{⊎_elim}
use mathlib.Core.List.{List, [], ◌∷◌, ◌++◌, map}
use lib.Dec.{eqb}
use lib.ListN.{length, take, get_or}
use Rattle.std.proofs.Common.{length-take-le}
use lib.Seq.{take-suc, take-length}
use Rattle.std.specs.List.{IsLastAndRest}
use borrow.Author.Tests.{ne_eqb, eqb-false}
use Rattle.paper.specs.Table.{first_domain_word, element_in}
use Rattle.paper.specs.Match.{top, first_meets, matches}
use Rattle.laws.specs.Frames.{meets_frame}
use Rattle.laws.proofs.Tests.{neither_left, neither_right, le_or_lt}
use Rattle.laws.proofs.Elements.{empty_refuses, at_single}
use Rattle.judge_pattern.specs.Run.{Meeting, EndsMayMeet}
use Rattle.judge_pattern.specs.declared.Words.{Words}
use Rattle.judge_pattern.proofs.Ends.{top_differs}
use Rattle.judge_pattern.proofs.Laws.{function_decides, unlisted_in_none, domain_decides}

-- ---- the words of a frame

module _ (F : List ℕ) (x : ℕ) where
  other_function : (one : ℕ) → (one ≡ 0 → ⊥) → (one ≡ x + 1 → ⊥) → one < first_domain_word → meets_frame F (element_in one) x ≡ false
  other_function one n m h = sym (function_decides F one x n h) ∙ ne_eqb (one - 1) x (λ (e : one - 1 ≡ x). absurd (m (omega arith)))

  pub unlisted_words : length F ≤ x → Meeting F x (record { function = x + 1; domain = 0 })
  unlisted_words l =
      record { others = λ one n m d. ⊎_elim (λ h. sym (unlisted_in_none F one x h l)) (λ h. other_function one n m h) (le_or_lt first_domain_word one) }

  pub listed_words : (domain : ℕ) → x < length F → domain ≡ get_or F x 0 → Meeting F x (record { function = x + 1; domain = domain + first_domain_word })
  listed_words domain l lies =
      record {
        others = λ one n m d. ⊎_elim
            (λ h. sym (domain_decides F one x h l) ∙ ne_eqb (get_or F x 0) (one - first_domain_word) (λ (e : get_or F x 0 ≡ one - first_domain_word). absurd (d (omega arith))))
            (λ h. other_function one n m h)
            (le_or_lt first_domain_word one);
      }

-- ---- an element that is none of them

module _ (one : ℕ) (words : Words) (r : Bool) (told : r ≡ (eqb one 0 || (eqb one words.function || eqb one words.domain))) (h : r ≡ false) where
  not_all : one ≡ 0 → ⊥
  not_all = eqb-false one 0 (neither_left (eqb one 0) (eqb one words.function || eqb one words.domain) (sym told ∙ h))

  meets_not : (F : List ℕ) (x : ℕ) → Meeting F x words → meets_frame F (element_in one) x ≡ false
  meets_not F x meeting =
      let two = neither_right (eqb one 0) (eqb one words.function || eqb one words.domain) (sym told ∙ h) in
      meeting.others one not_all (eqb-false one words.function (neither_left (eqb one words.function) (eqb one words.domain) two))
      (eqb-false one words.domain (neither_right (eqb one words.function) (eqb one words.domain) two))

-- ---- the ends of a pattern

last_of : (xs : List ℕ) → (length xs ≡ 0 → ⊥) → IsLastAndRest xs (get_or xs (length xs - 1) 0) (take (length xs - 1) xs)
last_of xs some =
    let e : suc (length xs - 1) ≡ length xs = omega arith in
    let t : take (suc (length xs - 1)) xs ≡ take (length xs - 1) xs ++ (get_or xs (length xs - 1) 0 ∷ []) = take-suc xs (length xs - 1) 0 (omega arith) in
    let l : length (take (length xs - 1) xs) ≡ length xs - 1 = length-take-le (length xs - 1) xs (omega arith) in
    (rw (e, take-length xs) at t, rw l (omega arith))

module _ (p : List ℕ) (base running : Words) where
  empty_differs : (q F s : List ℕ) → length q ≡ 0 → (length s ≡ 0 → ⊥) → false ≡ matches F (map element_in q) s
  unfolding matches
  empty_differs [] F [] h some = absurd (some refl)
  empty_differs [] F (x ∷ s) h some = sym (empty_refuses F x s)
  empty_differs (w ∷ q) F s h some = absurd (omega arith)

  pub no_ends : length p ≡ 0 → EndsMayMeet p base running false
  no_ends h = record { refuses = λ F s some b t e. empty_differs p F s h some }

  -- the last one, and the first
  module _ (last : ℕ) (before : List ℕ) (ends : IsLastAndRest p last before) where
    pub last_differs :
        (r : Bool) → r ≡ (eqb last 0 || (eqb last running.function || eqb last running.domain)) → r ≡ false → EndsMayMeet p base running false
    last_differs r told n =
        record {
          refuses = λ F s some b t h.
              sym (top_differs F p s p s refl last before ends (not_all last running r told n) (top s) (take (length s - 1) s) (last_of s some) false
              (sym (meets_not last running r told n F (top s) t)) refl);
        }

  module _ (r : Bool) (told : r ≡ (eqb (get_or p 0 0) 0 || (eqb (get_or p 0 0) base.function || eqb (get_or p 0 0) base.domain))) (some_elements : length p ≡ 0 → ⊥) where
    first_differs : (F s : List ℕ) → (length s ≡ 0 → ⊥) → Meeting F (get_or s 0 0) base → r ≡ false → matches F (map element_in p) s ≡ false
    unfolding first_meets
    first_differs F [] some b h = absurd (some refl)
    first_differs F (x ∷ s) some b h =
        at_single p 0 F (x ∷ s) (omega arith) (not_all (get_or p 0 0) base r told h) ∙ rw (meets_not (get_or p 0 0) base r told h F x b)

    pub first_tells : EndsMayMeet p base running r
    first_tells = record { refuses = λ F s some b t h. sym (first_differs F s some b h) }
