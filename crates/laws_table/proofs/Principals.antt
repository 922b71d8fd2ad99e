-- "no two entries with one principal", in a table and in the policy in it.
use mathlib.Core.Path.{◌≡◌, refl, sym, ◌∙◌}
use mathlib.Core.Bool.{Bool, true, not}
use mathlib.Core.Logic.{⊎_elim}
use mathlib.Core.List.{List, [], ◌∷◌, ◌++◌, map}
use Prim.Native.Nat.{ℕ, zero, suc, ◌+◌, ◌<◌, ◌≤◌}
use native.Mathlib.Nat.{eq-or-lt_of_le}
use native.Mathlib.Omega.{arith}
use lib.ListN.{length, get_or, take, drop, length-append, length-map}
use Rattle.paper.specs.Limits.{most_elements}
use Rattle.paper.specs.Common.{up_to, count_up}
use Rattle.paper.specs.Scalars.{sort_number}
use Rattle.paper.specs.Policy.{Context}
use Rattle.paper.specs.Table.{context_size, principal_size, subject_at}
use Rattle.paper.specs.Table.{entry_at, element_word, context_words, entry_count, context_in, entry_in, context_fits, one_principal, principals_differ}
use Rattle.laws.proofs.Tests.{both_true, both_left, both_right, up_to_at, up_to_all, same_refl, same_equal, same_test}
use Rattle.laws.proofs.Stretches.{stands_none, stands_both, stands_more, taken_stretch, taken_same}
use Rattle.laws.proofs.Counting.{all_of_counted, counted_all_of}
use Rattle.laws_table.specs.Proper.{no_two, principal_of, share_principal}
use Rattle.laws_table.proofs.Contexts.{length_context, context_few, words_read_back, context_read, context_stands, context_proper}

-- ---- no two of a list that is counted up

module _ {A : Type 0} (alike : A → A → Bool) (f : ℕ → A) where
  no_two_counted : (k n : ℕ) → no_two alike (map f (count_up k n)) ≡ true → (i j : ℕ) → k ≤ i → i < j → j < k + n → not (alike (f i) (f j)) ≡ true
  unfolding no_two count_up
  no_two_counted k zero h i j p q r = absurd (omega arith)
  no_two_counted k (suc n) h i j p q r =
      ⊎_elim
      (λ (e : k ≡ i). rw (← e) (all_of_counted f (λ y. not (alike (f k) y)) (k + 1) n (search both_left) j (omega arith) (omega arith)))
      (λ (m : k < i). no_two_counted (k + 1) n (search both_right) i j (omega arith) q (omega arith))
      (eq-or-lt_of_le p)

  counted_no_two : (k n : ℕ) → ((i j : ℕ) → k ≤ i → i < j → j < k + n → not (alike (f i) (f j)) ≡ true) → no_two alike (map f (count_up k n)) ≡ true
  unfolding no_two count_up
  counted_no_two k zero h = refl
  counted_no_two k (suc n) h =
      both_true _ _
      (counted_all_of f (λ y. not (alike (f k) y)) (k + 1) n (λ j p q. h k j (omega arith) (omega arith) (omega arith)))
      (counted_no_two (k + 1) n (λ i j p q r. h i j (omega arith) q (omega arith)))

-- ---- one principal in 21 words

context_words_same : (c d : Context) → map element_word c.pattern ≡ map element_word d.pattern → sort_number c.uid ≡ sort_number d.uid
    → sort_number c.gid ≡ sort_number d.gid → sort_number c.namespace ≡ sort_number d.namespace → context_words c ≡ context_words d
unfolding context_words
context_words_same c d e u g n = rw (← length-map c.pattern element_word, ← length-map d.pattern element_word, e, u, g, n)

module _ (ws : List ℕ) where
  pub record Standing (at : ℕ) : Type 0 where
    pub room : at + principal_size ≤ length ws
    pub fits : context_fits ws at ≡ true

  few : (at : ℕ) → Standing at → length (context_in ws at).pattern ≤ most_elements
  few at s = let room : at + principal_size ≤ length ws = s.room in context_few _ _ (context_in ws at) (context_proper ws at (omega arith) s.fits)

  principal_stands : (at : ℕ) → Standing at → take principal_size (drop at ws) ≡ context_words (context_in ws at) ++ (get_or ws (at + subject_at) 0 ∷ [])
  principal_stands at s =
      let room : at + principal_size ≤ length ws = s.room in
      let l : length (context_words (context_in ws at)) ≡ context_size = length_context (context_in ws at) (few at s) in
      taken_stretch ws at principal_size _ (rw (length-append, l)) room
      (stands_both ws at (at + subject_at) (context_words (context_in ws at)) _ (omega arith) (context_stands ws at (omega arith) s.fits)
      (stands_more ws (at + subject_at) (at + principal_size) _ [] (omega arith) refl (stands_none ws (at + principal_size))))

  -- the same 21 words: one context
  context_same : (a b : ℕ) → Standing a → Standing b → take principal_size (drop a ws) ≡ take principal_size (drop b ws) → context_in ws b ≡ context_in ws a
  context_same a b p q e =
      let room : b + principal_size ≤ length ws = q.room in
      let rooma : a + principal_size ≤ length ws = p.room in
      context_read ws b (context_in ws a) (omega arith) (few a p) (words_read_back ws a)
      (record { reads = λ i l. sym (taken_same ws a b principal_size i e (omega (arith, length_context (context_in ws a) (few a p)))) ∙ (context_stands ws a (omega arith) p.fits).reads i l })

  share : (j k : ℕ) → Standing (entry_at j) → Standing (entry_at k) → one_principal ws j k ≡ share_principal (entry_in ws j) (entry_in ws k)
  unfolding one_principal share_principal principal_of entry_in
  share j k p q = same_test _ _
      (λ (h : one_principal ws j k ≡ true).
      let e : take principal_size (drop (entry_at j) ws) ≡ take principal_size (drop (entry_at k) ws) = same_equal _ _ h in
      let s : get_or ws (entry_at j + subject_at) 0 ≡ get_or ws (entry_at k + subject_at) 0 = taken_same ws (entry_at j) (entry_at k) principal_size subject_at e (omega arith) in
      rw (context_same (entry_at j) (entry_at k) p q e, s) (same_refl _))
      (λ (h : share_principal (entry_in ws j) (entry_in ws k) ≡ true).
      let e : principal_of (entry_in ws j) ≡ principal_of (entry_in ws k) = same_equal _ _ h in
      let s : get_or ws (entry_at j + subject_at) 0 ≡ get_or ws (entry_at k + subject_at) 0 = cc in
      let c : context_words (context_in ws (entry_at j)) ≡ context_words (context_in ws (entry_at k)) = context_words_same _ _ (cc) (cc) (cc) (cc) in
      rw (principal_stands (entry_at j) p, principal_stands (entry_at k) q, c, s) (same_refl _))

  module _ (standing : (k : ℕ) → k < entry_count ws → Standing (entry_at k)) where
    pub principals_differ_lem : no_two share_principal (map (entry_in ws) (count_up 0 (entry_count ws))) ≡ true → principals_differ ws ≡ true
    unfolding principals_differ
    principals_differ_lem h = up_to_all _ (entry_count ws) (λ k l. up_to_all _ k (λ j m.
        rw (share j k (standing j (omega arith)) (standing k l)) (no_two_counted share_principal (entry_in ws) 0 (entry_count ws) h j k (omega arith) m (omega arith))))

    pub entries_differ : principals_differ ws ≡ true → no_two share_principal (map (entry_in ws) (count_up 0 (entry_count ws))) ≡ true
    unfolding principals_differ
    entries_differ h = counted_no_two share_principal (entry_in ws) 0 (entry_count ws) (λ j k p m l.
        rw (← share j k (standing j (omega arith)) (standing k (omega arith)))
        (up_to_at (λ j. not (one_principal ws j k)) k (up_to_at (λ k. up_to (λ j. not (one_principal ws j k)) k) (entry_count ws) h k (omega arith)) j m))
