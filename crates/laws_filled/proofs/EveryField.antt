-- What holds of every field of a file holds of every field of the filled text, where it holds of what is put in: bare fields, `[]` and the defaults.
use mathlib.Core.Path.{◌≡◌, refl, sym, ◌∙◌}
use mathlib.Core.List.{List, [], ◌∷◌, map, flat_map}
use mathlib.Core.Bool.{Bool, true, false, cond, not, ◌&&◌, ◌||◌, false≢true}
use Prim.Native.Nat.{ℕ, ◌+◌, ◌≤◌}
use native.Mathlib.Omega.{arith}
use Rattle.paper.specs.Common.{bytes, is_empty, all_of, any_of}
use Rattle.paper.specs.Listing.{listing, row_at, bare_is_none, principal, subject_of_entry, execution_context, can_call, can_return, can_read, can_write}
use Rattle.paper.specs.Page.{Field}
use Rattle.paper.specs.Entries.{is_at, default_at, meant, up_to_next, stretches_from, entries_of, items_of}
use Rattle.laws.proofs.Tests.{both_true, both_left, both_right}
use Rattle.laws.proofs.Counting.{all_of_weaker, all_of_append, all_of_flat_map}
use Rattle.laws_page.specs.Right.{in_listing_order, is_right}
use Rattle.laws_file.specs.Accepted.{is_filled}
use Rattle.laws_file.proofs.Stretched.{all_of_both, next_all, stretches_all, value_holds}
use Rattle.laws_file.proofs.Ordered.{fields_filled, subjects_said}
use Rattle.laws_filled.specs.Fields.{unwritten, value_field, context_fields, item_fields, access_fields, entry_rest, entry_fields}
use Rattle.laws_filled.specs.Fields.{written, filled_fields}
use Rattle.laws_filled.proofs.Says.{says, filled_same}

-- it passes, and is not left empty
unfoldable pub both : (Field → Bool) → Field → Bool
both test f = test f && is_filled f

-- what a test has to hold of that is put in
pub record Passes (test : Field → Bool) : Type 0 where
  pub said : (f : Field) → test (says f) ≡ test f
  pub bare : (p : ℕ) → (p ≡ subject_of_entry → ⊥) → test (unwritten p []) ≡ true
  pub none : (p : ℕ) → (p ≡ subject_of_entry → ⊥) → test (unwritten p (bytes "[]")) ≡ true
  pub default : (p : ℕ) → (p ≡ subject_of_entry → ⊥) → test (unwritten p (default_at p)) ≡ true

-- a subject is not left empty
subject_filled : (f : Field) → is_filled f ≡ true → f.place ≡ subject_of_entry → is_empty f.value ≡ false
unfolding is_filled row_at listing bare_is_none
subject_filled f h e = go (is_empty f.value) (rw e at h)
  where
    go : (t : Bool) → (not t || false || false) ≡ true → t ≡ false
    go true k = absurd (false≢true k)
    go false k = refl

says_passes : (test : Field → Bool) (f : Field) → test (says f) ≡ test f → test f ≡ true → test (unwritten f.place f.value) ≡ true
unfolding says
says_passes test f e h = e ∙ h

module _ (test : Field → Bool) (q : Passes test) where
  meant_passes : (p : ℕ) (f : Field) → both test f ≡ true → f.place ≡ p → test (unwritten p (meant f)) ≡ true
  unfolding both meant
  meant_passes p f h e = go (is_empty f.value) refl
    where
      kept : test (unwritten p f.value) ≡ true
      kept = rw (← e) (says_passes test f (q.said f) (both_left (test f) _ h))

      go : (t : Bool) → is_empty f.value ≡ t → test (unwritten p (cond t (bytes "[]") f.value)) ≡ true
      go true z = q.none p (λ (s : p ≡ subject_of_entry). false≢true (sym (subject_filled f (both_right (test f) _ h) (e ∙ s)) ∙ z))
      go false z = kept

  value_passes : (p : ℕ) (e : List Field) → all_of (both test) e ≡ true → (p ≡ subject_of_entry → any_of (is_at p) e ≡ true) → test (value_field p e) ≡ true
  unfolding value_field
  value_passes p e s said =
      value_holds p (λ v. test (unwritten p v) ≡ true) (both test) (meant_passes p) e s
      (λ k. q.default p (λ (z : p ≡ subject_of_entry). false≢true (sym k ∙ said z)))

  other_passes : (p : ℕ) (e : List Field) → all_of (both test) e ≡ true → 10 ≤ p → test (value_field p e) ≡ true
  other_passes p e s h = value_passes p e s (λ (z : p ≡ subject_of_entry). absurd (omega arith))

  more : (f : Field) (fs : List Field) → test f ≡ true → all_of test fs ≡ true → all_of test (f ∷ fs) ≡ true
  unfolding all_of
  more f fs p r = both_true (test f) _ p r

  last : all_of test [] ≡ true
  unfolding all_of
  last = refl

  context_passes : (c : ℕ) (e : List Field) → all_of (both test) e ≡ true → 10 ≤ c → all_of test (context_fields c e) ≡ true
  unfolding context_fields
  context_passes c e s h =
      more (unwritten c []) _ (q.bare c (λ (z : c ≡ 9). omega arith))
      (more (value_field (c + 1) e) _ (other_passes (c + 1) e s (omega arith))
      (more (value_field (c + 2) e) _ (other_passes (c + 2) e s (omega arith))
      (more (value_field (c + 3) e) _ (other_passes (c + 3) e s (omega arith))
      (more (value_field (c + 4) e) [] (other_passes (c + 4) e s (omega arith)) last))))

  item_passes : (a : ℕ) (i : List Field) → 10 ≤ a → all_of (both test) i ≡ true → all_of test (item_fields a i) ≡ true
  unfolding item_fields
  item_passes a i h s = more (value_field (a + 1) i) _ (other_passes (a + 1) i s (omega arith)) (context_passes (a + 2) i s (omega arith))

  access_passes : (a : ℕ) (e : List Field) → 10 ≤ a → all_of (both test) e ≡ true → all_of test (access_fields a e) ≡ true
  unfolding access_fields items_of
  access_passes a e h s = go (is_empty (stretches_from (a + 1) e))
    where
      go : (t : Bool) → all_of test (cond t (value_field a e ∷ []) (unwritten a [] ∷ flat_map (item_fields a) (stretches_from (a + 1) e))) ≡ true
      go true = more (value_field a e) [] (other_passes a e s h) last
      go false =
          more (unwritten a []) _ (q.bare a (λ (z : a ≡ 9). omega arith))
          (all_of_flat_map test (item_fields a) (stretches_from (a + 1) e)
          (all_of_weaker (all_of (both test)) (λ i. all_of test (item_fields a i)) (λ i k. item_passes a i h k) (stretches_from (a + 1) e)
          (stretches_all (a + 1) (both test) e s)))

  pub entry_passes : (e : List Field) → all_of (both test) e ≡ true → any_of (is_at subject_of_entry) e ≡ true → all_of test (entry_fields e) ≡ true
  unfolding entry_fields entry_rest
  entry_passes e s said =
      more (unwritten principal []) _ (q.bare principal (λ (z : principal ≡ subject_of_entry). omega arith))
      (more (value_field subject_of_entry e) _ (value_passes subject_of_entry e s (λ z. said))
      (all_of_append test (context_fields execution_context e) _ (context_passes execution_context e s (omega arith))
      (more (value_field can_call e) _ (other_passes can_call e s (omega arith))
      (more (value_field can_return e) _ (other_passes can_return e s (omega arith))
      (all_of_append test (access_fields can_read e) (access_fields can_write e) (access_passes can_read e (omega arith) s)
      (access_passes can_write e (omega arith) s))))))

  said_all : (fs : List Field) → all_of test (map says fs) ≡ all_of test fs
  unfolding all_of
  said_all [] = refl
  said_all (f ∷ fs) = rw (q.said f, said_all fs) refl

  module _ (fs : List Field) (o : in_listing_order 0 false fs ≡ true) (r : all_of is_right fs ≡ true) (h : all_of test fs ≡ true) where
    written_passes : all_of test (written fs) ≡ true
    unfolding written both entries_of
    written_passes =
        all_of_append test (up_to_next principal fs) (flat_map entry_fields (stretches_from principal fs)) (next_all principal test fs h)
        (all_of_flat_map test entry_fields (stretches_from principal fs)
        (all_of_weaker (λ e. all_of (both test) e && any_of (is_at subject_of_entry) e) (λ e. all_of test (entry_fields e))
        (λ e k. entry_passes e (both_left (all_of (both test) e) _ k) (both_right (all_of (both test) e) _ k)) (stretches_from principal fs)
        (all_of_both (all_of (both test)) (λ e. any_of (is_at subject_of_entry) e) (stretches_from principal fs)
        (stretches_all principal (both test) fs (all_of_both test is_filled fs h (fields_filled 0 false fs o)))
        (subjects_said 0 false fs o r))))

    pub filled_passes : all_of test (filled_fields fs) ≡ true
    filled_passes = filled_same (all_of test) said_all fs ∙ written_passes
