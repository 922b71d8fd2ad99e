-- What the order of the listing gives: no field is left empty, each entry says its subject, and each list of members has its name before it.
use mathlib.Core.Path.{◌≡◌, refl, sym, ap, ◌∙◌}
use mathlib.Core.Bool.{Bool, true, false, cond, not, ◌&&◌, ◌||◌, false≢true}
use mathlib.Core.Logic.{⊎_elim}
use mathlib.Core.List.{List, [], ◌∷◌}
use Prim.Native.Nat.{ℕ, suc, ◌+◌, ◌<◌, ◌≤◌}
use native.Mathlib.Omega.{arith}
use lib.Dec.{eqb}
use lib.ListN.{length, get_or-eq_default}
use borrow.Author.Tests.{eqb-true, eqb-false, ne_eqb, not-true}
use Rattle.paper.specs.Common.{is_empty, all_of, any_of, up_to}
use Rattle.paper.specs.declared.Value.TheVariants.{Keys}
use Rattle.paper.specs.Listing.{object_name, object_members, subject_name, subject_members, principal, subject_of_entry, row, listing, row_at, bare_is_none, value_fault}
use Rattle.paper.specs.Page.{Field}
use Rattle.paper.specs.Entries.{is_at, fields_at, up_to_next, stretches_from, entries_of}
use Rattle.laws.proofs.Tests.{both_true, both_left, both_right, either_left, either_right, either_of, up_to_at, le_or_lt}
use Rattle.laws_page.specs.Right.{is_right, needs_block, may_follow, in_listing_order}
use Rattle.laws_file.specs.Accepted.{is_filled, comes_behind, only_behind}

-- ---- no field is left empty

some_of_lem : (p : ℕ) (ps : List ℕ) → any_of (eqb p) ps ≡ true → not (is_empty ps) ≡ true
unfolding any_of
some_of_lem p [] h = absurd (false≢true h)
some_of_lem p (q ∷ ps) h = ap not (ne_eqb (suc (length ps)) 0 (λ e. omega arith))

-- where a block is due there can be one
block_due : (place : ℕ) (bare : Bool) (fs : List Field) → in_listing_order place bare fs ≡ true → needs_block place bare ≡ true → not (is_empty (row_at place).block) ≡ true
unfolding in_listing_order may_follow
block_due place bare [] h n = absurd (false≢true (rw n at h))
block_due place bare (f ∷ fs) h n =
    ⊎_elim
    (λ (b : (bare && any_of (eqb f.place) (row_at place).block) ≡ true). some_of_lem f.place (row_at place).block (both_right bare _ b))
    (λ (b : (not (needs_block place bare) && any_of (eqb f.place) (row_at place).next) ≡ true). absurd (false≢true (rw n at b)))
    (either_of _ _ (both_left _ (in_listing_order f.place (is_empty f.value) fs) h))

filled_one : (f : Field) → (needs_block f.place (is_empty f.value) ≡ true → not (is_empty (row_at f.place).block) ≡ true) → is_filled f ≡ true
unfolding is_filled needs_block
filled_one f h = go (is_empty f.value) (bare_is_none (row_at f.place).value) h
  where
    go : (e none : Bool) → ((e && not none) ≡ true → not (is_empty (row_at f.place).block) ≡ true) → (not e || none || not (is_empty (row_at f.place).block)) ≡ true
    go true true k = refl
    go true false k = k refl
    go false none k = refl

pub fields_filled : (place : ℕ) (bare : Bool) (fs : List Field) → in_listing_order place bare fs ≡ true → all_of is_filled fs ≡ true
unfolding in_listing_order all_of
fields_filled place bare [] h = refl
fields_filled place bare (f ∷ fs) h =
    let rest : in_listing_order f.place (is_empty f.value) fs ≡ true = both_right (may_follow place bare f) _ h in
    both_true (is_filled f) _ (filled_one f (block_due f.place (is_empty f.value) fs rest)) (fields_filled f.place (is_empty f.value) fs rest)

-- ---- "`principal` with `subject` is required"

-- `principal` is bare
principal_bare : (f : Field) → is_right f ≡ true → f.place ≡ principal → is_empty f.value ≡ true
unfolding is_right value_fault listing row_at
principal_bare f r e = ⊎_elim (λ (b : is_empty f.value ≡ true). b) (λ k. absurd (false≢true (rw e at k))) (either_of (is_empty f.value) _ r)

-- and the subject follows it
subject_next : (fs : List Field) → in_listing_order principal true fs ≡ true → any_of (is_at subject_of_entry) (up_to_next principal fs) ≡ true
unfolding in_listing_order may_follow needs_block listing row_at bare_is_none any_of up_to_next
subject_next [] h = absurd (false≢true h)
subject_next (f ∷ fs) h =
    let e : f.place ≡ subject_of_entry = ⊎_elim
    (λ (b : (eqb f.place subject_of_entry || false) ≡ true). ⊎_elim (λ k. eqb-true f.place subject_of_entry k) (λ k. absurd (false≢true k)) (either_of _ false b))
    (λ k. absurd (false≢true k))
    (either_of _ _ (both_left _ (in_listing_order f.place (is_empty f.value) fs) h)) in
    rw e

pub subjects_said : (place : ℕ) (bare : Bool) (fs : List Field) → in_listing_order place bare fs ≡ true → all_of is_right fs ≡ true
    → all_of (λ e. any_of (is_at subject_of_entry) e) (entries_of fs) ≡ true
unfolding in_listing_order all_of entries_of stretches_from any_of
subjects_said place bare [] h r = refl
subjects_said place bare (f ∷ fs) h r = go (is_at principal f) refl (subjects_said f.place (is_empty f.value) fs rest (both_right (is_right f) _ r))
  where
    rest : in_listing_order f.place (is_empty f.value) fs ≡ true
    rest = both_right (may_follow place bare f) _ h

    go : (t : Bool) → is_at principal f ≡ t → all_of (λ e. any_of (is_at subject_of_entry) e) (stretches_from principal fs) ≡ true
        → all_of (λ e. any_of (is_at subject_of_entry) e) (cond t ((f ∷ up_to_next principal fs) ∷ stretches_from principal fs) (stretches_from principal fs)) ≡ true
    go true e k =
        let p : f.place ≡ principal = eqb-true f.place principal e in
        let b : is_empty f.value ≡ true = principal_bare f (both_left (is_right f) _ r) p in
        both_true _ _ (either_right (is_at subject_of_entry f) _ (subject_next fs (rw (p, b) at rest))) k
    go false e k = k

-- ---- a list of members has its name before it

-- behind a name one list more may come than there are names
unfoldable more : ℕ → ℕ → ℕ
more name place = cond (eqb place name) 1 0

module _ (name members : ℕ) (only : only_behind name members ≡ true) where
  past_listing : (place : ℕ) → length listing ≤ place → comes_behind members place ≡ false
  unfolding comes_behind row_at any_of
  past_listing place l = rw (get_or-eq_default listing (row "" Keys [] [] false) l) refl

  behind_name : (place : ℕ) → comes_behind members place ≡ true → place ≡ name
  unfolding only_behind
  behind_name place c =
      ⊎_elim
      (λ (l : length listing ≤ place). absurd (false≢true (sym (past_listing place l) ∙ c)))
      (λ (l : place < length listing).
      ⊎_elim
      (λ (e : eqb place name ≡ true). eqb-true place name e)
      (λ (e : not (comes_behind members place) ≡ true). absurd (false≢true (sym (not-true _ e) ∙ c)))
      (either_of (eqb place name) _ (up_to_at (λ place. eqb place name || not (comes_behind members place)) (length listing) only place l)))
      (le_or_lt (length listing) place)

  follows_behind : (place : ℕ) (bare : Bool) (f : Field) → may_follow place bare f ≡ true → f.place ≡ members → place ≡ name
  unfolding may_follow comes_behind
  follows_behind place bare f h e =
      behind_name place
      (⊎_elim
      (λ b. either_left _ _ (rw e at (both_right bare (any_of (eqb f.place) (row_at place).block) b)))
      (λ b. either_right (any_of (eqb members) (row_at place).block) _ (rw e at (both_right (not (needs_block place bare)) (any_of (eqb f.place) (row_at place).next) b)))
      (either_of _ _ h))

  members_behind : (members ≡ name → ⊥) → (place : ℕ) (bare : Bool) (fs : List Field) → in_listing_order place bare fs ≡ true → length (fields_at members fs) ≤ length (fields_at name fs) + more name place
  unfolding in_listing_order fields_at more
  members_behind apart place bare [] h = omega arith
  members_behind apart place bare (f ∷ fs) h =
      go (is_at members f) (is_at name f) refl refl (eqb place name) refl (members_behind apart f.place (is_empty f.value) fs (both_right (may_follow place bare f) _ h))
    where
      go : (m n : Bool) → is_at members f ≡ m → is_at name f ≡ n → (b : Bool) → eqb place name ≡ b
          → length (fields_at members fs) ≤ length (fields_at name fs) + cond n 1 0
          → length (cond m (f ∷ fields_at members fs) (fields_at members fs)) ≤ length (cond n (f ∷ fields_at name fs) (fields_at name fs)) + cond b 1 0
      go true true p q b r k = absurd (apart (sym (eqb-true _ _ p) ∙ eqb-true _ _ q))
      go true false p q true r k = omega arith
      go true false p q false r k = absurd (eqb-false place name r (follows_behind place bare f (both_left (may_follow place bare f) _ h) (eqb-true _ _ p)))
      go false true p q b r k = omega arith
      go false false p q b r k = omega arith

  -- there are no more lists of members than names
  pub members_few : (members ≡ name → ⊥) → (name ≡ 0 → ⊥) → (fs : List Field) → in_listing_order 0 false fs ≡ true → length (fields_at members fs) ≤ length (fields_at name fs)
  unfolding more
  members_few apart some fs h = let k = members_behind apart 0 false fs h in omega (arith, rw (ne_eqb 0 name (λ e. some (sym e))) at k)

-- in both maps
pub objects_only : only_behind object_name object_members ≡ true
unfolding only_behind comes_behind up_to any_of row_at listing
objects_only = refl

pub subjects_only : only_behind subject_name subject_members ≡ true
unfolding only_behind comes_behind up_to any_of row_at listing
subjects_only = refl
