-- The two passes: while no entry matches, entries are dropped; from one that matches on, the first that grants as well is the answer.
use mathlib.Core.Path.{◌≡◌, refl, sym, ◌∙◌}
use mathlib.Core.Bool.{Bool, true, false, cond, not, ◌&&◌, and-false, false≢true}
use mathlib.Core.Logic.{◌⊎◌, ⊎_elim}
use mathlib.Core.List.{List, map}
use Prim.Native.Nat.{ℕ, zero, suc, ◌+◌, ◌-◌, ◌<◌, ◌≤◌}
use native.Mathlib.Omega.{arith}
use native.Mathlib.Nat.{zero-add}
use lib.ListN.{get_or}
use Rattle.std.specs.Prelude.{Option, Some, None}
use Rattle.paper.specs.Common.{count_up}
use Rattle.paper.specs.declared.Access.{Access}
use Rattle.paper.specs.declared.Access.TheVariants.{Read, Write, Call, Return}
use Rattle.paper.specs.declared.FunctionNumber.{FunctionNumber}
use Rattle.paper.specs.declared.ObjectNumber.{ObjectNumber}
use Rattle.paper.specs.declared.Verdict.{Verdict}
use Rattle.paper.specs.declared.Verdict.TheVariants.{Granted, Violation}
use Rattle.paper.specs.Policy.{Entry, Policy}
use Rattle.paper.specs.Table.{calls_at, returns_at, uid_at, sort_in, element_in, pattern_words_in, context_in, function_domains_in, entry_at, word}
use Rattle.paper.specs.Table.{subject_domain_count, object_domain_count, entry_count, read_count, write_count, grant_in, descriptor_in, entry_in, policy_in, first_descriptor}
use Rattle.paper.specs.Match.{Moment, top, matches, sort_fits, entry_matches, grants, descriptor_grants, some_descriptor_grants, context_fits_object, fits_allocated, allocated_sorts_fit}
use Rattle.paper.specs.Verdict.{is_code, target_domain, entry_grants, by_entries}
use Rattle.laws.proofs.Tests.{both_left, both_right}
use Rattle.laws.proofs.Chains.{tested_false, tested_true}
use Rattle.laws.proofs.Counting.{counted_step, counted_end}
use Rattle.judge_match.specs.declared.Event.{Event}
use Rattle.judge_match.specs.Moments.{moment_of, binding, allocation_of, Placed, has_subject}
use Rattle.judge_match.proofs.Laws.{other_subject, other_uid, other_sorts}
use Rattle.judge_pattern.specs.declared.Words.{Words}
use Rattle.judge_pattern.specs.Run.{Meeting, EndsMayMeet}
use Rattle.judge_entries.specs.Passes.{domain_count, is_write, code_grant_at, first_match, first_of_all, by_all_entries, by_entries_from, GrantedFrom, FirstOfAll, MayMatch, granted}

-- ---- the first pass

module _ (p : Policy) (m : Moment) (f : ℕ → Entry) where
  abbrev match_from : ℕ → ℕ → ℕ
  match_from k n = first_match p m (map f (count_up k n))

  match_within : (k n : ℕ) → match_from k n ≤ n
  unfolding first_match count_up
  match_within k zero = omega arith
  match_within k (suc n) = go (entry_matches p (f k) m) (match_within (k + 1) n)
    where
      go : (b : Bool) → match_from (k + 1) n ≤ n → cond b 0 (match_from (k + 1) n + 1) ≤ suc n
      go true h = omega arith
      go false h = omega arith

  module _ (a : Access) (allocation : Moment) where
    abbrev verdict_from : ℕ → Bool → ℕ → Verdict
    verdict_from k matched n = by_entries p a m allocation k matched (map f (count_up k n))

    none_matches : (k n : ℕ) → match_from k n ≡ n → Violation 3 ≡ verdict_from k false n
    unfolding first_match by_entries count_up
    none_matches k zero h = refl
    none_matches k (suc n) h = go (entry_matches p (f k) m) h (λ e. none_matches (k + 1) n e)
      where
        go : (b : Bool) → cond b 0 (match_from (k + 1) n + 1) ≡ suc n → (match_from (k + 1) n ≡ n → Violation 3 ≡ verdict_from (k + 1) false n)
            → Violation 3 ≡ cond (b && entry_grants p (f k) a m allocation) (Granted k) (verdict_from (k + 1) (cond b true false) n)
        go true e rest = absurd (omega arith)
        go false e rest = rest (omega arith)

    one_matches : (k n : ℕ) → match_from k n < n → verdict_from k false n ≡ verdict_from (k + match_from k n) true (n - match_from k n)
    unfolding first_match by_entries count_up
    one_matches k zero h = absurd (omega arith)
    one_matches k (suc n) h = go (entry_matches p (f k) m) refl h (λ e. one_matches (k + 1) n e)
      where
        go : (b : Bool) → entry_matches p (f k) m ≡ b → cond b 0 (match_from (k + 1) n + 1) < suc n
            → (match_from (k + 1) n < n → verdict_from (k + 1) false n ≡ verdict_from (k + 1 + match_from (k + 1) n) true (n - match_from (k + 1) n))
            → cond (b && entry_grants p (f k) a m allocation) (Granted k) (verdict_from (k + 1) (cond b true false) n)
            ≡ verdict_from (k + cond b 0 (match_from (k + 1) n + 1)) true (suc n - cond b 0 (match_from (k + 1) n + 1))
        go true t e rest =
            let x : k + 0 ≡ k = omega arith in
            let y : suc n - 0 ≡ suc n = omega arith in
            rw (x, y, t)
        go false t e rest =
            let x : k + (match_from (k + 1) n + 1) ≡ k + 1 + match_from (k + 1) n = omega arith in
            let y : suc n - (match_from (k + 1) n + 1) ≡ n - match_from (k + 1) n = omega arith in
            rw (x, y) (rest (omega arith))

-- the loop over the entries that are left, k passed
module _ (ws : List ℕ) (m : Moment) where
  abbrev pub match_left : ℕ → ℕ
  match_left k = first_match (policy_in ws) m (map (entry_in ws) (count_up k (entry_count ws - k)))

  all_left : match_left 0 ≡ first_of_all ws m
  unfolding policy_in
  all_left = let q : entry_count ws - 0 ≡ entry_count ws = omega arith in rw q

  pub matches_start : 0 + match_left 0 ≡ first_of_all ws m
  matches_start = let z : 0 + match_left 0 ≡ match_left 0 = omega arith in rw z all_left

  module _ (k n : ℕ) (counted : n ≡ entry_count ws) (left : k + match_left k ≡ first_of_all ws m) where
    module _ (r : Bool) (below : k < n) (told : r ≡ entry_matches (policy_in ws) (entry_in ws k) m) where
      match_step : match_left k ≡ cond r 0 (match_left (k + 1) + 1)
      unfolding first_match
      match_step = let l : k < entry_count ws = rw counted at below in rw (counted_step k (entry_count ws) k l, ← told)

      pub matches_here : r ≡ true → FirstOfAll ws m (Some k)
      matches_here h = let e : match_left k ≡ 0 = match_step ∙ rw h in (omega arith, omega arith)

      pub matches_later_lem : r ≡ false → k + 1 + match_left (k + 1) ≡ first_of_all ws m
      matches_later_lem h = let e : match_left k ≡ match_left (k + 1) + 1 = match_step ∙ rw h in omega arith

    pub matches_nowhere : n ≤ k → k ≤ entry_count ws → first_of_all ws m ≡ entry_count ws
    unfolding first_match
    matches_nowhere h l =
        let e : match_left k ≡ 0 = rw (counted_end k (entry_count ws) k (rw counted at h)) in
        omega arith

-- an entry of another subject does not match
pub not_its_subject :
    (ws s : List ℕ) (event : Event) (k n : ℕ) (of : Bool) → n ≡ entry_count ws → k + match_left ws (moment_of s event.ids) k ≡ first_of_all ws (moment_of s event.ids) → k < n
    → Placed ws s event → of ≡ has_subject ws k event → of ≡ false → k + 1 + match_left ws (moment_of s event.ids) (k + 1) ≡ first_of_all ws (moment_of s event.ids)
not_its_subject ws s event k n of counted so_far below placed told h =
    matches_later_lem ws (moment_of s event.ids) k n counted so_far false below (other_subject ws s event placed k (sym told ∙ h)) refl

-- what was asked of an entry says that it has the subject
pub has_it : (subject of : Bool) → of ≡ subject → of ≡ true → subject ≡ true
has_it subject of told h = sym told ∙ h

pub granted_has_it : (subject test r : Bool) → r ≡ (subject && test) → r ≡ true → subject ≡ true
granted_has_it subject test r told h = both_left subject test (sym told ∙ h)

-- ---- the second pass

-- of the moment that an entry looks at for a grant, only uid, gid and namespace count
ids_count :
    (p : Policy) (e : Entry) (a : Access) (s : List ℕ) (event : Event) (allocation : Moment)
    → entry_grants p e a (moment_of s event.ids) allocation ≡ entry_grants p e a (binding event) allocation
unfolding entry_grants some_descriptor_grants descriptor_grants context_fits_object fits_allocated allocated_sorts_fit
ids_count p e (Read o) s event allocation = refl
ids_count p e (Write o) s event allocation = refl
ids_count p e (Call f) s event allocation = refl
ids_count p e (Return f) s event allocation = refl

-- once some entry matched, one more makes no difference
still_matched : (b : Bool) → cond b true true ≡ true
still_matched true = refl
still_matched false = refl

-- the subject is asked first
module _ (of test subject : Bool) (told : of ≡ subject) where
  pub another_subject : not of ≡ true → false ≡ (subject && test)
  another_subject h = rw (tested_false subject of told h)

  pub same_subject : (r : Bool) → not of ≡ false → r ≡ test → r ≡ (subject && test)
  same_subject r h e = rw (tested_true subject of told h) e

module _ (ws s : List ℕ) (event : Event) where
  abbrev pub left : Moment → ℕ → Verdict
  left allocation k = by_entries_from ws s event allocation k

  abbrev matches_at : ℕ → Bool
  matches_at k = entry_matches (policy_in ws) (entry_in ws k) (moment_of s event.ids)

  abbrev grants_at : Moment → ℕ → Bool
  grants_at allocation k = entry_grants (policy_in ws) (entry_in ws k) event.access (binding event) allocation

  grant_step : (allocation : Moment) (k : ℕ) → k < entry_count ws → left allocation k ≡ cond (matches_at k && grants_at allocation k) (Granted k) (left allocation (k + 1))
  unfolding by_entries by_entries_from
  grant_step allocation k l =
      rw (counted_step k (entry_count ws) k l, ids_count (policy_in ws) (entry_in ws k) event.access s event allocation, still_matched (matches_at k))

  module _ (from k n : ℕ) (counted : n ≡ entry_count ws) (allocation : Moment) (same : left allocation k ≡ left allocation from) where
    none_grants : n ≤ k → GrantedFrom ws s event allocation from None
    unfolding by_entries by_entries_from
    none_grants h = record { few = λ j e. cc; decides = rw (← same, counted_end k (entry_count ws) k (rw counted at h)) }

    module _ (below : k < n) where
      entry_decides : left allocation from ≡ cond (matches_at k && grants_at allocation k) (Granted k) (left allocation (k + 1))
      entry_decides = sym same ∙ grant_step allocation k (rw counted at below)

      grants_here : (r b : Bool) → r ≡ (has_subject ws k event && grants_at allocation k) → r ≡ true → b ≡ matches_at k → b ≡ true → GrantedFrom ws s event allocation from (Some k)
      grants_here r b e h f q =
          let g : grants_at allocation k ≡ true = both_right (has_subject ws k event) (grants_at allocation k) (sym e ∙ h) in
          record { few = λ j e. let x : k ≡ j = cc in omega arith; decides = rw (entry_decides, ← f, q, g) }

      grants_not : Placed ws s event → (r : Bool) → r ≡ (has_subject ws k event && grants_at allocation k) → r ≡ false → left allocation (k + 1) ≡ left allocation from
      grants_not placed r e h = go (has_subject ws k event) refl (sym e ∙ h)
        where
          go : (of : Bool) → has_subject ws k event ≡ of → (of && grants_at allocation k) ≡ false → left allocation (k + 1) ≡ left allocation from
          go true t g = rw (entry_decides, g, and-false)
          go false t g = rw (entry_decides, ← other_subject ws s event placed k t)

      matches_not : (b : Bool) → b ≡ matches_at k → b ≡ false → left allocation (k + 1) ≡ left allocation from
      matches_not b f q = rw (entry_decides, ← f, q)

  -- ---- a call or a return

  code_granted :
      (a : Access) (m allocation : Moment) (k : ℕ) → is_code a ≡ true
      → entry_grants (policy_in ws) (entry_in ws k) a m allocation ≡ grants (grant_in ws (entry_at k + code_grant_at a) (subject_domain_count ws)) (target_domain (policy_in ws) a)
  unfolding is_code code_grant_at entry_grants entry_in
  code_granted (Read o) m allocation k h = cc
  code_granted (Write o) m allocation k h = cc
  code_granted (Call f) m allocation k h = refl
  code_granted (Return f) m allocation k h = refl

  pub grant_decides :
      (k at g domains : ℕ) (of r : Bool) → of ≡ has_subject ws k event → not of ≡ false → at ≡ entry_at k → r ≡ grants (grant_in ws (at + g) domains) event.target
      → r ≡ (has_subject ws k event && grants (grant_in ws (entry_at k + g) domains) event.target)
  grant_decides k at g domains of r told h stands e = same_subject of _ (has_subject ws k event) told r h (rw stands at e)

  abbrev pub CodeLeft : ℕ → ℕ → Type 0
  CodeLeft from k = (allocation : Moment) → left allocation k ≡ left allocation from

  module _ (from k n : ℕ) (counted : n ≡ entry_count ws) (same : CodeLeft from k) where
    pub code_ends : n ≤ k → (allocation : Moment) → GrantedFrom ws s event allocation from None
    code_ends h allocation = none_grants from k n counted allocation (same allocation) h

    pub code_not_matched : (b : Bool) → k < n → b ≡ matches_at k → b ≡ false → CodeLeft from (k + 1)
    code_not_matched b below e h allocation = matches_not from k n counted allocation (same allocation) below b e h

    module _ (g domains : ℕ) (r : Bool) (below : k < n) (code : is_code event.access ≡ true) (placed : Placed ws s event)
        (within : g ≡ code_grant_at event.access) (among : domains ≡ subject_domain_count ws)
        (told : r ≡ (has_subject ws k event && grants (grant_in ws (entry_at k + g) domains) event.target)) where
      code_told : (allocation : Moment) → r ≡ (has_subject ws k event && grants_at allocation k)
      code_told allocation =
          rw (code_granted event.access (binding event) allocation k code, ← within, ← among, ← placed.target) told

      pub code_not_granted : r ≡ false → CodeLeft from (k + 1)
      code_not_granted h allocation = grants_not from k n counted allocation (same allocation) below placed r (code_told allocation) h

      pub code_allowed : (b : Bool) → r ≡ true → b ≡ matches_at k → b ≡ true → (allocation : Moment) → GrantedFrom ws s event allocation from (Some k)
      code_allowed b h e q allocation = grants_here from k n counted allocation (same allocation) below r b (code_told allocation) h e q

  -- ---- a read or a write

  data_granted :
      (a : Access) (m allocation : Moment) (k : ℕ) → is_code a ≡ false
      → entry_grants (policy_in ws) (entry_in ws k) a m allocation
      ≡ some_descriptor_grants (policy_in ws)
      (map (descriptor_in ws) (count_up (first_descriptor ws k + cond (is_write a) (read_count ws k) 0) (cond (is_write a) (write_count ws k) (read_count ws k))))
      (target_domain (policy_in ws) a) m allocation
  unfolding is_code is_write entry_grants entry_in
  data_granted (Read o) m allocation k h = let z : first_descriptor ws k + 0 ≡ first_descriptor ws k = omega arith in rw z
  data_granted (Write o) m allocation k h = refl
  data_granted (Call f) m allocation k h = cc
  data_granted (Return f) m allocation k h = cc

  -- a count that was read in an entry
  pub count_of_entry : (k at place r : ℕ) → at ≡ entry_at k → r ≡ word ws (at + place) → r ≡ word ws (entry_at k + place)
  count_of_entry k at place r stands e = rw stands at e

  module _ (al : List ℕ) (k : ℕ) (of : Bool) (told : of ≡ has_subject ws k event) where
    pub descriptors_grant :
        (first reads writes before these : ℕ) (w r : Bool) → not of ≡ false → is_code event.access ≡ false → event.target ≡ target_domain (policy_in ws) event.access
        → first ≡ first_descriptor ws k → reads ≡ read_count ws k → writes ≡ write_count ws k → w ≡ is_write event.access → before ≡ cond w reads 0 → these ≡ cond w writes reads
        → r ≡ some_descriptor_grants (policy_in ws) (map (descriptor_in ws) (count_up (first + before) these)) event.target (binding event) (allocation_of al event)
        → r ≡ (has_subject ws k event && grants_at (allocation_of al event) k)
    descriptors_grant first reads writes before these w r h d t f p q g x y e =
        same_subject of (grants_at (allocation_of al event) k) (has_subject ws k event) told r h
        (rw (data_granted event.access (binding event) (allocation_of al event) k d, ← f, ← p, ← q, ← g, ← x, ← y, ← t) e)

  module _ (al : List ℕ) (from k n : ℕ) (counted : n ≡ entry_count ws) (same : left (allocation_of al event) k ≡ left (allocation_of al event) from) where
    pub data_ends : n ≤ k → GrantedFrom ws s event (allocation_of al event) from None
    data_ends h = none_grants from k n counted (allocation_of al event) same h

    module _ (below : k < n) where
      pub data_not_granted :
          Placed ws s event → (r : Bool) → r ≡ (has_subject ws k event && grants_at (allocation_of al event) k) → r ≡ false → left (allocation_of al event) (k + 1) ≡ left (allocation_of al event) from
      data_not_granted placed r e h = grants_not from k n counted (allocation_of al event) same below placed r e h

      pub data_not_matched : (b : Bool) → b ≡ matches_at k → b ≡ false → left (allocation_of al event) (k + 1) ≡ left (allocation_of al event) from
      data_not_matched b e h = matches_not from k n counted (allocation_of al event) same below b e h

      pub data_allowed :
          (r b : Bool) → r ≡ (has_subject ws k event && grants_at (allocation_of al event) k) → r ≡ true → b ≡ matches_at k → b ≡ true
          → GrantedFrom ws s event (allocation_of al event) from (Some k)
      data_allowed r b e h f q = grants_here from k n counted (allocation_of al event) same below r b e h f q

-- ---- both

pub is_code_lem : (a : Access) (b : Bool) → b ≡ is_code a → b ≡ true → is_code a ≡ true
is_code_lem a b e h = sym e ∙ h

pub is_data : (a : Access) (b : Bool) → b ≡ is_code a → b ≡ false → is_code a ≡ false
is_data a b e h = sym e ∙ h

pub for_this_allocation :
    (ws s al : List ℕ) (event : Event) (from : ℕ) (r : Option ℕ) → ((allocation : Moment) → GrantedFrom ws s event allocation from r)
    → GrantedFrom ws s event (allocation_of al event) from r
for_this_allocation ws s al event from r h = h (allocation_of al event)

module _ (ws s al : List ℕ) (event : Event) where
  pub no_entry_matches : FirstOfAll ws (moment_of s event.ids) None → Violation 3 ≡ by_all_entries ws s event (allocation_of al event)
  unfolding policy_in
  no_entry_matches found = none_matches (policy_in ws) (moment_of s event.ids) (entry_in ws) event.access (allocation_of al event) 0 (entry_count ws) found

  pub from_first :
      (first : ℕ) (r : Option ℕ) → FirstOfAll ws (moment_of s event.ids) (Some first) → GrantedFrom ws s event (allocation_of al event) first r
      → granted r ≡ by_all_entries ws s event (allocation_of al event)
  unfolding policy_in by_entries_from
  from_first first r found grants =
      let l = match_within (policy_in ws) (moment_of s event.ids) (entry_in ws) 0 (entry_count ws) in
      let b : first < entry_count ws = found.0 in
      let q = one_matches (policy_in ws) (moment_of s event.ids) (entry_in ws) event.access (allocation_of al event) 0 (entry_count ws) (rw found.1 at b) in
      sym (rw zero-add at q ∙ rw (← found.1) grants.decides)

-- ---- an entry that cannot match

pub subject_of_none : (subject : Bool) → false ≡ true → subject ≡ true
subject_of_none subject h = absurd (false≢true h)

pub subject_known : (subject of r : Bool) → of ≡ subject → not of ≡ false → r ≡ true → subject ≡ true
subject_known subject of r told h e = tested_true subject of told h

module _ (ws : List ℕ) (k : ℕ) (event : Event) (base running : Words) where
  pub another_subject_tells : (of : Bool) → of ≡ has_subject ws k event → not of ≡ true → MayMatch ws k event base running false
  another_subject_tells of told h = record { refuses = λ s placed b t e. other_subject ws s event placed k (tested_false (has_subject ws k event) of told h) }

  pub may_well : MayMatch ws k event base running true
  may_well = record { refuses = λ s placed b t e. absurd (false≢true (sym e)) }

  module _ (at : ℕ) (stands : at ≡ entry_at k) where
    pub uid_tells : (u : ℕ) (a : Bool) → u ≡ word ws (at + uid_at) → a ≡ sort_fits (sort_in u) event.ids.uid → not a ≡ true → MayMatch ws k event base running false
    uid_tells u a uid told h =
        record { refuses = λ s placed b t e. other_sorts ws s event placed k at stands false (other_uid ws at event.ids u a uid told h) refl }

    pub ends_tell : (p : List ℕ) (r : Bool) → p ≡ pattern_words_in ws at → EndsMayMeet p base running r → MayMatch ws k event base running r
    unfolding entry_matches entry_in context_in policy_in
    ends_tell p r reads ends =
        record {
          refuses = λ s placed b t e.
              let fails : false ≡ matches (function_domains_in ws) (map element_in p) s = ends.refuses (function_domains_in ws) s placed.some b t e in
              rw (← stands, ← reads, ← fails) (simp (and-false));
        }

pub subject_told : (subject r : Bool) → (r ≡ true → subject ≡ true) → r ≡ true → subject ≡ true
subject_told subject r told h = told h

pub filtered :
    (ws s F : List ℕ) (event : Event) (k n : ℕ) (base running : Words) (r : Bool) → n ≡ entry_count ws
    → k + match_left ws (moment_of s event.ids) k ≡ first_of_all ws (moment_of s event.ids) → k < n → Placed ws s event → F ≡ function_domains_in ws
    → Meeting F (get_or s 0 0) base → Meeting F (top s) running → MayMatch ws k event base running r → r ≡ false
    → k + 1 + match_left ws (moment_of s event.ids) (k + 1) ≡ first_of_all ws (moment_of s event.ids)
filtered ws s F event k n base running r counted so_far below placed same b t may h =
    matches_later_lem ws (moment_of s event.ids) k n counted so_far false below (may.refuses s placed (rw same at b) (rw same at t) h) refl

-- ---- the access

pub code_called : (a : Access) → ((f : FunctionNumber) × (a ≡ Call f)) ⊎ ((f : FunctionNumber) × (a ≡ Return f)) → true ≡ is_code a
unfolding is_code
code_called a h = ⊎_elim (λ c. rw c.1) (λ r. rw r.1) h

pub data_otherwise : (a : Access) → ((f : FunctionNumber) → a ≡ Call f → ⊥) → ((f : FunctionNumber) → a ≡ Return f → ⊥) → false ≡ is_code a
unfolding is_code
data_otherwise (Read o) n m = refl
data_otherwise (Write o) n m = refl
data_otherwise (Call f) n m = absurd (n f refl)
data_otherwise (Return f) n m = absurd (m f refl)

pub written : (a : Access) (o : ObjectNumber) → a ≡ Write o → true ≡ is_write a
unfolding is_write
written a o e = rw e

pub not_written : (a : Access) → ((o : ObjectNumber) → a ≡ Write o → ⊥) → false ≡ is_write a
unfolding is_write
not_written (Read o) n = refl
not_written (Write o) n = absurd (n o refl)
not_written (Call f) n = refl
not_written (Return f) n = refl

pub grant_of_returns : (a : Access) (f : FunctionNumber) → a ≡ Return f → returns_at ≡ code_grant_at a
unfolding code_grant_at
grant_of_returns a f e = rw e

pub grant_of_calls : (a : Access) → ((f : FunctionNumber) → a ≡ Return f → ⊥) → calls_at ≡ code_grant_at a
unfolding code_grant_at
grant_of_calls (Read o) n = refl
grant_of_calls (Write o) n = refl
grant_of_calls (Call f) n = refl
grant_of_calls (Return f) n = absurd (n f refl)

-- the domains that the target is one of
module _ (may_ask : ℕ → ℕ → Type 0) (ws : List ℕ) (a : Access) (d n : ℕ) (listed : may_ask d (domain_count ws a)) where
  pub code_asked : is_code a ≡ true → n ≡ subject_domain_count ws → may_ask d n
  code_asked h e = rw e (rw h at listed)

  pub data_asked : is_code a ≡ false → n ≡ object_domain_count ws → may_ask d n
  data_asked h e = rw e (rw h at listed)
