-- Demand 2 of the judge's answer, and: any two answers that meet the judge's promise are equal.
use mathlib.Core.Path.{◌≡◌, refl, sym, ◌∙◌}
use mathlib.Core.Bool.{Bool, true, false, cond, not, ◌&&◌, ◌||◌, false≢true}
use mathlib.Core.Logic.{inl, inr, ⊎_elim, ◌↔◌}
use mathlib.Core.List.{List, [], ◌∷◌}
use Prim.Native.Nat.{ℕ, zero, suc, ◌+◌, ◌<◌}
use native.Mathlib.Nat.{not-suc-le-zero}
use native.Mathlib.Omega.{arith}
use lib.ListN.{length, get_or}
use borrow.Author.Tests.{eq-eqb, eqb-true, lt-ltb, ltb-true, le-leb, le-ltb}
use Rattle.paper.specs.Common.{any_of}
use Rattle.paper.specs.declared.Access.{Access}
use Rattle.paper.specs.declared.Verdict.{Verdict}
use Rattle.paper.specs.declared.Verdict.TheVariants.{Inside, Granted, Violation, Unjudged}
use Rattle.paper.specs.Policy.{Entry, no_entry, Policy}
use Rattle.paper.specs.Table.{policy_in, well_formed}
use Rattle.paper.specs.Match.{Moment, top, is_listed, sorts_fit, entry_matches}
use Rattle.paper.specs.Verdict.{is_code, target_listed, inside_one_domain, entry_grants, by_entries, verdict_of}
use Rattle.paper.specs.Promises.{access_for, judge_event, judge_answer}
use Rattle.laws.proofs.Tests.{both_true, both_left, both_right, either_left, either_right, either_of}
use Rattle.judge.specs.Demand.{Judged, Allowed, BothListed, StaysInside, MatchesAndGrants, SomeEntryGrants, MayHappen}

-- ---- of any policy, as tests

-- a verdict that allows the access
abbrev pub allows : Verdict → Bool
allows Inside = true
allows (Granted entry) = true
allows (Violation number) = false
allows (Unjudged number) = false

module _ (p : Policy) (a : Access) (m allocation : Moment) where
  -- an entry that matches and grants
  abbrev pub allows_it : Entry → Bool
  allows_it e = entry_matches p e m && entry_grants p e a m allocation

  abbrev pub allowed : Bool
  allowed =
      (is_listed p.functions (top m.stack) && target_listed p a)
      && (inside_one_domain p a (get_or p.functions (top m.stack) 0) || any_of allows_it p.entries)

  entries_allow : (k : ℕ) (matched : Bool) (es : List Entry) → allows (by_entries p a m allocation k matched es) ≡ any_of allows_it es
  unfolding by_entries any_of
  entries_allow k matched [] = refl
  entries_allow k matched (e ∷ es) =
      go
      (entry_matches p e m && entry_grants p e a m allocation)
      (by_entries p a m allocation (k + 1) (cond (entry_matches p e m) true matched) es)
      (any_of allows_it es)
      (entries_allow (k + 1) (cond (entry_matches p e m) true matched) es)
    where
      go : (t : Bool) (v : Verdict) (r : Bool) → allows v ≡ r → allows (cond t (Granted k) v) ≡ (t || r)
      go true v r h = refl
      go false v r h = h

  pub verdict_allows : allows (verdict_of p a m allocation) ≡ allowed
  unfolding verdict_of
  verdict_allows =
      go
      (is_listed p.functions (top m.stack))
      (target_listed p a)
      (inside_one_domain p a (get_or p.functions (top m.stack) 0))
      (by_entries p a m allocation 0 false p.entries)
      (any_of allows_it p.entries)
      (entries_allow 0 false p.entries)
    where
      go : (l t i : Bool) (v : Verdict) (r : Bool) → allows v ≡ r → allows (cond (not l) (Violation 1) (cond (not t) (Violation 2) (cond i Inside v))) ≡ ((l && t) && (i || r))
      go true true true v r h = refl
      go true true false v r h = h
      go true false i v r h = refl
      go false t i v r h = refl

-- ---- what the tests say

allows_allowed : (v : Verdict) → allows v ≡ true → Allowed v
allows_allowed Inside h = inl refl
allows_allowed (Granted entry) h = inr (entry, refl)
allows_allowed (Violation number) h = absurd (false≢true h)
allows_allowed (Unjudged number) h = absurd (false≢true h)

allowed_allows : (v : Verdict) → Allowed v → allows v ≡ true
allowed_allows v h = ⊎_elim (λ e. rw e) (λ g. rw g.1) h

any_one : {A : Type 0} (test : A → Bool) (d : A) (xs : List A) → any_of test xs ≡ true → (i : ℕ) × ((i < length xs) × (test (get_or xs i d) ≡ true))
unfolding any_of
any_one test d [] h = absurd (false≢true h)
any_one test d (x ∷ xs) h =
    ⊎_elim
    (λ (e : test x ≡ true). (0, (omega arith, e)))
    (λ (e : any_of test xs ≡ true). let r = any_one test d xs e in (suc r.0, (omega arith, r.1.1)))
    (either_of (test x) (any_of test xs) h)

one_any : {A : Type 0} (test : A → Bool) (d : A) (xs : List A) (i : ℕ) → i < length xs → test (get_or xs i d) ≡ true → any_of test xs ≡ true
unfolding any_of
one_any test d [] i l h = absurd (not-suc-le-zero l)
one_any test d (x ∷ xs) zero l h = either_left (test x) (any_of test xs) h
one_any test d (x ∷ xs) (suc i) l h = either_right (test x) (any_of test xs) (one_any test d xs i (omega arith) h)

module _ (p : Policy) (a : Access) (m allocation : Moment) where
  abbrev domain : ℕ
  domain = get_or p.functions (top m.stack) 0

  abbrev both_listed : Bool
  both_listed = is_listed p.functions (top m.stack) && target_listed p a

  abbrev some_entry : Bool
  some_entry = any_of (allows_it p a m allocation) p.entries

  listed_both : both_listed ≡ true → BothListed p a m
  unfolding target_listed
  listed_both h = record { running = ltb-true _ _ (both_left _ (target_listed p a) h); target = ltb-true _ _ (both_right (is_listed p.functions (top m.stack)) _ h) }

  both_listed_lem : BothListed p a m → both_listed ≡ true
  unfolding target_listed
  both_listed_lem b = both_true _ _ (lt-ltb _ _ b.running) (lt-ltb _ _ b.target)

  inside_stays : inside_one_domain p a domain ≡ true → StaysInside p a m
  unfolding inside_one_domain
  inside_stays h = record { call_or_return = both_left (is_code a) _ h; one_domain = eqb-true _ _ (both_right (is_code a) _ h) }

  stays_inside : StaysInside p a m → inside_one_domain p a domain ≡ true
  unfolding inside_one_domain
  stays_inside i = both_true _ _ i.call_or_return (eq-eqb _ _ i.one_domain)

  entry_grants_lem : (e : Entry) → allows_it p a m allocation e ≡ true → MatchesAndGrants p a m allocation e
  unfolding entry_matches sorts_fit
  entry_grants_lem e h =
      record {
        subject = search (both_left, both_right) depth 10;
        stack = search (both_left, both_right) depth 10;
        uid = search (both_left, both_right) depth 10;
        gid = search (both_left, both_right) depth 10;
        namespace = search (both_left, both_right) depth 10;
        grants = search (both_left, both_right) depth 10;
      }

  grants_entry : (e : Entry) → MatchesAndGrants p a m allocation e → allows_it p a m allocation e ≡ true
  unfolding entry_matches sorts_fit
  grants_entry e g = rw (g.subject, g.stack, g.uid, g.gid, g.namespace, g.grants)

  some_grants : some_entry ≡ true → SomeEntryGrants p a m allocation
  some_grants h =
      let some = any_one (allows_it p a m allocation) no_entry p.entries h in
      record { entry = some.0; listed = some.1.0; grants = entry_grants_lem _ some.1.1 }

  grants_some : SomeEntryGrants p a m allocation → some_entry ≡ true
  grants_some g = one_any (allows_it p a m allocation) no_entry p.entries g.entry g.listed (grants_entry _ g.grants)

  allowed_may : allowed p a m allocation ≡ true → MayHappen p a m allocation
  allowed_may h = (
    listed_both (both_left both_listed (inside_one_domain p a domain || some_entry) h),
    ⊎_elim
        (λ i. inl (inside_stays i))
        (λ e. inr (some_grants e))
        (either_of (inside_one_domain p a domain) some_entry (both_right both_listed (inside_one_domain p a domain || some_entry) h)),
  )

  may_allowed : MayHappen p a m allocation → allowed p a m allocation ≡ true
  may_allowed h =
      both_true both_listed _ (both_listed_lem h.0)
      (⊎_elim
      (λ i. either_left (inside_one_domain p a domain) some_entry (stays_inside i))
      (λ e. either_right (inside_one_domain p a domain) some_entry (grants_some e))
      h.1)

-- ---- of the judge's answer

module _ (table : List ℕ) (operation target : ℕ) (m allocation : Moment) where
  judged_verdict : well_formed table ≡ true → Judged operation m allocation → judge_answer table operation target m allocation ≡ verdict_of (policy_in table) (access_for operation target) m allocation
  unfolding judge_answer judge_event
  judged_verdict w j =
      rw (w, le-leb _ _ j.some_frame, le-leb _ _ j.few_frames, le-ltb _ _ j.few_allocation_frames, le-leb _ _ j.some_operation, le-leb _ _ j.known_operation)

  -- on a well-formed table an event that is not refused is allowed exactly when the user's sentence holds of it
  pub demand_2 :
      well_formed table ≡ true → Judged operation m allocation
      → Allowed (judge_answer table operation target m allocation) ↔ MayHappen (policy_in table) (access_for operation target) m allocation
  demand_2 w j =
      let e = judged_verdict w j in
      let t = verdict_allows (policy_in table) (access_for operation target) m allocation in (
        (λ h. allowed_may (policy_in table) (access_for operation target) m allocation (sym t ∙ allowed_allows _ (rw e at h))),
        (λ h. rw e (allows_allowed _ (t ∙ may_allowed (policy_in table) (access_for operation target) m allocation h))),
      )

  -- any two answers that meet the judge's promise are equal
  pub answers_agree :
      (r r' : Verdict) → r ≡ judge_answer table operation target m allocation → r' ≡ judge_answer table operation target m allocation → r ≡ r'
  answers_agree r r' e e' = e ∙ sym e'
