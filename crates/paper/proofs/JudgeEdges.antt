-- The judge's refusals at their edges and in their order, and the verdicts in theirs (document 01, "Numbers that come back" and "What a match is").
use Prim.Native.Nat.{ℕ}
use mathlib.Core.Path.{◌≡◌, refl}
use mathlib.Core.Bool.{true, false}
use mathlib.Core.List.{List, [], ◌∷◌, map}
use lib.ListN.{replicate}
use Rattle.paper.specs.declared.Verdict.{Verdict}
use Rattle.paper.specs.declared.Verdict.TheVariants.{Inside, Granted, Violation, Unjudged}
use Rattle.paper.specs.Scalars.{anyone}
use Rattle.paper.specs.Policy.{fn, Grant, every, these, Descriptor, Entry, Policy}
use Rattle.paper.specs.Table.{policy_in, well_formed}
use Rattle.paper.specs.Match.{Moment}
use Rattle.paper.specs.Promises.{judge_event, judge_answer}
use Rattle.paper.proofs.Computing.{computing}
use Rattle.paper.proofs.WorkedPolicy.{context, any_context, item}

abbrev moment : List ℕ → Moment
moment stack = record { stack = stack; uid = 1; gid = 1; namespace = 1 }

-- subject domains 0 and 1 of a function each, object domains 0 and 1 of an object each; the entries are for domain 1
abbrev policy : List Entry → Policy
policy entries = record { object_domains = 2; subject_domains = 2; objects = 0 ∷ 1 ∷ []; functions = 0 ∷ 1 ∷ []; entries = entries }

-- what an entry grants: domain 0 for calls, returns, reads and writes, or not
abbrev grant : Grant → Entry
grant g =
    record { context = any_context; subject = 1; calls = g; returns = g; reads = item g any_context ∷ []; writes = item g any_context ∷ [] }

abbrev granting : Entry
granting = grant (these (true ∷ false ∷ []))

abbrev silent : Entry
silent = grant (these (false ∷ false ∷ []))

abbrev judged : ℕ → ℕ → List ℕ → List ℕ → Verdict
judged operation target stack allocation = judge_event (policy (granting ∷ [])) operation target (moment stack) (moment allocation)

-- 21: "stack of 0 or over 64 frames"; 22: "allocation stack over 64 frames"; 23: "operation not 1 to 4"
refusals_at_their_edges :
    judged 3 0 [] []
    ∷ judged 3 0 (replicate 64 1) []
    ∷ judged 3 0 (replicate 65 1) []
    ∷ judged 1 0 (1 ∷ []) (replicate 64 1)
    ∷ judged 1 0 (1 ∷ []) (replicate 65 1)
    -- "For call and return no allocation data is looked at, beyond 22."
    ∷ judged 3 0 (1 ∷ []) (replicate 65 1)
    ∷ judged 4 0 (1 ∷ []) (replicate 64 9)
    ∷ map (λ operation. judged operation 0 (1 ∷ []) []) (0 ∷ 1 ∷ 2 ∷ 3 ∷ 4 ∷ 5 ∷ [])
    ≡ Unjudged 21
    ∷ Granted 0
    ∷ Unjudged 21
    ∷ Granted 0
    ∷ Unjudged 22
    ∷ Unjudged 22
    ∷ Granted 0
    ∷ (Unjudged 23 ∷ Granted 0 ∷ Granted 0 ∷ Granted 0 ∷ Granted 0 ∷ Unjudged 23 ∷ [])
unfolding computing
refusals_at_their_edges = refl

-- 21 before 22 before 23, and all of them before every verdict: here nothing is listed
refusals_in_order :
    judged 5 9 [] (replicate 65 9) ∷ judged 5 9 (replicate 65 9) (replicate 65 9) ∷ judged 5 9 (9 ∷ []) (replicate 65 9) ∷ judged 5 9 (9 ∷ []) [] ∷ judged 1 9 (9 ∷ []) [] ∷ []
    ≡ Unjudged 21 ∷ Unjudged 21 ∷ Unjudged 22 ∷ Unjudged 23 ∷ Violation 1 ∷ []
unfolding computing
refusals_in_order = refl

-- 20 before all of them: no word, and 16,383 words
ill_formed_first :
    judge_answer [] 5 9 (moment []) (moment (replicate 65 9)) ∷ judge_answer (replicate 16383 0) 1 0 (moment (1 ∷ [])) (moment []) ∷ [] ≡ Unjudged 20 ∷ Unjudged 20 ∷ []
unfolding computing
ill_formed_first = refl

-- a well-formed table is judged by the policy that it holds
well_formed_by_its_policy :
    (table : List ℕ) (operation target : ℕ) (m allocation : Moment) →
    well_formed table ≡ true →
    judge_answer table operation target m allocation ≡ judge_event (policy_in table) operation target m allocation
unfolding judge_answer
well_formed_by_its_policy table operation target m allocation h = rw h

-- "Verdict, in order: violation 1, top unlisted; violation 2, target unlisted; allowed inside one domain (call, return)": the count is the first unlisted number
verdicts_in_order :
    judged 3 2 (0 ∷ 2 ∷ []) []
    ∷ judged 3 2 (2 ∷ 1 ∷ []) []
    ∷ judged 1 2 (1 ∷ []) []
    -- inside one domain whether or not an entry matches; a read is never inside
    ∷ judged 3 1 (0 ∷ 1 ∷ []) []
    ∷ judged 4 0 (1 ∷ 0 ∷ []) []
    ∷ judged 1 1 (1 ∷ []) []
    ∷ judged 2 1 (1 ∷ []) []
    -- 3 where no entry matches, 4 where one does
    ∷ judged 3 1 (1 ∷ 0 ∷ []) []
    ∷ judged 1 0 (0 ∷ []) []
    ∷ []
    ≡ Violation 1 ∷ Violation 2 ∷ Violation 2 ∷ Inside ∷ Inside ∷ Violation 4 ∷ Violation 4 ∷ Violation 3 ∷ Violation 3 ∷ []
unfolding computing
verdicts_in_order = refl

-- "the lowest matching entry that grants": not the first that matches, nor the last
abbrev under : List Entry → Verdict
under entries = judge_event (policy entries) 3 0 (moment (1 ∷ [])) (moment [])

-- an entry of domain 0, which does not match
abbrev elsewhere : Entry
elsewhere = record { context = any_context; subject = 0; calls = every; returns = every; reads = []; writes = [] }

lowest_that_grants :
    map under ([] ∷ (elsewhere ∷ []) ∷ (silent ∷ []) ∷ (elsewhere ∷ silent ∷ granting ∷ granting ∷ []) ∷ (silent ∷ elsewhere ∷ []) ∷ (granting ∷ silent ∷ []) ∷ [])
    ≡ Violation 3 ∷ Violation 3 ∷ Violation 4 ∷ Granted 2 ∷ Violation 4 ∷ Granted 0 ∷ []
unfolding computing
lowest_that_grants = refl

-- "granted by one descriptor that lists the domain and whose context fits": not by two of which one lists it and the other fits
abbrev reading : List Descriptor → Verdict
reading descriptors =
    judge_event
    (policy (record { context = any_context; subject = 1; calls = every; returns = every; reads = descriptors; writes = [] } ∷ []))
    1 0 (moment (1 ∷ [])) (moment (1 ∷ []))

abbrev lists : Descriptor
lists = item (these (true ∷ false ∷ [])) (context (fn 0 ∷ []) anyone anyone)

abbrev fits : Descriptor
fits = item (these (false ∷ true ∷ [])) any_context

by_one_descriptor : map reading ((lists ∷ fits ∷ []) ∷ (fits ∷ lists ∷ []) ∷ (lists ∷ item every any_context ∷ []) ∷ []) ≡ Violation 4 ∷ Violation 4 ∷ Granted 0 ∷ []
unfolding computing
by_one_descriptor = refl
