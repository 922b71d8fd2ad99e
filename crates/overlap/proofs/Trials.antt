-- The trials of document 01 that are of a file and its events, or of two entries, and those that it marks "run only" and definitions can show.
use Prim.Native.Nat.{ℕ}
use mathlib.Core.Path.{◌≡◌, refl}
use mathlib.Core.Bool.{Bool, true}
use mathlib.Core.List.{List, [], ◌∷◌, map}
use lib.Dec.{leb}
use lib.ListN.{length, replicate}
use borrow.Author.Tests.{leb-true}
use Rattle.paper.specs.declared.Verdict.{Verdict}
use Rattle.paper.specs.declared.Verdict.TheVariants.{Inside, Granted, Violation, Unjudged}
use Rattle.paper.specs.declared.Report.{Report}
use Rattle.paper.specs.declared.Report.TheVariants.{Clear, Clash}
use Rattle.paper.specs.Limits.{witness_words}
use Rattle.paper.specs.Scalars.{Sort, anyone, root, user}
use Rattle.paper.specs.Page.{Outcome, fields, fault}
use Rattle.paper.specs.Policy.{Element, all, fn, any_in, every, Entry, Policy, policy_of}
use Rattle.paper.specs.Match.{sort_fits}
use Rattle.paper.specs.Overlap.{Says, entry_of_policy, witness_uid, witness_left}
use Rattle.paper.specs.Promises.{file_of, judge_event}
use Rattle.paper.proofs.Computing.{computing}
use Rattle.paper.proofs.Example.{example}
use Rattle.laws.specs.Frames.{meets_frame}
use Rattle.overlap_cells.specs.Best.{better, in_front, lowest_in, alone, lowest_frame, common_frame, firsts_at, firsts_of, best_with, row, best_by, lower_or_same, comes_first, best_stack}
use Rattle.overlap.specs.Clash.{is_root, apart, may_clash, clash_stack, pair_stack}
use Rattle.overlap.proofs.Two.{two_clear, two_clash}

-- "main 0, add 1, sum 2"
data Trial : Type 0 where
  -- "Under that file, uid 5": the stack, the operation, its target, the allocation stack, and the verdict
  event : List ℕ → ℕ → ℕ → List ℕ → Verdict → Trial
  -- "Two entries for Bill": their patterns and uids, and the stack of their clash, or [] for clear
  pair : List Element → Sort → List Element → Sort → List ℕ → Trial

abbrev reads : ℕ
reads = 1

abbrev calls : ℕ
calls = 3

abbrev returns : ℕ
returns = 4

abbrev trials : List Trial
trials =
    -- P1 to P7
    event (0 ∷ 1 ∷ []) returns 0 [] (Granted 0)
    ∷ event (0 ∷ 1 ∷ []) calls 2 [] Inside
    ∷ event (0 ∷ 1 ∷ []) calls 0 [] (Violation 4)
    ∷ event (0 ∷ []) calls 1 [] (Violation 3)
    ∷ event (0 ∷ 9 ∷ []) calls 0 [] (Violation 1)
    ∷ event (0 ∷ 1 ∷ []) reads 7 [] (Violation 2)
    ∷ event (0 ∷ 1 ∷ []) reads 0 [] (Granted 0)
    -- P8 to P12
    ∷ pair (fn 0 ∷ all ∷ []) anyone (all ∷ fn 1 ∷ []) anyone (0 ∷ 1 ∷ [])
    ∷ pair (fn 0 ∷ fn 1 ∷ []) anyone (fn 0 ∷ fn 2 ∷ []) anyone []
    ∷ pair (fn 0 ∷ all ∷ fn 1 ∷ []) anyone (all ∷ fn 2 ∷ fn 1 ∷ []) anyone (0 ∷ 2 ∷ 1 ∷ [])
    ∷ pair (all ∷ []) root (all ∷ []) user []
    ∷ pair (all ∷ fn 0 ∷ []) anyone (all ∷ []) anyone []
    -- a domain and its own function, and one of another domain (document 02 d)
    ∷ pair (any_in 1 ∷ []) anyone (fn 2 ∷ []) anyone (2 ∷ [])
    ∷ pair (fn 0 ∷ fn 1 ∷ []) anyone (any_in 0 ∷ fn 1 ∷ []) anyone (0 ∷ 1 ∷ [])
    ∷ pair (any_in 1 ∷ fn 1 ∷ []) anyone (fn 0 ∷ fn 1 ∷ []) anyone []
    -- one domain twice, and beside `all`: the lowest function
    ∷ pair (any_in 1 ∷ []) anyone (any_in 1 ∷ all ∷ []) anyone (1 ∷ [])
    ∷ pair (any_in 0 ∷ any_in 1 ∷ []) anyone (all ∷ fn 2 ∷ []) anyone (0 ∷ 2 ∷ [])
    ∷ pair (all ∷ any_in 1 ∷ any_in 1 ∷ []) anyone (any_in 0 ∷ all ∷ []) anyone (0 ∷ 1 ∷ 1 ∷ [])
    -- two domains
    ∷ pair (any_in 0 ∷ all ∷ []) anyone (any_in 1 ∷ all ∷ []) anyone []
    ∷ pair (all ∷ any_in 0 ∷ []) anyone (all ∷ any_in 1 ∷ []) anyone []
    -- domain 2 has no functions
    ∷ pair (all ∷ any_in 2 ∷ all ∷ []) anyone (all ∷ []) anyone []
    ∷ pair (any_in 2 ∷ all ∷ []) anyone (any_in 2 ∷ all ∷ fn 1 ∷ []) anyone []
    -- "64 and 65 frames", and what the judge refuses besides
    ∷ event (replicate 64 1) returns 0 [] (Granted 0)
    ∷ event (replicate 65 1) returns 0 [] (Unjudged 21)
    ∷ event [] returns 0 [] (Unjudged 21)
    ∷ event (1 ∷ []) reads 0 (replicate 64 9) (Granted 0)
    ∷ event (1 ∷ []) calls 0 (replicate 65 9) (Unjudged 22)
    ∷ event (0 ∷ 9 ∷ []) 0 0 [] (Unjudged 23)
    ∷ event (0 ∷ 9 ∷ []) 5 0 [] (Unjudged 23)
    ∷ []

abbrev judged : Outcome → List ℕ → ℕ → ℕ → List ℕ → Verdict
judged (fields fs) stack operation target allocation =
    judge_event (policy_of fs) operation target (record { stack = stack; uid = 5; gid = 0; namespace = 0 }) (record { stack = allocation; uid = 0; gid = 0; namespace = 0 })
judged (fault number line) stack operation target allocation = Unjudged number

-- an entry for Bill
abbrev entry : List Element → Sort → Entry
entry pattern uid =
    record { context = record { pattern = pattern; uid = uid; gid = anyone; namespace = anyone }; subject = 1; calls = every; returns = every; reads = []; writes = [] }

abbrev policy : Entry → Entry → Policy
policy a b = record { object_domains = 0; subject_domains = 3; objects = []; functions = 0 ∷ 1 ∷ 1 ∷ []; entries = a ∷ b ∷ [] }

abbrev report : Policy → List ℕ → Report
report p [] = Clear
report p (x ∷ stack) = Clash 0 1 (length (x ∷ stack)) (witness_uid (entry_of_policy p 0) (entry_of_policy p 1)) 0 0

-- what a trial claims: the verdict; or what the report says of the two entries, whatever the witness held
abbrev Claim : Trial → Type 0
Claim (event stack operation target allocation verdict) = judged (file_of example) stack operation target allocation ≡ verdict
Claim (pair one uid other uid' stack) =
    (old : List ℕ) →
    let p : Policy = policy (entry one uid) (entry other uid') in
    Says p old (witness_left stack old) (report p stack)

abbrev Claims : List Trial → Type 0
Claims [] = Unit {0}
Claims (t ∷ ts) = Claim t × Claims ts

-- what is computed: the verdict; or the stack of the two entries, and that it is of at most 30 functions
data Answer : Type 0 where
  verdict : Verdict → Answer
  stack : List ℕ → Bool → Answer

abbrev computed : Trial → Answer
computed (event s operation target allocation v) = verdict (judged (file_of example) s operation target allocation)
computed (pair one uid other uid' s) =
    let found : List ℕ = pair_stack (policy (entry one uid) (entry other uid')) 0 1 in
    stack found (leb (length found) witness_words)

abbrev told : Trial → Answer
told (event s operation target allocation v) = verdict v
told (pair one uid other uid' s) = stack s true

claimed : (t : Trial) → computed t ≡ told t → Claim t
unfolding entry_of_policy sort_fits
claimed (event s operation target allocation v) e = cc
claimed (pair one uid other uid' []) e =
    let found : pair_stack (policy (entry one uid) (entry other uid')) 0 1 ≡ [] = cc in
    λ old. two_clear (policy (entry one uid) (entry other uid')) refl old found
claimed (pair one uid other uid' (x ∷ s)) e =
    let found : pair_stack (policy (entry one uid) (entry other uid')) 0 1 ≡ x ∷ s = cc in
    let short : leb (length (x ∷ s)) witness_words ≡ true = cc in
    λ old.
    two_clash (policy (entry one uid) (entry other uid')) refl old x s found (record { gid = refl; namespace = refl }) (record { gid = refl; namespace = refl })
    (leb-true (length (x ∷ s)) witness_words short)

all_claimed : (ts : List Trial) → map computed ts ≡ map told ts → Claims ts
all_claimed [] e = tt
all_claimed (t ∷ ts) e =
    let first : computed t ≡ told t = cc in
    let rest : map computed ts ≡ map told ts = cc in
    (claimed t first, all_claimed ts rest)

unfoldable stacks : Unit {0}
unfolding better in_front lowest_in alone meets_frame lowest_frame common_frame firsts_at firsts_of best_with row best_by lower_or_same comes_first best_stack is_root apart may_clash clash_stack pair_stack
stacks = tt

as_told : Claims trials
unfolding computing stacks
as_told = all_claimed trials refl
