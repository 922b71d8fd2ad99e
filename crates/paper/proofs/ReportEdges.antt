-- The overlap report's refusals, and what it may and may not say of small policies (document 01, "Overlap report").
use Prim.Native.Nat.{ℕ, zero, suc, ◌<◌}
use mathlib.Core.Path.{◌≡◌, refl}
use mathlib.Core.Bool.{true, false, false≢true}
use mathlib.Core.Logic.{inl, inr, ⊎_elim}
use mathlib.Core.List.{List, [], ◌∷◌, ◌++◌, map}
use native.Mathlib.Omega.{arith}
use lib.Dec.{ltb}
use lib.ListN.{length, take, replicate}
use Rattle.paper.specs.declared.Report.TheVariants.{Clear, Clash, Unreported}
use Rattle.paper.specs.Scalars.{Sort, anyone, variable, root, user}
use Rattle.paper.specs.Policy.{all, every, Entry, Policy}
use Rattle.paper.specs.Table.{well_formed}
use Rattle.paper.specs.Match.{Moment}
use Rattle.paper.specs.Overlap.{PairBefore, NotAfter, BothMatch, Says, witness_uid, witness_left}
use Rattle.paper.specs.Promises.{report_refusal}
use Rattle.paper.proofs.Computing.{computing}
use Rattle.paper.proofs.WorkedPolicy.{context}

-- ---- "the report's [order is] 20, 40"; 40: "under 30 words" (document 02 h)

ill_formed_first : map (report_refusal []) ([] ∷ replicate 30 0 ∷ []) ≡ 20 ∷ 20 ∷ []
unfolding computing
ill_formed_first = refl

short_witness : (table witness : List ℕ) → well_formed table ≡ true → ltb (length witness) 30 ≡ true → report_refusal table witness ≡ 40
unfolding report_refusal
short_witness table witness w h = rw (w, h)

enough_witness : (table witness : List ℕ) → well_formed table ≡ true → ltb (length witness) 30 ≡ false → report_refusal table witness ≡ 0
unfolding report_refusal
enough_witness table witness w h = rw (w, h)

-- ---- the witness, and the uid

-- "the witness holds the stack from its base, then zeros" to word 30 (document 02 h); words past 30 never change
witnesses :
    map (λ (stack : List ℕ). witness_left stack (replicate 30 7 ++ (8 ∷ 9 ∷ []))) ([] ∷ (3 ∷ 1 ∷ []) ∷ replicate 30 5 ∷ [])
    ≡ (replicate 30 0 ++ (8 ∷ 9 ∷ [])) ∷ ((3 ∷ 1 ∷ replicate 28 0) ++ (8 ∷ 9 ∷ [])) ∷ (replicate 30 5 ++ (8 ∷ 9 ∷ [])) ∷ []
unfolding computing
witnesses = refl

abbrev entry : Sort → Entry
entry uid = record { context = context (all ∷ []) uid anyone; subject = 0; calls = every; returns = every; reads = []; writes = [] }

-- "uid (1 if either entry says `user`, else 0)"
witness_uids :
    map (λ (s : Sort). witness_uid (entry s) (entry anyone)) (anyone ∷ variable ∷ root ∷ user ∷ [])
    ++ map (λ (s : Sort). witness_uid (entry s) (entry user)) (anyone ∷ variable ∷ root ∷ user ∷ [])
    ≡ (0 ∷ 0 ∷ 0 ∷ 1 ∷ []) ++ (1 ∷ 1 ∷ 1 ∷ 1 ∷ [])
unfolding computing
witness_uids = refl

-- ---- the order of stacks: "the shortest .. and among the shortest the lowest function numbers from the base up" (document 02 k)

shorter_first : NotAfter (9 ∷ []) (0 ∷ 0 ∷ []) × (NotAfter (0 ∷ 0 ∷ []) (9 ∷ []) → ⊥)
unfolding computing
shorter_first = (inl (omega arith), λ h. ⊎_elim (λ l. omega arith) (λ e. omega (arith, e.0)) h)

lowest_from_the_base_up : NotAfter (0 ∷ 9 ∷ []) (1 ∷ 0 ∷ []) × (NotAfter (1 ∷ 0 ∷ []) (0 ∷ 9 ∷ []) → ⊥)
unfolding computing
lowest_from_the_base_up =
    (inr (refl, inl (omega arith)), λ h. ⊎_elim (λ l. omega arith) (λ e. ⊎_elim (λ l. omega arith) (λ f. omega (arith, f.0)) e.1) h)

then_the_next : NotAfter (4 ∷ 0 ∷ []) (4 ∷ 0 ∷ []) × NotAfter (4 ∷ 0 ∷ []) (4 ∷ 1 ∷ []) × (NotAfter (4 ∷ 1 ∷ []) (4 ∷ 0 ∷ []) → ⊥)
unfolding computing
then_the_next = (
  inr (refl, inr (refl, inr (refl, tt))),
  inr (refl, inr (refl, inl (omega arith))),
  λ h. ⊎_elim (λ l. omega arith) (λ e. ⊎_elim (λ l. omega arith) (λ f. ⊎_elim (λ l. omega arith) (λ g. omega (arith, g.0)) f.1) e.1) h,
)

-- ---- what it says: function 0 of subject domain 0, and entries for it

abbrev policy : List Entry → Policy
policy entries = record { object_domains = 0; subject_domains = 1; objects = []; functions = 0 ∷ []; entries = entries }

-- two that both match at 0, one of which says `user`
abbrev two : Policy
two = policy (entry anyone ∷ entry user ∷ [])

-- no pair stands before 0 and 1
none_before : (i j : ℕ) → i < j → PairBefore i j 0 1 → ⊥
none_before i j below before = ⊎_elim (λ h. omega arith) (λ h. omega arith) before

-- 0 is the least stack that these two match
no_stack : (m : Moment) → BothMatch two 0 1 m → m.stack ≡ [] → ⊥
unfolding computing
no_stack m both e = let h = both.one in false≢true (rw e at h)

zero_first : (s : List ℕ) → (s ≡ [] → ⊥) → NotAfter (0 ∷ []) s
unfolding computing
zero_first [] some = absurd (some refl)
zero_first (zero ∷ []) some = inr (refl, inr (refl, tt))
zero_first (suc x ∷ []) some = inr (refl, inl (omega arith))
zero_first (x ∷ y ∷ s) some = inl (omega arith)

zero_least : (m : Moment) → BothMatch two 0 1 m → NotAfter (0 ∷ []) m.stack
zero_least m both = zero_first m.stack (no_stack m both)

-- two functions of the domain
abbrev two_functions : Policy
two_functions = record { object_domains = 0; subject_domains = 1; objects = []; functions = 0 ∷ 0 ∷ []; entries = entry anyone ∷ entry user ∷ [] }

module _ (old new : List ℕ) where
  one_entry_clear : Says (policy (entry user ∷ [])) old (witness_left [] old) Clear
  unfolding computing
  one_entry_clear = (refl, λ i j below listed m both. omega arith)

  two_clash : Says two old (witness_left (0 ∷ []) old) (Clash 0 1 1 1 0 0)
  unfolding computing
  two_clash =
      record {
        ordered = omega arith;
        listed = omega arith;
        first = λ i j below listed before m both. none_before i j below before;
        both = record { one = refl; other = refl };
        least = zero_least;
        short = omega arith;
        left = refl;
        uid_is = refl;
        gid_is = refl;
        namespace_is = refl;
      }

  -- "clear" is not said of them, nor is a refusal of a table that is none
  two_not_clear : Says two old new Clear → ⊥
  unfolding computing
  two_not_clear said = said.1 0 1 (omega arith) (omega arith) (record { stack = 0 ∷ []; uid = 1; gid = 0; namespace = 0 }) (record { one = refl; other = refl })

  not_refused : (number : ℕ) → Says two old new (Unreported number) → ⊥
  not_refused number said = said

  -- another uid, gid or namespace, another order, a pair that is not there
  not_another_uid : (depth gid namespace : ℕ) → Says two old new (Clash 0 1 depth 0 gid namespace) → ⊥
  unfolding computing
  not_another_uid depth gid namespace said = omega (arith, said.uid_is)

  not_another_gid : (depth uid namespace : ℕ) → Says two old new (Clash 0 1 depth uid 1 namespace) → ⊥
  not_another_gid depth uid namespace said = omega (arith, said.gid_is)

  not_another_namespace : (depth uid gid : ℕ) → Says two old new (Clash 0 1 depth uid gid 1) → ⊥
  not_another_namespace depth uid gid said = omega (arith, said.namespace_is)

  not_the_other_order : (depth uid gid namespace : ℕ) → Says two old new (Clash 1 0 depth uid gid namespace) → ⊥
  not_the_other_order depth uid gid namespace said = omega (arith, said.ordered)

  not_past_the_last : (depth uid gid namespace : ℕ) → Says two old new (Clash 1 2 depth uid gid namespace) → ⊥
  not_past_the_last depth uid gid namespace said = omega (arith, said.listed)

  -- not a stack over 30, nor one at which they do not match
  not_over_30 : (uid gid namespace : ℕ) → Says two old new (Clash 0 1 31 uid gid namespace) → ⊥
  not_over_30 uid gid namespace said = omega (arith, said.short)

  not_without_a_stack : Says two old new (Clash 0 1 0 1 0 0) → ⊥
  unfolding computing
  not_without_a_stack said = false≢true said.both.one

  -- a stack of one frame more than needed, the higher of two functions
  not_a_longer_stack : Says two old (witness_left (0 ∷ 0 ∷ []) old) (Clash 0 1 2 1 0 0) → ⊥
  unfolding computing
  not_a_longer_stack said =
      ⊎_elim (λ l. omega arith) (λ e. omega (arith, e.0)) (said.least (record { stack = 0 ∷ []; uid = 1; gid = 0; namespace = 0 }) (record { one = refl; other = refl }))

  not_a_higher_function : Says two_functions old (witness_left (1 ∷ []) old) (Clash 0 1 1 1 0 0) → ⊥
  unfolding computing
  not_a_higher_function said =
      ⊎_elim (λ l. omega arith) (λ e. ⊎_elim (λ l. omega arith) (λ f. omega (arith, f.0)) e.1)
      (said.least (record { stack = 0 ∷ []; uid = 1; gid = 0; namespace = 0 }) (record { one = refl; other = refl }))

  -- "lower entry least, then higher least": of three that all match, not the first and the third
  not_a_later_pair : (depth uid gid namespace : ℕ) → Says (policy (entry anyone ∷ entry user ∷ entry variable ∷ [])) old new (Clash 0 2 depth uid gid namespace) → ⊥
  unfolding computing
  not_a_later_pair depth uid gid namespace said =
      said.first 0 1 (omega arith) (omega arith) (inr (refl, omega arith)) (record { stack = 0 ∷ []; uid = 1; gid = 0; namespace = 0 }) (record { one = refl; other = refl })

  -- words past 30 as they were
  what_a_clash_leaves : (p : Policy) (lower higher depth uid gid namespace : ℕ) → Says p old new (Clash lower higher depth uid gid namespace) → new ≡ witness_left (take depth new) old
  what_a_clash_leaves p lower higher depth uid gid namespace said = said.left
