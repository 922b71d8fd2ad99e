-- The report of a policy with two entries, from their stack.
use Prim.Native.Nat.{ℕ, ◌<◌, ◌≤◌}
use native.Mathlib.Omega.{arith}
use mathlib.Core.Logic.{◌⊎◌, inl, inr}
use mathlib.Core.Path.{◌≡◌, refl, subst₂}
use mathlib.Core.List.{List, [], ◌∷◌}
use lib.ListN.{length, take}
use Rattle.paper.specs.declared.Report.TheVariants.{Clear, Clash}
use Rattle.paper.specs.Limits.{witness_words}
use Rattle.paper.specs.Policy.{Policy}
use Rattle.paper.specs.Overlap.{BothMatch, NeverBoth, Says, entry_of_policy, witness_uid, witness_left}
use Rattle.overlap.specs.Clash.{pair_stack, Free}
use Rattle.overlap.proofs.Clash.{clash_sound}
use Rattle.overlap.proofs.Reporting.{no_stack_no_clash, none_before, take_left}

module _ (p : Policy) (two : length p.entries ≡ 2) (old : List ℕ) where
  -- the only pair
  only_pair : (i j : ℕ) → i < j → j < length p.entries → NeverBoth p 0 1 → NeverBoth p i j
  only_pair i j h k never =
      let a : 0 ≡ i = omega arith in
      let b : 1 ≡ j = omega arith in
      subst₂ (λ (i j : ℕ). NeverBoth p i j) a b never

  pub two_clear : pair_stack p 0 1 ≡ [] → Says p old (witness_left [] old) Clear
  two_clear e = (refl, λ i j h k. only_pair i j h k (no_stack_no_clash p 0 1 e))

  module _ (x : ℕ) (s : List ℕ) (found : pair_stack p 0 1 ≡ x ∷ s) (one : Free (entry_of_policy p 0).context) (other : Free (entry_of_policy p 1).context) where
    both_match : BothMatch p 0 1 (record { stack = x ∷ s; uid = witness_uid (entry_of_policy p 0) (entry_of_policy p 1); gid = 0; namespace = 0 })
    unfolding pair_stack
    both_match =
        let c = clash_sound p (entry_of_policy p 0) (entry_of_policy p 1) one other in
        let b = (rw found at c) tt in
        record { one = b.0; other = b.1 }

    held : take (length (x ∷ s)) (witness_left (x ∷ s) old) ≡ x ∷ s
    held = take_left (x ∷ s) old (witness_left (x ∷ s) old) (length (x ∷ s)) refl refl

    pub two_clash : length (x ∷ s) ≤ witness_words → Says p old (witness_left (x ∷ s) old) (Clash 0 1 (length (x ∷ s)) (witness_uid (entry_of_policy p 0) (entry_of_policy p 1)) 0 0)
    two_clash short = record {
      ordered = omega arith;
      listed = omega arith;
      first = λ i j h k b. absurd (nothing_before i j h b);
      both = rw held both_match;
      least = λ m both. rw (held, ← found) (none_before p 0 1 m both);
      short = short;
      left = rw held;
      uid_is = refl;
      gid_is = refl;
      namespace_is = refl;
    }
      where
        nothing_before : (i j : ℕ) → i < j → (i < 0) ⊎ ((i ≡ 0) × (j < 1)) → ⊥
        nothing_before i j h (inl b) = omega arith
        nothing_before i j h (inr b) = let e = b.0 in let f = b.1 in omega arith
