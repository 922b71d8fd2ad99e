-- What the maps name, and how many names that is.
use mathlib.Core.Path.{◌≡◌, refl, ap, ◌∙◌}
use mathlib.Core.Bool.{Bool, true, false, cond, ◌||◌}
use mathlib.Core.Logic.{◌⊎◌, inl, inr}
use mathlib.Core.List.{List, [], ◌∷◌, ◌++◌, flat_map, map}
use Prim.Native.Nat.{ℕ, ◌+◌, ◌≤◌}
use native.Mathlib.Omega.{arith}
use lib.Dec.{eqb}
use lib.ListN.{length, length-append}
use Rattle.paper.specs.Common.{any_of}
use Rattle.paper.specs.Lists.{elements}
use Rattle.paper.specs.Listing.{object_name, subject_name}
use Rattle.paper.specs.Page.{Field}
use Rattle.paper.specs.Entries.{is_at, is_at_one, fields_at}
use Rattle.paper.specs.Rules.{one_at, members_at, domain_named, members_named, domains_at, identifiers_at}
use Rattle.laws_file.specs.Accepted.{total}
use Rattle.file_names.specs.Naming.{named_at}
use Rattle.file_names.proofs.Seen.{PartOf}

or_itself : (a : Bool) → (a || (a || false)) ≡ a
or_itself true = refl
or_itself false = refl

-- the names that both maps name
pub named_both : named_at object_name subject_name ≡ domain_named
unfolding named_at domain_named
named_both = refl

module _ (place : ℕ) where
  at_itself : (f : Field) → is_at_one (place ∷ place ∷ []) f ≡ is_at place f
  unfolding is_at_one any_of
  at_itself f = or_itself (eqb f.place place)

  pub domains_named : (fs : List Field) → flat_map (named_at place place) fs ≡ domains_at place fs
  unfolding flat_map domains_at fields_at named_at
  domains_named [] = refl
  domains_named (f ∷ fs) = rw (at_itself f) (go (is_at place f) (domains_named fs))
    where
      go : (b : Bool) → flat_map (named_at place place) fs ≡ domains_at place fs
          → cond b (f.value ∷ []) [] ++ flat_map (named_at place place) fs ≡ map (λ g. g.value) (cond b (f ∷ fields_at place fs) (fields_at place fs))
      go true e = ap (λ (l : List (List ℕ)). f.value ∷ l) e
      go false e = e

  pub members_named_lem : (fs : List Field) → flat_map (members_named place) fs ≡ identifiers_at place fs
  unfolding flat_map identifiers_at fields_at members_named
  members_named_lem [] = refl
  members_named_lem (f ∷ fs) = go (is_at place f) (members_named_lem fs)
    where
      go : (b : Bool) → flat_map (members_named place) fs ≡ identifiers_at place fs
          → cond b (elements f.value) [] ++ flat_map (members_named place) fs ≡ flat_map (λ g. elements g.value) (cond b (f ∷ fields_at place fs) (fields_at place fs))
      go true e = ap (λ (l : List (List ℕ)). elements f.value ++ l) e
      go false e = e

  pub members_total : (fs : List Field) → length (flat_map (members_named place) fs) ≡ total (members_at place) fs
  unfolding flat_map total members_named members_at
  members_total [] = refl
  members_total (f ∷ fs) = length-append (members_named place f) (flat_map (members_named place) fs) ∙ go (is_at place f) (members_total fs)
    where
      go : (b : Bool) → length (flat_map (members_named place) fs) ≡ total (members_at place) fs
          → length (cond b (elements f.value) []) + length (flat_map (members_named place) fs) ≡ cond b (length (elements f.value)) 0 + total (members_at place) fs
      go true e = omega arith
      go false e = omega arith

module _ (one other : ℕ) where
  pub domains_total : (fs : List Field) → length (flat_map (named_at one other) fs) ≤ total (one_at one) fs + total (one_at other) fs
  unfolding flat_map total named_at one_at is_at_one any_of
  domains_total [] = omega arith
  domains_total (f ∷ fs) = rw (length-append) (go (eqb f.place one) (eqb f.place other) (domains_total fs))
    where
      go : (a b : Bool) → length (flat_map (named_at one other) fs) ≤ total (one_at one) fs + total (one_at other) fs
          → length (cond (a || (b || false)) (f.value ∷ []) []) + length (flat_map (named_at one other) fs) ≤ cond a 1 0 + total (one_at one) fs + (cond b 1 0 + total (one_at other) fs)
      go true true e = omega arith
      go true false e = omega arith
      go false true e = omega arith
      go false false e = omega arith

  -- one of two places names a part of what both name
  pub first_part : PartOf (named_at one one) (named_at one other)
  unfolding named_at is_at_one any_of
  first_part f = go (eqb f.place one) (eqb f.place other)
    where
      go : (a b : Bool) → (cond (a || (a || false)) (f.value ∷ []) [] ≡ cond (a || (b || false)) (f.value ∷ []) []) ⊎ (cond (a || (a || false)) (f.value ∷ []) [] ≡ [])
      go true b = inl refl
      go false b = inr refl

  pub second_part : PartOf (named_at other other) (named_at one other)
  unfolding named_at is_at_one any_of
  second_part f = go (eqb f.place one) (eqb f.place other)
    where
      go : (a b : Bool) → (cond (b || (b || false)) (f.value ∷ []) [] ≡ cond (a || (b || false)) (f.value ∷ []) []) ⊎ (cond (b || (b || false)) (f.value ∷ []) [] ≡ [])
      go true true = inl refl
      go false true = inl refl
      go a false = inr refl

  -- the same place twice names each field once
  pub domains_one : (fs : List Field) → length (flat_map (named_at one one) fs) ≤ total (one_at one) fs
  unfolding flat_map total named_at one_at is_at_one any_of
  domains_one [] = omega arith
  domains_one (f ∷ fs) = rw (length-append) (go (eqb f.place one) (domains_one fs))
    where
      go : (a : Bool) → length (flat_map (named_at one one) fs) ≤ total (one_at one) fs
          → length (cond (a || (a || false)) (f.value ∷ []) []) + length (flat_map (named_at one one) fs) ≤ cond a 1 0 + total (one_at one) fs
      go true e = omega arith
      go false e = omega arith
