-- The places of an entry: what an omitted field means there, and that numbers behind them fit.
use mathlib.Core.Path.{◌≡◌, refl, sym, ap, subst, ◌∙◌}
use mathlib.Core.Bool.{Bool, true, false, ◌||◌}
use mathlib.Core.Logic.{inl, inr, ⊎_elim}
use mathlib.Core.List.{List}
use Prim.Native.Nat.{ℕ, ◌+◌, ◌≤◌}
use native.Mathlib.Omega.{arith}
use mir.Syntax.{w64}
use mir.Val.{Fits}
use lib.Dec.{eqb}
use Rattle.paper.specs.Common.{bytes, any_of}
use Rattle.paper.specs.Listing.{execution_context, can_call, can_return, can_read, can_write, subject_of_entry, call_context_in, uid_in, gid_in, namespace_in, objects_in, object_context_in}
use Rattle.paper.specs.Page.{Field}
use Rattle.paper.specs.Entries.{call_contexts, default_at, value_at}
use Rattle.file_fields.specs.Fields.{value_or}
use Rattle.file_fields.specs.Places.{IsAccess, IsContext}
use Rattle.file_fields.proofs.Between.{value_or_lem}

or_false : (b : Bool) → (b || false) ≡ b
or_false true = refl
or_false false = refl

pub one_of_three : (p : ℕ) → (eqb p 11 || (eqb p 20 || eqb p 27)) ≡ any_of (eqb p) call_contexts
unfolding any_of call_contexts
one_of_three p = rw (or_false (eqb p 27)) refl

pub call_default : default_at can_call ≡ bytes "all"
unfolding default_at call_contexts any_of
call_default = refl

pub return_default : default_at can_return ≡ bytes "all"
unfolding default_at call_contexts any_of
return_default = refl

pub subject_default : default_at subject_of_entry ≡ bytes "all"
unfolding default_at call_contexts any_of
subject_default = refl

module _ (access : ℕ) (which : IsAccess access) where
  pub access_default : default_at access ≡ bytes "all"
  unfolding default_at call_contexts any_of
  access_default = ⊎_elim (λ (e : access ≡ can_read). rw e refl) (λ (e : access ≡ can_write). rw e refl) which

  pub objects_default : default_at (objects_in access) ≡ bytes "all"
  unfolding default_at call_contexts any_of
  objects_default = ⊎_elim (λ (e : access ≡ can_read). rw e refl) (λ (e : access ≡ can_write). rw e refl) which

  pub is_object_context : IsContext (object_context_in access)
  is_object_context = ⊎_elim (λ (e : access ≡ can_read). inr (inl (ap object_context_in e))) (λ (e : access ≡ can_write). inr (inr (ap object_context_in e))) which

  access_below : access ≤ can_write
  access_below = ⊎_elim (λ (e : access ≡ can_read). omega arith) (λ (e : access ≡ can_write). omega arith) which

  pub objects_fit : Fits w64 (access + 1)
  objects_fit = omega (arith, access_below)

  pub object_context_fits : Fits w64 (access + 2)
  object_context_fits = omega (arith, access_below)

pub reads_are : IsAccess can_read
reads_are = inl refl

pub writes_are : IsAccess can_write
writes_are = inr refl

pub is_execution_context : IsContext execution_context
is_execution_context = inl refl

module _ (place : ℕ) (which : IsContext place) where
  by_context : (P : ℕ → Type 0) → P execution_context → P (object_context_in can_read) → P (object_context_in can_write) → P place
  by_context P a b c = ⊎_elim (λ (e : place ≡ execution_context). subst P (sym e) a)
      (⊎_elim (λ (e : place ≡ object_context_in can_read). subst P (sym e) b) (λ (e : place ≡ object_context_in can_write). subst P (sym e) c)) which

  pub pattern_default : default_at (call_context_in place) ≡ bytes "[all]"
  unfolding default_at call_contexts any_of
  pattern_default = by_context (λ p. default_at (call_context_in p) ≡ bytes "[all]") refl refl refl

  pub uid_default : default_at (uid_in place) ≡ bytes "all"
  unfolding default_at call_contexts any_of
  uid_default = by_context (λ p. default_at (uid_in p) ≡ bytes "all") refl refl refl

  pub gid_default : default_at (gid_in place) ≡ bytes "all"
  unfolding default_at call_contexts any_of
  gid_default = by_context (λ p. default_at (gid_in p) ≡ bytes "all") refl refl refl

  pub namespace_default : default_at (namespace_in place) ≡ bytes "all"
  unfolding default_at call_contexts any_of
  namespace_default = by_context (λ p. default_at (namespace_in p) ≡ bytes "all") refl refl refl

  place_below : place ≤ object_context_in can_write
  place_below = by_context (λ p. p ≤ object_context_in can_write) (omega arith) (omega arith) (omega arith)

  pub pattern_fits : Fits w64 (place + 1)
  pattern_fits = omega (arith, place_below)

  pub uid_fits : Fits w64 (place + 2)
  uid_fits = omega (arith, place_below)

  pub gid_fits : Fits w64 (place + 3)
  gid_fits = omega (arith, place_below)

  pub namespace_fits : Fits w64 (place + 4)
  namespace_fits = omega (arith, place_below)

-- the value at a place, by what it is where it is omitted
pub told_value : (place : ℕ) (fs : List Field) (omitted v : List ℕ) → default_at place ≡ omitted → v ≡ value_or omitted (bytes "[]") place fs → v ≡ value_at place fs
told_value place fs omitted v d e = e ∙ rw (← d) (value_or_lem place fs)
