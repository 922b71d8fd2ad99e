-- A value of an entry, and what an omitted one means.
use mathlib.Core.Path.{◌≡◌, refl, ap, ◌∙◌}
use mathlib.Core.Bool.{Bool, true, false, cond}
use mathlib.Core.List.{List}
use Prim.Native.Nat.{ℕ}
use lib.Dec.{eqb}
use Rattle.paper.specs.Common.{bytes, any_of}
use Rattle.paper.specs.Page.{Field}
use Rattle.paper.specs.Entries.{call_contexts, default_at, value_at}
use Rattle.file_fields.specs.Fields.{value_or}
use Rattle.file_fields.proofs.Places.{told_value}

module _ (place : ℕ) (fs : List Field) (b : Bool) (e : b ≡ any_of (eqb place) call_contexts) (v : List ℕ) where
  default_is : default_at place ≡ cond b (bytes "[all]") (bytes "all")
  unfolding default_at
  default_is = rw e refl

  pub pattern_told : b ≡ true → v ≡ value_or (bytes "[all]") (bytes "[]") place fs → v ≡ value_at place fs
  pattern_told h q = told_value place fs (bytes "[all]") v (default_is ∙ ap (λ (x : Bool). cond x (bytes "[all]") (bytes "all")) h) q

  pub all_told : b ≡ false → v ≡ value_or (bytes "all") (bytes "[]") place fs → v ≡ value_at place fs
  all_told h q = told_value place fs (bytes "all") v (default_is ∙ ap (λ (x : Bool). cond x (bytes "[all]") (bytes "all")) h) q
