-- What is looked up at a place, test by test.
use mathlib.Core.Path.{◌≡◌, refl, sym, ap}
use mathlib.Core.Bool.{Bool, true, false, ◌||◌}
use mathlib.Core.List.{[], ◌∷◌}
use Prim.Native.Nat.{ℕ}
use lib.Dec.{eqb}
use borrow.Author.Tests.{eq-eqb, ne_eqb}
use Rattle.paper.specs.Common.{any_of}
use Rattle.paper.specs.Entries.{call_contexts}
use Rattle.paper.specs.Rules.{subject_lists, object_lists}
use Rattle.file_words.specs.Looking.{sought_at}
use Rattle.file_words.specs.declared.places.Sought.TheVariants.{Subject, Subjects, Objects, Elements, Nothing}

module _ (place : ℕ) where
  pub either : (one other : ℕ) → (eqb place one || eqb place other) ≡ any_of (eqb place) (one ∷ other ∷ [])
  unfolding any_of
  either one other = ap (λ (b : Bool). eqb place one || b) (go (eqb place other))
    where
      go : (b : Bool) → b ≡ (b || false)
      go true = refl
      go false = refl

  pub seeks_subject : place ≡ 9 → Subject ≡ sought_at place
  unfolding sought_at
  seeks_subject h = rw (eq-eqb place 9 h) refl

  module _ (h : place ≡ 9 → ⊥) (a : Bool) (e : a ≡ any_of (eqb place) (15 ∷ 16 ∷ [])) where
    lists_subjects : any_of (eqb place) subject_lists ≡ a
    unfolding subject_lists
    lists_subjects = sym e

    pub seeks_subjects : a ≡ true → Subjects ≡ sought_at place
    unfolding sought_at
    seeks_subjects k = rw (ne_eqb place 9 h, lists_subjects, k) refl

    module _ (k : a ≡ false) (b : Bool) (f : b ≡ any_of (eqb place) (18 ∷ 25 ∷ [])) where
      lists_objects : any_of (eqb place) object_lists ≡ b
      unfolding object_lists
      lists_objects = sym f

      pub seeks_objects : b ≡ true → Objects ≡ sought_at place
      unfolding sought_at
      seeks_objects l = rw (ne_eqb place 9 h, lists_subjects, k, lists_objects, l) refl

      module _ (l : b ≡ false) (d : Bool) (g : d ≡ any_of (eqb place) call_contexts) where
        pub seeks_elements : d ≡ true → Elements ≡ sought_at place
        unfolding sought_at
        seeks_elements m = rw (ne_eqb place 9 h, lists_subjects, k, lists_objects, l, ← g, m) refl

        pub seeks_nothing : d ≡ false → Nothing ≡ sought_at place
        unfolding sought_at
        seeks_nothing m = rw (ne_eqb place 9 h, lists_subjects, k, lists_objects, l, ← g, m) refl
