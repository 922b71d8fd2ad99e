-- The words of one field: by its place, over what stands between the brackets of its value.
use mathlib.Core.Path.{◌≡◌, refl, sym, ap, ◌∙◌}
use mathlib.Core.Bool.{true}
use mathlib.Core.List.{List, [], ◌++◌, map}
use Prim.Native.Nat.{ℕ, ◌≤◌}
use native.Mathlib.Omega.{arith}
use lib.ListN.{length, drop, length-map}
use Rattle.paper.specs.Lists.{spaced, elements_in, elements}
use Rattle.file_fields.specs.Fields.{value_of, field_of, well_spaced}
use Rattle.file_fields.specs.declared.file.FieldAt.{FieldAt}
use Rattle.file_fields.specs.Values.{inside_of}
use Rattle.file_fields.proofs.Valued.{inside_elements, inside_spaced}
use Rattle.file_words.specs.declared.places.Sought.{Sought}
use Rattle.file_words.specs.declared.places.Sought.TheVariants.{Subject, Subjects, Objects, Elements, Nothing}
use Rattle.file_words.specs.Looking.{sought_at}
use Rattle.file_words.specs.Words.{Numbers, element_word_by, word_by, words_by, field_words}

-- as a field's own
module _ (own : List ℕ) (word : List ℕ → ℕ) (s : List ℕ) (e : own ≡ map word (elements_in s)) where
  own_counted : length own ≡ length (elements_in s)
  own_counted = ap length e ∙ length-map (elements_in s) word

  own_room : (n : ℕ) → length own ≤ n → length (elements_in s) ≤ n
  own_room n h = omega (arith, own_counted)

  own_count : (r : ℕ) → r ≡ length (elements_in s) → r ≡ length own
  own_count r h = h ∙ sym own_counted

  own_written : (out rest : List ℕ) → out ≡ map word (elements_in s) ++ rest → out ≡ own ++ rest
  own_written out rest h = h ∙ ap (λ (l : List ℕ). l ++ rest) (sym e)

module _ (t : List ℕ) (f : FieldAt) (v s : List ℕ) (ev : v ≡ value_of t f) (es : s ≡ inside_of v) where
  its_elements : elements (value_of t f) ≡ elements_in s
  its_elements = rw (es, ← ev) (sym (inside_elements v))

  pub its_spacing : well_spaced (field_of t f) ≡ true → spaced 0 s ≡ true
  unfolding well_spaced field_of
  its_spacing h = rw es (inside_spaced v (rw ev h))

  module _ (place : ℕ) (x : Sought) (ep : place ≡ f.place) (ex : x ≡ sought_at place) (k : Numbers) where
    by_place : field_words k (field_of t f) ≡ words_by k x (value_of t f)
    unfolding field_words field_of
    by_place = rw (ex, ep) refl

    module _ (h : x ≡ Subjects) where
      of_subjects : field_words k (field_of t f) ≡ map k.subject (elements_in s)
      unfolding words_by
      of_subjects = by_place ∙ rw (h, its_elements) refl

      pub subjects_room : (n : ℕ) → length (field_words k (field_of t f)) ≤ n → length (elements_in s) ≤ n
      subjects_room = own_room (field_words k (field_of t f)) k.subject s of_subjects

      pub subjects_count : (r : ℕ) → r ≡ length (elements_in s) → r ≡ length (field_words k (field_of t f))
      subjects_count = own_count (field_words k (field_of t f)) k.subject s of_subjects

      pub subjects_written : (out rest : List ℕ) → out ≡ map k.subject (elements_in s) ++ rest → out ≡ field_words k (field_of t f) ++ rest
      subjects_written = own_written (field_words k (field_of t f)) k.subject s of_subjects

    module _ (h : x ≡ Objects) where
      of_objects : field_words k (field_of t f) ≡ map k.object (elements_in s)
      unfolding words_by
      of_objects = by_place ∙ rw (h, its_elements) refl

      pub objects_room : (n : ℕ) → length (field_words k (field_of t f)) ≤ n → length (elements_in s) ≤ n
      objects_room = own_room (field_words k (field_of t f)) k.object s of_objects

      pub objects_count : (r : ℕ) → r ≡ length (elements_in s) → r ≡ length (field_words k (field_of t f))
      objects_count = own_count (field_words k (field_of t f)) k.object s of_objects

      pub objects_written : (out rest : List ℕ) → out ≡ map k.object (elements_in s) ++ rest → out ≡ field_words k (field_of t f) ++ rest
      objects_written = own_written (field_words k (field_of t f)) k.object s of_objects

    module _ (h : x ≡ Elements) where
      of_elements : field_words k (field_of t f) ≡ map k.element (elements_in s)
      unfolding words_by
      of_elements = by_place ∙ rw (h, its_elements) refl

      pub elements_room : (n : ℕ) → length (field_words k (field_of t f)) ≤ n → length (elements_in s) ≤ n
      elements_room = own_room (field_words k (field_of t f)) k.element s of_elements

      pub elements_count : (r : ℕ) → r ≡ length (elements_in s) → r ≡ length (field_words k (field_of t f))
      elements_count = own_count (field_words k (field_of t f)) k.element s of_elements

      pub elements_written : (number : List ℕ → ℕ) (n : ℕ) (subject : List ℕ → ℕ) (out rest : List ℕ) → k.element ≡ element_word_by number n subject
          → out ≡ map (word_by true number n subject) (elements_in s) ++ rest → out ≡ field_words k (field_of t f) ++ rest
      unfolding word_by
      elements_written number n subject out rest e h = own_written (field_words k (field_of t f)) k.element s of_elements out rest (rw e h)

    pub of_subject : x ≡ Subject → field_words k (field_of t f) ≡ []
    unfolding words_by
    of_subject h = by_place ∙ rw h refl

    pub of_nothing : x ≡ Nothing → field_words k (field_of t f) ≡ []
    unfolding words_by
    of_nothing h = by_place ∙ rw h refl

module _ (own : List ℕ) (e : own ≡ []) where
  pub none_counted : 0 ≡ length own
  none_counted = rw e refl

  pub none_written : (out : List ℕ) → out ≡ own ++ drop 0 out
  none_written out = rw e refl
