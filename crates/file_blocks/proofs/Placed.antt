-- The words at a place are those of its value: its next field has them; where there is none, what an omitted field means has them.
use mathlib.Core.Path.{◌≡◌, refl, sym, ap, ◌∙◌}
use mathlib.Core.Bool.{cond}
use mathlib.Core.Logic.{dite, ⊎_elim}
use mathlib.Core.List.{List, [], ◌∷◌, map}
use Prim.Native.Nat.{ℕ, suc, ◌-◌, ◌<◌, ◌≤◌}
use native.Mathlib.Decide.{dec_lt}
use native.Mathlib.Omega.{arith}
use lib.ListN.{length, length-map}
use borrow.Author.Tests.{ne_eqb, lt-ltb, le-ltb, le-leb, lt-leb}
use Rattle.paper.specs.Common.{bytes, is_empty, is, any_of, number_in, same, cut, on_piece}
use Rattle.paper.specs.Limits.{most_elements}
use Rattle.paper.specs.Lists.{bracketed, unspaced, elements_in, elements}
use Rattle.paper.specs.Listing.{object_name, subject_name, execution_context, can_call, can_return, can_read, can_write}
use Rattle.paper.specs.Listing.{call_context_in, objects_in, object_context_in}
use Rattle.paper.specs.Page.{Field}
use Rattle.paper.specs.Entries.{call_contexts, default_at, value_at}
use Rattle.paper.specs.Rules.{subject_lists, object_lists, domains_at}
use Rattle.paper.specs.Policy.{element_of}
use Rattle.paper.specs.Table.{element_word}
use Rattle.file_fields.specs.Fields.{field_of, value_in, field_at, between, next_at}
use Rattle.file_fields.specs.Places.{IsAccess, IsContext}
use Rattle.file_fields.proofs.Between.{next_at_place, value_is_omitted, value_found, value_or_lem}
use Rattle.file_fields.proofs.Places.{pattern_default, call_default, return_default, objects_default}
use Rattle.file_words.specs.Looking.{sought_at}
use Rattle.file_words.specs.declared.places.Sought.TheVariants.{Subjects, Objects, Elements}
use Rattle.file_words.specs.Words.{Numbers, numbers_of, words_by, field_words, words_in, Worded}
use Rattle.file_words.proofs.Worded.{words_of_field}
use Rattle.file_blocks.specs.Written.{pattern_in, context_in, every_in, grant_in, context_by, context_at, grant_by}
use Rattle.file_fields.specs.declared.file.FieldAt.{FieldAt}

-- ---- what is looked up at the places of an entry

seeks_elements : (place : ℕ) → IsContext place → sought_at (call_context_in place) ≡ Elements
unfolding sought_at any_of subject_lists object_lists call_contexts
seeks_elements place which = ⊎_elim (λ (e : place ≡ execution_context). rw e refl)
    (⊎_elim (λ (e : place ≡ object_context_in can_read). rw e refl) (λ (e : place ≡ object_context_in can_write). rw e refl)) which

seeks_callers : sought_at can_call ≡ Subjects
unfolding sought_at any_of subject_lists
seeks_callers = refl

seeks_returners : sought_at can_return ≡ Subjects
unfolding sought_at any_of subject_lists
seeks_returners = refl

seeks_objects : (access : ℕ) → IsAccess access → sought_at (objects_in access) ≡ Objects
unfolding sought_at any_of subject_lists object_lists
seeks_objects access which = ⊎_elim (λ (e : access ≡ can_read). rw e refl) (λ (e : access ≡ can_write). rw e refl) which

-- ---- a bare field means `[]`, which has no elements either, and is not `all`

elements_meant : (v : List ℕ) → elements (cond (is_empty v) (bytes "[]") v) ≡ elements v
unfolding elements elements_in bracketed
elements_meant [] = refl
elements_meant (b ∷ bs) = rw (ne_eqb (suc (length bs)) 0 (λ e. omega arith)) refl

all_meant : (v : List ℕ) → is "all" (cond (is_empty v) (bytes "[]") v) ≡ is "all" v
unfolding same
all_meant [] = refl
all_meant (b ∷ bs) = rw (ne_eqb (suc (length bs)) 0 (λ e. omega arith)) refl

pattern_of_all : (file : List Field) → 0 ∷ [] ≡ map (numbers_of file).element (elements (bytes "[all]"))
unfolding element_of element_word elements elements_in bracketed unspaced cut on_piece same
pattern_of_all file = refl

-- ---- the words at a place, among the fields from one number up to another of the file's n

module _ (t : List ℕ) (list : List FieldAt) (words starts : List ℕ) (n from to : ℕ) (within : to ≤ n)
    (worded : Worded (numbers_of (between t list 0 n)) t list n words starts) where
  -- what numbers names, and the fields
  abbrev numbers : Numbers
  numbers = numbers_of (between t list 0 n)

  abbrev fs : List Field
  fs = between t list from to

  module _ (place : ℕ) where
    -- the next field of the place, and its value
    abbrev next : ℕ
    next = next_at list place from (to - from)

    abbrev v : List ℕ
    v = value_in t list next

    value_none : to ≤ next → value_at place fs ≡ default_at place
    value_none h = sym (value_or_lem place fs) ∙ sym (value_is_omitted t list place from to (default_at place) (bytes "[]") next refl h)

    value_next : next < to → value_at place fs ≡ cond (is_empty v) (bytes "[]") v
    value_next h = sym (value_or_lem place fs) ∙ value_found t list place from to (default_at place) (bytes "[]") next refl h

    elements_next : next < to → elements (value_at place fs) ≡ elements v
    elements_next h = ap elements (value_next h) ∙ elements_meant v

    words_next : next < to → words_in words starts next ≡ words_by numbers (sought_at place) v
    unfolding field_words field_of
    words_next h = words_of_field numbers t list n words starts worded next (omega arith) ∙ rw (next_at_place t list place from to h) refl

    -- a grant
    module _ (number : List ℕ → ℕ) (sought : (s : List ℕ) → words_by numbers (sought_at place) s ≡ map number (elements s))
        (d : default_at place ≡ bytes "all") (count : ℕ) where
      grant_in_lem : grant_in t list words starts place from to count ≡ grant_by number count (value_at place fs)
      unfolding grant_in grant_by every_in same
      grant_in_lem = dite (dec_lt next to)
          (λ (h : next < to). rw (lt-leb to next h, words_next h, sought v, elements_next h, value_next h, all_meant v) refl)
          (λ (h : ¬ (next < to)). rw (le-leb to next (omega arith), value_none (omega arith), d) refl)

  -- a pattern
  module _ (place : ℕ) (which : IsContext place) where
    pattern_in_lem : pattern_in words starts (next (call_context_in place)) to
        ≡ map numbers.element (elements (value_at (call_context_in place) fs))
    unfolding pattern_in words_by
    pattern_in_lem = dite (dec_lt (next (call_context_in place)) to)
        (λ (h : next (call_context_in place) < to).
        rw (lt-ltb (next (call_context_in place)) to h, words_next (call_context_in place) h, seeks_elements place which, elements_next (call_context_in place) h) refl)
        (λ (h : ¬ (next (call_context_in place) < to)).
        rw (le-ltb (next (call_context_in place)) to (omega arith), value_none (call_context_in place) (omega arith), pattern_default place which)
        (pattern_of_all (between t list 0 n)))

    pub pattern_few : length (elements (value_at (call_context_in place) fs)) ≤ most_elements
        → length (pattern_in words starts (next (call_context_in place)) to) ≤ most_elements
    pattern_few few = rw (pattern_in_lem, length-map) few

    pub context_in_lem : context_in t list words starts place from to ≡ context_at numbers.element place fs
    unfolding context_in context_by
    context_in_lem = rw pattern_in_lem refl

  pub calls_in : (count : ℕ) → grant_in t list words starts can_call from to count
      ≡ grant_by (number_in (domains_at subject_name (between t list 0 n))) count (value_at can_call fs)
  unfolding words_by
  calls_in = grant_in_lem can_call numbers.subject (λ s. rw seeks_callers refl) call_default

  pub returns_in_lem : (count : ℕ) → grant_in t list words starts can_return from to count
      ≡ grant_by (number_in (domains_at subject_name (between t list 0 n))) count (value_at can_return fs)
  unfolding words_by
  returns_in_lem = grant_in_lem can_return numbers.subject (λ s. rw seeks_returners refl) return_default

  pub objects_in_lem : (access : ℕ) → IsAccess access → (count : ℕ)
      → grant_in t list words starts (objects_in access) from to count
      ≡ grant_by (number_in (domains_at object_name (between t list 0 n))) count (value_at (objects_in access) fs)
  unfolding words_by
  objects_in_lem access which = grant_in_lem (objects_in access) numbers.object (λ s. rw (seeks_objects access which) refl) (objects_default access which)
