-- What fits of a file's fields fits of those of a stretch, and its blocks have their sizes.
use mathlib.Core.Path.{◌≡◌, refl}
use mathlib.Core.Bool.{Bool, true, false, cond, ◌&&◌}
use mathlib.Core.Logic.{◌⊎◌, inl, inr, ⊎_elim}
use mathlib.Core.List.{List}
use Prim.Native.Nat.{ℕ, ◌-◌, ◌≤◌}
use native.Mathlib.Omega.{arith}
use lib.Dec.{eqb, ltb}
use lib.ListN.{length, length-map}
use borrow.Author.Tests.{not-true, ltb-false}
use Rattle.paper.specs.Common.{bytes, is_empty, all_of, any_of, cut, on_piece}
use Rattle.paper.specs.Limits.{most_elements}
use Rattle.paper.specs.Lists.{bracketed, unspaced, elements_in, elements}
use Rattle.paper.specs.Listing.{execution_context, can_read, can_write, call_context_in, object_context_in}
use Rattle.paper.specs.Page.{Field}
use Rattle.paper.specs.Entries.{is_at_one, call_contexts, default_at, meant, value_at}
use Rattle.paper.specs.Rules.{long_pattern}
use Rattle.paper.specs.Policy.{context_of, descriptor_of, entry_of}
use Rattle.paper.specs.Table.{entry_size, descriptor_size, entry_words, descriptor_words}
use Rattle.laws.proofs.Counting.{all_of_counted, counted_all_of}
use Rattle.laws_table.proofs.Entries.{length_entry, length_descriptor}
use Rattle.laws_file.proofs.Stretched.{value_holds}
use Rattle.file_fields.specs.Places.{IsAccess}
use Rattle.file_fields.specs.Fields.{field_at, between}
use Rattle.file_table.specs.Ready.{fits, Ready}
use Rattle.file_fields.specs.declared.file.FieldAt.{FieldAt}

-- ---- the fields between two numbers

between_all : (test : Field → Bool) (t : List ℕ) (list : List FieldAt) (n i j : ℕ) → all_of test (between t list 0 n) ≡ true → i ≤ j → j ≤ n → all_of test (between t list i j) ≡ true
unfolding between
between_all test t list n i j h a b =
    counted_all_of (field_at t list) test i (j - i) (λ m p q. all_of_counted (field_at t list) test 0 (n - 0) h m (omega arith) (omega arith))

-- ---- a pattern has at most 16 elements

short_field : (p : ℕ) → any_of (eqb p) call_contexts ≡ true → (f : Field) → fits f ≡ true → f.place ≡ p → length (elements f.value) ≤ most_elements
unfolding fits long_pattern is_at_one
short_field p listed f h e =
    let s : (any_of (eqb f.place) call_contexts && ltb most_elements (length (elements f.value))) ≡ false = not-true _ h in
    ltb-false most_elements (length (elements f.value)) (rw (e, listed) at s)

no_elements : length (elements (bytes "[]")) ≡ 0
unfolding elements bracketed elements_in
no_elements = refl

one_element : length (elements (bytes "[all]")) ≡ 1
unfolding elements bracketed elements_in cut on_piece unspaced
one_element = refl

short_meant : (p : ℕ) → any_of (eqb p) call_contexts ≡ true → (f : Field) → fits f ≡ true → f.place ≡ p → length (elements (meant f)) ≤ most_elements
unfolding meant
short_meant p listed f h e = go (is_empty f.value)
  where
    go : (b : Bool) → length (elements (cond b (bytes "[]") f.value)) ≤ most_elements
    go true = rw no_elements (omega arith)
    go false = short_field p listed f h e

short_default : (p : ℕ) → any_of (eqb p) call_contexts ≡ true → length (elements (default_at p)) ≤ most_elements
unfolding default_at
short_default p listed = rw (listed, one_element) (omega arith)

short_value : (p : ℕ) → any_of (eqb p) call_contexts ≡ true → (fs : List Field) → all_of fits fs ≡ true → length (elements (value_at p fs)) ≤ most_elements
short_value p listed fs h = value_holds p (λ v. length (elements v) ≤ most_elements) fits (short_meant p listed) fs h (λ e. short_default p listed)

execution_listed : any_of (eqb (call_context_in execution_context)) call_contexts ≡ true
unfolding call_contexts any_of
execution_listed = refl

object_listed : (access : ℕ) → IsAccess access → any_of (eqb (call_context_in (object_context_in access))) call_contexts ≡ true
unfolding call_contexts any_of
object_listed access which = ⊎_elim (λ (e : access ≡ can_read). rw e refl) (λ (e : access ≡ can_write). rw e refl) which

pub reading : (can_read ≡ can_read) ⊎ (can_read ≡ can_write)
reading = inl refl

pub writing : (can_write ≡ can_read) ⊎ (can_write ≡ can_write)
writing = inr refl

-- ---- of a file that is ready

module _ (t : List ℕ) (list : List FieldAt) (n : ℕ) (words starts : List ℕ) (ready : Ready t list n words starts) (i j : ℕ) (a : i ≤ j) (b : j ≤ n) where
  stretch_fits : all_of fits (between t list i j) ≡ true
  stretch_fits = between_all fits t list n i j ready.fit a b

  pub entry_pattern : length (elements (value_at (call_context_in execution_context) (between t list i j))) ≤ most_elements
  entry_pattern = short_value (call_context_in execution_context) execution_listed (between t list i j) stretch_fits

  pub item_pattern : (access : ℕ) → IsAccess access → length (elements (value_at (call_context_in (object_context_in access)) (between t list i j))) ≤ most_elements
  item_pattern access which = short_value (call_context_in (object_context_in access)) (object_listed access which) (between t list i j) stretch_fits

  entry_few : (file : List Field) → length (entry_of file (between t list i j)).context.pattern ≤ most_elements
  unfolding entry_of context_of
  entry_few file = rw length-map entry_pattern

  pub entry_size_lem : (file : List Field) → length (entry_words (entry_of file (between t list i j))) ≡ entry_size
  entry_size_lem file = length_entry (entry_of file (between t list i j)) (entry_few file)

  item_few : (file : List Field) (access : ℕ) → IsAccess access → length (descriptor_of file access (between t list i j)).context.pattern ≤ most_elements
  unfolding descriptor_of context_of
  item_few file access which = rw length-map (item_pattern access which)

  pub item_size : (file : List Field) (access : ℕ) → IsAccess access → length (descriptor_words (descriptor_of file access (between t list i j))) ≡ descriptor_size
  item_size file access which = length_descriptor (descriptor_of file access (between t list i j)) (item_few file access which)
