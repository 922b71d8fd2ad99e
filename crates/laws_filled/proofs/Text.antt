-- The filled text is the text of its fields: definition by definition, since no value in an entry is empty.
use mathlib.Core.Path.{◌≡◌, refl, sym, ap, ◌∙◌}
use mathlib.Core.List.{List, [], ◌∷◌, ◌++◌, flat_map, append-nil}
use mathlib.Core.Bool.{Bool, true, false, cond}
use Prim.Native.Nat.{ℕ}
use lib.Dec.{eqb}
use Rattle.paper.specs.Common.{bytes, is_empty, any_of}
use Rattle.paper.specs.Listing.{principal, subject_of_entry, execution_context, can_call, can_return, can_read, can_write, call_context_in, uid_in, gid_in, namespace_in}
use Rattle.paper.specs.Listing.{objects_in, object_context_in}
use Rattle.paper.specs.Page.{Field}
use Rattle.paper.specs.Entries.{is_at, call_contexts, default_at, meant, value_at, up_to_next, entries_of, items_of}
use Rattle.paper.specs.Filled.{written_line, bare_line, value_line, context_text, item_text, access_text, entry_text, filled_text}
use Rattle.laws.proofs.Counting.{flat_map_append, flat_map_flat_map}
use Rattle.laws_filled.specs.Fields.{unwritten, text_of, value_field, context_fields, item_fields, access_fields, entry_rest, entry_fields, written}

default_some : (place : ℕ) → is_empty (default_at place) ≡ false
unfolding default_at
default_some place = go (any_of (eqb place) call_contexts)
  where
    go : (t : Bool) → is_empty (cond t (bytes "[all]") (bytes "all")) ≡ false
    go true = refl
    go false = refl

meant_some : (f : Field) → is_empty (meant f) ≡ false
unfolding meant
meant_some f = go (is_empty f.value) refl
  where
    go : (t : Bool) → is_empty f.value ≡ t → is_empty (cond t (bytes "[]") f.value) ≡ false
    go true e = refl
    go false e = e

-- what a place of an entry means is never empty
pub value_some : (place : ℕ) (fs : List Field) → is_empty (value_at place fs) ≡ false
unfolding value_at
value_some place [] = default_some place
value_some place (f ∷ fs) = go (is_at place f) (value_some place fs)
  where
    go : (t : Bool) → is_empty (value_at place fs) ≡ false → is_empty (cond t (meant f) (value_at place fs)) ≡ false
    go true h = meant_some f
    go false h = h

value_line_lem : (place : ℕ) (fs : List Field) → written_line (value_field place fs) ≡ value_line place fs
unfolding written_line value_field unwritten value_line
value_line_lem place fs = rw (value_some place fs) refl

bare_line_lem : (place : ℕ) → written_line (unwritten place []) ≡ bare_line place
unfolding written_line unwritten
bare_line_lem place = refl

-- the first line, and the rest
pub text_more : (f : Field) (fs : List Field) → flat_map written_line (f ∷ fs) ≡ written_line f ++ flat_map written_line fs
unfolding flat_map
text_more f fs = refl

value_more : (place : ℕ) (e fs : List Field) → flat_map written_line (value_field place e ∷ fs) ≡ value_line place e ++ flat_map written_line fs
value_more place e fs = text_more (value_field place e) fs ∙ ap (λ (l : List ℕ). l ++ flat_map written_line fs) (value_line_lem place e)

bare_more : (place : ℕ) (fs : List Field) → flat_map written_line (unwritten place [] ∷ fs) ≡ bare_line place ++ flat_map written_line fs
bare_more place fs = text_more (unwritten place []) fs ∙ ap (λ (l : List ℕ). l ++ flat_map written_line fs) (bare_line_lem place)

value_last : (place : ℕ) (e : List Field) → flat_map written_line (value_field place e ∷ []) ≡ value_line place e
unfolding flat_map
value_last place e = value_more place e [] ∙ append-nil (value_line place e)

context_text_lem : (place : ℕ) (fs : List Field) → flat_map written_line (context_fields place fs) ≡ context_text place fs
unfolding context_fields context_text
context_text_lem place fs =
    rw (
      bare_more place _,
      value_more (call_context_in place) fs _,
      value_more (uid_in place) fs _,
      value_more (gid_in place) fs _,
      value_last (namespace_in place) fs,
    ) refl

item_text_lem : (access : ℕ) (item : List Field) → flat_map written_line (item_fields access item) ≡ item_text access item
unfolding item_fields item_text
item_text_lem access item = rw (value_more (objects_in access) item _, context_text_lem (object_context_in access) item) refl

access_many : (access : ℕ) (is : List (List Field))
    → flat_map written_line (unwritten access [] ∷ flat_map (item_fields access) is) ≡ bare_line access ++ flat_map (item_text access) is
access_many access is =
    bare_more access (flat_map (item_fields access) is)
    ∙ ap (λ (t : List ℕ). bare_line access ++ t)
    (sym (flat_map_flat_map written_line (item_fields access) is) ∙ ap (λ (g : List Field → List ℕ). flat_map g is) (λ i. λ item. item_text_lem access item i))

access_text_lem : (access : ℕ) (entry : List Field) → flat_map written_line (access_fields access entry) ≡ access_text access entry
unfolding access_fields access_text
access_text_lem access entry = go (is_empty (items_of access entry))
  where
    go : (t : Bool)
        → flat_map written_line (cond t (value_field access entry ∷ []) (unwritten access [] ∷ flat_map (item_fields access) (items_of access entry)))
        ≡ cond t (value_line access entry) (bare_line access ++ flat_map (item_text access) (items_of access entry))
    go true = value_last access entry
    go false = access_many access (items_of access entry)

rest_text : (entry : List Field)
    → flat_map written_line
    (context_fields execution_context entry
    ++ (value_field can_call entry ∷ value_field can_return entry ∷ (access_fields can_read entry ++ access_fields can_write entry)))
    ≡ context_text execution_context entry
    ++ (value_line can_call entry ++ (value_line can_return entry ++ (access_text can_read entry ++ access_text can_write entry)))
rest_text entry =
    flat_map_append written_line (context_fields execution_context entry) _
    ∙ rw (
      context_text_lem execution_context entry,
      value_more can_call entry _,
      value_more can_return entry _,
      flat_map_append written_line (access_fields can_read entry) (access_fields can_write entry),
      access_text_lem can_read entry,
      access_text_lem can_write entry,
    ) refl

entry_text_lem : (entry : List Field) → flat_map written_line (entry_fields entry) ≡ entry_text entry
unfolding entry_fields entry_rest entry_text
entry_text_lem entry = rw (bare_more principal _, value_more subject_of_entry entry _, rest_text entry) refl

-- the filled text is the text of the fields with every default written
pub filled_text_lem : (fs : List Field) → filled_text fs ≡ text_of (written fs)
unfolding filled_text written text_of
filled_text_lem fs =
    sym (flat_map_append written_line (up_to_next principal fs) (flat_map entry_fields (entries_of fs))
    ∙ ap (λ (t : List ℕ). flat_map written_line (up_to_next principal fs) ++ t)
    (sym (flat_map_flat_map written_line entry_fields (entries_of fs))
    ∙ ap (λ (g : List Field → List ℕ). flat_map g (entries_of fs)) (λ i. λ entry. entry_text_lem entry i)))
