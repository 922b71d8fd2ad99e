-- Every field of the filled text is right: a value that was written is, `[]` is right where a bare field means it, and so is each default.
use mathlib.Core.Path.{◌≡◌, refl, sym, ◌∙◌}
use mathlib.Core.List.{List, [], ◌∷◌, flat_map}
use mathlib.Core.Bool.{Bool, true, false, cond, not, ◌&&◌, ◌||◌, false≢true}
use Prim.Native.Nat.{ℕ}
use lib.Dec.{eqb}
use borrow.Author.Tests.{eqb-true, eq-eqb}
use Rattle.paper.proofs.Computing.{computing}
use Rattle.paper.specs.Common.{bytes, is_empty, all_of, any_of}
use Rattle.paper.specs.Listing.{row_at, bare_is_none, value_fault, principal, subject_of_entry, execution_context, can_call, can_return, can_read, can_write}
use Rattle.paper.specs.Listing.{call_context_in, uid_in, gid_in, namespace_in, objects_in, object_context_in}
use Rattle.paper.specs.Page.{Field}
use Rattle.paper.specs.Entries.{is_at, default_at, meant, value_at, up_to_next, stretches_from, entries_of, items_of}
use Rattle.laws.proofs.Tests.{both_true, both_left, both_right, either_right}
use Rattle.laws.proofs.Counting.{all_of_weaker, all_of_append, all_of_flat_map}
use Rattle.laws_page.specs.Right.{is_right, in_listing_order}
use Rattle.laws_file.specs.Accepted.{is_filled}
use Rattle.laws_file.proofs.Stretched.{all_of_both, next_all, stretches_all, value_holds}
use Rattle.laws_file.proofs.Ordered.{fields_filled, subjects_said}
use Rattle.laws_filled.specs.Fields.{unwritten, value_field, context_fields, item_fields, access_fields, entry_rest, entry_fields, written}

-- right, and not left empty
unfoldable pub is_sound : Field → Bool
is_sound f = is_right f && is_filled f

-- `[]` is right at a place where a bare field is not refused
unfoldable none_right : ℕ → Bool
none_right p = not (bare_is_none (row_at p).value || not (is_empty (row_at p).block)) || eqb (value_fault (row_at p).value (bytes "[]")) 0

-- so is the default
unfoldable default_right : ℕ → Bool
default_right p = eqb (value_fault (row_at p).value (default_at p)) 0

module _ (p : ℕ) (n : none_right p ≡ true) where
  meant_right : (f : Field) → is_sound f ≡ true → f.place ≡ p → value_fault (row_at p).value (meant f) ≡ 0
  unfolding is_sound is_right is_filled meant none_right
  meant_right f s e =
      go (is_empty f.value) (bare_is_none (row_at p).value) (not (is_empty (row_at p).block))
      (rw e at (both_left (is_right f) _ s))
      (rw e at (both_right (is_right f) (is_filled f) s))
      n
    where
      go : (t none block : Bool) → (t || eqb (value_fault (row_at p).value f.value) 0) ≡ true → (not t || none || block) ≡ true
          → (not (none || block) || eqb (value_fault (row_at p).value (bytes "[]")) 0) ≡ true
          → value_fault (row_at p).value (cond t (bytes "[]") f.value) ≡ 0
      go true true block r w k = eqb-true (value_fault (row_at p).value (bytes "[]")) 0 k
      go true false true r w k = eqb-true (value_fault (row_at p).value (bytes "[]")) 0 k
      go true false false r w k = absurd (false≢true w)
      go false none block r w k = eqb-true (value_fault (row_at p).value f.value) 0 r

  value_right : (fs : List Field) → all_of is_sound fs ≡ true → (any_of (is_at p) fs ≡ false → default_right p ≡ true) → is_right (value_field p fs) ≡ true
  unfolding is_right value_field unwritten default_right
  value_right fs s d =
      either_right (is_empty (value_at p fs)) _
      (eq-eqb _ _ (value_holds p (λ v. value_fault (row_at p).value v ≡ 0) is_sound meant_right fs s (λ k. eqb-true _ _ (d k))))

  -- where the default is right too
  fill_right : (fs : List Field) → default_right p ≡ true → all_of is_sound fs ≡ true → is_right (value_field p fs) ≡ true
  fill_right fs d s = value_right fs s (λ k. d)

bare_right : (p : ℕ) → is_right (unwritten p []) ≡ true
unfolding is_right unwritten
bare_right p = refl

-- ---- the places, computed

-- what may stand there of itself is right: `[]` for a bare field, and the default
unfoldable fills : ℕ → Bool
fills p = none_right p && default_right p

record ContextFills (c : ℕ) : Type 0 where
  call : fills (call_context_in c) ≡ true
  uid : fills (uid_in c) ≡ true
  gid : fills (gid_in c) ≡ true
  namespace : fills (namespace_in c) ≡ true

record AccessFills (a : ℕ) : Type 0 where
  line : fills a ≡ true
  objects : fills (objects_in a) ≡ true
  context : ContextFills (object_context_in a)

execution_fills : ContextFills execution_context
unfolding computing fills none_right default_right
execution_fills = record { call = refl; uid = refl; gid = refl; namespace = refl }

read_fills : AccessFills can_read
unfolding computing fills none_right default_right
read_fills = record { line = refl; objects = refl; context = record { call = refl; uid = refl; gid = refl; namespace = refl } }

write_fills : AccessFills can_write
unfolding computing fills none_right default_right
write_fills = record { line = refl; objects = refl; context = record { call = refl; uid = refl; gid = refl; namespace = refl } }

call_fills : fills can_call ≡ true
unfolding computing fills none_right default_right
call_fills = refl

return_fills : fills can_return ≡ true
unfolding computing fills none_right default_right
return_fills = refl

subject_none : none_right subject_of_entry ≡ true
unfolding computing none_right
subject_none = refl

-- ---- contexts, items and entries

some_right : (f : Field) (fs : List Field) → is_right f ≡ true → all_of is_right fs ≡ true → all_of is_right (f ∷ fs) ≡ true
unfolding all_of
some_right f fs p q = both_true (is_right f) _ p q

none_right_lem : all_of is_right [] ≡ true
unfolding all_of
none_right_lem = refl

fields_fill : (p : ℕ) (e fs : List Field) → fills p ≡ true → all_of is_sound e ≡ true → all_of is_right fs ≡ true
    → all_of is_right (value_field p e ∷ fs) ≡ true
unfolding fills
fields_fill p e fs k s h =
    some_right (value_field p e) fs (fill_right p (both_left (none_right p) _ k) e (both_right (none_right p) _ k) s) h

context_right : (c : ℕ) (e : List Field) → ContextFills c → all_of is_sound e ≡ true → all_of is_right (context_fields c e) ≡ true
unfolding context_fields
context_right c e k s =
    some_right (unwritten c []) _ (bare_right c)
    (fields_fill (call_context_in c) e _ k.call s
    (fields_fill (uid_in c) e _ k.uid s
    (fields_fill (gid_in c) e _ k.gid s (fields_fill (namespace_in c) e [] k.namespace s none_right_lem))))

item_right : (a : ℕ) (item : List Field) → AccessFills a → all_of is_sound item ≡ true → all_of is_right (item_fields a item) ≡ true
unfolding item_fields
item_right a item k s = fields_fill (objects_in a) item _ k.objects s (context_right (object_context_in a) item k.context s)

access_right : (a : ℕ) (e : List Field) → AccessFills a → all_of is_sound e ≡ true → all_of is_right (access_fields a e) ≡ true
unfolding access_fields items_of
access_right a e k s = go (is_empty (stretches_from (objects_in a) e))
  where
    go : (t : Bool) → all_of is_right (cond t (value_field a e ∷ []) (unwritten a [] ∷ flat_map (item_fields a) (stretches_from (objects_in a) e))) ≡ true
    go true = fields_fill a e [] k.line s none_right_lem
    go false =
        some_right (unwritten a []) _ (bare_right a)
        (all_of_flat_map is_right (item_fields a) (stretches_from (objects_in a) e)
        (all_of_weaker (all_of is_sound) (λ item. all_of is_right (item_fields a item)) (λ item h. item_right a item k h) (stretches_from (objects_in a) e)
        (stretches_all (objects_in a) is_sound e s)))

-- an entry whose fields are sound and that says its subject
unfoldable is_sound_entry : List Field → Bool
is_sound_entry e = all_of is_sound e && any_of (is_at subject_of_entry) e

entry_right : (e : List Field) → is_sound_entry e ≡ true → all_of is_right (entry_fields e) ≡ true
unfolding is_sound_entry entry_fields entry_rest
entry_right e h =
    let s : all_of is_sound e ≡ true = both_left (all_of is_sound e) _ h in
    let said : any_of (is_at subject_of_entry) e ≡ true = both_right (all_of is_sound e) _ h in
    some_right (unwritten principal []) _ (bare_right principal)
    (some_right (value_field subject_of_entry e) _ (value_right subject_of_entry subject_none e s (λ k. absurd (false≢true (sym k ∙ said))))
    (all_of_append is_right (context_fields execution_context e) _ (context_right execution_context e execution_fills s)
    (fields_fill can_call e _ call_fills s
    (fields_fill can_return e _ return_fills s
    (all_of_append is_right (access_fields can_read e) (access_fields can_write e) (access_right can_read e read_fills s)
    (access_right can_write e write_fills s))))))

-- with every default written, the fields of a page stay right
pub written_right : (fs : List Field) → in_listing_order 0 false fs ≡ true → all_of is_right fs ≡ true → all_of is_right (written fs) ≡ true
unfolding written is_sound entries_of is_sound_entry
written_right fs o r =
    let sound : all_of is_sound fs ≡ true = all_of_both is_right is_filled fs r (fields_filled 0 false fs o) in
    all_of_append is_right (up_to_next principal fs) (flat_map entry_fields (stretches_from principal fs)) (next_all principal is_right fs r)
    (all_of_flat_map is_right entry_fields (stretches_from principal fs)
    (all_of_weaker is_sound_entry (λ e. all_of is_right (entry_fields e)) entry_right (stretches_from principal fs)
    (all_of_both (all_of is_sound) (λ e. any_of (is_at subject_of_entry) e) (stretches_from principal fs) (stretches_all principal is_sound fs sound)
    (subjects_said 0 false fs o r))))
