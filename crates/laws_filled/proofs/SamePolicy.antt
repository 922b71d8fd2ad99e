-- An entry with every default written means what it meant: each value is found again, and so is each item.
use mathlib.Core.Path.{◌≡◌, refl, sym, ap, ◌∙◌}
use mathlib.Core.List.{List, [], ◌∷◌, ◌++◌, map, flat_map, append-nil, append_assoc}
use mathlib.Core.Bool.{Bool, true, false, cond, ◌||◌}
use Prim.Native.Nat.{ℕ, suc, ◌+◌, ◌<◌, ◌≤◌}
use native.Mathlib.Omega.{arith}
use lib.ListN.{length}
use borrow.Author.Tests.{eqb-true, eq-eqb, ne_eqb}
use Rattle.paper.specs.Common.{bytes, is_empty, is}
use Rattle.paper.specs.Listing.{principal, subject_of_entry, execution_context, can_call, can_return, can_read, can_write, call_context_in, uid_in, gid_in}
use Rattle.paper.specs.Listing.{namespace_in, objects_in, object_context_in}
use Rattle.paper.specs.Page.{Field}
use Rattle.paper.specs.Entries.{meant, value_at, up_to_next, stretches_from, entries_of, items_of}
use Rattle.paper.specs.Policy.{context_of, descriptor_of, access_of, entry_of}
use Rattle.laws.proofs.Tests.{same_equal}
use Rattle.laws_filled.specs.Fields.{unwritten, value_field, context_fields, item_fields, access_fields, entry_rest, entry_fields, written}
use Rattle.laws_filled.proofs.Text.{value_some}
use Rattle.laws_filled.proofs.Past.{none_at, next_past, stretches_past, value_past, none_before, context_none, access_none, rest_none}
use Rattle.laws_filled.proofs.Past.{none_bare, none_value, none_both, none_here, value_here, value_skips, bare_skips}

-- where there are items, the field above them is bare
unfoldable pub bare_above : ℕ → List Field → Bool
bare_above a e = is_empty (items_of a e) || is "[]" (value_at a e)

-- ---- an item

module _ (a : ℕ) (i t : List Field) where
  pub item_objects : value_at (objects_in a) (item_fields a i ++ t) ≡ value_at (objects_in a) i
  unfolding item_fields
  item_objects = value_here (a + 1) i _

  pub item_call : value_at (call_context_in (object_context_in a)) (item_fields a i ++ t) ≡ value_at (call_context_in (object_context_in a)) i
  unfolding item_fields context_fields
  item_call =
      value_skips (a + 2 + 1) (a + 1) i _ (λ (e : a + 1 ≡ a + 2 + 1). omega arith)
      ∙ bare_skips (a + 2 + 1) (a + 2) _ (λ (e : a + 2 ≡ a + 2 + 1). omega arith)
      ∙ value_here (a + 2 + 1) i _

  pub item_uid : value_at (uid_in (object_context_in a)) (item_fields a i ++ t) ≡ value_at (uid_in (object_context_in a)) i
  unfolding item_fields context_fields
  item_uid =
      value_skips (a + 2 + 2) (a + 1) i _ (λ (e : a + 1 ≡ a + 2 + 2). omega arith)
      ∙ bare_skips (a + 2 + 2) (a + 2) _ (λ (e : a + 2 ≡ a + 2 + 2). omega arith)
      ∙ value_skips (a + 2 + 2) (a + 2 + 1) i _ (λ (e : a + 2 + 1 ≡ a + 2 + 2). omega arith)
      ∙ value_here (a + 2 + 2) i _

  -- behind its `uid`
  past_uid : (p : ℕ) → a + 2 + 2 < p → value_at p (item_fields a i ++ t) ≡ value_at p (value_field (a + 2 + 3) i ∷ value_field (a + 2 + 4) i ∷ t)
  unfolding item_fields context_fields
  past_uid p h =
      value_skips p (a + 1) i _ (λ (e : a + 1 ≡ p). omega arith)
      ∙ bare_skips p (a + 2) _ (λ (e : a + 2 ≡ p). omega arith)
      ∙ value_skips p (a + 2 + 1) i _ (λ (e : a + 2 + 1 ≡ p). omega arith)
      ∙ value_skips p (a + 2 + 2) i _ (λ (e : a + 2 + 2 ≡ p). omega arith)

  pub item_gid : value_at (gid_in (object_context_in a)) (item_fields a i ++ t) ≡ value_at (gid_in (object_context_in a)) i
  item_gid = past_uid (a + 2 + 3) (omega arith) ∙ value_here (a + 2 + 3) i _

  pub item_namespace : value_at (namespace_in (object_context_in a)) (item_fields a i ++ t) ≡ value_at (namespace_in (object_context_in a)) i
  item_namespace =
      past_uid (a + 2 + 4) (omega arith)
      ∙ value_skips (a + 2 + 4) (a + 2 + 3) i _ (λ (e : a + 2 + 3 ≡ a + 2 + 4). omega arith)
      ∙ value_here (a + 2 + 4) i t

  item_descriptor : (file : List Field) → descriptor_of file a (item_fields a i ++ t) ≡ descriptor_of file a i
  unfolding descriptor_of context_of
  item_descriptor file = rw (item_objects, item_call, item_uid, item_gid, item_namespace) refl

-- ---- the items of an entry

no_fields : (p : ℕ) → stretches_from p [] ≡ []
unfolding stretches_from
no_fields p = refl

begins_one : (p : ℕ) (f : Field) (xs ys : List Field) → f.place ≡ p → none_at p xs ≡ true
    → stretches_from p (f ∷ (xs ++ ys)) ≡ (f ∷ (xs ++ up_to_next p ys)) ∷ stretches_from p ys
unfolding stretches_from
begins_one p f xs ys e n = rw (eq-eqb f.place p e, next_past p xs ys n, stretches_past p xs ys n) refl

passes_one : (p : ℕ) (f : Field) (fs : List Field) → (f.place ≡ p → ⊥) → stretches_from p (f ∷ fs) ≡ stretches_from p fs
unfolding stretches_from
passes_one p f fs n = rw (ne_eqb f.place p n) refl

pub no_stretches : (p : ℕ) (fs : List Field) → none_at p fs ≡ true → stretches_from p fs ≡ []
no_stretches p fs n = ap (stretches_from p) (sym (append-nil fs)) ∙ stretches_past p fs [] n ∙ no_fields p

first_item : (a : ℕ) (i t : List Field)
    → stretches_from (objects_in a) (item_fields a i ++ t) ≡ (item_fields a i ++ up_to_next (objects_in a) t) ∷ stretches_from (objects_in a) t
unfolding item_fields value_field unwritten
first_item a i t =
    begins_one (a + 1) (unwritten (a + 1) (value_at (a + 1) i)) (context_fields (a + 2) i) t refl
    (context_none (a + 1) (a + 2) i (λ q l u e. omega arith))

passes_value : (p q : ℕ) (e fs : List Field) → (q ≡ p → ⊥) → stretches_from p (value_field q e ∷ fs) ≡ stretches_from p fs
unfolding value_field unwritten
passes_value p q e fs n = passes_one p (unwritten q (value_at q e)) fs n

passes_bare : (p q : ℕ) (fs : List Field) → (q ≡ p → ⊥) → stretches_from p (unwritten q [] ∷ fs) ≡ stretches_from p fs
unfolding unwritten
passes_bare p q fs n = passes_one p (unwritten q []) fs n

bare_place : (p : ℕ) → (unwritten p []).place ≡ p
unfolding unwritten
bare_place p = refl

empty_list : {A : Type 0} (xs : List A) → is_empty xs ≡ true → xs ≡ []
empty_list [] e = refl
empty_list (x ∷ xs) e = absurd (let z : suc (length xs) ≡ 0 = eqb-true (suc (length xs)) 0 e in omega arith)

bare_value : (p : ℕ) (fs : List Field) → value_at p (unwritten p [] ∷ fs) ≡ bytes "[]"
unfolding value_at meant unwritten
bare_value p fs = rw (eq-eqb p p refl) refl

-- whatever is asked of an item that its own fields answer
module _ {B : Type 0} (asked : List Field → B) (a : ℕ) (keeps : (i t : List Field) → asked (item_fields a i ++ t) ≡ asked i) where
  items_again : (is : List (List Field)) (t : List Field) → none_at (objects_in a) t ≡ true
      → map asked (stretches_from (objects_in a) (flat_map (item_fields a) is ++ t)) ≡ map asked is
  unfolding flat_map
  items_again [] t n = ap (map asked) (no_stretches (objects_in a) t n)
  items_again (i ∷ is) t n =
      rw (
        append_assoc (item_fields a i) (flat_map (item_fields a) is) t,
        first_item a i (flat_map (item_fields a) is ++ t),
        keeps i (up_to_next (objects_in a) (flat_map (item_fields a) is ++ t)),
        items_again is t n,
      ) refl

  access_items : (e t : List Field) → none_at (objects_in a) t ≡ true
      → map asked (stretches_from (objects_in a) (access_fields a e ++ t)) ≡ map asked (items_of a e)
  unfolding access_fields
  access_items e t n = go (is_empty (items_of a e)) refl
    where
      past : a ≡ a + 1 → ⊥
      past s = omega arith

      go : (s : Bool) → is_empty (items_of a e) ≡ s
          → map asked (stretches_from (objects_in a) (cond s (value_field a e ∷ []) (unwritten a [] ∷ flat_map (item_fields a) (items_of a e)) ++ t))
          ≡ map asked (items_of a e)
      go true s = ap (map asked) (passes_value (a + 1) a e t past ∙ no_stretches (a + 1) t n ∙ sym (empty_list (items_of a e) s))
      go false s = ap (map asked) (passes_bare (a + 1) a (flat_map (item_fields a) (items_of a e) ++ t) past) ∙ items_again (items_of a e) t n

-- the field above them
access_value : (a : ℕ) (e t : List Field) → bare_above a e ≡ true → value_at a (access_fields a e ++ t) ≡ value_at a e
unfolding access_fields bare_above
access_value a e t b = go (is_empty (items_of a e)) b
  where
    go : (s : Bool) → (s || is "[]" (value_at a e)) ≡ true
        → value_at a (cond s (value_field a e ∷ []) (unwritten a [] ∷ flat_map (item_fields a) (items_of a e)) ++ t) ≡ value_at a e
    go true h = value_here a e t
    go false h = bare_value a (flat_map (item_fields a) (items_of a e) ++ t) ∙ same_equal (bytes "[]") (value_at a e) h

-- ---- an entry

-- what stands before `can_read`
unfoldable entry_front : List Field → List Field
entry_front e =
    unwritten principal [] ∷ value_field subject_of_entry e ∷ (context_fields execution_context e ++ (value_field can_call e ∷ value_field can_return e ∷ []))

entry_parts : (e : List Field) → entry_fields e ≡ entry_front e ++ (access_fields can_read e ++ access_fields can_write e)
unfolding entry_fields entry_rest entry_front context_fields
entry_parts e = refl

-- the values in front
pub record FrontValues (e : List Field) : Type 0 where
  pub subject : value_at subject_of_entry (entry_fields e) ≡ value_at subject_of_entry e
  pub call_context : value_at (call_context_in execution_context) (entry_fields e) ≡ value_at (call_context_in execution_context) e
  pub uid : value_at (uid_in execution_context) (entry_fields e) ≡ value_at (uid_in execution_context) e
  pub gid : value_at (gid_in execution_context) (entry_fields e) ≡ value_at (gid_in execution_context) e
  pub namespace : value_at (namespace_in execution_context) (entry_fields e) ≡ value_at (namespace_in execution_context) e
  pub call : value_at can_call (entry_fields e) ≡ value_at can_call e
  pub return : value_at can_return (entry_fields e) ≡ value_at can_return e

pub front_values : (e : List Field) → FrontValues e
unfolding entry_fields entry_rest context_fields value_field unwritten value_at meant
front_values e = record {
  subject = rw (value_some subject_of_entry e) refl;
  call_context = rw (value_some (call_context_in execution_context) e) refl;
  uid = rw (value_some (uid_in execution_context) e) refl;
  gid = rw (value_some (gid_in execution_context) e) refl;
  namespace = rw (value_some (namespace_in execution_context) e) refl;
  call = rw (value_some can_call e) refl;
  return = rw (value_some can_return e) refl;
}

front_none : (p : ℕ) (e : List Field) → can_read ≤ p → none_at p (entry_front e) ≡ true
unfolding entry_front
front_none p e h =
    none_bare p principal _ (λ (s : principal ≡ p). omega arith)
    (none_value p subject_of_entry e _ (λ (s : subject_of_entry ≡ p). omega arith)
    (none_both p (context_fields execution_context e) _ (context_none p execution_context e (λ q l u s. omega arith))
    (none_value p can_call e _ (λ (s : can_call ≡ p). omega arith)
    (none_value p can_return e [] (λ (s : can_return ≡ p). omega arith) (none_here p)))))

-- the two accesses
pub record AccessAgain {B : Type 0} (asked : List Field → B) (e : List Field) (a : ℕ) : Type 0 where
  pub value : value_at a (entry_fields e) ≡ value_at a e
  pub items : map asked (items_of a (entry_fields e)) ≡ map asked (items_of a e)

module _ {B : Type 0} (e : List Field) where
  pub reads_again : (asked : List Field → B) → ((i t : List Field) → asked (item_fields can_read i ++ t) ≡ asked i) → bare_above can_read e ≡ true
      → AccessAgain asked e can_read
  unfolding items_of
  reads_again asked keeps b = record {
    value = rw (entry_parts e)
        (value_past can_read (entry_front e) _ (front_none can_read e (omega arith)) ∙ access_value can_read e (access_fields can_write e) b);
    items = rw (entry_parts e)
        (ap (map asked) (stretches_past (objects_in can_read) (entry_front e) _ (front_none (objects_in can_read) e (omega arith)))
        ∙ access_items asked can_read keeps e (access_fields can_write e) (access_none (objects_in can_read) can_write e (λ q l u s. omega arith)));
  }

  pub writes_again : (asked : List Field → B) → ((i t : List Field) → asked (item_fields can_write i ++ t) ≡ asked i) → bare_above can_write e ≡ true
      → AccessAgain asked e can_write
  unfolding items_of
  writes_again asked keeps b = record {
    value = rw (entry_parts e)
        (value_past can_write (entry_front e) _ (front_none can_write e (omega arith))
        ∙ value_past can_write (access_fields can_read e) (access_fields can_write e) (access_none can_write can_read e (λ q l u s. omega arith))
        ∙ ap (value_at can_write) (sym (append-nil (access_fields can_write e)))
        ∙ access_value can_write e [] b);
    items = rw (entry_parts e)
        (ap (map asked)
        (stretches_past (objects_in can_write) (entry_front e) _ (front_none (objects_in can_write) e (omega arith))
        ∙ stretches_past (objects_in can_write) (access_fields can_read e) (access_fields can_write e)
        (access_none (objects_in can_write) can_read e (λ q l u s. omega arith))
        ∙ ap (stretches_from (objects_in can_write)) (sym (append-nil (access_fields can_write e))))
        ∙ access_items asked can_write keeps e [] (none_here (objects_in can_write)));
  }

module _ (file e : List Field) where
  access_same : (a : ℕ) → AccessAgain (descriptor_of file a) e a → access_of file a (entry_fields e) ≡ access_of file a e
  unfolding access_of
  access_same a h = rw (h.value, h.items) refl

  -- the entry itself
  pub entry_same : bare_above can_read e ≡ true → bare_above can_write e ≡ true → entry_of file (entry_fields e) ≡ entry_of file e
  unfolding entry_of context_of
  entry_same r w =
      let v = front_values e in
      let reads = access_same can_read (reads_again e (descriptor_of file can_read) (λ i t. item_descriptor can_read i t file) r) in
      let writes = access_same can_write (writes_again e (descriptor_of file can_write) (λ i t. item_descriptor can_write i t file) w) in
      rw (v.subject, v.call_context, v.uid, v.gid, v.namespace, v.call, v.return, reads, writes) refl

-- ---- the entries of the file

pub next_none : (es : List (List Field)) → up_to_next principal (flat_map entry_fields es) ≡ []
unfolding flat_map entry_fields up_to_next unwritten
next_none [] = refl
next_none (e ∷ es) = refl

entries_again : (es : List (List Field)) → stretches_from principal (flat_map entry_fields es) ≡ map entry_fields es
unfolding flat_map entry_fields
entries_again [] = no_fields principal
entries_again (e ∷ es) =
    begins_one principal (unwritten principal []) (entry_rest e) (flat_map entry_fields es) (bare_place principal)
    (rest_none principal e (λ q l s. omega arith))
    ∙ rw (next_none es, append-nil (entry_rest e), entries_again es) refl

pub entries_written : (fs : List Field) → entries_of (written fs) ≡ map entry_fields (entries_of fs)
unfolding entries_of written
entries_written fs =
    stretches_past principal (up_to_next principal fs) (flat_map entry_fields (stretches_from principal fs)) (none_before principal fs)
    ∙ entries_again (stretches_from principal fs)
