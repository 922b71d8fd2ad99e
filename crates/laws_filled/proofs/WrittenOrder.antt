-- The fields of the filled text stand in the listing's order: each may come behind the one before it, by computing the rows.
use mathlib.Core.Path.{◌≡◌, refl, sym}
use mathlib.Core.List.{List, [], ◌∷◌, ◌++◌, flat_map, append_assoc}
use mathlib.Core.Bool.{Bool, true, false, cond, false≢true}
use Prim.Native.Nat.{ℕ}
use borrow.Author.Tests.{eqb-true}
use Rattle.paper.specs.Common.{is_empty, any_of}
use Rattle.paper.specs.Listing.{listing, row_at, bare_is_none, principal, subject_of_entry, execution_context, can_call, can_return, can_read, can_write}
use Rattle.paper.specs.Listing.{call_context_in, uid_in, gid_in, namespace_in, objects_in, object_context_in}
use Rattle.paper.specs.Page.{Field}
use Rattle.paper.specs.Entries.{is_at, up_to_next, stretches_from, entries_of, items_of}
use Rattle.laws.proofs.Tests.{both_true, both_left, both_right}
use Rattle.laws_page.specs.Right.{needs_block, may_follow, in_listing_order}
use Rattle.laws_filled.specs.Fields.{unwritten, value_field, context_fields, item_fields, access_fields, entry_rest, entry_fields, written}
use Rattle.laws_filled.proofs.Text.{value_some}

-- a field of place p may come behind a field of place q
unfoldable may_come : ℕ → Bool → ℕ → Bool
may_come q bare p = may_follow q bare (unwritten p [])

module _ (q : ℕ) (bare : Bool) (p : ℕ) (t : List Field) (m : may_come q bare p ≡ true) where
  value_comes : (e : List Field) → in_listing_order p false t ≡ true → in_listing_order q bare (value_field p e ∷ t) ≡ true
  unfolding in_listing_order may_come may_follow value_field unwritten
  value_comes e h = rw (value_some p e) (both_true _ (in_listing_order p false t) m h)

  bare_comes : in_listing_order p true t ≡ true → in_listing_order q bare (unwritten p [] ∷ t) ≡ true
  unfolding in_listing_order may_come may_follow unwritten
  bare_comes h = both_true _ (in_listing_order p true t) m h

-- the keys of a context
record ContextOrder (c : ℕ) : Type 0 where
  call : may_come c true (call_context_in c) ≡ true
  uid : may_come (call_context_in c) false (uid_in c) ≡ true
  gid : may_come (uid_in c) false (gid_in c) ≡ true
  namespace : may_come (gid_in c) false (namespace_in c) ≡ true

module _ (c : ℕ) (o : ContextOrder c) where
  context_comes : (q : ℕ) (bare : Bool) (e t : List Field) → may_come q bare c ≡ true → in_listing_order (namespace_in c) false t ≡ true
      → in_listing_order q bare (context_fields c e ++ t) ≡ true
  unfolding context_fields
  context_comes q bare e t m h =
      bare_comes q bare c _ m
      (value_comes c true (call_context_in c) _ o.call e
      (value_comes (call_context_in c) false (uid_in c) _ o.uid e
      (value_comes (uid_in c) false (gid_in c) _ o.gid e (value_comes (gid_in c) false (namespace_in c) t o.namespace e h))))

-- an item of `can_read` or `can_write`
record AccessOrder (a : ℕ) : Type 0 where
  first : may_come a true (objects_in a) ≡ true
  inner : may_come (objects_in a) false (object_context_in a) ≡ true
  again : may_come (namespace_in (object_context_in a)) false (objects_in a) ≡ true
  context : ContextOrder (object_context_in a)

module _ (a : ℕ) (o : AccessOrder a) where
  item_comes : (q : ℕ) (bare : Bool) (item t : List Field) → may_come q bare (objects_in a) ≡ true
      → in_listing_order (namespace_in (object_context_in a)) false t ≡ true → in_listing_order q bare (item_fields a item ++ t) ≡ true
  unfolding item_fields
  item_comes q bare item t m h =
      value_comes q bare (objects_in a) _ m item (context_comes (object_context_in a) o.context (objects_in a) false item t o.inner h)

  items_come : (is : List (List Field)) (t : List Field) → in_listing_order (namespace_in (object_context_in a)) false t ≡ true
      → in_listing_order (namespace_in (object_context_in a)) false (flat_map (item_fields a) is ++ t) ≡ true
  unfolding flat_map
  items_come [] t h = h
  items_come (i ∷ is) t h =
      rw (append_assoc (item_fields a i) (flat_map (item_fields a) is) t)
      (item_comes (namespace_in (object_context_in a)) false i (flat_map (item_fields a) is ++ t) o.again (items_come is t h))

  some_come : (is : List (List Field)) (t : List Field) → is_empty is ≡ false → in_listing_order (namespace_in (object_context_in a)) false t ≡ true
      → in_listing_order a true (flat_map (item_fields a) is ++ t) ≡ true
  unfolding flat_map
  some_come [] t s h = absurd (false≢true (sym s))
  some_come (i ∷ is) t s h =
      rw (append_assoc (item_fields a i) (flat_map (item_fields a) is) t)
      (item_comes a true i (flat_map (item_fields a) is ++ t) o.first (items_come is t h))

  access_comes : (q : ℕ) (bare : Bool) (e t : List Field) → may_come q bare a ≡ true → in_listing_order a false t ≡ true
      → in_listing_order (namespace_in (object_context_in a)) false t ≡ true → in_listing_order q bare (access_fields a e ++ t) ≡ true
  unfolding access_fields
  access_comes q bare e t m h k = go (is_empty (items_of a e)) refl
    where
      go : (s : Bool) → is_empty (items_of a e) ≡ s
          → in_listing_order q bare (cond s (value_field a e ∷ []) (unwritten a [] ∷ flat_map (item_fields a) (items_of a e)) ++ t) ≡ true
      go true s = value_comes q bare a t m e h
      go false s = bare_comes q bare a (flat_map (item_fields a) (items_of a e) ++ t) m (some_come (items_of a e) t s k)

-- ---- the rows, computed

execution_order : ContextOrder execution_context
unfolding may_come may_follow needs_block bare_is_none unwritten any_of row_at listing
execution_order = record { call = refl; uid = refl; gid = refl; namespace = refl }

read_order : AccessOrder can_read
unfolding may_come may_follow needs_block bare_is_none unwritten any_of row_at listing
read_order = record { first = refl; inner = refl; again = refl; context = record { call = refl; uid = refl; gid = refl; namespace = refl } }

write_order : AccessOrder can_write
unfolding may_come may_follow needs_block bare_is_none unwritten any_of row_at listing
write_order = record { first = refl; inner = refl; again = refl; context = record { call = refl; uid = refl; gid = refl; namespace = refl } }

-- the places of an entry, from one to the next
record EntryOrder : Type 0 where
  subject : may_come principal true subject_of_entry ≡ true
  context : may_come subject_of_entry false execution_context ≡ true
  call : may_come (namespace_in execution_context) false can_call ≡ true
  return : may_come can_call false can_return ≡ true
  read : may_come can_return false can_read ≡ true
  write : may_come can_read false can_write ≡ true
  write_behind : may_come (namespace_in (object_context_in can_read)) false can_write ≡ true
  again : may_come can_write false principal ≡ true
  again_behind : may_come (namespace_in (object_context_in can_write)) false principal ≡ true
  ends : in_listing_order can_write false [] ≡ true
  ends_behind : in_listing_order (namespace_in (object_context_in can_write)) false [] ≡ true

entry_order : EntryOrder
unfolding may_come may_follow needs_block bare_is_none unwritten any_of row_at listing in_listing_order
entry_order = record {
  subject = refl;
  context = refl;
  call = refl;
  return = refl;
  read = refl;
  write = refl;
  write_behind = refl;
  again = refl;
  again_behind = refl;
  ends = refl;
  ends_behind = refl;
}

-- ---- entries

-- what may stand behind an entry
record Behind (t : List Field) : Type 0 where
  line : in_listing_order can_write false t ≡ true
  items : in_listing_order (namespace_in (object_context_in can_write)) false t ≡ true

write_comes : (q : ℕ) (e t : List Field) → may_come q false can_write ≡ true → Behind t → in_listing_order q false (access_fields can_write e ++ t) ≡ true
write_comes q e t m b = access_comes can_write write_order q false e t m b.line b.items

rest_comes : (e t : List Field) → Behind t → in_listing_order principal true (entry_rest e ++ t) ≡ true
unfolding entry_rest
rest_comes e t b =
    let r : in_listing_order can_return false (access_fields can_read e ++ (access_fields can_write e ++ t)) ≡ true
    = access_comes can_read read_order can_return false e (access_fields can_write e ++ t) entry_order.read
    (write_comes can_read e t entry_order.write b) (write_comes (namespace_in (object_context_in can_read)) e t entry_order.write_behind b) in
    let s = value_comes (namespace_in execution_context) false can_call _ entry_order.call e
    (value_comes can_call false can_return _ entry_order.return e r) in
    let c = context_comes execution_context execution_order subject_of_entry false e _ entry_order.context s in
    value_comes principal true subject_of_entry _ entry_order.subject e
    (rw (
      append_assoc (context_fields execution_context e)
          (value_field can_call e ∷ value_field can_return e ∷ (access_fields can_read e ++ access_fields can_write e)) t,
      append_assoc (access_fields can_read e) (access_fields can_write e) t,
    ) c)

entries_behind : (es : List (List Field)) → Behind (flat_map entry_fields es)
unfolding flat_map entry_fields
entries_behind [] = record { line = entry_order.ends; items = entry_order.ends_behind }
entries_behind (e ∷ es) =
    let r = rest_comes e (flat_map entry_fields es) (entries_behind es) in
    record {
      line = bare_comes can_write false principal (entry_rest e ++ flat_map entry_fields es) entry_order.again r;
      items = bare_comes (namespace_in (object_context_in can_write)) false principal (entry_rest e ++ flat_map entry_fields es) entry_order.again_behind r;
    }

-- ---- the maps, and the entries behind them

flat_none : flat_map entry_fields [] ≡ []
unfolding flat_map
flat_none = refl

-- the first entry stands where the first one stood
first_comes : (place : ℕ) (bare : Bool) (f : Field) (fs e : List Field) (es : List (List Field)) → f.place ≡ principal
    → in_listing_order place bare (f ∷ fs) ≡ true → in_listing_order place bare (flat_map entry_fields (e ∷ es)) ≡ true
unfolding flat_map entry_fields in_listing_order may_follow may_come unwritten
first_comes place bare f fs e es p h =
    both_true _ (in_listing_order principal true (entry_rest e ++ flat_map entry_fields es))
    (rw p at (both_left (may_follow place bare f) _ h))
    (rest_comes e (flat_map entry_fields es) (entries_behind es))

-- a field before it stays
stays : (place : ℕ) (bare : Bool) (f : Field) (fs gs : List Field) → in_listing_order place bare (f ∷ fs) ≡ true
    → (in_listing_order f.place (is_empty f.value) fs ≡ true → in_listing_order f.place (is_empty f.value) gs ≡ true)
    → in_listing_order place bare (f ∷ gs) ≡ true
unfolding in_listing_order
stays place bare f fs gs h ih =
    both_true (may_follow place bare f) (in_listing_order f.place (is_empty f.value) gs)
    (both_left (may_follow place bare f) _ h)
    (ih (both_right (may_follow place bare f) _ h))

maps_come : (place : ℕ) (bare : Bool) (fs : List Field) → in_listing_order place bare fs ≡ true
    → in_listing_order place bare (up_to_next principal fs ++ flat_map entry_fields (stretches_from principal fs)) ≡ true
unfolding up_to_next stretches_from
maps_come place bare [] h = rw flat_none h
maps_come place bare (f ∷ fs) h = go (is_at principal f) refl (maps_come f.place (is_empty f.value) fs)
  where
    go : (t : Bool) → is_at principal f ≡ t
        → (in_listing_order f.place (is_empty f.value) fs ≡ true
        → in_listing_order f.place (is_empty f.value) (up_to_next principal fs ++ flat_map entry_fields (stretches_from principal fs)) ≡ true)
        → in_listing_order place bare
        (cond t [] (f ∷ up_to_next principal fs)
        ++ flat_map entry_fields (cond t ((f ∷ up_to_next principal fs) ∷ stretches_from principal fs) (stretches_from principal fs))) ≡ true
    go true e ih = first_comes place bare f fs (f ∷ up_to_next principal fs) (stretches_from principal fs) (eqb-true f.place principal e) h
    go false e ih = stays place bare f fs (up_to_next principal fs ++ flat_map entry_fields (stretches_from principal fs)) h ih

-- with every default written, the fields stay in order
pub written_order : (place : ℕ) (bare : Bool) (fs : List Field) → in_listing_order place bare fs ≡ true → in_listing_order place bare (written fs) ≡ true
unfolding written entries_of
written_order place bare fs h = maps_come place bare fs h
