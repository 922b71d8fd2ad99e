-- Filling twice is filling once: each line of the filled text is written again as it stands.
use mathlib.Core.Path.{◌≡◌, refl, sym, ap, ◌∙◌}
use mathlib.Core.List.{List, [], ◌∷◌, ◌++◌, map, flat_map}
use mathlib.Core.Bool.{true, false, ◌&&◌}
use Prim.Native.Nat.{ℕ}
use lib.ListN.{length, length-map}
use Rattle.paper.specs.Listing.{principal, subject_of_entry, execution_context, can_call, can_return, can_read, can_write, call_context_in, uid_in, gid_in}
use Rattle.paper.specs.Listing.{namespace_in, objects_in, object_context_in}
use Rattle.paper.specs.Page.{Field, fields, page_of}
use Rattle.paper.specs.Entries.{value_at, up_to_next, stretches_from, entries_of, items_of}
use Rattle.paper.specs.Filled.{written_line, value_line, context_text, item_text, access_text, entry_text, filled_text}
use Rattle.laws.proofs.Tests.{both_left, both_right}
use Rattle.laws_page.specs.Right.{in_listing_order}
use Rattle.laws_file.proofs.EachRule.{page_in_order}
use Rattle.laws_filled.specs.Fields.{unwritten, item_fields, entry_fields, written, filled_fields}
use Rattle.laws_filled.proofs.Says.{says, filled_same, value_says, next_says, stretches_say, map_same}
use Rattle.laws_filled.proofs.SamePolicy.{bare_above, item_objects, item_call, item_uid, item_gid, item_namespace, front_values, AccessAgain}
use Rattle.laws_filled.proofs.SamePolicy.{reads_again, writes_again, entries_written}
use Rattle.laws_filled.proofs.FilledPolicy.{all_bare, map_where}
use Rattle.laws_filled.proofs.FilledNames.{next_written}

-- a text in pieces
joined : {A : Type 0} (f : A → List ℕ) (xs : List A) → flat_map f xs ≡ flat_map (λ l. l) (map f xs)
unfolding flat_map
joined f [] = refl
joined f (x ∷ xs) = rw (joined f xs) refl

same_lengths : {A : Type 0} (f : A → List ℕ) (xs ys : List A) → map f xs ≡ map f ys → length xs ≡ length ys
same_lengths f xs ys e = sym (length-map xs f) ∙ ap length e ∙ length-map ys f

-- the text of `can_read` or `can_write` from its value and from the texts of its items
access_from : (a : ℕ) (e d : List Field) → value_at a e ≡ value_at a d → map (item_text a) (items_of a e) ≡ map (item_text a) (items_of a d)
    → access_text a e ≡ access_text a d
unfolding access_text value_line
access_from a e d v i =
    let n : length (items_of a e) ≡ length (items_of a d) = same_lengths (item_text a) (items_of a e) (items_of a d) i in
    rw (v, n, joined (item_text a) (items_of a e), i, joined (item_text a) (items_of a d)) refl

-- ---- lines and starts do not count

context_text_says : (c : ℕ) (fs : List Field) → context_text c (map says fs) ≡ context_text c fs
unfolding context_text value_line
context_text_says c fs =
    rw (
      value_says (call_context_in c) fs,
      value_says (uid_in c) fs,
      value_says (gid_in c) fs,
      value_says (namespace_in c) fs,
    ) refl

item_text_says : (a : ℕ) (i : List Field) → item_text a (map says i) ≡ item_text a i
unfolding item_text value_line
item_text_says a i = rw (value_says (objects_in a) i, context_text_says (object_context_in a) i) refl

items_say : (a : ℕ) (e : List Field) → map (item_text a) (items_of a (map says e)) ≡ map (item_text a) (items_of a e)
unfolding items_of
items_say a e = rw (stretches_say (objects_in a) e) (map_same (map says) (item_text a) (item_text a) (item_text_says a) (stretches_from (objects_in a) e))

access_text_says : (a : ℕ) (e : List Field) → access_text a (map says e) ≡ access_text a e
access_text_says a e = access_from a (map says e) e (value_says a e) (items_say a e)

entry_text_says : (e : List Field) → entry_text (map says e) ≡ entry_text e
unfolding entry_text value_line
entry_text_says e =
    rw (
      value_says subject_of_entry e,
      context_text_says execution_context e,
      value_says can_call e,
      value_says can_return e,
      access_text_says can_read e,
      access_text_says can_write e,
    ) refl

lines_say : (fs : List Field) → flat_map written_line (map says fs) ≡ flat_map written_line fs
unfolding flat_map written_line says unwritten
lines_say [] = refl
lines_say (f ∷ fs) = rw (lines_say fs) refl

pub text_says : (fs : List Field) → filled_text (map says fs) ≡ filled_text fs
unfolding filled_text entries_of
text_says fs =
    rw (
      next_says principal fs,
      lines_say (up_to_next principal fs),
      stretches_say principal fs,
      joined entry_text (map (map says) (stretches_from principal fs)),
      map_same (map says) entry_text entry_text entry_text_says (stretches_from principal fs),
      joined entry_text (stretches_from principal fs),
    ) refl

-- ---- nor do the defaults

item_text_again : (a : ℕ) (i t : List Field) → item_text a (item_fields a i ++ t) ≡ item_text a i
unfolding item_text context_text value_line
item_text_again a i t = rw (item_objects a i t, item_call a i t, item_uid a i t, item_gid a i t, item_namespace a i t) refl

access_text_again : (a : ℕ) (e : List Field) → AccessAgain (item_text a) e a → access_text a (entry_fields e) ≡ access_text a e
access_text_again a e h = access_from a (entry_fields e) e h.value h.items

entry_text_again : (e : List Field) → (bare_above can_read e && bare_above can_write e) ≡ true → entry_text (entry_fields e) ≡ entry_text e
unfolding entry_text context_text value_line
entry_text_again e h =
    let v = front_values e in
    let reads = access_text_again can_read e (reads_again e (item_text can_read) (item_text_again can_read) (both_left (bare_above can_read e) _ h)) in
    let writes = access_text_again can_write e
    (writes_again e (item_text can_write) (item_text_again can_write) (both_right (bare_above can_read e) _ h)) in
    rw (v.subject, v.call_context, v.uid, v.gid, v.namespace, v.call, v.return, reads, writes) refl

text_written : (fs : List Field) → in_listing_order 0 false fs ≡ true → filled_text (written fs) ≡ filled_text fs
unfolding filled_text
text_written fs o =
    rw (
      next_written fs,
      entries_written fs,
      joined entry_text (map entry_fields (entries_of fs)),
      map_where entry_fields entry_text entry_text (λ e. bare_above can_read e && bare_above can_write e) entry_text_again (entries_of fs) (all_bare fs o),
      joined entry_text (entries_of fs),
    ) refl

-- filling twice is filling once
pub filled_twice : (t : List ℕ) (fs : List Field) → page_of t ≡ fields fs → filled_text (filled_fields fs) ≡ filled_text fs
filled_twice t fs page = filled_same filled_text text_says fs ∙ text_written fs (page_in_order t fs page)
