-- Every word of a text's list is a line or a place that a text of at most 65,536 bytes can have: a name has bytes, so it starts before the text's end.
use mathlib.Core.Path.{◌≡◌, refl, ap, ◌∙◌}
use mathlib.Core.Bool.{Bool, true, false, cond, not, ◌||◌, false≢true}
use mathlib.Core.Logic.{⊎_elim}
use mathlib.Core.List.{List, [], ◌∷◌}
use Prim.Native.Nat.{ℕ, ◌+◌, ◌-◌, ◌≤◌}
use native.Mathlib.Omega.{arith}
use lib.Dec.{eqb, leb}
use lib.ListN.{length, get_or, take, drop, length-append, length-take, length-drop}
use borrow.Author.Tests.{eqb-true, eqb-false, le-leb, leb-true}
use Rattle.std.specs.Prelude.{Result, Ok}
use Rattle.paper.specs.declared.Fault.{Fault}
use Rattle.paper.specs.Common.{is_empty, all_of, any_of}
use Rattle.paper.specs.Limits.{text_bytes}
use Rattle.paper.specs.Text.{lines, close_bracket}
use Rattle.paper.specs.Lists.{bracketed, inside, spaced, elements_in, elements}
use Rattle.paper.specs.Listing.{object_name, object_members, subject_name, subject_members, principal, subject_of_entry, listing, row_at, bare_is_none, value_fault}
use Rattle.paper.specs.Page.{Field, no_field, fields, before_first, page_of}
use Rattle.paper.specs.Promises.{text_page}
use Rattle.laws.proofs.Tests.{both_true, both_left, both_right, either_of, same_equal}
use Rattle.laws.proofs.Counting.{all_of_append}
use Rattle.laws_page.specs.Right.{is_right, stands, needs_block, may_follow, in_listing_order}
use Rattle.laws_page.proofs.Right.{fields_right, fields_in_order, fields_stand}
use Rattle.laws_page.proofs.ListText.{text_of, text_behind, list_text}
use Rattle.laws_file.specs.Accepted.{is_filled}
use Rattle.laws_file.proofs.Ordered.{fields_filled}
use Rattle.file_fields.specs.Fields.{list_spaced, well_spaced, between}
use Rattle.file_fields.specs.Listed.{found_in}
use Rattle.file_fields.specs.declared.file.FieldAt.{FieldAt}
use Rattle.file_read.specs.Readable.{is_low, Readable}
use Rattle.file_read.proofs.Pages.{text_readable, text_page_lem, text_short}
use Rattle.file_things.specs.Things.{thing, name_thing, element_things, each_thing, naming_at, things_as, things_in, things_of}
use Rattle.file_things.specs.Writable.{is_small, AllSmall}
use Rattle.file_things.proofs.Words.{by_tests}

-- ---- a thing

thing_small : (kind line start size : ℕ) → kind ≤ text_bytes → line ≤ text_bytes → start ≤ text_bytes → size ≤ text_bytes → AllSmall (thing kind line start size)
unfolding thing all_of is_small
thing_small kind line start size a b d e =
    both_true _ _ (le-leb kind text_bytes a)
    (both_true _ _ (le-leb line text_bytes b) (both_true _ _ (le-leb start text_bytes d) (both_true _ _ (le-leb size text_bytes e) refl)))

module _ (kind line : ℕ) (a : kind ≤ text_bytes) (b : line ≤ text_bytes) where
  -- elements behind one that ends at a place
  behind_small : (end : ℕ) (es : List (List ℕ)) → end + length (text_behind es) ≤ text_bytes → AllSmall (element_things kind line (end + 2) es)
  unfolding element_things text_behind all_of
  behind_small end [] h = refl
  behind_small end (e ∷ es) h =
      all_of_append is_small (thing kind line (end + 2) (length e)) (element_things kind line (end + 2 + length e + 2) es)
      (thing_small kind line (end + 2) (length e) a b (omega (arith, length-append e (text_behind es))) (omega (arith, length-append e (text_behind es))))
      (behind_small (end + 2 + length e) es (omega (arith, length-append e (text_behind es))))

  elements_small : (start : ℕ) (es : List (List ℕ)) → start + length (text_of es) ≤ text_bytes → AllSmall (element_things kind line start es)
  unfolding element_things text_of all_of
  elements_small start [] h = refl
  elements_small start (e ∷ es) h =
      all_of_append is_small (thing kind line start (length e)) (element_things kind line (start + length e + 2) es)
      (thing_small kind line start (length e) a b (omega (arith, length-append e (text_behind es))) (omega (arith, length-append e (text_behind es))))
      (behind_small (start + length e) es (omega (arith, length-append e (text_behind es))))

-- ---- a field

-- a value that is a stretch of the text ends within it
within : (t : List ℕ) (f : Field) → stands t f ≡ true → length f.value ≤ length t - f.start
unfolding stands
within t f h =
    let e : f.value ≡ take (length f.value) (drop f.start t) = same_equal f.value (take (length f.value) (drop f.start t)) h in
    omega (arith, ap length e, go (length f.value), length-drop f.start t)
  where
    go : (n : ℕ) → length (take n (drop f.start t)) ≤ length (drop f.start t)
    go n = rw length-take (omega arith)

-- a domain name has bytes
some_bytes : (f : Field) → (e : Bool) → is_empty f.value ≡ e → (not e || false || false) ≡ true → 1 ≤ length f.value
some_bytes f true p h = absurd (false≢true h)
some_bytes f false p h = omega (arith, eqb-false (length f.value) 0 p)

object_bytes : (f : Field) → is_filled f ≡ true → f.place ≡ object_name → 1 ≤ length f.value
unfolding is_filled listing row_at bare_is_none
object_bytes f h e = some_bytes f (is_empty f.value) refl (rw e at h)

subject_bytes : (f : Field) → is_filled f ≡ true → f.place ≡ subject_name → 1 ≤ length f.value
unfolding is_filled listing row_at bare_is_none
subject_bytes f h e = some_bytes f (is_empty f.value) refl (rw e at h)

pub entry_bytes : (f : Field) → is_filled f ≡ true → f.place ≡ subject_of_entry → 1 ≤ length f.value
unfolding is_filled listing row_at bare_is_none
entry_bytes f h e = some_bytes f (is_empty f.value) refl (rw e at h)

-- ---- `principal` is bare

pub principal_bare : (f : Field) → is_right f ≡ true → f.place ≡ principal → is_empty f.value ≡ true
unfolding is_right value_fault listing row_at
principal_bare f r e = ⊎_elim (λ (b : is_empty f.value ≡ true). b) (λ k. absurd (false≢true (rw e at k))) (either_of (is_empty f.value) _ r)

-- and the subject of its entry follows
pub subject_follows : (g : Field) → may_follow principal true g ≡ true → g.place ≡ subject_of_entry
unfolding may_follow needs_block listing row_at bare_is_none any_of
subject_follows g h =
    ⊎_elim
    (λ (b : (eqb g.place subject_of_entry || false) ≡ true).
    ⊎_elim (λ k. eqb-true g.place subject_of_entry k) (λ k. absurd (false≢true k)) (either_of _ false b))
    (λ k. absurd (false≢true k))
    (either_of _ _ h)

-- what is known of a field of a page
record Known (t : List ℕ) (f : Field) : Type 0 where
  filled : is_filled f ≡ true
  right : is_right f ≡ true
  stood : stands t f ≡ true
  spaced : well_spaced f ≡ true
  low : f.line ≤ text_bytes

-- a field with no name, or one that stands in the text
record Named (g : Field) : Type 0 where
  starts : g.start ≤ text_bytes
  sized : length g.value ≤ text_bytes

module _ (t : List ℕ) (l : length t ≤ text_bytes) where
  named : (g : Field) → stands t g ≡ true → 1 ≤ length g.value → Named g
  named g s h = record { starts = omega (arith, within t g s); sized = omega (arith, within t g s) }

  name_small : (kind : ℕ) (f g : Field) → kind ≤ text_bytes → f.line ≤ text_bytes → Named g → AllSmall (name_thing kind f g)
  unfolding name_thing
  name_small kind f g a b n = thing_small kind f.line g.start (length g.value) a b n.starts n.sized

  each_small : (kind : ℕ) (f : Field) → kind ≤ text_bytes → Known t f → AllSmall (each_thing kind f)
  unfolding each_thing elements element_things well_spaced list_spaced all_of
  each_small kind f a k = go (bracketed f.value) refl k.spaced
    where
      go : (b : Bool) → bracketed f.value ≡ b → (not b || spaced 0 (inside f.value)) ≡ true
          → AllSmall (element_things kind f.line (f.start + 1) (cond b (elements_in (inside f.value)) []))
      go true e s =
          let text = ap length (list_text f.value e s) in
          let es : elements f.value ≡ elements_in (inside f.value) = rw e refl in
          let long : length f.value ≡ 2 + length (text_of (elements_in (inside f.value))) =
          text ∙ rw es (omega (arith, length-append (text_of (elements_in (inside f.value))) (close_bracket ∷ []))) in
          elements_small kind f.line a k.low (f.start + 1) (elements_in (inside f.value)) (omega (arith, long, within t f k.stood))
      go false e s = refl

  -- ---- an entry

  behind_named : (fs : List Field) → in_listing_order principal true fs ≡ true → all_of is_filled fs ≡ true → all_of (stands t) fs ≡ true → Named (get_or fs 0 no_field)
  unfolding in_listing_order all_of
  behind_named [] o a b = record { starts = omega arith; sized = omega arith }
  behind_named (g ∷ gs) o a b =
      let p : g.place ≡ subject_of_entry = subject_follows g (both_left (may_follow principal true g) _ o) in
      named g (both_left (stands t g) _ b) (entry_bytes g (both_left (is_filled g) _ a) p)

  -- ---- the things of a field, and of all fields

  module _ (f : Field) (fs : List Field) (k : Known t f) (o : in_listing_order f.place (is_empty f.value) fs ≡ true)
      (a : all_of is_filled fs ≡ true) (b : all_of (stands t) fs ≡ true) where
    entry_behind : f.place ≡ principal → Named (get_or fs 0 no_field)
    entry_behind p = behind_named fs (rw (p, principal_bare f k.right p) at o) a b

    field_small : AllSmall (things_in f (get_or fs 0 no_field))
    unfolding things_in naming_at all_of
    field_small =
        go (eqb f.place object_name) (eqb f.place object_members) (eqb f.place subject_name) (eqb f.place subject_members) (eqb f.place principal)
        refl refl refl
      where
        go : (u v w x y : Bool) → eqb f.place object_name ≡ u → eqb f.place subject_name ≡ w → eqb f.place principal ≡ y
            → AllSmall (things_as (by_tests u v w x y) f (get_or fs 0 no_field))
        go true v w x y p q r =
            name_small 1 f f (omega arith) k.low (named f k.stood (object_bytes f k.filled (eqb-true f.place object_name p)))
        go false true w x y p q r = each_small 2 f (omega arith) k
        go false false true x y p q r =
            name_small 3 f f (omega arith) k.low (named f k.stood (subject_bytes f k.filled (eqb-true f.place subject_name q)))
        go false false false true y p q r = each_small 4 f (omega arith) k
        go false false false false true p q r =
            name_small 5 f (get_or fs 0 no_field) (omega arith) k.low (entry_behind (eqb-true f.place principal r))
        go false false false false false p q r = refl

  things_small : (place : ℕ) (bare : Bool) (fs : List Field) → in_listing_order place bare fs ≡ true → all_of is_filled fs ≡ true → all_of is_right fs ≡ true
      → all_of (stands t) fs ≡ true → all_of well_spaced fs ≡ true → all_of is_low fs ≡ true → AllSmall (things_of fs)
  unfolding in_listing_order all_of things_of is_low
  things_small place bare [] o a b d e g = refl
  things_small place bare (f ∷ fs) o a b d e g =
      let k : Known t f = record {
        filled = both_left (is_filled f) _ a;
        right = both_left (is_right f) _ b;
        stood = both_left (stands t f) _ d;
        spaced = both_left (well_spaced f) _ e;
        low = leb-true f.line text_bytes (both_left (leb f.line text_bytes) _ g);
      } in
      let rest : in_listing_order f.place (is_empty f.value) fs ≡ true = both_right (may_follow place bare f) _ o in
      all_of_append is_small (things_in f (get_or fs 0 no_field)) (things_of fs)
      (field_small f fs k rest (both_right (is_filled f) _ a) (both_right (stands t f) _ d))
      (things_small f.place (is_empty f.value) fs rest (both_right (is_filled f) _ a) (both_right (is_right f) _ b) (both_right (stands t f) _ d)
      (both_right (well_spaced f) _ e) (both_right (leb f.line text_bytes) _ g))

-- ---- a page

page_small : (t : List ℕ) (fs : List Field) → fields fs ≡ text_page t → AllSmall (things_of fs)
unfolding page_of before_first
page_small t fs h =
    let e : page_of t ≡ fields fs = text_page_lem t fs h in
    let o : in_listing_order 0 false fs ≡ true = fields_in_order before_first 1 (lines t) fs e in
    let r : Readable fs = text_readable t fs h in
    things_small t (text_short t fs h) 0 false fs o (fields_filled 0 false fs o) (fields_right before_first 1 (lines t) fs e)
    (fields_stand t before_first 1 0 fs e) r.spaced r.low

-- of the fields that the walk over a text found
pub found_small : (t : List ℕ) (list : List FieldAt) (r : Result ℕ Fault) → found_in t list r ≡ text_page t → (n : ℕ) → r ≡ Ok n
    → AllSmall (things_of (between t (take n list) 0 (length (take n list))))
found_small t list r e n q = page_small t (between t (take n list) 0 (length (take n list))) (rw q at e)
