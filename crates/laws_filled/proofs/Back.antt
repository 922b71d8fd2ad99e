-- What is written is read: fields that are right and in the listing's order are the fields of their text, line by line.
use mathlib.Core.Path.{◌≡◌, refl, sym, ap, ◌∙◌}
use mathlib.Core.List.{List, [], ◌∷◌, ◌++◌, flat_map, append-nil, append_assoc}
use mathlib.Core.Bool.{Bool, true, false, cond, not, ◌&&◌, ◌||◌, false≢true}
use mathlib.Core.Logic.{⊎_elim}
use Prim.Native.Nat.{ℕ, suc, ◌+◌, ◌-◌, ◌≤◌}
use native.Mathlib.Omega.{arith}
use lib.Dec.{eqb, leb}
use lib.ListN.{length, length-append}
use lib.Seq.{drop-append_seam}
use borrow.Author.Tests.{eqb-true, ne_eqb, leb-true, le-leb, not-true}
use Rattle.paper.specs.Common.{is_empty, within, all_of, any_of}
use Rattle.paper.specs.Text.{line_feed, carriage_return, space, next_byte, return_before_feed, may_stand, lines_from, with_byte, on_line}
use Rattle.paper.specs.Listing.{row_at, key_at, bare_is_none, no_fault, value_fault}
use Rattle.paper.specs.Page.{Field, fields, fault, State, pass, before_first, is_left_empty, places_for, one_space_and_value}
use Rattle.paper.specs.Page.{field_step, after_key, place_step, unless_empty, line_step, at_end, page_from, page_of}
use Rattle.paper.specs.Filled.{key_line, bare_line, written_line}
use Rattle.laws.specs.Standing.{all_stand}
use Rattle.laws.proofs.Tests.{both_true, both_left, both_right, both_false, either_of, either_left, either_right}
use Rattle.laws.proofs.Counting.{all_of_append, all_of_weaker}
use Rattle.laws_page.specs.Right.{is_right, needs_block, may_follow, in_listing_order}
use Rattle.laws_filled.specs.Clean.{is_plain_byte}
use Rattle.laws_filled.specs.Fields.{text_of, start_of, numbered}
use Rattle.laws_filled.proofs.Text.{text_more}
use Rattle.laws_filled.proofs.LineKeys.{Found, found_block, found_next}
use Rattle.laws_filled.proofs.Plain.{Plain, right_plain}

-- ---- the lines of a text that is made of lines

no_feed : (b : ℕ) → within 0x20 0x7E b ≡ true → eqb b line_feed ≡ false
no_feed b h = let l : 0x20 ≤ b = leb-true 0x20 b (both_left (leb 0x20 b) _ h) in ne_eqb b line_feed (λ (e : b ≡ line_feed). omega arith)

no_return_lem : (b : ℕ) → within 0x20 0x7E b ≡ true → eqb b carriage_return ≡ false
no_return_lem b h = let l : 0x20 ≤ b = leb-true 0x20 b (both_left (leb 0x20 b) _ h) in ne_eqb b carriage_return (λ (e : b ≡ carriage_return). omega arith)

lines_more : (at : ℕ) (l rest : List ℕ) → all_of (within 0x20 0x7E) l ≡ true
    → lines_from at (l ++ (line_feed ∷ rest)) ≡ record { start = at; text = l; ended = true } ∷ lines_from (at + (length l + 1)) rest
unfolding lines_from with_byte on_line return_before_feed all_of
lines_more at [] rest h = refl
lines_more at (b ∷ bs) rest h =
    let q : at + 1 + (length bs + 1) ≡ at + (suc (length bs) + 1) = omega arith in
    let stands : within 0x20 0x7E b ≡ true = both_left (within 0x20 0x7E b) _ h in
    rw (no_return_lem b stands, no_feed b stands, lines_more (at + 1) bs rest (both_right (within 0x20 0x7E b) _ h), q)
    refl

-- what stands behind the key on the line of a field
unfoldable pub behind_key : List ℕ → List ℕ
behind_key v = cond (is_empty v) [] (space ∷ v)

pub line_ends : (f : Field) (rest : List ℕ) → written_line f ++ rest ≡ (key_at f.place ++ behind_key f.value) ++ (line_feed ∷ rest)
unfolding written_line key_line bare_line behind_key
line_ends f rest = go (is_empty f.value)
  where
    go : (t : Bool) → cond t (key_at f.place ++ (line_feed ∷ [])) (key_at f.place ++ (space ∷ (f.value ++ (line_feed ∷ [])))) ++ rest
        ≡ (key_at f.place ++ cond t [] (space ∷ f.value)) ++ (line_feed ∷ rest)
    go true = rw (append-nil (key_at f.place)) (append_assoc (key_at f.place) (line_feed ∷ []) rest)
    go false =
        append_assoc (key_at f.place) (space ∷ (f.value ++ (line_feed ∷ []))) rest
        ∙ ap (λ (l : List ℕ). key_at f.place ++ (space ∷ l)) (append_assoc f.value (line_feed ∷ []) rest)
        ∙ sym (append_assoc (key_at f.place) (space ∷ f.value) (line_feed ∷ rest))

pub line_length : (f : Field) → length (written_line f) ≡ length (key_at f.place ++ behind_key f.value) + 1
line_length f =
    ap length (sym (append-nil (written_line f)) ∙ line_ends f []) ∙ length-append (key_at f.place ++ behind_key f.value) (line_feed ∷ [])

-- ---- a key that may come

-- what is known of it, where it begins a block and where it follows
pub key_known : (place : ℕ) (bare : Bool) (f : Field) (r : List ℕ) (Known : Type 0)
    → ((here : Bool) (ps : List ℕ) → Found place here ps f.place r → Known)
    → may_follow place bare f ≡ true → Known
unfolding may_follow
key_known place bare f r Known known m =
    ⊎_elim
    (λ k. known true (row_at place).block (found_block place f.place r (both_right bare _ k)))
    (λ k. known false (row_at place).next (found_next place f.place r (both_right (not (needs_block place bare)) _ k)))
    (either_of (bare && any_of (eqb f.place) (row_at place).block) _ m)

key_stands : (place : ℕ) (bare : Bool) (f : Field) → may_follow place bare f ≡ true → all_of (within 0x20 0x7E) (key_at f.place) ≡ true
key_stands place bare f m = key_known place bare f [] (all_of (within 0x20 0x7E) (key_at f.place) ≡ true) (λ here ps d. d.stands) m

-- ---- a value behind its key

one_space : (v : List ℕ) → 1 ≤ length v → Plain v → one_space_and_value (space ∷ v) ≡ true
unfolding one_space_and_value
one_space v s p =
    let q : suc (length v) - 1 ≡ suc (length v - 1) = omega arith in
    rw (le-leb 2 (suc (length v)) (omega arith), p.first, q, p.last) refl

pub plain_of : (p : ℕ) (v : List ℕ) → 1 ≤ length v → (is_empty v || eqb (value_fault (row_at p).value v) no_fault) ≡ true
    → (value_fault (row_at p).value v ≡ no_fault) × Plain v
plain_of p v s r =
    let e : value_fault (row_at p).value v ≡ no_fault = eqb-true _ _ (rw (ne_eqb (length v) 0 (λ (z : length v ≡ 0). omega arith)) at r) in
    (e, right_plain v (row_at p).value s e)

behind_stands : (p : ℕ) (v : List ℕ) → (is_empty v || eqb (value_fault (row_at p).value v) no_fault) ≡ true
    → all_of (within 0x20 0x7E) (behind_key v) ≡ true
unfolding behind_key all_of
behind_stands p [] r = refl
behind_stands p (b ∷ bs) r =
    rw (ne_eqb (suc (length bs)) 0 (λ (z : suc (length bs) ≡ 0). omega arith)) (plain_of p (b ∷ bs) (omega arith) r).1.stands

-- what a field writes on its line, LF aside
line_bytes : (place : ℕ) (bare : Bool) (f : Field) → may_follow place bare f ≡ true → is_right f ≡ true
    → all_of (within 0x20 0x7E) (key_at f.place ++ behind_key f.value) ≡ true
unfolding is_right
line_bytes place bare f m r =
    all_of_append (within 0x20 0x7E) (key_at f.place) (behind_key f.value) (key_stands place bare f m) (behind_stands f.place f.value r)

-- the lines of a text of fields: that of the first, and the rest
pub text_lines : (place : ℕ) (bare : Bool) (at : ℕ) (f : Field) (fs : List Field) → may_follow place bare f ≡ true → is_right f ≡ true
    → lines_from at (flat_map written_line (f ∷ fs))
    ≡ record { start = at; text = key_at f.place ++ behind_key f.value; ended = true }
    ∷ lines_from (at + length (written_line f)) (flat_map written_line fs)
text_lines place bare at f fs m r =
    rw (text_more f fs, line_ends f (flat_map written_line fs), line_length f)
    (lines_more at (key_at f.place ++ behind_key f.value) (flat_map written_line fs) (line_bytes place bare f m r))

field_step_lem : (n p from : ℕ) (v : List ℕ) → (is_empty v || eqb (value_fault (row_at p).value v) no_fault) ≡ true
    → after_key n p from (behind_key v)
    ≡ pass (record { place = p; bare = is_empty v; line = n }) (record { line = n; place = p; start = from + cond (is_empty v) 0 1; value = v } ∷ [])
unfolding after_key field_step behind_key
field_step_lem n p from [] r = let q : from + 0 ≡ from = omega arith in rw q refl
field_step_lem n p from (b ∷ bs) r =
    let d = plain_of p (b ∷ bs) (omega arith) r in
    rw (
      ne_eqb (suc (length bs)) 0 (λ (z : suc (length bs) ≡ 0). omega arith),
      ne_eqb (suc (suc (length bs))) 0 (λ (z : suc (suc (length bs)) ≡ 0). omega arith),
      one_space (b ∷ bs) (omega arith) d.1,
      d.0,
    )
    refl

-- ---- the line of a field after a state

line_step_lem : (st : State) (n at p : ℕ) (r : List ℕ) (here : Bool) (ps : List ℕ) → Found st.place here ps p r → is_left_empty st here ≡ false
    → places_for st (key_at p ++ r) ≡ ps
    → line_step st n (record { start = at; text = key_at p ++ r; ended = true }) ≡ after_key n p (at + length (key_at p)) r
unfolding line_step unless_empty place_step
line_step_lem st n at p r here ps d w q = rw (d.counts, d.block, w, q, d.found, d.somewhere, drop-append_seam (key_at p) r) refl

module _ (st : State) (n at : ℕ) (f : Field) (r : List ℕ) where
  -- where it begins the block of the field above
  in_block : st.bare ≡ true → any_of (eqb f.place) (row_at st.place).block ≡ true
      → line_step st n (record { start = at; text = key_at f.place ++ r; ended = true }) ≡ after_key n f.place (at + length (key_at f.place)) r
  unfolding is_left_empty places_for
  in_block b a =
      let d = found_block st.place f.place r a in
      line_step_lem st n at f.place r true (row_at st.place).block d
      (both_false (st.bare && not (bare_is_none (row_at st.place).value)) (not true) refl) (rw (b, d.block) refl)

  -- where it follows that field
  behind_it : needs_block st.place st.bare ≡ false → any_of (eqb f.place) (row_at st.place).next ≡ true
      → line_step st n (record { start = at; text = key_at f.place ++ r; ended = true }) ≡ after_key n f.place (at + length (key_at f.place)) r
  unfolding is_left_empty places_for needs_block
  behind_it b a =
      let d = found_next st.place f.place r a in
      line_step_lem st n at f.place r false (row_at st.place).next d (rw b refl) (rw (d.block, both_false st.bare false refl) refl)

  step_on : may_follow st.place st.bare f ≡ true
      → line_step st n (record { start = at; text = key_at f.place ++ r; ended = true }) ≡ after_key n f.place (at + length (key_at f.place)) r
  unfolding may_follow
  step_on m =
      ⊎_elim
      (λ k. in_block (both_left st.bare _ k) (both_right st.bare _ k))
      (λ k. behind_it (not-true _ (both_left (not (needs_block st.place st.bare)) _ k))
      (both_right (not (needs_block st.place st.bare)) _ k))
      (either_of (st.bare && any_of (eqb f.place) (row_at st.place).block) _ m)

-- ---- all of them

-- after the last
ends_here : (st : State) (n : ℕ) → in_listing_order st.place st.bare [] ≡ true → at_end st n ≡ fields []
unfolding in_listing_order at_end is_left_empty needs_block
ends_here st n h = go (st.bare && not (bare_is_none (row_at st.place).value)) (row_at st.place).last h
  where
    go : (a b : Bool) → (not a && b) ≡ true → cond (a && not false) (fault 9 st.line) (cond b (fields []) (fault 4 n)) ≡ fields []
    go true b k = absurd (false≢true k)
    go false true k = refl
    go false false k = absurd (false≢true k)

pub text_none : (at : ℕ) → lines_from at (flat_map written_line []) ≡ []
unfolding flat_map lines_from
text_none at = refl

pub reads_back : (st : State) (n at : ℕ) (fs : List Field) → in_listing_order st.place st.bare fs ≡ true → all_of is_right fs ≡ true
    → page_from st n (lines_from at (flat_map written_line fs)) ≡ fields (numbered n at fs)
unfolding page_from numbered start_of in_listing_order all_of is_right
reads_back st n at [] h r = rw text_none (ends_here st n h)
reads_back st n at (f ∷ fs) h r =
    let m : may_follow st.place st.bare f ≡ true = both_left (may_follow st.place st.bare f) _ h in
    let one : is_right f ≡ true = both_left (is_right f) _ r in
    let step = step_on st n at f (behind_key f.value) m ∙ field_step_lem n f.place (at + length (key_at f.place)) f.value one in
    let rest = reads_back (record { place = f.place; bare = is_empty f.value; line = n }) (n + 1) (at + length (written_line f)) fs
    (both_right (may_follow st.place st.bare f) _ h) (both_right (is_right f) _ r) in
    rw (text_lines st.place st.bare at f fs m one, step, rest) refl

-- the fields of a text that is written from its first line on
pub written_read : (fs : List Field) → in_listing_order 0 false fs ≡ true → all_of is_right fs ≡ true → page_of (text_of fs) ≡ fields (numbered 1 0 fs)
unfolding page_of text_of before_first
written_read fs h r = reads_back before_first 1 0 fs h r

-- ---- every byte of the text is LF or one that may stand anywhere

line_stands : (place : ℕ) (bare : Bool) (f : Field) → may_follow place bare f ≡ true → is_right f ≡ true → all_of is_plain_byte (written_line f) ≡ true
unfolding is_plain_byte all_of
line_stands place bare f m r =
    rw (sym (append-nil (written_line f)) ∙ line_ends f [])
    (all_of_append is_plain_byte (key_at f.place ++ behind_key f.value) (line_feed ∷ [])
    (all_of_weaker (within 0x20 0x7E) is_plain_byte (λ b h. either_right (eqb b line_feed) _ h) (key_at f.place ++ behind_key f.value)
    (line_bytes place bare f m r))
    refl)

pub text_stands : (place : ℕ) (bare : Bool) (fs : List Field) → in_listing_order place bare fs ≡ true → all_of is_right fs ≡ true
    → all_of is_plain_byte (text_of fs) ≡ true
unfolding text_of in_listing_order all_of flat_map
text_stands place bare [] h r = refl
text_stands place bare (f ∷ fs) h r =
    all_of_append is_plain_byte (written_line f) (flat_map written_line fs)
    (line_stands place bare f (both_left (may_follow place bare f) _ h) (both_left (is_right f) _ r))
    (text_stands f.place (is_empty f.value) fs (both_right (may_follow place bare f) _ h) (both_right (is_right f) _ r))

plain_stands : (b next : ℕ) → is_plain_byte b ≡ true → may_stand b next ≡ true
unfolding is_plain_byte may_stand
plain_stands b next h = either_left (eqb b line_feed || within 0x20 0x7E b) _ h

-- and so all of them stand
pub plain_all_stand : (t : List ℕ) → all_of is_plain_byte t ≡ true → all_stand t ≡ true
unfolding all_of all_stand
plain_all_stand [] h = refl
plain_all_stand (b ∷ bs) h =
    both_true (may_stand b (next_byte bs)) _ (plain_stands b (next_byte bs) (both_left (is_plain_byte b) _ h))
    (plain_all_stand bs (both_right (is_plain_byte b) _ h))
