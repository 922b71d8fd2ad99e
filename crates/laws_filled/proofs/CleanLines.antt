-- The filled text is clean: keys and values end in no space, and each field is a line with a key, so none is skipped.
use mathlib.Core.Path.{◌≡◌, refl, ap, ◌∙◌}
use mathlib.Core.List.{List, [], ◌∷◌, ◌++◌, flat_map, append-nil}
use mathlib.Core.Bool.{Bool, true, false, not, ◌&&◌, ◌||◌, false≢true}
use Prim.Native.Nat.{ℕ, suc, ◌+◌, ◌-◌, ◌≤◌}
use native.Mathlib.Omega.{arith}
use lib.Dec.{eqb}
use lib.ListN.{length, take, length-append}
use lib.Seq.{get_or-append-add}
use borrow.Author.Tests.{ne_eqb}
use Rattle.paper.specs.declared.Filling.TheVariants.{Written}
use Rattle.paper.specs.Common.{is_empty, all_of}
use Rattle.paper.specs.Text.{Line, line_feed, space, lines_from, skipped}
use Rattle.paper.specs.Listing.{listing, row_at, key_at, no_fault, value_fault}
use Rattle.paper.specs.Page.{Field, fields}
use Rattle.paper.specs.Filled.{written_line, filled_text}
use Rattle.paper.specs.Promises.{file_of, fill_answer, fill_leaves}
use Rattle.laws.proofs.Tests.{both_true, both_left, both_right}
use Rattle.laws.proofs.Counting.{all_of_weaker}
use Rattle.laws_page.specs.Right.{is_right, needs_block, may_follow, in_listing_order}
use Rattle.laws_file.proofs.EachRule.{page_right, page_in_order}
use Rattle.laws_file.proofs.Reader.{accepted_page}
use Rattle.laws_filled.specs.Fields.{text_of, written}
use Rattle.laws_filled.specs.Clean.{last_byte, is_plain_byte, Clean}
use Rattle.laws_filled.proofs.Text.{filled_text_lem, text_more}
use Rattle.laws_filled.proofs.Plain.{Plain}
use Rattle.laws_filled.proofs.Back.{behind_key, line_ends, line_length, key_known, plain_of, text_lines, text_none, text_stands}
use Rattle.laws_filled.proofs.WrittenRight.{written_right}
use Rattle.laws_filled.proofs.WrittenOrder.{written_order}
use Rattle.laws_filled.proofs.Filler.{was_filled, left_text}

-- ---- the last byte

last_behind : (xs ys : List ℕ) → 1 ≤ length ys → last_byte (xs ++ ys) ≡ last_byte ys
unfolding last_byte
last_behind xs ys some =
    let at : length (xs ++ ys) - 1 ≡ length xs + (length ys - 1) = omega (arith, length-append xs ys) in
    rw at (get_or-append-add xs ys (length ys - 1) 0)

text_some : (f : Field) (fs : List Field) → 1 ≤ length (flat_map written_line (f ∷ fs))
text_some f fs = rw (text_more f fs) (omega (arith, length-append (written_line f) (flat_map written_line fs), line_length f))

feed_last : last_byte (line_feed ∷ flat_map written_line []) ≡ line_feed
unfolding last_byte flat_map
feed_last = refl

-- a text of fields ends with LF
first_ends : (f : Field) (fs : List Field) → last_byte (flat_map written_line (f ∷ fs)) ≡ last_byte (line_feed ∷ flat_map written_line fs)
first_ends f fs =
    rw (text_more f fs, line_ends f (flat_map written_line fs))
    (last_behind (key_at f.place ++ behind_key f.value) (line_feed ∷ flat_map written_line fs) (omega arith))

text_ends : (f : Field) (fs : List Field) → last_byte (flat_map written_line (f ∷ fs)) ≡ line_feed
text_ends f [] = first_ends f [] ∙ feed_last
text_ends f (g ∷ gs) = first_ends f (g ∷ gs) ∙ last_behind (line_feed ∷ []) (flat_map written_line (g ∷ gs)) (text_some g gs) ∙ text_ends g gs

-- ---- the lines

-- a line that LF ends, that is not skipped, and that ends in no space
unfoldable is_clean : Line → Bool
is_clean l = l.ended && not (skipped l.text) && not (eqb (last_byte l.text) space)

behind_some : (b : ℕ) (bs : List ℕ) → behind_key (b ∷ bs) ≡ space ∷ b ∷ bs
unfolding behind_key
behind_some b bs = rw (ne_eqb (suc (length bs)) 0 (λ (z : suc (length bs) ≡ 0). omega arith)) refl

behind_none : behind_key [] ≡ []
unfolding behind_key
behind_none = refl

plain_last : (v : List ℕ) → Plain v → eqb (last_byte v) space ≡ false
unfolding last_byte
plain_last v p = p.last

-- a key that ends in no space, and behind it a value that is right
trimmed_line : (p : ℕ) (k v : List ℕ) → (is_empty v || eqb (value_fault (row_at p).value v) no_fault) ≡ true → eqb (last_byte k) space ≡ false
    → eqb (last_byte (k ++ behind_key v)) space ≡ false
trimmed_line p k [] r e = rw (behind_none, append-nil k) e
trimmed_line p k (b ∷ bs) r e =
    rw (behind_some b bs, last_behind k (space ∷ b ∷ bs) (omega arith), last_behind (space ∷ []) (b ∷ bs) (omega arith))
    (plain_last (b ∷ bs) (plain_of p (b ∷ bs) (omega arith) r).1)

line_clean : (place : ℕ) (bare : Bool) (at : ℕ) (f : Field) → may_follow place bare f ≡ true → is_right f ≡ true
    → is_clean (record { start = at; text = key_at f.place ++ behind_key f.value; ended = true }) ≡ true
unfolding is_clean is_right
line_clean place bare at f m r =
    key_known place bare f (behind_key f.value) _
    (λ here ps d. both_true (not (skipped (key_at f.place ++ behind_key f.value))) _ (ap not d.counts)
    (ap not (trimmed_line f.place (key_at f.place) f.value r d.ends)))
    m

text_clean : (place : ℕ) (bare : Bool) (at : ℕ) (fs : List Field) → in_listing_order place bare fs ≡ true → all_of is_right fs ≡ true
    → all_of is_clean (lines_from at (flat_map written_line fs)) ≡ true
unfolding in_listing_order all_of
text_clean place bare at [] o r = rw (text_none at) refl
text_clean place bare at (f ∷ fs) o r =
    let m : may_follow place bare f ≡ true = both_left (may_follow place bare f) _ o in
    let one : is_right f ≡ true = both_left (is_right f) _ r in
    rw (text_lines place bare at f fs m one)
    (both_true (is_clean _) _ (line_clean place bare at f m one)
    (text_clean f.place (is_empty f.value) (at + length (written_line f)) fs (both_right (may_follow place bare f) _ o)
    (both_right (is_right f) _ r)))

-- a text may not end before its first line
none_first : in_listing_order 0 false [] ≡ true → ⊥
unfolding in_listing_order needs_block row_at listing
none_first h = false≢true h

clean_of : (t : List ℕ) → 1 ≤ length t → all_of is_plain_byte t ≡ true → last_byte t ≡ line_feed → all_of is_clean (lines_from 0 t) ≡ true → Clean t
unfolding is_clean
clean_of t s p e h = record {
  some = s;
  plain = p;
  feed = e;
  ended =
      all_of_weaker is_clean (λ l. l.ended) (λ l k. both_left l.ended _ (both_left (l.ended && not (skipped l.text)) _ k)) (lines_from 0 t) h;
  counted =
      all_of_weaker is_clean (λ l. not (skipped l.text))
      (λ l k. both_right l.ended _ (both_left (l.ended && not (skipped l.text)) _ k)) (lines_from 0 t) h;
  trimmed =
      all_of_weaker is_clean (λ l. not (eqb (last_byte l.text) space))
      (λ l k. both_right (l.ended && not (skipped l.text)) _ k) (lines_from 0 t) h;
}

-- the text of fields that are right and in the listing's order
fields_clean : (fs : List Field) → in_listing_order 0 false fs ≡ true → all_of is_right fs ≡ true → Clean (text_of fs)
unfolding text_of
fields_clean [] o r = absurd (none_first o)
fields_clean (f ∷ fs) o r = clean_of (flat_map written_line (f ∷ fs)) (text_some f fs) (text_stands 0 false (f ∷ fs) o r) (text_ends f fs) (text_clean 0 false 0 (f ∷ fs) o r)

-- ---- the whole of it

-- the filled text of every text that the reader accepts
pub filled_clean : (t : List ℕ) (fs : List Field) → file_of t ≡ fields fs → Clean (filled_text fs)
filled_clean t fs accepted =
    let page = (accepted_page t fs accepted).0 in
    let o = page_in_order t fs page in
    rw (filled_text_lem fs) (fields_clean (written fs) (written_order 0 false fs o) (written_right fs o (page_right t fs page)))

-- what the filler wrote
pub written_clean : (t out : List ℕ) (size : ℕ) → fill_answer t out ≡ Written size → Clean (take size (fill_leaves t out))
written_clean t out size h = let w = was_filled t out size h in rw (left_text t out size h) (filled_clean t w.fs w.accepted)
