-- The walk over the page: the fields that were listed, and what is left of the page, are the page.
use mathlib.Core.Path.{◌≡◌, refl, sym, ap, ◌∙◌}
use mathlib.Core.List.{List, [], ◌++◌, append_assoc, append-nil}
use Prim.Native.Nat.{ℕ, zero, suc, ◌+◌, ◌-◌, ◌*◌, ◌<◌, ◌≤◌}
use native.Mathlib.Omega.{arith}
use lib.ListN.{length, set, length-set}
use borrow.Author.Tests.{lt-ltb, le-ltb}
use Rattle.paper.specs.Text.{bad_byte_line}
use Rattle.paper.specs.Page as paper
use Rattle.paper.specs.Page.{Outcome, fields, fault, and_fields, before_first, page_of}
use Rattle.paper.specs.Rules.{unless_line}
use Rattle.paper.specs.Promises.{text_page}
use Rattle.text_page.specs.Walk.{Next, at_start, cursor_behind, page_left, page_next, places, Within}
use Rattle.text_page.specs.declared.Cursor.{Cursor}
use Rattle.std.specs.Prelude.{Result, Some, None, Ok, Err}
use Rattle.paper.specs.declared.Fault.{Fault}
use Rattle.text_page.specs.declared.Field.{Field}
use Rattle.file_fields.specs.Fields.{between, bytes_to}
use Rattle.file_fields.specs.Listed.{most_fields, found_in, Holds}
use Rattle.file_fields.proofs.Between.{between_none, between_put, bytes_put, between_front, bytes_front}
use Rattle.file_fields.specs.declared.file.FieldAt.{FieldAt}

and_none : (o : Outcome) → and_fields [] o ≡ o
and_none (fields fs) = refl
and_none (fault k m) = refl

and_more : (fs gs : List paper.Field) (o : Outcome) → and_fields fs (and_fields gs o) ≡ and_fields (fs ++ gs) o
and_more fs gs (fields hs) = ap fields (sym (append_assoc fs gs hs))
and_more fs gs (fault k m) = refl

module _ (t : List ℕ) (list : List FieldAt) (c : Cursor) (e : c ≡ at_start) where
  pub starts : and_fields (between t list 0 0) (page_left t c) ≡ page_of t
  unfolding page_left page_of before_first
  starts = rw (between_none t list 0 0 (omega arith), e) (and_none _)

  pub starts_few : 8 * 0 ≤ c.at
  starts_few = omega arith

  pub starts_bytes : bytes_to list 0 ≤ c.at
  unfolding bytes_to
  starts_bytes = omega arith

  pub starts_within : c.at ≤ length t
  starts_within = rw e (omega arith)

  pub starts_line : c.line ≤ c.at + 1
  starts_line = rw e (omega arith)

module _ (t : List ℕ) (list : List FieldAt) (c : Cursor) (r : Next) (w : Within t c.at r) (n : ℕ) (f : Field) (q : r ≡ Ok (Some f)) where
  field_within : Within t c.at (Ok (Some f))
  field_within = rw q at w

  module _ (d : Cursor) (e : d ≡ cursor_behind f.line f.place f.bare f.next) where
    pub less : length t - d.at < length t - c.at
    less = rw e (omega (arith, field_within.2, field_within.3))

    pub stays : d.at ≤ length t
    stays = rw e field_within.3

    pub line_stays : d.line ≤ d.at + 1
    line_stays = rw e field_within.4

    pub few_stay : 8 * n ≤ c.at → 8 * (n + 1) ≤ d.at
    few_stay h = rw e (omega (arith, field_within.2))

  module _ (whole : ℕ) (h : 8 * n ≤ c.at) (small : length t ≤ 65536) (big : most_fields ≤ whole) (same : length list ≡ whole) where
    pub room_left : n < length list
    room_left = omega (arith, field_within.2, field_within.3)

    pub line_few : f.line ≤ 65536
    line_few = omega (arith, field_within.6)

    pub place_few : f.place < places
    place_few = field_within.7

    pub start_few : f.start ≤ 65536
    start_few = omega (arith, field_within.0, field_within.1)

    pub end_few : f.end ≤ 65536
    end_few = omega (arith, field_within.1)

    module _ (list' : List FieldAt) (e : list' ≡ set list n (record { place = f.place; line = f.line; start = f.start; end = f.end })) where
      pub keeps_length : length list' ≡ whole
      keeps_length = rw e (length-set list n (record { place = f.place; line = f.line; start = f.start; end = f.end }) ∙ same)

      module _ (d : Cursor) (u : d ≡ cursor_behind f.line f.place f.bare f.next) where
        pub bytes_few : bytes_to list n ≤ c.at → bytes_to list' (n + 1) ≤ d.at
        bytes_few k = rw (e, u) (omega (arith, bytes_put list n (record { place = f.place; line = f.line; start = f.start; end = f.end }) room_left, field_within.5))

        pub again : page_left t c ≡ page_next t r → and_fields (between t list 0 n) (page_left t c) ≡ page_of t → and_fields (between t list' 0 (n + 1)) (page_left t d) ≡ page_of t
        again h inv =
            let g : page_left t c ≡ page_next t (Ok (Some f)) = rw q at h in
            rw (e, u, between_put list n (record { place = f.place; line = f.line; start = f.start; end = f.end }) room_left t, ← and_more (between t list 0 n)) (rw g at inv)

module _ (t : List ℕ) (list : List FieldAt) (c : Cursor) (r : Next) (n : ℕ) (e : page_left t c ≡ page_next t r) (inv : and_fields (between t list 0 n) (page_left t c) ≡ page_of t) where
  pub refused : (k : Fault) → r ≡ Err k → found_in t list (Err k) ≡ page_of t
  refused k q = let f : page_left t c ≡ fault k.number k.line = rw q at e in rw f at inv

  module _ (h : n ≤ length list) where
    pub ended : r ≡ Ok None → found_in t list (Ok n) ≡ page_of t
    ended q =
        let f : page_left t c ≡ fields [] = rw q at e in
        rw (between_front list n h t) (sym (ap fields (append-nil (between t list 0 n))) ∙ rw f at inv)

    pub holds : bytes_to list n ≤ c.at → c.at ≤ length t → Holds t list (Ok n)
    holds b w = (h, rw (bytes_front list n h) (omega arith))

-- no more fields were listed than there is room for
pub listed_room : (t : List ℕ) (list : List FieldAt) (n at whole : ℕ) → 8 * n ≤ at → at ≤ length t → length t ≤ 65536 → most_fields ≤ whole → length list ≡ whole
    → n ≤ length list
listed_room t list n at whole h w small big same = omega arith

-- ---- a text: 2, then 3, then its page

module _ (t : List ℕ) (list : List FieldAt) where
  pub too_long : 65536 < length t → found_in t list (Err (record { number = 2; line = 0 })) ≡ text_page t
  unfolding text_page
  too_long h = rw (lt-ltb 65536 (length t) h) refl

  module _ (b : ℕ) (h : length t ≤ 65536) (e : b ≡ bad_byte_line 1 t) where
    pub bad_byte : (b ≡ 0 → ⊥) → found_in t list (Err (record { number = 3; line = b })) ≡ text_page t
    unfolding text_page unless_line
    bad_byte n = rw (le-ltb 65536 (length t) h, ← e) (go b n)
      where
        go : (k : ℕ) → (k ≡ 0 → ⊥) → fault 3 k ≡ unless_line 3 k (page_of t)
        go zero n = absurd (n refl)
        go (suc k) n = refl

    pub as_page : (r : Result ℕ Fault) → b ≡ 0 → found_in t list r ≡ page_of t → found_in t list r ≡ text_page t
    unfolding text_page unless_line
    as_page r z f = rw (le-ltb 65536 (length t) h, ← e, z) f
