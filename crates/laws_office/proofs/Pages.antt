-- The page: each line of the office file does what it did, and a field's value starts as much further on as its line.
use mathlib.Core.Path.{◌≡◌, refl, sym, ap, ◌∙◌}
use mathlib.Core.List.{List, [], ◌∷◌, map, map-append}
use mathlib.Core.Bool.{Bool, true, false, cond}
use Prim.Native.Nat.{ℕ, zero, suc, ◌+◌, ◌≤◌}
use native.Mathlib.Omega.{arith}
use lib.Dec.{eqb}
use lib.ListN.{length, drop}
use borrow.Author.Tests.{le-ltb}
use Rattle.paper.specs.Common.{is_empty}
use Rattle.paper.specs.Limits.{text_bytes}
use Rattle.paper.specs.Text.{Line, bad_byte_line, lines_from, skipped}
use Rattle.paper.specs.Listing.{row_at, key_at, at_block, no_fault, nowhere, value_fault}
use Rattle.paper.specs.Page.{Field, Outcome, fields, fault, State, Step, pass, stop, before_first, is_left_empty, places_for, place_of, one_space_and_value}
use Rattle.paper.specs.Page.{field_step, after_key, place_step, unless_empty, line_step, at_end, and_fields, after, page_from, page_of}
use Rattle.paper.specs.Rules.{unless_line}
use Rattle.paper.specs.Promises.{text_page}
use Rattle.laws_office.specs.Office.{office_from, office, no_return, returns_to, moved, moved_outcome}
use Rattle.laws_office.proofs.Lines.{returns_before, moved_line, moved_lines, lines_moved, bad_moved, office_longer}

-- ---- a line

abbrev moved_step : (ℕ → Bool) → Step → Step
moved_step withReturn (pass st fs) = pass st (map (moved withReturn) fs)
moved_step withReturn (stop number n) = stop number n

module _ (withReturn : ℕ → Bool) where
  either_step : (t : Bool) (x y x' y' : Step) → x ≡ moved_step withReturn x' → y ≡ moved_step withReturn y' → cond t x y ≡ moved_step withReturn (cond t x' y')
  either_step true x y x' y' e f = e
  either_step false x y x' y' e f = f

  field_moved : (n p s : ℕ) (v : List ℕ) (bare : Bool) (k : ℕ)
      → field_step (record { line = n; place = p; start = s + returns_before withReturn n; value = v }) bare k
      ≡ moved_step withReturn (field_step (record { line = n; place = p; start = s; value = v }) bare k)
  unfolding field_step moved returns_before
  field_moved n p s v bare zero = refl
  field_moved n p s v bare (suc k) = refl

  key_moved : (n p from : ℕ) (rest : List ℕ) → after_key n p (from + returns_before withReturn n) rest ≡ moved_step withReturn (after_key n p from rest)
  unfolding after_key
  key_moved n p from rest =
      let q : from + returns_before withReturn n + 1 ≡ from + 1 + returns_before withReturn n = omega arith in
      rw q
      (either_step (is_empty rest) _ _ _ _ (field_moved n p from [] true no_fault)
      (either_step (one_space_and_value rest) _ _ _ _ (field_moved n p (from + 1) (drop 1 rest) false (value_fault (row_at p).value (drop 1 rest))) refl))

  place_moved : (n p : ℕ) (l : Line) → place_step n p (moved_line withReturn n l) ≡ moved_step withReturn (place_step n p l)
  unfolding place_step moved_line
  place_moved n p l =
      let q : l.start + returns_before withReturn n + length (key_at p) ≡ l.start + length (key_at p) + returns_before withReturn n = omega arith in
      rw q
      (either_step (eqb p nowhere) _ _ (stop 4 n) _ refl (key_moved n p (l.start + length (key_at p)) (drop (length (key_at p)) l.text)))

  unless_moved : (st : State) (here : Bool) (x y : Step) → x ≡ moved_step withReturn y → unless_empty st here x ≡ moved_step withReturn (unless_empty st here y)
  unfolding unless_empty
  unless_moved st here x y e = either_step (is_left_empty st here) _ _ _ _ refl e

  line_moved : (st : State) (n : ℕ) (l : Line) → line_step st n (moved_line withReturn n l) ≡ moved_step withReturn (line_step st n l)
  unfolding line_step moved_line
  line_moved st n l =
      either_step (skipped l.text) _ _ _ _
      (either_step l.ended _ _ _ _ refl (unless_moved st false _ _ refl))
      (unless_moved st (at_block st.place l.text) _ _
      (either_step l.ended _ _ _ _ (place_moved n (place_of (places_for st l.text) l.text) l) refl))

  -- ---- the lines

  ends_moved : (st : State) (n : ℕ) → at_end st n ≡ moved_outcome withReturn (at_end st n)
  unfolding at_end
  ends_moved st n = go (is_left_empty st false) (row_at st.place).last
    where
      go : (e l : Bool) → cond e (fault 9 st.line) (cond l (fields []) (fault 4 n)) ≡ moved_outcome withReturn (cond e (fault 9 st.line) (cond l (fields []) (fault 4 n)))
      go true l = refl
      go false true = refl
      go false false = refl

  and_moved : (fs : List Field) (o : Outcome) → and_fields (map (moved withReturn) fs) (moved_outcome withReturn o) ≡ moved_outcome withReturn (and_fields fs o)
  and_moved fs (fields gs) = ap (λ (hs : List Field). fields hs) (sym (map-append (moved withReturn) fs gs))
  and_moved fs (fault number n) = refl

  after_moved : (x : Step) (rest rest' : State → Outcome) → ((st : State) → rest st ≡ moved_outcome withReturn (rest' st))
      → after (moved_step withReturn x) rest ≡ moved_outcome withReturn (after x rest')
  after_moved (pass st fs) rest rest' e = ap (and_fields (map (moved withReturn) fs)) (e st) ∙ and_moved fs (rest' st)
  after_moved (stop number n) rest rest' e = refl

  pub from_moved : (st : State) (n : ℕ) (ls : List Line) → page_from st n (moved_lines withReturn n ls) ≡ moved_outcome withReturn (page_from st n ls)
  unfolding page_from moved_lines
  from_moved st n [] = ends_moved st n
  from_moved st n (l ∷ ls) = rw (line_moved st n l) (after_moved (line_step st n l) _ _ (λ st'. from_moved st' (n + 1) ls))

  -- ---- the text

  none_before : 0 + returns_before withReturn 1 ≡ 0
  unfolding returns_before returns_to
  none_before = refl

  pub unless_line_lem : (number n : ℕ) (o o' : Outcome) → o ≡ moved_outcome withReturn o' → unless_line number n o ≡ moved_outcome withReturn (unless_line number n o')
  unfolding unless_line
  unless_line_lem number zero o o' e = e
  unless_line_lem number (suc n) o o' e = refl

  module _ (t : List ℕ) (none : no_return t ≡ true) where
    lines_office : lines_from 0 (office_from withReturn 1 t) ≡ moved_lines withReturn 1 (lines_from 0 t)
    lines_office = rw none_before at (lines_moved withReturn 1 0 t (omega arith) none)

    page_moved : page_of (office withReturn t) ≡ moved_outcome withReturn (page_of t)
    unfolding page_of office
    page_moved = rw lines_office (from_moved before_first 1 (lines_from 0 t))

    bytes_moved : bad_byte_line 1 (office withReturn t) ≡ bad_byte_line 1 t
    unfolding office
    bytes_moved = bad_moved withReturn 1 t none

    pub text_moved : length (office withReturn t) ≤ text_bytes → text_page (office withReturn t) ≡ moved_outcome withReturn (text_page t)
    unfolding text_page office
    text_moved short =
        let shorter : length t ≤ text_bytes = omega (arith, office_longer withReturn 1 t, short) in
        rw (le-ltb text_bytes (length (office withReturn t)) short, le-ltb text_bytes (length t) shorter, bytes_moved)
        (unless_line_lem 3 (bad_byte_line 1 t) (page_of (office withReturn t)) (page_of t) page_moved)
