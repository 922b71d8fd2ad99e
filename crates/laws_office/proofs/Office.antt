-- "Office files" are files: with any of its LFs written as CR LF a file gets the same answer, leaves the same table and the same filled text, and
-- has its names where the CRs before them have moved them.
use mathlib.Core.Path.{◌≡◌, refl, sym, ap, ◌∙◌}
use mathlib.Core.List.{List, map}
use mathlib.Core.Bool.{Bool, true, false, cond, ◌&&◌, ◌||◌}
use Prim.Native.Nat.{ℕ, ◌+◌, ◌-◌, ◌≤◌}
use native.Mathlib.Omega.{arith}
use lib.Dec.{eqb, ltb}
use lib.ListN.{length, get_or, take, length-map, get_or-map}
use borrow.Author.Tests.{eqb-true, ltb-true}
use Rattle.paper.specs.declared.Map.{Map}
use Rattle.paper.specs.Common.{is_empty, all_of}
use Rattle.paper.specs.Limits.{text_bytes}
use Rattle.paper.specs.Page.{Field, no_field, Outcome, fields, fault}
use Rattle.paper.specs.Entries.{is_at, fields_at}
use Rattle.paper.specs.Policy.{policy_of}
use Rattle.paper.specs.Table.{words_of}
use Rattle.paper.specs.Filled.{filled_text}
use Rattle.paper.specs.Lookup.{front, stretch_of, names_of, name_among, name_in}
use Rattle.paper.specs.Program.{program_writes}
use Rattle.paper.specs.Promises.{held_to_rules, file_of, reading_of, read_answer, words_read, read_leaves, written_in, filling_of, fill_answer, text_filled, fill_leaves}
use Rattle.paper.specs.Promises.{text_page, lookup_answer}
use Rattle.laws.proofs.Tests.{both_left}
use Rattle.laws.proofs.Counting.{all_of_at, all_of_weaker}
use Rattle.laws_file.proofs.Stretched.{at_place}
use Rattle.laws_file.proofs.Reader.{accepted_page}
use Rattle.laws_filled.proofs.Says.{policy_says, fields_kept}
use Rattle.laws_filled.proofs.FilledTwice.{text_says}
use Rattle.laws_office.specs.Office.{office, returns_in, no_return, returns_to, moved, moved_outcome, FurtherOn}
use Rattle.laws_office.proofs.Pages.{text_moved}
use Rattle.laws_office.proofs.Places.{moved_by_returns, fields_counted}
use Rattle.laws_office.proofs.Rules.{moved_same, there, rules_moved}

module _ (withReturn : ℕ → Bool) where
  -- ---- what does not look at starts

  reading_moved : (o : Outcome) → reading_of (moved_outcome withReturn o) ≡ reading_of o
  reading_moved (fields fs) = refl
  reading_moved (fault number line) = refl

  words_moved : (o : Outcome) → words_read (moved_outcome withReturn o) ≡ words_read o
  words_moved (fields fs) = ap words_of (moved_same withReturn policy_of policy_says fs)
  words_moved (fault number line) = refl

  same_text : (fs : List Field) → filled_text (map (moved withReturn) fs) ≡ filled_text fs
  same_text = moved_same withReturn filled_text text_says

  filling_moved : (room : ℕ) (o : Outcome) → filling_of room (moved_outcome withReturn o) ≡ filling_of room o
  filling_moved room (fields fs) = ap (λ (text : List ℕ). written_in room (length text)) (same_text fs)
  filling_moved room (fault number line) = refl

  filled_moved : (o : Outcome) → text_filled (moved_outcome withReturn o) ≡ text_filled o
  filled_moved (fields fs) = same_text fs
  filled_moved (fault number line) = refl

  rules_held : (o : Outcome) → held_to_rules (moved_outcome withReturn o) ≡ moved_outcome withReturn (held_to_rules o)
  rules_held (fields fs) = rules_moved withReturn fs
  rules_held (fault number line) = refl

  -- ---- the names

  bytes_moved : (f : Field) → (stretch_of (moved withReturn f)).bytes ≡ (stretch_of f).bytes
  unfolding moved stretch_of
  bytes_moved f = refl

  none_moved : moved withReturn no_field ≡ no_field
  unfolding moved returns_to
  none_moved = refl

  found_moved : (names : List Field) (d : ℕ) → get_or (map (moved withReturn) names) d no_field ≡ moved withReturn (get_or names d no_field)
  found_moved names d = ap (get_or (map (moved withReturn) names) d) (sym none_moved) ∙ get_or-map (moved withReturn) names d no_field

  among_moved : (names : List Field) (d : ℕ) → (name_among (map (moved withReturn) names) d).bytes ≡ (name_among names d).bytes
  unfolding name_among
  among_moved names d = rw (length-map names (moved withReturn)) (go (ltb d (length names)))
    where
      go : (t : Bool) → (cond t (stretch_of (get_or (map (moved withReturn) names) d no_field)) front).bytes ≡ (cond t (stretch_of (get_or names d no_field)) front).bytes
      go true = ap (λ f. (stretch_of f).bytes) (found_moved names d) ∙ bytes_moved (get_or names d no_field)
      go false = refl

  name_moved : (m : Map) (d : ℕ) (o : Outcome) → (name_in m d (moved_outcome withReturn o)).bytes ≡ (name_in m d o).bytes
  name_moved m d (fields fs) = ap (λ (names : List Field). (name_among names d).bytes) (fields_kept (moved withReturn) (there withReturn) (names_of m) fs) ∙ among_moved (fields_at (names_of m) fs) d
  name_moved m d (fault number line) = refl

  -- where a field's value starts, told by the CRs before it
  field_place : (u : List ℕ) (f : Field) → moved_by_returns withReturn u (moved withReturn f) ≡ true → 1 ≤ length f.value
      → (moved withReturn f).start ≡ f.start + returns_in (take (moved withReturn f).start u)
  unfolding moved_by_returns moved
  field_place u f h some = go (is_empty f.value) refl h
    where
      go : (x : Bool) → is_empty f.value ≡ x
          → (x || eqb (returns_in (take (f.start + returns_to withReturn (f.line - 1)) u)) (returns_to withReturn (f.line - 1))) ≡ true
          → f.start + returns_to withReturn (f.line - 1) ≡ f.start + returns_in (take (f.start + returns_to withReturn (f.line - 1)) u)
      go true e k = let z : length f.value ≡ 0 = eqb-true (length f.value) 0 e in absurd (omega arith)
      go false e k = ap (λ n. f.start + n) (sym (eqb-true _ _ k))

  stretch_place : (u : List ℕ) (f g : Field) → g ≡ moved withReturn f → moved_by_returns withReturn u g ≡ true → FurtherOn u (stretch_of g) (stretch_of f)
  unfolding stretch_of FurtherOn
  stretch_place u f g e h some = rw e (field_place u f (rw e at h) (rw (e, bytes_moved f) at some))

  among_place : (u : List ℕ) (names : List Field) (d : ℕ) → all_of (moved_by_returns withReturn u) (map (moved withReturn) names) ≡ true
      → FurtherOn u (name_among (map (moved withReturn) names) d) (name_among names d)
  unfolding name_among front FurtherOn
  among_place u names d h = rw (length-map names (moved withReturn)) (go (ltb d (length names)) refl)
    where
      go : (x : Bool) → ltb d (length names) ≡ x
          → FurtherOn u (cond x (stretch_of (get_or (map (moved withReturn) names) d no_field)) front) (cond x (stretch_of (get_or names d no_field)) front)
      go true e =
          stretch_place u (get_or names d no_field) (get_or (map (moved withReturn) names) d no_field) (found_moved names d)
          (all_of_at (moved_by_returns withReturn u) no_field (map (moved withReturn) names) h d (rw (length-map names (moved withReturn)) (ltb-true d (length names) e)))
      go false e = λ some. absurd (omega arith)

  name_place : (u : List ℕ) (m : Map) (d : ℕ) (o : Outcome) → ((fs : List Field) → o ≡ fields fs → all_of (moved_by_returns withReturn u) (map (moved withReturn) fs) ≡ true)
      → FurtherOn u (name_in m d (moved_outcome withReturn o)) (name_in m d o)
  unfolding front FurtherOn
  name_place u m d (fields fs) h =
      let kept = fields_kept (moved withReturn) (there withReturn) (names_of m) fs in
      rw kept (among_place u (fields_at (names_of m) fs) d (rw kept at (standing (map (moved withReturn) fs) (h fs refl))))
    where
      standing : (gs : List Field) → all_of (moved_by_returns withReturn u) gs ≡ true → all_of (moved_by_returns withReturn u) (fields_at (names_of m) gs) ≡ true
      standing gs r =
          all_of_weaker (λ f. moved_by_returns withReturn u f && is_at (names_of m) f) (moved_by_returns withReturn u) (λ f k. both_left (moved_by_returns withReturn u f) _ k)
          (fields_at (names_of m) gs) (at_place (names_of m) (moved_by_returns withReturn u) gs r)
  name_place u m d (fault number line) h = λ some. absurd (omega arith)

  -- ---- a text without CR, and the same with CR LF at the end of any of its lines

  module _ (t : List ℕ) (none : no_return t ≡ true) (short : length (office withReturn t) ≤ text_bytes) where
    pub office_file : file_of (office withReturn t) ≡ moved_outcome withReturn (file_of t)
    unfolding file_of
    office_file = rw (text_moved withReturn t none short) (rules_held (text_page t))

    pub office_answer : (table : List ℕ) → read_answer (office withReturn t) table ≡ read_answer t table
    unfolding read_answer
    office_answer table = rw (office_file, reading_moved (file_of t)) refl

    pub office_table : (table : List ℕ) → read_leaves (office withReturn t) table ≡ read_leaves t table
    unfolding read_leaves
    office_table table = rw (office_file, words_moved (file_of t)) refl

    pub office_filling : (out : List ℕ) → fill_answer (office withReturn t) out ≡ fill_answer t out
    unfolding fill_answer
    office_filling out = rw (office_file, filling_moved (length out) (file_of t)) refl

    pub office_filled : (out : List ℕ) → fill_leaves (office withReturn t) out ≡ fill_leaves t out
    unfolding fill_leaves
    office_filled out = rw (office_filling out, office_file, filled_moved (file_of t)) refl

    pub office_written : program_writes (office withReturn t) ≡ program_writes t
    unfolding program_writes
    office_written = rw (office_file, filled_moved (file_of t), filling_moved text_bytes (file_of t)) refl

    -- a name has the same bytes, and starts where its field does
    pub office_name : (m : Map) (d : ℕ) → lookup_answer (office withReturn t) m d ≡ name_in m d (moved_outcome withReturn (file_of t))
    unfolding lookup_answer
    office_name m d = rw office_file refl

    pub office_bytes : (m : Map) (d : ℕ) → (lookup_answer (office withReturn t) m d).bytes ≡ (lookup_answer t m d).bytes
    unfolding lookup_answer
    office_bytes m d = rw office_file (name_moved m d (file_of t))

    -- a name that is found stands further on by one for each CR before it
    pub office_place : (m : Map) (d : ℕ) → FurtherOn (office withReturn t) (lookup_answer (office withReturn t) m d) (lookup_answer t m d)
    unfolding lookup_answer
    office_place m d = rw office_file (name_place (office withReturn t) m d (file_of t) counted)
      where
        counted : (fs : List Field) → file_of t ≡ fields fs → all_of (moved_by_returns withReturn (office withReturn t)) (map (moved withReturn) fs) ≡ true
        counted fs e =
            let read : file_of (office withReturn t) ≡ fields (map (moved withReturn) fs) = rw e at office_file in
            fields_counted withReturn t (map (moved withReturn) fs) none (accepted_page (office withReturn t) (map (moved withReturn) fs) read).0
