-- How long a filled text can get, so that no size is too large for a number: some bytes for every byte of a value, and as many for every field.
use mathlib.Core.Path.{◌≡◌, refl}
use mathlib.Core.Bool.{Bool, true, false, cond}
use mathlib.Core.Logic.{⊎_elim}
use mathlib.Core.List.{List, [], ◌∷◌, ◌++◌, map, flat_map}
use Prim.Native.Nat.{ℕ, zero, suc, ◌+◌, ◌-◌, ◌*◌, ◌<◌, ◌≤◌}
use native.Mathlib.Nat.{mul-add}
use native.Mathlib.Omega.{arith}
use mir.Syntax.{w64}
use mir.Val.{Fits}
use lib.Dec.{eqb, leb}
use lib.ListN.{length, length-append, get_or-eq_default}
use borrow.Author.Tests.{leb-true}
use Rattle.paper.specs.declared.Value.TheVariants.{Keys}
use Rattle.paper.specs.Common.{bytes, is_empty, any_of, all_of, count_up}
use Rattle.paper.specs.Limits.{text_bytes}
use Rattle.paper.specs.Text.{line_feed, space}
use Rattle.paper.specs.Listing.{Row, row, listing, row_at, key_at, principal, subject_of_entry, execution_context, can_call, can_return, can_read, can_write}
use Rattle.paper.specs.Listing.{call_context_in, uid_in, gid_in, namespace_in, objects_in, object_context_in}
use Rattle.paper.specs.Page.{Field}
use Rattle.paper.specs.Entries.{is_at, call_contexts, default_at, meant, value_at, up_to_next, stretches_from, items_of, entries_of}
use Rattle.paper.specs.Filled.{key_line, bare_line, written_line, value_line, context_text, item_text, access_text, entry_text, filled_text}
use Rattle.laws.proofs.Tests.{le_or_lt}
use Rattle.laws.proofs.Counting.{all_of_at}
use Rattle.file_fields.specs.Fields.{field_of, field_at, between}
use Rattle.file_fields.specs.Listed.{most_fields}
use Rattle.file_fields.specs.Stretches.{fields_of}
use Rattle.file_fields.specs.declared.file.FieldAt.{FieldAt}
use Rattle.file_fields.specs.declared.file.File.{File}
use Rattle.file_fields.proofs.Between.{value_short}

-- how many bytes the values of these fields have, and one for each field
unfoldable weight : List Field → ℕ
weight [] = 0
weight (f ∷ fs) = length f.value + 1 + weight fs

-- ---- a line

-- a key of the listing
abbrev is_short : Row → Bool
is_short r = leb (length (bytes r.key)) 22

keys_short : all_of is_short listing ≡ true
unfolding all_of listing
keys_short = refl

key_short : (place : ℕ) → length (key_at place) ≤ 22
unfolding key_at row_at
key_short place =
    ⊎_elim
    (λ (h : length listing ≤ place). rw (get_or-eq_default listing (row "" Keys [] [] false) {n = place} h) (omega arith))
    (λ (h : place < length listing). leb-true _ _ (all_of_at is_short (row "" Keys [] [] false) listing keys_short place h))
    (le_or_lt (length listing) place)

bare_most : (place : ℕ) → length (bare_line place) ≤ 23
unfolding bare_line
bare_most place = omega (arith, key_short place, length-append (key_at place) (line_feed ∷ []))

line_most : (place : ℕ) (v : List ℕ) → length (key_line place v) ≤ 24 + length v
unfolding key_line
line_most place v = omega (arith, key_short place, length-append (key_at place) (space ∷ (v ++ (line_feed ∷ []))), length-append v (line_feed ∷ []))

default_most : (place : ℕ) → length (default_at place) ≤ 5
unfolding default_at
default_most place = go (any_of (eqb place) call_contexts)
  where
    go : (b : Bool) → length (cond b (bytes "[all]") (bytes "all")) ≤ 5
    go true = omega arith
    go false = omega arith

meant_most : (f : Field) → length (meant f) ≤ 2 + length f.value
unfolding meant
meant_most f = go (is_empty f.value)
  where
    go : (b : Bool) → length (cond b (bytes "[]") f.value) ≤ 2 + length f.value
    go true = omega arith
    go false = omega arith

value_most : (place : ℕ) (fs : List Field) → length (value_at place fs) ≤ 5 + weight fs
unfolding value_at weight
value_most place [] = default_most place
value_most place (f ∷ fs) = go (is_at place f) (value_most place fs)
  where
    go : (b : Bool) → length (value_at place fs) ≤ 5 + weight fs → length (cond b (meant f) (value_at place fs)) ≤ 5 + (length f.value + 1 + weight fs)
    go true h = omega (arith, meant_most f)
    go false h = omega arith

value_line_most : (place : ℕ) (fs : List Field) → length (value_line place fs) ≤ 29 + weight fs
unfolding value_line
value_line_most place fs = omega (arith, line_most place (value_at place fs), value_most place fs)

written_most : (f : Field) → length (written_line f) ≤ 24 + length f.value
unfolding written_line
written_most f = go (is_empty f.value)
  where
    go : (b : Bool) → length (cond b (bare_line f.place) (key_line f.place f.value)) ≤ 24 + length f.value
    go true = omega (arith, bare_most f.place)
    go false = line_most f.place f.value

-- ---- stretches of fields, each with a text

module _ (p : ℕ) where
  before_most : (fs : List Field) → weight (up_to_next p fs) ≤ weight fs
  unfolding weight up_to_next
  before_most [] = omega arith
  before_most (f ∷ fs) = go (is_at p f) (before_most fs)
    where
      go : (b : Bool) → weight (up_to_next p fs) ≤ weight fs → weight (cond b [] (f ∷ up_to_next p fs)) ≤ length f.value + 1 + weight fs
      go true h = omega arith
      go false h = omega arith

  module _ (text : List Field → List ℕ) (k : ℕ) (each : (f : Field) (fs : List Field) → length (text (f ∷ fs)) ≤ k * weight (f ∷ fs)) where
    stretches_most : (fs : List Field) → length (flat_map text (stretches_from p fs)) + k * weight (up_to_next p fs) ≤ k * weight fs
    unfolding weight up_to_next stretches_from flat_map
    stretches_most [] = omega arith
    stretches_most (f ∷ fs) = go (is_at p f) (stretches_most fs)
      where
        go : (b : Bool) → length (flat_map text (stretches_from p fs)) + k * weight (up_to_next p fs) ≤ k * weight fs
            → length (flat_map text (cond b ((f ∷ up_to_next p fs) ∷ stretches_from p fs) (stretches_from p fs))) + k * weight (cond b [] (f ∷ up_to_next p fs)) ≤ k * (length f.value + 1 + weight fs)
        go true h =
            rw (length-append (text (f ∷ up_to_next p fs)) (flat_map text (stretches_from p fs)), mul-add k (length f.value + 1) (weight fs))
            (omega (arith, h, rw (mul-add k (length f.value + 1) (weight (up_to_next p fs))) at (each f (up_to_next p fs))))
        go false h = rw (mul-add k (length f.value + 1) (weight (up_to_next p fs)), mul-add k (length f.value + 1) (weight fs)) (omega (arith, h))

-- ---- the parts of an entry

module _ (fs : List Field) where
  context_most : (place : ℕ) → length (context_text place fs) ≤ 139 + 4 * weight fs
  unfolding context_text
  context_most place =
      rw (length-append, length-append, length-append, length-append)
      (omega (arith, bare_most place, value_line_most (call_context_in place) fs, value_line_most (uid_in place) fs, value_line_most (gid_in place) fs, value_line_most (namespace_in place) fs))

  item_most : (access : ℕ) → length (item_text access fs) ≤ 168 + 5 * weight fs
  unfolding item_text
  item_most access = rw length-append (omega (arith, value_line_most (objects_in access) fs, context_most (object_context_in access)))

some_weight : (f : Field) (fs : List Field) → 1 ≤ weight (f ∷ fs)
unfolding weight
some_weight f fs = omega arith

module _ (fs : List Field) where
  items_most : (access : ℕ) → length (flat_map (item_text access) (items_of access fs)) ≤ 173 * weight fs
  unfolding items_of
  items_most access = omega (arith, stretches_most (objects_in access) (item_text access) 173 (λ f gs. omega (arith, item_most (f ∷ gs) access, some_weight f gs)) fs)

  access_most : (access : ℕ) → length (access_text access fs) ≤ 29 + 174 * weight fs
  unfolding access_text
  access_most access = go (is_empty (items_of access fs))
    where
      go : (b : Bool) → length (cond b (value_line access fs) (bare_line access ++ flat_map (item_text access) (items_of access fs))) ≤ 29 + 174 * weight fs
      go true = omega (arith, value_line_most access fs)
      go false = omega (arith, length-append (bare_line access) (flat_map (item_text access) (items_of access fs)), bare_most access, items_most access)

  entry_most : length (entry_text fs) ≤ 307 + 355 * weight fs
  unfolding entry_text
  entry_most =
      rw (length-append, length-append, length-append, length-append, length-append, length-append)
      (omega (
        arith,
        bare_most principal,
        value_line_most subject_of_entry fs,
        context_most fs execution_context,
        value_line_most can_call fs,
        value_line_most can_return fs,
        access_most can_read,
        access_most can_write,
      ))

-- ---- the whole

entries_most : (fs : List Field) → length (flat_map entry_text (entries_of fs)) ≤ 662 * weight fs
unfolding entries_of
entries_most fs = omega (arith, stretches_most principal entry_text 662 (λ f gs. omega (arith, entry_most (f ∷ gs), some_weight f gs)) fs)

lines_most : (fs : List Field) → length (flat_map written_line fs) ≤ 24 * weight fs
unfolding weight flat_map
lines_most [] = omega arith
lines_most (f ∷ fs) = omega (arith, length-append (written_line f) (flat_map written_line fs), written_most f, lines_most fs)

filled_most : (fs : List Field) → length (filled_text fs) ≤ 686 * weight fs
unfolding filled_text
filled_most fs =
    omega (
      arith,
      length-append (flat_map written_line (up_to_next principal fs)) (flat_map entry_text (entries_of fs)),
      lines_most (up_to_next principal fs),
      before_most principal fs,
      entries_most fs,
    )

module _ (t : List ℕ) (list : List FieldAt) (few : length t ≤ text_bytes) where
  run_most : (i k : ℕ) → weight (map (field_at t list) (count_up i k)) ≤ 65537 * k
  unfolding weight count_up field_of
  run_most i zero = omega arith
  run_most i (suc k) = omega (arith, run_most (i + 1) k, value_short t list i)

  all_most : (n : ℕ) → weight (between t list 0 n) ≤ 65537 * n
  unfolding between
  all_most n = let z : n - 0 ≡ n = omega arith in rw z (run_most 0 n)

pub filled_counts : (file : File) → length file.text.now ≤ text_bytes → length file.fields.now ≤ most_fields → Fits w64 (0 + length (filled_text (fields_of file)))
filled_counts file h l = omega (arith, filled_most (fields_of file), all_most file.text.now file.fields.now h (length file.fields.now))
