-- 11: the entries that were passed stay as they are when one more is noted, and a twin among them is a twin of the entry noted last.
use mathlib.Core.Path.{◌≡◌, refl, sym, ap, ◌∙◌}
use mathlib.Core.Bool.{Bool, true, false, cond, not, ◌&&◌, ◌||◌}
use mathlib.Core.List.{List, [], ◌∷◌}
use Prim.Native.Nat.{ℕ, zero, suc, ◌+◌, ◌-◌, ◌<◌, ◌≤◌}
use native.Mathlib.Numerals.{add-one}
use native.Mathlib.Omega.{arith}
use lib.Dec.{eqb}
use lib.ListN.{length, get_or, set, take, length-set}
use lib.Seq.{get_or-set_same, get_or-set_other, get_or-take}
use borrow.Author.Count.{below_more}
use borrow.Author.Tests.{eqb-false, not-true}
use Rattle.paper.specs.Common.{any_of, up_to}
use Rattle.paper.specs.Limits.{most_entries}
use Rattle.paper.specs.Listing.{principal}
use Rattle.paper.specs.Page.{Field}
use Rattle.paper.specs.Entries.{entries_of}
use Rattle.paper.specs.Rules.{same_principal, twin_after, twin_principal}
use Rattle.laws.proofs.Tests.{both_left, both_right}
use Rattle.file_fields.specs.Fields.{line_in}
use Rattle.file_fields.specs.Stretches.{fields_of, stretch_of, left_of, Begins, IsNext}
use Rattle.file_fields.specs.declared.file.FieldAt.{FieldAt}
use Rattle.file_fields.specs.declared.file.File.{File}
use Rattle.file_fields.specs.declared.stretch.Stretch.{Stretch}
use Rattle.file_fields.specs.declared.stretch.Stretches.{Stretches}
use Rattle.file_fields.proofs.Left.{left_entries, left_more, left_none, next_entry_line}
use Rattle.file_entries.specs.Principals.{no_bounds, principal_hash, is_other_hash, entry_in, entries_below, Hashed, AllHashed}
use Rattle.file_entries.specs.declared.Bounds.{Bounds}
use Rattle.file_entries.proofs.Principals.{other_hash}

not_equal : (a b : ℕ) → not (eqb a b) ≡ true → a ≡ b → ⊥
not_equal a b h = eqb-false a b (not-true (eqb a b) h)

-- ---- among the entries below one

module _ (t : List ℕ) (list : List FieldAt) (bounds : List Bounds) where
  below_on : (j : ℕ) → entries_below t list bounds (j + 1) ≡ entry_in t list bounds j ∷ entries_below t list bounds j
  unfolding entries_below
  below_on j = ap (entries_below t list bounds) (add-one j)

  below_one : (j : ℕ) → 0 < j → entries_below t list bounds j ≡ entry_in t list bounds (j - 1) ∷ entries_below t list bounds (j - 1)
  below_one j h = let e : j - 1 + 1 ≡ j = omega arith in rw e at (below_on (j - 1))

  below_none : (j : ℕ) → j ≤ 0 → entries_below t list bounds j ≡ []
  unfolding entries_below
  below_none j h = let e : j ≡ 0 = omega arith in rw e refl

  module _ (entry : List Field) (j : ℕ) (whole : Bool) (inv : any_of (same_principal entry) (entries_below t list bounds j) ≡ whole) where
    module _ (h : 0 < j) (r : Bool) (e : r ≡ same_principal entry (entry_in t list bounds (j - 1))) where
      any_step : (r || any_of (same_principal entry) (entries_below t list bounds (j - 1))) ≡ whole
      unfolding any_of
      any_step = rw (below_one j h, ← e) at inv

      pub twin_here : r ≡ true → true ≡ whole
      twin_here f = rw f at any_step

      pub twin_not : r ≡ false → any_of (same_principal entry) (entries_below t list bounds (j - 1)) ≡ whole
      twin_not f = rw f at any_step

    pub twin_nowhere : j ≤ 0 → false ≡ whole
    unfolding any_of
    twin_nowhere h = rw (below_none j h) at inv

-- ---- by hashes alone

module _ (hashes : List ℕ) (k : ℕ) where
  pub hash_tested : (j : ℕ) (new : Bool) → j < k → new ≡ up_to (is_other_hash hashes k) j
      → (new && not (eqb (get_or (take k hashes) j 0) (get_or hashes k 0))) ≡ up_to (is_other_hash hashes k) (j + 1)
  unfolding up_to
  hash_tested j new l e = rw (get_or-take k hashes j 0 l, e, add-one) refl

  pub hashes_tested : (j : ℕ) (new : Bool) → k ≤ j → j ≤ k → new ≡ up_to (is_other_hash hashes k) j → new ≡ up_to (is_other_hash hashes k) k
  hashes_tested j new h l e = let i : j ≡ k = omega arith in rw i at e

  -- entries with other hashes have other principals
  module _ (t : List ℕ) (list : List FieldAt) (bounds : List Bounds) (n : ℕ) (all : AllHashed t list bounds hashes n) (own : k < n) where
    none_alike : (j : ℕ) → j ≤ k → up_to (is_other_hash hashes k) j ≡ true
        → any_of (same_principal (entry_in t list bounds k)) (entries_below t list bounds j) ≡ false
    unfolding up_to any_of entries_below
    none_alike zero l h = refl
    none_alike (suc j) l h =
        let other : get_or hashes k 0 ≡ get_or hashes j 0 → ⊥ = λ e. not_equal (get_or hashes j 0) (get_or hashes k 0) (both_right (up_to (is_other_hash hashes k) j) _ h) (sym e) in
        let differs = other_hash t list bounds hashes n all k j own (omega arith) other in
        rw (← differs) (none_alike j (omega arith) (both_left _ _ h))

    pub no_twin : (r : Bool) → r ≡ up_to (is_other_hash hashes k) k → r ≡ true
        → false ≡ any_of (same_principal (entry_in t list bounds k)) (entries_below t list bounds k)
    no_twin r e h = sym (none_alike k (omega arith) (sym e ∙ h))

-- ---- one more is noted

-- one more than those that are left behind it
few_step : (k : ℕ) (s : Stretches) (x : Stretch) (r : Stretches) → IsNext s x r → k + length (left_of s) ≤ most_entries → k + suc (length (left_of r)) ≤ most_entries
few_step k s x r n few = rw (left_more s x r n) at few

module _ (file : File) (bounds : List Bounds) (k : ℕ) (b : Bounds) where
  -- the bounds with those of entry k
  abbrev bounds' : List Bounds
  bounds' = set bounds k b

  other_bounds : (j : ℕ) → j < k → get_or bounds' j no_bounds ≡ get_or bounds j no_bounds
  other_bounds j l = get_or-set_other bounds k j b no_bounds (λ e. omega arith)

  entry_stays : (j : ℕ) → j < k → entry_in file.text.now file.fields.now bounds' j ≡ entry_in file.text.now file.fields.now bounds j
  entry_stays j l = rw (other_bounds j l) refl

  below_stays : (j : ℕ) → j ≤ k → entries_below file.text.now file.fields.now bounds' j ≡ entries_below file.text.now file.fields.now bounds j
  unfolding entries_below
  below_stays zero l = refl
  below_stays (suc j) l = rw (entry_stays j (omega arith), below_stays j (omega arith)) refl

  hashed_stays : (hashes : List ℕ) (h j : ℕ) → j < k → Hashed file.text.now file.fields.now bounds hashes j → Hashed file.text.now file.fields.now bounds' (set hashes k h) j
  hashed_stays hashes h j l was = record {
    start = rw (length-set bounds k b) was.start;
    room = rw (length-set hashes k h) was.room;
    order = rw (other_bounds j l) was.order;
    end = rw (other_bounds j l) was.end;
    hash = rw (get_or-set_other hashes k j h 0 (λ e. omega arith), entry_stays j l) was.hash;
  }

-- the next entry is noted as number k, which is how many were passed
module _ (file : File) (s : Stretches) (x : Stretch) (r : Stretches) (n : IsNext s x r) (at : s.rest.file ≡ file) (k passed : ℕ) (e : k ≡ passed)
    (few : passed + length (left_of s) ≤ most_entries) (bounds : List Bounds) (long : length bounds ≡ most_entries) where
  abbrev noted : List Bounds
  noted = set bounds k (record { from = x.from; to = x.to })

  of_file : x.file ≡ file
  of_file = n.file ∙ at

  pub room_left : k < most_entries
  room_left = rw e (omega (arith, few_step passed s x r n few))

  noted_bounds : get_or noted k no_bounds ≡ record { from = x.from; to = x.to }
  noted_bounds = get_or-set_same bounds k (record { from = x.from; to = x.to }) no_bounds (omega (arith, room_left))

  noted_entry : entry_in file.text.now file.fields.now noted k ≡ stretch_of x
  noted_entry = rw (noted_bounds, of_file) refl

  pub all_noted : (hashes : List ℕ) (h : ℕ) → length hashes ≡ most_entries → h ≡ principal_hash (stretch_of x) → AllHashed file.text.now file.fields.now bounds hashes passed
      → AllHashed file.text.now file.fields.now noted (set hashes k h) (k + 1)
  all_noted hashes h wide q all =
      let new : Hashed file.text.now file.fields.now noted (set hashes k h) k = record {
        start = rw (length-set bounds k (record { from = x.from; to = x.to })) (omega (arith, room_left));
        room = rw (length-set hashes k h) (omega (arith, room_left));
        order = rw noted_bounds x.ordered;
        end = rw noted_bounds (rw of_file at x.listed);
        hash = rw (get_or-set_same hashes k h 0 (omega (arith, room_left)), noted_entry) q;
      } in
      below_more _ k (λ j l. hashed_stays file bounds k (record { from = x.from; to = x.to }) hashes h j l (all j (rw (← e) l))) new

  -- so many are passed then
  module _ (passed' : ℕ) (e' : passed' ≡ passed + 1) where
    pub few_on : passed' + length (left_of r) ≤ most_entries
    few_on = omega (arith, few_step passed s x r n few)

    pub all_on : (hashes : List ℕ) → AllHashed file.text.now file.fields.now noted hashes (k + 1) → AllHashed file.text.now file.fields.now noted hashes passed'
    all_on hashes all = rw (e', ← e) all

  module _ (whole : ℕ) (inv : twin_after (entries_below file.text.now file.fields.now bounds passed) (left_of s) ≡ whole) (b : Bool)
      (f : b ≡ any_of (same_principal (entry_in file.text.now file.fields.now noted k)) (entries_below file.text.now file.fields.now noted k)) where
    before_noted : entries_below file.text.now file.fields.now noted k ≡ entries_below file.text.now file.fields.now bounds passed
    before_noted = below_stays file bounds k (record { from = x.from; to = x.to }) k (omega arith) ∙ ap (entries_below file.text.now file.fields.now bounds) e

    twin_step : cond b (line_in x.file.fields.now x.from) (twin_after (stretch_of x ∷ entries_below file.text.now file.fields.now bounds passed) (left_of r)) ≡ whole
    unfolding twin_after
    twin_step =
        let g : b ≡ any_of (same_principal (stretch_of x)) (entries_below file.text.now file.fields.now bounds passed) = rw (noted_entry, before_noted) at f in
        rw (left_more s x r n, ← g, next_entry_line s x r n) at inv

    pub twin_found : (line : ℕ) → b ≡ true → line ≡ line_in x.file.fields.now x.from → line ≡ whole
    twin_found line q p = p ∙ (rw q at twin_step)

    pub twin_on : (passed' : ℕ) → passed' ≡ passed + 1 → b ≡ false → twin_after (entries_below file.text.now file.fields.now noted passed') (left_of r) ≡ whole
    twin_on passed' e' q = rw (e', ← e, below_on file.text.now file.fields.now noted k, noted_entry, before_noted) (rw q at twin_step)

-- ---- the first entry, and none

module _ (file : File) (bounds : List Bounds) (s : Stretches) where
  pub twins_start : Begins file principal 0 (length file.fields.now) s → twin_after (entries_below file.text.now file.fields.now bounds 0) (left_of s) ≡ twin_principal (fields_of file)
  unfolding twin_principal entries_below
  twins_start b = rw (left_entries file s b) refl

  pub few_start : Begins file principal 0 (length file.fields.now) s → length (entries_of (fields_of file)) ≤ most_entries → 0 + length (left_of s) ≤ most_entries
  few_start b l = rw (left_entries file s b) (omega arith)

  pub none_hashed : (hashes : List ℕ) → AllHashed file.text.now file.fields.now bounds hashes 0
  none_hashed hashes = λ j h. absurd (omega arith)

  pub twins_end : (k whole : ℕ) → s.rest.from ≡ s.rest.to → twin_after (entries_below file.text.now file.fields.now bounds k) (left_of s) ≡ whole → 0 ≡ whole
  unfolding twin_after
  twins_end k whole h inv = rw (left_none s h) at inv
