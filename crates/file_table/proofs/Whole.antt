-- The words of a file's policy are its blocks one behind the other, and each fits where it stands.
use mathlib.Core.Path.{◌≡◌, refl, sym, ap, ◌∙◌}
use mathlib.Core.Bool.{true}
use mathlib.Core.List.{List, [], ◌∷◌, ◌++◌, map, flat_map, append_assoc, append-nil}
use Prim.Native.Nat.{ℕ, ◌+◌, ◌*◌, ◌<◌, ◌≤◌}
use native.Mathlib.Omega.{arith}
use native.Mathlib.Nat.{zero-add}
use lib.ListN.{length, take, drop, replicate, length-map, length-append, length-replicate, drop_of_length-le}
use Rattle.paper.specs.Common.{all_of}
use Rattle.paper.specs.Limits.{most_members, most_entries, table_words}
use Rattle.paper.specs.Text.{no_line}
use Rattle.paper.specs.Listing.{object_name, object_members, subject_name, subject_members, principal, can_read, can_write}
use Rattle.paper.specs.Page.{Field}
use Rattle.paper.specs.Entries.{fields_at, entries_of}
use Rattle.paper.specs.Rules.{descriptors_in, over_limit, domains_at, identifiers_at}
use Rattle.paper.specs.Policy.{access_of, entry_of, member_domains, policy_of}
use Rattle.paper.specs.Table.{mark, head_size, objects_at, entries_at, entry_size, entries_size, descriptor_size, descriptors_size, padded, descriptor_words, words_of}
use Rattle.laws.proofs.Counting.{flat_map_append}
use Rattle.laws.proofs.Stretches.{length_padded}
use Rattle.laws_page.specs.Right.{is_numbered}
use Rattle.laws_file.specs.Accepted.{total}
use Rattle.laws_file.proofs.Stretched.{stretches_counted}
use Rattle.laws_file.proofs.Members.{members_length, members_counted}
use Rattle.laws_file.proofs.Kept.{Counted, counted}
use Rattle.file_fields.specs.Fields.{between, maps_end}
use Rattle.file_fields.proofs.Maps.{maps_within, fields_in_maps}
use Rattle.file_words.specs.Words.{numbers_of, Worded}
use Rattle.file_table.specs.Blocks.{entry_blocks, access_blocks, own_blocks, descriptor_blocks, maps_size, map_blocks, privileges_size, privilege_blocks, Filled}
use Rattle.file_table.specs.Ready.{fits, Ready, OfObjects, OfSubjects, OfFunctions, Bounded}
use Rattle.file_table.proofs.Writing.{take_zeros}
use Rattle.file_table.proofs.Laying.{Laid, laid_first, laid_zeros, laid_more, laid_all, front_zeros, front_laid}
use Rattle.file_fields.specs.declared.file.FieldAt.{FieldAt}

-- ---- what the rule of limits leaves

module _ (file : List Field) (numbered : all_of is_numbered file ≡ true) (limits : over_limit file ≡ no_line) where
  within_limits : Counted file
  within_limits = counted file numbered limits

  pub objects_few : length (member_domains 0 (fields_at object_members file)) ≤ most_members
  objects_few = rw (members_counted object_members 0 file) within_limits.objects

  pub functions_few : length (member_domains 0 (fields_at subject_members file)) ≤ most_members
  functions_few = rw (members_counted subject_members 0 file) within_limits.functions

  pub file_bounded : Bounded file
  unfolding entries_of
  file_bounded = record { entries = rw (stretches_counted principal file) within_limits.entries; descriptors = within_limits.descriptors }

  file_fits : all_of fits file ≡ true
  unfolding fits
  file_fits = within_limits.patterns

-- its fields fit where none is too long, and the words of their names are given
module _ (t : List ℕ) (list : List FieldAt) (n : ℕ) (words starts : List ℕ)
    (numbered : all_of is_numbered (between t list 0 n) ≡ true) (limits : over_limit (between t list 0 n) ≡ no_line) where
  pub file_ready : Worded (numbers_of (between t list 0 n)) t list n words starts → Ready t list n words starts
  file_ready worded = record { fit = file_fits (between t list 0 n) numbered limits; worded = worded }

-- ---- the words of its policy

all_descriptors_lem : (file : List Field) (es : List (List Field)) → flat_map (λ e. flat_map descriptor_words (e.reads ++ e.writes)) (map (entry_of file) es) ≡ descriptor_blocks file es
unfolding descriptor_blocks own_blocks access_blocks entry_of flat_map
all_descriptors_lem file [] = refl
all_descriptors_lem file (e ∷ es) = rw (flat_map_append descriptor_words (access_of file can_read e) (access_of file can_write e), all_descriptors_lem file es) refl

module _ (file : List Field) where
  abbrev object_words : List ℕ
  object_words = member_domains 0 (fields_at object_members file)

  abbrev function_words : List ℕ
  function_words = member_domains 0 (fields_at subject_members file)

  abbrev head_words : List ℕ
  head_words = mark ∷ length (domains_at object_name file) ∷ length (domains_at subject_name file) ∷ length object_words ∷ length function_words ∷ length (entries_of file) ∷ []

  file_words : words_of (policy_of file) ≡ padded head_size head_words ++ (map_blocks file ++ privilege_blocks file)
  unfolding words_of policy_of entry_blocks map_blocks privilege_blocks
  file_words = rw (length-map, all_descriptors_lem file (entries_of file), append_assoc) refl

-- ---- two blocks that fill their part

module _ (a b : ℕ) (one out y₁ : List ℕ) (z : out ≡ replicate (a + b) 0) (e₁ : y₁ ≡ one) (l₁ : length one ≡ a) where
  abbrev between₁ : List ℕ
  between₁ = take 0 out ++ (y₁ ++ drop a (drop 0 out))

  one_laid : Laid (a + b) a y₁ [] between₁
  one_laid =
      let first : Laid (a + b) 0 [] (drop (a + b) out) out = laid_first (a + b) 0 out (omega arith) (rw z (take_zeros (a + b) (a + b) (omega arith))) in
      let none : drop (a + b) out ≡ [] = rw z (drop_of_length-le (replicate (a + b) 0) {i = a + b} (rw (length-replicate {A = ℕ} (a + b) 0) (omega arith))) in
      rw (zero-add, none) at (laid_more first a y₁ (rw e₁ l₁) (omega arith))

  two_zeros : take b (drop a between₁) ≡ replicate b 0
  two_zeros = laid_zeros one_laid b (omega arith)

  two_laid : (two y₂ : List ℕ) → y₂ ≡ two → length two ≡ b → take a between₁ ++ (y₂ ++ drop b (drop a between₁)) ≡ one ++ two
  two_laid two y₂ e₂ l₂ =
      let both : y₁ ++ y₂ ≡ one ++ two = rw (e₁, e₂) refl in
      laid_all (laid_more one_laid b y₂ (rw e₂ l₂) (omega arith)) refl ∙ append-nil (y₁ ++ y₂) ∙ both

-- ---- the blocks one behind the other

module _ (file : List Field) (numbered : all_of is_numbered file ≡ true) (limits : over_limit file ≡ no_line) (table : List ℕ)
    (room : table_words ≤ length table) (zeros : take table_words table ≡ replicate table_words 0) where
  maps_size_lem : length (map_blocks file) ≡ maps_size
  unfolding map_blocks
  maps_size_lem =
      length-append (padded most_members (object_words file)) (padded most_members (function_words file))
      ∙ rw (length_padded most_members (object_words file) (objects_few file numbered limits), length_padded most_members (function_words file) (functions_few file numbered limits)) refl

  laid₀ : Laid table_words objects_at (replicate objects_at 0) (drop table_words table) table
  laid₀ = laid_first table_words objects_at table (omega arith) zeros

  maps_zeros : take maps_size (drop objects_at table) ≡ replicate maps_size 0
  maps_zeros = laid_zeros laid₀ maps_size (omega arith)

  pub maps_long : length (take maps_size (drop objects_at table)) ≡ maps_size
  maps_long = ap length maps_zeros ∙ length-replicate {A = ℕ} maps_size 0

  pub maps_unwritten : take maps_size (drop objects_at table) ≡ replicate (length (take maps_size (drop objects_at table))) 0
  maps_unwritten = maps_zeros ∙ ap (λ (k : ℕ). replicate k 0) (sym maps_long)

  module _ (y₁ : List ℕ) (e₁ : y₁ ≡ map_blocks file) where
    abbrev table₁ : List ℕ
    table₁ = take objects_at table ++ (y₁ ++ drop maps_size (drop objects_at table))

    laid₁ : Laid table_words entries_at (replicate objects_at 0 ++ y₁) (drop table_words table) table₁
    laid₁ = laid_more laid₀ maps_size y₁ (rw e₁ maps_size_lem) (omega arith)

    privileges_zeros : take privileges_size (drop entries_at table₁) ≡ replicate privileges_size 0
    privileges_zeros = laid_zeros laid₁ privileges_size (omega arith)

    pub privileges_long : length (take privileges_size (drop entries_at table₁)) ≡ privileges_size
    privileges_long = ap length privileges_zeros ∙ length-replicate {A = ℕ} privileges_size 0

    pub privileges_unwritten : take privileges_size (drop entries_at table₁) ≡ replicate (length (take privileges_size (drop entries_at table₁))) 0
    privileges_unwritten = privileges_zeros ∙ ap (λ (k : ℕ). replicate k 0) (sym privileges_long)

    module _ (y₂ : List ℕ) (e₂ : y₂ ≡ privilege_blocks file) (l₂ : length (privilege_blocks file) ≡ privileges_size) where
      abbrev table₂ : List ℕ
      table₂ = take entries_at table₁ ++ (y₂ ++ drop privileges_size (drop entries_at table₁))

      laid₂ : Laid table_words table_words (replicate objects_at 0 ++ y₁ ++ y₂) (drop table_words table) table₂
      laid₂ = laid_more laid₁ privileges_size y₂ (rw e₂ l₂) (omega arith)

      grouped : ◌≡◌ {A = List ℕ} (replicate objects_at 0 ++ y₁ ++ y₂) (replicate objects_at 0 ++ (y₁ ++ y₂))
      grouped = append_assoc (replicate objects_at 0) y₁ y₂

      whole : table₂ ≡ replicate objects_at 0 ++ (y₁ ++ y₂) ++ drop table_words table
      whole = laid_all laid₂ refl ∙ ap (λ (l : List ℕ). l ++ drop table_words table) grouped

      pub head_unwritten : take head_size (drop 0 table₂) ≡ replicate head_size 0
      head_unwritten = front_zeros head_size (y₁ ++ y₂) (drop table_words table) table₂ [] whole

      module _ (t subjectIx : List ℕ) (objects subjects functions : ℕ) (of_objects : OfObjects objects file) (of_subjects : OfSubjects t subjectIx subjects file)
          (of_functions : OfFunctions functions file) (members entries : ℕ) (c : members ≡ length (object_words file)) (d : entries ≡ length (entries_of file)) (y₃ : List ℕ)
          (e₃ : y₃ ≡ padded head_size (mark ∷ objects ∷ subjects ∷ members ∷ functions ∷ entries ∷ [])) where
        counts : y₃ ≡ padded head_size (head_words file)
        unfolding identifiers_at
        counts =
            e₃
            ∙ rw (of_objects.counted, of_subjects.index.index.count, of_functions.counted, c, d, ← members_length 0 (fields_at subject_members file)) refl

        pub table_written : take 0 table₂ ++ (y₃ ++ drop head_size (drop 0 table₂)) ≡ words_of (policy_of file) ++ drop table_words table
        table_written =
            let words : y₃ ++ (y₁ ++ y₂) ≡ words_of (policy_of file) = rw (counts, e₁, e₂) (sym (file_words file)) in
            front_laid head_size (y₁ ++ y₂) (drop table_words table) table₂ y₃ whole ∙ ap (λ (l : List ℕ). l ++ drop table_words table) words

-- ---- the objects and the functions; the entries and the descriptors

-- the members that the maps have are all of them
module _ (t : List ℕ) (list : List FieldAt) (n end : ℕ) (q : end ≡ maps_end list n) where
  members_in_maps : (place : ℕ) → place < principal → member_domains 0 (fields_at place (between t list 0 end)) ≡ member_domains 0 (fields_at place (between t list 0 n))
  members_in_maps place l = ap (member_domains 0) (fields_in_maps t list n end place q l)

  pub few_in_maps : (most : ℕ) → n ≤ most → end ≤ most
  few_in_maps most h = let l : end ≤ n = rw q (maps_within list n) in omega arith

  pub few_objects_lem : length (member_domains 0 (fields_at 3 (between t list 0 n))) ≤ most_members → length (member_domains 0 (fields_at 3 (between t list 0 end))) ≤ most_members
  few_objects_lem h = rw (members_in_maps object_members (omega arith)) h

  pub few_functions_lem : length (member_domains 0 (fields_at 6 (between t list 0 n))) ≤ most_members → length (member_domains 0 (fields_at 6 (between t list 0 end))) ≤ most_members
  few_functions_lem h = rw (members_in_maps subject_members (omega arith)) h

  pub objects_counted : (r : ℕ) → r ≡ length (member_domains 0 (fields_at 3 (between t list 0 end))) → r ≡ length (member_domains 0 (fields_at 3 (between t list 0 n)))
  objects_counted r e = e ∙ rw (members_in_maps object_members (omega arith)) refl

module _ (out : List ℕ) (l : length out ≡ maps_size) (z : out ≡ replicate (length out) 0) where
  maps_out : out ≡ replicate (most_members + most_members) 0
  maps_out = z ∙ ap (λ (k : ℕ). replicate k 0) l

  pub objects_unwritten : take most_members (drop 0 out) ≡ replicate most_members 0
  objects_unwritten = rw maps_out (take_zeros most_members (most_members + most_members) (omega arith))

  module _ (t : List ℕ) (list : List FieldAt) (n end : ℕ) (q : end ≡ maps_end list n) (y₁ : List ℕ) (e₁ : y₁ ≡ padded most_members (object_words (between t list 0 end)))
      (few : length (object_words (between t list 0 n)) ≤ most_members) where
    objects_laid : y₁ ≡ padded most_members (object_words (between t list 0 n))
    objects_laid = e₁ ∙ rw (members_in_maps t list n end q object_members (omega arith)) refl

    pub functions_unwritten : take most_members (drop most_members (take 0 out ++ (y₁ ++ drop most_members (drop 0 out)))) ≡ replicate most_members 0
    functions_unwritten =
        two_zeros most_members most_members (padded most_members (object_words (between t list 0 n))) out y₁ maps_out objects_laid (length_padded most_members (object_words (between t list 0 n)) few)

    pub maps_written : (y₂ : List ℕ) → y₂ ≡ padded most_members (function_words (between t list 0 end)) → length (function_words (between t list 0 n)) ≤ most_members
        → take most_members (take 0 out ++ (y₁ ++ drop most_members (drop 0 out))) ++ (y₂ ++ drop most_members (drop most_members (take 0 out ++ (y₁ ++ drop most_members (drop 0 out)))))
        ≡ map_blocks (between t list 0 n)
    unfolding map_blocks
    maps_written y₂ e₂ few₂ =
        two_laid most_members most_members (padded most_members (object_words (between t list 0 n))) out y₁ maps_out objects_laid
        (length_padded most_members (object_words (between t list 0 n)) few) (padded most_members (function_words (between t list 0 n))) y₂
        (e₂ ∙ rw (members_in_maps t list n end q subject_members (omega arith)) refl) (length_padded most_members (function_words (between t list 0 n)) few₂)

module _ (out : List ℕ) (l : length out ≡ privileges_size) (z : out ≡ replicate (length out) 0) where
  privileges_out : out ≡ replicate (entries_size + descriptors_size) 0
  privileges_out = z ∙ ap (λ (k : ℕ). replicate k 0) l

  pub entries_unwritten : take entries_size (drop 0 out) ≡ replicate entries_size 0
  entries_unwritten = rw privileges_out (take_zeros entries_size (entries_size + descriptors_size) (omega arith))

  module _ (file : List Field) (few : Bounded file) (y₁ : List ℕ) (entries : ℕ)
      (f₁ : Filled entry_size (length (entries_of file)) (entry_blocks file (entries_of file)) (take entries_size (drop 0 out)) y₁ entries) where
    e₁ : y₁ ≡ padded entries_size (entry_blocks file (entries_of file))
    e₁ = f₁.holds ∙ ap (λ (k : ℕ). padded k (entry_blocks file (entries_of file))) (ap length entries_unwritten ∙ length-replicate {A = ℕ} entries_size 0)

    entries_size_lem : length (padded entries_size (entry_blocks file (entries_of file))) ≡ entries_size
    entries_size_lem = length_padded entries_size (entry_blocks file (entries_of file)) (omega (arith, f₁.long, f₁.counted, few.entries))

    abbrev out₁ : List ℕ
    out₁ = take 0 out ++ (y₁ ++ drop entries_size (drop 0 out))

    pub descriptors_unwritten : take descriptors_size (drop entries_size out₁) ≡ replicate descriptors_size 0
    descriptors_unwritten = two_zeros entries_size descriptors_size (padded entries_size (entry_blocks file (entries_of file))) out y₁ privileges_out e₁ entries_size_lem

    module _ (y₂ : List ℕ) (descriptors : ℕ)
        (f₂ : Filled descriptor_size (total descriptors_in (entries_of file)) (descriptor_blocks file (entries_of file)) (take descriptors_size (drop entries_size out₁)) y₂ descriptors) where
      e₂ : y₂ ≡ padded descriptors_size (descriptor_blocks file (entries_of file))
      e₂ = f₂.holds ∙ ap (λ (k : ℕ). padded k (descriptor_blocks file (entries_of file))) (ap length descriptors_unwritten ∙ length-replicate {A = ℕ} descriptors_size 0)

      descriptors_size_lem : length (padded descriptors_size (descriptor_blocks file (entries_of file))) ≡ descriptors_size
      descriptors_size_lem = length_padded descriptors_size (descriptor_blocks file (entries_of file)) (omega (arith, f₂.long, f₂.counted, few.descriptors))

      pub privileges_written : take entries_size out₁ ++ (y₂ ++ drop descriptors_size (drop entries_size out₁)) ≡ privilege_blocks file
      unfolding privilege_blocks
      privileges_written =
          two_laid entries_size descriptors_size (padded entries_size (entry_blocks file (entries_of file))) out y₁ privileges_out e₁ entries_size_lem
          (padded descriptors_size (descriptor_blocks file (entries_of file))) y₂ e₂ descriptors_size_lem

      pub privileges_size_lem : length (privilege_blocks file) ≡ privileges_size
      unfolding privilege_blocks
      privileges_size_lem =
          length-append (padded entries_size (entry_blocks file (entries_of file))) (padded descriptors_size (descriptor_blocks file (entries_of file))) ∙ rw (entries_size_lem, descriptors_size_lem) refl

-- ---- the counts of the head

pub members_few : (file : List Field) (members : ℕ) → members ≡ length (member_domains 0 (fields_at object_members file)) → all_of is_numbered file ≡ true → over_limit file ≡ no_line → members ≤ most_members
members_few file members e numbered limits = rw e (objects_few file numbered limits)

pub entries_few : (file : List Field) (entries : ℕ) → entries ≡ length (entries_of file) → all_of is_numbered file ≡ true → over_limit file ≡ no_line → entries ≤ most_entries
entries_few file entries e numbered limits = rw e (file_bounded file numbered limits).entries
