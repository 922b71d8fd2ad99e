-- A loop over the entries or items of a file: what is known of the file is known of the file of each.
use mathlib.Core.Path.{◌≡◌, ap, ◌∙◌}
use mathlib.Core.Bool.{false}
use mathlib.Core.List.{List, []}
use Prim.Native.Nat.{ℕ, ◌+◌, ◌≤◌}
use lib.ListN.{length}
use Rattle.paper.specs.Limits.{most_elements, most_domains}
use Rattle.paper.specs.Lists.{elements}
use Rattle.paper.specs.Listing.{object_name, subject_name, execution_context, call_context_in, object_context_in}
use Rattle.paper.specs.Entries.{value_at, items_of}
use Rattle.paper.specs.Rules.{repeats, domains_at, descriptors_in}
use Rattle.paper.specs.Policy.{entry_of, descriptor_of}
use Rattle.paper.specs.Table.{entry_size, entry_words, descriptor_size, descriptor_words, padded}
use Rattle.file_fields.specs.Places.{IsAccess}
use Rattle.file_fields.specs.Stretches.{fields_of, stretch_of, left_of, Begins, IsNext}
use Rattle.file_fields.specs.declared.file.File.{File}
use Rattle.file_fields.specs.declared.stretch.Stretch.{Stretch}
use Rattle.file_fields.specs.declared.stretch.Stretches.{Stretches}
use Rattle.file_fields.proofs.Left.{left_first}
use Rattle.file_index.specs.Maps.{Mapped}
use Rattle.file_words.specs.Files.{WordedFile}
use Rattle.file_words.specs.declared.Words.{Words}
use Rattle.file_table.specs.Blocks.{own_blocks, Filled}
use Rattle.file_table.specs.Ready.{ReadyFile, OfObjects, OfSubjects}
use Rattle.file_table.proofs.Fitting.{entry_pattern, entry_size_lem, item_pattern, item_size}

pub left_items : (entry : Stretch) (access : ℕ) (s : Stretches) → Begins entry.file (access + 1) entry.from entry.to s → left_of s ≡ items_of access (stretch_of entry)
unfolding items_of
left_items entry access s b = left_first entry.file (access + 1) entry.from entry.to s b entry.ordered

-- a stretch of a file that is ready
module _ (file : File) (words : Words) (ready : ReadyFile file words) (x : Stretch) (same : x.file ≡ file) where
  its_end : x.to ≤ length file.fields.now
  its_end = rw same at x.listed

  pub its_words : WordedFile x.file words
  its_words = rw same ready.worded

  pub its_ready : ReadyFile x.file words
  its_ready = rw same ready

  pub entry_short : length (elements (value_at (call_context_in execution_context) (stretch_of x))) ≤ most_elements
  entry_short = rw same (entry_pattern file.text.now file.fields.now (length file.fields.now) words.words.now words.starts.now ready x.from x.to x.ordered its_end)

  pub entry_sized : length (entry_words (entry_of (fields_of file) (stretch_of x))) ≡ entry_size
  entry_sized = rw same (entry_size_lem file.text.now file.fields.now (length file.fields.now) words.words.now words.starts.now ready x.from x.to x.ordered its_end (fields_of file))

  module _ (access : ℕ) (which : IsAccess access) where
    pub item_short : length (elements (value_at (call_context_in (object_context_in access)) (stretch_of x))) ≤ most_elements
    item_short = rw same (item_pattern file.text.now file.fields.now (length file.fields.now) words.words.now words.starts.now ready x.from x.to x.ordered its_end access which)

    pub item_sized : length (descriptor_words (descriptor_of (fields_of file) access (stretch_of x))) ≡ descriptor_size
    item_sized = rw same (item_size file.text.now file.fields.now (length file.fields.now) words.words.now words.starts.now ready x.from x.to x.ordered its_end (fields_of file) access which)

module _ (file : File) (x : Stretch) (same : x.file ≡ file) where
  pub its_subjects : (ix : List ℕ) (n : ℕ) → OfSubjects file.text.now ix n (fields_of file) → Mapped x.file.text.now ix n most_domains (domains_at subject_name (fields_of x.file))
  its_subjects ix n o = rw same o.index

  pub subjects_apart : (ix : List ℕ) (n : ℕ) → OfSubjects file.text.now ix n (fields_of file) → repeats [] (domains_at subject_name (fields_of x.file)) ≡ false
  subjects_apart ix n o = rw same o.apart

  pub its_objects : (n : ℕ) → OfObjects n (fields_of file) → OfObjects n (fields_of x.file)
  its_objects n o = rw same o

  pub objects_counted : (n : ℕ) → OfObjects n (fields_of file) → n ≡ length (domains_at object_name (fields_of x.file))
  objects_counted n o = rw same o.counted

  pub objects_apart : (n : ℕ) → OfObjects n (fields_of file) → repeats [] (domains_at object_name (fields_of x.file)) ≡ false
  objects_apart n o = rw same o.apart

  pub entry_told : (ys : List ℕ) → ys ≡ entry_words (entry_of (fields_of x.file) (stretch_of x)) → ys ≡ entry_words (entry_of (fields_of file) (stretch_of x))
  entry_told ys h = h ∙ ap (λ (f : File). entry_words (entry_of (fields_of f) (stretch_of x))) same

  pub item_told : (access : ℕ) (ys : List ℕ) → ys ≡ descriptor_words (descriptor_of (fields_of x.file) access (stretch_of x)) → ys ≡ descriptor_words (descriptor_of (fields_of file) access (stretch_of x))
  item_told access ys h = h ∙ ap (λ (f : File). descriptor_words (descriptor_of (fields_of f) access (stretch_of x))) same

  pub own_told : (old new : List ℕ) (r : ℕ) → Filled descriptor_size (descriptors_in (stretch_of x)) (own_blocks (fields_of x.file) (stretch_of x)) old new r
      → Filled descriptor_size (descriptors_in (stretch_of x)) (own_blocks (fields_of file) (stretch_of x)) old new r
  own_told old new r h = record {
    counted = h.counted;
    long = h.long ∙ ap (λ (f : File). length (own_blocks (fields_of f) (stretch_of x))) same;
    holds = h.holds ∙ ap (λ (f : File). padded (length old) (own_blocks (fields_of f) (stretch_of x))) same;
  }

-- the next of a loop
module _ (file : File) (s : Stretches) (x : Stretch) (r : Stretches) (next : IsNext s x r) (same : s.rest.file ≡ file) where
  pub its_file : x.file ≡ file
  its_file = next.file ∙ same

  pub file_stays : r.rest.file ≡ file
  file_stays = next.rest_file ∙ same
