-- What the rules and the table ask of the fields of a text, from what its page and the rules before them give.
use mathlib.Core.Path.{◌≡◌, refl, sym, ◌∙◌}
use mathlib.Core.List.{List}
use Prim.Native.Nat.{ℕ, ◌+◌, ◌*◌, ◌<◌, ◌≤◌}
use native.Mathlib.Omega.{arith}
use lib.ListN.{length, set, replicate, length-set, length-replicate}
use Rattle.paper.specs.Limits.{text_bytes, most_entries, most_domains, most_members}
use Rattle.paper.specs.Listing.{subject_members}
use Rattle.paper.specs.Page.{Field}
use Rattle.paper.specs.Entries.{entries_of}
use Rattle.paper.specs.Rules.{over_limit, named_twice, identifiers_at, unknown_name, unbound_variable, twin_principal}
use Rattle.file_fields.specs.Fields.{between, bytes_to}
use Rattle.file_fields.specs.declared.file.FieldAt.{FieldAt}
use Rattle.file_fields.specs.Listed.{most_fields}
use Rattle.file_index.specs.Words.{multiplier_at, names_at, name_size}
use Rattle.file_index.specs.Maps.{Maps}
use Rattle.file_index.proofs.Known.{index_cleared}
use Rattle.file_names.specs.Naming.{Sound}
use Rattle.file_names.specs.Mapping.{Fresh, HasRoom, Distinct}
use Rattle.file_names.specs.declared.Named.{Named}
use Rattle.file_table.specs.Ready.{OfObjects, OfSubjects, OfFunctions}
use Rattle.file_table.proofs.Whole.{entries_few}
use Rattle.file_read.specs.Readable.{Readable}
use Rattle.file_read.proofs.Low.{over_low, twice_low, unknown_low, unbound_low, twins_low}

pub sound : (t : List ℕ) (list : List FieldAt) (n : ℕ) → bytes_to list n ≤ length t → length t ≤ text_bytes → Readable (between t list 0 n) → Sound t list n
sound t list n fits small fs = record { spaced = fs.spaced; numbered = fs.numbered; small = small; fits = fits }

-- an index with no name in it
module _ (t : List ℕ) where
  fresh : (most size : ℕ) → names_at + name_size * most ≤ size → (m : ℕ) → Fresh t (set (replicate size 0) multiplier_at m) most
  fresh most size h m = record { empty = index_cleared t size m; room = rw (length-set, length-replicate) h }

  pub fresh_domains : (m : ℕ) → Fresh t (set (replicate 1921 0) multiplier_at m) most_domains
  fresh_domains m = fresh most_domains 1921 (omega arith) m

  pub fresh_members : (m : ℕ) → Fresh t (set (replicate 8193 0) multiplier_at m) most_members
  fresh_members m = fresh most_members 8193 (omega arith) m

-- room for the words of its names, and for where each field's start
half_room : (bytes size room : ℕ) → room ≡ size → bytes ≤ 2 * size → bytes ≤ 2 * room
half_room bytes size room e h = omega arith

pub words_room : (t : List ℕ) (list : List FieldAt) (n : ℕ) → Sound t list n → bytes_to list n ≤ 2 * length (replicate {A = ℕ} 32768 0)
words_room t list n s = half_room (bytes_to list n) 32768 (length (replicate {A = ℕ} 32768 0)) (length-replicate {A = ℕ} 32768 0) (omega (arith, s.fits, s.small))

pub starts_room : (n m : ℕ) → n ≤ most_fields → n < length (set (replicate 8193 0) multiplier_at m)
starts_room n m h = rw (length-set, length-replicate) (omega arith)

-- ---- a line that a rule names is one that a text can have

module _ (fs : List Field) (readable : Readable fs) (line : ℕ) where
  pub over_fits : line ≡ over_limit fs → line ≤ text_bytes
  over_fits e = rw e (over_low fs readable.low)

  pub twice_fits : line ≡ named_twice fs → line ≤ text_bytes
  twice_fits e = rw e (twice_low fs readable.low)

  pub unknown_fits : line ≡ unknown_name fs → line ≤ text_bytes
  unknown_fits e = rw e (unknown_low fs readable.low)

  pub unbound_fits : line ≡ unbound_variable fs → line ≤ text_bytes
  unbound_fits e = rw e (unbound_low fs readable.low)

  pub twin_fits : line ≡ twin_principal fs → line ≤ text_bytes
  twin_fits e = rw e (twins_low fs readable.low)

-- ---- 6 bounds the entries

pub few_entries_lem : (fs : List Field) → Readable fs → over_limit fs ≡ 0 → length (entries_of fs) ≤ most_entries
few_entries_lem fs readable limits = entries_few fs (length (entries_of fs)) refl readable.numbered limits

pub no_over : (fs : List Field) (over : ℕ) → over ≡ over_limit fs → over ≡ 0 → over_limit fs ≡ 0
no_over fs over e z = sym e ∙ z

-- ---- 7 names no line

module _ (fs : List Field) (named : Named) (once : named.twice ≡ 0) where
  module _ (t objectIx subjectIx functionIx : List ℕ)
      (known : named.twice ≡ 0 → Maps t fs objectIx subjectIx functionIx named.objects named.subjects named.functions) where
    pub objects_room : HasRoom objectIx named.objects most_domains
    objects_room = record { room = (known once).of_objects.room; few = (known once).of_objects.few }

    pub subjects_room : HasRoom subjectIx named.subjects most_domains
    subjects_room = record { room = (known once).of_subjects.room; few = (known once).of_subjects.few }

    pub functions_room : HasRoom functionIx named.functions most_members
    functions_room = record { room = (known once).of_functions.room; few = (known once).of_functions.few }

    pub objects_known : (named.twice ≡ 0 → Distinct fs) → (count : ℕ) → count ≡ named.objects → OfObjects count fs
    objects_known apart count e = rw e (record {
      counted = (known once).of_objects.index.count;
      few = (known once).of_objects.few;
      apart = (apart once).objects;
    })

    pub subjects_known : (named.twice ≡ 0 → Distinct fs) → (ix : List ℕ) (count : ℕ) → ix ≡ subjectIx → count ≡ named.subjects → OfSubjects t ix count fs
    subjects_known apart ix count d e = rw (d, e) (record { index = (known once).of_subjects; apart = (apart once).subjects })

    pub functions_known : (count : ℕ) → count ≡ named.functions → OfFunctions count fs
    functions_known count e = rw e (record { counted = (known once).of_functions.index.count; few = (known once).of_functions.few })

pub functions_few : (functions : ℕ) (fs : List Field) → OfFunctions functions fs → length (identifiers_at subject_members fs) ≤ most_members
functions_few functions fs known = rw (← known.counted) known.few
