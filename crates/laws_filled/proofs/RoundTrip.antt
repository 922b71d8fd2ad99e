-- "Reading the filled text, where the filler didn't refuse, gives the same table": its fields hold to every rule, and their policy is the same.
use mathlib.Core.Path.{◌≡◌, refl, ◌∙◌}
use mathlib.Core.List.{List, []}
use mathlib.Core.Bool.{not}
use Prim.Native.Nat.{ℕ, ◌≤◌}
use native.Mathlib.Omega.{arith}
use lib.ListN.{length, take}
use borrow.Author.Tests.{eqb-true, le-ltb}
use Rattle.paper.specs.Common.{all_of}
use Rattle.paper.specs.Limits.{text_bytes, table_words, most_domains, most_members, most_entries, most_descriptors}
use Rattle.paper.specs.Listing.{object_name, object_members, subject_name, subject_members, principal}
use Rattle.paper.specs.Page.{Field, fields, page_of}
use Rattle.paper.specs.Entries.{entries_of, line_of_entry}
use Rattle.paper.specs.Rules.{earlier, earliest, first_with, one_at, members_at, descriptors_in, long_pattern, over_limit, repeated, domain_named}
use Rattle.paper.specs.Rules.{members_named, repeats_in_list, named_twice, unless_line, ruled}
use Rattle.paper.specs.declared.Reading.TheVariants.{Accepted}
use Rattle.paper.specs.declared.Filling.TheVariants.{Written}
use Rattle.paper.specs.Filled.{filled_text}
use Rattle.paper.specs.Promises.{file_of, read_answer, read_leaves, fill_answer, fill_leaves}
use Rattle.laws.proofs.Tests.{both_left, both_right}
use Rattle.laws_file.proofs.Scans.{earliest_none, first_none}
use Rattle.laws_file.proofs.Kept.{NoLine, no_line_lem, Counted, counted, all_known_lem, all_bound_lem}
use Rattle.laws_file.proofs.EachRule.{page_right, page_numbered, page_in_order}
use Rattle.laws_file.proofs.Reader.{accepted_page}
use Rattle.laws_filled.specs.Fields.{filled_fields}
use Rattle.laws_filled.proofs.Filler.{was_filled, left_text}
use Rattle.laws_filled.proofs.FilledPolicy.{filled_policy}
use Rattle.laws_filled.proofs.FilledFile.{filled_ruled}
use Rattle.laws_filled.proofs.FilledTwins.{filled_twins}
use Rattle.laws_filled.proofs.FilledLimits.{passing_silent, same_object_domains, same_subject_domains, same_objects, same_functions}
use Rattle.laws_filled.proofs.FilledLimits.{same_entries, same_descriptors}
use Rattle.laws_filled.proofs.EveryField.{filled_passes}
use Rattle.laws_filled.proofs.FilledRules.{first_silent, long_passes, lists_pass}
use Rattle.laws_filled.proofs.FilledNames.{names_filled, domains_quiet, domains_said, members_quiet, members_said, known_filled, bound_filled}

module _ (t : List ℕ) (fs : List Field) (page : page_of t ≡ fields fs) (none : NoLine fs) where
  abbrev limits : Counted fs
  limits = counted fs (page_numbered t fs page) none.limits

  filled_limits : over_limit (filled_fields fs) ≡ 0
  unfolding over_limit earliest earlier
  filled_limits =
      let same = filled_policy t fs page in
      rw (
        passing_silent (λ (f : Field). f.line) (one_at object_name) most_domains 0 (filled_fields fs)
            (omega (arith, same_object_domains fs (filled_fields fs) same, limits.object_domains)),
        passing_silent (λ (f : Field). f.line) (one_at subject_name) most_domains 0 (filled_fields fs)
            (omega (arith, same_subject_domains fs (filled_fields fs) same, limits.subject_domains)),
        passing_silent (λ (f : Field). f.line) (members_at object_members) most_members 0 (filled_fields fs)
            (omega (arith, same_objects fs (filled_fields fs) same, limits.objects)),
        passing_silent (λ (f : Field). f.line) (members_at subject_members) most_members 0 (filled_fields fs)
            (omega (arith, same_functions fs (filled_fields fs) same, limits.functions)),
        passing_silent (λ (f : Field). f.line) (one_at principal) most_entries 0 (filled_fields fs)
            (omega (arith, same_entries fs (filled_fields fs) same, limits.entries)),
        first_silent long_pattern (filled_fields fs)
            (filled_passes (λ f. not (long_pattern f)) long_passes fs (page_in_order t fs page) (page_right t fs page) limits.patterns),
        passing_silent line_of_entry descriptors_in most_descriptors 0 (entries_of (filled_fields fs))
            (omega (arith, same_descriptors fs (filled_fields fs) same, limits.descriptors)),
      )
      refl

  -- what 7 says of the file
  record NamedOnce : Type 0 where
    domains : repeated domain_named [] fs ≡ 0
    objects : repeated (members_named object_members) [] fs ≡ 0
    functions : repeated (members_named subject_members) [] fs ≡ 0
    lists : first_with repeats_in_list fs ≡ 0

  named_once : NamedOnce
  unfolding named_twice all_of
  named_once =
      let h = earliest_none _ none.twice in
      record {
        domains = eqb-true _ _ (search both_left depth 10);
        objects = eqb-true _ _ (search (both_left, both_right) depth 10);
        functions = eqb-true _ _ (search (both_left, both_right) depth 10);
        lists = eqb-true _ _ (search (both_left, both_right) depth 10);
      }

  filled_once : named_twice (filled_fields fs) ≡ 0
  unfolding named_twice earliest earlier
  filled_once =
      let o = page_in_order t fs page in
      let n = page_numbered t fs page in
      rw (
        names_filled domain_named domains_said domains_quiet fs o n named_once.domains,
        names_filled (members_named object_members) (members_said object_members) (members_quiet object_members (omega arith)) fs o n
            named_once.objects,
        names_filled (members_named subject_members) (members_said subject_members) (members_quiet subject_members (omega arith)) fs o n
            named_once.functions,
        first_silent repeats_in_list (filled_fields fs)
            (filled_passes (λ f. not (repeats_in_list f)) lists_pass fs o (page_right t fs page) (first_none repeats_in_list fs n named_once.lists)),
      )
      refl

  -- the filled text holds to every rule
  filled_rules : ruled (filled_fields fs) ≡ fields (filled_fields fs)
  unfolding ruled unless_line
  filled_rules =
      let o = page_in_order t fs page in
      let r = page_right t fs page in
      let n = page_numbered t fs page in
      rw (
        filled_limits,
        filled_once,
        known_filled fs o r (all_known_lem fs n none),
        bound_filled fs o r (all_bound_lem fs n none),
        filled_twins t fs page none.twins,
      ) refl

-- ---- the round trip, for every text that the reader accepts and whose filled text is not too long

module _ (t : List ℕ) (fs : List Field) (accepted : file_of t ≡ fields fs) (short : length (filled_text fs) ≤ text_bytes) where
  abbrev page : page_of t ≡ fields fs
  page = (accepted_page t fs accepted).0

  -- the reader accepts the filled text
  pub filled_file : file_of (filled_text fs) ≡ fields (filled_fields fs)
  filled_file = filled_ruled t fs page short ∙ filled_rules t fs page (no_line_lem fs fs (accepted_page t fs accepted).1).0

  -- answers of it what it answers of the text
  pub filled_answer : (table : List ℕ) → read_answer (filled_text fs) table ≡ read_answer t table
  unfolding read_answer
  filled_answer table = rw (filled_file, accepted) refl

  -- and leaves the same table
  pub filled_leaves : (table : List ℕ) → read_leaves (filled_text fs) table ≡ read_leaves t table
  unfolding read_leaves
  filled_leaves table = rw (filled_file, accepted, filled_policy t fs page) refl

-- ---- the same of what the filler leaves in its output

module _ (t out : List ℕ) (size : ℕ) (h : fill_answer t out ≡ Written size) where
  -- "Reading the filled text .. gives the same table", and the same answer, whatever table is lent
  pub same_reading : (table : List ℕ)
      → (read_answer (take size (fill_leaves t out)) table ≡ read_answer t table)
      × (read_leaves (take size (fill_leaves t out)) table ≡ read_leaves t table)
  same_reading table =
      let w = was_filled t out size h in
      rw (left_text t out size h)
      (filled_answer t w.fs w.accepted w.short table, filled_leaves t w.fs w.accepted w.short table)

  -- it is accepted, where the table has room
  pub filled_accepted : (table : List ℕ) → table_words ≤ length table → read_answer (take size (fill_leaves t out)) table ≡ Accepted
  unfolding read_answer
  filled_accepted table room =
      let w = was_filled t out size h in
      rw (left_text t out size h, le-ltb (length table) table_words room, filled_file t w.fs w.accepted w.short) refl

-- "Reading the filled text, where the filler didn't refuse, gives the same table."
pub round_trip : (t out table : List ℕ) (size : ℕ) → fill_answer t out ≡ Written size
    → read_leaves (take size (fill_leaves t out)) table ≡ read_leaves t table
round_trip t out table size h = (same_reading t out size h table).1
