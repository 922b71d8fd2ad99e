-- The indexes of the maps: they have room for what the limits allow, and what rule 7 finds nowhere stands in no map twice.
use mathlib.Core.Path.{◌≡◌, refl, sym, ap, ◌∙◌}
use mathlib.Core.Bool.{Bool, true, false, cond}
use mathlib.Core.List.{List, [], ◌∷◌, ◌++◌, flat_map, append-nil}
use Prim.Native.Nat.{ℕ, ◌+◌, ◌*◌, ◌<◌, ◌≤◌}
use native.Mathlib.Omega.{arith}
use lib.Dec.{eqb}
use lib.ListN.{length, set, replicate, length-set, length-append, length-replicate}
use borrow.Author.Tests.{eqb-true, ne_eqb}
use Rattle.paper.specs.Common.{any_of, all_of}
use Rattle.paper.specs.Limits.{most_domains, most_members}
use Rattle.paper.specs.Listing.{object_name, object_members, subject_name, subject_members, principal}
use Rattle.paper.specs.Page.{Field}
use Rattle.paper.specs.Entries.{is_at_one}
use Rattle.paper.specs.Rules.{earlier, earliest, first_with, repeated, domain_named, members_named, repeats_in_list, named_twice, over_limit, domains_at, identifiers_at}
use Rattle.laws.proofs.Tests.{both_left, both_right}
use Rattle.laws.proofs.Counting.{flat_map_append}
use Rattle.laws_file.proofs.Scans.{earliest_none}
use Rattle.laws_file.proofs.Kept.{Counted, counted}
use Rattle.file_fields.specs.Fields.{between, maps_end}
use Rattle.file_fields.proofs.Between.{names_split}
use Rattle.file_fields.proofs.Maps.{maps_within, as_in_maps}
use Rattle.file_index.specs.Words.{names_at, name_size}
use Rattle.file_index.specs.Buckets.{Index}
use Rattle.file_index.specs.Maps as index
use Rattle.file_index.specs.Maps.{Maps}
use Rattle.file_index.proofs.Known.{index_cleared}
use Rattle.file_index.specs.declared.maps.MapNames.{MapNames}
use Rattle.file_words.specs.Words.{numbers_from, numbers_by, numbers_of, Worded}
use Rattle.file_words.proofs.Worded.{worded_known}
use Rattle.file_names.specs.Naming.{Sound, named_at, names_to, NamesEnd, IndexedAs}
use Rattle.file_names.specs.Mapping.{Fresh, HasRoom, MapsTo, Distinct}
use Rattle.file_names.specs.declared.indexes.Indexed.{Indexed}
use Rattle.file_names.specs.declared.Named.{Named}
use Rattle.file_names.proofs.Seen.{repeated_none, fewer_names}
use Rattle.file_names.proofs.Namings.{named_both, domains_named, members_named_lem, members_total, domains_total, domains_one, first_part, second_part}
use Rattle.file_fields.specs.declared.file.FieldAt.{FieldAt}

no_length : {A : Type 0} (xs : List A) → length xs ≡ 0 → xs ≡ []
no_length [] h = refl
no_length (x ∷ xs) h = absurd (omega arith)

-- ---- a cleared index

cleared_length : (size m : ℕ) → length (set (replicate size 0) 0 m) ≡ size
cleared_length size m = length-set (replicate size 0) 0 m ∙ length-replicate size 0

pub cleared : (t : List ℕ) (size m : ℕ) → Index t (set (replicate size 0) 0 m) 0 []
cleared t size m = index_cleared t size m

-- ---- the fields of the maps

module _ (t : List ℕ) (list : List FieldAt) (n end : ℕ) (e : end ≡ maps_end list n) where
  names_end : (names : Field → List (List ℕ)) → ((f : Field) → principal ≤ f.place → names f ≡ []) → NamesEnd names t list n end
  unfolding flat_map
  names_end names none =
      let within : end ≤ n = rw e (maps_within list n) in
      let blind : (fs : List Field) (f : Field) → principal ≤ f.place → flat_map names (fs ++ (f ∷ [])) ≡ flat_map names fs =
      λ fs f h. flat_map_append names fs (f ∷ []) ∙ rw (none f h) (append-nil (flat_map names fs)) in
      let all : flat_map names (between t list 0 end) ≡ flat_map names (between t list 0 n) = rw e (as_in_maps t list (flat_map names) blind n) in
      record {
        within = within;
        rest =
            no_length _ (omega (
              arith,
              ap length all,
              ap length (names_split t list names end n within),
              length-append (flat_map names (between t list 0 end)) (flat_map names (between t list end n)),
            ));
      }

  domains_end : (one other : ℕ) → one < principal → other < principal → NamesEnd (named_at one other) t list n end
  unfolding named_at is_at_one any_of
  domains_end one other h l = names_end (named_at one other) (λ f m. rw (ne_eqb f.place one (λ q. omega arith), ne_eqb f.place other (λ q. omega arith)) refl)

  members_end : (place : ℕ) → place < principal → NamesEnd (members_named place) t list n end
  unfolding members_named
  members_end place h = names_end (members_named place) (λ f m. rw (ne_eqb f.place place (λ q. omega arith)) refl)

  pub both_end : NamesEnd (named_at 2 5) t list n end
  both_end = domains_end 2 5 (omega arith) (omega arith)

  pub object_end : NamesEnd (named_at 2 2) t list n end
  object_end = domains_end 2 2 (omega arith) (omega arith)

  pub subject_end : NamesEnd (named_at 5 5) t list n end
  subject_end = domains_end 5 5 (omega arith) (omega arith)

  pub objects_end : NamesEnd (members_named 3) t list n end
  objects_end = members_end 3 (omega arith)

  pub functions_end : NamesEnd (members_named 6) t list n end
  functions_end = members_end 6 (omega arith)

-- ---- room

module _ (t : List ℕ) (list : List FieldAt) (n : ℕ) (sound : Sound t list n) (limits : over_limit (between t list 0 n) ≡ 0) where
  -- the fields
  abbrev fs : List Field
  fs = between t list 0 n

  abbrev counts : Counted fs
  counts = counted fs sound.numbered limits

  both_fit : (size : ℕ) → 2817 ≤ size → names_at + name_size * length (flat_map (named_at object_name subject_name) fs) ≤ size
  both_fit size h = omega (arith, domains_total object_name subject_name fs, counts.object_domains, counts.subject_domains)

  pub room_for_both : (m : ℕ) → names_at + name_size * length (names_to (named_at 2 5) t list n) ≤ length (set (replicate 2817 0) 0 m)
  room_for_both m = both_fit (length (set (replicate 2817 0) 0 m)) (omega (arith, cleared_length 2817 m))

  pub objects_room : (ix : List ℕ) → Fresh t ix 1024 → names_at + name_size * length (names_to (members_named 3) t list n) ≤ length ix
  objects_room ix fresh = omega (arith, members_total object_members fs, counts.objects, fresh.room)

  pub both_line : (ix : List ℕ) (r : Indexed) → IndexedAs (named_at 2 5) t ix fs r → r.twice ≡ repeated domain_named [] fs
  both_line ix r indexed = rw named_both at indexed.line

  few_objects_lem : length (flat_map (named_at object_name object_name) fs) ≤ most_domains
  few_objects_lem = omega (arith, domains_one object_name object_name fs, counts.object_domains)

  few_subjects : length (flat_map (named_at subject_name subject_name) fs) ≤ most_domains
  few_subjects = omega (arith, domains_one subject_name subject_name fs, counts.subject_domains)

  few_functions_lem : length (flat_map (members_named subject_members) fs) ≤ most_members
  few_functions_lem = omega (arith, members_total subject_members fs, counts.functions)

  pub object_room : (ix : List ℕ) → Fresh t ix 128 → names_at + name_size * length (names_to (named_at 2 2) t list n) ≤ length ix
  object_room ix fresh = omega (arith, few_objects_lem, fresh.room)

  pub subject_room : (ix : List ℕ) → Fresh t ix 128 → names_at + name_size * length (names_to (named_at 5 5) t list n) ≤ length ix
  subject_room ix fresh = omega (arith, few_subjects, fresh.room)

  pub function_room : (ix : List ℕ) → Fresh t ix 1024 → names_at + name_size * length (names_to (members_named 6) t list n) ≤ length ix
  function_room ix fresh = omega (arith, few_functions_lem, fresh.room)

  -- ---- the indexes

  -- an index of what the fields name, where no name stands twice
  module _ (names : Field → List (List ℕ)) (limit : ℕ) (few : length (flat_map names fs) ≤ limit) (ix₀ ix : List ℕ) (fresh : Fresh t ix₀ limit)
      (same : length ix ≡ length ix₀) (r : Indexed) (indexed : IndexedAs names t ix fs r) where
    within_limit : r.names ≤ limit
    within_limit = omega (arith, indexed.few)

    mapped : (known : List (List ℕ)) → flat_map names fs ≡ known → repeated names [] fs ≡ 0 → index.Mapped t ix r.names limit known
    mapped known e z = record {
      index = rw e at (indexed.index (indexed.line ∙ z));
      room = omega (arith, within_limit, fresh.room);
      few = within_limit;
    }

  -- where no domain stands twice over both maps, none does in one
  module _ (z : repeated domain_named [] fs ≡ 0) where
    both_once : repeated (named_at object_name subject_name) [] fs ≡ 0
    both_once = rw named_both z

    objects_once : repeated (named_at object_name object_name) [] fs ≡ 0
    objects_once = fewer_names (named_at object_name object_name) (named_at object_name subject_name) (first_part object_name subject_name) fs [] [] (λ x h. h) sound.numbered both_once

    subjects_once : repeated (named_at subject_name subject_name) [] fs ≡ 0
    subjects_once = fewer_names (named_at subject_name subject_name) (named_at object_name subject_name) (second_part object_name subject_name) fs [] [] (λ x h. h) sound.numbered both_once

  module _ (oix₀ oix six₀ six fix₀ fix : List ℕ) (ofresh : Fresh t oix₀ 128) (sfresh : Fresh t six₀ 128) (ffresh : Fresh t fix₀ 1024)
      (osame : length oix ≡ length oix₀) (ssame : length six ≡ length six₀) (fsame : length fix ≡ length fix₀) (o s f : Indexed)
      (oindexed : IndexedAs (named_at 2 2) t oix fs o) (sindexed : IndexedAs (named_at 5 5) t six fs s) (findexed : IndexedAs (members_named 6) t fix fs f) where
    pub maps_to : MapsTo t fs oix six fix (record { objects = o.names; subjects = s.names; functions = f.names; twice = f.twice })
    maps_to = record {
      line = findexed.line;
      maps = λ z w. record {
        of_objects = mapped (named_at 2 2) 128 few_objects_lem oix₀ oix ofresh osame o oindexed (domains_at object_name fs) (domains_named object_name fs) (objects_once z);
        of_subjects = mapped (named_at 5 5) 128 few_subjects six₀ six sfresh ssame s sindexed (domains_at subject_name fs) (domains_named subject_name fs) (subjects_once z);
        of_functions = mapped (members_named 6) 1024 few_functions_lem fix₀ fix ffresh fsame f findexed (identifiers_at subject_members fs) (members_named_lem subject_members fs) (sym findexed.line ∙ w);
      };
      few_objects = within_limit (named_at 2 2) 128 few_objects_lem oix₀ oix ofresh osame o oindexed;
      few_subjects = within_limit (named_at 5 5) 128 few_subjects six₀ six sfresh ssame s sindexed;
      few_functions = within_limit (members_named 6) 1024 few_functions_lem fix₀ fix ffresh fsame f findexed;
    }

  -- ---- 7

  module _ (d o m l a b c : ℕ) (p : d ≡ repeated domain_named [] fs) (q : o ≡ repeated (members_named 3) [] fs) (g : m ≡ repeated (members_named 6) [] fs) (h : l ≡ first_with repeats_in_list fs)
      (u : c ≡ earlier m l) (v : b ≡ earlier o c) (w : a ≡ earlier d b) where
    last_line : earlier l 0 ≡ l
    unfolding earlier
    last_line = go (eqb l 0) refl
      where
        go : (t : Bool) → eqb l 0 ≡ t → cond t 0 (cond true l 0) ≡ l
        go true e = sym (eqb-true l 0 e)
        go false e = refl

    pub twice_told : a ≡ named_twice fs
    unfolding named_twice earliest
    twice_told = rw (w, v, u, ← p, ← q, ← g, ← h, last_line) refl

    -- where nothing stands twice, no line was found
    nothing_twice : a ≡ 0 → all_of (λ k. eqb k 0) (repeated domain_named [] fs ∷ repeated (members_named 3) [] fs ∷ repeated (members_named 6) [] fs ∷ first_with repeats_in_list fs ∷ []) ≡ true
    unfolding named_twice
    nothing_twice z = earliest_none _ (sym twice_told ∙ z)

    domains_once : a ≡ 0 → repeated domain_named [] fs ≡ 0
    unfolding all_of
    domains_once z = let k = nothing_twice z in eqb-true _ _ (search both_left depth 10)

    functions_once : a ≡ 0 → repeated (members_named 6) [] fs ≡ 0
    unfolding all_of
    functions_once z = let k = nothing_twice z in eqb-true _ _ (search (both_left, both_right) depth 10)

    pub maps_told : (oix six fix : List ℕ) (r : Named) → MapsTo t fs oix six fix r → a ≡ 0 → Maps t fs oix six fix r.objects r.subjects r.functions
    maps_told oix six fix r maps z = maps.maps (domains_once z) (maps.line ∙ functions_once z)

    -- the words that the indexes gave are those that the file gives
    words_told : (oix six fix words starts : List ℕ) (r : Named) → MapsTo t fs oix six fix r
        → Worded (numbers_by t oix r.objects six r.subjects fix r.functions) t list n words starts → a ≡ 0 → Worded (numbers_of fs) t list n words starts
    words_told oix six fix words starts r maps w z =
        worded_known t fs oix six fix r.objects r.subjects r.functions (maps_told oix six fix r maps z) list n words starts w

    -- as the code has the maps
    pub words_from : (oix six fix words starts : List ℕ) (r : Named) → MapsTo t fs oix six fix r → (m : MapNames)
        → (m.objects.index.now ≡ oix) × (m.objects.count ≡ r.objects) → (m.subjects.index.now ≡ six) × (m.subjects.count ≡ r.subjects)
        → (m.functions.index.now ≡ fix) × (m.functions.count ≡ r.functions)
        → Worded (numbers_from t m) t list n words starts → a ≡ 0 → Worded (numbers_of fs) t list n words starts
    words_from oix six fix words starts r maps m x y k w z =
        let by : Worded (numbers_by t oix r.objects six r.subjects fix r.functions) t list n words starts = rw (x.0, x.1, y.0, y.1, k.0, k.1) at w in
        words_told oix six fix words starts r maps by z

    pub distinct_told : a ≡ 0 → Distinct fs
    distinct_told z = record {
      objects = rw (domains_named object_name fs) at (repeated_none (named_at object_name object_name) fs [] sound.numbered (objects_once (domains_once z)));
      subjects = rw (domains_named subject_name fs) at (repeated_none (named_at subject_name subject_name) fs [] sound.numbered (subjects_once (domains_once z)));
      functions = rw (members_named_lem subject_members fs) at (repeated_none (members_named subject_members) fs [] sound.numbered (functions_once z));
    }

-- ---- room for the names that went in

-- an index with no more names than its limit has room for them
pub still_room : (n before after : ℕ) → n < before → after ≡ before → n < after
still_room n before after h e = omega arith

pub went_room : (t : List ℕ) (ix ix₀ : List ℕ) (n limit : ℕ) → n ≤ limit → Fresh t ix₀ limit → length ix ≡ length ix₀ → HasRoom ix n limit
went_room t ix ix₀ n limit few fresh e = record { room = omega (arith, fresh.room); few = few }
