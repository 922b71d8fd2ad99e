-- The parts of an entry and of a descriptor, each written behind those before it.
use mathlib.Core.Path.{◌≡◌, refl, sym, ap, ◌∙◌}
use mathlib.Core.Bool.{Bool, true, false, cond}
use mathlib.Core.List.{List, [], ◌∷◌, ◌++◌, map, append-nil, append_assoc}
use Prim.Native.Nat.{ℕ, ◌+◌, ◌-◌, ◌*◌, ◌<◌, ◌≤◌}
use native.Mathlib.Omega.{arith}
use lib.ListN.{length, take, drop, set, replicate, length-append, length-map, length-replicate}
use borrow.Author.Tests.{leb-false, le-leb, lt-leb}
use borrow.Rule.Slice.PartMut.{put_mid}
use Rattle.paper.specs.Common.{is, number_in}
use Rattle.paper.specs.Limits.{most_domains, most_elements}
use Rattle.paper.specs.Lists.{elements}
use Rattle.paper.specs.Listing.{object_name, subject_name, subject_members, subject_of_entry, execution_context, can_call, can_return, can_read, can_write}
use Rattle.paper.specs.Listing.{call_context_in, objects_in, object_context_in}
use Rattle.paper.specs.Page.{Field}
use Rattle.paper.specs.Entries.{value_at, items_of}
use Rattle.paper.specs.Rules.{descriptors_of, repeats, domains_at, identifiers_at}
use Rattle.paper.specs.Policy.{context_of, grant_of, descriptor_of, access_of, entry_of}
use Rattle.paper.specs.Table.{grant_size, set_size, entry_size, descriptor_size, padded, context_words, grant_words, entry_words, descriptor_words}
use Rattle.laws.proofs.Tests.{neither_left}
use Rattle.laws.proofs.Places.{drop_zeros}
use Rattle.laws.proofs.Stretches.{length_padded}
use Rattle.laws_table.proofs.Grants.{length_grant}
use Rattle.file_fields.specs.Fields.{between, next_at, value_in}
use Rattle.file_fields.specs.Places.{IsAccess, IsContext}
use Rattle.file_fields.proofs.Places.{is_execution_context, is_object_context}
use Rattle.file_index.specs.Buckets.{numbers_in}
use Rattle.file_index.specs.Maps.{Mapped}
use Rattle.file_words.specs.Words.{numbers_of, words_in, Worded}
use Rattle.file_blocks.specs.Written.{put_from, context_in, counts_by, every_in, with_words, grant_in, grant_by}
use Rattle.file_blocks.proofs.Behind.{take_zeros, zero_behind, put_behind, words_behind, one_zero_more}
use Rattle.file_blocks.proofs.Contexts.{length_context, context_is}
use Rattle.file_blocks.proofs.Granted.{grant_is}
use Rattle.file_blocks.proofs.Placed.{pattern_few, context_in_lem, calls_in, returns_in_lem, objects_in_lem}
use Rattle.file_fields.specs.declared.file.FieldAt.{FieldAt}

-- ---- a grant

module _ (out : List ℕ) (z : out ≡ replicate grant_size 0) where
  grant_long : length out ≡ grant_size
  grant_long = rw z (length-replicate {A = ℕ} grant_size 0)

  pub room_for_every : 0 < length out
  room_for_every = omega (arith, grant_long)

  pub room_for_set : 1 ≤ length out
  room_for_set = omega (arith, grant_long)

  module _ (t : List ℕ) (list : List FieldAt) (words starts : List ℕ) (place from to n i : ℕ) (a : Bool) (q : i ≡ next_at list place from (to - from)) (p : a ≡ every_in t list i to) where
    pub every_written : a ≡ true → set out 0 1 ≡ grant_in t list words starts place from to n
    unfolding grant_in
    every_written h = rw (← q, z, ← p, h) refl

    pub set_written : (s ys : List ℕ) → a ≡ false → s ≡ words_in words starts i → ys ≡ with_words n (take (length out - 1) (drop 1 out)) s
        → put_mid 1 (length out - 1) out ys ≡ grant_in t list words starts place from to n
    unfolding grant_in
    set_written s ys h es ey =
        let w : ys ≡ with_words n (replicate set_size 0) (words_in words starts i) = ey ∙ rw (z, es) refl in
        rw (← q, z, ← p, h, w) (ap (λ (l : List ℕ). 0 ∷ l) (append-nil (with_words n (replicate set_size 0) (words_in words starts i))))

-- whether a field grants every domain
module _ (t : List ℕ) (list : List FieldAt) (i to : ℕ) where
  pub every_omitted : to ≤ i → true ≡ every_in t list i to
  unfolding every_in
  every_omitted h = rw (le-leb to i h) refl

  pub every_told : (v : List ℕ) (a : Bool) → i < to → v ≡ value_in t list i → a ≡ is "all" v → a ≡ every_in t list i to
  unfolding every_in
  every_told v a h q e = rw (lt-leb to i h, ← q) e

  pub words_stand : (a : Bool) (long : ℕ) → a ≡ every_in t list i to → a ≡ false → to < long → i + 1 < long
  unfolding every_in
  words_stand a long e h l = omega (arith, leb-false to i (neither_left _ _ (sym e ∙ h)))

-- the fields of a part of the file stand in the list too
-- and where their words start
pub starts_within : (n to long : ℕ) → to ≤ n → n < long → to < long
starts_within n to long l h = omega arith

-- ---- the context, in front of the rest

module _ (out : List ℕ) where
  pub room_in_entry : out ≡ replicate entry_size 0 → 20 ≤ length out
  room_in_entry z = rw (z, length-replicate {A = ℕ} entry_size 0) (omega arith)

  pub room_in_descriptor : out ≡ replicate descriptor_size 0 → 20 ≤ length out
  room_in_descriptor z = rw (z, length-replicate {A = ℕ} descriptor_size 0) (omega arith)

  pub front_of_entry : out ≡ replicate entry_size 0 → take 20 out ≡ replicate 20 0
  front_of_entry z = rw z (take_zeros 20 entry_size (omega arith))

  pub front_of_descriptor : out ≡ replicate descriptor_size 0 → take 20 out ≡ replicate 20 0
  front_of_descriptor z = rw z (take_zeros 20 descriptor_size (omega arith))

front_written : (size : ℕ) (xs out ys : List ℕ) → out ≡ replicate size 0 → 20 ≤ size → length xs ≡ 20 → ys ≡ xs → ys ++ drop 20 out ≡ padded size xs
unfolding padded
front_written size xs out ys z l e q = rw (q, z, drop_zeros size 20, e) refl

-- ---- the parts of an entry

module _ (context : List ℕ) (context_long : length context ≡ 20) (out ys : List ℕ) (z : out ≡ replicate entry_size 0) (e : ys ≡ context) where
  after_context_lem : ys ++ drop 20 out ≡ padded entry_size context
  after_context_lem = front_written entry_size context out ys z (omega arith) context_long e

  stays_long : length (ys ++ drop 20 out) ≡ entry_size
  stays_long = rw after_context_lem (length_padded entry_size context (omega (arith, context_long)))

  module _ (a b c : ℕ) (counted : List ℕ) (f : counted ≡ put_from 20 (a ∷ b ∷ c ∷ []) (ys ++ drop 20 out)) where
    -- with its subject, its counts and the spare word
    abbrev principal : List ℕ
    principal = context ++ (a ∷ b ∷ c ∷ []) ++ (0 ∷ [])

    principal_long : length principal ≡ 24
    principal_long = rw (length-append, length-append) (omega (arith, context_long))

    after_counts : counted ≡ padded entry_size principal
    after_counts =
        f ∙ rw after_context_lem
        (ap (λ (i : ℕ). put_from i (a ∷ b ∷ c ∷ []) (padded entry_size context)) (sym context_long)
        ∙ words_behind entry_size context (a ∷ b ∷ c ∷ []) (omega (arith, context_long))
        ∙ one_zero_more entry_size (context ++ (a ∷ b ∷ c ∷ [])) (rw length-append (omega (arith, context_long))))

    calls_part : take 9 (drop 24 counted) ≡ replicate 9 0
    calls_part = rw after_counts (zero_behind entry_size 24 9 principal principal_long (omega arith))

    calls_end : 33 ≤ length counted
    calls_end = rw (after_counts, length_padded entry_size principal (omega (arith, principal_long))) (omega arith)

    module _ (calls : List ℕ) (lc : length calls ≡ 9) where
      after_calls : put_mid 24 9 counted calls ≡ padded entry_size (principal ++ calls)
      after_calls = rw after_counts (put_behind entry_size 24 9 principal principal_long (omega arith) calls lc)

      calls_long : length (principal ++ calls) ≡ 33
      calls_long = rw length-append (omega (arith, principal_long))

      returns_end : 42 ≤ length (put_mid 24 9 counted calls)
      returns_end = rw (after_calls, length_padded entry_size (principal ++ calls) (omega (arith, calls_long))) (omega arith)

      returns_part : take 9 (drop 33 (put_mid 24 9 counted calls)) ≡ replicate 9 0
      returns_part = rw after_calls (zero_behind entry_size 33 9 (principal ++ calls) calls_long (omega arith))

      after_returns : (returns : List ℕ) → length returns ≡ 9 → put_mid 33 9 (put_mid 24 9 counted calls) returns ≡ padded entry_size (principal ++ calls ++ returns)
      after_returns returns lr = rw after_calls (put_behind entry_size 33 9 (principal ++ calls) calls_long (omega arith) returns lr)

-- as many descriptors as are counted
access_counted : (file : List Field) (access : ℕ) (fs : List Field) → descriptors_of access fs ≡ length (access_of file access fs)
unfolding descriptors_of access_of
access_counted file access fs = go (is "all" (value_at access fs))
  where
    go : (b : Bool) → cond b 1 (length (items_of access fs)) ≡ length (cond b (descriptor_of file access [] ∷ []) (map (descriptor_of file access) (items_of access fs)))
    go true = refl
    go false = sym (length-map (items_of access fs) (descriptor_of file access))

parts_joined : (xs calls returns : List ℕ) (a b c : ℕ) → xs ++ (a ∷ b ∷ c ∷ []) ++ (0 ∷ []) ++ calls ++ returns ≡ xs ++ (a ∷ b ∷ c ∷ 0 ∷ (calls ++ returns))
parts_joined xs calls returns a b c = rw (append_assoc, append_assoc, append_assoc) refl

-- the context and the grants by the words of a file of n fields
module _ (t : List ℕ) (list : List FieldAt) (words starts : List ℕ) (n from to : ℕ) (within : to ≤ n) (worded : Worded (numbers_of (between t list 0 n)) t list n words starts) where
  -- the file, and the fields of the entry or of the item
  abbrev file : List Field
  file = between t list 0 n

  abbrev fs : List Field
  fs = between t list from to

  length_context_in : (place : ℕ) → IsContext place → length (elements (value_at (call_context_in place) fs)) ≤ most_elements
      → length (context_in t list words starts place from to) ≡ 20
  unfolding context_in
  length_context_in place which few = length_context _ _ _ _ (pattern_few t list words starts n from to within worded place which few)

  context_known : (place : ℕ) → IsContext place → context_in t list words starts place from to
      ≡ context_words (context_of (identifiers_at subject_members file) (domains_at subject_name file) place fs)
  context_known place which =
      context_in_lem t list words starts n from to within worded place which
      ∙ context_is (identifiers_at subject_members file) (domains_at subject_name file) place fs

  -- ---- an entry

  module _ (few : length (elements (value_at (call_context_in execution_context) fs)) ≤ most_elements) (out ys : List ℕ) (z : out ≡ replicate entry_size 0)
      (e : ys ≡ context_in t list words starts execution_context from to) where
    long : length (context_in t list words starts execution_context from to) ≡ 20
    long = length_context_in execution_context is_execution_context few

    pub entry_stays_long : length (ys ++ drop 20 out) ≡ entry_size
    entry_stays_long = stays_long _ long out ys z e

    module _ (six : List ℕ) (subjects : ℕ) (counted : List ℕ) (f : counted ≡ put_from 20 (counts_by (numbers_in t six subjects) fs) (ys ++ drop 20 out)) where
      pub calls_room : 33 ≤ length counted
      calls_room = calls_end _ long out ys z e _ _ _ counted f

      pub calls_zero : take 9 (drop 24 counted) ≡ replicate 9 0
      calls_zero = calls_part _ long out ys z e _ _ _ counted f

      module _ (ms : Mapped t six subjects most_domains (domains_at subject_name file)) (apart : repeats [] (domains_at subject_name file) ≡ false)
          (calls : List ℕ) (g : calls ≡ grant_in t list words starts can_call from to subjects) where
        granted : (v : List ℕ) → grant_by (number_in (domains_at subject_name file)) subjects v ≡ grant_words (grant_of (domains_at subject_name file) v)
        granted v = grant_is (domains_at subject_name file) subjects ms.index.count ms.few apart v

        calls_known : calls ≡ grant_words (grant_of (domains_at subject_name file) (value_at can_call fs))
        calls_known = g ∙ calls_in t list words starts n from to within worded subjects ∙ granted (value_at can_call fs)

        calls_nine : length calls ≡ 9
        calls_nine = ap length calls_known ∙ length_grant _

        pub returns_room : 42 ≤ length (put_mid 24 9 counted calls)
        returns_room = returns_end _ long out ys z e _ _ _ counted f calls calls_nine

        pub returns_zero : take 9 (drop 33 (put_mid 24 9 counted calls)) ≡ replicate 9 0
        returns_zero = returns_part _ long out ys z e _ _ _ counted f calls calls_nine

        pub entry_written : (returns : List ℕ) → returns ≡ grant_in t list words starts can_return from to subjects
            → put_mid 33 9 (put_mid 24 9 counted calls) returns ≡ entry_words (entry_of file fs)
        unfolding entry_words entry_of
        entry_written returns h =
            let r : returns ≡ grant_words (grant_of (domains_at subject_name file) (value_at can_return fs)) =
            h ∙ returns_in_lem t list words starts n from to within worded subjects ∙ granted (value_at can_return fs) in
            after_returns _ long out ys z e _ _ _ counted f calls calls_nine returns (ap length r ∙ length_grant _)
            ∙ ap (padded entry_size) (parts_joined (context_in t list words starts execution_context from to) calls returns _ _ _
            ∙ rw (
              context_known execution_context is_execution_context,
              ms.index.knows (value_at subject_of_entry fs),
              access_counted file can_read fs,
              access_counted file can_write fs,
              calls_known,
              r,
            ) refl)

  -- ---- a descriptor

  module _ (access : ℕ) (which : IsAccess access) (few : length (elements (value_at (call_context_in (object_context_in access)) fs)) ≤ most_elements)
      (out ys : List ℕ) (z : out ≡ replicate descriptor_size 0) (e : ys ≡ context_in t list words starts (object_context_in access) from to) where
    -- its context
    abbrev object_context : List ℕ
    object_context = context_in t list words starts (object_context_in access) from to

    object_context_long : length object_context ≡ 20
    object_context_long = length_context_in (object_context_in access) (is_object_context access which) few

    after_object_context : ys ++ drop 20 out ≡ padded descriptor_size object_context
    after_object_context = front_written descriptor_size object_context out ys z (omega arith) object_context_long e

    pub objects_zero : take 9 (drop 20 (ys ++ drop 20 out)) ≡ replicate 9 0
    objects_zero = rw after_object_context (zero_behind descriptor_size 20 9 object_context object_context_long (omega arith))

    pub objects_room : 29 ≤ length (ys ++ drop 20 out)
    objects_room = rw (after_object_context, length_padded descriptor_size object_context (omega (arith, object_context_long))) (omega arith)

    pub descriptor_written : (objects : ℕ) → objects ≡ length (domains_at object_name file) → objects ≤ most_domains → repeats [] (domains_at object_name file) ≡ false
        → (granted : List ℕ) → granted ≡ grant_in t list words starts (objects_in access) from to objects
        → put_mid 20 9 (ys ++ drop 20 out) granted ≡ descriptor_words (descriptor_of file access fs)
    unfolding descriptor_words descriptor_of
    descriptor_written objects count few apart granted g =
        let q : granted ≡ grant_words (grant_of (domains_at object_name file) (value_at (objects_in access) fs)) =
        g ∙ objects_in_lem t list words starts n from to within worded access which objects
        ∙ grant_is (domains_at object_name file) objects count few apart (value_at (objects_in access) fs) in
        let w : put_mid 20 9 (ys ++ drop 20 out) granted ≡ padded descriptor_size (object_context ++ granted) =
        rw after_object_context (put_behind descriptor_size 20 9 object_context object_context_long (omega arith) granted (ap length q ∙ length_grant _)) in
        w ∙ rw (context_known (object_context_in access) (is_object_context access which), q) refl
