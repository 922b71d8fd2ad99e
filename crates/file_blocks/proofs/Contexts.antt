-- A context written from its keys' values: word by word, and as the paper has it.
use mathlib.Core.Path.{◌≡◌, refl, sym, ap, ◌∙◌}
use mathlib.Core.List.{List, [], ◌∷◌, append-nil, map-map}
use Prim.Native.Nat.{ℕ, ◌+◌, ◌-◌, ◌<◌, ◌≤◌}
use native.Mathlib.Omega.{arith}
use mir.Syntax.{w16}
use mir.Val.{Fits}
use lib.ListN.{length, take, drop, set, replicate, length-map, length-set, length-replicate}
use borrow.Author.Tests.{lt-ltb, le-ltb}
use borrow.Rule.Slice.PartMut.{put_mid, same_len_mid}
use Rattle.paper.specs.Common.{bytes}
use Rattle.paper.specs.Limits.{most_elements}
use Rattle.paper.specs.Scalars.{sort_number, sort_of}
use Rattle.paper.specs.Lists.{elements}
use Rattle.paper.specs.Listing.{can_read, can_write, subject_of_entry, call_context_in}
use Rattle.paper.specs.Page.{Field}
use Rattle.paper.specs.Entries.{value_at}
use Rattle.paper.specs.Rules.{descriptors_of}
use Rattle.paper.specs.Policy.{element_of, context_of}
use Rattle.paper.specs.Table.{context_size, subject_at, padded, element_word, context_words}
use Rattle.laws.proofs.Stretches.{length_padded}
use Rattle.file_fields.specs.Fields.{between, next_at, value_or}
use Rattle.file_fields.specs.Places.{IsContext}
use Rattle.file_fields.proofs.Places.{subject_default, uid_default, gid_default, namespace_default, told_value}
use Rattle.file_index.specs.Buckets.{numbers_in}
use Rattle.file_words.specs.Words.{words_in}
use Rattle.file_blocks.specs.Written.{put_from, pattern_in, context_of_words, context_in, context_by, context_at, counts_by}
use Rattle.file_blocks.proofs.Behind.{words_written}
use Rattle.file_fields.specs.declared.file.FieldAt.{FieldAt}

-- the subject's number and the counts of descriptors
pub counts_written : (t ix : List ℕ) (n : ℕ) (fs : List Field) (v out : List ℕ) (a b c : ℕ) → v ≡ value_or (bytes "all") (bytes "[]") subject_of_entry fs
    → a ≡ numbers_in t ix n v → b ≡ descriptors_of can_read fs → c ≡ descriptors_of can_write fs
    → set (set (set out 20 a) 21 b) 22 c ≡ put_from subject_at (counts_by (numbers_in t ix n) fs) out
unfolding put_from
counts_written t ix n fs v out a b c ev ea eb ec =
    let p : v ≡ value_at subject_of_entry fs = told_value subject_of_entry fs (bytes "all") v subject_default ev in
    rw (ea, eb, ec, p) refl

-- the context at a place, by its keys
pub pattern_of : (words starts : List ℕ) (list : List FieldAt) (place from to i most : ℕ) → i ≡ next_at list (place + 1) from (to - from)
    → length (pattern_in words starts (next_at list (call_context_in place) from (to - from)) to) ≤ most → length (pattern_in words starts i to) ≤ most
pattern_of words starts list place from to i most e few = rw e few

pub context_at_lem : (t : List ℕ) (list : List FieldAt) (words starts : List ℕ) (place from to : ℕ) → IsContext place → (uid gid namespace : List ℕ) (i : ℕ)
    → uid ≡ value_or (bytes "all") (bytes "[]") (place + 2) (between t list from to) → gid ≡ value_or (bytes "all") (bytes "[]") (place + 3) (between t list from to)
    → namespace ≡ value_or (bytes "all") (bytes "[]") (place + 4) (between t list from to)
    → i ≡ next_at list (place + 1) from (to - from) → (out : List ℕ) → out ≡ context_of_words (pattern_in words starts i to) uid gid namespace
    → out ≡ context_in t list words starts place from to
unfolding context_in
context_at_lem t list words starts place from to which uid gid namespace i eu eg en ei out e =
    let u : uid ≡ value_at (place + 2) (between t list from to) = told_value (place + 2) _ (bytes "all") uid (uid_default place which) eu in
    let g : gid ≡ value_at (place + 3) (between t list from to) = told_value (place + 3) _ (bytes "all") gid (gid_default place which) eg in
    let n : namespace ≡ value_at (place + 4) (between t list from to) = told_value (place + 4) _ (bytes "all") namespace (namespace_default place which) en in
    rw (← ei, ← u, ← g, ← n) e

-- ---- its words

put_long : (i : ℕ) (ws out : List ℕ) → length (put_from i ws out) ≡ length out
unfolding put_from
put_long i [] out = refl
put_long i (w ∷ ws) out = put_long (i + 1) ws (set out i w) ∙ length-set out i w

pattern_found : (words starts : List ℕ) (i to : ℕ) → i < to → pattern_in words starts i to ≡ words_in words starts i
unfolding pattern_in
pattern_found words starts i to h = rw (lt-ltb i to h) refl

-- the words of a field are few enough to be counted in a word
module _ (words starts : List ℕ) (i to : ℕ) (h : i < to) (s : List ℕ) (e : s ≡ words_in words starts i)
    (few : length (pattern_in words starts i to) ≤ most_elements) where
  few_words : length s ≤ most_elements
  few_words = rw (pattern_found words starts i to h, ← e) at few

  pub few_fit : Fits w16 (length s)
  few_fit = omega (arith, few_words)

-- a stretch of so many zeros has room for a word
module _ (out : List ℕ) (z : out ≡ replicate context_size 0) where
  context_long : length out ≡ context_size
  context_long = rw z (length-replicate {A = ℕ} context_size 0)

  pub room_for_one : 0 < length out
  room_for_one = omega (arith, context_long)

  pub room_for_uid : 1 < length out
  room_for_uid = omega (arith, context_long)

  pub room_for_gid : (u : ℕ) → 2 < length (set out 1 u)
  room_for_gid u = rw length-set (omega (arith, context_long))

  pub room_for_namespace : (u g : ℕ) → 3 < length (set (set out 1 u) 2 g)
  room_for_namespace u g = rw (length-set, length-set) (omega (arith, context_long))

  module _ (u g n : ℕ) where
    pub room_for_count : 0 < length (set (set (set out 1 u) 2 g) 3 n)
    room_for_count = rw (length-set, length-set, length-set) (omega (arith, context_long))

    -- no field: one `all`, whose word is zero
    pub all_written : (words starts : List ℕ) (i to : ℕ) (uid gid namespace : List ℕ) → to ≤ i → u ≡ sort_number (sort_of uid) → g ≡ sort_number (sort_of gid)
        → n ≡ sort_number (sort_of namespace) → set (set (set (set out 1 u) 2 g) 3 n) 0 1 ≡ context_of_words (pattern_in words starts i to) uid gid namespace
    unfolding context_of_words pattern_in padded
    all_written words starts i to uid gid namespace h eu eg en = rw (z, eu, eg, en, le-ltb i to h) refl

    module _ (c : ℕ) where
      -- the words before the pattern
      abbrev front : List ℕ
      front = set (set (set (set out 1 u) 2 g) 3 n) 0 c

      front_long : length front ≡ context_size
      front_long = rw (length-set, length-set, length-set, length-set) context_long

      pub room_for_pattern : 4 ≤ length front
      room_for_pattern = omega (arith, front_long)

      pub context_stays_long : (ws ys : List ℕ) → ys ≡ put_from 0 ws (take (length front - 4) (drop 4 front))
          → length (put_mid 4 (length front - 4) front ys) ≡ length out
      context_stays_long ws ys e = same_len_mid 4 (length front - 4) front ys (ap length e ∙ put_long 0 ws _) ∙ front_long ∙ sym context_long

      module _ (words starts : List ℕ) (i to : ℕ) (h : i < to) (s : List ℕ) (e : s ≡ words_in words starts i)
          (few : length (pattern_in words starts i to) ≤ most_elements) where
        pub pattern_room : length s ≤ length (take (length front - 4) (drop 4 front))
        pattern_room = rw z (few_words words starts i to h s e few)

        pub context_written : (uid gid namespace ys : List ℕ) → u ≡ sort_number (sort_of uid) → g ≡ sort_number (sort_of gid) → n ≡ sort_number (sort_of namespace)
            → c ≡ length s → ys ≡ put_from 0 s (take (length front - 4) (drop 4 front))
            → put_mid 4 (length front - 4) front ys ≡ context_of_words (pattern_in words starts i to) uid gid namespace
        unfolding context_of_words
        context_written uid gid namespace ys eu eg en ec ey =
            let w : ys ≡ padded most_elements s = ey ∙ rw z (words_written most_elements s (few_words words starts i to h s e few)) in
            rw (pattern_found words starts i to h, ← e, z, w, ec, eu, eg, en)
            (ap (λ (l : List ℕ). length s ∷ sort_number (sort_of uid) ∷ sort_number (sort_of gid) ∷ sort_number (sort_of namespace) ∷ l)
            (append-nil (padded most_elements s)))

pub length_context : (pattern uid gid namespace : List ℕ) → length pattern ≤ most_elements → length (context_of_words pattern uid gid namespace) ≡ context_size
unfolding context_of_words
length_context pattern uid gid namespace few = omega (arith, length_padded most_elements pattern few)

-- ---- by the names

pub context_is : (functions domains : List (List ℕ)) (place : ℕ) (fs : List Field)
    → context_at (λ s. element_word (element_of functions domains s)) place fs ≡ context_words (context_of functions domains place fs)
unfolding context_by context_of_words context_words context_of
context_is functions domains place fs =
    let xs : List (List ℕ) = elements (value_at (call_context_in place) fs) in
    rw (length-map xs (λ s. element_word (element_of functions domains s)), length-map xs (element_of functions domains), map-map element_word (element_of functions domains) xs) refl
