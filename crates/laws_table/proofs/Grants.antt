-- A grant and its 9 words, read back both ways.
use mathlib.Core.Path.{◌≡◌, refl, sym, ◌∙◌}
use mathlib.Core.Bool.{Bool, true, false, cond}
use mathlib.Core.List.{List, [], ◌∷◌, map}
use mathlib.Core.Logic.{dite}
use Prim.Native.Nat.{ℕ, ◌+◌, ◌-◌, ◌*◌, ◌/◌, ◌%◌, ◌^◌, min, ◌<◌, ◌≤◌}
use native.Mathlib.Nat.{zero-add}
use native.Mathlib.Decide.{ℕ_discrete}
use native.Mathlib.Omega.{arith}
use borrow.Author.Tests.{eqb-true, ltb-true, leb-true, eq-eqb, ne_eqb, lt-ltb}
use lib.Dec.{eqb, ltb}
use lib.ListN.{length, get_or, take, drop, length-take, length-drop}
use lib.Seq.{get_or-take, get_or-drop, ext_get_or}
use Rattle.paper.specs.Limits.{most_domains}
use Rattle.paper.specs.Common.{count_up}
use Rattle.paper.specs.Policy.{Grant, every, these}
use Rattle.paper.specs.Table.{every_word, set_size, word_bits}
use Rattle.paper.specs.Table.{bits_word, set_words, grant_words, is_in, grant_in, grant_fits}
use Rattle.laws.proofs.Tests.{both_left, both_right, up_to_at, up_to_all}
use Rattle.laws.proofs.Stretches.{Stands, word_at, stands_none, stands_word, stands_right, stands_more, padded_front, padded_zero, padded_stands, length_padded}
use Rattle.laws.proofs.Counting.{length_map_counted, get_d_counted}
use Rattle.laws.proofs.Bits.{bit_written, bits_below, bits_of_word}
use Rattle.laws_table.specs.Proper.{proper_grant}

-- ---- a set's eight words

length_set : (bs : List Bool) → length (set_words bs) ≡ 8
unfolding set_words
length_set bs = length_map_counted (λ j. bits_word (take word_bits (drop (word_bits * j) bs))) 0 set_size

-- of word j of a set, the bits
abbrev sixteen : ℕ → List Bool → List Bool
sixteen j bs = take word_bits (drop (word_bits * j) bs)

set_word : (bs : List Bool) (j : ℕ) → j < set_size → get_or (set_words bs) j 0 ≡ bits_word (sixteen j bs)
unfolding set_words
set_word bs j h = get_d_counted (λ j. bits_word (take word_bits (drop (word_bits * j) bs))) 0 0 set_size j h ∙ rw zero-add

length_sixteen : (j : ℕ) (bs : List Bool) → length (sixteen j bs) ≡ min word_bits (length bs - word_bits * j)
length_sixteen j bs = length-take word_bits (drop (word_bits * j) bs) ∙ rw length-drop

sixteen_bit : (j k : ℕ) (bs : List Bool) → k < word_bits → get_or (sixteen j bs) k false ≡ get_or bs (word_bits * j + k) false
sixteen_bit j k bs h = get_or-take word_bits (drop (word_bits * j) bs) k false h ∙ get_or-drop (word_bits * j) bs k false

module _ (ws : List ℕ) (at domains : ℕ) where
  -- the set that stands at a place
  abbrev set_in : List Bool
  set_in = map (is_in (drop at ws)) (count_up 0 domains)

  set_bit : (j k : ℕ) → k < word_bits → is_in (drop at ws) (word_bits * j + k) ≡ eqb (get_or ws (at + j) 0 / 2 ^ k % 2) 1
  unfolding is_in
  set_bit j k h =
      let p : (word_bits * j + k) / word_bits ≡ j = omega arith in
      let q : (word_bits * j + k) % word_bits ≡ k = omega arith in
      rw (p, q, get_or-drop at ws j 0)

  set_read : (bs : List Bool) → domains ≤ most_domains → length bs ≡ domains → Stands ws at (set_words bs) → set_in ≡ bs
  set_read bs few long s = ext_get_or false set_in bs (length_map_counted (is_in (drop at ws)) 0 domains ∙ sym long) (λ d l. in_it d (rw length_map_counted at l))
    where
      in_it : (d : ℕ) → d < domains → get_or set_in d false ≡ get_or bs d false
      in_it d h =
          let p : word_bits * (d / word_bits) + d % word_bits ≡ d = omega arith in
          get_d_counted (is_in (drop at ws)) false 0 domains d h
          ∙ rw (zero-add d, ← p) (set_bit (d / word_bits) (d % word_bits) (omega arith)
          ∙ rw (s.reads (d / word_bits) (rw length_set (omega arith)), set_word bs (d / word_bits) (omega arith), bit_written (sixteen (d / word_bits) bs) (d % word_bits))
          (sixteen_bit (d / word_bits) (d % word_bits) bs (omega arith)))

  long : (j : ℕ) → length (sixteen j set_in) ≡ min word_bits (domains - word_bits * j)
  long j = length_sixteen j set_in ∙ rw length_map_counted

  set_stands : ((j : ℕ) → j < set_size → get_or ws (at + j) 0 < 2 ^ min word_bits (domains - word_bits * j)) → Stands ws at (set_words set_in)
  set_stands below = record { reads = λ j h. same_word j (rw length_set at h) }
    where
      bit : (j k : ℕ) → k < length (sixteen j set_in) → get_or (sixteen j set_in) k false ≡ eqb (get_or ws (at + j) 0 / 2 ^ k % 2) 1
      bit j k h =
          sixteen_bit j k set_in (omega (arith, long j))
          ∙ get_d_counted (is_in (drop at ws)) false 0 domains (word_bits * j + k) (omega (arith, long j))
          ∙ rw zero-add (set_bit j k (omega (arith, long j)))

      same_word : (j : ℕ) → j < set_size → get_or ws (at + j) 0 ≡ get_or (set_words set_in) j 0
      same_word j h = sym (set_word set_in j h ∙ bits_of_word (sixteen j set_in) (get_or ws (at + j) 0) (rw (long j) (below j h)) (bit j))

  set_below : Stands ws at (set_words set_in) → (j : ℕ) → j < set_size → get_or ws (at + j) 0 < 2 ^ min word_bits (domains - word_bits * j)
  set_below s j h = rw (s.reads j (rw length_set h), set_word set_in j h, ← long j) (bits_below (sixteen j set_in))

-- ---- the nine words

pub length_grant : (g : Grant) → length (grant_words g) ≡ 9
unfolding grant_words
length_grant every = length_padded 9 (1 ∷ []) (omega arith)
length_grant (these bs) = omega (arith, length_set bs)

module _ (ws : List ℕ) (at domains : ℕ) where
  pub grant_read : (g : Grant) → domains ≤ most_domains → proper_grant domains g ≡ true → Stands ws at (grant_words g) → grant_in ws at domains ≡ g
  unfolding grant_words grant_in proper_grant
  grant_read every few p s =
      let w : get_or ws at 0 ≡ every_word = stands_word ws at 0 at (1 ∷ []) (padded_front ws at 9 _ s) (omega arith) (omega arith) in
      rw w
  grant_read (these bs) few p s =
      let w : get_or ws at 0 ≡ 0 = stands_word ws at 0 at _ s (omega arith) (omega arith) in
      rw (w, set_read ws (at + 1) domains bs few (eqb-true _ _ p) (stands_right ws at (at + 1) (0 ∷ []) _ refl s))

  -- a grant that stands there is `every`, or a set
  by_mark : {C : Type 0} → (get_or ws at 0 ≡ every_word → C) → ((get_or ws at 0 ≡ every_word → ⊥) → C) → C
  by_mark one other = dite (ℕ_discrete (get_or ws at 0) every_word) one other

  grant_every : get_or ws at 0 ≡ every_word → grant_in ws at domains ≡ every
  unfolding grant_in
  grant_every w = rw w

  grant_these : (get_or ws at 0 ≡ every_word → ⊥) → grant_in ws at domains ≡ these (set_in ws (at + 1) domains)
  unfolding grant_in
  grant_these w = rw (ne_eqb (get_or ws at 0) every_word w)

  pub grant_proper : proper_grant domains (grant_in ws at domains) ≡ true
  unfolding proper_grant
  grant_proper =
      by_mark
      (λ w. rw (grant_every w))
      (λ w. rw (grant_these w) (eq-eqb _ _ (length_map_counted (is_in (drop (at + 1) ws)) 0 domains)))

  -- `every`: the mark, and eight zeros
  every_stands : get_or ws at 0 ≡ every_word → ((j : ℕ) → j < set_size → get_or ws (at + 1 + j) 0 ≡ 0) → Stands ws at (grant_words every)
  unfolding grant_words
  every_stands w zero =
      padded_stands ws at 9 (1 ∷ []) (stands_more ws at (at + 1) 1 [] refl w (stands_none ws (at + 1)))
      (λ i p q. word_at ws (at + 1 + (i - 1)) (at + i) 0 (omega arith) (zero (i - 1) (omega arith)))

  every_zero : Stands ws at (grant_words every) → (j : ℕ) → j < set_size → get_or ws (at + 1 + j) 0 ≡ 0
  unfolding grant_words
  every_zero s j l = word_at ws (at + (1 + j)) (at + 1 + j) 0 (omega arith) (padded_zero ws at 9 (1 ∷ []) s (1 + j) (omega arith) (omega arith))

  pub grant_stands : grant_fits ws at domains ≡ true → Stands ws at (grant_words (grant_in ws at domains))
  unfolding grant_fits grant_words
  grant_stands h =
      let mark : get_or ws at 0 ≤ 1 = leb-true _ _ (search both_left) in
      let below : (j : ℕ) → j < set_size → ltb (get_or ws (at + 1 + j) 0) (2 ^ cond (eqb (get_or ws at 0) every_word) 0 (min word_bits (domains - word_bits * j))) ≡ true =
      up_to_at _ 8 (search (both_left, both_right)) in
      by_mark
      (λ w. rw (grant_every w) (every_stands w (λ j l. omega (arith, ltb-true (get_or ws (at + 1 + j) 0) 1 (rw w at (below j l))))))
      (λ w. rw (grant_these w)
      (stands_more ws at (at + 1) 0 _ refl (omega arith) (set_stands ws (at + 1) domains (λ j l. ltb-true _ _ (rw (ne_eqb (get_or ws at 0) every_word w) at (below j l))))))

  these_fit : Stands ws at (grant_words (these (set_in ws (at + 1) domains))) → grant_fits ws at domains ≡ true
  unfolding grant_fits grant_words
  these_fit s =
      let z : get_or ws at 0 ≡ 0 = stands_word ws at 0 at _ s (omega arith) (omega arith) in
      rw z (up_to_all _ 8 (λ j l. lt-ltb _ _ (set_below ws (at + 1) domains (stands_right ws at (at + 1) (0 ∷ []) _ refl s) j l)))

  pub grant_fits_lem : Stands ws at (grant_words (grant_in ws at domains)) → grant_fits ws at domains ≡ true
  unfolding grant_fits
  grant_fits_lem s =
      by_mark
      (λ w. rw w (up_to_all _ 8 (λ j l. lt-ltb (get_or ws (at + 1 + j) 0) 1 (omega (arith, every_zero (rw (grant_every w) at s) j l)))))
      (λ w. these_fit (rw (grant_these w) at s))
