-- The words of one field behind those of the others: they have room, since each name takes two bytes of its value.
use mathlib.Core.Path.{◌≡◌, refl, sym, ap, ◌∙◌}
use mathlib.Core.Bool.{true}
use mathlib.Core.Logic.{⊎_elim}
use mathlib.Core.List.{List, ◌++◌, append_assoc}
use Prim.Native.Nat.{ℕ, zero, suc, ◌+◌, ◌-◌, ◌*◌, ◌^◌, ◌<◌, ◌≤◌}
use native.Mathlib.Nat.{eq-or-lt_of_le}
use native.Mathlib.Omega.{arith}
use mir.Syntax.{w64}
use mir.Val.{Fits}
use lib.ListN.{length, take, drop, set, length-append, length-map, length-take, length-drop, length-set}
use lib.Seq.{get_or-set_same, get_or-set_other, take_at}
use borrow.Rule.Slice.PartMut.{put_mid, same_len_mid}
use Rattle.paper.specs.Common.{all_of}
use Rattle.file_fields.specs.Fields.{field_of, start_in, end_in, value_in, field_at, between, bytes_to, list_spaced, well_spaced}
use Rattle.file_fields.proofs.Between.{each_field, names_more, names_none}
use Rattle.file_fields.proofs.Laws.{bytes_more, bytes_fewer}
use Rattle.file_fields.proofs.Valued.{elements_short}
use Rattle.file_words.specs.declared.places.Sought.{Sought}
use Rattle.file_words.specs.declared.places.Sought.TheVariants.{Subject, Subjects, Objects, Elements, Nothing}
use Rattle.file_words.specs.Looking.{sought_at}
use Rattle.file_words.specs.Words.{Numbers, words_by, field_words, words_to, Worded}
use Rattle.file_fields.specs.declared.file.FieldAt.{FieldAt}

regrouped : (ws xs ys zs : List ℕ) → ws ++ (xs ++ ys ++ zs) ≡ ws ++ xs ++ (ys ++ zs)
regrouped ws xs ys zs = ap (λ (l : List ℕ). ws ++ l) (append_assoc xs ys zs) ∙ sym (append_assoc ws xs (ys ++ zs))

-- ---- room for the starts

module _ (starts first : List ℕ) (long : length starts ≡ length (set first 0 0)) where
  pub starts_long : length starts ≡ length first
  starts_long = long ∙ length-set first 0 0

  pub start_room : (i n : ℕ) → i < n → n < length first → i + 1 < length starts
  start_room i n h l = omega (arith, starts_long)

pub field_spaced : (t : List ℕ) (list : List FieldAt) (n i : ℕ) → all_of well_spaced (between t list 0 n) ≡ true → i < n → well_spaced (field_at t list i) ≡ true
field_spaced t list n i = each_field t list well_spaced n i

-- ---- two bytes for each word

module _ (k : Numbers) where
  value_few : (x : Sought) (v : List ℕ) → list_spaced v ≡ true → 2 * length (words_by k x v) ≤ length v
  unfolding words_by
  value_few Subject v h = omega arith
  value_few Subjects v h = rw length-map (elements_short v h)
  value_few Objects v h = rw length-map (elements_short v h)
  value_few Elements v h = rw length-map (elements_short v h)
  value_few Nothing v h = omega arith

  module _ (t : List ℕ) (list : List FieldAt) where
    field_few : (i : ℕ) → well_spaced (field_at t list i) ≡ true → 2 * length (field_words k (field_at t list i)) ≤ end_in list i - start_in list i
    unfolding field_words field_of well_spaced
    field_few i h =
        omega (arith, value_few (sought_at (field_at t list i).place) (value_in t list i) h, length-take (end_in list i - start_in list i) (drop (start_in list i) t))

    -- one field more
    words_on : (i : ℕ) → length (words_to k t list (i + 1)) ≡ length (words_to k t list i) + length (field_words k (field_at t list i))
    words_on i = ap length (names_more t list (field_words k) i) ∙ length-append (words_to k t list i) (field_words k (field_at t list i))

    words_none : length (words_to k t list 0) ≡ 0
    words_none = ap length (names_none t list (field_words k))

    words_few : (n : ℕ) → all_of well_spaced (between t list 0 n) ≡ true → (i : ℕ) → i ≤ n → 2 * length (words_to k t list i) ≤ bytes_to list i
    words_few n h zero l = omega (arith, words_none)
    words_few n h (suc i) l =
        let e : suc i ≡ i + 1 = omega arith in
        rw e (omega (arith, words_few n h i (omega arith), field_few i (field_spaced t list n i h (omega arith)), words_on i, bytes_more list i))

    pub none_begun : 0 ≡ length (words_to k t list 0)
    none_begun = sym words_none

    pub none_worded : (words starts : List ℕ) (n : ℕ) → n < length starts → Worded k t list 0 words (set starts 0 0)
    none_worded words starts n h = record {
      room = rw length-set (omega arith);
      begun = λ j l. let z : j ≡ 0 = omega arith in rw (z, words_none) (get_or-set_same starts 0 0 0 (omega arith));
      holds = rw (names_none t list (field_words k)) refl;
    }

    module _ (n i w : ℕ) (words start : List ℕ) (below : i < n) (long : length words ≡ length start)
        (e : w ≡ length (words_to k t list i)) (fits : bytes_to list n ≤ 2 * length start) (spaced : all_of well_spaced (between t list 0 n) ≡ true) where
      own_fits : w + length (field_words k (field_at t list i)) ≤ length words
      own_fits = omega (arith, words_few n spaced (i + 1) (omega arith), words_on i, bytes_fewer list (i + 1) n (omega arith))

      pub start_fits : w ≤ length words
      start_fits = omega (arith, own_fits)

      pub start_doubled : length start * 2 < 2 ^ 63 → Fits w64 (w * 2)
      start_doubled z = omega (arith, own_fits)

      pub own_room : length (field_words k (field_at t list i)) ≤ length (take (length words - w) (drop w words))
      own_room = omega (arith, own_fits, length-take (length words - w) (drop w words), length-drop w words)

      module _ (r : ℕ) (f : r ≡ length (field_words k (field_at t list i))) where
        pub sum_fits : length start * 2 < 2 ^ 63 → Fits w64 (w + r)
        sum_fits z = omega (arith, own_fits)

        pub sum_on : w + r ≡ length (words_to k t list (i + 1))
        sum_on = omega (arith, words_on i)

        module _ (ys : List ℕ) (written : ys ≡ field_words k (field_at t list i) ++ drop r (take (length words - w) (drop w words))) where
          -- the words with those of the field
          abbrev after : List ℕ
          after = put_mid w (length words - w) words ys

          pub words_long : length after ≡ length start
          words_long =
              same_len_mid w (length words - w) words ys
              (ap length written ∙ length-append (field_words k (field_at t list i)) (drop r (take (length words - w) (drop w words)))
              ∙ rw length-drop (omega (arith, own_room)))
              ∙ long

          module _ (starts : List ℕ) (worded : Worded k t list i words starts) where
            abbrev behind : List ℕ
            behind = drop (length words - w) (drop w words)

            abbrev rest : List ℕ
            rest = drop r (take (length words - w) (drop w words))

            front : take w words ≡ words_to k t list i
            front = rw e worded.holds

            after_is : after ≡ words_to k t list (i + 1) ++ (rest ++ behind)
            after_is =
                ap (λ (l : List ℕ). l ++ (ys ++ behind)) front
                ∙ ap (λ (l : List ℕ). words_to k t list i ++ (l ++ behind)) written
                ∙ regrouped (words_to k t list i) (field_words k (field_at t list i)) rest behind
                ∙ ap (λ (l : List ℕ). l ++ (rest ++ behind)) (sym (names_more t list (field_words k) i))

            after_holds : take (length (words_to k t list (i + 1))) after ≡ words_to k t list (i + 1)
            after_holds = rw after_is (take_at (words_to k t list (i + 1)) (rest ++ behind) (length (words_to k t list (i + 1))) refl)

            pub worded_on : (first : List ℕ) → length starts ≡ length first → n < length first → Worded k t list (i + 1) after (set starts (i + 1) (w + r))
            worded_on first l m = record {
              room = rw length-set (omega arith);
              begun = λ j h. ⊎_elim
                  (λ (z : j ≡ i + 1). rw z (get_or-set_same starts (i + 1) (w + r) 0 (omega arith) ∙ sum_on))
                  (λ (z : j < i + 1). get_or-set_other starts (i + 1) j (w + r) 0 (λ y. omega arith) ∙ worded.begun j (omega arith))
                  (eq-or-lt_of_le h);
              holds = after_holds;
            }

    pub all_worded : (i n : ℕ) (words starts : List ℕ) → i ≤ n → n ≤ i → Worded k t list i words starts → Worded k t list n words starts
    all_worded i n words starts a b w = let e : i ≡ n = omega arith in rw e at w
