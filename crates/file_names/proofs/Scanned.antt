-- A scan over the fields for the first with a fault, over any test; and the lists of domains among them, which separate words show to be without one.
use mathlib.Core.Path.{◌≡◌, refl, sym, ◌∙◌}
use mathlib.Core.Bool.{Bool, true, false, cond, not, ◌&&◌, ◌||◌}
use mathlib.Core.List.{List, [], ◌++◌}
use Prim.Native.Nat.{ℕ, zero, suc, ◌+◌, ◌-◌, ◌<◌, ◌≤◌}
use native.Mathlib.Omega.{arith}
use lib.Dec.{eqb}
use lib.ListN.{length, replicate, length-take, length-drop}
use borrow.Author.Tests.{eqb-true, not-true, not-false}
use Rattle.paper.specs.Common.{all_of, any_of, count_up}
use Rattle.paper.specs.Lists.{spaced, elements_in, elements}
use Rattle.paper.specs.Page.{Field}
use Rattle.paper.specs.Entries.{is_at_one, call_contexts}
use Rattle.paper.specs.Rules.{first_with, repeats, subject_lists, object_lists, repeats_in_list}
use Rattle.laws.proofs.Tests.{both_left, both_right}
use Rattle.file_fields.specs.Fields.{field_of, place_in, line_in, start_in, value_in, field_at, between, well_spaced}
use Rattle.file_fields.specs.Values.{inside_of}
use Rattle.file_fields.proofs.Between.{between_more, between_none}
use Rattle.file_fields.proofs.Valued.{inside_elements, inside_spaced, inside_short}
use Rattle.file_index.proofs.Numbers.{any_more}
use Rattle.file_words.specs.Looking.{sought_at}
use Rattle.file_words.specs.Words.{Numbers, words_by, field_words, words_in, Worded, WordedSomehow}
use Rattle.file_words.proofs.Worded.{words_of_field}
use Rattle.file_words.specs.declared.places.Sought.{Sought}
use Rattle.file_words.specs.declared.places.Sought.TheVariants.{Subject, Subjects, Objects, Elements, Nothing}
use Rattle.file_names.specs.Separate.{separate, is_listed, list_separate, lists_separate}
use Rattle.file_names.proofs.Apart.{separate_once}
use Rattle.file_fields.specs.declared.file.FieldAt.{FieldAt}

-- ---- the scan

module _ (test : Field → Bool) (t : List ℕ) (list : List FieldAt) (n i whole : ℕ) (inv : first_with test (between t list i n) ≡ whole) where
  module _ (h : i < n) (b : Bool) (e : b ≡ test (field_at t list i)) where
    scan_step : cond b (line_in list i) (first_with test (between t list (i + 1) n)) ≡ whole
    unfolding first_with field_of
    scan_step = rw (between_more t list i n h, ← e) at inv

    pub scan_here : (line : ℕ) → b ≡ true → line ≡ line_in list i → line ≡ whole
    scan_here line l q = q ∙ (rw l at scan_step)

    pub scan_on : b ≡ false → first_with test (between t list (i + 1) n) ≡ whole
    scan_on l = rw l at scan_step

  pub scan_none : n ≤ i → 0 ≡ whole
  unfolding first_with
  scan_none h = rw (between_none t list i n h) at inv

-- ---- what stands between the brackets of a field's list

module _ (t : List ℕ) (list : List FieldAt) (v s : List ℕ) (i : ℕ) (q : v ≡ value_in t list i) (g : s ≡ inside_of v) where
  pub field_spaced : well_spaced (field_at t list i) ≡ true → spaced 0 s ≡ true
  unfolding well_spaced field_of
  field_spaced h = rw g (inside_spaced v (rw q h))

  pub field_small : length t ≤ 65536 → length s ≤ 65536
  field_small h =
      let a : length v ≤ length t = rw (q, length-take) (omega (arith, length-drop (start_in list i) t)) in
      let b : length s ≤ length v = rw g (inside_short v) in
      omega arith

-- ---- what is looked up at a place

module _ (place : ℕ) where
  no_list_of_subject : place ≡ 9 → (any_of (eqb place) subject_lists || any_of (eqb place) object_lists) ≡ false
  unfolding any_of subject_lists object_lists
  no_list_of_subject h = rw h refl

  in_lists : any_of (eqb place) (subject_lists ++ object_lists) ≡ is_listed (sought_at place)
  unfolding sought_at
  in_lists = any_more (eqb place) subject_lists object_lists ∙ go (eqb place 9) refl (any_of (eqb place) subject_lists) (any_of (eqb place) object_lists) (any_of (eqb place) call_contexts) refl refl
    where
      go : (a : Bool) → eqb place 9 ≡ a → (b c d : Bool) → any_of (eqb place) subject_lists ≡ b → any_of (eqb place) object_lists ≡ c
          → (any_of (eqb place) subject_lists || any_of (eqb place) object_lists) ≡ is_listed (cond a Subject (cond b Subjects (cond c Objects (cond d Elements Nothing))))
      go true e b c d p q = no_list_of_subject (eqb-true place 9 e)
      go false e true c d p q = rw p refl
      go false e false true d p q = rw (p, q) refl
      go false e false false true p q = rw (p, q) refl
      go false e false false false p q = rw (p, q) refl

-- the field is a list of domains
abbrev listed : List FieldAt → ℕ → Bool
listed list i = is_listed (sought_at (place_in list i))

module _ (t : List ℕ) (list : List FieldAt) (i : ℕ) where
  repeats_listed : repeats_in_list (field_at t list i) ≡ (listed list i && repeats [] (elements (value_in t list i)))
  unfolding repeats_in_list is_at_one field_of
  repeats_listed = rw (in_lists (place_in list i)) refl

-- ---- the words of one field

module _ (list : List FieldAt) (words starts : List ℕ) (i p : ℕ) (k : Sought) (b : Bool) (e : p ≡ place_in list i) (f : k ≡ sought_at p) (g : b ≡ is_listed k) where
  separate_at : (l : Bool) → b ≡ l → cond l (separate (replicate 8 0) (words_in words starts i)) true ≡ list_separate list words starts i
  unfolding list_separate
  separate_at l h = rw (← e, ← f, ← g, h) refl

  pub not_listed : not b ≡ true → true ≡ list_separate list words starts i
  not_listed h = separate_at false (not-true b h)

  pub listed_here : (ws : List ℕ) (r : Bool) → not b ≡ false → ws ≡ words_in words starts i → r ≡ separate (replicate 8 0) ws → r ≡ list_separate list words starts i
  listed_here ws r h q s = rw (s, q) (separate_at true (not-false b h))

-- ---- the words of every field

module _ (list : List FieldAt) (words starts : List ℕ) (i n : ℕ) where
  module _ (whole : Bool) (inv : lists_separate list words starts i n ≡ whole) where
    module _ (h : i < n) (b : Bool) (e : b ≡ list_separate list words starts i) where
      lists_step : (b && lists_separate list words starts (i + 1) n) ≡ whole
      unfolding lists_separate count_up all_of
      lists_step = let d : n - i ≡ suc (n - (i + 1)) = omega arith in rw e (rw d at inv)

      pub lists_fail : not b ≡ true → false ≡ whole
      lists_fail l = rw (not-true b l) at lists_step

      pub lists_on : not b ≡ false → lists_separate list words starts (i + 1) n ≡ whole
      lists_on l = rw (not-false b l) at lists_step

    pub lists_done : n ≤ i → true ≡ whole
    unfolding lists_separate count_up all_of
    lists_done h = let d : n - i ≡ 0 = omega arith in rw d at inv

-- ---- a name twice in a list

pub somehow : (k : Numbers) (t : List ℕ) (list : List FieldAt) (words starts : List ℕ) (n : ℕ) → Worded k t list n words starts → WordedSomehow t list n words starts
somehow k t list words starts n w = record { numbers = k; worded = w }

-- the words of a list of domains are the numbers of its names, by one numbering or another
numbered : (n : Numbers) (k : Sought) (v : List ℕ) (set : List ℕ) → length set ≡ 8 → is_listed k ≡ true → separate set (words_by n k v) ≡ true → repeats [] (elements v) ≡ false
unfolding words_by
numbered n Subject v set l h s = absurd (let z : ◌≡◌ {A = ℕ} 0 1 = cc in omega arith)
numbered n Subjects v set l h s = separate_once n.subject (elements v) set l s
numbered n Objects v set l h s = separate_once n.object (elements v) set l s
numbered n Elements v set l h s = absurd (let z : ◌≡◌ {A = ℕ} 0 1 = cc in omega arith)
numbered n Nothing v set l h s = absurd (let z : ◌≡◌ {A = ℕ} 0 1 = cc in omega arith)

module _ (t : List ℕ) (list : List FieldAt) (words starts : List ℕ) (n : ℕ) (worded : WordedSomehow t list n words starts) where
  module _ (i : ℕ) (h : i < n) where
    its_words : words_in words starts i ≡ words_by worded.numbers (sought_at (place_in list i)) (value_in t list i)
    unfolding field_words field_of
    its_words = words_of_field worded.numbers t list n words starts worded.worded i h

    pub starts_room : i + 1 < length starts
    starts_room = omega (arith, worded.worded.room)

    module _ (b : Bool) (e : b ≡ list_separate list words starts i) where
      pub listed_once : b ≡ true → false ≡ repeats_in_list (field_at t list i)
      unfolding list_separate
      listed_once d = sym (repeats_listed t list i ∙ go (listed list i) refl (rw its_words at (sym e ∙ d)))
        where
          go : (l : Bool) → listed list i ≡ l → cond l (separate (replicate 8 0) (words_by worded.numbers (sought_at (place_in list i)) (value_in t list i))) true ≡ true
              → (l && repeats [] (elements (value_in t list i))) ≡ false
          go true q s = numbered worded.numbers (sought_at (place_in list i)) (value_in t list i) (replicate 8 0) refl q s
          go false q s = refl

      module _ (v s : List ℕ) (r : Bool) (q : v ≡ value_in t list i) (g : s ≡ inside_of v) (w : r ≡ repeats [] (elements_in s)) where
        pub listed_told : b ≡ false → r ≡ repeats_in_list (field_at t list i)
        unfolding list_separate
        listed_told d = sym (repeats_listed t list i ∙ go (listed list i) (sym e ∙ d) ∙ sym (w ∙ rw (g, inside_elements v, q) refl))
          where
            go : (l : Bool) → cond l (separate (replicate 8 0) (words_in words starts i)) true ≡ false
                → (l && repeats [] (elements (value_in t list i))) ≡ repeats [] (elements (value_in t list i))
            go true s = refl
            go false s = absurd (let z : ◌≡◌ {A = ℕ} 0 1 = cc in omega arith)

  -- where the words of every list are separate, no list has a name twice
  none_from : (k i : ℕ) → i + k ≡ n → all_of (list_separate list words starts) (count_up i k) ≡ true → first_with repeats_in_list (between t list i n) ≡ 0
  unfolding count_up all_of first_with
  none_from zero i e h = rw (between_none t list i n (omega arith)) refl
  none_from (suc k) i e h =
      let l : i < n = omega arith in
      rw (between_more t list i n l, ← listed_once i l (list_separate list words starts i) refl (both_left _ _ h))
      (none_from k (i + 1) (omega arith) (both_right (list_separate list words starts i) _ h))

  pub lists_once : (b : Bool) → b ≡ lists_separate list words starts 0 n → b ≡ true → 0 ≡ first_with repeats_in_list (between t list 0 n)
  unfolding lists_separate
  lists_once b e h = sym (none_from (n - 0) 0 (omega arith) (sym e ∙ h))
