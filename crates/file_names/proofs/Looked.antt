-- The number of a name that its map lacks is not below the map's count: so the words tell which field names what the file lacks.
use mathlib.Core.Path.{◌≡◌, refl, sym, ap, ◌∙◌}
use mathlib.Core.Bool.{Bool, true, false, cond, not, ◌&&◌, ◌||◌}
use mathlib.Core.Logic.{⊎_elim}
use mathlib.Core.List.{List, [], ◌∷◌, ◌++◌, map}
use Prim.Native.Nat.{ℕ, ◌+◌, ◌-◌, ◌<◌, ◌≤◌}
use native.Mathlib.Omega.{arith}
use native.Mathlib.Numerals.{add-one}
use lib.Dec.{eqb, ltb, leb}
use lib.ListN.{length, get_or, drop, drop_of_length-le}
use lib.Seq.{drop-cons}
use borrow.Author.Tests.{ltb-true, lt-ltb, le-ltb, le-leb, lt-leb}
use Rattle.paper.specs.Common.{bytes, is, all_of, any_of, same, among, number_in}
use Rattle.paper.specs.Limits.{most_members}
use Rattle.paper.specs.Lists.{elements}
use Rattle.paper.specs.Listing.{object_name, subject_name, subject_of_entry}
use Rattle.paper.specs.Page.{Field}
use Rattle.paper.specs.Entries.{is_at_one, call_contexts}
use Rattle.paper.specs.Rules.{first_with, subject_lists, object_lists, domains_at, identifiers_at, element_names, all_known, names_unknown, unknown_name}
use Rattle.paper.specs.Policy.{all, fn, any_in, element_of}
use Rattle.paper.specs.Table.{first_domain_word, element_word}
use Rattle.laws.proofs.Tests.{ltb_shifted, le_or_lt}
use Rattle.file_fields.specs.Fields.{field_of, place_in, value_in, field_at}
use Rattle.file_index.specs.Buckets.{numbers_in}
use Rattle.file_index.specs.Maps.{Mapped}
use Rattle.file_index.proofs.Numbers.{same_sym, any_more, among_number}
use Rattle.file_index.proofs.Known.{index_known}
use Rattle.file_words.specs.Looking.{sought_at}
use Rattle.file_words.specs.Words.{numbers_of, words_by, field_words, words_in, Worded}
use Rattle.file_words.proofs.Worded.{words_of_field}
use Rattle.file_words.specs.declared.places.Sought.{Sought}
use Rattle.file_words.specs.declared.places.Sought.TheVariants.{Subject, Subjects, Objects, Elements, Nothing}
use Rattle.file_names.specs.Below.{all_below}
use Rattle.file_fields.specs.declared.file.FieldAt.{FieldAt}

-- ---- every word below a limit

module _ (words : List ℕ) (limit i : ℕ) (whole : Bool) (inv : all_below limit (drop i words) ≡ whole) where
  pub below_done : length words ≤ i → true ≡ whole
  unfolding all_below all_of
  below_done h = rw (drop_of_length-le words h) at inv

  module _ (h : i < length words) where
    below_step : (ltb (get_or words i 0) limit && all_below limit (drop (i + 1) words)) ≡ whole
    unfolding all_below all_of
    below_step = rw add-one (rw (drop-cons words i 0 h) at inv)

    pub below_fails : limit ≤ get_or words i 0 → false ≡ whole
    below_fails l = rw (le-ltb (get_or words i 0) limit l) at below_step

    pub below_on : get_or words i 0 < limit → all_below limit (drop (i + 1) words) ≡ whole
    below_on l = rw (lt-ltb (get_or words i 0) limit l) at below_step

-- ---- one name

-- the word of a name is below the count exactly when the name is known
domain_below : (names : List (List ℕ)) (x : List ℕ) → ltb (number_in names x) (length names) ≡ among x names
domain_below names x = sym (among_number x names)

-- that of an element, where no function has the word of a domain, exactly when `all`, the functions or the domains have it
module _ (functions domains : List (List ℕ)) (few : length functions ≤ most_members) (x : List ℕ) where
  element_below_lem : ltb (element_word (element_of functions domains x)) (first_domain_word + length domains) ≡ among x (bytes "all" ∷ (functions ++ domains))
  unfolding element_of element_word among any_of
  element_below_lem = rw (same_sym x (bytes "all"), any_more (same x) functions domains) (go (is "all" x) (among x functions) refl)
    where
      go : (a f : Bool) → among x functions ≡ f
          → ltb (element_word (cond a all (cond f (fn (number_in functions x)) (any_in (number_in domains x))))) (first_domain_word + length domains) ≡ (a || (f || among x domains))
      go true f e = lt-ltb 0 (first_domain_word + length domains) (omega arith)
      go false true e =
          lt-ltb (number_in functions x + 1) (first_domain_word + length domains) (omega (arith, ltb-true (number_in functions x) (length functions) (domain_below functions x ∙ e)))
      go false false e =
          let d : first_domain_word + number_in domains x - first_domain_word ≡ number_in domains x = omega arith in
          rw (← ltb_shifted first_domain_word (first_domain_word + number_in domains x) (length domains) (omega arith), d) (domain_below domains x)

not_below : (a b : ℕ) → leb a b ≡ not (ltb b a)
not_below a b = ⊎_elim
    (λ (l : a ≤ b). rw (le-leb a b l, le-ltb b a l) refl)
    (λ (l : b < a). rw (lt-leb a b l, lt-ltb b a l) refl)
    (le_or_lt a b)

-- a test of words is one of the names
all_mapped : {A B : Type 0} (f : A → B) (test : B → Bool) (xs : List A) → all_of test (map f xs) ≡ all_of (λ x. test (f x)) xs
unfolding all_of
all_mapped f test [] = refl
all_mapped f test (x ∷ xs) = ap (λ (b : Bool). test (f x) && b) (all_mapped f test xs)

module _ (word : List ℕ → ℕ) (limit : ℕ) (known : List (List ℕ)) (below : (x : List ℕ) → ltb (word x) limit ≡ among x known) where
  all_below_lem : (xs : List (List ℕ)) → all_below limit (map word xs) ≡ all_known known xs
  unfolding all_below all_known
  all_below_lem xs = all_mapped word (λ w. ltb w limit) xs ∙ (λ j. all_of (λ x. below x j) xs)

-- ---- a field

module _ (file : List Field) where
  -- a value names what the file lacks, by what it is looked up in
  abbrev lacks : Sought → List ℕ → Bool
  lacks Subject v = not (among v (domains_at subject_name file))
  lacks Subjects v = not (all_known (domains_at subject_name file) (elements v))
  lacks Objects v = not (all_known (domains_at object_name file) (elements v))
  lacks Elements v = not (all_known (element_names file) (elements v))
  lacks Nothing v = false

  by_the_file : (f : Field) → lacks (sought_at f.place) f.value ≡ names_unknown file f
  unfolding names_unknown sought_at is_at_one
  by_the_file f = go (eqb f.place subject_of_entry) (any_of (eqb f.place) subject_lists) (any_of (eqb f.place) object_lists) (any_of (eqb f.place) call_contexts)
    where
      go : (a b c d : Bool) → lacks (cond a Subject (cond b Subjects (cond c Objects (cond d Elements Nothing)))) f.value
          ≡ cond a (lacks Subject f.value) (cond b (lacks Subjects f.value) (cond c (lacks Objects f.value) (d && lacks Elements f.value)))
      go true b c d = refl
      go false true c d = refl
      go false false true d = refl
      go false false false true = refl
      go false false false false = refl

  module _ (t : List ℕ) (list : List FieldAt) (i p : ℕ) (k : Sought) (e : p ≡ place_in list i) (f : k ≡ sought_at p) where
    told : lacks k (value_in t list i) ≡ names_unknown file (field_at t list i)
    unfolding field_of
    told = rw (f, e) (by_the_file (field_at t list i))

    pub asks_nothing : k ≡ Nothing → false ≡ names_unknown file (field_at t list i)
    asks_nothing h = rw h at told

    pub asks_subject : (ix v : List ℕ) (s m : ℕ) → Mapped t ix s 128 (domains_at 5 file) → v ≡ value_in t list i → m ≡ numbers_in t ix s v → k ≡ Subject
        → leb s m ≡ names_unknown file (field_at t list i)
    asks_subject ix v s m mapped q g h =
        not_below s m ∙ rw (g, ← index_known mapped.index v, q) (rw h at told)

    module _ (words starts ws : List ℕ) (n : ℕ) (worded : Worded (numbers_of file) t list n words starts) (l : i < n) (q : ws ≡ words_in words starts i) where
      its_words : ws ≡ words_by (numbers_of file) k (value_in t list i)
      unfolding field_words field_of
      its_words = q ∙ rw (f, e) (words_of_field (numbers_of file) t list n words starts worded i l)

      module _ (limit : ℕ) (r : Bool) (g : r ≡ all_below limit ws) where
        pub asks_subjects : (ix : List ℕ) → Mapped t ix limit 128 (domains_at 5 file) → k ≡ Subjects → not r ≡ names_unknown file (field_at t list i)
        unfolding words_by
        asks_subjects ix mapped h =
            rw (g, its_words, h, mapped.index.count, all_below_lem (number_in (domains_at 5 file)) _ _ (domain_below (domains_at 5 file)) (elements (value_in t list i)))
            (rw h at told)

        pub asks_objects : limit ≡ length (domains_at 2 file) → k ≡ Objects → not r ≡ names_unknown file (field_at t list i)
        unfolding words_by
        asks_objects d h =
            rw (g, its_words, h, d, all_below_lem (number_in (domains_at 2 file)) _ _ (domain_below (domains_at 2 file)) (elements (value_in t list i)))
            (rw h at told)

        pub asks_elements : (subjects : ℕ) (ix : List ℕ) → limit ≡ first_domain_word + subjects → Mapped t ix subjects 128 (domains_at 5 file)
            → length (identifiers_at 6 file) ≤ most_members → k ≡ Elements → not r ≡ names_unknown file (field_at t list i)
        unfolding words_by element_names
        asks_elements subjects ix c mapped few h =
            rw (g, its_words, h, c, mapped.index.count, all_below_lem (numbers_of file).element _ _ (element_below_lem (identifiers_at 6 file) (domains_at 5 file) few) (elements (value_in t list i)))
            (rw h at told)

-- ---- the scan

pub unknown_first : (fs : List Field) → first_with (names_unknown fs) fs ≡ unknown_name fs
unfolding unknown_name
unknown_first fs = refl
