-- The words of a field are the stretch between its start and the next one's; indexes of the maps number names as the file does.
use mathlib.Core.Path.{◌≡◌, refl, ap, ◌∙◌}
use mathlib.Core.Bool.{Bool, true, false, cond}
use mathlib.Core.List.{List, ◌++◌, flat_map}
use Prim.Native.Nat.{ℕ, ◌+◌, ◌-◌, ◌<◌, ◌≤◌}
use native.Mathlib.Omega.{arith}
use lib.ListN.{length, get_or, take, drop, length-append, length-take}
use Rattle.paper.specs.Common.{is, among, number_in}
use Rattle.paper.specs.Listing.{object_name, subject_name, subject_members}
use Rattle.paper.specs.Page.{Field}
use Rattle.paper.specs.Rules.{domains_at, identifiers_at}
use Rattle.paper.specs.Policy.{all, fn, any_in, element_of}
use Rattle.paper.specs.Table.{first_domain_word, element_word}
use Rattle.laws.proofs.Stretches.{Stands, stands_left, stands_right, stands_taken, taken_stretch}
use Rattle.file_fields.specs.Fields.{field_at, between}
use Rattle.file_fields.proofs.Between.{names_more, names_split}
use Rattle.file_index.specs.Buckets.{Index, numbers_in}
use Rattle.file_index.specs.Maps.{Maps}
use Rattle.file_index.proofs.Numbers.{among_number}
use Rattle.file_words.specs.Words.{Numbers, element_word_by, numbers_by, numbers_of, field_words, words_to, words_in, Worded}
use Rattle.file_fields.specs.declared.file.FieldAt.{FieldAt}

-- where a start lies behind the next one there are none
pub none_between : (words : List ℕ) (start end : ℕ) → end < start → take 0 words ≡ take (end - start) (drop start words)
none_between words start end h = let e : end - start ≡ 0 = omega arith in rw e refl

-- ---- the words of one field

module _ (k : Numbers) (t : List ℕ) (list : List FieldAt) (n : ℕ) (words starts : List ℕ) (worded : Worded k t list n words starts) where
  all_stand_lem : Stands words 0 (words_to k t list n)
  all_stand_lem = rw worded.holds at (stands_taken words 0 (length (words_to k t list n)))

  all_fit : length (words_to k t list n) ≤ length words
  all_fit = omega (arith, ap length worded.holds, length-take (length (words_to k t list n)) words)

  module _ (i : ℕ) (h : i < n) where
    -- the field's own words, and those of the fields behind it
    abbrev own : List ℕ
    own = field_words k (field_at t list i)

    abbrev others : List ℕ
    others = flat_map (field_words k) (between t list (i + 1) n)

    parts : words_to k t list n ≡ words_to k t list i ++ own ++ others
    parts = names_split t list (field_words k) (i + 1) n (omega arith) ∙ ap (λ (l : List ℕ). l ++ others) (names_more t list (field_words k) i)

    own_stand : Stands words (length (words_to k t list i)) own
    own_stand =
        stands_right words 0 (length (words_to k t list i)) (words_to k t list i) own (omega arith)
        (stands_left words 0 (words_to k t list i ++ own) others (rw parts at all_stand_lem))

    from : get_or starts i 0 ≡ length (words_to k t list i)
    from = worded.begun i (omega arith)

    to : get_or starts (i + 1) 0 ≡ length (words_to k t list i) + length own
    to = worded.begun (i + 1) (omega arith) ∙ ap length (names_more t list (field_words k) i) ∙ length-append (words_to k t list i) own

    own_fit : length (words_to k t list i) + length own ≤ length words
    own_fit =
        omega (arith, all_fit, ap length parts, length-append (words_to k t list i ++ own) others, length-append (words_to k t list i) own)

    pub words_of_field : words_in words starts i ≡ field_words k (field_at t list i)
    words_of_field =
        let e : get_or starts (i + 1) 0 - get_or starts i 0 ≡ length own = omega (arith, from, to) in
        rw (e, from) (taken_stretch words (length (words_to k t list i)) (length own) own refl own_fit own_stand)

-- ---- as the file numbers them

-- a name is a function exactly when its number is below their count
same_element : (F D : List (List ℕ)) (x : List ℕ) → element_word_by (number_in F) (length F) (number_in D) x ≡ element_word (element_of F D x)
unfolding element_word_by element_of element_word
same_element F D x = rw (← among_number x F) (go (is "all" x) (among x F))
  where
    go : (a b : Bool) → cond a 0 (cond b (number_in F x + 1) (first_domain_word + number_in D x)) ≡ element_word (cond a all (cond b (fn (number_in F x)) (any_in (number_in D x))))
    go true b = refl
    go false true = refl
    go false false = refl

module _ (t : List ℕ) (file : List Field) (oix six fix : List ℕ) (o s f : ℕ) (maps : Maps t file oix six fix o s f) where
  same_number : (ix : List ℕ) (n : ℕ) (names : List (List ℕ)) → Index t ix n names → numbers_in t ix n ≡ number_in names
  same_number ix n names index = λ i. λ x. index.knows x i

  same_numbers : numbers_by t oix o six s fix f ≡ numbers_of file
  same_numbers = rw (
    same_number oix o _ maps.of_objects.index,
    same_number six s _ maps.of_subjects.index,
    same_number fix f _ maps.of_functions.index,
    maps.of_functions.index.count,
  ) (λ i. record {
    subject = number_in (domains_at subject_name file);
    object = number_in (domains_at object_name file);
    element = λ x. same_element (identifiers_at subject_members file) (domains_at subject_name file) x i;
  })

  pub worded_known : (list : List FieldAt) (n : ℕ) (words starts : List ℕ)
      → Worded (numbers_by t oix o six s fix f) t list n words starts → Worded (numbers_of file) t list n words starts
  worded_known list n words starts w = rw same_numbers at w
