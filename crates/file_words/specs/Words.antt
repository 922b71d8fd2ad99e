-- The words of the names that the fields of a file have: what the table holds of each, made once for 7, 8 and the table.
use Rattle.std.specs.Prelude.{ℕ, ◌+◌, ◌-◌, ◌<◌, ◌≤◌, ◌≡◌, Bool, true, false, cond, ltb, length, get_or, take, drop}
use mathlib.Core.List.{List, [], map, flat_map}
use Rattle.paper.specs.Common.{is, number_in}
use Rattle.paper.specs.Lists.{elements}
use Rattle.paper.specs.Listing.{object_name, subject_name, subject_members}
use Rattle.paper.specs.Page.{Field}
use Rattle.paper.specs.Rules.{domains_at, identifiers_at}
use Rattle.paper.specs.Policy.{element_of}
use Rattle.paper.specs.Table.{first_domain_word, element_word}
use Rattle.file_fields.specs.Fields.{between}
use Rattle.file_index.specs.Buckets.{numbers_in}
use Rattle.file_index.specs.declared.maps.MapNames.{MapNames}
use Rattle.file_words.specs.Looking.{sought_at}
use Rattle.file_words.specs.declared.places.Sought.{Sought}
use Rattle.file_words.specs.declared.places.Sought.TheVariants.{Subject, Subjects, Objects, Elements, Nothing}
use Rattle.file_fields.specs.declared.file.FieldAt.{FieldAt}

-- the word of an element, by what numbers so many functions, and what the subject domains
unfoldable pub element_word_by : (List ℕ → ℕ) → ℕ → (List ℕ → ℕ) → List ℕ → ℕ
element_word_by function functions subject s =
    cond (is "all" s) 0 (cond (ltb (function s) functions) (function s + 1) (first_domain_word + subject s))

-- the word of a name, in a pattern or in a list of domains
unfoldable pub word_by : Bool → (List ℕ → ℕ) → ℕ → (List ℕ → ℕ) → List ℕ → ℕ
word_by false number n subject s = number s
word_by true number n subject s = element_word_by number n subject s

-- what gives names their words: domains by their numbers, elements of patterns as the table has them
pub record Numbers : Type 0 where
  pub subject : List ℕ → ℕ
  pub object : List ℕ → ℕ
  pub element : List ℕ → ℕ

-- the indexes of the maps do
abbrev pub numbers_by : List ℕ → List ℕ → ℕ → List ℕ → ℕ → List ℕ → ℕ → Numbers
numbers_by t objectIx objects subjectIx subjects functionIx functions =
    record {
      subject = numbers_in t subjectIx subjects;
      object = numbers_in t objectIx objects;
      element = element_word_by (numbers_in t functionIx functions) functions (numbers_in t subjectIx subjects);
    }

-- those of these maps
abbrev pub numbers_from : List ℕ → MapNames → Numbers
numbers_from t m = numbers_by t m.objects.index.now m.objects.count m.subjects.index.now m.subjects.count m.functions.index.now m.functions.count

-- the file does
abbrev pub numbers_of : List Field → Numbers
numbers_of file =
    record {
      subject = number_in (domains_at subject_name file);
      object = number_in (domains_at object_name file);
      element = λ s. element_word (element_of (identifiers_at subject_members file) (domains_at subject_name file) s);
    }

-- the words of a value's names, by what they are looked up in. A subject alone is no list, and has none.
unfoldable pub words_by : Numbers → Sought → List ℕ → List ℕ
words_by k Subject v = []
words_by k Subjects v = map k.subject (elements v)
words_by k Objects v = map k.object (elements v)
words_by k Elements v = map k.element (elements v)
words_by k Nothing v = []

-- of a field's names
unfoldable pub field_words : Numbers → Field → List ℕ
field_words k f = words_by k (sought_at f.place) f.value

-- of the fields before number i
abbrev pub words_to : Numbers → List ℕ → List FieldAt → ℕ → List ℕ
words_to k t list i = flat_map (field_words k) (between t list 0 i)

-- from the start of field i up to that of the next
abbrev pub words_in : List ℕ → List ℕ → ℕ → List ℕ
words_in words starts i = take (get_or starts (i + 1) 0 - get_or starts i 0) (drop (get_or starts i 0) words)

-- the words of n fields stand one behind the other, and where each field's start
pub record Worded (k : Numbers) (t : List ℕ) (list : List FieldAt) (n : ℕ) (words starts : List ℕ) : Type 0 where
  pub room : n < length starts
  pub begun : (i : ℕ) → i ≤ n → get_or starts i 0 ≡ length (words_to k t list i)
  pub holds : take (length (words_to k t list n)) words ≡ words_to k t list n

-- the same, whatever numbers the names
pub record WordedSomehow (t : List ℕ) (list : List FieldAt) (n : ℕ) (words starts : List ℕ) : Type 0 where
  pub numbers : Numbers
  pub worded : Worded numbers t list n words starts
