-- What a text names, and where: a list of words. The list is ours and not document 01's, whose words are "Functions and objects are numbered from 0 in
-- file order, domains and entries likewise."
use Rattle.std.specs.Prelude.{ℕ, ◌+◌, List, [], ◌∷◌, ◌++◌, cond, eqb, length, get_or}
use Rattle.paper.specs.Lists.{elements}
use Rattle.paper.specs.Listing.{object_name, object_members, subject_name, subject_members, principal}
use Rattle.paper.specs.Page.{Field, no_field}
use Rattle.file_things.specs.declared.Naming.{Naming}
use Rattle.file_things.specs.declared.Naming.TheVariants.{One, Each, Entry, Nothing}

-- ---- the kinds of things that have a number

-- a domain of the object map
abbrev pub object_domain : ℕ
object_domain = 1

-- an object
abbrev pub object : ℕ
object = 2

-- a domain of the subject map
abbrev pub subject_domain : ℕ
subject_domain = 3

-- a function
abbrev pub function : ℕ
function = 4

-- an entry
abbrev pub entry : ℕ
entry = 5

-- ---- a thing is four words

-- so many
abbrev pub thing_size : ℕ
thing_size = 4

-- its kind, its line, where its name starts in the text, and how many bytes the name has
unfoldable pub thing : ℕ → ℕ → ℕ → ℕ → List ℕ
thing kind line start size = kind ∷ line ∷ start ∷ size ∷ []

-- a thing on the line of one field whose name is the value of a field, its own or another
unfoldable pub name_thing : ℕ → Field → Field → List ℕ
name_thing kind f g = thing kind f.line g.start (length g.value)

-- the elements of a list, the first of which starts at a place: the next starts 2 bytes behind its end, "with one space after each comma"
unfoldable pub element_things : ℕ → ℕ → ℕ → List (List ℕ) → List ℕ
element_things kind line start [] = []
element_things kind line start (e ∷ es) = thing kind line start (length e) ++ element_things kind line (start + length e + 2) es

-- the elements of a field's list: the first starts behind the bracket
unfoldable pub each_thing : ℕ → Field → List ℕ
each_thing kind f = element_things kind f.line (f.start + 1) (elements f.value)

-- ---- the things of a file

-- what a field names, by its place
unfoldable pub naming_at : ℕ → Naming
naming_at place =
    cond (eqb place object_name) (One object_domain)
    (cond (eqb place object_members) (Each object)
    (cond (eqb place subject_name) (One subject_domain)
    (cond (eqb place subject_members) (Each function)
    (cond (eqb place principal) Entry Nothing))))

-- the things that a field names. An entry is named by its subject, the value of the field behind `principal`, and its line is that of `principal`
abbrev pub things_as : Naming → Field → Field → List ℕ
things_as (One kind) f behind = name_thing kind f f
things_as (Each kind) f behind = each_thing kind f
things_as Entry f behind = name_thing entry f behind
things_as Nothing f behind = []

-- the same by the field's place
unfoldable pub things_in : Field → Field → List ℕ
things_in f behind = things_as (naming_at f.place) f behind

-- all things, "in file order"
unfoldable pub things_of : List Field → List ℕ
things_of [] = []
things_of (f ∷ fs) = things_in f (get_or fs 0 no_field) ++ things_of fs

-- how many things a field names
abbrev pub count_as : Naming → Field → ℕ
count_as (One kind) f = 1
count_as (Each kind) f = length (elements f.value)
count_as Entry f = 1
count_as Nothing f = 0

-- the same by the field's place
unfoldable pub thing_count : Field → ℕ
thing_count f = count_as (naming_at f.place) f
