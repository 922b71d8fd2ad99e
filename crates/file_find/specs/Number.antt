-- The number of a name in a list of things, four words each. Any words are such a list: a rest of fewer than four is not looked at.
use Rattle.std.specs.Prelude.{ℕ, zero, suc, ◌+◌, ◌*◌, ◌/◌, List, [], ◌∷◌, cond, eqb, length, get_or, take, drop}
use Rattle.paper.specs.Common.{number_in}
use Rattle.file_things.specs.Things.{thing_size}

-- the kind of thing i
abbrev pub kind_in : List ℕ → ℕ → ℕ
kind_in list i = get_or list (thing_size * i) 0

-- where its name starts in the text
abbrev pub start_in : List ℕ → ℕ → ℕ
start_in list i = get_or list (thing_size * i + 2) 0

-- how many bytes the name has
abbrev pub size_in : List ℕ → ℕ → ℕ
size_in list i = get_or list (thing_size * i + 3) 0

-- its name: so many bytes of the text from there on
abbrev pub name_in : List ℕ → List ℕ → ℕ → List ℕ
name_in t list i = take (size_in list i) (drop (start_in list i) t)

-- the names of a kind among k things from thing i on
unfoldable pub names_of_kind : List ℕ → List ℕ → ℕ → ℕ → ℕ → List (List ℕ)
names_of_kind t list kind i zero = []
names_of_kind t list kind i (suc k) =
    cond (eqb (kind_in list i) kind) (name_in t list i ∷ names_of_kind t list kind (i + 1) k) (names_of_kind t list kind (i + 1) k)

-- the number of the first thing of a kind with this name; where there is none, how many of the kind there are: a number that is not below their count
unfoldable pub number_of : List ℕ → List ℕ → ℕ → List ℕ → ℕ
number_of t list kind name = number_in (names_of_kind t list kind 0 (length list / thing_size)) name
