-- The plain words that the definitions are written in: tests of lists, stretches of bytes, places in a list.
use Rattle.std.specs.Prelude.{ℕ, zero, suc, ◌+◌, List, [], ◌∷◌, Bool, true, false, cond, ◌&&◌, ◌||◌, eqb, leb, length}
use Prim.Native.Char.{code}
use Prim.Native.String.{String}
use Prim.Native.String as Str

-- the bytes of an ASCII text
abbrev pub bytes : String → List ℕ
bytes Str.[] = []
bytes (Str.◌∷◌ c cs) = code c ∷ bytes cs

-- between two numbers, both included
abbrev pub within : ℕ → ℕ → ℕ → Bool
within low high n = leb low n && leb n high

-- there is nothing in it
abbrev pub is_empty : {A : Type 0} → List A → Bool
is_empty xs = eqb (length xs) 0

-- every element passes the test
unfoldable pub all_of : {A : Type 0} → (A → Bool) → List A → Bool
all_of test [] = true
all_of test (x ∷ xs) = test x && all_of test xs

-- some element passes the test
unfoldable pub any_of : {A : Type 0} → (A → Bool) → List A → Bool
any_of test [] = false
any_of test (x ∷ xs) = test x || any_of test xs

-- every number below n passes the test
unfoldable pub up_to : (ℕ → Bool) → ℕ → Bool
up_to test zero = true
up_to test (suc n) = up_to test n && test n

-- n numbers, from k up
unfoldable pub count_up : ℕ → ℕ → List ℕ
count_up k zero = []
count_up k (suc n) = k ∷ count_up (k + 1) n

-- two stretches hold the same bytes
unfoldable pub same : List ℕ → List ℕ → Bool
same [] [] = true
same [] (y ∷ ys) = false
same (x ∷ xs) [] = false
same (x ∷ xs) (y ∷ ys) = eqb x y && same xs ys

-- the second stretch begins with the first
unfoldable pub is_front_of : List ℕ → List ℕ → Bool
is_front_of [] ys = true
is_front_of (x ∷ xs) [] = false
is_front_of (x ∷ xs) (y ∷ ys) = eqb x y && is_front_of xs ys

-- the stretch holds these bytes
abbrev pub is : String → List ℕ → Bool
is text s = same (bytes text) s

-- the stretch is one of these
unfoldable pub is_one : List String → List ℕ → Bool
is_one texts s = any_of (λ text. is text s) texts

-- the stretch stands in the list
unfoldable pub among : List ℕ → List (List ℕ) → Bool
among s names = any_of (same s) names

-- the number, from 0, of the first in the list that is this stretch; where none is, how many there are
unfoldable pub number_in : List (List ℕ) → List ℕ → ℕ
number_in [] s = 0
number_in (name ∷ names) s = cond (same name s) 0 (number_in names s + 1)

-- b put in front of the first piece
unfoldable pub on_piece : ℕ → List (List ℕ) → List (List ℕ)
on_piece b [] = (b ∷ []) ∷ []
on_piece b (p ∷ ps) = (b ∷ p) ∷ ps

-- the pieces between one separator and the next: one more than there are separators
unfoldable pub cut : ℕ → List ℕ → List (List ℕ)
cut separator [] = [] ∷ []
cut separator (b ∷ bs) = cond (eqb b separator) ([] ∷ cut separator bs) (on_piece b (cut separator bs))
