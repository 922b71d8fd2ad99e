-- What the words of the theorem mean, computed: a text with CR LF at the end of some of its lines, and where its names stand.
use mathlib.Core.Path.{◌≡◌, refl}
use mathlib.Core.Bool.{true, false}
use mathlib.Core.List.{[], ◌∷◌, ◌++◌, map}
use Prim.Native.Nat.{ℕ}
use lib.Dec.{eqb, ltb}
use Rattle.paper.specs.Common.{bytes, all_of}
use Rattle.paper.specs.Page.{Field}
use Rattle.laws_file.specs.Rules.{total}
use Rattle.laws_office.specs.Office.{office_byte, office_from, office, returns_in, no_return, returns_to, moved}

some_lines_and_all :
    office (λ n. eqb n 2) (bytes "a: b\n\nc:\nd")
    ∷ office (λ n. true) (bytes "\na\n")
    ∷ office (λ n. false) (bytes "a\nb\n")
    ∷ []
    ≡ bytes "a: b\n\r\nc:\nd" ∷ bytes "\r\na\r\n" ∷ bytes "a\nb\n" ∷ []
unfolding office office_from office_byte
some_lines_and_all = refl

no_return_in_them : map no_return (bytes "a\n" ∷ bytes "a\r\n" ∷ bytes "\r" ∷ []) ≡ true ∷ false ∷ false ∷ []
unfolding no_return all_of
no_return_in_them = refl

returns_counted : map returns_in ([] ∷ bytes "\r" ∷ bytes "a\r\nb\r\n" ∷ bytes "a\nb\n" ∷ []) ≡ 0 ∷ 1 ∷ 2 ∷ 0 ∷ []
unfolding returns_in total
returns_counted = refl

-- a value on line n, at place 40 of the text
abbrev on_line : ℕ → Field
on_line n = record { line = n; place = 2; start = 40; value = bytes "A" }

-- by none on line 1, and by those of the lines before it on any other
moved_by_those_before :
    map (λ n. (moved (λ k. true) (on_line n)).start) (1 ∷ 2 ∷ 5 ∷ []) ++ map (λ n. (moved (ltb 2) (on_line n)).start) (1 ∷ 2 ∷ 3 ∷ 4 ∷ 5 ∷ [])
    ≡ 40 ∷ 41 ∷ 44 ∷ 40 ∷ 40 ∷ 40 ∷ 41 ∷ 42 ∷ []
unfolding moved returns_to
moved_by_those_before = refl
