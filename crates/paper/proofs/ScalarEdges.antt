-- Scalars at their edges: the six sorts of object with every choice of their parts, bars, line numbers, lengths, and the words that are no names (document 01, "Scalars").
use Prim.Native.Nat.{ℕ}
use Prim.Native.String.{String}
use mathlib.Core.Path.{◌≡◌, refl}
use mathlib.Core.Bool.{Bool, true, false, cond}
use mathlib.Core.List.{List, [], ◌∷◌, ◌++◌, map, flat_map}
use lib.ListN.{replicate}
use Rattle.paper.specs.declared.Kind.TheVariants.{Subject, Object}
use Rattle.paper.specs.declared.Scalar.TheVariants.{DomainName, PatternElement}
use Rattle.paper.specs.Common.{bytes}
use Rattle.paper.specs.Scalars.{is_domain_name, is_variable, is_uid, is_gid, is_identifier, is_line_number, is_scalar}
use Rattle.paper.specs.Lists.{list_fault}
use Rattle.paper.proofs.Computing.{computing}

-- "GLOBAL and IO need path, line, name; HEAP and STACK_REGION path and line, name empty; STACK_FRAME path and name, line empty; OTHER any of the three, or none":
-- each choice of path, line and name
abbrev choices : List String
choices = "|p|1|n" ∷ "|p|1|" ∷ "|p||n" ∷ "|p||" ∷ "||1|n" ∷ "||1|" ∷ "|||n" ∷ "|||" ∷ []

-- those that a sort takes
abbrev taken : String → List String
taken sort = flat_map (λ parts. cond (is_identifier Object (bytes sort ++ bytes parts)) (parts ∷ []) []) choices

parts_of_each_sort :
    map taken ("GLOBAL" ∷ "IO" ∷ "HEAP" ∷ "STACK_REGION" ∷ "STACK_FRAME" ∷ "OTHER" ∷ [])
    ≡ ("|p|1|n" ∷ []) ∷ ("|p|1|n" ∷ []) ∷ ("|p|1|" ∷ []) ∷ ("|p|1|" ∷ []) ∷ ("|p||n" ∷ []) ∷ choices ∷ []
unfolding computing
parts_of_each_sort = refl

-- no other word is a sort
no_other_sort :
    map taken ("" ∷ "global" ∷ "GLOBALS" ∷ "GLOBA" ∷ "STACK" ∷ "HEAPS" ∷ "OTHE" ∷ "all" ∷ "I" ∷ []) ≡ replicate 9 []
unfolding computing
no_other_sort = refl

-- three bars, and for a function one with bytes on both sides
abbrev objects : List String → List Bool
objects given = map (λ s. is_identifier Object (bytes s)) given

abbrev functions : List String → List Bool
functions given = map (λ s. is_identifier Subject (bytes s)) given

bars_counted :
    objects ("OTHER" ∷ "OTHER|" ∷ "OTHER||" ∷ "OTHER|||" ∷ "OTHER||||" ∷ "OTHER|a|" ∷ []) ++ functions ("f" ∷ "f|g" ∷ "f|g|" ∷ "f|g|h" ∷ "f|" ∷ "|g" ∷ "f||" ∷ "" ∷ [])
    ≡ (false ∷ false ∷ false ∷ true ∷ false ∷ false ∷ []) ++ (false ∷ true ∷ false ∷ false ∷ false ∷ false ∷ false ∷ false ∷ [])
unfolding computing
bars_counted = refl

-- 1 to 999999
lines_at_their_ends :
    map (λ s. is_line_number (bytes s)) ("" ∷ "0" ∷ "1" ∷ "9" ∷ "10" ∷ "01" ∷ "99999" ∷ "100000" ∷ "999999" ∷ "1000000" ∷ "0999999" ∷ "9999990" ∷ [])
    ≡ false ∷ false ∷ true ∷ true ∷ true ∷ false ∷ true ∷ true ∷ true ∷ false ∷ false ∷ false ∷ []
unfolding computing
lines_at_their_ends = refl

abbrev long : ℕ → List ℕ
long n = replicate n 97

-- names of 0, 1, 64 and 65 bytes
names_of_64_and_65 :
    map is_domain_name (long 0 ∷ long 1 ∷ long 64 ∷ long 65 ∷ [])
    ++ (map is_variable (long 0 ∷ long 1 ∷ long 64 ∷ long 65 ∷ [])
    ++ (map is_uid (long 0 ∷ long 1 ∷ long 64 ∷ long 65 ∷ []) ++ map is_gid (long 0 ∷ long 1 ∷ long 64 ∷ long 65 ∷ [])))
    ≡ (false ∷ true ∷ true ∷ false ∷ [])
    ++ ((false ∷ true ∷ true ∷ false ∷ []) ++ ((false ∷ true ∷ true ∷ false ∷ []) ++ (false ∷ true ∷ true ∷ false ∷ [])))
unfolding computing
names_of_64_and_65 = refl

-- identifiers of 128 and 129 bytes, the length being that of the whole
identifiers_of_128_and_129 :
    map (λ n. is_identifier Subject (bytes "f|" ++ long n)) (126 ∷ 127 ∷ [])
    ++ map (λ n. is_identifier Object (bytes "OTHER|||" ++ long n)) (120 ∷ 121 ∷ [])
    ≡ true ∷ false ∷ true ∷ false ∷ []
unfolding computing
identifiers_of_128_and_129 = refl

-- "domain name, .. and not `all`; variable, the same, and not `all`, `root`, `user`"; "`uid`: `root`, `user`, `all` or a variable; `gid`: `all` or a variable"
abbrev tried : (List ℕ → Bool) → List Bool
tried test = map (λ s. test (bytes s)) ("all" ∷ "root" ∷ "user" ∷ "any" ∷ "0" ∷ "al" ∷ "alls" ∷ "All" ∷ [])

words_that_are_not_free :
    map tried (is_domain_name ∷ is_variable ∷ is_uid ∷ is_gid ∷ [])
    ≡ (false ∷ true ∷ true ∷ true ∷ true ∷ true ∷ true ∷ true ∷ [])
    ∷ (false ∷ false ∷ false ∷ true ∷ true ∷ true ∷ true ∷ true ∷ [])
    ∷ (true ∷ true ∷ true ∷ true ∷ true ∷ true ∷ true ∷ true ∷ [])
    ∷ (true ∷ false ∷ false ∷ true ∷ true ∷ true ∷ true ∷ true ∷ [])
    ∷ []
unfolding computing
words_that_are_not_free = refl

-- an element of a pattern: `all`, a function, or a domain name, "5 covers the element's form" (document 02 d)
elements_of_a_pattern :
    map (λ s. is_scalar PatternElement (bytes s)) ("all" ∷ "f|g" ∷ "B" ∷ "any" ∷ "root" ∷ "" ∷ "f|" ∷ "|g" ∷ "f|g|h" ∷ "a-b" ∷ "a/b" ∷ "[B" ∷ [])
    ++ map (is_scalar PatternElement) (long 64 ∷ long 65 ∷ [])
    ≡ (true ∷ true ∷ true ∷ true ∷ true ∷ replicate 7 false) ++ (true ∷ false ∷ [])
unfolding computing
elements_of_a_pattern = refl

-- "Lists are `[]` or `[a, b]`, with one space after each comma and none elsewhere": what is wrong with a list of domain names
lists_at_their_edges :
    map (λ s. list_fault DomainName (bytes s)) ("[]" ∷ "[a]" ∷ "[a, b]" ∷ "[a, b, ]" ∷ "[, a]" ∷ "[all]" ∷ []) ≡ 0 ∷ 0 ∷ 0 ∷ 5 ∷ 5 ∷ 5 ∷ []
unfolding computing
lists_at_their_edges = refl

lists_not_so_spaced :
    map (λ s. list_fault DomainName (bytes s)) ("[a,b]" ∷ "[a,  b]" ∷ "[ a]" ∷ "[a ]" ∷ "[a, b,]" ∷ "[a b]" ∷ "a, b" ∷ "[a" ∷ "a]" ∷ "[" ∷ "" ∷ []) ≡ replicate 11 4
unfolding computing
lists_not_so_spaced = refl
