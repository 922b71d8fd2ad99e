-- Every class of bytes, all 256 tried, and the class that stands at each place of a name, an identifier and a line (document 01, "Scalars", and refusal 3).
use Prim.Native.Nat.{ℕ}
use Prim.Native.String.{String}
use mathlib.Core.Path.{◌≡◌, refl}
use mathlib.Core.Bool.{Bool, cond}
use mathlib.Core.List.{List, [], ◌∷◌, ◌++◌, map, flat_map}
use Rattle.paper.specs.declared.Kind.TheVariants.{Subject, Object}
use Rattle.paper.specs.declared.Scalar.TheVariants.{PatternElement}
use Rattle.paper.specs.Common.{bytes, any_of, count_up}
use Rattle.paper.specs.Text.{may_stand}
use Rattle.paper.specs.Scalars.{is_letter, is_digit, name_byte, is_domain_name, is_variable, is_uid, is_gid, identifier_byte, identifier_first, is_identifier, is_scalar}
use Rattle.paper.proofs.Computing.{computing}

-- those of some bytes that pass a test
abbrev those : (ℕ → Bool) → List ℕ → List ℕ
those test candidates = flat_map (λ b. cond (test b) (b ∷ []) []) candidates

abbrev of_all : (ℕ → Bool) → List ℕ
of_all test = those test (count_up 0 256)

abbrev letters : List ℕ
letters = bytes "ABCDEFGHIJKLMNOPQRSTUVWXYZabcdefghijklmnopqrstuvwxyz"

letters_as_told : of_all is_letter ≡ letters
unfolding computing
letters_as_told = refl

digits_as_told : of_all is_digit ≡ bytes "0123456789"
unfolding computing
digits_as_told = refl

-- "LF and 0x20 to 0x7E"; CR before LF, and before no other byte
bytes_of_a_text : of_all (λ b. may_stand b 10) ≡ 10 ∷ 13 ∷ count_up 0x20 95
unfolding computing
bytes_of_a_text = refl

bytes_before_others : of_all (λ next. any_of (λ b. may_stand b next) (0 ∷ 9 ∷ 11 ∷ 12 ∷ 13 ∷ 14 ∷ 31 ∷ 127 ∷ [])) ≡ 10 ∷ []
unfolding computing
bytes_before_others = refl

-- "letters, digits, `_`, `.`"
bytes_of_a_name : of_all name_byte ≡ bytes ".0123456789ABCDEFGHIJKLMNOPQRSTUVWXYZ_abcdefghijklmnopqrstuvwxyz"
unfolding computing
bytes_of_a_name = refl

-- "0x21 to 0x7E without `, [ ] { } # " ' :`"
bytes_of_an_identifier : of_all identifier_byte ≡ bytes "!$%&()*+-./0123456789;<=>?@ABCDEFGHIJKLMNOPQRSTUVWXYZ\\^_`abcdefghijklmnopqrstuvwxyz|~"
unfolding computing
bytes_of_an_identifier = refl

-- "the first a letter, digit, `/`, `.` or `_`"
first_byte_of_an_identifier : of_all identifier_first ≡ bytes "./0123456789ABCDEFGHIJKLMNOPQRSTUVWXYZ_abcdefghijklmnopqrstuvwxyz"
unfolding computing
first_byte_of_an_identifier = refl

-- the ends of every class and what lies just outside them
abbrev edges : List ℕ
edges = 0 ∷ 10 ∷ 31 ∷ bytes " !\"#$&'(+,-./09:;@AZ[\\]^_`az{|}~" ++ (127 ∷ 128 ∷ 255 ∷ [])

-- a byte in front of, between and behind others
abbrev among : (List ℕ → Bool) → String → String → List ℕ
among test before behind = those (λ b. test (bytes before ++ (b ∷ bytes behind))) edges

-- first, in the middle, last and alone, in a domain name, a variable, a uid and a gid
each_place_of_a_name :
    among is_domain_name "" "xy"
    ∷ among is_domain_name "x" "y"
    ∷ among is_domain_name "xy" ""
    ∷ among is_domain_name "" ""
    ∷ among is_variable "" "y"
    ∷ among is_variable "x" ""
    ∷ among is_uid "" "y"
    ∷ among is_uid "x" ""
    ∷ among is_gid "" "y"
    ∷ among is_gid "x" ""
    ∷ []
    ≡ map (λ (i : ℕ). bytes ".09AZ_az") (count_up 0 10)
unfolding computing
each_place_of_a_name = refl

-- the first byte of a subject identifier, alone in front of the bar or not, and of an element of a pattern
first_place_of_an_identifier :
    among (is_identifier Subject) "" "x|y" ∷ among (is_identifier Subject) "" "|y" ∷ among (is_scalar PatternElement) "" "|y" ∷ []
    ≡ map (λ (i : ℕ). bytes "./09AZ_az") (count_up 0 3)
unfolding computing
first_place_of_an_identifier = refl

-- all later bytes of either kind, behind a bar too; a bar more is one too many
later_places_of_an_identifier :
    among (is_identifier Subject) "x" "|y"
    ∷ among (is_identifier Subject) "x|" ""
    ∷ among (is_identifier Subject) "x|" "y"
    ∷ among (is_identifier Subject) "x|y" ""
    ∷ among (is_scalar PatternElement) "x|y" ""
    ∷ among (is_identifier Object) "IO|" "|1|n"
    ∷ among (is_identifier Object) "IO|p" "|1|n"
    ∷ among (is_identifier Object) "IO|p|1|" ""
    ∷ among (is_identifier Object) "IO|p|1|n" ""
    ∷ []
    ≡ map (λ (i : ℕ). bytes "!$&(+-./09;@AZ\\^_`az~") (count_up 0 9)
unfolding computing
later_places_of_an_identifier = refl

-- "A line is 1 to 999999, no leading zero."
places_of_a_line :
    among (is_identifier Object) "IO|p|" "|n"
    ∷ among (is_identifier Object) "IO|p|" "0|n"
    ∷ among (is_identifier Object) "OTHER||" "|"
    ∷ among (is_identifier Object) "IO|p|1" "|n"
    ∷ among (is_identifier Object) "IO|p|10" "0|n"
    ∷ among (is_identifier Object) "OTHER||1" "|"
    ∷ []
    ≡ bytes "9" ∷ bytes "9" ∷ bytes "9" ∷ bytes "09" ∷ bytes "09" ∷ bytes "09" ∷ []
unfolding computing
places_of_a_line = refl
