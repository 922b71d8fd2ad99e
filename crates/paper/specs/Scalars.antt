-- Scalars (document 01, "The page", "Scalars").
use Rattle.std.specs.Prelude.{ℕ, List, [], ◌∷◌, Bool, true, cond, not, ◌&&◌, ◌||◌, eqb, length, get_or}
use Prim.Native.Char.{code}
use Prim.Native.String.{String}
use Rattle.paper.specs.declared.Need.{Need}
use Rattle.paper.specs.declared.Need.TheVariants.{Needed, Absent, Free}
use Rattle.paper.specs.declared.Kind.{Kind}
use Rattle.paper.specs.declared.Kind.TheVariants.{Subject, Object}
use Rattle.paper.specs.declared.Scalar.{Scalar}
use Rattle.paper.specs.declared.Scalar.TheVariants.{DomainName, UidValue, GidValue, SubjectIdentifier, ObjectIdentifier, PatternElement}
use Rattle.paper.specs.Common.{bytes, within, is_empty, all_of, any_of, is, is_one, cut}
use Rattle.paper.specs.Text.{bar}

-- "letters"
unfoldable pub is_letter : ℕ → Bool
is_letter b = within (code "A") (code "Z") b || within (code "a") (code "z") b

-- "digits"
unfoldable pub is_digit : ℕ → Bool
is_digit b = within (code "0") (code "9") b

-- "letters, digits, `_`, `.`"
unfoldable pub name_byte : ℕ → Bool
name_byte b = is_letter b || is_digit b || any_of (eqb b) (bytes "_.")

-- "1 to 64 bytes of letters, digits, `_`, `.`"
unfoldable pub is_name : List ℕ → Bool
is_name s = within 1 64 (length s) && all_of name_byte s

-- "domain name, .. and not `all`"
unfoldable pub is_domain_name : List ℕ → Bool
is_domain_name s = is_name s && not (is "all" s)

-- "variable, the same, and not `all`, `root`, `user`"
unfoldable pub is_variable : List ℕ → Bool
is_variable s = is_name s && not (is_one ("all" ∷ "root" ∷ "user" ∷ []) s)

-- "`uid`: `root`, `user`, `all` or a variable"
unfoldable pub is_uid : List ℕ → Bool
is_uid s = is_one ("root" ∷ "user" ∷ "all" ∷ []) s || is_variable s

-- "`gid`: `all` or a variable"
unfoldable pub is_gid : List ℕ → Bool
is_gid s = is "all" s || is_variable s

-- the four sorts of a uid, two of which a gid can have
pub data Sort : Type 0 where
  anyone variable root user : Sort

-- their numbers, which also stand in the table
unfoldable pub sort_number : Sort → ℕ
sort_number anyone = 0
sort_number variable = 1
sort_number root = 2
sort_number user = 3

-- which of them a value says
unfoldable pub sort_of : List ℕ → Sort
sort_of s = cond (is "all" s) anyone (cond (is "root" s) root (cond (is "user" s) user variable))

-- "bytes 0x21 to 0x7E without `, [ ] { } # " ' :`"
unfoldable pub identifier_byte : ℕ → Bool
identifier_byte b = within 0x21 0x7E b && not (any_of (eqb b) (bytes ",[]{}#\"':"))

-- "the first a letter, digit, `/`, `.` or `_`"
unfoldable pub identifier_first : ℕ → Bool
identifier_first b = is_letter b || is_digit b || any_of (eqb b) (bytes "/._")

-- "A line is 1 to 999999, no leading zero."
unfoldable pub is_line_number : List ℕ → Bool
is_line_number s = within 1 6 (length s) && all_of is_digit s && not (eqb (get_or s 0 0) (code "0"))

-- a part of an identifier is as a sort needs it
unfoldable pub meets : Need → List ℕ → Bool
meets Needed s = not (is_empty s)
meets Absent s = is_empty s
meets Free s = true

-- a sort of object: its name, and what it says of path, line and name
pub record ObjectSort : Type 0 where
  pub sort : String
  pub path : Need
  pub line : Need
  pub name : Need

-- a row of the table of sorts
abbrev pub object_sort : String → Need → Need → Need → ObjectSort
object_sort s p l n = record { sort = s; path = p; line = l; name = n }

-- "GLOBAL and IO need path, line, name; HEAP and STACK_REGION path and line, name empty; STACK_FRAME path and name, line empty; OTHER any of the three, or none."
unfoldable pub object_sorts : List ObjectSort
object_sorts =
    object_sort "GLOBAL" Needed Needed Needed
    ∷ object_sort "IO" Needed Needed Needed
    ∷ object_sort "HEAP" Needed Needed Absent
    ∷ object_sort "STACK_REGION" Needed Needed Absent
    ∷ object_sort "STACK_FRAME" Needed Absent Needed
    ∷ object_sort "OTHER" Free Free Free
    ∷ []

-- the four parts of an identifier are those of this sort
unfoldable pub is_of_sort : List (List ℕ) → ObjectSort → Bool
is_of_sort parts o =
    is o.sort (get_or parts 0 [])
    && meets o.path (get_or parts 1 [])
    && meets o.line (get_or parts 2 [])
    && (is_empty (get_or parts 2 []) || is_line_number (get_or parts 2 []))
    && meets o.name (get_or parts 3 [])

-- "subject identifier: exactly one `|`, bytes on both sides"; "object identifier: three `|`"
unfoldable pub parts_fit : Kind → List (List ℕ) → Bool
parts_fit Subject parts = eqb (length parts) 2 && all_of (λ part. not (is_empty part)) parts
parts_fit Object parts = eqb (length parts) 4 && any_of (is_of_sort parts) object_sorts

-- "identifiers: 1 to 128 bytes ..", over both kinds
unfoldable pub is_identifier : Kind → List ℕ → Bool
is_identifier kind s =
    within 1 128 (length s) && identifier_first (get_or s 0 0) && all_of identifier_byte s && parts_fit kind (cut bar s)

-- each scalar by its own rule; "`call_context` holds function identifiers or `all`", or domain names (document 02 d)
unfoldable pub is_scalar : Scalar → List ℕ → Bool
is_scalar DomainName s = is_domain_name s
is_scalar UidValue s = is_uid s
is_scalar GidValue s = is_gid s
is_scalar SubjectIdentifier s = is_identifier Subject s
is_scalar ObjectIdentifier s = is_identifier Object s
is_scalar PatternElement s = is "all" s || is_identifier Subject s || is_domain_name s
