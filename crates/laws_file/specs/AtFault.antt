-- Which lines of a text are at fault, number by number, and what it is that a refusal is right (document 01, "Numbers that come back").
use Rattle.std.specs.Prelude.{ℕ, ◌+◌, ◌<◌, ◌≤◌, ◌≡◌, true, false, cond, List, ◌∷◌, ◌++◌, eqb, length}
use Rattle.paper.specs.Limits.{text_bytes}
use Rattle.paper.specs.Text.{line_feed, next_byte, may_stand, no_line}
use Rattle.paper.specs.Page.{Field, fields, page_of}
use Rattle.laws.specs.Standing.{all_stand}
use Rattle.laws_page.specs.First.{Smallest}
use Rattle.laws_file.specs.Rules.{total, OverLimit, NamedTwice, UnknownName, UnboundVariable, TwinPrincipal}

-- an LF, behind which a line begins
abbrev pub feed : ℕ → ℕ
feed b = cond (eqb b line_feed) 1 0

-- 3: "byte other than LF and 0x20 to 0x7E", a CR directly before LF aside, in a text that begins on line n: each LF before it begins a line more
pub record BadByte (n : ℕ) (t : List ℕ) (m : ℕ) : Type 0 where
  pub before : List ℕ
  pub byte : ℕ
  pub behind : List ℕ
  pub splits : t ≡ before ++ (byte ∷ behind)
  pub number : m ≡ n + total feed before
  pub bad : may_stand byte (next_byte behind) ≡ false

-- a rule over the whole file is about the fields of a page that is not refused
pub record InFile (t : List ℕ) (Rule : List Field → ℕ → Type 0) (m : ℕ) : Type 0 where
  pub fs : List Field
  pub page : page_of t ≡ fields fs
  pub broken : Rule fs m

-- the numbers 2 to 11
pub data Refusal : Type 0 where
  text_too_long : Refusal
  bad_byte : Refusal
  layout : Refusal
  empty_field : Refusal
  malformed_scalar : Refusal
  count_over_limit : Refusal
  name_twice : Refusal
  name_unknown : Refusal
  variable_unbound : Refusal
  principal_twin : Refusal

-- as they come back
abbrev pub number_of : Refusal → ℕ
number_of text_too_long = 2
number_of bad_byte = 3
number_of layout = 4
number_of malformed_scalar = 5
number_of count_over_limit = 6
number_of name_twice = 7
number_of name_unknown = 8
number_of empty_field = 9
number_of variable_unbound = 10
number_of principal_twin = 11

-- "Reader order: 1, 2, 3, then the first line with 4, 9 or 5 (in that order on one line), then 6, 7, 8, 10, 11"
abbrev pub turn_of : Refusal → ℕ
turn_of text_too_long = 2
turn_of bad_byte = 3
turn_of layout = 4
turn_of empty_field = 4
turn_of malformed_scalar = 4
turn_of count_over_limit = 5
turn_of name_twice = 6
turn_of name_unknown = 7
turn_of variable_unbound = 8
turn_of principal_twin = 9

-- line m of the text is at fault: of 4, 9 and 5 the first line with one of them is; "All but 3 to 11 return line 0"
abbrev pub AtFault : List ℕ → Refusal → ℕ → Type 0
AtFault t text_too_long m = (m ≡ no_line) × (text_bytes < length t)
AtFault t bad_byte m = BadByte 1 t m
AtFault t layout m = Smallest t 4 m
AtFault t empty_field m = Smallest t 9 m
AtFault t malformed_scalar m = Smallest t 5 m
AtFault t count_over_limit m = InFile t OverLimit m
AtFault t name_twice m = InFile t NamedTwice m
AtFault t name_unknown m = InFile t UnknownName m
AtFault t variable_unbound m = InFile t UnboundVariable m
AtFault t principal_twin m = InFile t TwinPrincipal m

-- document 01's rules hold of a text, each named by itself
pub record RulesHold (t : List ℕ) : Type 0 where
  -- 2: "text over 65,536 bytes"
  pub short : length t ≤ text_bytes
  -- 3: "byte other than LF and 0x20 to 0x7E", a CR directly before LF aside
  pub bytes_stand : all_stand t ≡ true
  -- 4: "layout (also no list, block or `all` where one is due), key, missing key, no LF at the end, empty text"
  pub laid_out : (m : ℕ) → Smallest t 4 m → ⊥
  -- 9: "empty field with no "none""
  pub none_empty : (m : ℕ) → Smallest t 9 m → ⊥
  -- 5: "scalar malformed, list elements too"
  pub scalars_right : (m : ℕ) → Smallest t 5 m → ⊥
  -- the fields, which a text has that is refused for none of these (`page_exactly`)
  pub fs : List Field
  pub page : page_of t ≡ fields fs
  -- 6: "a count over its limit"
  pub within_limits : (m : ℕ) → OverLimit fs m → ⊥
  -- 7: "domain name (over both maps), identifier of one map, or name in one list twice"
  pub named_once : (m : ℕ) → NamedTwice fs m → ⊥
  -- 8: "domain or function its map lacks"
  pub names_known : (m : ℕ) → UnknownName fs m → ⊥
  -- 10: "object context variable not the one bound by that entry's same key"
  pub variables_bound : (m : ℕ) → UnboundVariable fs m → ⊥
  -- 11: "two entries with the same principal"
  pub no_twins : (m : ℕ) → TwinPrincipal fs m → ⊥

-- number k with line m is right of a text: the line is at fault of it, none that is lies before it, and no number that comes sooner has a line at fault
pub record RefusedRightly (t : List ℕ) (k m : ℕ) : Type 0 where
  pub refusal : Refusal
  pub number : number_of refusal ≡ k
  pub at_fault : AtFault t refusal m
  pub smallest : (other : Refusal) (l : ℕ) → turn_of other ≡ turn_of refusal → AtFault t other l → m ≤ l
  pub sooner : (other : Refusal) (l : ℕ) → turn_of other < turn_of refusal → AtFault t other l → ⊥
