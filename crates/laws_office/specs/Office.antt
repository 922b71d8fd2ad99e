-- A text as an office editor writes it (document 02 b: "Office files end lines with CR LF"), and where its values stand.
use Rattle.std.specs.Prelude.{ℕ, zero, suc, ◌+◌, ◌-◌, ◌≤◌, ◌≡◌, List, [], ◌∷◌, ◌++◌, map, Bool, cond, not, ◌&&◌, eqb, length, take}
use Rattle.paper.specs.Common.{all_of}
use Rattle.paper.specs.Text.{line_feed, carriage_return}
use Rattle.paper.specs.Page.{Field, Outcome, fields, fault}
use Rattle.paper.specs.Lookup.{Stretch}
use Rattle.laws_file.specs.Rules.{total}

-- a byte on a line that ends with CR LF, or does not
unfoldable pub office_byte : Bool → ℕ → List ℕ
office_byte ends b = cond (ends && eqb b line_feed) (carriage_return ∷ b ∷ []) (b ∷ [])

-- what is left of a text from line n on, with CR LF at the end of the lines that `withReturn` names
unfoldable pub office_from : (ℕ → Bool) → ℕ → List ℕ → List ℕ
office_from withReturn n [] = []
office_from withReturn n (b ∷ bs) = office_byte (withReturn n) b ++ office_from withReturn (cond (eqb b line_feed) (n + 1) n) bs

-- a text with any of its LFs written as CR LF: "One file may mix both ends."
unfoldable pub office : (ℕ → Bool) → List ℕ → List ℕ
office withReturn t = office_from withReturn 1 t

-- how many CRs stand in a stretch
unfoldable pub returns_in : List ℕ → ℕ
returns_in bs = total (λ b. cond (eqb b carriage_return) 1 0) bs

-- there is no CR in a text
unfoldable pub no_return : List ℕ → Bool
no_return t = all_of (λ b. not (eqb b carriage_return)) t

-- how many of the first n lines end with CR LF
unfoldable pub returns_to : (ℕ → Bool) → ℕ → ℕ
returns_to withReturn zero = 0
returns_to withReturn (suc n) = returns_to withReturn n + cond (withReturn (suc n)) 1 0

-- a field of the office file: its value starts further on, by one for each CR, which stand on the lines before its own
unfoldable pub moved : (ℕ → Bool) → Field → Field
moved withReturn f = record { line = f.line; place = f.place; start = f.start + returns_to withReturn (f.line - 1); value = f.value }

-- the fields of the office file; a refusal keeps its number and line
abbrev pub moved_outcome : (ℕ → Bool) → Outcome → Outcome
moved_outcome withReturn (fields fs) = fields (map (moved withReturn) fs)
moved_outcome withReturn (fault number line) = fault number line

-- a stretch of the office file that is not empty lies further on than another by one for each CR before it
unfoldable pub FurtherOn : List ℕ → Stretch → Stretch → Type 0
FurtherOn text new old = 1 ≤ length new.bytes → new.start ≡ old.start + returns_in (take new.start text)
