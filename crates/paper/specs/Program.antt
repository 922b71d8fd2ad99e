-- The program `fill` (document 01, "The pieces": "a small program that reads a policy from standard input and writes the filled text, or the
-- refusal number and line as `4 12` and LF").
use Rattle.std.specs.Prelude.{ℕ, zero, suc, ◌+◌, ◌/◌, ◌%◌, List, [], ◌∷◌, ◌++◌, cond, ltb, length, drop}
use Rattle.paper.specs.declared.Filling.{Filling}
use Rattle.paper.specs.declared.Filling.TheVariants.{Written, Unfilled}
use Rattle.paper.specs.Limits.{text_bytes}
use Rattle.paper.specs.Text.{line_feed, space}
use Rattle.paper.specs.Promises.{file_of, filling_of, text_filled}

-- the digits are the bytes from 0x30 to 0x39
abbrev pub digit : ℕ → ℕ
digit d = 0x30 + d

-- the last digits of a number, so many at most, and no zero in front of them but for the number 0
unfoldable pub last_digits : ℕ → ℕ → List ℕ
last_digits zero n = []
last_digits (suc most) n = cond (ltb n 10) (digit n ∷ []) (last_digits most (n / 10) ++ (digit (n % 10) ∷ []))

-- a number in decimal: n + 1 digits are never too few for n
unfoldable pub decimal : ℕ → List ℕ
decimal n = last_digits (suc n) n

-- "the refusal number and line as `4 12` and LF"
unfoldable pub refusal_line : ℕ → ℕ → List ℕ
refusal_line number line = decimal number ++ (space ∷ (decimal line ++ (line_feed ∷ [])))

-- "writes the filled text, or the refusal": by what the filler answers
abbrev pub writes : List ℕ → Filling → List ℕ
writes filled (Written size) = filled
writes filled (Unfilled number line) = refusal_line number line

-- what the program writes of the bytes that it read. It lends the filler room for the longest filled text, so that 30 is never what it writes
unfoldable pub program_writes : List ℕ → List ℕ
program_writes t = writes (text_filled (file_of t)) (filling_of text_bytes (file_of t))

-- how many bytes that is
unfoldable pub program_size : List ℕ → ℕ
program_size t = length (program_writes t)

-- what is left in the bytes lent for it: what the program writes, and nothing changed behind that
unfoldable pub program_leaves : List ℕ → List ℕ → List ℕ
program_leaves t out = program_writes t ++ drop (program_size t) out
