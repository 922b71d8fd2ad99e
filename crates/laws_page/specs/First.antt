-- What it is to be the first line at fault: every line before it passes.
use Rattle.std.specs.Prelude.{◌≡◌, List, [], ◌∷◌, ◌++◌, true, false, ◌⊎◌, ℕ, ◌+◌, length}
use Rattle.paper.specs.Text.{Line, lines, skipped}
use Rattle.paper.specs.Listing.{at_block}
use Rattle.paper.specs.Page.{fault, State, pass, stop, Field, before_first, is_left_empty, line_step, at_end}

-- every one of the lines passes, from line n on, and leads from one state to another
pub data Free : State → ℕ → List Line → State → Type 0 where
  none : {st : State} {n : ℕ} → Free st n [] st
  one : {st st' e : State} {n : ℕ} {l : Line} {ls : List Line} {fs : List Field} → line_step st n l ≡ pass st' fs → Free st' (n + 1) ls e → Free st n (l ∷ ls) e

-- every one of the lines is skipped, and LF ends it
pub data AllSkipped : List Line → Type 0 where
  none : AllSkipped []
  one : {l : Line} {ls : List Line} → skipped l.text ≡ true → l.ended ≡ true → AllSkipped ls → AllSkipped (l ∷ ls)

-- a line that does not begin the block of the field above: it is skipped and LF does not end it, or it counts and does not stand there
abbrev pub Breaks : State → Line → Type 0
Breaks st l = ((skipped l.text ≡ true) × (l.ended ≡ false)) ⊎ ((skipped l.text ≡ false) × (at_block st.place l.text ≡ false))

-- the block of the field above does not follow: the text ends, or such a line stands there
abbrev pub Apart : State → List Line → Type 0
Apart st [] = Unit
Apart st (l ∷ ls) = Breaks st l

-- line m itself is at fault, and the lines before it are not
pub record Own (st : State) (n : ℕ) (ls : List Line) (k m : ℕ) : Type 0 where
  pub before : List Line
  pub line : Line
  pub behind : List Line
  pub state : State
  pub splits : ls ≡ before ++ (line ∷ behind)
  pub number : m ≡ n + length before
  pub free : Free st n before state
  pub faulty : line_step state m line ≡ stop k m

-- the field on line m is left empty: the lines before it are free, it is bare and does not mean `[]`, only skipped lines stand behind it, and then its block does not follow
pub record Empty (st : State) (n : ℕ) (ls : List Line) (k m : ℕ) : Type 0 where
  pub before : List Line
  pub line : Line
  pub between : List Line
  pub behind : List Line
  pub state : State
  pub left : State
  pub told : List Field
  pub splits : ls ≡ before ++ (line ∷ (between ++ behind))
  pub number : m ≡ n + length before
  pub free : Free st n before state
  pub bare : line_step state m line ≡ pass left told
  pub own : left.line ≡ m
  pub nine : k ≡ 9
  pub due : is_left_empty left false ≡ true
  pub skips : AllSkipped between
  pub apart : Apart left behind

-- the same of a field that stands before all of the lines
pub record Above (st : State) (ls : List Line) (k m : ℕ) : Type 0 where
  pub between : List Line
  pub behind : List Line
  pub splits : ls ≡ between ++ behind
  pub number : m ≡ st.line
  pub nine : k ≡ 9
  pub due : is_left_empty st false ≡ true
  pub skips : AllSkipped between
  pub apart : Apart st behind

-- no line is at fault, and the text ends too early: a key is missing one past the last line
pub record Missing (st : State) (n : ℕ) (ls : List Line) (k m : ℕ) : Type 0 where
  pub state : State
  pub number : m ≡ n + length ls
  pub free : Free st n ls state
  pub early : at_end state m ≡ fault k m

-- the four ways in which lines can be refused
pub data First (st : State) (n : ℕ) (ls : List Line) (k m : ℕ) : Type 0 where
  own : Own st n ls k m → First st n ls k m
  empty : Empty st n ls k m → First st n ls k m
  missing : Missing st n ls k m → First st n ls k m
  above : Above st ls k m → First st n ls k m

-- the first line of a text at fault is line m, with number k
pub data Smallest (t : List ℕ) (k m : ℕ) : Type 0 where
  on_it : Own before_first 1 (lines t) k m → Smallest t k m
  left_empty : Empty before_first 1 (lines t) k m → Smallest t k m
  past_the_last : Missing before_first 1 (lines t) k m → Smallest t k m
