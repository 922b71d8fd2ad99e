-- The cells. Cell i * places + j is of the patterns from places i and j on: it holds how many frames their best stack has,
-- its base frame, and the cell at which the rest of it begins.
use Rattle.std.specs.Prelude.{ℕ, zero, suc, ◌<◌, ◌≤◌, ◌/◌, ◌%◌, ◌+◌, ◌≡◌, Bool, false, ◌&&◌, List, [], ◌∷◌, map, leb, length, slice_index, get_or, drop}
use Rattle.std.proofs.Common.{lit<}
use Rattle.std.proofs.Props.{props}
use Rattle.paper.specs.Limits.{witness_words}
use Rattle.paper.specs.Policy.{Element}
use Rattle.paper.specs.Table.{element_in}
use Rattle.paper.specs.Match.{matches, is_all}
use Rattle.overlap_cells.specs.declared.firsts.Firsts.{Firsts}
use Rattle.overlap_cells.specs.declared.firsts.Firsts.TheVariants.{Apart}
use Rattle.overlap_cells.specs.declared.chain.Chain.{Chain}
use Rattle.overlap_cells.specs.Places.{places, last_cell, cells}
use Rattle.overlap_cells.specs.Best.{comes_first, common_frame, firsts_of, best_with, best_stack}

-- the pattern that these words are, from place i on
abbrev pub pattern_from : ℕ → List ℕ → List Element
pattern_from i p = map element_in (drop i p)

-- from place `end` on the pattern matches the empty stack, and before it does not, whatever the functions
unfoldable pub OnlyAllFrom : List ℕ → ℕ → Type 0
OnlyAllFrom p end = (functions : List ℕ) (i : ℕ) → matches functions (pattern_from i p) [] ≡ leb end i

pub OnlyAllFrom-prop : (p : List ℕ) (end : ℕ) → IsProp (OnlyAllFrom p end)
unfolding OnlyAllFrom
OnlyAllFrom-prop p end = hlevel props

-- place i is the last of a pattern with an element other than `all`
abbrev pub EndsAt : List ℕ → ℕ → Type 0
EndsAt p i = (i < length p) × (slice_index p i ≡ 0 → ⊥) × ((k : ℕ) → i < k → k < length p → slice_index p k ≡ 0)

-- the first elements of two patterns, where both have one
unfoldable pub firsts_from : List ℕ → (ℕ → Bool) → List Element → List Element → Firsts
firsts_from functions test [] Q = Apart
firsts_from functions test (a ∷ P) [] = Apart
firsts_from functions test (a ∷ P) (b ∷ Q) = firsts_of functions test a b (matches functions P [] && matches functions Q [])

-- two elements that are not `all`, and that no frame meets both
pub record Differ (functions : List ℕ) (a b : Element) : Type 0 where
  pub one : is_all a ≡ false
  pub other : is_all b ≡ false
  pub apart : common_frame functions a b ≡ []

-- no stack matches both patterns, whatever the domain of its top
unfoldable pub NeverMeet : List ℕ → List ℕ → List ℕ → Type 0
NeverMeet functions p q = (d : ℕ) → best_stack functions d (map element_in p) (map element_in q) ≡ []

-- no frames
abbrev pub no_stack : Chain
no_stack = record { frames = 0; base = 0; rest = last_cell; inside = lit< tt }

-- cell c
abbrev pub cell_at : List Chain → ℕ → Chain
cell_at chains c = get_or chains c no_stack

-- n frames from cell c on
unfoldable pub stack_at : List Chain → ℕ → ℕ → List ℕ
stack_at chains c zero = []
stack_at chains c (suc n) = (cell_at chains c).base ∷ stack_at chains (cell_at chains c).rest n

-- n frames: f, and then from cell c on
unfoldable pub stack_of : List Chain → ℕ → ℕ → ℕ → List ℕ
stack_of chains zero f c = []
stack_of chains (suc n) f c = f ∷ stack_at chains c n

-- the stack of a chain
abbrev pub chain_stack : List Chain → Chain → List ℕ
chain_stack chains chain = stack_of chains chain.frames chain.base chain.rest

-- the stack of a cell
abbrev pub cell_stack : List Chain → ℕ → List ℕ
cell_stack chains c = stack_at chains c (cell_at chains c).frames

-- the stack of cell k, of those of the three cells that it is made of
abbrev pub from_cells : Firsts → List ℕ → List Chain → ℕ → List ℕ
from_cells firsts low chains k =
    best_with comes_first low firsts (cell_stack chains (k + places + 1)) (cell_stack chains (k + places)) (cell_stack chains (k + 1))

-- no cell's stack has more frames than the witness has words
abbrev pub Short : List Chain → Type 0
Short chains = (c : ℕ) → (cell_at chains c).frames ≤ witness_words

-- the rest of each cell's stack begins at that cell or after it
abbrev pub Onward : List Chain → Type 0
Onward chains = (c : ℕ) → c < cells → c ≤ (cell_at chains c).rest

-- the cells from k on hold the best stacks
unfoldable pub Filled : List ℕ → ℕ → List ℕ → List ℕ → List Chain → ℕ → Type 0
Filled functions d p q chains k =
    (c : ℕ) → k ≤ c → c < cells → cell_stack chains c ≡ best_stack functions d (pattern_from (c / places) p) (pattern_from (c % places) q)
