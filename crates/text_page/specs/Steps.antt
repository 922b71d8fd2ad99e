-- The code's state and step, and the paper's.
use Rattle.std.specs.Prelude.{ℕ, ◌+◌, ◌≤◌, List, [], ◌∷◌, Option, Some, None, Result, Ok, Err, cond, length, drop}
use Rattle.paper.specs.declared.Fault.{Fault}
use Rattle.paper.specs.Listing.{row_at, value_fault}
use Rattle.paper.specs.Page as paper
use Rattle.paper.specs.Page.{one_space_and_value}
use Rattle.text_page.specs.declared.step.State.{State}
use Rattle.text_page.specs.declared.step.Keyed.{Keyed}

abbrev pub state_of : State → paper.State
state_of st = record { place = st.place; bare = st.bare; line = st.line }

-- what a line does: the field on it, none where it is skipped, or a refusal
abbrev pub Step : Type 0
Step = Result (Option Keyed) Fault

-- the step of line n, which starts at a place of the text and holds these bytes: a field's value is what stands from its start on
abbrev pub step_of : State → ℕ → ℕ → List ℕ → Step → paper.Step
step_of st n from l (Ok None) = paper.pass (state_of st) []
step_of st n from l (Ok (Some k)) =
    paper.pass
    (record { place = k.place; bare = k.bare; line = n })
    (record { line = n; place = k.place; start = from + k.start; value = drop k.start l } ∷ [])
step_of st n from l (Err r) = paper.stop r.number r.line

-- a field's value starts in its line
abbrev pub StartsIn : List ℕ → Step → Type 0
StartsIn l (Ok None) = Unit
StartsIn l (Ok (Some k)) = k.start ≤ length l
StartsIn l (Err r) = Unit

-- what is wrong with what stands after the key of a place, where something does
unfoldable pub rest_fault : ℕ → List ℕ → ℕ
rest_fault place rest = cond (one_space_and_value rest) (value_fault (row_at place).value (drop 1 rest)) 4
