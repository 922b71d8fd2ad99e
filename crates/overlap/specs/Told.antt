-- What the loops over the pairs of a table say.
use Rattle.std.specs.Prelude.{ℕ, ◌<◌, ◌≡◌, List, [], Option, Some, None, drop}
use Rattle.paper.specs.declared.Report.{Report}
use Rattle.paper.specs.declared.Report.TheVariants.{Clear, Clash, Unreported}
use Rattle.paper.specs.Limits.{witness_words}
use Rattle.paper.specs.Table.{entry_count, entry_in}
use Rattle.paper.specs.Overlap.{PairBefore, witness_uid, witness_left}
use Rattle.overlap_meeting.specs.Written.{Written}
use Rattle.overlap.specs.declared.found.Found.{Found}
use Rattle.overlap.specs.Clash.{table_stack}

-- no pair before these two clashes
unfoldable pub NoneBefore : List ℕ → ℕ → ℕ → Type 0
NoneBefore ws i j = (x y : ℕ) → x < y → y < entry_count ws → PairBefore x y i j → table_stack ws x y ≡ []

-- the words past those of the witness are as they were
abbrev pub PastKept : List ℕ → List ℕ → Type 0
PastKept old new = drop witness_words new ≡ drop witness_words old

-- entries i and j are the first that clash, and the witness holds their stack
pub record Clashing (ws old new : List ℕ) (i j depth : ℕ) : Type 0 where
  pub ordered : i < j
  pub listed : j < entry_count ws
  pub written : Written (table_stack ws i j) old new (Some depth)
  pub first : NoneBefore ws i j

-- the first entry after entry i that clashes with it, where no pair before does
abbrev pub FirstAfter : List ℕ → List ℕ → List ℕ → ℕ → Option Found → Type 0
FirstAfter ws old new i None = NoneBefore ws i (entry_count ws) × PastKept old new
FirstAfter ws old new i (Some found) = Clashing ws old new i found.higher found.depth

-- the first pair that clashes
abbrev pub FirstOfAll : List ℕ → List ℕ → List ℕ → Report → Type 0
FirstOfAll ws old new Clear = NoneBefore ws (entry_count ws) 0 × (new ≡ witness_left [] old)
FirstOfAll ws old new (Clash i j depth uid gid namespace) =
    Clashing ws old new i j depth × (uid ≡ witness_uid (entry_in ws i) (entry_in ws j)) × (gid ≡ 0) × (namespace ≡ 0)
FirstOfAll ws old new (Unreported number) = ⊥
