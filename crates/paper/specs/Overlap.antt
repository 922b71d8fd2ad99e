-- The overlap report (document 01, "Overlap report", and demand 3; document 02 h and k).
use Rattle.std.specs.Prelude.{ℕ, ◌<◌, ◌≤◌, ◌≡◌, ◌⊎◌, List, [], ◌∷◌, ◌++◌, Bool, true, cond, ◌||◌, eqb, length, get_or, take, drop}
use Rattle.paper.specs.declared.Report.{Report}
use Rattle.paper.specs.declared.Report.TheVariants.{Clear, Clash, Unreported}
use Rattle.paper.specs.Limits.{witness_words}
use Rattle.paper.specs.Scalars.{Sort, user, sort_number}
use Rattle.paper.specs.Policy.{Entry, Policy, no_entry}
use Rattle.paper.specs.Table.{padded}
use Rattle.paper.specs.Match.{Moment, entry_matches}

-- entry k of a policy
unfoldable pub entry_of_policy : Policy → ℕ → Entry
entry_of_policy p k = get_or p.entries k no_entry

-- a moment "is matched by two different entries"
pub record BothMatch (p : Policy) (i j : ℕ) (m : Moment) : Type 0 where
  pub one : entry_matches p (entry_of_policy p i) m ≡ true
  pub other : entry_matches p (entry_of_policy p j) m ≡ true

-- "no moment (a stack of one or more functions, of any length, a uid, a gid)", and a namespace (document 02 g)
abbrev pub NeverBoth : Policy → ℕ → ℕ → Type 0
NeverBoth p i j = (m : Moment) → BothMatch p i j m → ⊥

-- "lower entry least, then higher least"
abbrev pub PairBefore : ℕ → ℕ → ℕ → ℕ → Type 0
PairBefore i j lower higher = (i < lower) ⊎ ((i ≡ lower) × (j < higher))

-- an entry "says `user`"
unfoldable pub is_user : Sort → Bool
is_user sort = eqb (sort_number sort) (sort_number user)

-- "uid (1 if either entry says `user`, else 0)"
unfoldable pub witness_uid : Entry → Entry → ℕ
witness_uid a b = cond (is_user a.context.uid || is_user b.context.uid) 1 0

-- "the witness holds the stack from its base, then zeros" to word 30: "The room needed is now 30 words, and 30 are written" (document 02 h). Words past them never change
unfoldable pub witness_left : List ℕ → List ℕ → List ℕ
witness_left stack old = padded witness_words stack ++ drop witness_words old

-- from the base up no function number is above the other's, up to the first that is below it
unfoldable pub NotAbove : List ℕ → List ℕ → Type 0
NotAbove [] v = Unit {0}
NotAbove (x ∷ u) [] = ⊥
NotAbove (x ∷ u) (y ∷ v) = (x < y) ⊎ ((x ≡ y) × NotAbove u v)

-- the order of stacks: "the shortest .. and among the shortest the lowest function numbers from the base up" (document 02 k)
unfoldable pub NotAfter : List ℕ → List ℕ → Type 0
NotAfter u v = NotAbove (length u ∷ u) (length v ∷ v)

-- "the first such pair in file order" with a moment "that both match", of at most 30 functions (document 02 h)
pub record FirstClash (p : Policy) (old new : List ℕ) (lower higher depth uid gid namespace : ℕ) : Type 0 where
  pub ordered : lower < higher
  pub listed : higher < length p.entries
  pub first : (i j : ℕ) → i < j → j < length p.entries → PairBefore i j lower higher → NeverBoth p i j
  pub both : BothMatch p lower higher (record { stack = take depth new; uid = uid; gid = gid; namespace = namespace })
  -- "The stack written must be the shortest that both entries match, and among the shortest the lowest" (document 02 k)
  pub least : (m : Moment) → BothMatch p lower higher m → NotAfter (take depth new) m.stack
  pub short : depth ≤ witness_words
  pub left : new ≡ witness_left (take depth new) old
  pub uid_is : uid ≡ witness_uid (entry_of_policy p lower) (entry_of_policy p higher)
  pub gid_is : gid ≡ 0
  -- "(0 in the witness)" (document 02 g)
  pub namespace_is : namespace ≡ 0

-- what the report says of a policy, and what it leaves in the witness
abbrev pub Says : Policy → List ℕ → List ℕ → Report → Type 0
Says p old new Clear = (new ≡ witness_left [] old) × ((i j : ℕ) → i < j → j < length p.entries → NeverBoth p i j)
Says p old new (Clash lower higher depth uid gid namespace) = FirstClash p old new lower higher depth uid gid namespace
Says p old new (Unreported number) = ⊥
