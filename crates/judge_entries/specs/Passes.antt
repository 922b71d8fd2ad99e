-- The two passes over the entries: the first that matches, and from it on the first that grants as well.
use Rattle.std.specs.Prelude.{ℕ, ◌+◌, ◌-◌, ◌/◌, ◌<◌, ◌≤◌, ◌≡◌, List, [], ◌∷◌, map, Bool, true, false, cond, get_or, Option, Some, None}
use Rattle.paper.specs.declared.Access.{Access}
use Rattle.paper.specs.declared.Access.TheVariants.{Read, Write, Call, Return}
use Rattle.paper.specs.declared.Verdict.{Verdict}
use Rattle.paper.specs.declared.Verdict.TheVariants.{Granted, Violation}
use Rattle.paper.specs.Common.{count_up}
use Rattle.paper.specs.Policy.{Entry, Policy}
use Rattle.paper.specs.Table.{set_at, calls_at, returns_at, entry_at, entry_count, subject_domain_count, object_domain_count, function_domains_in, entry_in, policy_in}
use Rattle.paper.specs.Match.{Moment, top, entry_matches}
use Rattle.paper.specs.Verdict.{is_code, by_entries}
use Rattle.judge_match.specs.declared.Event.{Event}
use Rattle.judge_match.specs.Moments.{moment_of, Placed}
use Rattle.judge_pattern.specs.declared.Words.{Words}
use Rattle.judge_pattern.specs.Run.{Meeting}

-- the number of the first entry that matches; how many there are where none does
unfoldable pub first_match : Policy → Moment → List Entry → ℕ
first_match p m [] = 0
first_match p m (e ∷ es) = cond (entry_matches p e m) 0 (first_match p m es + 1)

-- the same of all entries of a table
abbrev pub first_of_all : List ℕ → Moment → ℕ
first_of_all ws m = first_match (policy_in ws) m (policy_in ws).entries

-- the verdict of all entries of a table
abbrev pub by_all_entries : List ℕ → List ℕ → Event → Moment → Verdict
by_all_entries ws stack event allocation =
    by_entries (policy_in ws) event.access (moment_of stack event.ids) allocation 0 false (policy_in ws).entries

-- the verdict of the entries from entry k on, once some entry matched
unfoldable pub by_entries_from : List ℕ → List ℕ → Event → Moment → ℕ → Verdict
by_entries_from ws stack event allocation k =
    by_entries (policy_in ws) event.access (moment_of stack event.ids) allocation k true (map (entry_in ws) (count_up k (entry_count ws - k)))

-- the first entry that matches, or that none does
abbrev pub FirstOfAll : List ℕ → Moment → Option ℕ → Type 0
FirstOfAll ws m None = first_of_all ws m ≡ entry_count ws
FirstOfAll ws m (Some k) = (k < entry_count ws) × (k ≡ first_of_all ws m)

-- the verdict where some entry matched, by the lowest of these that grants
abbrev pub granted : Option ℕ → Verdict
granted None = Violation 4
granted (Some k) = Granted k

-- the verdict by the lowest entry that matches, and the lowest from there on that grants as well
abbrev pub verdict_of_passes : Option ℕ → Option ℕ → Verdict
verdict_of_passes None granting = Violation 3
verdict_of_passes (Some k) granting = granted granting

-- r is the table's lowest entry from entry k on that matches and grants, or says that none does
pub record GrantedFrom (ws stack : List ℕ) (event : Event) (allocation : Moment) (k : ℕ) (r : Option ℕ) : Type 0 where
  pub few : (n : ℕ) → r ≡ Some n → n < entry_count ws
  pub decides : by_entries_from ws stack event allocation k ≡ granted r

-- entry k, where the answer is false, does not match a stack whose ends only these words can meet
pub record MayMatch (ws : List ℕ) (k : ℕ) (event : Event) (base running : Words) (r : Bool) : Type 0 where
  pub refuses : (s : List ℕ) → Placed ws s event → Meeting (function_domains_in ws) (get_or s 0 0) base → Meeting (function_domains_in ws) (top s) running → r ≡ false
      → false ≡ entry_matches (policy_in ws) (entry_in ws k) (moment_of s event.ids)

-- how many domains an access can be to
abbrev pub domain_count : List ℕ → Access → ℕ
domain_count ws a = cond (is_code a) (subject_domain_count ws) (object_domain_count ws)

-- what may be read of each entry: its own words, and that of a grant's set where the target's bit stands; and the target may be asked for
pub record Ready (may_read : List ℕ → ℕ → Type 0) (may_ask : ℕ → ℕ → Type 0) (ws : List ℕ) (event : Event) : Type 0 where
  pub entries : (k : ℕ) → k < entry_count ws → may_read ws (entry_at (k + 1))
  pub grants : (k g : ℕ) → k < entry_count ws → g ≤ returns_at → may_read ws (entry_at k + g + set_at + event.target / 16 + 1)
  pub listed : may_ask event.target (domain_count ws event.access)

-- where in an entry the grant of a call or a return stands
unfoldable pub code_grant_at : Access → ℕ
code_grant_at (Read o) = calls_at
code_grant_at (Write o) = calls_at
code_grant_at (Call f) = calls_at
code_grant_at (Return f) = returns_at

unfoldable pub is_write : Access → Bool
is_write (Read o) = false
is_write (Write o) = true
is_write (Call f) = false
is_write (Return f) = false
