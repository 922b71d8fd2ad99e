-- What lets the entries be judged without asking for each word whether the table has it.
use Rattle.std.specs.Prelude.{ℕ, ◌<◌, ◌≤◌, ◌≡◌, List, map, Bool, false, ◌&&◌, length}
use Rattle.std.proofs.Common.{arith}
use Rattle.paper.specs.Common.{count_up}
use Rattle.paper.specs.Limits.{most_domains}
use Rattle.paper.specs.Table.{entry_at, entry_count, policy_in, entry_in, descriptor_in}
use Rattle.paper.specs.Match.{some_descriptor_grants}
use Rattle.paper.specs.Verdict.{entry_grants}
use Rattle.judge_entries.specs.Passes.{domain_count}
use Rattle.judge_match.specs.declared.Event.{Event}
use Rattle.judge_match.specs.Moments.{binding, allocation_of, has_subject}

-- the table has all words of its entries, and the target's domain is listed and has a bit in a grant
pub record Whole (ws : List ℕ) (event : Event) : Type 0 where
  pub entries : entry_at (entry_count ws) ≤ length ws
  pub few : event.target < most_domains
  pub listed : event.target < domain_count ws event.access

-- where words before a place are there, those before an earlier place are
pub fewer_there : (ws : List ℕ) (m n : ℕ) → m ≤ n → n ≤ length ws → m ≤ length ws
fewer_there ws m n h l = omega arith

-- none of n descriptors from the first on grants the event, whatever the allocation
pub record NoneGrants (ws : List ℕ) (first n : ℕ) (event : Event) : Type 0 where
  pub refuses : (al : List ℕ) → false ≡ some_descriptor_grants (policy_in ws) (map (descriptor_in ws) (count_up first n)) event.target (binding event) (allocation_of al event)

-- entry k, where the answer is false, does not grant the event
pub record MayGrant (ws : List ℕ) (k : ℕ) (event : Event) (r : Bool) : Type 0 where
  pub refuses : (al : List ℕ) → r ≡ false
      → false ≡ (has_subject ws k event && entry_grants (policy_in ws) (entry_in ws k) event.access (binding event) (allocation_of al event))
