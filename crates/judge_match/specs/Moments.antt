-- A moment as the code has it: a stack, and the numbers beside it.
use Rattle.std.specs.Prelude.{ℕ, ◌<◌, ◌≡◌, List, [], Bool, eqb, length, get_or}
use Rattle.paper.specs.Table.{function_domains_in, policy_in, entry_in}
use Rattle.paper.specs.Match.{Moment, top}
use Rattle.paper.specs.Verdict.{target_domain}
use Rattle.judge_match.specs.declared.Ids.{Ids}
use Rattle.judge_match.specs.declared.Event.{Event}

abbrev pub moment_of : List ℕ → Ids → Moment
moment_of stack ids = record { stack = stack; uid = ids.uid; gid = ids.gid; namespace = ids.namespace }

-- the moment that binds an entry's variables, of which a descriptor looks at uid, gid and namespace alone
abbrev pub binding : Event → Moment
binding event = moment_of [] event.ids

abbrev pub allocation_of : List ℕ → Event → Moment
allocation_of allocation event = moment_of allocation event.allocated

-- the running function is listed, and the event's domains are those of the running function and of the target
pub record Placed (ws stack : List ℕ) (event : Event) : Type 0 where
  pub some : length stack ≡ 0 → ⊥
  pub listed : top stack < length (function_domains_in ws)
  pub subject : event.subject ≡ get_or (function_domains_in ws) (top stack) 0
  pub target : event.target ≡ target_domain (policy_in ws) event.access

-- entry k is one of the event's subject domain
abbrev pub has_subject : List ℕ → ℕ → Event → Bool
has_subject ws k event = eqb event.subject (entry_in ws k).subject
