-- Demand 2, in the words of the user: "An access is allowed exactly when both ends are listed and it stays inside one subject domain as a call
-- or return, or some entry that matches subject, stack, uid and gid grants it."
use Rattle.std.specs.Prelude.{ℕ, ◌<◌, ◌≤◌, ◌≡◌, true, ◌⊎◌, length, get_or}
use Rattle.paper.specs.declared.Access.{Access}
use Rattle.paper.specs.declared.Verdict.{Verdict}
use Rattle.paper.specs.declared.Verdict.TheVariants.{Inside, Granted}
use Rattle.paper.specs.Limits.{most_frames}
use Rattle.paper.specs.Policy.{Entry, no_entry, Policy}
use Rattle.paper.specs.Match.{Moment, top, top_lies_in, matches, sort_fits}
use Rattle.paper.specs.Verdict.{is_code, targets_of, target_number, target_domain, entry_grants}

-- none of 21 to 23 refuses the event
pub record Judged (operation : ℕ) (m allocation : Moment) : Type 0 where
  pub some_frame : 1 ≤ length m.stack
  pub few_frames : length m.stack ≤ most_frames
  pub few_allocation_frames : length allocation.stack ≤ most_frames
  pub some_operation : 1 ≤ operation
  pub known_operation : operation ≤ 4

-- "An access is allowed"
abbrev pub Allowed : Verdict → Type 0
Allowed v = (v ≡ Inside) ⊎ ((entry : ℕ) × (v ≡ Granted entry))

-- "both ends are listed"
pub record BothListed (p : Policy) (a : Access) (m : Moment) : Type 0 where
  pub running : top m.stack < length p.functions
  pub target : target_number a < length (targets_of p a)

-- "it stays inside one subject domain as a call or return"
pub record StaysInside (p : Policy) (a : Access) (m : Moment) : Type 0 where
  pub call_or_return : is_code a ≡ true
  pub one_domain : target_domain p a ≡ get_or p.functions (top m.stack) 0

-- an entry "that matches subject, stack, uid and gid grants it"; and namespace (document 02 g)
pub record MatchesAndGrants (p : Policy) (a : Access) (m allocation : Moment) (e : Entry) : Type 0 where
  pub subject : top_lies_in p e.subject m.stack ≡ true
  pub stack : matches p.functions e.context.pattern m.stack ≡ true
  pub uid : sort_fits e.context.uid m.uid ≡ true
  pub gid : sort_fits e.context.gid m.gid ≡ true
  pub namespace : sort_fits e.context.namespace m.namespace ≡ true
  pub grants : entry_grants p e a m allocation ≡ true

-- "some entry"
pub record SomeEntryGrants (p : Policy) (a : Access) (m allocation : Moment) : Type 0 where
  pub entry : ℕ
  pub listed : entry < length p.entries
  pub grants : MatchesAndGrants p a m allocation (get_or p.entries entry no_entry)

-- the whole condition
abbrev pub MayHappen : Policy → Access → Moment → Moment → Type 0
MayHappen p a m allocation = BothListed p a m × (StaysInside p a m ⊎ SomeEntryGrants p a m allocation)
