-- Where two entries of a table clash.
use Rattle.std.specs.Prelude.{ℕ, ◌≤◌, ◌≡◌, Bool, true, cond, not, ◌&&◌, ◌||◌, List, [], eqb, length}
use Rattle.paper.specs.Scalars.{Sort, root, sort_number}
use Rattle.paper.specs.Policy.{Context, Entry, Policy}
use Rattle.paper.specs.Table.{entry_in, function_domains_in}
use Rattle.paper.specs.Match.{Moment, sort_fits, entry_matches}
use Rattle.paper.specs.Overlap.{is_user, entry_of_policy}
use Rattle.overlap_cells.specs.Best.{most_needed, best_stack}

-- an entry says `root`
unfoldable pub is_root : Sort → Bool
is_root sort = eqb (sort_number sort) (sort_number root)

-- no number fits both sorts
unfoldable pub apart : Sort → Sort → Bool
apart one other = (is_root one && is_user other) || (is_user one && is_root other)

-- two entries have one subject, and there is a uid for both
unfoldable pub may_clash : Entry → Entry → Bool
may_clash a b = eqb a.subject b.subject && not (apart a.context.uid b.context.uid)

-- the best stack that both entries match, of functions with these domains; [] where there is none
unfoldable pub clash_stack : List ℕ → Entry → Entry → List ℕ
clash_stack functions a b = cond (may_clash a b) (best_stack functions a.subject a.context.pattern b.context.pattern) []

-- that of two entries of a policy, and of a table
unfoldable pub pair_stack : Policy → ℕ → ℕ → List ℕ
pair_stack p i j = clash_stack p.functions (entry_of_policy p i) (entry_of_policy p j)

unfoldable pub table_stack : List ℕ → ℕ → ℕ → List ℕ
table_stack ws i j = clash_stack (function_domains_in ws) (entry_in ws i) (entry_in ws j)

-- both entries match the moment with another stack, one that is no longer than their patterns need
pub record MatchedShort (p : Policy) (a b : Entry) (m : Moment) : Type 0 where
  pub stack : List ℕ
  pub short : length stack ≤ most_needed (length a.context.pattern) (length b.context.pattern)
  pub one : entry_matches p a (record { stack = stack; uid = m.uid; gid = m.gid; namespace = m.namespace }) ≡ true
  pub other : entry_matches p b (record { stack = stack; uid = m.uid; gid = m.gid; namespace = m.namespace }) ≡ true

-- the context leaves gid and namespace 0
pub record Free (c : Context) : Type 0 where
  pub gid : sort_fits c.gid 0 ≡ true
  pub namespace : sort_fits c.namespace 0 ≡ true
