-- The next one ends where the next field of the place stands, which is behind its first field and within what is left.
use Rattle.std.proofs.Common.{rules}
use Rattle.file_fields.proofs.Walking.{walk_stands, walk_order, walk_less, walk_to_end, walk_listed}
use Rattle.file_fields.proofs.stretch.StretchesIterator.next.Goals as goal

pub invariant_of-self : goal.invariant_of-self
invariant_of-self c = search (rules, walk_to_end)

pub invariant_of-self-2 : goal.invariant_of-self-2
invariant_of-self-2 c = search (rules, walk_stands)

pub invariant_of-result : goal.invariant_of-result
invariant_of-result c = search (rules, walk_order, walk_listed)

pub returns-clause-goes : goal.returns-clause-goes
returns-clause-goes c = search (rules, walk_less)
