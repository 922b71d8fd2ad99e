-- The loop: the number among the things that are left, and those of the kind that were passed, make the number.
use Rattle.std.proofs.Common.{◌≡◌, ◌+◌, ◌-◌, ◌/◌, ◌≤◌, length}
use Rattle.paper.specs.Common.{number_in}
use Rattle.file_find.specs.Number.{names_of_kind, number_of}
use Rattle.file_find.proofs.find.Given as goal

abbrev pub invariant-loop-thing : goal.invariant-loop-thing
invariant-loop-thing l =
    (l.number ≤ l.thing-index)
    × (l.number + number_in (names_of_kind l.text l.list l.kind l.thing-index (length l.list / 4 - l.thing-index)) l.name ≡ number_of l.text l.list l.kind l.name)
