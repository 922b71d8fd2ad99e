-- The walk: the elements before a place went in behind the names that were there, and none of them was one of those.
use Rattle.std.proofs.Common.{◌≡◌, ◌+◌, ◌-◌, length}
use Rattle.paper.specs.Rules.{members_named}
use Rattle.text_lists.specs.Walk.{SpacedFrom}
use Rattle.file_fields.specs.Fields.{field_at}
use Rattle.file_names.specs.Naming.{names_to}
use Rattle.file_names.proofs.Entering.{Walked, Placed}
use Rattle.file_names.proofs.indexes.enter_members.Given as goal

abbrev pub invariant-loop-element : goal.invariant-loop-element
invariant-loop-element l = SpacedFrom l.s l.at × Placed l.file.text.now l.s l.start l.at × (length l.ix ≡ length l.initial.ix) × Walked l.file.text.now l.ix l.n l.names
    (names_to (members_named l.place) l.file.text.now l.file.fields.now l.i) (members_named l.place (field_at l.file.text.now l.file.fields.now l.i)) l.s l.at

abbrev pub decreases-loop-element : goal.decreases-loop-element
decreases-loop-element l = length l.s + 3 - l.at
