-- The loop: the domains of the members of the lists passed are written.
use Rattle.std.proofs.Common.{◌≡◌}
use Rattle.paper.specs.Entries.{fields_at}
use Rattle.file_fields.specs.Stretches.{stretch_of}
use Rattle.file_table.proofs.Domains.{MembersWritten}
use Rattle.file_table.proofs.write_members.Given as goal

abbrev pub invariant-loop-list : goal.invariant-loop-list
invariant-loop-list l =
    (goal.iterator-loop-list).can_next l.list-iterator ×
    (goal.iterator-loop-list).is_finite l.list-iterator ×
    (l.list-iterator.rest.file ≡ l.maps.file) × (l.list-iterator.place ≡ l.place) × (l.list-iterator.rest.to ≡ l.maps.to) ×
    MembersWritten (fields_at l.place (stretch_of l.maps)) l.maps.file.text.now l.maps.file.fields.now l.maps.to l.place l.list-iterator.rest.from l.d l.at l.out
