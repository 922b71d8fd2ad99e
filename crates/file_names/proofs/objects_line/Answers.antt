-- A cleared index has room for the objects.
use Rattle.std.proofs.Common.{rules}
use Rattle.file_names.proofs.Mapped.{objects_room, objects_end}
use Rattle.file_names.proofs.objects_line.Goals as goal

pub index_members-found-requires-clause-n_in_bounds : goal.index_members-found-requires-clause-n_in_bounds
index_members-found-requires-clause-n_in_bounds c = search (rules, objects_room)

pub index_members-found-requires-clause-names_end : goal.index_members-found-requires-clause-names_end
index_members-found-requires-clause-names_end c = search (rules, objects_end)
