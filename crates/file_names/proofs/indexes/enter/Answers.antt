-- A name whose way ends at one is known; any other goes in where its way ended.
use Rattle.std.proofs.Common.{rules}
use Rattle.file_index.proofs.Steps.{free_before}
use Rattle.file_names.proofs.Entering.{known_told, new_told, put_told}
use Rattle.file_names.proofs.indexes.enter.Goals as goal

pub insert-requires-clause-w_bound : goal.insert-requires-clause-w_bound
insert-requires-clause-w_bound c = search (rules, free_before)

pub returns-in-Found-clause-value : goal.returns-in-Found-clause-value
returns-in-Found-clause-value c = search (rules, known_told)

pub returns-in-Free-clause-value : goal.returns-in-Free-clause-value
returns-in-Free-clause-value c = search (rules, new_told)

pub returns-in-Free-clause-ix_after : goal.returns-in-Free-clause-ix_after
returns-in-Free-clause-ix_after c = search (rules, put_told)
