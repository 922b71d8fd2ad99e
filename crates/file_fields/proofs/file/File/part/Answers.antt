-- None stand between two numbers of which the second is the smaller one.
use Rattle.std.proofs.Common.{rules}
use Rattle.file_fields.proofs.Between.{between_least}
use Rattle.file_fields.proofs.file.File.part.Goals as goal

pub returns-clause-fields : goal.returns-clause-fields
returns-clause-fields c = search (rules, between_least)
