-- The reader with a table that is too short for the words.
use Rattle.file_read.proofs.Ruling.{short_cleared}
use Rattle.file_read.proofs.rule_fields.Goals as goal

pub read_fields-requires-clause-cleared : goal.read_fields-requires-clause-cleared
read_fields-requires-clause-cleared c = short_cleared
