-- The three places.
use Rattle.std.proofs.Common.{rules}
use Rattle.file_fields.proofs.Places.{one_of_three}
use Rattle.file_fields.proofs.is_call_context.Goals as goal

pub returns : goal.returns
returns c = search (rules, one_of_three)
