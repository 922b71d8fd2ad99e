-- What an omitted key means is told by its place.
use Rattle.std.proofs.Common.{rules}
use Rattle.file_entries.proofs.Omitted.{pattern_told, all_told}
use Rattle.file_entries.proofs.value_at.Goals as goal

pub returns-then-is_call_context : goal.returns-then-is_call_context
returns-then-is_call_context c = search (rules, pattern_told)

pub returns : goal.returns
returns c = search (rules, all_told)
