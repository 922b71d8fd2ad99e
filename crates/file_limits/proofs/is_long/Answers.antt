-- The definition.
use Rattle.std.proofs.Common.{rules}
use Rattle.file_limits.proofs.Laws.{no_pattern, pattern_long}
use Rattle.file_limits.proofs.is_long.Goals as goal

pub returns-then-is_call_context : goal.returns-then-is_call_context
returns-then-is_call_context c = search (rules, pattern_long)

pub returns-else-is_call_context : goal.returns-else-is_call_context
returns-else-is_call_context c = search (rules, no_pattern)
