-- None of the keys by its place, or one of them.
use Rattle.std.proofs.Common.{rules}
use Rattle.file_entries.proofs.Unbound.{any_key, before_keys}
use Rattle.file_entries.proofs.is_unbound.Goals as goal

pub returns-then-place-lt-READ_CONTEXT : goal.returns-then-place-lt-READ_CONTEXT
returns-then-place-lt-READ_CONTEXT c = search (rules, before_keys)

pub returns : goal.returns
returns c = search (rules, any_key)
