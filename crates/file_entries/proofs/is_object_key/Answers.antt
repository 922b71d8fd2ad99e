-- The key in one context or in the other.
use Rattle.std.proofs.Common.{rules}
use Rattle.file_entries.proofs.Unbound.{object_key}
use Rattle.file_entries.proofs.is_object_key.Goals as goal

pub returns : goal.returns
returns c = search (rules, object_key)
