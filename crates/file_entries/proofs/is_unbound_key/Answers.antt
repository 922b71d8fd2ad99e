-- The field stands at the key, holds a variable, and has not the value of the entry's same key.
use Rattle.std.proofs.Common.{rules}
use Rattle.file_entries.proofs.Unbound.{no_key, no_variable, key_variable}
use Rattle.file_entries.proofs.is_unbound_key.Goals as goal

pub returns-then-not-is_object_key : goal.returns-then-not-is_object_key
returns-then-not-is_object_key c = search (rules, no_key)

pub returns-then-not-is_variable : goal.returns-then-not-is_variable
returns-then-not-is_variable c = search (rules, no_variable)

pub returns : goal.returns
returns c = search (rules, key_variable)
