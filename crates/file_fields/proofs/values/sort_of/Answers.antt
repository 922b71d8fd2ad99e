-- The definition: `all`, then `root`, then `user`, else a variable.
use Rattle.std.proofs.Common.{rules}
use Rattle.file_fields.proofs.Valued.{says_all, says_root, says_user, says_variable}
use Rattle.file_fields.proofs.values.sort_of.Goals as goal

pub returns-then-is_all : goal.returns-then-is_all
returns-then-is_all c = search (rules, says_all)

pub returns-then-is_root : goal.returns-then-is_root
returns-then-is_root c = search (rules, says_root)

pub returns-then-is_user : goal.returns-then-is_user
returns-then-is_user c = search (rules, says_user)

pub returns : goal.returns
returns c = search (rules, says_variable)
