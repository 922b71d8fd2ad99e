-- The rules refuse the fields, or hold and the list is written.
use Rattle.std.proofs.Common.{rules}
use Rattle.file_listing.proofs.Answers.{rules_refuse, rules_untouched, rules_answer, rules_leave}
use Rattle.file_listing.proofs.list_ruled.Goals as goal

pub returns-in-Unread : goal.returns-in-Unread
returns-in-Unread c = search (rules, rules_refuse, rules_untouched)

pub returns-in-Accepted : goal.returns-in-Accepted
returns-in-Accepted c = search (rules, rules_answer, rules_leave)
