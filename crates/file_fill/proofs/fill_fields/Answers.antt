-- The rules refuse the fields, or hold and the filled text is written.
use Rattle.std.proofs.Common.{rules}
use Rattle.file_fill.proofs.Filling.{rules_refuse, rules_answer, rules_leave}
use Rattle.file_fill.proofs.fill_fields.Goals as goal

pub returns-in-Unread : goal.returns-in-Unread
returns-in-Unread c = search (rules, rules_refuse)

pub returns-in-Accepted : goal.returns-in-Accepted
returns-in-Accepted c = search (rules, rules_answer, rules_leave)
