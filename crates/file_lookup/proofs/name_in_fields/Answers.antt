-- The rules refuse the fields, and there is no name; or they hold, and the name is among those of the map.
use Rattle.std.proofs.Common.{rules}
use Rattle.file_lookup.proofs.Answered.{rules_refuse, rules_answer}
use Rattle.file_lookup.proofs.name_in_fields.Goals as goal

pub returns-in-Unread : goal.returns-in-Unread
returns-in-Unread c = search (rules, rules_refuse)

pub returns-in-Accepted : goal.returns-in-Accepted
returns-in-Accepted c = search (rules, rules_answer)
