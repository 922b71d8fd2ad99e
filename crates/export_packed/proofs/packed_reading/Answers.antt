-- Each case packs to its number.
use Rattle.std.proofs.Common.{rules}
use Rattle.export_packed.proofs.Laws.{packs_unread, packs_accepted}
use Rattle.export_packed.proofs.packed_reading.Goals as goal

pub returns-in-Unread : goal.returns-in-Unread
returns-in-Unread c = search (rules, packs_unread)

pub returns-in-Accepted : goal.returns-in-Accepted
returns-in-Accepted c = search (rules, packs_accepted)
