-- Each case packs to its number.
use Rattle.std.proofs.Common.{rules}
use Rattle.export.proofs.Laws.{packs_unlisted, packs_listed}
use Rattle.export.proofs.packed_listing.Goals as goal

pub returns-in-Unlisted : goal.returns-in-Unlisted
returns-in-Unlisted c = search (rules, packs_unlisted)

pub returns-in-Listed : goal.returns-in-Listed
returns-in-Listed c = search (rules, packs_listed)
