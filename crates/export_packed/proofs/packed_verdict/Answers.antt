-- Each case packs to its number.
-- Each case packs to its number.
use Rattle.std.proofs.Common.{rules}
use Rattle.export_packed.proofs.Laws.{packs_unjudged, packs_violation, packs_inside, packs_granted}
use Rattle.export_packed.proofs.packed_verdict.Goals as goal

pub returns-in-Unjudged : goal.returns-in-Unjudged
returns-in-Unjudged c = search (rules, packs_unjudged)

pub returns-in-Violation : goal.returns-in-Violation
returns-in-Violation c = search (rules, packs_violation)

pub returns-in-Inside : goal.returns-in-Inside
returns-in-Inside c = search (rules, packs_inside)

pub returns-in-Granted : goal.returns-in-Granted
returns-in-Granted c = search (rules, packs_granted)
