-- The judge's verdict is known, and so is its number.
use Rattle.std.proofs.Common.{rules}
use Rattle.export.proofs.Laws.{packs_verdict}
use Rattle.export.proofs.dovetenon_judge.Goals as goal

pub returns : goal.returns
returns c = search (rules, packs_verdict)
