-- The certificate says that no name is there twice; else a name is found twice, or every name is looked for.
use Rattle.std.proofs.Common.{sym}
use Rattle.text_repeats.proofs.Laws.{said}
use Rattle.text_repeats.proofs.names_twice.Goals as goal

pub returns-then-all_ranked : goal.returns-then-all_ranked
returns-then-all_ranked c = sym (c.all_ranked.ensures c.if-all_ranked.true)

pub returns-then-repeats_from : goal.returns-then-repeats_from
returns-then-repeats_from c = sym (c.repeats_from.ensures.when_true c.if-repeats_from.true)

pub returns : goal.returns
returns c = said _ _ c.repeats_from-2.ensures.when_true c.repeats_from-2.ensures.when_false
