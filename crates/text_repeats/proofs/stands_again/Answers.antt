-- By whether the name begins early enough to be passed over.
use Rattle.std.proofs.Common.{rules}
use Rattle.text_repeats.proofs.Laws.{passed_over, looked_for}
use Rattle.text_repeats.proofs.stands_again.Goals as goal

pub returns-then-at-from : goal.returns-then-at-from
returns-then-at-from c = search (rules, passed_over)

pub returns : goal.returns
returns c = search (rules, looked_for)
