-- The definition: spaces first, then each element.
use Rattle.std.proofs.Common.{rules}
use Rattle.text_lists.proofs.Laws.{not_spaced, told_spaced, all_told}
use Rattle.text_lists.proofs.inside_fault.Goals as goal

pub returns-then-not-spaced : goal.returns-then-not-spaced
returns-then-not-spaced c = search (rules, not_spaced)

pub all_are-requires : goal.all_are-requires
all_are-requires c = search (rules, told_spaced)

pub returns : goal.returns
returns c = search (rules, all_told)
