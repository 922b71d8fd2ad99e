-- By the tests, as the definition has them.
use Rattle.std.proofs.Common.{rules}
use Rattle.text_keys.proofs.Looks.{stands_dashed, stands_within}
use Rattle.text_keys.proofs.alongside.Goals as goal

pub returns-else-not-key : goal.returns-else-not-key
returns-else-not-key c = search (rules, stands_dashed)

pub slice_bounds-starts_with-count : goal.slice_bounds-starts_with-count
slice_bounds-starts_with-count c = search (rules, stands_within)

pub slice_bounds-starts_with-start : goal.slice_bounds-starts_with-start
slice_bounds-starts_with-start c = search (rules, stands_within)
