-- By the length, the bytes before the column and the byte at it.
use Rattle.std.proofs.Common.{rules}
use Rattle.text_keys.proofs.Fronts.{column_past, column_is}
use Rattle.text_keys.proofs.has_column.Goals as goal

pub returns-then-l-k : goal.returns-then-l-k
returns-then-l-k c = search (rules, column_past)

pub returns : goal.returns
returns c = column_is c.args.l.now c.args.k _ _ c.if-l-k.false c.is_blank.ensures c.starts_with.ensures.value
