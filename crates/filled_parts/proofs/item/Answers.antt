-- Its objects, then its context.
use Rattle.std.proofs.Common.{rules}
use Rattle.file_fields.proofs.Places.{objects_default}
use Rattle.filled_lines.proofs.Sinks.{fits_one, fits_last, put_two}
use Rattle.filled_parts.proofs.Texts.{item_fits, item_put}
use Rattle.filled_parts.proofs.item.Goals as goal

pub value_line-requires-clause-place_value : goal.value_line-requires-clause-place_value
value_line-requires-clause-place_value g c = search (rules, objects_default)

pub value_line-requires-clause-fits : goal.value_line-requires-clause-fits
value_line-requires-clause-fits g c = search (rules, fits_one g.met.S.Sink.laws, item_fits g.S.Sink.Fits)

pub context-requires-clause-fits : goal.context-requires-clause-fits
context-requires-clause-fits g c = search (rules, fits_last g.met.S.Sink.laws, item_fits g.S.Sink.Fits)

pub returns : goal.returns
returns g c = search (rules, item_put g.S.Sink.Put, put_two g.met.S.Sink.laws)
