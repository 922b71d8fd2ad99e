-- All of it on one line, or its line and its items.
use Rattle.std.proofs.Common.{rules}
use Rattle.file_fields.proofs.Places.{access_default}
use Rattle.filled_lines.proofs.Sinks.{fits_one, fits_last, put_two}
use Rattle.filled_parts.proofs.Texts.{line_fits, line_put, items_fit, items_put}
use Rattle.filled_parts.proofs.access.Goals as goal

pub bare_line-requires : goal.bare_line-requires
bare_line-requires g c = fits_one g.met.S.Sink.laws _ _ _ (items_fit g.S.Sink.Fits _ _ _ _ _ _ _ c.args.fields.ordered c.next_at.ensures c.if-next_at-fields.true c.requires.fits)

pub items-requires-clause-fits : goal.items-requires-clause-fits
items-requires-clause-fits g c = search (rules, fits_last g.met.S.Sink.laws, items_fit g.S.Sink.Fits)

pub value_line-requires-clause-place_value : goal.value_line-requires-clause-place_value
value_line-requires-clause-place_value g c = search (rules, access_default)

pub value_line-requires-clause-fits : goal.value_line-requires-clause-fits
value_line-requires-clause-fits g c = search (rules, line_fits g.S.Sink.Fits)

pub returns-then-next_at-fields : goal.returns-then-next_at-fields
returns-then-next_at-fields g c = search (rules, items_put g.S.Sink.Put, put_two g.met.S.Sink.laws)

pub returns-else-next_at-fields : goal.returns-else-next_at-fields
returns-else-next_at-fields g c = search (rules, line_put g.S.Sink.Put)
