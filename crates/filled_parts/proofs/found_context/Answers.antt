-- The context's own line, then its four keys.
use Rattle.std.proofs.Common.{rules}
use Rattle.file_fields.proofs.Places.{pattern_default, uid_default, gid_default, namespace_default}
use Rattle.filled_lines.proofs.Sinks.{fits_one, fits_two, fits_three, fits_four, last_of_five, put_five}
use Rattle.filled_parts.proofs.Texts.{context_fits, context_put}
use Rattle.filled_parts.proofs.found_context.Goals as goal

pub bare_line-requires : goal.bare_line-requires
bare_line-requires g c = search (rules, fits_one g.met.S.Sink.laws, context_fits g.S.Sink.Fits)

pub value_line-requires-clause-place_value : goal.value_line-requires-clause-place_value
value_line-requires-clause-place_value g c = search (rules, pattern_default)

pub value_line-requires-clause-fits : goal.value_line-requires-clause-fits
value_line-requires-clause-fits g c = search (rules, fits_two g.met.S.Sink.laws, context_fits g.S.Sink.Fits)

pub value_line-requires-2-clause-place_value : goal.value_line-requires-2-clause-place_value
value_line-requires-2-clause-place_value g c = search (rules, uid_default)

pub value_line-requires-2-clause-fits : goal.value_line-requires-2-clause-fits
value_line-requires-2-clause-fits g c = search (rules, fits_three g.met.S.Sink.laws, context_fits g.S.Sink.Fits)

pub value_line-requires-3-clause-place_value : goal.value_line-requires-3-clause-place_value
value_line-requires-3-clause-place_value g c = search (rules, gid_default)

pub value_line-requires-3-clause-fits : goal.value_line-requires-3-clause-fits
value_line-requires-3-clause-fits g c = search (rules, fits_four g.met.S.Sink.laws, context_fits g.S.Sink.Fits)

pub value_line-requires-4-clause-place_value : goal.value_line-requires-4-clause-place_value
value_line-requires-4-clause-place_value g c = search (rules, namespace_default)

pub value_line-requires-4-clause-fits : goal.value_line-requires-4-clause-fits
value_line-requires-4-clause-fits g c = search (rules, last_of_five g.met.S.Sink.laws, context_fits g.S.Sink.Fits)

pub returns : goal.returns
returns g c = search (rules, context_put g.S.Sink.Put, put_five g.met.S.Sink.laws)
