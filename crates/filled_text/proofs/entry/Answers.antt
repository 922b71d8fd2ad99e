-- Its lines, in the order of the definition.
use Rattle.std.proofs.Common.{rules}
use Rattle.file_fields.proofs.Places.{subject_default, call_default, return_default}
use Rattle.filled_lines.proofs.Sinks.{fits_one, fits_two, fits_three, fits_four, fits_five, fits_six, last_of_seven, put_seven}
use Rattle.filled_text.proofs.Texts.{entry_fits, entry_put}
use Rattle.filled_text.proofs.entry.Goals as goal

pub bare_line-requires : goal.bare_line-requires
bare_line-requires g c = search (rules, fits_one g.met.S.Sink.laws, entry_fits g.S.Sink.Fits)

pub value_line-requires-clause-place_value : goal.value_line-requires-clause-place_value
value_line-requires-clause-place_value g c = subject_default

pub value_line-requires-clause-fits : goal.value_line-requires-clause-fits
value_line-requires-clause-fits g c = search (rules, fits_two g.met.S.Sink.laws, entry_fits g.S.Sink.Fits)

pub context-requires-clause-fits : goal.context-requires-clause-fits
context-requires-clause-fits g c = search (rules, fits_three g.met.S.Sink.laws, entry_fits g.S.Sink.Fits)

pub value_line-requires-2-clause-place_value : goal.value_line-requires-2-clause-place_value
value_line-requires-2-clause-place_value g c = call_default

pub value_line-requires-2-clause-fits : goal.value_line-requires-2-clause-fits
value_line-requires-2-clause-fits g c = search (rules, fits_four g.met.S.Sink.laws, entry_fits g.S.Sink.Fits)

pub value_line-requires-3-clause-place_value : goal.value_line-requires-3-clause-place_value
value_line-requires-3-clause-place_value g c = return_default

pub value_line-requires-3-clause-fits : goal.value_line-requires-3-clause-fits
value_line-requires-3-clause-fits g c = search (rules, fits_five g.met.S.Sink.laws, entry_fits g.S.Sink.Fits)

pub access-requires-clause-fits : goal.access-requires-clause-fits
access-requires-clause-fits g c = search (rules, fits_six g.met.S.Sink.laws, entry_fits g.S.Sink.Fits)

pub access-requires-2-clause-fits : goal.access-requires-2-clause-fits
access-requires-2-clause-fits g c = search (rules, last_of_seven g.met.S.Sink.laws, entry_fits g.S.Sink.Fits)

pub returns : goal.returns
returns g c = search (rules, entry_put g.S.Sink.Put, put_seven g.met.S.Sink.laws)
