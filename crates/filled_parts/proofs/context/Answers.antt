-- From its first key on it is the same; where there is none, it is the default.
use Rattle.std.proofs.Common.{rules}
use Rattle.filled_lines.proofs.Sinks.{fits_one, fits_last, put_two}
use Rattle.filled_parts.proofs.Texts.{found_fits, found_put, omitted_fits, omitted_put}
use Rattle.filled_parts.proofs.context.Goals as goal

pub found_context-requires-clause-fits : goal.found_context-requires-clause-fits
found_context-requires-clause-fits g c = search (rules, found_fits g.S.Sink.Fits)

pub bare_line-requires : goal.bare_line-requires
bare_line-requires g c = search (rules, fits_one g.met.S.Sink.laws, omitted_fits g.S.Sink.Fits)

pub omitted_keys-requires : goal.omitted_keys-requires
omitted_keys-requires g c = search (rules, fits_last g.met.S.Sink.laws, omitted_fits g.S.Sink.Fits)

pub returns-in-Some : goal.returns-in-Some
returns-in-Some g c = search (rules, found_put g.S.Sink.Put)

pub returns-in-None : goal.returns-in-None
returns-in-None g c = search (rules, omitted_put g.S.Sink.Put, put_two g.met.S.Sink.laws)
