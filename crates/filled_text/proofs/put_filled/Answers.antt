-- The maps as they were written, then every entry.
use Rattle.std.proofs.Common.{rules}
use Rattle.filled_lines.proofs.Sinks.{fits_one, fits_last, put_two}
use Rattle.filled_text.proofs.Texts.{whole_fits, whole_put}
use Rattle.filled_text.proofs.put_filled.Goals as goal

pub written_lines-requires : goal.written_lines-requires
written_lines-requires g c = fits_one g.met.S.Sink.laws _ _ _ (whole_fits g.S.Sink.Fits _ _ _ c.maps.ensures c.requires)

pub entries-requires : goal.entries-requires
entries-requires g c = search (rules, fits_last g.met.S.Sink.laws, whole_fits g.S.Sink.Fits)

pub returns : goal.returns
returns g c = search (rules, whole_put g.S.Sink.Put, put_two g.met.S.Sink.laws)
