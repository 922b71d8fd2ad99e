-- The line with the value that was found.
use Rattle.std.proofs.Common.{rules}
use Rattle.filled_parts.proofs.Texts.{value_fits, value_put}
use Rattle.filled_parts.proofs.value_line.Goals as goal

pub key_line-requires : goal.key_line-requires
key_line-requires g c = search (rules, value_fits g.S.Sink.Fits)

pub returns : goal.returns
returns g c = search (rules, value_put g.S.Sink.Put)
