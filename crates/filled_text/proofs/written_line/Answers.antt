-- With its value, or bare.
use Rattle.std.proofs.Common.{rules}
use Rattle.filled_text.proofs.Texts.{bare_fits, key_fits, bare_put, key_put}
use Rattle.filled_text.proofs.written_line.Goals as goal

pub bare_line-requires : goal.bare_line-requires
bare_line-requires g c = search (rules, bare_fits g.S.Sink.Fits)

pub key_line-requires : goal.key_line-requires
key_line-requires g c = search (rules, key_fits g.S.Sink.Fits)

pub returns-then-v-eq0 : goal.returns-then-v-eq0
returns-then-v-eq0 g c = search (rules, bare_put g.S.Sink.Put)

pub returns-else-v-eq0 : goal.returns-else-v-eq0
returns-else-v-eq0 g c = search (rules, key_put g.S.Sink.Put)
