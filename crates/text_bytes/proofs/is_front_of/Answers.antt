-- `starts_with` is the paper's test.
use Rattle.std.proofs.Common.{◌∙◌}
use Rattle.laws.proofs.Library.{list_front}
use Rattle.text_bytes.proofs.is_front_of.Goals as goal

pub returns : goal.returns
returns c = c.starts_with.ensures.value ∙ list_front c.args.key.now c.args.s.now
