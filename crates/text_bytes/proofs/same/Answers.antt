-- `==` of two slices is the paper's test.
use Rattle.std.proofs.Common.{◌∙◌}
use Rattle.laws.proofs.Library.{list_same}
use Rattle.text_bytes.proofs.same.Goals as goal

pub returns : goal.returns
returns c = c.eq.ensures ∙ list_same c.args.x.now c.args.y.now
