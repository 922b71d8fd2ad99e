-- One byte.
use Rattle.std.proofs.Common.{rules}
use Rattle.filled_lines.proofs.Putting.{byte_put}
use Rattle.filled_lines.proofs.put_byte.Goals as goal

pub returns : goal.returns
returns c = search (rules, byte_put)
