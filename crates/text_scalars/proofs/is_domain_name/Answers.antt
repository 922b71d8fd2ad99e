-- One expression, which is the definition.
use Rattle.std.proofs.Common.{rules}
use Rattle.text_scalars.proofs.Laws.{domain_name_is}
use Rattle.text_scalars.proofs.is_domain_name.Goals as goal

pub returns : goal.returns
returns c = search (rules, domain_name_is)
