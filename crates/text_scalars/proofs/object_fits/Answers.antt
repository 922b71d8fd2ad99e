-- The sort goes by its name, the parts by the table of sorts.
use Rattle.std.proofs.Common.{rules}
use Rattle.text_scalars.proofs.Laws.{sort_fits, no_sort_fits}
use Rattle.text_scalars.proofs.object_fits.Goals as goal

pub returns-in-Some : goal.returns-in-Some
returns-in-Some c = search (rules, sort_fits)

pub returns-in-None : goal.returns-in-None
returns-in-None c = search (rules, no_sort_fits)
