-- The definition, whose first test is made apart: the first byte is read only where there is one.
use Rattle.std.proofs.Common.{rules}
use Rattle.text_scalars.proofs.Laws.{fits_none, fits_kind_is}
use Rattle.text_scalars.proofs.fits_kind.Goals as goal

pub returns-in-empty : goal.returns-in-empty
returns-in-empty c = search (rules, fits_none)

pub returns-in-len1-up : goal.returns-in-len1-up
returns-in-len1-up c = search (rules, fits_kind_is)
