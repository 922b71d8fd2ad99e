-- The second worked file, filled out byte for byte (document 01, "A file, filled out").
use mathlib.Core.Path.{◌≡◌, refl}
use Rattle.paper.specs.Promises.{file_of, text_filled}
use Rattle.paper.proofs.Computing.{computing}
use Rattle.paper.proofs.Worked.{worked, worked_filled}

pub worked_filled_as_told : text_filled (file_of worked) ≡ worked_filled
unfolding computing
worked_filled_as_told = refl
