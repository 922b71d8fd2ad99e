-- The refusals in their order, else what `first_clash` says.
use Rattle.std.proofs.Common.{rules}
use Rattle.overlap.proofs.Words.{functions_fit}
use Rattle.overlap.proofs.Reporting.{ill_formed, no_room, reported}
use Rattle.overlap.proofs.overlap.Goals as goal

pub returns-then-not-well_formed : goal.returns-then-not-well_formed
returns-then-not-well_formed c = search (rules, ill_formed)

pub returns-then-witness-lt-WITNESS_WORDS : goal.returns-then-witness-lt-WITNESS_WORDS
returns-then-witness-lt-WITNESS_WORDS c = search (rules, no_room)

pub lowest_functions-lows-requires : goal.lowest_functions-lows-requires
lowest_functions-lows-requires c = search (rules, functions_fit)

pub returns : goal.returns
returns c = search (rules, reported)
