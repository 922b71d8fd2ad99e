-- Few bytes by their hash, and more by eights.
use Rattle.std.proofs.Common.{rules}
use Rattle.file_entries.proofs.Weights.{weight_short, weight_long}
use Rattle.file_entries.proofs.weight.Goals as goal

pub returns-then-v-lt8 : goal.returns-then-v-lt8
returns-then-v-lt8 c = search (rules, weight_short)

pub returns : goal.returns
returns c = search (rules, weight_long)
