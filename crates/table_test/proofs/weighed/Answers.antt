-- The chain sums the words, each as often as its place says.
use Rattle.std.proofs.Common.{rules, tests}
use Rattle.std.specs.List.{enumerate_from}
use Rattle.std.proofs.lemmas.Iterator.{YieldsList-from_slice, YieldsList-from_map}
use Rattle.std.proofs.lemmas.Iterator.Consumers.{YieldsList-from_enumerate, sum_by_from_yields_List, fits_by_from_yields_list}
use Rattle.table_test.specs.Sums.{weight}
use Rattle.table_test.proofs.Sums.{weighed_fits}
use Rattle.table_test.proofs.weighed.Goals as goal

pub sum-requires-clause-fits : goal.sum-requires-clause-fits
sum-requires-clause-fits c =
    let ws = c.args.words.now in
    fits_by_from_yields_list weight (enumerate_from 0 ws) c.map.result _
    (YieldsList-from_map _ weight (YieldsList-from_enumerate (YieldsList-from_slice ws (cc)) (cc)) (cc) (λ x r q k. search (rules, tests)))
    (weighed_fits ws c.requires (λ i. (c.type_inv.words i).fits))

pub returns : goal.returns
returns c =
    let ws = c.args.words.now in
    sum_by_from_yields_List weight (enumerate_from 0 ws) c.map.result c.sum.result c.sum.ensures.ran
    (YieldsList-from_map _ weight (YieldsList-from_enumerate (YieldsList-from_slice ws (cc)) (cc)) (cc) (λ x r q k. search (rules, tests)))
