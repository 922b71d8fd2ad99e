-- The first word, and then the chain over the words of the set.
use Rattle.std.proofs.Common.{rules, tests, arith, ◌≡◌}
use Rattle.std.proofs.lemmas.Grind.{common_steps}
use Rattle.paper.specs.Common.{up_to}
use Rattle.paper.specs.Table.{grant_fits, set_size}
use Rattle.laws.proofs.Mirrors.{below_tested}
use Rattle.table_blocks.specs.Parts.{set_word_fits}
use Rattle.table_blocks.proofs.grant_fits.Goals as goal

pub returns-then-word-le-EVERY : goal.returns-then-word-le-EVERY
unfolding grant_fits
returns-then-word-le-EVERY c =
    let fits = set_word_fits c.args.t.now c.args.at c.args.domains in
    let set : c.all.result ≡ up_to fits set_size = below_tested fits set_size c.all.ensures.ran (cc) (λ x b q k. search (rules, tests)) in
    grind (arith, common_steps, set)

pub returns-else-word-le-EVERY : goal.returns-else-word-le-EVERY
unfolding grant_fits
returns-else-word-le-EVERY c = grind (arith, common_steps)
