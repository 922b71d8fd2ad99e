-- The chain's test, word by word.
use Rattle.std.proofs.Common.{rules, ◌≡◌, ◌∙◌, eqb}
use Rattle.std.specs.List.{list_all}
use Rattle.std.proofs.lemmas.Iterator.{YieldsList-from_slice}
use Rattle.std.proofs.lemmas.Iterator.Search.{all_from_yields_List}
use Rattle.judge_pattern.proofs.Laws.{alls_told}
use Rattle.judge_pattern.proofs.is_all.Goals as goal

pub returns : goal.returns
returns c =
    let told : c.all.result ≡ list_all (λ w. eqb w 0) c.args.pattern.now =
    all_from_yields_List (λ w. eqb w 0) _ _ c.all.result c.all.ensures.ran (YieldsList-from_slice c.args.pattern.now cc) (λ x b q k. search rules) in
    told ∙ alls_told c.args.pattern.now
