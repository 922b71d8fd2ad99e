-- By the value.
use Rattle.text_lists.proofs.Laws.{bare_told, bare_other}
use Rattle.text_lists.proofs.bare_is_none.Goals as goal

pub returns-in-AllNoneOrItems : goal.returns-in-AllNoneOrItems
returns-in-AllNoneOrItems c = bare_told c.args.value c.in-AllNoneOrItems.is

pub returns-in_default : goal.returns-in_default
returns-in_default c = bare_other c.args.value c.in_default.not-AllNoneOrItems c.in_default.not-ListOrAll
