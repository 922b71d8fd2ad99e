-- The first of the places decides.
use Rattle.std.proofs.Common.{rules}
use Rattle.text_keys.proofs.Looks.{block_some, block_none}
use Rattle.text_keys.proofs.begins_block.Goals as goal

pub returns-in-Some : goal.returns-in-Some
returns-in-Some c =
    block_some
    c.in-Some.place.now
    c.row_at.result
    c.row_at.ensures
    c.args.places.now
    c.args.l.now
    c.alongside.result
    c.look.result.column
    c.look.result.dash
    (search rules)
    c.look.ensures.stands.0
    c.look.ensures.stands.1
    c.alongside.ensures

pub returns-in-None : goal.returns-in-None
returns-in-None c = search (rules, block_none)
