-- A bit that is off is put on by a sum, which fits.
use Rattle.std.proofs.Common.{rules, sym, ◌∙◌, ◌/◌}
use Rattle.paper.proofs.Bits.{put_fits, bit_off, put, put_already, put_past_end}
use Rattle.paper.proofs.Operation.insert.Goals as goal
use Rattle.paper.proofs.Operation.insert.Goals.{else-i-set-via-then-i-set+else-not-contains, else-i-set-via-else-i-set}

pub overflow_add-set : goal.overflow_add-set
overflow_add-set c =
    let off = bit_off c.args.set.now c.args.d (sym c.contains.ensures ∙ c.if-not-contains.true) in
    search (rules, put_fits, off, c.slice_known-1.given (c.args.d / 16))

pub returns-then-not-contains : goal.returns-then-not-contains
returns-then-not-contains c = put c.args.set.now c.args.d (sym c.contains.ensures ∙ c.if-not-contains.true)

pub returns-else-i-set : goal.returns-else-i-set
returns-else-i-set c =
    elim c.else-i-set.branch [
      | else-i-set-via-then-i-set+else-not-contains w ↦ search (rules, put_already)
      | else-i-set-via-else-i-set w ↦ search (rules, put_past_end)
    ]
