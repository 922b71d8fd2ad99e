-- The loop without exit: the commas counted and those left are all.
use Rattle.std.proofs.Common.{◌≡◌, ◌+◌, ◌≤◌, drop, count_by}
use Rattle.file_fields.specs.Values.{is_comma}
use Rattle.file_fields.proofs.values.block_commas.Given as goal

abbrev pub invariant-loop-b : goal.invariant-loop-b
invariant-loop-b l = (l.count ≤ l.b-index) × (l.count + count_by is_comma (drop l.b-index l.s) ≡ count_by is_comma l.s)
