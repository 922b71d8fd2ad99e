-- The loop: what is left passes the limit where all of it does, whatever it is that the closure weighs by.
use Rattle.std.proofs.Common.{◌≡◌, ℕ, ◌+◌, ◌≤◌}
use Rattle.paper.specs.Page.{Field}
use Rattle.paper.specs.Rules.{passing}
use Rattle.file_fields.specs.Fields.{between}
use Rattle.file_fields.specs.Stretches.{stretch_of}
use Rattle.file_limits.specs.Counts.{Weighs}
use Rattle.file_limits.proofs.passing_line.Given as goal

abbrev pub invariant-loop-field : goal.invariant-loop-field
invariant-loop-field g l = (l.sum ≤ l.most) × ((weigh : Field → ℕ) → Weighs l.fn.fields.file.text.now (goal.W-post g l.weight) weigh →
    passing (λ f. f.line) weigh l.most l.sum (between l.fn.fields.file.text.now l.fn.fields.file.fields.now (l.fn.fields.from + l.field-index) l.fn.fields.to) ≡
    passing (λ f. f.line) weigh l.most 0 (stretch_of l.fn.fields))
