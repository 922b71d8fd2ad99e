-- What a caller in C is told by the overlap report.
use Rattle.std.specs.Prelude.{ℕ, ◌≡◌, List}
use Rattle.paper.specs.declared.Report.{Report}
use Rattle.paper.specs.Promises.{Reported}
use Rattle.paper.specs.Answers.{report_packed}

-- the answer packs the report of a table
pub record ReportedAs (table old new : List ℕ) (answer : ℕ) : Type 0 where
  pub report : Report
  pub reported : Reported table old new report
  pub packs : answer ≡ report_packed report
