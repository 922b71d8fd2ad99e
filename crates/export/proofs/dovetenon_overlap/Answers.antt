-- The report's numbers fit, and its number packs it.
use Rattle.std.proofs.Common.{rules}
use Rattle.export.proofs.Fits.{report_fits}
use Rattle.export.proofs.dovetenon_overlap.Goals as goal

pub packed_report-requires : goal.packed_report-requires
packed_report-requires c = search (rules, report_fits)
