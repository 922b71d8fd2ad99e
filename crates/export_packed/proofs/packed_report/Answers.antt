-- Each case packs to its number; the numbers of a clash fit.
-- Each case packs to its number; the numbers of a clash fit.
use Rattle.std.proofs.Common.{rules}
use Rattle.export_packed.proofs.Laws.{packs_unreported, packs_clash, packs_clear, lower_fits, higher_fits, depth_fits, uid_fits}
use Rattle.export_packed.proofs.packed_report.Goals as goal

pub clash_rest-requires : goal.clash_rest-requires
clash_rest-requires c = search (rules, lower_fits, higher_fits, depth_fits, uid_fits)

pub returns-in-Unreported : goal.returns-in-Unreported
returns-in-Unreported c = search (rules, packs_unreported)

pub returns-in-Clash : goal.returns-in-Clash
returns-in-Clash c = search (rules, packs_clash)

pub returns-in-Clear : goal.returns-in-Clear
returns-in-Clear c = search (rules, packs_clear)
