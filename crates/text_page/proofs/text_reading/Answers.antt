-- The line of a refusal fits.
use Rattle.std.proofs.Common.{rules}
use Rattle.text_page.proofs.Texts.{line_fits}
use Rattle.text_page.proofs.text_reading.Goals as goal

pub overflow_cast-result : goal.overflow_cast-result
overflow_cast-result c = search (rules, line_fits)
