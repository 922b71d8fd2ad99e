-- The loop: what is left of the page is refused as all of it is.
use Rattle.std.proofs.Common.{rules}
use Rattle.text_page.proofs.Texts.{starts, starts_within, starts_line}
use Rattle.text_page.proofs.page_fault.Goals as goal

pub loop-field-init : goal.loop-field-init
loop-field-init c = search (rules, starts_within, starts_line, starts)
