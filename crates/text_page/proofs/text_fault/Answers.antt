-- 2, then 3, then the page, as the definition has them.
use Rattle.std.proofs.Common.{rules}
use Rattle.text_page.proofs.Texts.{text_long, text_bad, text_page_lem}
use Rattle.text_lines.proofs.Laws.{is_line, is_some_line, is_no_line}
use Rattle.text_page.proofs.text_fault.Goals as goal

pub returns-then-t-gt-TEXT_BYTES : goal.returns-then-t-gt-TEXT_BYTES
returns-then-t-gt-TEXT_BYTES c = search (rules, text_long)

pub returns-in-Some : goal.returns-in-Some
returns-in-Some c = search (rules, text_bad, is_line, is_some_line)

pub returns : goal.returns
returns c = search (rules, text_page_lem, is_no_line)
