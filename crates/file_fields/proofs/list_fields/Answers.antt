-- A text that is short enough and has no bad byte is found as its page is.
use Rattle.std.proofs.Common.{rules}
use Rattle.file_fields.proofs.Listing.{too_long, bad_byte, as_page}
use Rattle.text_lines.proofs.Laws.{is_line, is_some_line, is_no_line}
use Rattle.file_fields.proofs.list_fields.Goals as goal

pub returns-then-t-gt-TEXT_BYTES : goal.returns-then-t-gt-TEXT_BYTES
returns-then-t-gt-TEXT_BYTES c = search (rules, too_long)

pub returns-in-Some : goal.returns-in-Some
returns-in-Some c = search (rules, bad_byte, is_line, is_some_line)

pub returns : goal.returns
returns c = search (rules, as_page, is_no_line)
