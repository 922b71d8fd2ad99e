-- The loop: the fields in the list and what is left of the page are the page; their values take no more bytes than the lines that the walk is past.
use Rattle.std.proofs.Common.{rules, ◌≡◌, ◌≤◌, length, Ok, Some, None}
use Rattle.file_fields.proofs.Listing.{starts, starts_few, starts_bytes, starts_within, starts_line}
use Rattle.file_fields.proofs.Listing.{less, stays, line_stays, few_stay, room_left, line_few, place_few, start_few, end_few, bytes_few, again, ended, listed_room, holds, refused}
use Rattle.file_fields.proofs.list_page.Goals as goal

pub loop-field-init : goal.loop-field-init
loop-field-init c = search (rules, starts_few, starts_within, starts_line, starts, starts_bytes)

pub behind-c-requires : goal.behind-c-requires
behind-c-requires c = search (rules, line_few)

pub loop-field-smaller : goal.loop-field-smaller
loop-field-smaller c = search (rules, less)

pub loop-field-preserved : goal.loop-field-preserved
loop-field-preserved c =
    let q : c.next_field.result ≡ Ok (Some c.in-Some.field) = search rules in
    search (rules, few_stay, stays, line_stays, again, bytes_few)

pub returns-in_err-field : goal.returns-in_err-field
returns-in_err-field c = search (rules, refused)

pub returns : goal.returns
returns c =
    let q : c.next_field.result ≡ Ok None = search rules in
    let h : c.loop-field.n ≤ length c.loop-field.list = search (rules, listed_room) in
    search (rules, ended, holds)
