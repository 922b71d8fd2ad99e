-- The filled text is refused by no rule of bytes or lines: only the rules over the whole file are left.
use mathlib.Core.Path.{◌≡◌, refl}
use mathlib.Core.List.{List}
use mathlib.Core.Bool.{true, false}
use Prim.Native.Nat.{ℕ, ◌≤◌}
use lib.ListN.{length}
use borrow.Author.Tests.{le-ltb}
use Rattle.paper.specs.Limits.{text_bytes}
use Rattle.paper.specs.Page.{Field, fields, page_of}
use Rattle.paper.specs.Rules.{ruled, unless_line}
use Rattle.paper.specs.Filled.{filled_text}
use Rattle.paper.specs.Promises.{text_page, file_of}
use Rattle.laws.specs.Standing.{all_stand}
use Rattle.laws.proofs.Standing.{none_bad}
use Rattle.laws_page.specs.Right.{in_listing_order}
use Rattle.laws_file.proofs.EachRule.{page_right, page_in_order}
use Rattle.laws_filled.specs.Fields.{filled_fields, written}
use Rattle.laws_filled.proofs.Text.{filled_text_lem}
use Rattle.laws_filled.proofs.Back.{text_stands, plain_all_stand}
use Rattle.laws_filled.proofs.WrittenRight.{written_right}
use Rattle.laws_filled.proofs.WrittenOrder.{written_order}
use Rattle.laws_filled.proofs.FilledPage.{filled_page}

filled_stands : (t : List ℕ) (fs : List Field) → page_of t ≡ fields fs → all_stand (filled_text fs) ≡ true
filled_stands t fs page =
    let o : in_listing_order 0 false fs ≡ true = page_in_order t fs page in
    plain_all_stand (filled_text fs) (rw (filled_text_lem fs) (text_stands 0 false (written fs) (written_order 0 false fs o) (written_right fs o (page_right t fs page))))

-- no line of it is at fault: what the rules over the whole file say is all that is left
pub filled_ruled : (t : List ℕ) (fs : List Field) → page_of t ≡ fields fs → length (filled_text fs) ≤ text_bytes
    → file_of (filled_text fs) ≡ ruled (filled_fields fs)
unfolding file_of text_page unless_line
filled_ruled t fs page short =
    rw (le-ltb text_bytes (length (filled_text fs)) short, none_bad 1 (filled_text fs) (filled_stands t fs page), filled_page t fs page) refl
