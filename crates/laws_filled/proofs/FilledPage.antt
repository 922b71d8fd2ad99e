-- The fields of the filled text: it is the text of fields that are right and in order, and what is written is read.
use mathlib.Core.Path.{◌≡◌}
use mathlib.Core.List.{List}
use mathlib.Core.Bool.{true, false}
use Prim.Native.Nat.{ℕ}
use Rattle.paper.specs.Page.{Field, fields, page_of}
use Rattle.paper.specs.Filled.{filled_text}
use Rattle.laws_page.specs.Right.{in_listing_order}
use Rattle.laws_file.proofs.EachRule.{page_right, page_in_order}
use Rattle.laws_filled.specs.Fields.{filled_fields, written}
use Rattle.laws_filled.proofs.Text.{filled_text_lem}
use Rattle.laws_filled.proofs.Back.{written_read}
use Rattle.laws_filled.proofs.WrittenRight.{written_right}
use Rattle.laws_filled.proofs.WrittenOrder.{written_order}

-- the page of the filled text is never refused, and has these fields
pub filled_page : (t : List ℕ) (fs : List Field) → page_of t ≡ fields fs → page_of (filled_text fs) ≡ fields (filled_fields fs)
unfolding filled_fields
filled_page t fs page =
    let o : in_listing_order 0 false fs ≡ true = page_in_order t fs page in
    rw (filled_text_lem fs) (written_read (written fs) (written_order 0 false fs o) (written_right fs o (page_right t fs page)))
