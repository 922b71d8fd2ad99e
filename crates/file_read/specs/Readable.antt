-- What is known of the fields of a page that is not refused, before they are held to the rules.
use Rattle.std.specs.Prelude.{◌≡◌, List, Bool, true, leb}
use Rattle.paper.specs.Common.{all_of}
use Rattle.paper.specs.Limits.{text_bytes}
use Rattle.paper.specs.Page.{Field}
use Rattle.laws_page.specs.Right.{is_numbered}
use Rattle.file_fields.specs.Fields.{well_spaced}

-- a text of at most 65,536 bytes has no more lines than that
unfoldable pub is_low : Field → Bool
is_low f = leb f.line text_bytes

-- each field's list is well spaced, and its line is one that the text can have
pub record Readable (fs : List Field) : Type 0 where
  pub spaced : all_of well_spaced fs ≡ true
  pub numbered : all_of is_numbered fs ≡ true
  pub low : all_of is_low fs ≡ true
