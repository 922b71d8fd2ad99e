-- How the filled text looks, and what of the file it keeps (document 01, "The page" and "A file, filled out").
use Rattle.std.specs.Prelude.{◌≡◌, List, Bool, true, not, ◌||◌, ℕ, ◌-◌, ◌≤◌, eqb, length, get_or}
use Rattle.paper.specs.Common.{within, all_of}
use Rattle.paper.specs.Text.{line_feed, space, lines, skipped}
use Rattle.paper.specs.Listing.{object_name, object_members, subject_name, subject_members}
use Rattle.paper.specs.Page.{Field}
use Rattle.paper.specs.Rules.{domains_at, identifiers_at}

-- the last byte of a stretch; where there is none, 0, which is no byte of a page
unfoldable pub last_byte : List ℕ → ℕ
last_byte bs = get_or bs (length bs - 1) 0

-- LF or a byte from 0x20 to 0x7E: no CR
unfoldable pub is_plain_byte : ℕ → Bool
is_plain_byte b = eqb b line_feed || within 0x20 0x7E b

-- "Skipped lines vanish", "The filled text has LF only", each line is "ended by LF", and so the last one, and none ends with a space
pub record Clean (t : List ℕ) : Type 0 where
  pub some : 1 ≤ length t
  pub plain : all_of is_plain_byte t ≡ true
  pub feed : last_byte t ≡ line_feed
  pub ended : all_of (λ l. l.ended) (lines t) ≡ true
  pub counted : all_of (λ l. not (skipped l.text)) (lines t) ≡ true
  pub trimmed : all_of (λ l. not (eqb (last_byte l.text) space)) (lines t) ≡ true

-- "all else keeps its order": two files have the same names and identifiers in their maps, so every number of a domain, an object or a
-- function is that of the same name
pub record SameNames (fs gs : List Field) : Type 0 where
  pub object_domains : domains_at object_name gs ≡ domains_at object_name fs
  pub subject_domains : domains_at subject_name gs ≡ domains_at subject_name fs
  pub objects : identifiers_at object_members gs ≡ identifiers_at object_members fs
  pub functions : identifiers_at subject_members gs ≡ identifiers_at subject_members fs
