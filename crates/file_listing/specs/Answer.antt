-- What the list of a text's names answers and leaves. It is ours; a text is refused exactly as the reader refuses it.
use Rattle.std.specs.Prelude.{ℕ, List, ◌++◌, cond, ltb, length, drop}
use Rattle.paper.specs.Page.{Outcome, fields, fault}
use Rattle.paper.specs.Promises.{file_of}
use Rattle.paper.specs.Answers.{Parts, refused, packed}
use Rattle.file_listing.specs.declared.Listing.{Listing}
use Rattle.file_listing.specs.declared.Listing.TheVariants.{Listed, Unlisted}
use Rattle.file_things.specs.Things.{things_of}

-- how many words the list of an accepted file takes, or the refusal
abbrev pub listing_of : Outcome → Listing
listing_of (fields fs) = Listed (length (things_of fs))
listing_of (fault number line) = Unlisted number line

-- the whole answer: 2 to 11 as the reader gives them
unfoldable pub list_answer : List ℕ → Listing
list_answer t = listing_of (file_of t)

-- the words lent, once the things are in them: unchanged where they are too few; else the things stand at their front, and behind them nothing changed
unfoldable pub list_left : List ℕ → List ℕ → List ℕ
list_left things list = cond (ltb (length list) (length things)) list (things ++ drop (length things) list)

-- after a refusal nothing changed
abbrev pub words_listed : Outcome → List ℕ → List ℕ
words_listed (fields fs) list = list_left (things_of fs) list
words_listed (fault number line) list = list

-- what is left in the words lent
unfoldable pub list_leaves : List ℕ → List ℕ → List ℕ
list_leaves t list = words_listed (file_of t) list

-- ---- for a caller in C

-- class 1 refused, class 2 listed: how many words the list takes
abbrev pub listing_parts : Listing → Parts
listing_parts (Unlisted number line) = refused number line
listing_parts (Listed words) = record { class = 2; value = 0; rest = words }

-- the answer as one number
unfoldable pub listing_packed : Listing → ℕ
listing_packed a = packed (listing_parts a)
