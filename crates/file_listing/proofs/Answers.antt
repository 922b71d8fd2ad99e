-- What the list answers and leaves, step by step: by the page, by the rules, then by the room for it.
use mathlib.Core.Path.{◌≡◌, refl, ap, ◌∙◌}
use mathlib.Core.List.{List}
use Prim.Native.Nat.{ℕ, ◌<◌, ◌≤◌}
use lib.ListN.{length, take}
use borrow.Author.Tests.{lt-ltb, le-ltb}
use Rattle.std.specs.Prelude.{Result, Ok, Err}
use Rattle.paper.specs.declared.Fault.{Fault}
use Rattle.paper.specs.declared.Reading.{Reading}
use Rattle.paper.specs.declared.Reading.TheVariants.{Accepted, Unread}
use Rattle.paper.specs.Page.{Field}
use Rattle.paper.specs.Rules.{ruled}
use Rattle.paper.specs.Promises.{text_page, reading_of}
use Rattle.file_fields.specs.Fields.{between}
use Rattle.file_fields.specs.Listed.{found_in}
use Rattle.file_fields.specs.declared.file.FieldAt.{FieldAt}
use Rattle.file_read.proofs.Finding.{file_refused, file_held, rules_fault, rules_hold}
use Rattle.filled_lines.specs.Wrote.{Wrote}
use Rattle.file_listing.specs.declared.Listing.{Listing}
use Rattle.file_listing.specs.declared.Listing.TheVariants as listing
use Rattle.file_things.specs.Things.{things_of}
use Rattle.file_listing.specs.Answer.{listing_of, list_left, words_listed, list_answer, list_leaves}

-- ---- the room

module _ (words : ℕ) (things out : List ℕ) (e : words ≡ length things) where
  pub listed_is : listing.Listed words ≡ listing.Listed (length things)
  listed_is = ap listing.Listed e

  pub left_short : length out < words → out ≡ list_left things out
  unfolding list_left
  left_short h = rw (← e, lt-ltb (length out) words h) refl

  pub left_listed : (after : List ℕ) (r : ℕ) → words ≤ length out → Wrote things out after r → after ≡ list_left things out
  unfolding list_left
  left_listed after r h w = w.left ∙ rw (← e, le-ltb (length out) words h) refl

-- ---- the rules

module _ (fs : List Field) (r : Reading) (e : r ≡ reading_of (ruled fs)) where
  module _ (k m : ℕ) (q : r ≡ Unread k m) where
    pub rules_refuse : listing.Unlisted k m ≡ listing_of (ruled fs)
    rules_refuse = rw (rules_fault fs r e k m q) refl

    pub rules_untouched : (out : List ℕ) → out ≡ words_listed (ruled fs) out
    rules_untouched out = rw (rules_fault fs r e k m q) refl

  module _ (q : r ≡ Accepted) where
    pub rules_answer : (a : Listing) → a ≡ listing.Listed (length (things_of fs)) → a ≡ listing_of (ruled fs)
    rules_answer a h = h ∙ rw (rules_hold fs r e q) refl

    pub rules_leave : (out after : List ℕ) → after ≡ list_left (things_of fs) out → after ≡ words_listed (ruled fs) out
    rules_leave out after h = h ∙ rw (rules_hold fs r e q) refl

-- ---- the page

module _ (t : List ℕ) (list : List FieldAt) (r : Result ℕ Fault) (e : found_in t list r ≡ text_page t) where
  module _ (f : Fault) (q : r ≡ Err f) where
    pub page_refuses : listing.Unlisted f.number f.line ≡ list_answer t
    unfolding list_answer
    page_refuses = rw (file_refused t list r e f q) refl

    pub page_untouched : (out : List ℕ) → out ≡ list_leaves t out
    unfolding list_leaves
    page_untouched out = rw (file_refused t list r e f q) refl

  module _ (n : ℕ) (q : r ≡ Ok n) where
    pub page_answers : (a : Listing) → a ≡ listing_of (ruled (between t (take n list) 0 (length (take n list)))) → a ≡ list_answer t
    unfolding list_answer
    page_answers a h = h ∙ rw (file_held t list r e n q) refl

    pub page_leaves : (out after : List ℕ) → after ≡ words_listed (ruled (between t (take n list) 0 (length (take n list)))) out → after ≡ list_leaves t out
    unfolding list_leaves
    page_leaves out after h = h ∙ rw (file_held t list r e n q) refl
