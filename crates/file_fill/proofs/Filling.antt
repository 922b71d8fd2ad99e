-- What the filler answers and leaves, step by step: by the page, by the rules, then by the size.
use mathlib.Core.Path.{◌≡◌, refl, ◌∙◌}
use mathlib.Core.List.{List, ◌++◌}
use Prim.Native.Nat.{ℕ, ◌<◌, ◌≤◌}
use lib.ListN.{length, take, drop}
use borrow.Author.Tests.{lt-ltb, le-ltb}
use Rattle.std.specs.Prelude.{Result, Ok, Err}
use Rattle.paper.specs.declared.Fault.{Fault}
use Rattle.paper.specs.declared.Reading.{Reading}
use Rattle.paper.specs.declared.Reading.TheVariants.{Accepted, Unread}
use Rattle.paper.specs.declared.Filling.{Filling}
use Rattle.paper.specs.declared.Filling.TheVariants.{Written, Unfilled}
use Rattle.paper.specs.Limits.{text_bytes}
use Rattle.paper.specs.Page.{Field}
use Rattle.paper.specs.Rules.{ruled}
use Rattle.paper.specs.Filled.{filled_text}
use Rattle.paper.specs.Promises.{text_page, reading_of, written_in, filling_of, text_filled, output_left, fill_answer, fill_leaves}
use Rattle.file_fields.specs.Fields.{between}
use Rattle.file_fields.specs.Listed.{found_in}
use Rattle.file_fields.specs.declared.file.FieldAt.{FieldAt}
use Rattle.file_read.proofs.Finding.{file_refused, file_held, rules_fault, rules_hold}

-- ---- the size

module _ (room s : ℕ) (text : List ℕ) (e : s ≡ length text) where
  pub too_long : text_bytes < s → Unfilled 31 0 ≡ written_in room (length text)
  unfolding written_in
  too_long h = rw (← e, lt-ltb text_bytes s h) refl

  pub no_room : s ≤ text_bytes → room < s → Unfilled 30 0 ≡ written_in room (length text)
  unfolding written_in
  no_room a b = rw (← e, le-ltb text_bytes s a, lt-ltb room s b) refl

  pub is_written : s ≤ text_bytes → s ≤ room → Written s ≡ written_in room (length text)
  unfolding written_in
  is_written a b = rw (← e, le-ltb text_bytes s a, le-ltb room s b) refl

  pub room_for : s ≤ room → length text ≤ room
  room_for h = rw e at h

  pub left_written : (out after : List ℕ) → after ≡ text ++ drop (length text) out → after ≡ output_left text out (Written s)
  left_written out after h = rw e h

-- ---- the rules

module _ (fs : List Field) (r : Reading) (e : r ≡ reading_of (ruled fs)) where
  module _ (k m : ℕ) (q : r ≡ Unread k m) where
    pub rules_refuse : (room : ℕ) → Unfilled k m ≡ filling_of room (ruled fs)
    rules_refuse room = rw (rules_fault fs r e k m q) refl

  module _ (q : r ≡ Accepted) where
    pub rules_answer : (room : ℕ) (a : Filling) → a ≡ written_in room (length (filled_text fs)) → a ≡ filling_of room (ruled fs)
    rules_answer room a h = h ∙ rw (rules_hold fs r e q) refl

    pub rules_leave : (out after : List ℕ) (a : Filling) → after ≡ output_left (filled_text fs) out a → after ≡ output_left (text_filled (ruled fs)) out a
    rules_leave out after a h = h ∙ rw (rules_hold fs r e q) refl

-- ---- the page

module _ (t : List ℕ) (list : List FieldAt) (r : Result ℕ Fault) (e : found_in t list r ≡ text_page t) where
  module _ (f : Fault) (q : r ≡ Err f) where
    pub page_refuses : (out : List ℕ) → Unfilled f.number f.line ≡ fill_answer t out
    unfolding fill_answer
    page_refuses out = rw (file_refused t list r e f q) refl

    pub page_untouched : (out : List ℕ) → out ≡ fill_leaves t out
    unfolding fill_leaves
    page_untouched out = rw (← page_refuses out) refl

  module _ (n : ℕ) (q : r ≡ Ok n) where
    pub page_answers : (out : List ℕ) (a : Filling) → a ≡ filling_of (length out) (ruled (between t (take n list) 0 (length (take n list)))) → a ≡ fill_answer t out
    unfolding fill_answer
    page_answers out a h = h ∙ rw (file_held t list r e n q) refl

    pub page_leaves : (out after : List ℕ) (a : Filling) → a ≡ filling_of (length out) (ruled (between t (take n list) 0 (length (take n list))))
        → after ≡ output_left (text_filled (ruled (between t (take n list) 0 (length (take n list))))) out a → after ≡ fill_leaves t out
    unfolding fill_leaves
    page_leaves out after a h g = g ∙ rw (← page_answers out a h, file_held t list r e n q) refl
