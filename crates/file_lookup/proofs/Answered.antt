-- What name lookup answers, step by step: by the page, by the rules, then among the names; and that it lies in the text.
use mathlib.Core.Path.{◌≡◌, refl, ◌∙◌}
use mathlib.Core.List.{List}
use Prim.Native.Nat.{ℕ}
use native.Mathlib.Omega.{arith}
use lib.ListN.{length, take}
use borrow.Rule.Slice.Shared.{by_byte}
use Rattle.std.specs.Prelude.{Result, Ok, Err}
use Rattle.paper.specs.declared.Fault.{Fault}
use Rattle.paper.specs.declared.Map.{Map}
use Rattle.paper.specs.declared.Reading.{Reading}
use Rattle.paper.specs.declared.Reading.TheVariants.{Accepted, Unread}
use Rattle.paper.specs.Page.{Field}
use Rattle.paper.specs.Entries.{fields_at}
use Rattle.paper.specs.Rules.{ruled}
use Rattle.paper.specs.Lookup.{Stretch, names_of, name_among, name_in, VeryStretch}
use Rattle.paper.specs.Promises.{text_page, reading_of, lookup_answer}
use Rattle.file_fields.specs.Fields.{between}
use Rattle.file_fields.specs.Listed.{found_in}
use Rattle.file_fields.specs.declared.file.FieldAt.{FieldAt}
use Rattle.file_read.proofs.Finding.{file_refused, file_held, rules_fault, rules_hold}
use Rattle.file_lookup.specs.declared.Place.{Place}
use Rattle.file_lookup.specs.Place.{stretch_in, bytes_in, EndsWithBytes, InText}
use Rattle.file_lookup.proofs.Placed.{no_name}
use Rattle.file_lookup.proofs.Found.{name_bounded}

-- nothing, at the front
abbrev at_front : List ℕ → Stretch
at_front t = stretch_in t (record { start = 0; end = 0 })

-- ---- the rules

module _ (fs : List Field) (r : Reading) (e : r ≡ reading_of (ruled fs)) (which : Map) (d : ℕ) where
  pub rules_refuse : (k m : ℕ) → r ≡ Unread k m → (t : List ℕ) → at_front t ≡ name_in which d (ruled fs)
  rules_refuse k m q t = rw (rules_fault fs r e k m q) (no_name t)

  pub rules_answer : r ≡ Accepted → (p : ℕ) → p ≡ names_of which → (s : Stretch) → s ≡ name_among (fields_at p fs) d → s ≡ name_in which d (ruled fs)
  rules_answer q p place s a = a ∙ rw (place, rules_hold fs r e q) refl

-- ---- the page

module _ (t : List ℕ) (list : List FieldAt) (r : Result ℕ Fault) (e : found_in t list r ≡ text_page t) (which : Map) (d : ℕ) where
  pub page_refuses : (f : Fault) → r ≡ Err f → at_front t ≡ lookup_answer t which d
  unfolding lookup_answer
  page_refuses f q = no_name t ∙ rw (file_refused t list r e f q) refl

  pub page_answers : (n : ℕ) → r ≡ Ok n → (s : Stretch) → s ≡ name_in which d (ruled (between t (take n list) 0 (length (take n list)))) → s ≡ lookup_answer t which d
  unfolding lookup_answer
  page_answers n q s h = h ∙ rw (file_held t list r e n q) refl

-- ---- where it lies

pub front_in_text : (t : List ℕ) → InText t (record { start = 0; end = 0 })
front_in_text t = record { ordered = omega arith; within = omega arith; short = omega arith; low = omega arith }

module _ (t : List ℕ) (which : Map) (d : ℕ) (r : Place) (e : stretch_in t r ≡ lookup_answer t which d) where
  in_text : EndsWithBytes t r → InText t r
  in_text ends =
      let b = rw (← e) at (name_bounded t which d) in
      record {
        ordered = omega arith;
        within = omega (arith, b.inside);
        short = omega (arith, b.short);
        low = b.low;
      }

  -- the bytes from its start up to its end are the very stretch
  pub very_stretch : (lent : ℕ × ℕ) → VeryStretch lent (lent.0, by_byte r.start lent.1) (bytes_in t r) (lookup_answer t which d)
  unfolding VeryStretch
  very_stretch lent = rw (← e) (refl, omega arith, refl)

-- the place of a name that was looked up among the fields of the page
pub page_in_text : (t : List ℕ) (list : List FieldAt) (r : Result ℕ Fault) → found_in t list r ≡ text_page t → (which : Map) (d n : ℕ) → r ≡ Ok n
    → (p : Place) → stretch_in t p ≡ name_in which d (ruled (between t (take n list) 0 (length (take n list)))) → EndsWithBytes t p → InText t p
page_in_text t list r e which d n q p h ends = in_text t which d p (page_answers t list r e which d n q (stretch_in t p) h) ends
