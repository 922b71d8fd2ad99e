-- What the exported functions need, as plain laws.
use mathlib.Core.Path.{◌≡◌, sym, ap, ◌∙◌}
use mathlib.Core.Bool.{Bool, true, false, cond}
use lib.Dec.{eqb}
use mathlib.Core.List.{List}
use Prim.Native.Nat.{ℕ, ◌-◌}
use native.Mathlib.Omega.{arith}
use lib.ListN.{length}
use borrow.Author.Tests.{ne_eqb}
use Rattle.std.specs.Prelude.{Option, Some, None}
use Rattle.std.proofs.lemmas.Option.{none-some, same_Some}
use Rattle.export.specs.Numbered.{map_numbered}
use Rattle.paper.specs.declared.Verdict.{Verdict}
use Rattle.paper.specs.declared.Reading.{Reading}
use Rattle.paper.specs.declared.Filling.{Filling}
use Rattle.paper.specs.declared.Map.{Map}
use Rattle.paper.specs.declared.Map.TheVariants.{Objects, Subjects}
use Rattle.paper.specs.Lookup.{front}
use Rattle.paper.specs.Promises.{lookup_answer, lookup_numbered}
use Rattle.paper.specs.Answers.{packed, reading_packed, filling_packed, verdict_packed, name_parts, name_packed}
use Rattle.laws.proofs.Stretches.{length_taken}
use Rattle.file_lookup.specs.declared.Place.{Place}
use Rattle.file_lookup.specs.Place.{bytes_in, stretch_in, InText}
use Rattle.file_lookup.proofs.Found.{empty_front}
use Rattle.file_listing.specs.declared.Listing.{Listing}
use Rattle.file_listing.specs.declared.Listing.TheVariants.{Listed, Unlisted}
use Rattle.file_listing.specs.Answer.{listing_packed}

-- ---- the number of a list

module _ (a : Listing) (r : ℕ) where
  pub packs_unlisted : (number line : ℕ) → a ≡ Unlisted number line → r ≡ packed (record { class = 1; value = number; rest = line }) → r ≡ listing_packed a
  unfolding listing_packed
  packs_unlisted number line e h = rw e h

  pub packs_listed : (words : ℕ) → a ≡ Listed words → r ≡ packed (record { class = 2; value = 0; rest = words }) → r ≡ listing_packed a
  unfolding listing_packed
  packs_listed words e h = rw e h

-- ---- the number of an answer that is known

pub packs_verdict : (v answer : Verdict) (r : ℕ) → r ≡ verdict_packed v → v ≡ answer → r ≡ verdict_packed answer
packs_verdict v answer r p e = p ∙ ap verdict_packed e

pub packs_reading : (a answer : Reading) (r : ℕ) → r ≡ reading_packed a → a ≡ answer → r ≡ reading_packed answer
packs_reading a answer r p e = p ∙ ap reading_packed e

pub packs_filling : (a answer : Filling) (r : ℕ) → r ≡ filling_packed a → a ≡ answer → r ≡ filling_packed answer
packs_filling a answer r p e = p ∙ ap filling_packed e

-- ---- the number of a name

-- where there is none
pub packs_front : (r : ℕ) → r ≡ packed (record { class = 1; value = 0; rest = 0 }) → r ≡ name_packed front
unfolding name_packed name_parts front
packs_front r h = h

module _ (t : List ℕ) (which : Map) (d : ℕ) (place : Place) (e : stretch_in t place ≡ lookup_answer t which d) (lies : InText t place) where
  name_length : length (bytes_in t place) ≡ place.end - place.start
  name_length = length_taken t place.start (place.end - place.start) (omega (arith, lies.ordered, lies.within))

  pub packs_none : (r : ℕ) → place.end - place.start ≡ 0 → r ≡ packed (record { class = 1; value = 0; rest = 0 }) → r ≡ name_packed (lookup_answer t which d)
  packs_none r z h =
      let none : lookup_answer t which d ≡ front = empty_front t which d (rw (← e) (name_length ∙ z)) in
      rw none (packs_front r h)

  pub packs_found : (r : ℕ) → (place.end - place.start ≡ 0 → ⊥) → r ≡ packed (record { class = 2; value = place.end - place.start; rest = place.start })
      → r ≡ name_packed (lookup_answer t which d)
  unfolding name_packed name_parts
  packs_found r z h = rw (← e, name_length, ne_eqb (place.end - place.start) 0 z) h

-- ---- of a map by its number

module _ (t : List ℕ) (number d r : ℕ) (told : Option Map) (e : told ≡ map_numbered number) where
  pub by_number : (which : Map) → told ≡ Some which → r ≡ name_packed (lookup_answer t which d) → r ≡ name_packed (lookup_numbered t number d)
  unfolding lookup_numbered
  by_number which f h = go (eqb number 1) (eqb number 2) (sym e ∙ f)
    where
      go : (x y : Bool) → cond x (Some Objects) (cond y (Some Subjects) None) ≡ Some which → r ≡ name_packed (cond x (lookup_answer t Objects d) (cond y (lookup_answer t Subjects d) front))
      go true y g = rw (same_Some Objects which g) h
      go false true g = rw (same_Some Subjects which g) h
      go false false g = absurd (none-some which g)

  pub by_none : told ≡ None → r ≡ packed (record { class = 1; value = 0; rest = 0 }) → r ≡ name_packed (lookup_numbered t number d)
  unfolding lookup_numbered
  by_none f h = go (eqb number 1) (eqb number 2) (sym e ∙ f)
    where
      go : (x y : Bool) → cond x (Some Objects) (cond y (Some Subjects) None) ≡ None → r ≡ name_packed (cond x (lookup_answer t Objects d) (cond y (lookup_answer t Subjects d) front))
      go true y g = absurd (none-some Objects (sym g))
      go false true g = absurd (none-some Subjects (sym g))
      go false false g = packs_front r h

pub packs_listing : (a answer : Listing) (r : ℕ) → r ≡ listing_packed a → a ≡ answer → r ≡ listing_packed answer
packs_listing a answer r p e = p ∙ ap listing_packed e
