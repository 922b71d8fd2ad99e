-- How many words the things of a field take, and of all fields: what is counted and what is left make the whole.
use mathlib.Core.Path.{◌≡◌, refl, ◌∙◌}
use mathlib.Core.Bool.{Bool, cond}
use mathlib.Core.List.{List, [], ◌∷◌}
use Prim.Native.Nat.{ℕ, ◌+◌, ◌*◌, ◌<◌, ◌≤◌}
use native.Mathlib.Omega.{arith}
use mir.Syntax.{w64}
use mir.Val.{Fits}
use lib.ListN.{length, get_or, length-append, length-take, length-drop}
use Rattle.paper.specs.Limits.{text_bytes}
use Rattle.paper.specs.Lists.{elements}
use Rattle.paper.specs.Page.{Field, no_field}
use Rattle.file_fields.specs.Fields.{value_of, field_of, field_at, between}
use Rattle.file_fields.specs.declared.file.FieldAt.{FieldAt}
use Rattle.file_fields.proofs.Between.{between_more, between_none}
use Rattle.file_things.specs.declared.Naming.{Naming}
use Rattle.file_things.specs.declared.Naming.TheVariants.{One, Each, Entry, Nothing}
use Rattle.file_things.specs.Things.{thing_size, thing, name_thing, element_things, each_thing, naming_at, things_as, things_in, things_of, count_as, thing_count}
use Rattle.file_things.specs.Writable.{most_words}

-- what a field names, by the five tests of its place
abbrev pub by_tests : Bool → Bool → Bool → Bool → Bool → Naming
by_tests u v w x y = cond u (One 1) (cond v (Each 2) (cond w (One 3) (cond x (Each 4) (cond y Entry Nothing))))

-- ---- a field

module _ (t : List ℕ) (f : FieldAt) (p : ℕ) (e : p ≡ f.place) (r : Naming) (q : r ≡ naming_at p) where
  counted_as : (x : Naming) → r ≡ x → thing_count (field_of t f) ≡ count_as x (field_of t f)
  unfolding thing_count field_of
  counted_as x h = rw (← e, ← q, h) refl

  pub one_words : (kind : ℕ) → r ≡ One kind → 4 ≡ thing_size * thing_count (field_of t f)
  one_words kind h = rw (counted_as (One kind) h) refl

  pub entry_words_lem : r ≡ Entry → 4 ≡ thing_size * thing_count (field_of t f)
  entry_words_lem h = rw (counted_as Entry h) refl

  pub nothing_words : r ≡ Nothing → 0 ≡ thing_size * thing_count (field_of t f)
  nothing_words h = rw (counted_as Nothing h) refl

  pub each_words : (kind : ℕ) → r ≡ Each kind → (v : List ℕ) (k : ℕ) → v ≡ value_of t f → k ≡ length (elements v)
      → thing_size * k ≡ thing_size * thing_count (field_of t f)
  unfolding field_of
  each_words kind h v k a b = rw (counted_as (Each kind) h, b, a) refl

module _ (t v : List ℕ) (f : FieldAt) (k : ℕ) (a : v ≡ value_of t f) (b : k ≤ length v + 1) (l : length t ≤ text_bytes) where
  few : k ≤ text_bytes + 1
  few = let s : length v ≤ length t = rw (a, length-take) (omega (arith, length-drop f.start t)) in omega arith

  pub each_most : thing_size * k ≤ most_words
  each_most = omega (arith, few)

  pub each_fits : Fits w64 (thing_size * k)
  each_fits = omega (arith, few)

-- ---- all fields

elements_long : (kind line start : ℕ) (es : List (List ℕ)) → length (element_things kind line start es) ≡ thing_size * length es
unfolding element_things thing
elements_long kind line start [] = refl
elements_long kind line start (e ∷ es) = omega (arith, elements_long kind line (start + length e + 2) es)

field_long : (f g : Field) → length (things_in f g) ≡ thing_size * thing_count f
unfolding things_in thing_count name_thing thing each_thing
field_long f g = go (naming_at f.place)
  where
    go : (x : Naming) → length (things_as x f g) ≡ thing_size * count_as x f
    go (One kind) = refl
    go (Each kind) = elements_long kind f.line (f.start + 1) (elements f.value)
    go Entry = refl
    go Nothing = refl

pub file_long : (f : Field) (fs : List Field) → length (things_of (f ∷ fs)) ≡ thing_size * thing_count f + length (things_of fs)
unfolding things_of
file_long f fs = length-append (things_in f (get_or fs 0 no_field)) (things_of fs) ∙ rw (field_long f (get_or fs 0 no_field)) refl

module _ (t : List ℕ) (list : List FieldAt) (n i words whole : ℕ) (s : words + length (things_of (between t list i n)) ≡ whole) where
  pub words_more : (r : ℕ) → i < n → r ≡ thing_size * thing_count (field_at t list i) → words + r + length (things_of (between t list (i + 1) n)) ≡ whole
  words_more r h f =
      let more : length (things_of (between t list i n)) ≡ r + length (things_of (between t list (i + 1) n)) =
      rw (between_more t list i n h, file_long (field_at t list i) (between t list (i + 1) n), f) refl in
      omega (arith, more)

  pub words_all : n ≤ i → words ≡ whole
  unfolding things_of
  words_all h =
      let none : length (things_of (between t list i n)) ≡ 0 = rw (between_none t list i n h) refl in
      omega (arith, none)
