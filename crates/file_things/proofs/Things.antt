-- A thing as four words, and what a field names.
use mathlib.Core.Path.{◌≡◌, refl}
use mathlib.Core.List.{List, [], ◌∷◌}
use Prim.Native.Nat.{ℕ, ◌+◌, ◌<◌, ◌≤◌}
use native.Mathlib.Omega.{arith}
use mir.Syntax.{w32}
use mir.Val.{Fits}
use lib.ListN.{length, get_or, set, length-set}
use borrow.Author.Tests.{eq-eqb, ne_eqb, leb-true}
use Rattle.paper.specs.Common.{all_of}
use Rattle.paper.specs.Limits.{text_bytes}
use Rattle.paper.specs.Page.{Field}
use Rattle.laws.proofs.Tests.{both_left, both_right}
use Rattle.file_fields.specs.Fields.{nowhere_at, value_of, field_of, field_at}
use Rattle.file_fields.specs.declared.file.FieldAt.{FieldAt}
use Rattle.file_fields.proofs.Between.{field_read, between_more, between_none}
use Rattle.filled_lines.specs.Wrote.{Wrote}
use Rattle.file_things.specs.declared.Naming.{Naming}
use Rattle.file_things.specs.declared.Naming.TheVariants.{One, Each, Entry, Nothing}
use Rattle.file_things.specs.Things.{thing, name_thing, each_thing, naming_at, things_as, things_in}
use Rattle.file_things.specs.Writable.{is_small, AllSmall, Writable, behind_in}

-- ---- by the place

module _ (place : ℕ) where
  pub names_object_domain : place ≡ 2 → One 1 ≡ naming_at place
  unfolding naming_at
  names_object_domain h = rw (eq-eqb place 2 h) refl

  module _ (a : place ≡ 2 → ⊥) where
    pub names_objects : place ≡ 3 → Each 2 ≡ naming_at place
    unfolding naming_at
    names_objects h = rw (ne_eqb place 2 a, eq-eqb place 3 h) refl

    module _ (b : place ≡ 3 → ⊥) where
      pub names_subject_domain : place ≡ 5 → One 3 ≡ naming_at place
      unfolding naming_at
      names_subject_domain h = rw (ne_eqb place 2 a, ne_eqb place 3 b, eq-eqb place 5 h) refl

      module _ (d : place ≡ 5 → ⊥) where
        pub names_functions : place ≡ 6 → Each 4 ≡ naming_at place
        unfolding naming_at
        names_functions h = rw (ne_eqb place 2 a, ne_eqb place 3 b, ne_eqb place 5 d, eq-eqb place 6 h) refl

        module _ (e : place ≡ 6 → ⊥) where
          pub names_entry : place ≡ 8 → Entry ≡ naming_at place
          unfolding naming_at
          names_entry h = rw (ne_eqb place 2 a, ne_eqb place 3 b, ne_eqb place 5 d, ne_eqb place 6 e, eq-eqb place 8 h) refl

          pub names_nothing : (place ≡ 8 → ⊥) → Nothing ≡ naming_at place
          unfolding naming_at
          names_nothing h = rw (ne_eqb place 2 a, ne_eqb place 3 b, ne_eqb place 5 d, ne_eqb place 6 e, ne_eqb place 8 h) refl

-- ---- four words

small_first : (w : ℕ) (ws : List ℕ) → AllSmall (w ∷ ws) → w ≤ text_bytes
unfolding all_of is_small
small_first w ws h = leb-true w text_bytes (both_left (is_small w) (all_of is_small ws) h)

small_rest : (w : ℕ) (ws : List ℕ) → AllSmall (w ∷ ws) → AllSmall ws
unfolding all_of
small_rest w ws h = both_right (is_small w) (all_of is_small ws) h

module _ (kind line start size : ℕ) (out : List ℕ) (asked : Writable (thing kind line start size) out) where
  words : AllSmall (kind ∷ line ∷ start ∷ size ∷ [])
  unfolding thing
  words = asked.small

  line_small : line ≤ text_bytes
  line_small = small_first line (start ∷ size ∷ []) (small_rest kind (line ∷ start ∷ size ∷ []) words)

  pub start_small : start ≤ text_bytes
  start_small = small_first start (size ∷ []) (small_rest line (start ∷ size ∷ []) (small_rest kind (line ∷ start ∷ size ∷ []) words))

  size_small : size ≤ text_bytes
  size_small = small_first size [] (small_rest start (size ∷ []) (small_rest line (start ∷ size ∷ []) (small_rest kind (line ∷ start ∷ size ∷ []) words)))

  pub line_fits : Fits w32 line
  line_fits = omega (arith, line_small)

  pub start_fits : Fits w32 start
  start_fits = omega (arith, start_small)

  pub size_fits : Fits w32 size
  size_fits = omega (arith, size_small)

  four : 4 ≤ length out
  unfolding thing
  four = asked.room

  pub room_for_kind : 0 < length out
  room_for_kind = omega (arith, four)

  pub room_for_line : (a p : ℕ) → 1 < length (set out a p)
  room_for_line a p = omega (arith, four, length-set out a p)

  pub room_for_start : (a p b q : ℕ) → 2 < length (set (set out a p) b q)
  room_for_start a p b q = omega (arith, four, length-set out a p, length-set (set out a p) b q)

  pub room_for_size : (a p b q d r : ℕ) → 3 < length (set (set (set out a p) b q) d r)
  room_for_size a p b q d r = omega (arith, four, length-set out a p, length-set (set out a p) b q, length-set (set (set out a p) b q) d r)

  pub thing_put : Wrote (thing kind line start size) out (set (set (set (set out 0 kind) 1 line) 2 start) 3 size) 4
  unfolding thing
  thing_put = go out four
    where
      go : (old : List ℕ) → 4 ≤ length old → Wrote (kind ∷ line ∷ start ∷ size ∷ []) old (set (set (set (set old 0 kind) 1 line) 2 start) 3 size) 4
      go [] h = absurd (omega arith)
      go (a ∷ []) h = absurd (omega arith)
      go (a ∷ b ∷ []) h = absurd (omega arith)
      go (a ∷ b ∷ d ∷ []) h = absurd (omega arith)
      go (a ∷ b ∷ d ∷ e ∷ old) h = record { room = h; far = refl; left = refl }

-- ---- a name

module _ (t : List ℕ) (f g : FieldAt) (kind line start : ℕ) (v out : List ℕ) (a : line ≡ f.line) (b : start ≡ g.start) (d : v ≡ value_of t g) where
  name_is : name_thing kind (field_of t f) (field_of t g) ≡ thing kind line start (length v)
  unfolding name_thing field_of
  name_is = rw (a, b, d) refl

  pub name_asked : Writable (name_thing kind (field_of t f) (field_of t g)) out → Writable (thing kind line start (length v)) out
  name_asked h = rw name_is at h

  pub name_put : (after : List ℕ) (r : ℕ) → Wrote (thing kind line start (length v)) out after r
      → Wrote (name_thing kind (field_of t f) (field_of t g)) out after r
  name_put after r w = rw name_is w

-- ---- an entry

module _ (t : List ℕ) (list : List FieldAt) (i : ℕ) (out : List ℕ) where
  module _ (l : i + 1 < length list) (g : FieldAt) (e : g ≡ get_or list (i + 1) g) where
    behind_some : behind_in t list i (length list) ≡ field_of t g
    behind_some = rw (between_more t list (i + 1) (length list) l, field_read t list (i + 1) g l e) refl

    pub entry_asked : Writable (name_thing 5 (field_at t list i) (behind_in t list i (length list))) out → Writable (name_thing 5 (field_at t list i) (field_of t g)) out
    entry_asked a = rw behind_some at a

    pub entry_put : (after : List ℕ) (r : ℕ) → Wrote (name_thing 5 (field_at t list i) (field_of t g)) out after r
        → Wrote (name_thing 5 (field_at t list i) (behind_in t list i (length list))) out after r
    entry_put after r w = rw behind_some w

  module _ (l : length list ≤ i + 1) (line : ℕ) (e : line ≡ (get_or list i nowhere_at).line) where
    nameless_is : name_thing 5 (field_at t list i) (behind_in t list i (length list)) ≡ thing 5 line 0 0
    unfolding name_thing field_of
    nameless_is = rw (between_none t list (i + 1) (length list) l, e) refl

    pub nameless_asked : Writable (name_thing 5 (field_at t list i) (behind_in t list i (length list))) out → Writable (thing 5 line 0 0) out
    nameless_asked a = rw nameless_is at a

    pub nameless_put : (after : List ℕ) (r : ℕ) → Wrote (thing 5 line 0 0) out after r
        → Wrote (name_thing 5 (field_at t list i) (behind_in t list i (length list))) out after r
    nameless_put after r w = rw nameless_is w

-- ---- what a field names

module _ (t : List ℕ) (f : FieldAt) (p : ℕ) (e : p ≡ f.place) (r : Naming) (q : r ≡ naming_at p) (g : Field) (out : List ℕ) where
  named_as : (x : Naming) → r ≡ x → things_in (field_of t f) g ≡ things_as x (field_of t f) g
  unfolding things_in field_of
  named_as x h = rw (← e, ← q, h) refl

  module _ (kind : ℕ) where
    pub one_asked : r ≡ One kind → Writable (things_in (field_of t f) g) out → Writable (name_thing kind (field_of t f) (field_of t f)) out
    one_asked h a = rw (named_as (One kind) h) at a

    pub one_put : r ≡ One kind → (after : List ℕ) (k : ℕ) → Wrote (name_thing kind (field_of t f) (field_of t f)) out after k
        → Wrote (things_in (field_of t f) g) out after k
    one_put h after k w = rw (named_as (One kind) h) w

    pub each_asked : r ≡ Each kind → Writable (things_in (field_of t f) g) out → Writable (each_thing kind (field_of t f)) out
    each_asked h a = rw (named_as (Each kind) h) at a

    pub each_put : r ≡ Each kind → (after : List ℕ) (k : ℕ) → Wrote (each_thing kind (field_of t f)) out after k
        → Wrote (things_in (field_of t f) g) out after k
    each_put h after k w = rw (named_as (Each kind) h) w

  pub an_entry_asked : r ≡ Entry → Writable (things_in (field_of t f) g) out → Writable (name_thing 5 (field_of t f) g) out
  an_entry_asked h a = rw (named_as Entry h) at a

  pub an_entry_put : r ≡ Entry → (after : List ℕ) (k : ℕ) → Wrote (name_thing 5 (field_of t f) g) out after k
      → Wrote (things_in (field_of t f) g) out after k
  an_entry_put h after k w = rw (named_as Entry h) w

  pub nothing_put : r ≡ Nothing → Wrote (things_in (field_of t f) g) out out 0
  nothing_put h = rw (named_as Nothing h) (record { room = omega arith; far = refl; left = refl })
