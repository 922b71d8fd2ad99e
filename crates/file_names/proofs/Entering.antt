-- Names put into an index: one, the elements of a list one after the other, and what the fields name.
use mathlib.Core.Path.{◌≡◌, refl, sym, ap, ◌∙◌}
use mathlib.Core.Bool.{Bool, true, false, cond, not}
use mathlib.Core.List.{List, [], ◌∷◌, ◌++◌, append-nil, append_assoc}
use Prim.Native.Nat.{ℕ, ◌+◌, ◌-◌, ◌*◌, ◌^◌, ◌<◌, ◌≤◌}
use native.Mathlib.Omega.{arith}
use mir.Syntax.{w64}
use mir.Val.{Fits}
use lib.Dec.{eqb, ltb}
use lib.ListN.{length, take, drop, length-append, length-take, length-drop}
use lib.Seq.{take-take, take-length, drop-drop}
use borrow.Author.Tests.{eq-eqb, ne_eqb, lt-ltb, le-ltb, ltb-false, leb-true, not-true, not-false}
use Rattle.paper.specs.Common.{any_of, among}
use Rattle.paper.specs.Lists.{bracketed, inside, elements_in, elements}
use Rattle.paper.specs.Page.{Field}
use Rattle.paper.specs.Entries.{is_at_one}
use Rattle.paper.specs.Rules.{repeats, repeated, members_named}
use Rattle.laws.proofs.Tests.{neither}
use Rattle.laws.proofs.Places.{drop_take}
use Rattle.laws_page.specs.Right.{is_numbered}
use Rattle.text_lists.specs.Walk.{first_element, element_at, elements_left, SpacedFrom}
use Rattle.std.specs.Prelude.{Option, Some, None}
use Rattle.text_lists.specs.declared.Element.{Element}
use Rattle.text_lists.proofs.Walk.{spaced_at_first, left_first, left_none, left_found, found_at, found_to_lem}
use Rattle.file_fields.specs.Fields.{field_of, place_in, line_in, start_in, end_in, value_in, field_at, between, well_spaced}
use Rattle.file_fields.specs.Values.{inside_of}
use Rattle.file_fields.proofs.Between.{between_more, each_field, names_more, names_split, names_fewer, names_none}
use Rattle.file_fields.proofs.Valued.{inside_elements, inside_spaced}
use Rattle.file_index.specs.Words.{names_at, name_size, name_at, multiplier_in}
use Rattle.file_index.specs.Buckets.{hash_of, way_end, Within, numbers_in, inserted_at, inserted, Index}
use Rattle.file_index.proofs.Steps.{number_found, number_free, word_free, found_below}
use Rattle.file_index.specs.declared.names.Place.{Place}
use Rattle.file_index.specs.declared.names.Place.TheVariants.{Found, Free}
use Rattle.std.specs.Prelude.{Option, Some, None}
use Rattle.file_index.proofs.Known.{index_known, new_number, index_after}
use Rattle.file_names.specs.Naming.{Sound, named_at, named, names_to, NamesEnd, EnteredAs, IndexedAs}
use Rattle.file_names.specs.declared.indexes.Naming.{Naming}
use Rattle.file_names.specs.declared.indexes.Naming.TheVariants.{Domains, Members}
use Rattle.file_names.proofs.Seen.{repeats_append, twice_known, one_new, none_repeated, nothing_repeated, repeated_here, repeated_on}
use Rattle.file_fields.specs.declared.file.FieldAt.{FieldAt}

-- ---- one name

-- the stretch from start to end
abbrev stretch : List ℕ → ℕ → ℕ → List ℕ
stretch t start end = take (end - start) (drop start t)

-- the words once it went in, unless it was known
abbrev left : List ℕ → List ℕ → ℕ → ℕ → ℕ → Bool → List ℕ
left t ix n start end known = cond known ix (inserted t ix n start end (hash_of (multiplier_in ix) (stretch t start end)))

module _ (t ix name : List ℕ) (n start end h : ℕ) (e : name ≡ stretch t start end) (f : h ≡ hash_of (multiplier_in ix) name)
    (p : Place) (g : p ≡ way_end t ix n h name) where
  pub known_told : (k : ℕ) → Within n p → p ≡ Found k → true ≡ ltb (numbers_in t ix n (stretch t start end)) n
  known_told k i l = rw (← e, ← number_found t ix n h name f p g k l) (sym (lt-ltb k n (found_below t ix n h name f p g k i l)))

  module _ (w : ℕ) (l : p ≡ Free w) where
    pub new_told : false ≡ ltb (numbers_in t ix n (stretch t start end)) n
    new_told = rw (← e, ← number_free t ix n h name f p g w l) (sym (le-ltb n n (omega arith)))

    pub put_told : (after : List ℕ) → after ≡ inserted_at ix n w start end h → after ≡ left t ix n start end false
    put_told after q = rw (← e, ← f, word_free t ix n h name f p g w l) q

module _ (t ix : List ℕ) (n start end : ℕ) (seen : List (List ℕ)) (index : Index t ix n seen) (r : Bool) (told : r ≡ ltb (numbers_in t ix n (stretch t start end)) n) where
  is_seen : among (stretch t start end) seen ≡ r
  is_seen = index_known index (stretch t start end) ∙ sym told

  in_index : (after : List ℕ) → after ≡ left t ix n start end r → r ≡ false → name_at (n + 1) ≤ length ix → Index t after (n + 1) (seen ++ (stretch t start end ∷ []))
  in_index after e h room =
      let l : n ≤ numbers_in t ix n (stretch t start end) = ltb-false _ _ (sym told ∙ h) in
      index_after start end (hash_of (multiplier_in ix) (stretch t start end)) (stretch t start end) index room (new_number index (stretch t start end) _ refl l) refl refl after (rw h at e)

-- ---- a domain

module _ (t : List ℕ) (list : List FieldAt) (i one other p : ℕ) (e : p ≡ place_in list i) (b : Bool) (f : b ≡ any_of (eqb p) (one ∷ other ∷ [])) where
  named_or_not : named_at one other (field_at t list i) ≡ cond b (value_in t list i ∷ []) []
  unfolding named_at is_at_one field_of
  named_or_not = rw (← e, ← f) refl

  -- what went before
  abbrev before : List (List ℕ)
  before = names_to (named_at one other) t list i

  module _ (ix : List ℕ) (n : ℕ) (index : Index t ix n before) where
    pub no_domain : not b ≡ true → EnteredAs t ix before (named_at one other (field_at t list i)) (Some n)
    unfolding EnteredAs
    no_domain h = rw (named_or_not, not-true b h) (none_repeated before, rw append-nil index)

    module _ (h : not b ≡ false) where
      one_named : named_at one other (field_at t list i) ≡ value_in t list i ∷ []
      one_named = rw (not-false b h) at named_or_not

      pub domain_room : names_at + name_size * (n + length (named_at one other (field_at t list i))) ≤ length ix → names_at + name_size * (n + 1) ≤ length ix
      domain_room l = rw one_named at l

      module _ (start : ℕ) (v : List ℕ) (s : start ≡ start_in list i) (q : v ≡ value_in t list i) (r : Bool) (told : r ≡ ltb (numbers_in t ix n (stretch t start (start + length v))) n) where
        its_value : stretch t start (start + length v) ≡ value_in t list i
        its_value =
            let d : start + length v - start ≡ length v = omega arith in
            let g : length v ≤ end_in list i - start_in list i = rw (q, length-take) (omega arith) in
            let w : take (length v) v ≡ v = take-length v in
            rw (d, s, ← take-take (length v) (end_in list i - start_in list i) (drop (start_in list i) t) g, ← q) w

        pub domain_twice : (after : List ℕ) → r ≡ true → EnteredAs t after before (named_at one other (field_at t list i)) None
        unfolding EnteredAs
        domain_twice after k = rw one_named (twice_known before (value_in t list i) [] (rw its_value at (is_seen t ix n start (start + length v) before index r told ∙ k)))

        pub domain_in : (after : List ℕ) → after ≡ left t ix n start (start + length v) r → r ≡ false → names_at + name_size * (n + length (named_at one other (field_at t list i))) ≤ length ix
            → EnteredAs t after before (named_at one other (field_at t list i)) (Some (n + 1))
        unfolding EnteredAs
        domain_in after g k l =
            rw one_named (
              one_new before (value_in t list i) (rw its_value at (is_seen t ix n start (start + length v) before index r told ∙ k)),
              rw its_value at (in_index t ix n start (start + length v) before index r told after g k (domain_room l)),
            )

value_within : (t : List ℕ) (list : List FieldAt) (v : List ℕ) (i start : ℕ) → start ≡ start_in list i → v ≡ value_in t list i → length v ≤ length t - start
value_within t list v i start s q = rw (q, length-take, s) (omega (arith, length-drop (start_in list i) t))

pub domain_fits : (t : List ℕ) (list : List FieldAt) (v : List ℕ) (i start : ℕ) → start ≡ start_in list i → v ≡ value_in t list i → length t * 1 < 2 ^ 63 → Fits w64 start → Fits w64 (start + length v)
domain_fits t list v i start s q l m = omega (arith, value_within t list v i start s q)

-- ---- the members of a list

-- a stretch of what stands between brackets
part_of_inside : (xs : List ℕ) (k m at end : ℕ) → end ≤ m → m + 1 ≤ k → take (end - at) (drop at (take m (drop 1 (take k xs)))) ≡ take (end - at) (drop at (drop 1 xs))
part_of_inside xs k m at end h l =
    rw (drop_take 1 k xs, drop_take at m (take (k - 1) (drop 1 xs)), drop_take at (k - 1) (drop 1 xs))
    (take-take (end - at) (m - at) (take (k - 1 - at) (drop at (drop 1 xs))) (omega arith) ∙ take-take (end - at) (k - 1 - at) (drop at (drop 1 xs)) (omega arith))

-- so far no element was seen before, and what is left of the names begins at a place
pub record Walked (t ix : List ℕ) (m n : ℕ) (seen names : List (List ℕ)) (s : List ℕ) (at : ℕ) : Type 0 where
  taken : List (List ℕ)
  whole : taken ++ elements_left s at ≡ names
  once : repeats seen taken ≡ false
  index : Index t ix n (seen ++ taken)
  counted : n + length (elements_left s at) ≡ m + length names

-- the list, if the place is in it, stands in the text behind a bracket at start
pub record Placed (t s : List ℕ) (start at : ℕ) : Type 0 where
  within : at ≤ length s → start + 2 + length s ≤ length t
  there : (a b : ℕ) → at ≤ length s → b ≤ length s → stretch t (start + 1 + a) (start + 1 + b) ≡ take (b - a) (drop a s)

module _ (t : List ℕ) (list : List FieldAt) (i place p : ℕ) (e : p ≡ place_in list i) where
  members_or_not : members_named place (field_at t list i) ≡ cond (eqb p place) (elements (value_in t list i)) []
  unfolding members_named field_of
  members_or_not = rw (← e) refl

  -- what went before
  abbrev known : List (List ℕ)
  known = names_to (members_named place) t list i

  pub no_members : (ix : List ℕ) (n : ℕ) → Index t ix n known → (p ≡ place → ⊥) → EnteredAs t ix known (members_named place (field_at t list i)) (Some n)
  unfolding EnteredAs
  no_members ix n index d = rw (members_or_not, ne_eqb p place d) (none_repeated known, rw append-nil index)

  module _ (v s : List ℕ) (q : v ≡ value_in t list i) (g : s ≡ inside_of v) (at : ℕ) (w : at ≡ first_element s) where
    pub walk_begins : (ix : List ℕ) (n : ℕ) → Index t ix n known → p ≡ place → Walked t ix n n known (members_named place (field_at t list i)) s at
    walk_begins ix n index h =
        let a : members_named place (field_at t list i) ≡ elements_in s = members_or_not ∙ rw (eq-eqb p place h, ← q, g) (sym (inside_elements v)) in
        let b : elements_left s at ≡ members_named place (field_at t list i) = rw w (left_first s) ∙ sym a in
        record { taken = []; whole = b; once = none_repeated known; index = rw append-nil index; counted = rw b refl }

    pub begins_spaced : well_spaced (field_at t list i) ≡ true → SpacedFrom s at
    unfolding well_spaced field_of
    begins_spaced k = spaced_at_first s at w (rw g (inside_spaced v (rw q k)))

    module _ (start : ℕ) (y : start ≡ start_in list i) where
      some : at ≤ length s → length s ≡ 0 → ⊥
      some l u = let z : at ≡ 1 = w ∙ rw (eq-eqb (length s) 0 u) refl in omega arith

      -- a list with elements stands in brackets
      in_brackets : at ≤ length s → s ≡ inside v
      unfolding inside_of
      in_brackets l = go (bracketed v) g
        where
          go : (u : Bool) → s ≡ cond u (inside v) [] → s ≡ inside v
          go true a = a
          go false a = absurd (some l (ap length a))

      short : at ≤ length s → length s + 2 ≤ length v
      short l = let a : length s ≤ length v - 2 = rw (in_brackets l, length-take) (omega arith) in omega (arith, some l)

      pub begins_placed : Placed t s start at
      begins_placed = record {
        within = λ l. omega (arith, short l, value_within t list v i start y q);
        there = λ a b l m.
            let c : start + 1 + b - (start + 1 + a) ≡ b - a = omega arith in
            let d : length v ≤ end_in list i - start_in list i = rw (q, length-take) (omega arith) in
            let w : take (b - a) (drop a (drop 1 (drop (start_in list i) t))) ≡ take (b - a) (drop (start + 1 + a) t) = rw
            (drop-drop 1 (start_in list i) t, drop-drop a (start_in list i + 1) t, y) refl in
            rw c (sym (
            ap (λ (x : List ℕ). take (b - a) (drop a x)) (in_brackets l)
            ∙ ap (λ (x : List ℕ). take (b - a) (drop a (take (length v - 2) (drop 1 x)))) q
            ∙ part_of_inside (drop (start_in list i) t) (end_in list i - start_in list i) (length v - 2) a b (omega (arith, short l)) (omega (arith, short l))
            ∙ w
            ));
      }

module _ (t ix : List ℕ) (m n : ℕ) (seen names : List (List ℕ)) (s : List ℕ) (at : ℕ) (walked : Walked t ix m n seen names s at) (r : Option Element) (o : r ≡ element_at s at) where
  pub walk_ends : r ≡ None → EnteredAs t ix seen names (Some n)
  unfolding EnteredAs
  walk_ends z =
      let a : walked.taken ≡ names = sym (append-nil walked.taken) ∙ rw (left_none s at r o z) at walked.whole in
      rw (← a) (walked.once, walked.index)

  module _ (f : Element) (z : r ≡ Some f) (k : SpacedFrom s at) where
    -- the element that is found
    abbrev element : List ℕ
    element = take (f.end - at) (drop at s)

    split : walked.taken ++ (element ∷ elements_left s f.next) ≡ names
    split = rw (left_found s at r o f z k) at walked.whole

    counts : n + (1 + length (elements_left s f.next)) ≡ m + length names
    counts =
        let a : length (elements_left s at) ≡ 1 + length (elements_left s f.next) = rw (left_found s at r o f z k) (omega arith) in
        rw (← a) walked.counted

    pub walk_room : (l : ℕ) → length ix ≡ l → names_at + name_size * (m + length names) ≤ l → names_at + name_size * (n + 1) ≤ length ix
    walk_room l y room = omega (arith, counts)

    pub walk_fits : (ix₀ : List ℕ) → length ix ≡ length ix₀ → names_at + name_size * (m + length names) ≤ length ix₀ → length ix₀ * 8 < 2 ^ 63 → Fits w64 (n + 1)
    walk_fits ix₀ y room l = omega (arith, counts)

    module _ (start : ℕ) (placed : Placed t s start at) (b : Bool) (told : b ≡ ltb (numbers_in t ix n (stretch t (start + 1 + at) (start + 1 + f.end))) n) where
      its_stretch : stretch t (start + 1 + at) (start + 1 + f.end) ≡ element
      its_stretch = placed.there at f.end (found_at s at r o f z).within (found_to_lem s at r o f z)

      element_seen : among element (seen ++ walked.taken) ≡ b
      element_seen = rw its_stretch at (is_seen t ix n (start + 1 + at) (start + 1 + f.end) (seen ++ walked.taken) walked.index b told)

      pub walk_twice : (after : List ℕ) → b ≡ true → EnteredAs t after seen names None
      unfolding EnteredAs
      walk_twice after u =
          rw (← split)
          (repeats_append seen walked.taken (element ∷ elements_left s f.next)
          ∙ rw walked.once (twice_known (seen ++ walked.taken) element (elements_left s f.next) (element_seen ∙ u)))

      pub walk_on : (after : List ℕ) → after ≡ left t ix n (start + 1 + at) (start + 1 + f.end) b → b ≡ false → (l : ℕ) → length ix ≡ l → names_at + name_size * (m + length names) ≤ l
          → Walked t after m (n + 1) seen names s f.next
      walk_on after x u l y room = record {
        taken = walked.taken ++ (element ∷ []);
        whole = append_assoc walked.taken (element ∷ []) (elements_left s f.next) ∙ split;
        once = repeats_append seen walked.taken (element ∷ []) ∙ neither _ _ walked.once (one_new (seen ++ walked.taken) element (element_seen ∙ u));
        index =
            let a = in_index t ix n (start + 1 + at) (start + 1 + f.end) (seen ++ walked.taken) walked.index b told after x u (walk_room l y room) in
            rw (its_stretch, append_assoc) at a;
        counted = omega (arith, counts);
      }

module _ (t s : List ℕ) (start at : ℕ) (placed : Placed t s start at) (r : Option Element) (o : r ≡ element_at s at) (f : Element) (z : r ≡ Some f) where
  inside_within : start + 2 + length s ≤ length t
  inside_within = placed.within (found_at s at r o f z).within

  pub start_fits : length t * 1 < 2 ^ 63 → Fits w64 (start + 1)
  start_fits l = omega (arith, inside_within)

  pub at_fits : length t * 1 < 2 ^ 63 → Fits w64 (start + 1 + at)
  at_fits l = omega (arith, inside_within, (found_at s at r o f z).within)

  pub end_fits : length t * 1 < 2 ^ 63 → Fits w64 (start + 1 + f.end)
  end_fits l = omega (arith, inside_within, found_to_lem s at r o f z)

  pub stays_placed : Placed t s start f.next
  stays_placed = record { within = λ l. inside_within; there = λ a b l. placed.there a b (found_at s at r o f z).within }

-- ---- what a field names

module _ (t : List ℕ) (list : List FieldAt) (ix : List ℕ) (i : ℕ) (naming : Naming) where
  module _ (one other : ℕ) (e : naming ≡ Domains one other) where
    pub as_domains : (n : ℕ) → Index t ix n (names_to (named naming) t list i) → Index t ix n (names_to (named_at one other) t list i)
    as_domains n h = rw e at h

    pub room_domains : (n : ℕ) → names_at + name_size * (n + length (named naming (field_at t list i))) ≤ length ix
        → names_at + name_size * (n + length (named_at one other (field_at t list i))) ≤ length ix
    room_domains n h = rw e at h

    pub from_domains : (r : Option ℕ) → EnteredAs t ix (names_to (named_at one other) t list i) (named_at one other (field_at t list i)) r
        → EnteredAs t ix (names_to (named naming) t list i) (named naming (field_at t list i)) r
    from_domains r h = rw e h

  module _ (place : ℕ) (e : naming ≡ Members place) where
    pub as_members : (n : ℕ) → Index t ix n (names_to (named naming) t list i) → Index t ix n (names_to (members_named place) t list i)
    as_members n h = rw e at h

    pub room_members : (n : ℕ) → names_at + name_size * (n + length (named naming (field_at t list i))) ≤ length ix → names_at + name_size * (n + length (members_named place (field_at t list i))) ≤ length ix
    room_members n h = rw e at h

    pub from_members : (r : Option ℕ) → EnteredAs t ix (names_to (members_named place) t list i) (members_named place (field_at t list i)) r
        → EnteredAs t ix (names_to (named naming) t list i) (named naming (field_at t list i)) r
    from_members r h = rw e h

-- ---- field by field

module _ (t : List ℕ) (list : List FieldAt) (n i : ℕ) (sound : Sound t list n) where
  module _ (h : i < n) where
    pub its_spacing : well_spaced (field_at t list i) ≡ true
    its_spacing = each_field t list well_spaced n i sound.spaced h

  -- the same before the end of the names
  module _ (names : Field → List (List ℕ)) (end : ℕ) (ends : NamesEnd names t list n end) (h : i < end) where
    pub named_room : n ≤ length list → i < length list
    named_room l = omega (arith, ends.within)

    pub named_spacing : well_spaced (field_at t list i) ≡ true
    named_spacing = its_spacing (omega (arith, ends.within))

-- what field i names went in
module _ (names : Field → List (List ℕ)) (t : List ℕ) (list : List FieldAt) (i : ℕ) (ix : List ℕ) (r : Option ℕ) (q : EnteredAs t ix (names_to names t list i) (names (field_at t list i)) r)
    (k : ℕ) (e : r ≡ Some k) where
  went_in : (repeats (names_to names t list i) (names (field_at t list i)) ≡ false) × Index t ix k (names_to names t list i ++ names (field_at t list i))
  unfolding EnteredAs
  went_in = rw e at q

  pub index_on : Index t ix k (names_to names t list (i + 1))
  index_on = rw (names_more t list names i) went_in.1

module _ (names : Field → List (List ℕ)) (t : List ℕ) (list : List FieldAt) (n : ℕ) where
  -- the line of what is left
  abbrev line_from : ℕ → ℕ
  line_from i = repeated names (names_to names t list i) (between t list i n)

  pub no_names : (ix : List ℕ) → Index t ix 0 [] → Index t ix 0 (names_to names t list 0)
  no_names ix index = rw (names_none t list names) index

  pub line_first : line_from 0 ≡ repeated names [] (between t list 0 n)
  line_first = ap (λ (l : List (List ℕ)). repeated names l (between t list 0 n)) (names_none t list names)

  module _ (end : ℕ) (ends : NamesEnd names t list n end) (i : ℕ) (l : i < end) where
    h : i < n
    h = omega (arith, ends.within)

    pub field_room : (ix : List ℕ) (k l : ℕ) → Index t ix k (names_to names t list i) → length ix ≡ l → names_at + name_size * length (names_to names t list n) ≤ l
        → names_at + name_size * (k + length (names (field_at t list i))) ≤ length ix
    field_room ix k l index e room =
        let a : length (names_to names t list (i + 1)) ≡ length (names_to names t list i) + length (names (field_at t list i)) = ap length
        (names_more t list names i) ∙ length-append (names_to names t list i) (names (field_at t list i)) in
        omega (arith, index.count, names_fewer t list names (i + 1) n (omega (arith, h)))

    module _ (ix : List ℕ) (r : Option ℕ) (q : EnteredAs t ix (names_to names t list i) (names (field_at t list i)) r) where
      module _ (e : r ≡ None) where
        again_named : repeats (names_to names t list i) (names (field_at t list i)) ≡ true
        unfolding EnteredAs
        again_named = rw e at q

        twice_here : line_from i ≡ line_in list i
        unfolding field_of
        twice_here = rw (between_more t list i n h) (repeated_here names (field_at t list i) (between t list (i + 1) n) (names_to names t list i) again_named)

        module _ (count line : ℕ) (g : line ≡ line_in list i) (sound : Sound t list n) (inv : line_from i ≡ repeated names [] (between t list 0 n)) where
          a_line : line ≡ 0 → ⊥
          unfolding is_numbered field_of
          a_line z = omega (arith, leb-true 1 (line_in list i) (each_field t list is_numbered n i sound.numbered h))

          pub told_twice : (old : List ℕ) → Index t old count (names_to names t list i) → IndexedAs names t ix (between t list 0 n) (record { names = count; twice = line })
          told_twice old index = record {
            line = g ∙ sym twice_here ∙ inv;
            index = λ z. absurd (a_line z);
            few = omega (arith, index.count, names_fewer t list names i n (omega (arith, h)));
          }

      module _ (k : ℕ) (e : r ≡ Some k) where
        pub line_on : line_from i ≡ repeated names [] (between t list 0 n) → line_from (i + 1) ≡ repeated names [] (between t list 0 n)
        line_on inv =
            rw (names_more t list names i)
            (sym (repeated_on names (field_at t list i) (between t list (i + 1) n) (names_to names t list i) (went_in names t list i ix r q k e).0) ∙ (rw (between_more t list i n h) at inv))

  pub told_all : (end : ℕ) → NamesEnd names t list n end → (ix : List ℕ) (i count : ℕ) → end ≤ i → i ≤ end → Index t ix count (names_to names t list i)
      → line_from i ≡ repeated names [] (between t list 0 n) → IndexedAs names t ix (between t list 0 n) (record { names = count; twice = 0 })
  told_all end ends ix i count h l index inv =
      let e : i ≡ end = omega arith in
      let all : names_to names t list n ≡ names_to names t list end =
      names_split t list names end n ends.within ∙ rw ends.rest (append-nil (names_to names t list end)) in
      let a : Index t ix count (names_to names t list n) = rw all (rw e at index) in
      record {
        line = sym (nothing_repeated names (between t list i n) (names_to names t list i) (rw e ends.rest)) ∙ inv;
        index = λ z. a;
        few = omega (arith, a.count);
      }
