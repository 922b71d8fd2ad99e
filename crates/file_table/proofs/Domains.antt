-- The head, and the domains of a map's members: one number filled in for each list of members.
use mathlib.Core.Path.{◌≡◌, refl, ap, ◌∙◌}
use mathlib.Core.Bool.{Bool, true, false, cond}
use mathlib.Core.List.{List, [], ◌∷◌, ◌++◌, append-nil}
use Prim.Native.Nat.{ℕ, zero, suc, ◌+◌, ◌-◌, ◌<◌, ◌≤◌}
use native.Mathlib.Omega.{arith}
use mir.Syntax.{w16, w64}
use mir.Val.{Fits}
use lib.Dec.{eqb}
use lib.ListN.{length, get_or, take, drop, set, replicate, length-append, length-replicate}
use borrow.Author.Tests.{eq-eqb}
use Rattle.paper.specs.Limits.{most_members}
use Rattle.paper.specs.Lists.{elements}
use Rattle.paper.specs.Page.{Field}
use Rattle.paper.specs.Entries.{is_at, fields_at}
use Rattle.paper.specs.Policy.{member_domains}
use Rattle.paper.specs.Table.{mark, head_size, padded}
use Rattle.file_fields.specs.Fields.{nowhere_at, value_of, field_of, place_in, value_in, field_at, between, next_at}
use Rattle.file_fields.proofs.Between.{between_more, between_none}
use Rattle.file_table.proofs.Writing.{Written, written_none, written_more, written_all, written_length, unwritten, room, zeros_length}
use Rattle.file_fields.proofs.Walking.{Walked, walked, walked_place, walk_on}
use Rattle.file_fields.specs.declared.file.FieldAt.{FieldAt}
use Rattle.file_fields.specs.declared.file.File.{File}
use Rattle.file_fields.specs.declared.stretch.Stretch.{Stretch}
use Rattle.file_fields.specs.declared.stretch.Stretches.{Stretches}
use Rattle.file_fields.specs.Stretches.{stretch_of, IsNext}
use Rattle.file_fields.specs.Listed.{most_fields}

-- ---- the fields of a place, from its next one on

module _ (t : List ℕ) (list : List FieldAt) (p : ℕ) where
  skipped : (i : ℕ) → eqb (place_in list i) p ≡ false → is_at p (field_at t list i) ≡ false
  unfolding field_of
  skipped i q = q

  fields_behind : (to i k : ℕ) → i + k ≡ to → fields_at p (between t list i to) ≡ fields_at p (between t list (next_at list p i k) to)
  unfolding next_at fields_at
  fields_behind to i zero e = refl
  fields_behind to i (suc k) e = go (eqb (place_in list i) p) refl (fields_behind to (i + 1) k (omega arith))
    where
      go : (b : Bool) → eqb (place_in list i) p ≡ b → fields_at p (between t list (i + 1) to) ≡ fields_at p (between t list (next_at list p (i + 1) k) to)
          → fields_at p (between t list i to) ≡ fields_at p (between t list (cond b i (next_at list p (i + 1) k)) to)
      go true q ih = refl
      go false q ih = rw (between_more t list i to (omega arith), skipped i q) ih

  pub fields_next : (i to : ℕ) → i ≤ to → fields_at p (between t list i to) ≡ fields_at p (between t list (next_at list p i (to - i)) to)
  fields_next i to h = fields_behind to i (to - i) (omega arith)

  pub fields_more : (i to : ℕ) → i < to → place_in list i ≡ p → fields_at p (between t list i to) ≡ field_at t list i ∷ fields_at p (between t list (i + 1) to)
  unfolding fields_at field_of
  fields_more i to h e = rw (between_more t list i to h, eq-eqb (place_in list i) p e) refl

  pub fields_none : (i to : ℕ) → to ≤ i → fields_at p (between t list i to) ≡ []
  unfolding fields_at
  fields_none i to h = rw (between_none t list i to h) refl

-- ---- the domains of members

no_domains : (d : ℕ) → member_domains d [] ≡ []
unfolding member_domains
no_domains d = refl

more_domains : (d : ℕ) (f : Field) (fs : List Field) → member_domains d (f ∷ fs) ≡ replicate (length (elements f.value)) d ++ member_domains (d + 1) fs
unfolding member_domains
more_domains d f fs = refl

value_at_lem : (t : List ℕ) (list : List FieldAt) (i : ℕ) → (field_at t list i).value ≡ value_in t list i
unfolding field_of
value_at_lem t list i = refl

-- the domains of the members of the lists before number i are written, d being the next one
pub record MembersWritten (all : List Field) (t : List ℕ) (list : List FieldAt) (n place i d at : ℕ) (out : List ℕ) : Type 0 where
  pub walk : Walked list place i n
  pub low : d ≤ i
  pub done : Written most_members at (member_domains 0 all) (member_domains d (fields_at place (between t list i n))) out

pub members_begin : (t : List ℕ) (list : List FieldAt) (n place from i : ℕ) (out : List ℕ) → from ≤ n → i ≡ next_at list place from (n - from) → out ≡ replicate most_members 0
    → MembersWritten (fields_at place (between t list from n)) t list n place i 0 0 out
members_begin t list n place from i out h e z =
    let same : fields_at place (between t list from n) ≡ fields_at place (between t list i n) = rw e (fields_next t list place from n h) in
    record {
      walk = walked list place from n i h e;
      low = omega arith;
      done = rw (← same) (written_none most_members (member_domains 0 (fields_at place (between t list from n))) out z);
    }

module _ (all : List Field) (t : List ℕ) (list : List FieldAt) (n place i d at : ℕ) (out : List ℕ) (w : MembersWritten all t list n place i d at out) where
  module _ (h : i < n) (v : List ℕ) (f : v ≡ value_in t list i) (count : ℕ) (c : count ≡ length (elements v)) where
    domains_more : member_domains d (fields_at place (between t list i n)) ≡ replicate count d ++ member_domains (d + 1) (fields_at place (between t list (i + 1) n))
    domains_more = rw (fields_more t list place i n h (walked_place list place i n w.walk h), more_domains, value_at_lem t list i, c, f) refl

    pub members_room : length (member_domains 0 all) ≤ most_members → at + count ≤ most_members
    members_room few =
        let l : length (member_domains d (fields_at place (between t list i n))) ≡ count + length (member_domains (d + 1) (fields_at place (between t list (i + 1) n))) =
        rw domains_more (length-append (replicate count d) (member_domains (d + 1) (fields_at place (between t list (i + 1) n))) ∙ rw (length-replicate count d) refl) in
        omega (arith, room w.done few)

    pub members_end_within : length (member_domains 0 all) ≤ most_members → at + count ≤ length out
    members_end_within few = omega (arith, members_room few, w.done.long)

    pub members_end_fits : length (member_domains 0 all) ≤ most_members → Fits w64 (at + count)
    members_end_fits few = omega (arith, members_room few)

    pub members_again : (ys : List ℕ) (j : ℕ) → length (member_domains 0 all) ≤ most_members
        → ys ≡ replicate (length (take (at + count - at) (drop at out))) d → j ≡ next_at list place (i + 1) (n - (i + 1))
        → MembersWritten all t list n place j (d + 1) (at + count) (take at out ++ (ys ++ drop (at + count - at) (drop at out)))
    members_again ys j few y e =
        let r : at + count ≤ most_members = members_room few in
        let k : at + count - at ≡ count = omega arith in
        let z : take count (drop at out) ≡ replicate count 0 = unwritten w.done count r in
        let q : ys ≡ replicate count d = y ∙ rw (k, z, length-replicate {A = ℕ} count 0) refl in
        let same : fields_at place (between t list (i + 1) n) ≡ fields_at place (between t list j n) = rw e (fields_next t list place (i + 1) n (omega arith)) in
        record {
          walk = walked list place (i + 1) n j (omega arith) e;
          low = omega (arith, w.low, walk_on list place i n j e);
          done =
              rw (k, ← same)
              (written_more w.done count ys (member_domains (d + 1) (fields_at place (between t list (i + 1) n))) (domains_more ∙ rw q refl) (rw q (length-replicate count d)) r);
        }

  pub members_length_kept : (old : List ℕ) → old ≡ replicate most_members 0 → length out ≡ length old
  members_length_kept old e = zeros_length most_members old out e w.done.long

  module _ (h : n ≤ i) where
    none_left : member_domains d (fields_at place (between t list i n)) ≡ []
    none_left = rw (fields_none t list place i n h) (no_domains d)

    pub members_counted : at ≡ length (member_domains 0 all)
    members_counted = written_length w.done none_left

    pub members_all : out ≡ padded most_members (member_domains 0 all)
    members_all = written_all w.done none_left

-- as the loop over the lists goes
module _ (maps : Stretch) (place : ℕ) (s : Stretches) (x : Stretch) (r : Stretches) (next : IsNext s x r) (file : s.rest.file ≡ maps.file) (of : s.place ≡ place) (end : s.rest.to ≡ maps.to)
    (d at : ℕ) (out : List ℕ) (w : MembersWritten (fields_at place (stretch_of maps)) maps.file.text.now maps.file.fields.now maps.to place s.rest.from d at out)
    (v : List ℕ) (f : v ≡ value_of x.file.text.now (get_or x.file.fields.now x.from nowhere_at)) (count : ℕ) (c : count ≡ length (elements v))
    (few : length (member_domains 0 (fields_at place (stretch_of maps))) ≤ most_members) where
  here : s.rest.from < maps.to
  here = rw end at next.some

  its_value : v ≡ value_in maps.file.text.now maps.file.fields.now s.rest.from
  its_value = f ∙ ap (λ (y : File). value_of y.text.now (get_or y.fields.now x.from nowhere_at)) (next.file ∙ file)
      ∙ ap (λ (i : ℕ). value_of maps.file.text.now (get_or maps.file.fields.now i nowhere_at)) next.from

  pub list_within : at + count ≤ length out
  list_within = members_end_within (fields_at place (stretch_of maps)) maps.file.text.now maps.file.fields.now maps.to place s.rest.from d at out w here v its_value count c few

  pub list_fits : Fits w64 (at + count)
  list_fits = members_end_fits (fields_at place (stretch_of maps)) maps.file.text.now maps.file.fields.now maps.to place s.rest.from d at out w here v its_value count c few

  pub domain_fits : maps.to ≤ most_fields → Fits w16 (d + 1)
  domain_fits l = omega (arith, w.low, here)

  pub list_again : (ys : List ℕ) → ys ≡ replicate (length (take (at + count - at) (drop at out))) d
      → MembersWritten (fields_at place (stretch_of maps)) maps.file.text.now maps.file.fields.now maps.to place r.rest.from (d + 1) (at + count) (take at out ++ (ys ++ drop (at + count - at) (drop at out)))
  list_again ys y =
      let behind : r.rest.from ≡ next_at maps.file.fields.now place (s.rest.from + 1) (maps.to - (s.rest.from + 1)) = next.rest_from ∙ (rw (← file, ← of, ← end) next.to) in
      members_again (fields_at place (stretch_of maps)) maps.file.text.now maps.file.fields.now maps.to place s.rest.from d at out w here v its_value count c ys r.rest.from few y behind

pub lists_end : (maps : Stretch) (s : Stretches) → s.rest.to ≡ maps.to → s.rest.from ≡ s.rest.to → maps.to ≤ s.rest.from
lists_end maps s e h = omega (arith, e, h)

-- ---- the head

pub head_below : (out : List ℕ) (i : ℕ) → out ≡ replicate head_size 0 → i < head_size → i < length out
head_below out i e h = rw (e, length-replicate {A = ℕ} head_size 0) h

pub head_words_lem : (out : List ℕ) (a b c d e : ℕ) → out ≡ replicate head_size 0
    → set (set (set (set (set (set out 0 mark) 1 a) 2 b) 3 c) 4 d) 5 e ≡ padded head_size (mark ∷ a ∷ b ∷ c ∷ d ∷ e ∷ [])
unfolding padded
head_words_lem out a b c d e h = rw h refl
