-- What the rows of the listing say of a file in order: no field of a map stands behind a `principal`, and above items stands a bare field.
use mathlib.Core.Path.{◌≡◌, refl, sym, ◌∙◌}
use mathlib.Core.List.{List, [], ◌∷◌}
use mathlib.Core.Bool.{Bool, true, false, cond, not, ◌&&◌, ◌||◌, false≢true}
use mathlib.Core.Logic.{⊎_elim}
use Prim.Native.Nat.{ℕ, ◌+◌, ◌<◌, ◌≤◌}
use native.Mathlib.Omega.{arith}
use lib.Dec.{eqb, leb, ltb}
use lib.ListN.{length, get_or-eq_default}
use borrow.Author.Tests.{eqb-true, ne_eqb, leb-true, le-leb, le-ltb, lt-leb, ltb-true}
use Rattle.paper.specs.declared.Value.TheVariants.{Keys}
use Rattle.paper.specs.Common.{bytes, is_empty, is, within, all_of, any_of, up_to}
use Rattle.paper.specs.Listing.{row, listing, row_at, principal, can_read, can_write, objects_in}
use Rattle.paper.specs.Page.{Field}
use Rattle.paper.specs.Entries.{is_at, meant, value_at, fields_at, up_to_next, stretches_from, items_of}
use Rattle.laws.proofs.Tests.{both_true, both_left, both_right, both_false, either_of, either_left, either_right, up_to_at, le_or_lt, same_refl}
use Rattle.laws_page.specs.Right.{needs_block, may_follow, in_listing_order}
use Rattle.laws_filled.proofs.LineKeys.{among_all}
use Rattle.laws_filled.proofs.Past.{none_at, none_more, none_here, fields_none}
use Rattle.laws_filled.proofs.SamePolicy.{bare_above, no_stretches}

-- ---- a test of every place that may come behind each place

-- in a block, and behind it
unfoldable rows_pass : (ℕ → ℕ → Bool) → (ℕ → ℕ → Bool) → ℕ → Bool
rows_pass in_block behind q = all_of (in_block q) (row_at q).block && all_of (behind q) (row_at q).next

unfoldable all_rows_pass : (ℕ → ℕ → Bool) → (ℕ → ℕ → Bool) → Bool
all_rows_pass in_block behind = up_to (rows_pass in_block behind) (length listing)

module _ (in_block behind : ℕ → ℕ → Bool) (pass : all_rows_pass in_block behind ≡ true) where
  past_listing : (q : ℕ) → length listing ≤ q → rows_pass in_block behind q ≡ true
  unfolding rows_pass row_at all_of
  past_listing q l = rw (get_or-eq_default listing (row "" Keys [] [] false) {n = q} l) refl

  row_passes : (q : ℕ) → rows_pass in_block behind q ≡ true
  unfolding all_rows_pass
  row_passes q =
      ⊎_elim
      (λ (l : length listing ≤ q). past_listing q l)
      (λ (l : q < length listing). up_to_at (rows_pass in_block behind) (length listing) pass q l)
      (le_or_lt (length listing) q)

  -- a field that may follow passes one of the two
  follows : (q : ℕ) (bare : Bool) (f : Field) → may_follow q bare f ≡ true → ((bare && in_block q f.place) || behind q f.place) ≡ true
  unfolding may_follow rows_pass
  follows q bare f m =
      let r : rows_pass in_block behind q ≡ true = row_passes q in
      ⊎_elim
      (λ k. either_left (bare && in_block q f.place) _
      (both_true bare (in_block q f.place) (both_left bare _ k)
      (among_all (in_block q) f.place (row_at q).block (both_right bare _ k) (both_left (all_of (in_block q) (row_at q).block) _ r))))
      (λ k. either_right (bare && in_block q f.place) _
      (among_all (behind q) f.place (row_at q).next (both_right (not (needs_block q bare)) _ k)
      (both_right (all_of (in_block q) (row_at q).block) _ r)))
      (either_of (bare && any_of (eqb f.place) (row_at q).block) _ m)

-- ---- behind a `principal` no field of a map comes

unfoldable late : ℕ → ℕ → Bool
late q p = ltb q 8 || leb 8 p

late_rows : all_rows_pass late late ≡ true
unfolding all_rows_pass rows_pass late up_to all_of row_at listing
late_rows = refl

pub stays_late : (q : ℕ) (bare : Bool) (f : Field) → 8 ≤ q → may_follow q bare f ≡ true → 8 ≤ f.place
unfolding late
stays_late q bare f h m = go bare (follows late late late_rows q bare f m)
  where
    low : (ltb q 8 || leb 8 f.place) ≡ true → 8 ≤ f.place
    low k =
        ⊎_elim
        (λ (s : ltb q 8 ≡ true). absurd (false≢true (sym (le-ltb q 8 h) ∙ s)))
        (λ (s : leb 8 f.place ≡ true). leb-true 8 f.place s)
        (either_of (ltb q 8) _ k)

    go : (b : Bool) → ((b && (ltb q 8 || leb 8 f.place)) || (ltb q 8 || leb 8 f.place)) ≡ true → 8 ≤ f.place
    go true k = ⊎_elim low low (either_of (ltb q 8 || leb 8 f.place) _ k)
    go false k = low k

none_late : (p : ℕ) → p < 8 → (q : ℕ) (bare : Bool) (fs : List Field) → 8 ≤ q → in_listing_order q bare fs ≡ true → none_at p fs ≡ true
unfolding in_listing_order
none_late p l q bare [] h o = none_here p
none_late p l q bare (f ∷ fs) h o =
    let k : 8 ≤ f.place = stays_late q bare f h (both_left (may_follow q bare f) _ o) in
    none_more p f fs (λ (e : f.place ≡ p). omega arith) (none_late p l f.place (is_empty f.value) fs k (both_right (may_follow q bare f) _ o))

-- the fields of a map stand before the first `principal`
pub maps_first : (p : ℕ) → p < 8 → (q : ℕ) (bare : Bool) (fs : List Field) → in_listing_order q bare fs ≡ true
    → fields_at p (up_to_next principal fs) ≡ fields_at p fs
unfolding fields_at up_to_next in_listing_order
maps_first p l q bare [] o = refl
maps_first p l q bare (f ∷ fs) o = go (is_at principal f) refl (maps_first p l f.place (is_empty f.value) fs rest)
  where
    rest : in_listing_order f.place (is_empty f.value) fs ≡ true
    rest = both_right (may_follow q bare f) _ o

    go : (t : Bool) → is_at principal f ≡ t → fields_at p (up_to_next principal fs) ≡ fields_at p fs
        → fields_at p (cond t [] (f ∷ up_to_next principal fs)) ≡ cond (is_at p f) (f ∷ fields_at p fs) (fields_at p fs)
    go true e ih =
        let s : f.place ≡ principal = eqb-true f.place principal e in
        rw (ne_eqb f.place p (λ (z : f.place ≡ p). omega arith))
        (sym (fields_none p fs (none_late p l f.place (is_empty f.value) fs (omega arith) rest)))
    go false e ih = rw ih refl

-- ---- above the items of `can_read` or `can_write` stands that field, bare

-- a place in an item
unfoldable inside : ℕ → ℕ → Bool
inside a p = within (a + 1) (a + 6) p

-- items are open behind a bare field of the access, and inside one
unfoldable open_items : ℕ → ℕ → Bool → Bool
open_items a q bare = (bare && eqb q a) || inside a q

-- a place inside comes only where they are open
unfoldable opens : ℕ → ℕ → ℕ → Bool
opens a q p = not (inside a p) || (eqb q a || inside a q)

unfoldable stays_open : ℕ → ℕ → ℕ → Bool
stays_open a q p = not (inside a p) || inside a q

-- behind a field of the access with a value, and behind all of its items, none comes any more
unfoldable gone : ℕ → ℕ → Bool → Bool
gone a q bare = (not bare && eqb q a) || ltb (a + 6) q

unfoldable beyond : ℕ → ℕ → ℕ → Bool
beyond a q p = not (ltb (a + 6) q) || (eqb p 8 || ltb (a + 6) p)

unfoldable closes : ℕ → ℕ → ℕ → Bool
closes a q p = not (eqb q a || ltb (a + 6) q) || (eqb p 8 || ltb (a + 6) p)

shut_test : (b e q i : Bool) → ((b && e) || q) ≡ false → ((b && (not i || (e || q))) || (not i || q)) ≡ true → i ≡ false
shut_test b e q false h k = refl
shut_test true true q true h k = absurd (false≢true (sym h))
shut_test true false true true h k = absurd (false≢true (sym h))
shut_test true false false true h k = absurd (false≢true k)
shut_test false e true true h k = absurd (false≢true (sym h))
shut_test false e false true h k = absurd (false≢true k)

gone_test : (b e l z p : Bool) → ((not b && e) || l) ≡ true → z ≡ false → ((b && (not l || (z || p))) || (not (e || l) || (z || p))) ≡ true → p ≡ true
gone_test b e l z true h y k = refl
gone_test b e l true false h y k = absurd (false≢true (sym y))
gone_test true e false false false h y k = absurd (false≢true h)
gone_test true true true false false h y k = absurd (false≢true k)
gone_test true false true false false h y k = absurd (false≢true k)
gone_test false true l false false h y k = absurd (false≢true k)
gone_test false false true false false h y k = absurd (false≢true k)
gone_test false false false false false h y k = absurd (false≢true h)

-- one field more in front, which does not stand inside an item
not_inside_place : (a p : ℕ) → inside a p ≡ false → p ≡ a + 1 → ⊥
unfolding inside
not_inside_place a p h e =
    false≢true (sym h ∙ both_true (leb (a + 1) p) (leb p (a + 6)) (le-leb (a + 1) p (omega arith)) (le-leb p (a + 6) (omega arith)))

value_behind : (a : ℕ) (f : Field) (fs : List Field) → is_at a f ≡ false → value_at a (f ∷ fs) ≡ value_at a fs
unfolding value_at
value_behind a f fs e = rw e refl

value_none : (a : ℕ) (f : Field) (fs : List Field) → is_at a f ≡ true → is_empty f.value ≡ true → is "[]" (value_at a (f ∷ fs)) ≡ true
unfolding value_at meant
value_none a f fs e z = rw (e, z) (same_refl (bytes "[]"))

one_more : (a : ℕ) (f : Field) (fs : List Field) → inside a f.place ≡ false
    → (open_items a f.place (is_empty f.value) ≡ false → (none_at (objects_in a) fs || is "[]" (value_at a fs)) ≡ true)
    → (gone a f.place (is_empty f.value) ≡ true → none_at (objects_in a) fs ≡ true)
    → (none_at (objects_in a) (f ∷ fs) || is "[]" (value_at a (f ∷ fs))) ≡ true
unfolding open_items gone
one_more a f fs i ih never = go (is_at a f) (is_empty f.value) refl refl ih never
  where
    apart : f.place ≡ a + 1 → ⊥
    apart z = not_inside_place a f.place i z

    go : (t u : Bool) → is_at a f ≡ t → is_empty f.value ≡ u
        → (((u && t) || inside a f.place) ≡ false → (none_at (objects_in a) fs || is "[]" (value_at a fs)) ≡ true)
        → (((not u && t) || ltb (a + 6) f.place) ≡ true → none_at (objects_in a) fs ≡ true)
        → (none_at (objects_in a) (f ∷ fs) || is "[]" (value_at a (f ∷ fs))) ≡ true
    go true true e z k n = either_right (none_at (objects_in a) (f ∷ fs)) _ (value_none a f fs e z)
    go true false e z k n = either_left (none_at (objects_in a) (f ∷ fs)) _ (none_more (a + 1) f fs apart (n refl))
    go false u e z k n = ⊎_elim
        (λ (h : none_at (objects_in a) fs ≡ true). either_left (none_at (objects_in a) (f ∷ fs)) _ (none_more (a + 1) f fs apart h))
        (λ (h : is "[]" (value_at a fs) ≡ true). either_right (none_at (objects_in a) (f ∷ fs)) _ (rw (value_behind a f fs e) h))
        (either_of (none_at (objects_in a) fs) _ (k (rw (both_false u false refl) i)))

-- behind a place before the access nothing of it is open
shut_first : (a q : ℕ) (bare : Bool) → q < a → open_items a q bare ≡ false
unfolding open_items inside
shut_first a q bare h = rw (ne_eqb q a (λ (z : q ≡ a). omega arith), both_false bare false refl, lt-leb (a + 1) q (omega arith)) refl

above : (a : ℕ) (f : Field) (fs : List Field) → (f.place ≡ a → ⊥) → (f.place ≡ a + 1 → ⊥)
    → (none_at (objects_in a) fs || is "[]" (value_at a fs)) ≡ true → bare_above a (f ∷ fs) ≡ true
unfolding bare_above items_of
above a f fs n m h = ⊎_elim
    (λ (k : none_at (objects_in a) fs ≡ true). either_left (is_empty (stretches_from (objects_in a) (f ∷ fs))) _
    (rw (no_stretches (objects_in a) (f ∷ fs) (none_more (a + 1) f fs m k)) refl))
    (λ (k : is "[]" (value_at a fs) ≡ true). either_right (is_empty (stretches_from (objects_in a) (f ∷ fs))) _
    (rw (value_behind a f fs (ne_eqb f.place a n)) k))
    (either_of (none_at (objects_in a) fs) _ h)

module _ (a : ℕ) (high : 8 < a) (shut : all_rows_pass (opens a) (stays_open a) ≡ true) (over : all_rows_pass (beyond a) (closes a) ≡ true) where
  not_inside : (q : ℕ) (bare : Bool) (f : Field) → may_follow q bare f ≡ true → open_items a q bare ≡ false → inside a f.place ≡ false
  unfolding open_items opens stays_open
  not_inside q bare f m o = shut_test bare (eqb q a) (inside a q) (inside a f.place) o (follows (opens a) (stays_open a) shut q bare f m)

  still_gone : (q : ℕ) (bare : Bool) (f : Field) → may_follow q bare f ≡ true → gone a q bare ≡ true → is_at principal f ≡ false
      → ltb (a + 6) f.place ≡ true
  unfolding gone beyond closes
  still_gone q bare f m g e =
      gone_test bare (eqb q a) (ltb (a + 6) q) (eqb f.place 8) (ltb (a + 6) f.place) g e (follows (beyond a) (closes a) over q bare f m)

  none_after : (q : ℕ) (bare : Bool) (fs : List Field) → in_listing_order q bare fs ≡ true → gone a q bare ≡ true
      → none_at (objects_in a) (up_to_next principal fs) ≡ true
  unfolding in_listing_order up_to_next gone
  none_after q bare [] o g = none_here (a + 1)
  none_after q bare (f ∷ fs) o g = go (is_at principal f) refl (none_after f.place (is_empty f.value) fs (both_right (may_follow q bare f) _ o))
    where
      go : (t : Bool) → is_at principal f ≡ t
          → (((not (is_empty f.value) && eqb f.place a) || ltb (a + 6) f.place) ≡ true → none_at (objects_in a) (up_to_next principal fs) ≡ true)
          → none_at (objects_in a) (cond t [] (f ∷ up_to_next principal fs)) ≡ true
      go true e ih = none_here (a + 1)
      go false e ih =
          let s : ltb (a + 6) f.place ≡ true = still_gone q bare f (both_left (may_follow q bare f) _ o) g e in
          none_more (a + 1) f (up_to_next principal fs) (λ (z : f.place ≡ a + 1). omega (arith, ltb-true (a + 6) f.place s))
          (ih (either_right (not (is_empty f.value) && eqb f.place a) (ltb (a + 6) f.place) s))

  bare_or_none : (q : ℕ) (bare : Bool) (fs : List Field) → in_listing_order q bare fs ≡ true → open_items a q bare ≡ false
      → (none_at (objects_in a) (up_to_next principal fs) || is "[]" (value_at a (up_to_next principal fs))) ≡ true
  unfolding in_listing_order up_to_next
  bare_or_none q bare [] o c = either_left (none_at (objects_in a) []) _ (none_here (a + 1))
  bare_or_none q bare (f ∷ fs) o c = go (is_at principal f) refl (bare_or_none f.place (is_empty f.value) fs rest)
    where
      rest : in_listing_order f.place (is_empty f.value) fs ≡ true
      rest = both_right (may_follow q bare f) _ o

      go : (t : Bool) → is_at principal f ≡ t
          → (open_items a f.place (is_empty f.value) ≡ false
          → (none_at (objects_in a) (up_to_next principal fs) || is "[]" (value_at a (up_to_next principal fs))) ≡ true)
          → (none_at (objects_in a) (cond t [] (f ∷ up_to_next principal fs)) || is "[]" (value_at a (cond t [] (f ∷ up_to_next principal fs)))) ≡ true
      go true e ih = either_left (none_at (objects_in a) []) _ (none_here (a + 1))
      go false e ih =
          one_more a f (up_to_next principal fs) (not_inside q bare f (both_left (may_follow q bare f) _ o) c) ih
          (λ (g : gone a f.place (is_empty f.value) ≡ true). none_after f.place (is_empty f.value) fs rest g)

  entry_bare : (f : Field) (fs : List Field) → f.place ≡ principal → in_listing_order f.place (is_empty f.value) fs ≡ true
      → bare_above a (f ∷ up_to_next principal fs) ≡ true
  entry_bare f fs e o =
      above a f (up_to_next principal fs) (λ (z : f.place ≡ a). omega arith) (λ (z : f.place ≡ a + 1). omega arith)
      (bare_or_none f.place (is_empty f.value) fs o (shut_first a f.place (is_empty f.value) (omega arith)))

  entries_bare : (q : ℕ) (bare : Bool) (fs : List Field) → in_listing_order q bare fs ≡ true → all_of (bare_above a) (stretches_from principal fs) ≡ true
  unfolding in_listing_order all_of stretches_from
  entries_bare q bare [] o = refl
  entries_bare q bare (f ∷ fs) o = go (is_at principal f) refl (entries_bare f.place (is_empty f.value) fs rest)
    where
      rest : in_listing_order f.place (is_empty f.value) fs ≡ true
      rest = both_right (may_follow q bare f) _ o

      go : (t : Bool) → is_at principal f ≡ t → all_of (bare_above a) (stretches_from principal fs) ≡ true
          → all_of (bare_above a) (cond t ((f ∷ up_to_next principal fs) ∷ stretches_from principal fs) (stretches_from principal fs)) ≡ true
      go true e ih = both_true (bare_above a (f ∷ up_to_next principal fs)) _ (entry_bare f fs (eqb-true f.place principal e) rest) ih
      go false e ih = ih

read_shut : all_rows_pass (opens can_read) (stays_open can_read) ≡ true
unfolding all_rows_pass rows_pass opens stays_open inside up_to all_of row_at listing
read_shut = refl

read_over : all_rows_pass (beyond can_read) (closes can_read) ≡ true
unfolding all_rows_pass rows_pass beyond closes up_to all_of row_at listing
read_over = refl

write_shut : all_rows_pass (opens can_write) (stays_open can_write) ≡ true
unfolding all_rows_pass rows_pass opens stays_open inside up_to all_of row_at listing
write_shut = refl

write_over : all_rows_pass (beyond can_write) (closes can_write) ≡ true
unfolding all_rows_pass rows_pass beyond closes up_to all_of row_at listing
write_over = refl

-- in every entry
pub reads_bare : (fs : List Field) → in_listing_order 0 false fs ≡ true → all_of (bare_above can_read) (stretches_from principal fs) ≡ true
reads_bare fs o = entries_bare can_read (omega arith) read_shut read_over 0 false fs o

pub writes_bare : (fs : List Field) → in_listing_order 0 false fs ≡ true → all_of (bare_above can_write) (stretches_from principal fs) ≡ true
writes_bare fs o = entries_bare can_write (omega arith) write_shut write_over 0 false fs o
