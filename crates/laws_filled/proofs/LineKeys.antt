-- A line that begins with a key that may stand there is found at that key's place: no key of one row begins another, by computing them all.
use mathlib.Core.Path.{◌≡◌, refl, sym, ap, ◌∙◌}
use mathlib.Core.List.{List, [], ◌∷◌, ◌++◌}
use mathlib.Core.Bool.{Bool, true, false, cond, not, ◌&&◌, ◌||◌, beq, false≢true}
use mathlib.Core.Logic.{⊎_elim}
use Prim.Native.Nat.{ℕ, suc, ◌+◌, ◌<◌, ◌≤◌}
use native.Mathlib.Omega.{arith}
use lib.Dec.{eqb, leb}
use lib.ListN.{length, get_or, drop, length-append, get_or-append, get_or-eq_default, length-drop}
use lib.Seq.{drop-append-le}
use borrow.Author.Tests.{eqb-true, eq-eqb, ne_eqb, leb-true, not-true}
use Rattle.paper.specs.declared.Value.TheVariants.{Keys}
use Rattle.paper.specs.Common.{bytes, within, all_of, any_of, is_front_of}
use Rattle.paper.specs.Text.{space, hash, column, skipped}
use Rattle.paper.specs.Listing.{nowhere, Row, row, listing, row_at, key_at, dashed, alongside, begins_block, at_block}
use Rattle.paper.specs.Page.{place_of}
use Rattle.laws_filled.specs.Clean.{last_byte}
use Rattle.laws.proofs.Tests.{both_left, both_right, either_of, neither, le_or_lt}
use Rattle.laws.proofs.Counting.{all_of_at}

-- ---- what begins a line, whatever stands behind it

column_front : (k r : List ℕ) → column k < length k → column (k ++ r) ≡ column k
unfolding column
column_front [] r h = absurd (omega arith)
column_front (b ∷ bs) r h = go (eqb b space) h (column_front bs r)
  where
    go : (t : Bool) → cond t (column bs + 1) 0 < suc (length bs) → (column bs < length bs → column (bs ++ r) ≡ column bs)
        → cond t (column (bs ++ r) + 1) 0 ≡ cond t (column bs + 1) 0
    go true l ih = ap (λ (n : ℕ). n + 1) (ih (omega arith))
    go false l ih = refl

front_enough : (a k r : List ℕ) → length a ≤ length k → is_front_of a (k ++ r) ≡ is_front_of a k
unfolding is_front_of
front_enough [] k r h = refl
front_enough (x ∷ xs) [] r h = absurd (omega arith)
front_enough (x ∷ xs) (y ∷ ys) r h = ap (λ (t : Bool). eqb x y && t) (front_enough xs ys r (omega arith))

front_itself : (k r : List ℕ) → is_front_of k (k ++ r) ≡ true
unfolding is_front_of
front_itself [] r = refl
front_itself (x ∷ xs) r = rw (eq-eqb x x refl) (front_itself xs r)

-- of two stretches neither of which begins the other, the one begins nothing that begins with the other
front_apart : (a k r : List ℕ) → is_front_of a k ≡ false → is_front_of k a ≡ false → is_front_of a (k ++ r) ≡ false
unfolding is_front_of
front_apart [] k r p q = absurd (false≢true (sym p))
front_apart (x ∷ xs) [] r p q = absurd (false≢true (sym q))
front_apart (x ∷ xs) (y ∷ ys) r p q = go (eqb x y) refl p q (front_apart xs ys r)
  where
    go : (t : Bool) → eqb x y ≡ t → (t && is_front_of xs ys) ≡ false → (eqb y x && is_front_of ys xs) ≡ false
        → (is_front_of xs ys ≡ false → is_front_of ys xs ≡ false → is_front_of xs (ys ++ r) ≡ false) → (t && is_front_of xs (ys ++ r)) ≡ false
    go true e u v ih = ih u (rw (eq-eqb y x (sym (eqb-true x y e))) at v)
    go false e u v ih = refl

-- a key has a byte that is no space, no hash, and another behind it
unfoldable begins : List ℕ → Bool
begins k = leb (column k + 2) (length k) && not (eqb (get_or k (column k) 0) hash)

module _ (k r : List ℕ) (b : begins k ≡ true) where
  long : column k + 2 ≤ length k
  unfolding begins
  long = leb-true _ _ (both_left (leb (column k + 2) (length k)) _ b)

  word : eqb (get_or k (column k) 0) hash ≡ false
  unfolding begins
  word = not-true _ (both_right (leb (column k + 2) (length k)) _ b)

  same_column : column (k ++ r) ≡ column k
  same_column = column_front k r (omega (arith, long))

  not_skipped : skipped (k ++ r) ≡ false
  unfolding skipped
  not_skipped =
      neither _ _
      (ne_eqb (column (k ++ r)) (length (k ++ r)) (λ (e : column (k ++ r) ≡ length (k ++ r)). omega (arith, long, same_column, length-append k r)))
      (rw (same_column, get_or-append k r 0 (column k) (omega (arith, long))) word)

  same_dash : dashed (k ++ r) ≡ dashed k
  unfolding dashed
  same_dash =
      rw (same_column, drop-append-le (column k) k r (omega (arith, long)))
      (front_enough (bytes "- ") (drop (column k) k) r (omega (arith, long, length-drop (column k) k)))

  same_block : (ps : List ℕ) → begins_block ps (k ++ r) ≡ begins_block ps k
  unfolding begins_block alongside
  same_block [] = refl
  same_block (p ∷ ps) = rw (same_column, same_dash) refl

-- ---- the rows of the listing

-- a place has a key that may begin a line, and end one
unfoldable is_key : ℕ → Bool
is_key p = not (eqb p nowhere) && begins (key_at p) && all_of (within 0x20 0x7E) (key_at p) && not (eqb (last_byte (key_at p)) space)

-- neither key begins the other
unfoldable apart : ℕ → ℕ → Bool
apart q p = not (is_front_of (key_at q) (key_at p)) && not (is_front_of (key_at p) (key_at q))

unfoldable all_apart : List ℕ → Bool
all_apart [] = true
all_apart (q ∷ qs) = all_of (apart q) qs && all_apart qs

-- a key stands where the block begins, or does not
unfoldable stands_as : Bool → List ℕ → ℕ → Bool
stands_as here block p = is_key p && beq (begins_block block (key_at p)) here

-- each of these does, and can be told from the others
unfoldable told : Bool → List ℕ → List ℕ → Bool
told here block ps = all_of (stands_as here block) ps && all_apart ps

-- the keys of a row's block stand in it, those that follow it do not
unfoldable told_apart : Row → Bool
told_apart r = told true r.block r.block && told false r.block r.next

listing_apart : all_of told_apart listing ≡ true
unfolding all_of listing told_apart told stands_as all_apart apart is_key begins last_byte is_front_of begins_block alongside dashed column row_at key_at
listing_apart = refl

none_apart : told_apart (row "" Keys [] [] false) ≡ true
unfolding all_of told_apart told all_apart
none_apart = refl

row_apart : (place : ℕ) → told_apart (row_at place) ≡ true
unfolding row_at
row_apart place =
    ⊎_elim
    (λ (h : length listing ≤ place). rw (get_or-eq_default listing (row "" Keys [] [] false) {n = place} h) none_apart)
    (λ (h : place < length listing). all_of_at told_apart (row "" Keys [] [] false) listing listing_apart place h)
    (le_or_lt (length listing) place)

beq_same : (a b : Bool) → beq a b ≡ true → a ≡ b
beq_same true true e = refl
beq_same true false e = absurd (false≢true e)
beq_same false true e = absurd (false≢true e)
beq_same false false e = refl

-- what holds of all of these holds of each
pub among_all : (test : ℕ → Bool) (p : ℕ) (ps : List ℕ) → any_of (eqb p) ps ≡ true → all_of test ps ≡ true → test p ≡ true
unfolding any_of all_of
among_all test p [] a h = absurd (false≢true a)
among_all test p (q ∷ ps) a h =
    ⊎_elim
    (λ (e : eqb p q ≡ true). rw (eqb-true p q e) (both_left (test q) _ h))
    (λ (e : any_of (eqb p) ps ≡ true). among_all test p ps e (both_right (test q) _ h))
    (either_of (eqb p q) _ a)

place_found : (ps : List ℕ) (p : ℕ) (r : List ℕ) → any_of (eqb p) ps ≡ true → all_apart ps ≡ true → place_of ps (key_at p ++ r) ≡ p
unfolding any_of place_of all_apart apart
place_found [] p r a h = absurd (false≢true a)
place_found (q ∷ ps) p r a h = go (eqb p q) refl a (λ b. place_found ps p r b (both_right (all_of (apart q) ps) (all_apart ps) h))
  where
    go : (t : Bool) → eqb p q ≡ t → (t || any_of (eqb p) ps) ≡ true → (any_of (eqb p) ps ≡ true → place_of ps (key_at p ++ r) ≡ p)
        → cond (is_front_of (key_at q) (key_at p ++ r)) q (place_of ps (key_at p ++ r)) ≡ p
    go true e b ih = let s : p ≡ q = eqb-true p q e in rw (s, front_itself (key_at q) r) refl
    go false e b ih =
        let d : (not (is_front_of (key_at q) (key_at p)) && not (is_front_of (key_at p) (key_at q))) ≡ true
        = among_all (apart q) p ps b (both_left (all_of (apart q) ps) (all_apart ps) h) in
        rw (front_apart (key_at q) (key_at p) r (not-true (is_front_of (key_at q) (key_at p)) (both_left (not (is_front_of (key_at q) (key_at p))) _ d))
        (not-true (is_front_of (key_at p) (key_at q)) (both_right (not (is_front_of (key_at q) (key_at p))) _ d))) (ih b)

-- ---- a line that begins with the key of place p, after a field of another place

-- what is known of it: where it stands, and which place is found among these
pub record Found (place : ℕ) (here : Bool) (ps : List ℕ) (p : ℕ) (r : List ℕ) : Type 0 where
  pub somewhere : eqb p nowhere ≡ false
  pub stands : all_of (within 0x20 0x7E) (key_at p) ≡ true
  pub ends : eqb (last_byte (key_at p)) space ≡ false
  pub counts : skipped (key_at p ++ r) ≡ false
  pub block : at_block place (key_at p ++ r) ≡ here
  pub found : place_of ps (key_at p ++ r) ≡ p

module _ (place p : ℕ) (r : List ℕ) where
  found_one : (here : Bool) (ps : List ℕ) → is_key p ≡ true → begins_block (row_at place).block (key_at p) ≡ here → any_of (eqb p) ps ≡ true
      → all_apart ps ≡ true → Found place here ps p r
  unfolding is_key at_block
  found_one here ps k b a s =
      let e : (not (eqb p nowhere) && begins (key_at p) && all_of (within 0x20 0x7E) (key_at p)) ≡ true
      = both_left (not (eqb p nowhere) && begins (key_at p) && all_of (within 0x20 0x7E) (key_at p)) _ k in
      let f : (not (eqb p nowhere) && begins (key_at p)) ≡ true = both_left (not (eqb p nowhere) && begins (key_at p)) _ e in
      let g : begins (key_at p) ≡ true = both_right (not (eqb p nowhere)) _ f in
      record {
        somewhere = not-true _ (both_left (not (eqb p nowhere)) _ f);
        stands = both_right (not (eqb p nowhere) && begins (key_at p)) _ e;
        ends = not-true _ (both_right (not (eqb p nowhere) && begins (key_at p) && all_of (within 0x20 0x7E) (key_at p)) _ k);
        counts = not_skipped (key_at p) r g;
        block = same_block (key_at p) r g (row_at place).block ∙ b;
        found = place_found ps p r a s;
      }

  found_told : (here : Bool) (ps : List ℕ) → told here (row_at place).block ps ≡ true → any_of (eqb p) ps ≡ true → Found place here ps p r
  unfolding told stands_as
  found_told here ps h a =
      let k : stands_as here (row_at place).block p ≡ true
      = among_all (stands_as here (row_at place).block) p ps a (both_left (all_of (stands_as here (row_at place).block) ps) _ h) in
      found_one here ps (both_left (is_key p) _ k) (beq_same (begins_block (row_at place).block (key_at p)) here (both_right (is_key p) _ k)) a
      (both_right (all_of (stands_as here (row_at place).block) ps) (all_apart ps) h)

  -- it begins the block of that place
  pub found_block : any_of (eqb p) (row_at place).block ≡ true → Found place true (row_at place).block p r
  unfolding told_apart
  found_block a = found_told true (row_at place).block (both_left (told true (row_at place).block (row_at place).block) _ (row_apart place)) a

  -- it follows that place
  pub found_next : any_of (eqb p) (row_at place).next ≡ true → Found place false (row_at place).next p r
  unfolding told_apart
  found_next a = found_told false (row_at place).next (both_right (told true (row_at place).block (row_at place).block) _ (row_apart place)) a
