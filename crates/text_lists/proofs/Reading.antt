-- An element read part by part: what is read is the paper's test of the element.
use mathlib.Core.Path.{◌≡◌, refl, sym, ap, ◌∙◌}
use mathlib.Core.Bool.{Bool, true, false, cond, not, ◌&&◌, and-true, false≢true}
use mathlib.Core.List.{List, [], ◌∷◌}
use Prim.Native.Nat.{ℕ, suc, ◌+◌, ◌-◌, ◌<◌, ◌≤◌}
use native.Mathlib.Omega.{arith}
use lib.Dec.{eqb}
use lib.ListN.{length, get_or, take, drop, drop_of_length-le}
use lib.Seq.{drop-drop}
use borrow.Author.Tests.{eqb-true, not-true}
use Rattle.paper.specs.Common.{all_of, any_of, cut, on_piece}
use Rattle.paper.specs.Text.{comma, bar}
use Rattle.paper.specs.Scalars.{identifier_byte}
use Rattle.laws.specs.Pieces.{before}
use Rattle.laws.proofs.Tests.{both_left, both_right, both_true, both_false}
use Rattle.laws.proofs.Places.{drop_more}
use Rattle.laws.proofs.Pieces.{cut_some}
use Rattle.text_bytes.specs.Classes.{part_of, run}
use Rattle.text_lists.specs.Reading.{element_ends, bar_stands}

abbrev pub plain : ℕ → Bool
plain = part_of identifier_byte

-- ---- what stands at a place

module _ (s : List ℕ) (i : ℕ) where
  pub ends_past : length s ≤ i → true ≡ element_ends (drop i s)
  unfolding element_ends
  ends_past h = rw (drop_of_length-le s h)

  pub ends_is : i < length s → eqb (get_or s i 0) comma ≡ element_ends (drop i s)
  unfolding element_ends
  ends_is h = rw (drop_more s i h)

  pub bar_past : length s ≤ i → false ≡ bar_stands (drop i s)
  unfolding bar_stands
  bar_past h = rw (drop_of_length-le s h)

  pub bar_is : i < length s → eqb (get_or s i 0) bar ≡ bar_stands (drop i s)
  unfolding bar_stands
  bar_is h = rw (drop_more s i h)

-- ---- an element whose bytes all pass a test that no comma passes

module _ (p : ℕ → Bool) (no_comma : p comma ≡ false) where
  passes_no_comma : (b : ℕ) → p b ≡ true → eqb b comma ≡ false
  passes_no_comma b h = go (eqb b comma) refl
    where
      go : (t : Bool) → eqb b comma ≡ t → t ≡ false
      go true e = absurd (false≢true (sym no_comma ∙ sym (ap p (eqb-true b comma e)) ∙ h))
      go false e = refl

  pub before_ended : (x : List ℕ) → element_ends (drop (run p x) x) ≡ true → before comma x ≡ run p x
  unfolding run before element_ends
  before_ended [] h = refl
  before_ended (b ∷ bs) h = go (p b) refl h (λ k. before_ended bs k)
    where
      go : (t : Bool) → p b ≡ t → element_ends (drop (cond t (suc (run p bs)) 0) (b ∷ bs)) ≡ true
          → (element_ends (drop (run p bs) bs) ≡ true → before comma bs ≡ run p bs)
          → cond (eqb b comma) 0 (suc (before comma bs)) ≡ cond t (suc (run p bs)) 0
      go true e k ih = rw (passes_no_comma b e) (ap suc (ih k))
      go false e k ih = rw k

  pub all_of_run : (x : List ℕ) → all_of p (take (run p x) x) ≡ true
  unfolding run all_of
  all_of_run [] = refl
  all_of_run (b ∷ bs) = go (p b) refl (all_of_run bs)
    where
      go : (t : Bool) → p b ≡ t → all_of p (take (run p bs) bs) ≡ true → all_of p (take (cond t (suc (run p bs)) 0) (b ∷ bs)) ≡ true
      go true e ih = both_true (p b) (all_of p (take (run p bs) bs)) e ih
      go false e ih = refl

  pub not_ended : (x : List ℕ) → element_ends (drop (run p x) x) ≡ false → all_of p (take (before comma x) x) ≡ false
  unfolding run before all_of element_ends
  not_ended [] h = absurd (false≢true (sym h))
  not_ended (b ∷ bs) h = go (p b) refl h (λ k. not_ended bs k)
    where
      go : (t : Bool) → p b ≡ t → element_ends (drop (cond t (suc (run p bs)) 0) (b ∷ bs)) ≡ false
          → (element_ends (drop (run p bs) bs) ≡ false → all_of p (take (before comma bs) bs) ≡ false)
          → all_of p (take (cond (eqb b comma) 0 (suc (before comma bs))) (b ∷ bs)) ≡ false
      go true e k ih = rw (passes_no_comma b e) (both_false (p b) (all_of p (take (before comma bs) bs)) (ih k))
      go false e k ih = rw (k, e)

-- ---- a byte that is plain is in the class, no bar and no comma

plain_in : (b : ℕ) → plain b ≡ true → identifier_byte b ≡ true
plain_in b h = both_left (identifier_byte b) (not (eqb b bar)) h

plain_no_bar : (b : ℕ) → plain b ≡ true → eqb b bar ≡ false
plain_no_bar b h = not-true (eqb b bar) (both_right (identifier_byte b) (not (eqb b bar)) h)

plain_no_comma : (b : ℕ) → plain b ≡ true → eqb b comma ≡ false
unfolding identifier_byte any_of
plain_no_comma b h = passes_no_comma plain refl b h

-- ---- a test of an element's parts, its class with it

abbrev pub parts_test : (List (List ℕ) → Bool) → List ℕ → Bool
parts_test q x = all_of identifier_byte (take (before comma x) x) && q (cut bar (take (before comma x) x))

plain_first : (q : List (List ℕ) → Bool) (b : ℕ) (bs : List ℕ) → plain b ≡ true → parts_test q (b ∷ bs) ≡ parts_test (λ ps. q (on_piece b ps)) bs
unfolding before all_of cut
plain_first q b bs h = rw (plain_no_comma b h, plain_in b h, plain_no_bar b h)

-- the part before the first byte that is not plain
ended : (q : List (List ℕ) → Bool) (x : List ℕ) → element_ends (drop (run plain x) x) ≡ true → parts_test q x ≡ q (take (run plain x) x ∷ [])
unfolding run before all_of cut on_piece element_ends
ended q [] h = refl
ended q (b ∷ bs) h = go (plain b) refl h (λ k. ended (λ ps. q (on_piece b ps)) bs k)
  where
    go : (t : Bool) → plain b ≡ t → element_ends (drop (cond t (suc (run plain bs)) 0) (b ∷ bs)) ≡ true
        → (element_ends (drop (run plain bs) bs) ≡ true → parts_test (λ ps. q (on_piece b ps)) bs ≡ q (on_piece b (take (run plain bs) bs ∷ [])))
        → parts_test q (b ∷ bs) ≡ q (take (cond t (suc (run plain bs)) 0) (b ∷ bs) ∷ [])
    go true e k ih = plain_first q b bs e ∙ ih k
    go false e k ih = rw k

barred : (q : List (List ℕ) → Bool) (x : List ℕ) → bar_stands (drop (run plain x) x) ≡ true
    → parts_test q x ≡ parts_test (λ ps. q (take (run plain x) x ∷ ps)) (drop (suc (run plain x)) x)
unfolding run before all_of cut on_piece bar_stands identifier_byte any_of
barred q [] h = absurd (false≢true h)
barred q (b ∷ bs) h = go (plain b) refl h (λ k. barred (λ ps. q (on_piece b ps)) bs k)
  where
    go : (t : Bool) → plain b ≡ t → bar_stands (drop (cond t (suc (run plain bs)) 0) (b ∷ bs)) ≡ true
        → (bar_stands (drop (run plain bs) bs) ≡ true
        → parts_test (λ ps. q (on_piece b ps)) bs ≡ parts_test (λ ps. q (on_piece b (take (run plain bs) bs ∷ ps))) (drop (suc (run plain bs)) bs))
        → parts_test q (b ∷ bs) ≡ parts_test (λ ps. q (take (cond t (suc (run plain bs)) 0) (b ∷ bs) ∷ ps)) (drop (suc (cond t (suc (run plain bs)) 0)) (b ∷ bs))
    go true e k ih = plain_first q b bs e ∙ ih k
    go false e k ih = let m : b ≡ bar = eqb-true b bar k in rw m

other : (q : List (List ℕ) → Bool) (x : List ℕ) → element_ends (drop (run plain x) x) ≡ false → bar_stands (drop (run plain x) x) ≡ false → parts_test q x ≡ false
unfolding run before all_of cut on_piece element_ends bar_stands
other q [] h g = absurd (false≢true (sym h))
other q (b ∷ bs) h g = go (plain b) refl h g (λ k l. other (λ ps. q (on_piece b ps)) bs k l)
  where
    go : (t : Bool) → plain b ≡ t → element_ends (drop (cond t (suc (run plain bs)) 0) (b ∷ bs)) ≡ false → bar_stands (drop (cond t (suc (run plain bs)) 0) (b ∷ bs)) ≡ false
        → (element_ends (drop (run plain bs) bs) ≡ false → bar_stands (drop (run plain bs) bs) ≡ false → parts_test (λ ps. q (on_piece b ps)) bs ≡ false)
        → parts_test q (b ∷ bs) ≡ false
    go true e k l ih = plain_first q b bs e ∙ ih k l
    go false e k l ih = let m : identifier_byte b ≡ false = sym (and-true (identifier_byte b)) ∙ rw l at e in rw (k, m)

no_bar : (q : List (List ℕ) → Bool) (x : List ℕ) → ((y : List ℕ) → q (y ∷ []) ≡ false) → bar_stands (drop (run plain x) x) ≡ false → parts_test q x ≡ false
no_bar q x w h = go (element_ends (drop (run plain x) x)) refl
  where
    go : (t : Bool) → element_ends (drop (run plain x) x) ≡ t → parts_test q x ≡ false
    go true e = ended q x e ∙ w (take (run plain x) x)
    go false e = other q x e h

no_end : (q : List (List ℕ) → Bool) (x : List ℕ) → ((y z : List ℕ) (zs : List (List ℕ)) → q (y ∷ z ∷ zs) ≡ false) → element_ends (drop (run plain x) x) ≡ false → parts_test q x ≡ false
no_end q x w h = go (bar_stands (drop (run plain x) x)) refl
  where
    rest : List ℕ
    rest = drop (suc (run plain x)) x

    go : (t : Bool) → bar_stands (drop (run plain x) x) ≡ t → parts_test q x ≡ false
    go true e =
        barred q x e
        ∙ both_false (all_of identifier_byte (take (before comma rest) rest)) _
        (ap (λ ps. q (take (run plain x) x ∷ ps)) (cut_some bar (take (before comma rest) rest)).2 ∙ w _ _ _)
    go false e = other q x h e

-- ---- where it ends

before_barred : (x : List ℕ) → bar_stands (drop (run plain x) x) ≡ true → before comma x ≡ suc (run plain x) + before comma (drop (suc (run plain x)) x)
unfolding run before bar_stands
before_barred [] h = absurd (false≢true h)
before_barred (b ∷ bs) h = go (plain b) refl h (λ k. before_barred bs k)
  where
    go : (t : Bool) → plain b ≡ t → bar_stands (drop (cond t (suc (run plain bs)) 0) (b ∷ bs)) ≡ true
        → (bar_stands (drop (run plain bs) bs) ≡ true → before comma bs ≡ suc (run plain bs) + before comma (drop (suc (run plain bs)) bs))
        → cond (eqb b comma) 0 (suc (before comma bs)) ≡ suc (cond t (suc (run plain bs)) 0) + before comma (drop (suc (cond t (suc (run plain bs)) 0)) (b ∷ bs))
    go true e k ih = rw (plain_no_comma b e) (omega (arith, ih k))
    go false e k ih = let m : b ≡ bar = eqb-true b bar k in rw m (omega arith)

-- ---- the same at an index: from `at` to the first byte at a that is not plain

module _ (s : List ℕ) (at a : ℕ) (fa : a ≡ at + run plain (drop at s)) where
  rest_is : drop (run plain (drop at s)) (drop at s) ≡ drop a s
  rest_is = rw fa (drop-drop (run plain (drop at s)) at s)

  behind_is : drop (suc (run plain (drop at s))) (drop at s) ≡ drop (a + 1) s
  behind_is =
      let q : at + (suc (run plain (drop at s))) ≡ a + 1 = omega arith in
      drop-drop (suc (run plain (drop at s))) at s ∙ ap (λ (k : ℕ). drop k s) q

  part_length : run plain (drop at s) ≡ a - at
  part_length = omega arith

  pub ended_at : (q : List (List ℕ) → Bool) → element_ends (drop a s) ≡ true → parts_test q (drop at s) ≡ q (take (a - at) (drop at s) ∷ [])
  ended_at q h = ended q (drop at s) (ap element_ends rest_is ∙ h) ∙ ap (λ (n : ℕ). q (take n (drop at s) ∷ [])) part_length

  pub barred_at : (q : List (List ℕ) → Bool) → bar_stands (drop a s) ≡ true → parts_test q (drop at s) ≡ parts_test (λ ps. q (take (a - at) (drop at s) ∷ ps)) (drop (a + 1) s)
  barred_at q h =
      barred q (drop at s) (ap bar_stands rest_is ∙ h)
      ∙ ap (λ (n : ℕ). parts_test (λ ps. q (take n (drop at s) ∷ ps)) (drop (suc (run plain (drop at s))) (drop at s))) part_length
      ∙ ap (λ (y : List ℕ). parts_test (λ ps. q (take (a - at) (drop at s) ∷ ps)) y) behind_is

  pub no_bar_at : (q : List (List ℕ) → Bool) → ((y : List ℕ) → q (y ∷ []) ≡ false) → bar_stands (drop a s) ≡ false → parts_test q (drop at s) ≡ false
  no_bar_at q w h = no_bar q (drop at s) w (ap bar_stands rest_is ∙ h)

  pub no_end_at : (q : List (List ℕ) → Bool) → ((y z : List ℕ) (zs : List (List ℕ)) → q (y ∷ z ∷ zs) ≡ false) → element_ends (drop a s) ≡ false → parts_test q (drop at s) ≡ false
  no_end_at q w h = no_end q (drop at s) w (ap element_ends rest_is ∙ h)

  pub end_is : element_ends (drop a s) ≡ true → at + before comma (drop at s) ≡ a
  unfolding identifier_byte any_of
  end_is h = omega (arith, before_ended plain refl (drop at s) (ap element_ends rest_is ∙ h))

  pub end_behind : bar_stands (drop a s) ≡ true → at + before comma (drop at s) ≡ a + 1 + before comma (drop (a + 1) s)
  end_behind h =
      let e : before comma (drop at s) ≡ suc (run plain (drop at s)) + before comma (drop (a + 1) s) =
      rw behind_is at (before_barred (drop at s) (ap bar_stands rest_is ∙ h)) in
      omega arith
