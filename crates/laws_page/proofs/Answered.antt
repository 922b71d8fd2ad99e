-- The other way round: the first line at fault is what the page answers; and its number is 4, 9 or 5.
use mathlib.Core.Path.{◌≡◌, refl, sym, ◌∙◌}
use mathlib.Core.List.{List, [], ◌∷◌, ◌++◌, append-nil}
use mathlib.Core.Bool.{Bool, true, false, cond}
use mathlib.Core.Logic.{◌⊎◌, inl, inr, ⊎_elim}
use Prim.Native.Nat.{ℕ, zero, suc, ◌+◌}
use native.Mathlib.Omega.{arith}
use lib.Dec.{eqb}
use lib.ListN.{length, drop}
use Rattle.paper.specs.Common.{is_empty}
use Rattle.paper.specs.Text.{Line, lines, skipped}
use Rattle.paper.specs.declared.Value.{Value}
use Rattle.paper.specs.Listing.{row_at, key_at, at_block, value_fault}
use Rattle.paper.specs.Page.{fields, fault, State, Step, pass, stop, Field, before_first, is_left_empty, places_for, place_of, one_space_and_value, field_step, after_key, place_step, unless_empty}
use Rattle.paper.specs.Page.{line_step, at_end, page_from, page_of}
use Rattle.laws_page.specs.Order.{in_order, value_four, value_nine, value_five}
use Rattle.laws_page.specs.First.{Free, AllSkipped, Apart, Own, Empty, Missing, Smallest, on_it, left_empty, past_the_last}
use Rattle.laws_page.specs.First as first
use Rattle.laws_page.proofs.Order.{value_order}

-- ---- what is refused behind lines that pass

stopped : (st : State) (n : ℕ) (l : Line) (ls : List Line) (k m : ℕ) → line_step st n l ≡ stop k m → page_from st n (l ∷ ls) ≡ fault k m
unfolding page_from
stopped st n l ls k m p = rw p refl

passed : (st s : State) (n : ℕ) (l : Line) (ls : List Line) (fs : List Field) (k m : ℕ) → line_step st n l ≡ pass s fs → page_from s (n + 1) ls ≡ fault k m → page_from st n (l ∷ ls) ≡ fault k m
unfolding page_from
passed st s n l ls fs k m p e = rw (p, e) refl

ended : (st : State) (n k m : ℕ) → m ≡ n → at_end st m ≡ fault k m → page_from st n [] ≡ fault k m
unfolding page_from
ended st n k m q e = rw (← q) e

free_before : {st e : State} {n : ℕ} {before : List Line} (rest : List Line) (k m : ℕ) → Free st n before e
    → page_from e (n + length before) rest ≡ fault k m → page_from st n (before ++ rest) ≡ fault k m
free_before {n} rest k m first.Free.none h = let q : n + 0 ≡ n = omega arith in rw q at h
free_before rest k m (first.Free.one {st} {st'} {e} {n} {l} {ls} {fs} p f) h =
    let q : n + suc (length ls) ≡ n + 1 + length ls = omega arith in
    passed st st' n l (ls ++ rest) fs k m p (free_before rest k m f (rw q at h))

-- a field that is left empty is refused on its own line: behind lines that are skipped its block does not begin
empty_behind : (st : State) (n : ℕ) (between behind : List Line) → AllSkipped between → is_left_empty st false ≡ true → Apart st behind
    → page_from st n (between ++ behind) ≡ fault 9 st.line
unfolding page_from at_end line_step unless_empty
empty_behind st n [] [] s d a = rw d refl
empty_behind st n [] (l ∷ ls) s d a =
    ⊎_elim
    (λ (x : (skipped l.text ≡ true) × (l.ended ≡ false)). rw (x.0, x.1, d) refl)
    (λ (x : (skipped l.text ≡ false) × (at_block st.place l.text ≡ false)). rw (x.0, x.1, d) refl)
    a
empty_behind st n (l ∷ ls) behind (first.AllSkipped.one p q s) d a = rw (p, q, empty_behind st (n + 1) ls behind s d a) refl

-- ---- the first line at fault is answered

module _ (t : List ℕ) (k m : ℕ) where
  answers_own : Own before_first 1 (lines t) k m → page_of t ≡ fault k m
  unfolding page_of
  answers_own o = rw o.splits (free_before (o.line ∷ o.behind) k m o.free (rw (← o.number) (stopped o.state m o.line o.behind k m o.faulty)))

  answers_empty : Empty before_first 1 (lines t) k m → page_of t ≡ fault k m
  unfolding page_of
  answers_empty o =
      let e : page_from o.left (m + 1) (o.between ++ o.behind) ≡ fault k m =
      empty_behind o.left (m + 1) o.between o.behind o.skips o.due o.apart ∙ rw (o.nine, o.own) refl in
      rw o.splits (free_before (o.line ∷ (o.between ++ o.behind)) k m o.free (rw (← o.number) (passed o.state o.left m o.line (o.between ++ o.behind) o.told k m o.bare e)))

  answers_missing : Missing before_first 1 (lines t) k m → page_of t ≡ fault k m
  unfolding page_of
  answers_missing o = rw append-nil at (free_before [] k m o.free (ended o.state (1 + length (lines t)) k m o.number o.early))

  pub answers : Smallest t k m → page_of t ≡ fault k m
  answers (on_it o) = answers_own o
  answers (left_empty o) = answers_empty o
  answers (past_the_last o) = answers_missing o

-- ---- the numbers of a page

-- 4, 9 or 5
abbrev pub OfPage : ℕ → Type 0
OfPage k = (k ≡ 4) ⊎ ((k ≡ 9) ⊎ (k ≡ 5))

-- a stop has one of them
abbrev StopsSo : Step → Type 0
StopsSo (pass s fs) = Unit
StopsSo (stop k m) = OfPage k

so_cond : (t : Bool) (a b : Step) → StopsSo a → StopsSo b → StopsSo (cond t a b)
so_cond true a b p q = p
so_cond false a b p q = q

value_number : (v : Value) (s : List ℕ) (k : ℕ) → value_fault v s ≡ suc k → OfPage (suc k)
unfolding in_order
value_number v s k e = go (value_four v s) (value_nine v s) (value_five v s) (sym (value_order v s) ∙ e)
  where
    go : (four nine five : Bool) → cond four 4 (cond nine 9 (cond five 5 0)) ≡ suc k → OfPage (suc k)
    go true nine five q = inl (sym q)
    go false true five q = inr (inl (sym q))
    go false false true q = inr (inr (sym q))
    go false false false q = absurd (let z : ◌≡◌ {A = ℕ} 0 (suc k) = q in omega arith)

so_value : (f : Field) (b : Bool) (k : ℕ) → ((j : ℕ) → k ≡ suc j → OfPage (suc j)) → StopsSo (field_step f b k)
unfolding field_step
so_value f b zero h = tt
so_value f b (suc k) h = h k refl

so_line : (st : State) (n : ℕ) (l : Line) → StopsSo (line_step st n l)
unfolding line_step unless_empty place_step after_key
so_line st n l =
    so_cond (skipped l.text) _ _
    (so_cond l.ended _ _ tt (so_cond (is_left_empty st false) _ _ (inr (inl refl)) (inl refl)))
    (so_cond (is_left_empty st (at_block st.place l.text)) _ _ (inr (inl refl)) (so_cond l.ended _ _ (keyed (place_of (places_for st l.text) l.text)) (inl refl)))
  where
    keyed : (p : ℕ) → StopsSo (place_step n p l)
    keyed p =
        so_cond (eqb p 0) _ _ (inl refl)
        (so_cond (is_empty (drop (length (key_at p)) l.text)) _ _ (so_value _ true 0 (λ j q. absurd (let z : 0 ≡ suc j = q in omega arith)))
        (so_cond (one_space_and_value (drop (length (key_at p)) l.text)) _ _ (so_value _ false _ (λ j q. value_number (row_at p).value (drop 1 (drop (length (key_at p)) l.text)) j q)) (inl refl)))

so_stops : (st : State) (n : ℕ) (l : Line) (k m : ℕ) → line_step st n l ≡ stop k m → OfPage k
so_stops st n l k m e = rw e at (so_line st n l)

so_ends : (st : State) (n k m : ℕ) → at_end st n ≡ fault k m → OfPage k
unfolding at_end
so_ends st n k m e = go (is_left_empty st false) (row_at st.place).last e
  where
    go : (a b : Bool) → cond a (fault 9 st.line) (cond b (fields []) (fault 4 n)) ≡ fault k m → OfPage k
    go true b q = inr (inl cc)
    go false true q = absurd (let z : ◌≡◌ {A = ℕ} 0 1 = cc in omega arith)
    go false false q = inl cc

pub page_number : (t : List ℕ) (k m : ℕ) → Smallest t k m → OfPage k
page_number t k m (on_it o) = so_stops o.state m o.line k m o.faulty
page_number t k m (left_empty o) = inr (inl o.nine)
page_number t k m (past_the_last o) = so_ends o.state m k m o.early
