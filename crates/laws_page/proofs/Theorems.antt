-- What a page answers is the smallest line at fault.
use mathlib.Core.Path.{◌≡◌, refl, sym, ap, ◌∙◌}
use mathlib.Core.List.{List, [], ◌∷◌}
use mathlib.Core.Bool.{Bool, true, false, cond}
use mathlib.Core.Logic.{⊎_elim}
use Prim.Native.Nat.{ℕ, ◌+◌}
use native.Mathlib.Omega.{arith}
use Rattle.paper.specs.Text.{Line, lines, skipped}
use Rattle.paper.specs.Listing.{row_at}
use Rattle.paper.specs.Page.{fields, fault, State, Step, pass, stop, Field, before_first, is_left_empty, line_step, at_end, after, page_from, page_of}
use Rattle.laws_page.specs.First.{Free, none, one, AllSkipped, Own, Empty, Missing, Breaks, Above, First, own, empty, missing, above, Smallest, on_it, left_empty, past_the_last}
use Rattle.laws_page.specs.First as first
use Rattle.laws_page.proofs.Steps.{Does, does, refused_behind}

-- ---- one line more in front

module _ (st s : State) (n : ℕ) (l : Line) (ls : List Line) (fs : List Field) (p : line_step st n l ≡ pass s fs) (k m : ℕ) where
  own_more : Own s (n + 1) ls k m → Own st n (l ∷ ls) k m
  own_more o = record {
    before = l ∷ o.before;
    line = o.line;
    behind = o.behind;
    state = o.state;
    splits = ap (λ (x : List Line). l ∷ x) o.splits;
    number = omega (arith, o.number);
    free = first.Free.one p o.free;
    faulty = o.faulty;
  }

  empty_more : Empty s (n + 1) ls k m → Empty st n (l ∷ ls) k m
  empty_more o = record {
    before = l ∷ o.before;
    line = o.line;
    between = o.between;
    behind = o.behind;
    state = o.state;
    left = o.left;
    told = o.told;
    splits = ap (λ (x : List Line). l ∷ x) o.splits;
    number = omega (arith, o.number);
    free = first.Free.one p o.free;
    bare = o.bare;
    own = o.own;
    nine = o.nine;
    due = o.due;
    skips = o.skips;
    apart = o.apart;
  }

  missing_more : Missing s (n + 1) ls k m → Missing st n (l ∷ ls) k m
  missing_more o = record {
    state = o.state;
    number = omega (arith, o.number);
    free = first.Free.one p o.free;
    early = o.early;
  }

  -- a field that is left empty behind this line stands on it
  above_field : s.line ≡ n → Above s ls k m → Empty st n (l ∷ ls) k m
  above_field e o = record {
    before = [];
    line = l;
    between = o.between;
    behind = o.behind;
    state = st;
    left = s;
    told = fs;
    splits = ap (λ (x : List Line). l ∷ x) o.splits;
    number = omega (arith, o.number);
    free = first.Free.none;
    bare = let q : n ≡ m = omega (arith, o.number) in rw q at p;
    own = sym o.number;
    nine = o.nine;
    due = o.due;
    skips = o.skips;
    apart = o.apart;
  }

above_skip : (st : State) (l : Line) (ls : List Line) (k m : ℕ) → skipped l.text ≡ true → l.ended ≡ true → Above st ls k m → Above st (l ∷ ls) k m
above_skip st l ls k m a b o = record {
  between = l ∷ o.between;
  behind = o.behind;
  splits = ap (λ (x : List Line). l ∷ x) o.splits;
  number = o.number;
  nine = o.nine;
  due = o.due;
  skips = first.AllSkipped.one a b o.skips;
  apart = o.apart;
}

-- ---- the end

at_end_lem : (st : State) (n k m : ℕ) → at_end st n ≡ fault k m → First st n [] k m
unfolding at_end
at_end_lem st n k m e = go (is_left_empty st false) refl (row_at st.place).last refl e
  where
    go : (a : Bool) → is_left_empty st false ≡ a → (b : Bool) → (row_at st.place).last ≡ b → cond a (fault 9 st.line) (cond b (fields []) (fault 4 n)) ≡ fault k m → First st n [] k m
    go true p b q f =
        let u : 9 ≡ k = cc in
        let v : st.line ≡ m = cc in
        above (record { between = []; behind = []; splits = refl; number = sym v; nine = sym u; due = p; skips = first.AllSkipped.none; apart = tt })
    go false p true q f = absurd (let z : ◌≡◌ {A = ℕ} 0 1 = cc in omega arith)
    go false p false q f =
        let u : 4 ≡ k = cc in
        let v : n ≡ m = cc in
        missing (record { state = st; number = omega arith; free = first.Free.none; early = rw (p, q, ← v) (ap (λ (x : ℕ). fault x n) u) })

-- ---- any lines

first_line : (st : State) (n : ℕ) (ls : List Line) (k m : ℕ) → page_from st n ls ≡ fault k m → First st n ls k m
unfolding page_from
first_line st n [] k m e = at_end_lem st n k m e
first_line st n (l ∷ ls) k m e = go (line_step st n l) refl (does st n l) e (λ s f. first_line s (n + 1) ls k m f)
  where
    skips : (s : State) (fs : List Field) → line_step st n l ≡ pass s fs → s ≡ st → skipped l.text ≡ true → l.ended ≡ true → First s (n + 1) ls k m → First st n (l ∷ ls) k m
    skips s fs p q a b (own o) = own (own_more st s n l ls fs p k m o)
    skips s fs p q a b (empty o) = empty (empty_more st s n l ls fs p k m o)
    skips s fs p q a b (missing o) = missing (missing_more st s n l ls fs p k m o)
    skips s fs p q a b (above o) = above (above_skip st l ls k m a b (rw q at o))

    field : (s : State) (fs : List Field) → line_step st n l ≡ pass s fs → s.line ≡ n → First s (n + 1) ls k m → First st n (l ∷ ls) k m
    field s fs p q (own o) = own (own_more st s n l ls fs p k m o)
    field s fs p q (empty o) = empty (empty_more st s n l ls fs p k m o)
    field s fs p q (missing o) = missing (missing_more st s n l ls fs p k m o)
    field s fs p q (above o) = empty (above_field st s n l ls fs p k m q o)

    go : (s : Step) → line_step st n l ≡ s → Does st n l s → after s (λ st'. page_from st' (n + 1) ls) ≡ fault k m
        → ((x : State) → page_from x (n + 1) ls ≡ fault k m → First x (n + 1) ls k m)
        → First st n (l ∷ ls) k m
    go (pass s fs) p d f ih =
        ⊎_elim
        (λ (x : (s ≡ st) × (skipped l.text ≡ true) × (l.ended ≡ true)). skips s fs p x.0 x.1 x.2 (ih s (refused_behind fs (page_from s (n + 1) ls) k m f)))
        (λ (x : s.line ≡ n). field s fs p x (ih s (refused_behind fs (page_from s (n + 1) ls) k m f)))
        d
    go (stop k' m') p d f ih =
        let u : k' ≡ k = cc in
        let v : m' ≡ m = cc in
        ⊎_elim
        (λ (x : m' ≡ n).
        let w : n ≡ m = omega arith in
        own (record { before = []; line = l; behind = ls; state = st; splits = refl; number = omega arith; free = first.Free.none; faulty = rw (w, u, v) at p }))
        (λ (x : (m' ≡ st.line) × (is_left_empty st false ≡ true) × (k' ≡ 9) × Breaks st l).
        above (record { between = []; behind = l ∷ ls; splits = refl; number = sym v ∙ x.0; nine = sym u ∙ x.2; due = x.1; skips = first.AllSkipped.none; apart = x.3 }))
        d.lies

-- ---- a text

nothing_above : is_left_empty before_first false ≡ true → ⊥
unfolding is_left_empty before_first
nothing_above h = let z : ◌≡◌ {A = ℕ} 0 1 = cc in omega arith

-- the number and line that a page gives are those of the first line at fault: every line before it passes
pub smallest : (t : List ℕ) (k m : ℕ) → page_of t ≡ fault k m → Smallest t k m
unfolding page_of
smallest t k m e = go (first_line before_first 1 (lines t) k m e)
  where
    go : First before_first 1 (lines t) k m → Smallest t k m
    go (own o) = on_it o
    go (empty o) = left_empty o
    go (missing o) = past_the_last o
    go (above o) = absurd (nothing_above o.due)
