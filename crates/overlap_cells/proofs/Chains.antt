-- Stacks that are chains of cells, K the chain of each cell.
use Prim.Native.Nat.{ℕ, zero, suc, ◌+◌, ◌-◌, ◌<◌, ◌≤◌}
use native.Mathlib.Omega.{arith}
use native.Mathlib.Numerals.{add-one, sub-one}
use mathlib.Core.Path.{◌≡◌, refl, sym, ap, subst, ◌∙◌}
use mathlib.Core.Bool.{Bool, true, false, cond, ◌||◌}
use mathlib.Core.List.{List, [], ◌∷◌}
use lib.ListN.{length, replicate}
use lib.Dec.{eqb, ltb}
use borrow.Author.Tests.{eq-eqb, ne_eqb, le-ltb}
use Rattle.std.specs.Prelude.{Some, None}
use Rattle.paper.specs.Limits.{witness_words}
use Rattle.overlap_cells.specs.declared.chain.Chain.{Chain}
use Rattle.overlap_cells.specs.Best.{frame_of, better, in_front, lower_or_same, comes_first}
use Rattle.overlap_cells.specs.Places.{cells, last_cell}
use Rattle.overlap_cells.specs.Cells.{cell_at, stack_at, stack_of, chain_stack, cell_stack}

pub stack_length : (K : List Chain) (c n : ℕ) → length (stack_at K c n) ≡ n
unfolding stack_at
stack_length K c zero = refl
stack_length K c (suc n) = ap suc (stack_length K (cell_at K c).rest n)

pub stack_more : (K : List Chain) (c n : ℕ) → (n ≡ 0 → ⊥) → stack_at K c n ≡ (cell_at K c).base ∷ stack_at K (cell_at K c).rest (n - 1)
unfolding stack_at
stack_more K c zero h = absurd (h refl)
stack_more K c (suc n) h = rw (sub-one (suc n))

pub cell_read : (K : List Chain) (c n : ℕ) → stack_of K n (cell_at K c).base (cell_at K c).rest ≡ stack_at K c n
unfolding stack_at stack_of
cell_read K c zero = refl
cell_read K c (suc n) = refl

pub chain_length : (K : List Chain) (n f c : ℕ) → length (stack_of K n f c) ≡ n
unfolding stack_of
chain_length K zero f c = refl
chain_length K (suc n) f c = ap suc (stack_length K c n)

pub chain_more : (K : List Chain) (n f c : ℕ) → (n ≡ 0 → ⊥) → stack_of K n f c ≡ f ∷ stack_at K c (n - 1)
unfolding stack_of
chain_more K zero f c h = absurd (h refl)
chain_more K (suc n) f c h = rw (sub-one (suc n))

pub no_frames : (K : List Chain) (f c : ℕ) → stack_of K 0 f c ≡ []
unfolding stack_of
no_frames K f c = refl

-- ---- cells before they are filled
none_frames : (n c : ℕ) (x : Chain) → x.frames ≡ 0 → (cell_at (replicate n x) c).frames ≡ 0
none_frames zero c x e = refl
none_frames (suc n) zero x e = e
none_frames (suc n) (suc c) x e = none_frames n c x e

pub none_short : (n c : ℕ) (x : Chain) → x.frames ≡ 0 → (cell_at (replicate n x) c).frames ≤ witness_words
none_short n c x e = let r = none_frames n c x e in omega arith

pub none_there : (n c : ℕ) (x : Chain) → x.frames ≡ 0 → cell_stack (replicate n x) c ≡ []
unfolding stack_at
none_there n c x e = rw (none_frames n c x e)

none_rest : (n c : ℕ) (x : Chain) → x.rest ≡ last_cell → (cell_at (replicate n x) c).rest ≡ last_cell
none_rest zero c x e = refl
none_rest (suc n) zero x e = e
none_rest (suc n) (suc c) x e = none_rest n c x e

pub none_onward : (n c : ℕ) (x : Chain) → x.rest ≡ last_cell → c < cells → c ≤ (cell_at (replicate n x) c).rest
none_onward n c x e h = let r = none_rest n c x e in omega arith

-- ---- two stacks frame by frame
as_the_rest : (x y : ℕ) (u v : List ℕ) → x ≡ y → lower_or_same (x ∷ u) (y ∷ v) ≡ lower_or_same u v
unfolding lower_or_same
as_the_rest x y u v e = rw (le-ltb x y (omega arith), eq-eqb x y e)

first_decides : (x y : ℕ) (u v : List ℕ) → (x ≡ y → ⊥) → lower_or_same (x ∷ u) (y ∷ v) ≡ ltb x y
unfolding lower_or_same
first_decides x y u v n = rw (ne_eqb x y n) (or_none (ltb x y))
  where
    or_none : (t : Bool) → (t || false) ≡ t
    or_none true = refl
    or_none false = refl

-- the n frames from f and from g on decide what those before did
module _ (K : List Chain) (f c g e n i : ℕ) (t : Bool) (so_far : t ≡ lower_or_same (stack_of K (n - i) f c) (stack_of K (n - i) g e)) where
  pub frames_end : n ≤ i → true ≡ t
  unfolding lower_or_same stack_of
  frames_end h = let z : n - i ≡ 0 = omega arith in sym (rw z at so_far)

  module _ (h : i < n) where
    opened : t ≡ lower_or_same (f ∷ stack_at K c (n - i - 1)) (g ∷ stack_at K e (n - i - 1))
    opened = rw (← (chain_more K (n - i) f c (λ z. omega arith)), ← (chain_more K (n - i) g e (λ z. omega arith))) so_far

    pub frame_decides : (f ≡ g → ⊥) → ltb f g ≡ t
    frame_decides d = sym (opened ∙ first_decides f g _ _ d)

    pub frame_same : (x y : Chain) → f ≡ g → x ≡ cell_at K c → y ≡ cell_at K e →
        t ≡ lower_or_same (stack_of K (n - (i + 1)) x.base x.rest) (stack_of K (n - (i + 1)) y.base y.rest)
    frame_same x y d p q =
        let s : n - i - 1 ≡ n - (i + 1) = omega arith in
        rw (p, q, cell_read K c (n - (i + 1)), cell_read K e (n - (i + 1)), ← s) (opened ∙ as_the_rest f g _ _ d)

pub all_frames : (K : List Chain) (m n f c g e : ℕ) → m ≡ n →
    lower_or_same (stack_of K m f c) (stack_of K n g e) ≡ lower_or_same (stack_of K (m - 0) f c) (stack_of K (m - 0) g e)
all_frames K m n f c g e h = let s : m - 0 ≡ m = omega arith in rw (s, h)

-- ---- two chains: of m frames, h at the base and c the rest; of n frames, g and e
module _ (K : List Chain) (m h c n g e : ℕ) where
  abbrev one : List ℕ
  one = stack_of K m h c

  abbrev other : List ℕ
  other = stack_of K n g e

  by_count : comes_first one other ≡ lower_or_same (m ∷ one) (n ∷ other)
  unfolding comes_first
  by_count = rw (chain_length K m h c, chain_length K n g e)

  pub fewer : m < n → ltb m n ≡ comes_first one other
  fewer l = sym (by_count ∙ first_decides m n one other (λ e. omega arith))

  pub more : n ≤ m → (m ≡ n → ⊥) → eqb m n ≡ comes_first one other
  more l d = sym (by_count ∙ (first_decides m n one other d ∙ (le-ltb m n l ∙ sym (ne_eqb m n d))))

  pub as_many : (t : Bool) → m ≡ n → t ≡ lower_or_same one other → t ≡ comes_first one other
  as_many t d told = told ∙ sym (by_count ∙ as_the_rest m n one other d)

-- ---- the better of two stacks
pub better_none : (u : List ℕ) → better comes_first u [] ≡ u
unfolding better
better_none [] = refl
better_none (x ∷ u) = refl

better_some : (u v : List ℕ) → (length u ≡ 0 → ⊥) → (length v ≡ 0 → ⊥) → better comes_first u v ≡ cond (comes_first u v) u v
unfolding better
better_some [] v p q = absurd (p refl)
better_some (x ∷ u) [] p q = absurd (q refl)
better_some (x ∷ u) (y ∷ v) p q = refl

module _ (K : List Chain) (m h c n g e : ℕ) where
  pub better_second : m ≡ 0 → stack_of K n g e ≡ better comes_first (stack_of K m h c) (stack_of K n g e)
  unfolding better stack_of
  better_second p = rw p

  pub better_first : n ≡ 0 → stack_of K m h c ≡ better comes_first (stack_of K m h c) (stack_of K n g e)
  better_first p = subst (λ (k : ℕ). stack_of K m h c ≡ better comes_first (stack_of K m h c) (stack_of K k g e)) (sym p) (sym (unfold stack_of in better_none (stack_of K m h c)))

  module _ (p : m ≡ 0 → ⊥) (q : n ≡ 0 → ⊥) (t : Bool) (told : t ≡ comes_first (stack_of K m h c) (stack_of K n g e)) where
    picked : better comes_first (stack_of K m h c) (stack_of K n g e) ≡ cond t (stack_of K m h c) (stack_of K n g e)
    picked = rw told (better_some (stack_of K m h c) (stack_of K n g e) (λ z. p (sym (chain_length K m h c) ∙ z)) (λ z. q (sym (chain_length K n g e) ∙ z)))

    pub better_comes_first : t ≡ true → stack_of K m h c ≡ better comes_first (stack_of K m h c) (stack_of K n g e)
    better_comes_first s = sym (rw s at picked)

    pub better_comes_after : t ≡ false → stack_of K n g e ≡ better comes_first (stack_of K m h c) (stack_of K n g e)
    better_comes_after s = sym (rw s at picked)

-- ---- a function in front
module _ (K : List Chain) (t : Bool) (a c n : ℕ) where
  pub front_alone : (x : Chain) → t ≡ true → x.frames ≡ 1 → x.base ≡ a → chain_stack K x ≡ in_front t a (stack_at K c n)
  unfolding stack_of stack_at in_front
  front_alone x e f g = rw (e, f, g)

  pub front_none : (f d : ℕ) → t ≡ false → n ≡ 0 → stack_of K 0 f d ≡ in_front t a (stack_at K c n)
  unfolding stack_at stack_of in_front
  front_none f d e k = rw (e, k)

  pub front_more : t ≡ false → (n ≡ 0 → ⊥) → stack_of K (n + 1) a c ≡ in_front t a (stack_at K c n)
  unfolding stack_of in_front
  front_more e k = rw (e, add-one n, stack_more K c n k)

-- ---- a frame alone
module _ (K : List Chain) (u : List ℕ) where
  pub lone_frame : (f : ℕ) (x : Chain) → frame_of (Some f) ≡ u → x.frames ≡ 1 → x.base ≡ f → chain_stack K x ≡ u
  unfolding frame_of stack_of stack_at
  lone_frame f x told e g = rw (e, g) told

  pub no_lone_frame : (f c : ℕ) → frame_of None ≡ u → stack_of K 0 f c ≡ u
  unfolding frame_of stack_of
  no_lone_frame f c told = told
