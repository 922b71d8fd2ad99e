-- The stacks that two patterns both match with a top frame that passes a test, and the best of them. [] says that there is none.
use Rattle.std.specs.Prelude.{ℕ, ◌+◌, ◌-◌, ◌<◌, max, ◌≡◌, Bool, true, false, ◌&&◌, ◌||◌, cond, List, [], ◌∷◌, Option, Some, None, eqb, ltb, length, get_or}
use Rattle.std.proofs.Props.{props}
use Rattle.paper.specs.Limits.{most_domains}
use Rattle.paper.specs.Policy.{Element, all, fn, any_in}
use Rattle.paper.specs.Match.{is_listed, lies_in, matches, is_all}
use Rattle.laws.specs.Frames.{meets_frame}
use Rattle.overlap_cells.specs.declared.firsts.Firsts.{Firsts}
use Rattle.overlap_cells.specs.declared.firsts.Firsts.TheVariants.{BothAll, OneAll, OtherAll, Same, Apart}

-- the top frame, which is the last, passes the test
unfoldable pub top_passes : (ℕ → Bool) → List ℕ → Bool
top_passes test [] = false
top_passes test (x ∷ []) = test x
top_passes test (x ∷ y ∷ stack) = top_passes test (y ∷ stack)

-- two patterns meet in the stack
pub record Meet (functions : List ℕ) (test : ℕ → Bool) (P Q : List Element) (stack : List ℕ) : Type 0 where
  pub one : matches functions P stack ≡ true
  pub other : matches functions Q stack ≡ true
  pub top : top_passes test stack ≡ true

-- two patterns of m and n elements never need a longer stack than this (document 02 h): "a frame neither names can go, except perhaps the top,
-- and a pattern without `all` fixes the length"
abbrev pub most_needed : ℕ → ℕ → ℕ
most_needed m n = max (max m n) (m + n - 2)

-- the better of two stacks by an order
unfoldable pub better : (List ℕ → List ℕ → Bool) → List ℕ → List ℕ → List ℕ
better order [] v = v
better order (x ∷ u) [] = x ∷ u
better order (x ∷ u) (y ∷ v) = cond (order (x ∷ u) (y ∷ v)) (x ∷ u) (y ∷ v)

-- f alone where it may be, else f before a stack
unfoldable pub in_front : Bool → ℕ → List ℕ → List ℕ
in_front true f rest = f ∷ []
in_front false f [] = []
in_front false f (x ∷ rest) = f ∷ x ∷ rest

-- ---- the base frame
-- the lowest function in the domain, or how many there are where none is in it
unfoldable pub lowest_in : List ℕ → ℕ → ℕ
lowest_in [] d = 0
lowest_in (x ∷ functions) d = cond (eqb x d) 0 (lowest_in functions d + 1)

-- the stack of the function f alone, where there is such a function
unfoldable pub alone : List ℕ → ℕ → List ℕ
alone functions f = cond (is_listed functions f) (f ∷ []) []

-- the lowest frame that an element other than `all` meets, as a stack of one frame; [] where it meets none
unfoldable pub lowest_frame : List ℕ → Element → List ℕ
lowest_frame functions all = []
lowest_frame functions (fn f) = f ∷ []
lowest_frame functions (any_in d) = alone functions (lowest_in functions d)

-- the lowest frame that two elements, one of them not `all`, both meet: two domains share functions only where they are one
unfoldable pub common_frame : List ℕ → Element → Element → List ℕ
common_frame functions all b = lowest_frame functions b
common_frame functions (fn f) b = cond (meets_frame functions b f) (f ∷ []) []
common_frame functions (any_in d) all = lowest_frame functions (any_in d)
common_frame functions (any_in d) (fn g) = cond (lies_in functions d g) (g ∷ []) []
common_frame functions (any_in d) (any_in e) = cond (eqb d e) (lowest_frame functions (any_in d)) []

-- the frame that the code tells, as such a stack
unfoldable pub frame_of : Option ℕ → List ℕ
frame_of (Some f) = f ∷ []
frame_of None = []

-- each function lies in one of the domains that a table may have
unfoldable pub InDomains : List ℕ → Type 0
InDomains functions = (f : ℕ) → f < length functions → get_or functions f 0 < most_domains

-- lows has the lowest function of each domain; past its end are domains without functions
unfoldable pub Lows : List ℕ → List (Option ℕ) → Type 0
Lows functions lows = (d : ℕ) → frame_of (get_or lows d None) ≡ alone functions (lowest_in functions d)

pub Lows-prop : (functions : List ℕ) (lows : List (Option ℕ)) → IsProp (Lows functions lows)
unfolding Lows
Lows-prop functions lows = hlevel props

-- two first elements, by which are `all` and by the base frame that both meet.
-- last: what comes after them matches the empty stack, so that a function that passes the test may be alone
unfoldable pub firsts_at : (ℕ → Bool) → Bool → Bool → List ℕ → Bool → Firsts
firsts_at test true true base last = BothAll last
firsts_at test true false [] last = Apart
firsts_at test true false (x ∷ base) last = OneAll x (test x && last)
firsts_at test false true [] last = Apart
firsts_at test false true (x ∷ base) last = OtherAll x (test x && last)
firsts_at test false false [] last = Apart
firsts_at test false false (x ∷ base) last = Same x (test x && last)

-- two first elements, of functions with these domains
unfoldable pub firsts_of : List ℕ → (ℕ → Bool) → Element → Element → Bool → Firsts
firsts_of functions test a b last = firsts_at test (is_all a) (is_all b) (common_frame functions a b) last

-- the best stack of two patterns with these first elements, of the best stacks where both first elements are left out (both), that of one pattern (one), that of the other (other).
-- low: the best stack of one frame that passes the test
unfoldable pub best_with : (List ℕ → List ℕ → Bool) → List ℕ → Firsts → List ℕ → List ℕ → List ℕ → List ℕ
best_with order low (BothAll alone) both one other = better order (better order one other) (cond alone low [])
best_with order low (OneAll g alone) both one other = better order one (in_front alone g other)
best_with order low (OtherAll f alone) both one other = better order other (in_front alone f one)
best_with order low (Same f alone) both one other = in_front alone f both
best_with order low Apart both one other = []

-- the best stack of `a ∷ P` and Q. below: that of P and a pattern; ends: P matches the empty stack
unfoldable pub row : List ℕ → (List ℕ → List ℕ → Bool) → (ℕ → Bool) → List ℕ → Element → Bool → (List Element → List ℕ) → List Element → List ℕ
row functions order test low a ends below [] = []
row functions order test low a ends below (b ∷ Q) =
    best_with order low (firsts_of functions test a b (ends && matches functions Q [])) (below Q) (below (b ∷ Q)) (row functions order test low a ends below Q)

-- the best stack of two patterns by an order
unfoldable pub best_by : List ℕ → (List ℕ → List ℕ → Bool) → (ℕ → Bool) → List ℕ → List Element → List Element → List ℕ
best_by functions order test low [] Q = []
best_by functions order test low (a ∷ P) Q = row functions order test low a (matches functions P []) (best_by functions order test low P) Q

-- ---- the order of the report (`NotAfter`), as a test: fewer frames first, then the lowest from the base up
unfoldable pub lower_or_same : List ℕ → List ℕ → Bool
lower_or_same [] v = true
lower_or_same (x ∷ u) [] = false
lower_or_same (x ∷ u) (y ∷ v) = ltb x y || (eqb x y && lower_or_same u v)

unfoldable pub comes_first : List ℕ → List ℕ → Bool
comes_first u v = lower_or_same (length u ∷ u) (length v ∷ v)

-- the shortest stack that both patterns match with its top in domain d, the lowest of these from the base up
unfoldable pub best_stack : List ℕ → ℕ → List Element → List Element → List ℕ
best_stack functions d P Q = best_by functions comes_first (lies_in functions d) (alone functions (lowest_in functions d)) P Q
