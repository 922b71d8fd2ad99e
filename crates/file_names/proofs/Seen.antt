-- Of the names seen before only which they are matters, not their order: by induction on the names, then on the fields, over any naming of fields.
use mathlib.Core.Path.{◌≡◌, refl, sym, ap, ◌∙◌}
use mathlib.Core.Bool.{Bool, true, false, cond, ◌||◌}
use mathlib.Core.Logic.{◌⊎◌, ⊎_elim}
use mathlib.Core.List.{List, [], ◌∷◌, ◌++◌, flat_map, append-nil}
use Prim.Native.Nat.{ℕ}
use native.Mathlib.Omega.{arith}
use borrow.Author.Tests.{leb-true}
use Rattle.paper.specs.Common.{same, all_of, any_of, among}
use Rattle.paper.specs.Page.{Field}
use Rattle.paper.specs.Rules.{repeats, repeated}
use Rattle.laws.proofs.Tests.{both_left, both_right, either_of, either_right, neither, neither_left, neither_right}
use Rattle.laws_page.specs.Right.{is_numbered}
use Rattle.file_index.proofs.Numbers.{among_more}

-- two lists hold the same names
abbrev pub Alike : List (List ℕ) → List (List ℕ) → Type 0
Alike a b = (x : List ℕ) → among x a ≡ among x b

-- the first list holds no name that the second does not
abbrev pub Within : List (List ℕ) → List (List ℕ) → Type 0
Within a b = (x : List ℕ) → among x a ≡ true → among x b ≡ true

-- ---- which of two comes first is all one

or_swap : (a b : Bool) → (a || b) ≡ (b || a)
or_swap true true = refl
or_swap true false = refl
or_swap false true = refl
or_swap false false = refl

or_exchange : (a b c : Bool) → (a || (b || c)) ≡ (b || (a || c))
or_exchange true true c = refl
or_exchange true false c = refl
or_exchange false b c = refl

or_regroup : (a b c : Bool) → (a || (b || c)) ≡ ((a || b) || c)
or_regroup true b c = refl
or_regroup false b c = refl

module _ (a b : List (List ℕ)) where
  pub alike_swap : Alike (a ++ b) (b ++ a)
  alike_swap x = among_more x a b ∙ or_swap (among x a) (among x b) ∙ sym (among_more x b a)

  -- a name in the midst or in front
  alike_front : (y : List ℕ) → Alike (a ++ (y ∷ b)) ((y ∷ a) ++ b)
  unfolding among any_of
  alike_front y x = among_more x a (y ∷ b) ∙ or_exchange (among x a) (same x y) (among x b) ∙ ap (λ (t : Bool). same x y || t) (sym (among_more x a b))

  module _ (h : Alike a b) where
    alike_one : (y : List ℕ) → Alike (y ∷ a) (y ∷ b)
    unfolding among any_of
    alike_one y x = ap (λ (t : Bool). same x y || t) (h x)

    alike_more : (more : List (List ℕ)) → Alike (more ++ a) (more ++ b)
    alike_more more x = among_more x more a ∙ ap (λ (t : Bool). among x more || t) (h x) ∙ sym (among_more x more b)

-- ---- names that stand twice

pub repeats_alike : (xs a b : List (List ℕ)) → Alike a b → repeats a xs ≡ repeats b xs
unfolding repeats
repeats_alike [] a b h = refl
repeats_alike (x ∷ xs) a b h =
    ap (λ (t : Bool). t || repeats (x ∷ a) xs) (h x) ∙ ap (λ (t : Bool). among x b || t) (repeats_alike xs (x ∷ a) (x ∷ b) (alike_one a b h x))

pub repeats_append : (seen xs ys : List (List ℕ)) → repeats seen (xs ++ ys) ≡ (repeats seen xs || repeats (seen ++ xs) ys)
unfolding repeats
repeats_append seen [] ys = ap (λ (l : List (List ℕ)). repeats l ys) (sym (append-nil seen))
repeats_append seen (x ∷ xs) ys =
    ap (λ (t : Bool). among x seen || t)
    (repeats_append (x ∷ seen) xs ys
    ∙ ap (λ (t : Bool). repeats (x ∷ seen) xs || t)
    (repeats_alike ys ((x ∷ seen) ++ xs) (seen ++ (x ∷ xs)) (λ y. sym (alike_front seen xs x y))))
    ∙ or_regroup (among x seen) (repeats (x ∷ seen) xs) (repeats (seen ++ (x ∷ xs)) ys)

-- ---- one name more

module _ (seen : List (List ℕ)) (x : List ℕ) (xs : List (List ℕ)) where
  pub twice_known : among x seen ≡ true → repeats seen (x ∷ xs) ≡ true
  unfolding repeats
  twice_known h = rw h refl

pub one_new : (seen : List (List ℕ)) (x : List ℕ) → among x seen ≡ false → repeats seen (x ∷ []) ≡ false
unfolding repeats
one_new seen x h = rw h refl

empty_front : {A : Type 0} (xs ys : List A) → xs ++ ys ≡ [] → xs ≡ []
empty_front [] ys h = refl
empty_front (x ∷ xs) ys h = cc

-- fields that name nothing name nothing again
pub nothing_repeated : (names : Field → List (List ℕ)) (fs : List Field) (seen : List (List ℕ)) → flat_map names fs ≡ [] → repeated names seen fs ≡ 0
unfolding repeated repeats flat_map
nothing_repeated names [] seen h = refl
nothing_repeated names (f ∷ fs) seen h =
    let e : names f ≡ [] = empty_front (names f) (flat_map names fs) h in
    rw e (nothing_repeated names fs seen (rw e at h))

pub none_repeated : (seen : List (List ℕ)) → repeats seen [] ≡ false
unfolding repeats
none_repeated seen = refl

-- ---- names of fields

module _ (names : Field → List (List ℕ)) where
  pub repeated_alike : (fs : List Field) (a b : List (List ℕ)) → Alike a b → repeated names a fs ≡ repeated names b fs
  unfolding repeated
  repeated_alike [] a b h = refl
  repeated_alike (f ∷ fs) a b h =
      ap (λ (t : Bool). cond t f.line (repeated names (names f ++ a) fs)) (repeats_alike (names f) a b h)
      ∙ ap (λ (k : ℕ). cond (repeats b (names f)) f.line k) (repeated_alike fs (names f ++ a) (names f ++ b) (alike_more a b h (names f)))

  -- one field, then the others
  module _ (f : Field) (fs : List Field) (seen : List (List ℕ)) where
    pub repeated_here : repeats seen (names f) ≡ true → repeated names seen (f ∷ fs) ≡ f.line
    unfolding repeated
    repeated_here h = rw h refl

    pub repeated_on : repeats seen (names f) ≡ false → repeated names seen (f ∷ fs) ≡ repeated names (seen ++ names f) fs
    unfolding repeated
    repeated_on h = rw h (repeated_alike fs (names f ++ seen) (seen ++ names f) (alike_swap (names f) seen))

  -- where no field names again what was named, no name of them all stands twice
  line_none : (f : Field) (fs : List Field) (seen : List (List ℕ)) → is_numbered f ≡ true → repeated names seen (f ∷ fs) ≡ 0
      → (repeats seen (names f) ≡ false) × (repeated names (seen ++ names f) fs ≡ 0)
  unfolding is_numbered
  line_none f fs seen l h = go (repeats seen (names f)) refl
    where
      go : (t : Bool) → repeats seen (names f) ≡ t → (repeats seen (names f) ≡ false) × (repeated names (seen ++ names f) fs ≡ 0)
      go true e = let z : f.line ≡ 0 = sym (repeated_here f fs seen e) ∙ h in absurd (omega (arith, leb-true 1 f.line l))
      go false e = (e, sym (repeated_on f fs seen e) ∙ h)

  pub repeated_none : (fs : List Field) (seen : List (List ℕ)) → all_of is_numbered fs ≡ true → repeated names seen fs ≡ 0 → repeats seen (flat_map names fs) ≡ false
  unfolding all_of flat_map
  repeated_none [] seen l h = none_repeated seen
  repeated_none (f ∷ fs) seen l h =
      let q = line_none f fs seen (both_left (is_numbered f) _ l) h in
      repeats_append seen (names f) (flat_map names fs) ∙ neither _ _ q.0 (repeated_none fs (seen ++ names f) (both_right (is_numbered f) _ l) q.1)

-- ---- fewer names

repeats_within : (xs a b : List (List ℕ)) → Within a b → repeats b xs ≡ false → repeats a xs ≡ false
unfolding repeats among any_of
repeats_within [] a b h e = refl
repeats_within (x ∷ xs) a b h e =
    neither (among x a) (repeats (x ∷ a) xs) (go (among x a) refl) (repeats_within xs (x ∷ a) (x ∷ b) more (neither_right (among x b) (repeats (x ∷ b) xs) e))
  where
    go : (t : Bool) → among x a ≡ t → t ≡ false
    go true k = sym (h x k) ∙ neither_left (among x b) (repeats (x ∷ b) xs) e
    go false k = refl

    more : Within (x ∷ a) (x ∷ b)
    more y k = ⊎_elim (λ p. rw p refl) (λ p. either_right (same y x) (among y b) (h y p)) (either_of (same y x) (among y a) k)

within_more : (a b c d : List (List ℕ)) → Within a b → Within c d → Within (a ++ c) (b ++ d)
within_more a b c d h k x e =
    among_more x b d
    ∙ ⊎_elim
    (λ (p : among x a ≡ true). rw (h x p) refl)
    (λ (p : among x c ≡ true). either_right (among x b) (among x d) (k x p))
    (either_of (among x a) (among x c) (sym (among_more x a c) ∙ e))

-- a field names the same by both, or nothing by the first
abbrev pub PartOf : (Field → List (List ℕ)) → (Field → List (List ℕ)) → Type 0
PartOf some all = (f : Field) → (some f ≡ all f) ⊎ (some f ≡ [])

none_within : (b : List (List ℕ)) → Within [] b
unfolding among any_of
none_within b x h = absurd (let z : ◌≡◌ {A = ℕ} 0 1 = cc in omega arith)

module _ (some all : Field → List (List ℕ)) (part : PartOf some all) where
  names_within : (f : Field) → Within (some f) (all f)
  names_within f = ⊎_elim
      (λ (e : some f ≡ all f). λ x h. rw e at h)
      (λ (e : some f ≡ []). λ x h. none_within (all f) x (rw e at h))
      (part f)

  names_once : (f : Field) (a b : List (List ℕ)) → Within a b → repeats b (all f) ≡ false → repeats a (some f) ≡ false
  names_once f a b h k = ⊎_elim
      (λ (e : some f ≡ all f). rw e (repeats_within (all f) a b h k))
      (λ (e : some f ≡ []). rw e (none_repeated a))
      (part f)

  -- where no name of all stands twice, none of some does
  pub fewer_names : (fs : List Field) (a b : List (List ℕ)) → Within a b → all_of is_numbered fs ≡ true → repeated all b fs ≡ 0 → repeated some a fs ≡ 0
  unfolding all_of repeated
  fewer_names [] a b h l k = refl
  fewer_names (f ∷ fs) a b h l k =
      let q = line_none all f fs b (both_left (is_numbered f) _ l) k in
      repeated_on some f fs a (names_once f a b h q.0)
      ∙ fewer_names fs (a ++ some f) (b ++ all f) (within_more a b (some f) (all f) h (names_within f)) (both_right (is_numbered f) _ l) q.1
