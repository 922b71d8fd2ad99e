-- What stands in a list, as the paper tests it and as a split: names that are known, lacked or repeated, whatever names they are.
use mathlib.Core.Path.{◌≡◌, refl, sym, ap, ◌∙◌}
use mathlib.Core.List.{List, [], ◌∷◌, ◌++◌, append_assoc}
use mathlib.Core.Bool.{Bool, true, false, ◌&&◌}
use mathlib.Core.Logic.{◌⊎◌, inl, inr, ⊎_elim}
use Prim.Native.Nat.{ℕ}
use native.Mathlib.Omega.{arith}
use Rattle.paper.specs.Common.{all_of, any_of, same, among}
use Rattle.paper.specs.Rules.{repeats, all_known}
use Rattle.laws.proofs.Tests.{either_of, either_left, either_right, same_refl, same_equal}
use Rattle.laws_file.specs.Rules.{Has, Twice, Lacking}
use Rattle.laws_file.proofs.Smallest.{split_none, split_more}

-- a test is true or false
pub not_both : {b : Bool} → b ≡ true → b ≡ false → ⊥
not_both p q = let e : true ≡ false = sym p ∙ q in let z : ◌≡◌ {A = ℕ} 0 1 = cc in omega arith

-- ---- what stands in a list

module _ {A : Type 0} where
  pub has_none : {x : A} → Has [] x → ⊥
  has_none {x} h = split_none h.front h.behind x h.splits

  pub has_first : (x : A) (xs : List A) → Has (x ∷ xs) x
  has_first x xs = record { front = []; behind = xs; splits = refl }

  pub has_behind : {x : A} (y : A) {ys : List A} → Has ys x → Has (y ∷ ys) x
  has_behind y h = record { front = y ∷ h.front; behind = h.behind; splits = ap (λ (l : List A). y ∷ l) h.splits }

  pub has_one_of : {x : A} (y : A) (ys : List A) → Has (y ∷ ys) x → (y ≡ x) ⊎ Has ys x
  has_one_of {x} y ys h =
      ⊎_elim
      (λ (p : (h.front ≡ []) × (y ≡ x)). inl p.1)
      (λ (p : (rest : List A) × (h.front ≡ y ∷ rest) × (ys ≡ rest ++ (x ∷ h.behind))). inr (record { front = p.0; behind = h.behind; splits = p.2 }))
      (split_more y ys h.front h.behind x h.splits)

  pub has_left : {x : A} (ys : List A) {xs : List A} → Has xs x → Has (xs ++ ys) x
  has_left {x} ys h = record { front = h.front; behind = h.behind ++ ys; splits = rw h.splits (append_assoc h.front (x ∷ h.behind) ys) }

  pub has_right : {x : A} (xs : List A) {ys : List A} → Has ys x → Has (xs ++ ys) x
  has_right [] h = h
  has_right (y ∷ xs) h = has_behind y (has_right xs h)

  pub has_in : {x : A} (xs ys : List A) → Has (xs ++ ys) x → Has xs x ⊎ Has ys x
  has_in [] ys h = inr h
  has_in {x} (y ∷ xs) ys h =
      ⊎_elim
      (λ (e : y ≡ x). inl (rw e (has_first x xs)))
      (λ (g : Has (xs ++ ys) x). ⊎_elim (λ (l : Has xs x). inl (has_behind y l)) (λ (r : Has ys x). inr r) (has_in xs ys g))
      (has_one_of y (xs ++ ys) h)

  -- ---- some pass a test, or one fails it

  module _ (test : A → Bool) where
    pub any_has : (xs : List A) → any_of test xs ≡ true → (x : A) × Has xs x × (test x ≡ true)
    unfolding any_of
    any_has [] h = absurd (not_both h refl)
    any_has (x ∷ xs) h =
        ⊎_elim
        (λ (p : test x ≡ true). (x, has_first x xs, p))
        (λ (p : any_of test xs ≡ true). let r = any_has xs p in (r.0, has_behind x r.1, r.2))
        (either_of (test x) (any_of test xs) h)

    pub has_any : (x : A) (xs : List A) → Has xs x → test x ≡ true → any_of test xs ≡ true
    unfolding any_of
    has_any x [] h p = absurd (has_none h)
    has_any x (y ∷ xs) h p =
        ⊎_elim
        (λ (e : y ≡ x). either_left (test y) (any_of test xs) (rw e p))
        (λ (g : Has xs x). either_right (test y) (any_of test xs) (has_any x xs g p))
        (has_one_of y xs h)

    pub fails_has : (xs : List A) → all_of test xs ≡ false → (x : A) × Has xs x × (test x ≡ false)
    unfolding all_of
    fails_has [] h = absurd (not_both refl h)
    fails_has (x ∷ xs) h = go (test x) refl h (λ p. fails_has xs p)
      where
        go : (t : Bool) → test x ≡ t → (t && all_of test xs) ≡ false → (all_of test xs ≡ false → (y : A) × Has xs y × (test y ≡ false)) → (y : A) × Has (x ∷ xs) y × (test y ≡ false)
        go true e p ih = let r = ih p in (r.0, has_behind x r.1, r.2)
        go false e p ih = (x, has_first x xs, e)

    pub all_has : (x : A) (xs : List A) → all_of test xs ≡ true → Has xs x → test x ≡ true
    unfolding all_of
    all_has x [] p h = absurd (has_none h)
    all_has x (y ∷ xs) p h = go (test y) refl p (λ q g. all_has x xs q g)
      where
        go : (t : Bool) → test y ≡ t → (t && all_of test xs) ≡ true → (all_of test xs ≡ true → Has xs x → test x ≡ true) → test x ≡ true
        go true e q ih = ⊎_elim (λ (w : y ≡ x). rw w at e) (λ (g : Has xs x). ih q g) (has_one_of y xs h)
        go false e q ih = absurd (not_both q refl)

-- ---- names

pub among_has : (name : List ℕ) (names : List (List ℕ)) → among name names ≡ true → Has names name
unfolding among
among_has name names h = let r = any_has (same name) names h in rw (same_equal name r.0 r.2) r.1

pub has_among : (name : List ℕ) (names : List (List ℕ)) → Has names name → among name names ≡ true
unfolding among
has_among name names h = has_any (same name) name names h (same_refl name)

-- one that is not known
pub unknown_lacking : (known names : List (List ℕ)) → all_known known names ≡ false → Lacking known names
unfolding all_known
unknown_lacking known names h =
    let r = fails_has (λ name. among name known) names h in
    record { name = r.0; held = r.1; lacked = λ k. not_both (has_among r.0 known k) r.2 }

pub lacking_unknown : (known names : List (List ℕ)) → Lacking known names → all_known known names ≡ false
unfolding all_known
lacking_unknown known names l = go (all_of (λ name. among name known) names) refl
  where
    go : (t : Bool) → all_of (λ name. among name known) names ≡ t → t ≡ false
    go true e = absurd (l.lacked (among_has l.name known (all_has (λ name. among name known) l.name names e l.held)))
    go false e = refl

-- ---- names that are repeated

twice_behind : (x : List ℕ) (xs : List (List ℕ)) → Twice xs → Twice (x ∷ xs)
twice_behind x xs t = record { name = t.name; front = x ∷ t.front; behind = t.behind; splits = ap (λ (l : List (List ℕ)). x ∷ l) t.splits; again = t.again }

-- one that was seen, or one that stands twice
abbrev pub SeenOrTwice : List (List ℕ) → List (List ℕ) → Type 0
SeenOrTwice seen names = ((name : List ℕ) × Has seen name × Has names name) ⊎ Twice names

pub repeats_so : (seen names : List (List ℕ)) → repeats seen names ≡ true → SeenOrTwice seen names
unfolding repeats
repeats_so seen [] h = absurd (not_both h refl)
repeats_so seen (x ∷ xs) h =
    ⊎_elim
    (λ (p : among x seen ≡ true). inl (x, among_has x seen p, has_first x xs))
    (λ (p : repeats (x ∷ seen) xs ≡ true). ⊎_elim earlier later (repeats_so (x ∷ seen) xs p))
    (either_of (among x seen) (repeats (x ∷ seen) xs) h)
  where
    earlier : (name : List ℕ) × Has (x ∷ seen) name × Has xs name → SeenOrTwice seen (x ∷ xs)
    earlier r =
        ⊎_elim
        (λ (e : x ≡ r.0). inr (record { name = x; front = []; behind = xs; splits = refl; again = rw e r.2 }))
        (λ (g : Has seen r.0). inl (r.0, g, has_behind x r.2))
        (has_one_of x seen r.1)

    later : Twice xs → SeenOrTwice seen (x ∷ xs)
    later t = inr (twice_behind x xs t)

seen_repeats : (name : List ℕ) (seen names : List (List ℕ)) → Has seen name → Has names name → repeats seen names ≡ true
unfolding repeats
seen_repeats name seen [] s h = absurd (has_none h)
seen_repeats name seen (x ∷ xs) s h =
    ⊎_elim
    (λ (e : x ≡ name). either_left (among x seen) (repeats (x ∷ seen) xs) (rw e (has_among name seen s)))
    (λ (g : Has xs name). either_right (among x seen) (repeats (x ∷ seen) xs) (seen_repeats name (x ∷ seen) xs (has_behind x s) g))
    (has_one_of x xs h)

twice_repeats : (name : List ℕ) (seen names front behind : List (List ℕ)) → names ≡ front ++ (name ∷ behind) → Has behind name → repeats seen names ≡ true
unfolding repeats
twice_repeats name seen [] front behind e h = absurd (split_none front behind name e)
twice_repeats name seen (x ∷ xs) front behind e h =
    either_right (among x seen) (repeats (x ∷ seen) xs)
    (⊎_elim
    (λ (p : (front ≡ []) × (x ≡ name)). at_first p.0 p.1)
    (λ (p : (rest : List (List ℕ)) × (front ≡ x ∷ rest) × (xs ≡ rest ++ (name ∷ behind))). twice_repeats name (x ∷ seen) xs p.0 behind p.2 h)
    (split_more x xs front behind name e))
  where
    at_first : front ≡ [] → x ≡ name → repeats (x ∷ seen) xs ≡ true
    at_first p q =
        let f : x ∷ xs ≡ name ∷ behind = rw p at e in
        let g : xs ≡ behind = cc in
        seen_repeats name (x ∷ seen) xs (rw q (has_first name seen)) (rw g h)

pub so_repeats : (seen names : List (List ℕ)) → SeenOrTwice seen names → repeats seen names ≡ true
so_repeats seen names =
    ⊎_elim
    (λ (r : (name : List ℕ) × Has seen name × Has names name). seen_repeats r.0 seen names r.1 r.2)
    (λ (t : Twice names). twice_repeats t.name seen names t.front t.behind t.splits t.again)

-- ---- what was seen, the last first

module _ {A B : Type 0} (named : A → List B) where
  unfoldable pub seen_from : List B → List A → List B
  seen_from seen [] = seen
  seen_from seen (x ∷ xs) = seen_from (named x ++ seen) xs

  pub seen_more : (seen : List B) (before : List A) (x : A) → seen_from seen (before ++ (x ∷ [])) ≡ named x ++ seen_from seen before
  unfolding seen_from
  seen_more seen [] x = refl
  seen_more seen (y ∷ before) x = seen_more (named y ++ seen) before x

  pub has_seen : (b : B) (seen : List B) (before : List A) → Has (seen_from seen before) b → Has seen b ⊎ ((x : A) × Has before x × Has (named x) b)
  unfolding seen_from
  has_seen b seen [] h = inl h
  has_seen b seen (y ∷ before) h =
      ⊎_elim
      (λ (g : Has (named y ++ seen) b).
      ⊎_elim (λ (l : Has (named y) b). inr (y, has_first y before, l)) (λ (r : Has seen b). inl r) (has_in (named y) seen g))
      (λ (r : (x : A) × Has before x × Has (named x) b). inr (r.0, has_behind y r.1, r.2))
      (has_seen b (named y ++ seen) before h)

  kept_seen : (b : B) (seen : List B) (before : List A) → Has seen b → Has (seen_from seen before) b
  unfolding seen_from
  kept_seen b seen [] h = h
  kept_seen b seen (y ∷ before) h = kept_seen b (named y ++ seen) before (has_right (named y) h)

  pub seen_has : (b : B) (seen : List B) (before : List A) (x : A) → Has before x → Has (named x) b → Has (seen_from seen before) b
  unfolding seen_from
  seen_has b seen [] x h n = absurd (has_none h)
  seen_has b seen (y ∷ before) x h n =
      ⊎_elim
      (λ (e : y ≡ x). kept_seen b (named y ++ seen) before (has_left seen {xs = named y} (rw e n)))
      (λ (g : Has before x). seen_has b (named y ++ seen) before x g n)
      (has_one_of y before h)
