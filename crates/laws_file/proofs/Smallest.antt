-- A look through things on ascending lines, one after the other, finds the smallest line at fault; and so do several looks together.
use mathlib.Core.Path.{◌≡◌, refl, sym, ap, ◌∙◌}
use mathlib.Core.List.{List, [], ◌∷◌, ◌++◌, append-nil, append_assoc}
use mathlib.Core.Bool.{Bool, true, false, cond, ◌||◌}
use mathlib.Core.Logic.{◌⊎◌, inl, inr, ⊎_elim}
use Prim.Native.Nat.{ℕ, ◌+◌, ◌<◌, ◌≤◌}
use native.Mathlib.Omega.{arith}
use lib.Dec.{eqb, ltb}
use borrow.Author.Tests.{eqb-true, eqb-false, ltb-true, ltb-false}
use Rattle.paper.specs.Text.{no_line}
use Rattle.paper.specs.Rules.{earlier}
use Rattle.laws.proofs.Tests.{le_or_lt}
use Rattle.laws_page.specs.Right.{Ascending}
use Rattle.laws_file.specs.Rules.{On, Answers}

-- ---- what a look finds

-- a line that is answered is at fault, and for each line at fault one is answered that is not behind it
pub record Finds (AtFault : ℕ → Type 0) (answer : ℕ) : Type 0 where
  pub found : 1 ≤ answer → AtFault answer
  pub first : (m : ℕ) → AtFault m → (1 ≤ answer) × (answer ≤ m)

pub answers : {AtFault : ℕ → Type 0} (answer : ℕ) → Finds AtFault answer → Answers AtFault answer
answers {AtFault} answer f = record {
  clear = λ z m a. omega (arith, (f.first m a).0);
  silent = silent;
  found = λ z. f.found (omega arith);
  smallest = λ m a. (f.first m a).1;
}
  where
    silent : ((m : ℕ) → AtFault m → ⊥) → answer ≡ no_line
    silent h =
        ⊎_elim
        (λ (p : 1 ≤ answer). absurd (h answer (f.found p)))
        (λ (p : answer < 1). omega arith)
        (le_or_lt 1 answer)

pub same_faults : {P Q : ℕ → Type 0} (answer : ℕ) → ((m : ℕ) → P m → Q m) → ((m : ℕ) → Q m → P m) → Finds P answer → Finds Q answer
same_faults answer to from f = record { found = λ p. to answer (f.found p); first = λ m q. f.first m (from m q) }

-- the same things on the same lines, at fault in another way
pub on_same : {A : Type 0} (line : A → ℕ) {P Q : List A → A → Type 0} (xs : List A) (m : ℕ)
    → ((before : List A) (x : A) (behind : List A) → xs ≡ before ++ (x ∷ behind) → P before x → Q before x) → On line P xs m → On line Q xs m
on_same line xs m to o = record {
  before = o.before;
  it = o.it;
  behind = o.behind;
  splits = o.splits;
  number = o.number;
  faulty = to o.before o.it o.behind o.splits o.faulty;
}

-- ---- splits

pub split_none : {A : Type 0} (front behind : List A) (x : A) → [] ≡ front ++ (x ∷ behind) → ⊥
split_none [] behind x e = let z : ◌≡◌ {A = ℕ} 0 1 = cc in omega arith
split_none (y ∷ front) behind x e = let z : ◌≡◌ {A = ℕ} 0 1 = cc in omega arith

-- the one that was split off is the first, or stands behind it
pub split_more : {A : Type 0} (y : A) (ys front behind : List A) (x : A) → y ∷ ys ≡ front ++ (x ∷ behind)
    → ((front ≡ []) × (y ≡ x)) ⊎ ((rest : List A) × (front ≡ y ∷ rest) × (ys ≡ rest ++ (x ∷ behind)))
split_more y ys [] behind x e = inl (refl, cc)
split_more y ys (z ∷ front) behind x e =
    let p : y ≡ z = cc in
    let q : ys ≡ front ++ (x ∷ behind) = cc in
    inr (front, ap (λ w. w ∷ front) (sym p), q)

-- a line behind others is not before them
pub ascending_at : {A : Type 0} (line : A → ℕ) (n : ℕ) (xs front behind : List A) (x : A) → Ascending line n xs → xs ≡ front ++ (x ∷ behind) → n ≤ line x
ascending_at line n [] front behind x a e = absurd (split_none front behind x e)
ascending_at {A} line n (y ∷ ys) front behind x a e =
    ⊎_elim
    (λ (p : (front ≡ []) × (y ≡ x)). let q : line y ≡ line x = ap line p.1 in omega (arith, a.0))
    (λ (p : (rest : List A) × (front ≡ y ∷ rest) × (ys ≡ rest ++ (x ∷ behind))). omega (arith, a.0, ascending_at line (line y + 1) ys p.0 behind x a.1 p.2))
    (split_more y ys front behind x e)

-- ---- a look

module _ {A : Type 0} (line : A → ℕ) (Fault : List A → A → Type 0) (test : List A → A → Bool) (So : List A → Type 0)
    -- what is so of those before one that passes the test is so with it; there the test tells the fault, and it always is true of one
    (keeps : (before : List A) (x : A) → So before → test before x ≡ false → So (before ++ (x ∷ [])))
    (tells : (before : List A) (x : A) → So before → test before x ≡ true → Fault before x)
    (told : (before : List A) (x : A) → Fault before x → test before x ≡ true)
    (look : List A → List A → ℕ)
    (ends : (before : List A) → look before [] ≡ no_line)
    (more : (before : List A) (x : A) (xs : List A) → look before (x ∷ xs) ≡ cond (test before x) (line x) (look (before ++ (x ∷ [])) xs)) where
  -- behind those that were passed
  abbrev Behind : List A → List A → ℕ → Type 0
  Behind before xs m = On line (λ more x. Fault (before ++ more) x) xs m

  looks_none : (before : List A) → Finds (Behind before []) (look before [])
  looks_none before = record {
    found = λ p. absurd (omega (arith, ends before));
    first = λ m o. absurd (split_none o.before o.behind o.it o.splits);
  }

  module _ (before : List A) (x : A) (xs : List A) where
    looks_here : (n : ℕ) → 1 ≤ n → Ascending line n (x ∷ xs) → So before → test before x ≡ true → Finds (Behind before (x ∷ xs)) (line x)
    looks_here n h a s e = record {
      found = λ p. record { before = []; it = x; behind = xs; splits = refl; number = refl; faulty = rw append-nil (tells before x s e) };
      first = λ m o. (omega (arith, a.0), let k : line x ≤ line o.it = behind o in omega (arith, o.number));
    }
      where
        behind : {m : ℕ} (o : Behind before (x ∷ xs) m) → line x ≤ line o.it
        behind o =
            ⊎_elim
            (λ (p : (o.before ≡ []) × (x ≡ o.it)). let q : line x ≡ line o.it = ap line p.1 in omega arith)
            (λ (p : (rest : List A) × (o.before ≡ x ∷ rest) × (xs ≡ rest ++ (o.it ∷ o.behind))). omega (arith, ascending_at line (line x + 1) xs p.0 o.behind o.it a.1 p.2))
            (split_more x xs o.before o.behind o.it o.splits)

    looks_on : test before x ≡ false → (answer : ℕ) → Finds (Behind (before ++ (x ∷ [])) xs) answer → Finds (Behind before (x ∷ xs)) answer
    looks_on e answer f = same_faults answer to from f
      where
        to : (m : ℕ) → Behind (before ++ (x ∷ [])) xs m → Behind before (x ∷ xs) m
        to m o = record {
          before = x ∷ o.before;
          it = o.it;
          behind = o.behind;
          splits = ap (λ (l : List A). x ∷ l) o.splits;
          number = o.number;
          faulty = rw append_assoc at o.faulty;
        }

        from : (m : ℕ) → Behind before (x ∷ xs) m → Behind (before ++ (x ∷ [])) xs m
        from m o =
            ⊎_elim
            (λ (p : (o.before ≡ []) × (x ≡ o.it)).
            absurd (let t : test before x ≡ true = told before x (rw (p.0, append-nil, ← p.1) at o.faulty) in let z : true ≡ false = sym t ∙ e in let w : ◌≡◌ {A = ℕ} 0 1 = cc in omega arith))
            (λ (p : (rest : List A) × (o.before ≡ x ∷ rest) × (xs ≡ rest ++ (o.it ∷ o.behind))).
            record { before = p.0; it = o.it; behind = o.behind; splits = p.2; number = o.number; faulty = rw append_assoc (rw p.1 at o.faulty) })
            (split_more x xs o.before o.behind o.it o.splits)

  looks : (before xs : List A) (n : ℕ) → 1 ≤ n → Ascending line n xs → So before → Finds (Behind before xs) (look before xs)
  looks before [] n h a s = looks_none before
  looks before (x ∷ xs) n h a s = rw more (go (test before x) refl (λ w. looks (before ++ (x ∷ [])) xs (line x + 1) (omega arith) a.1 w))
    where
      go : (t : Bool) → test before x ≡ t → (So (before ++ (x ∷ [])) → Finds (Behind (before ++ (x ∷ [])) xs) (look (before ++ (x ∷ [])) xs))
          → Finds (Behind before (x ∷ xs)) (cond t (line x) (look (before ++ (x ∷ [])) xs))
      go true e ih = looks_here before x xs n h a s e
      go false e ih = looks_on before x xs e _ (ih (keeps before x s e))

  pub look_finds : (xs : List A) → Ascending line 1 xs → So [] → Finds (On line Fault xs) (look [] xs)
  look_finds xs a s = looks [] xs 1 (omega arith) a s

-- ---- several looks

earlier_is : (a b : ℕ) → ((a ≡ 0) × (earlier a b ≡ b)) ⊎ (((1 ≤ a) × ((b ≡ 0) ⊎ (a ≤ b)) × (earlier a b ≡ a)) ⊎ ((1 ≤ b) × (b ≤ a) × (earlier a b ≡ b)))
unfolding earlier
earlier_is a b = go (eqb a 0) refl (eqb b 0) refl (ltb a b) refl
  where
    go : (x : Bool) → eqb a 0 ≡ x → (y : Bool) → eqb b 0 ≡ y → (z : Bool) → ltb a b ≡ z
        → ((a ≡ 0) × (cond x b (cond (y || z) a b) ≡ b))
        ⊎ (((1 ≤ a) × ((b ≡ 0) ⊎ (a ≤ b)) × (cond x b (cond (y || z) a b) ≡ a)) ⊎ ((1 ≤ b) × (b ≤ a) × (cond x b (cond (y || z) a b) ≡ b)))
    go true e y f z g = inl (eqb-true a 0 e, refl)
    go false e true f z g = let n : a ≡ 0 → ⊥ = eqb-false a 0 e in inr (inl (omega arith, inl (eqb-true b 0 f), refl))
    go false e false f true g = let n : a ≡ 0 → ⊥ = eqb-false a 0 e in inr (inl (omega arith, inr (omega (arith, ltb-true a b g)), refl))
    go false e false f false g = let n : b ≡ 0 → ⊥ = eqb-false b 0 f in inr (inr (omega arith, ltb-false a b g, refl))

-- of two
pub finds_either : {P Q : ℕ → Type 0} (a b : ℕ) → Finds P a → Finds Q b → Finds (λ m. P m ⊎ Q m) (earlier a b)
finds_either {P} {Q} a b f g = ⊎_elim left (⊎_elim middle right) (earlier_is a b)
  where
    -- a is none: what is at fault is so of the second
    left : (a ≡ 0) × (earlier a b ≡ b) → Finds (λ m. P m ⊎ Q m) (earlier a b)
    left h = rw h.1 (record {
      found = λ p. inr (g.found p);
      first = λ m. ⊎_elim (λ (p : P m). absurd (omega (arith, h.0, (f.first m p).0))) (λ (q : Q m). g.first m q);
    })

    middle : (1 ≤ a) × ((b ≡ 0) ⊎ (a ≤ b)) × (earlier a b ≡ a) → Finds (λ m. P m ⊎ Q m) (earlier a b)
    middle h = rw h.2 (record {
      found = λ p. inl (f.found p);
      first = λ m. ⊎_elim (λ (p : P m). f.first m p) (λ (q : Q m). (h.0, ⊎_elim (λ (z : b ≡ 0). omega (arith, (g.first m q).0)) (λ (z : a ≤ b). omega (arith, (g.first m q).1)) h.1));
    })

    right : (1 ≤ b) × (b ≤ a) × (earlier a b ≡ b) → Finds (λ m. P m ⊎ Q m) (earlier a b)
    right h = rw h.2 (record {
      found = λ p. inr (g.found p);
      first = λ m. ⊎_elim (λ (p : P m). (h.0, omega (arith, h.1, (f.first m p).1))) (λ (q : Q m). g.first m q);
    })

pub finds_none : Finds (λ m. ⊥) no_line
finds_none = record { found = λ p. absurd (omega arith); first = λ m z. absurd z }
