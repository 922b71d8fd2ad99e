-- A thing is the one that is looked for, or the things behind it are searched on.
use mathlib.Core.Path.{◌≡◌, refl, sym, ◌∙◌}
use mathlib.Core.Bool.{Bool, true, false, cond, ◌&&◌}
use mathlib.Core.List.{List, [], ◌∷◌}
use Prim.Native.Nat.{ℕ, zero, suc, ◌+◌, ◌-◌, ◌*◌, ◌/◌, ◌<◌, ◌≤◌}
use native.Mathlib.Omega.{arith}
use mir.Val.{bool_byte}
use lib.Dec.{eqb}
use lib.ListN.{length, get_or, take, drop}
use lib.Seq.{drop-drop}
use Rattle.std.specs.Simd.{first_chunks}
use Rattle.std.proofs.lemmas.List.{get_or-take, get_or-drop}
use borrow.Author.Tests.{eq-eqb, ne_eqb}
use Rattle.paper.specs.Common.{same, number_in}
use Rattle.file_find.specs.Number.{kind_in, name_in, names_of_kind, number_of}

-- ---- one thing

chunk_at : (k i : ℕ) (xs : List ℕ) → i < k → get_or (first_chunks 4 k xs) i [] ≡ take 4 (drop (4 * i) xs)
chunk_at zero i xs h = absurd (omega arith)
chunk_at (suc k) zero xs h = refl
chunk_at (suc k) (suc i) xs h =
    let q : 4 * suc i ≡ 4 + 4 * i = omega arith in
    chunk_at k i (drop 4 xs) (omega arith) ∙ rw (drop-drop (4 * i) 4 xs, q) refl

word_in : (m j : ℕ) (xs : List ℕ) → j < 4 → get_or (take 4 (drop m xs)) j 0 ≡ get_or xs (m + j) 0
word_in m j xs h = get_or-take 4 (drop m xs) j 0 h ∙ get_or-drop m xs j 0

module _ (t list name : List ℕ) (i : ℕ) (h : i < length list / 4) (things : List (List ℕ)) (e : things ≡ first_chunks 4 (length list / 4) list) where
  -- thing i, as the code has it
  abbrev this : List ℕ
  this = get_or things i []

  this_is : this ≡ take 4 (drop (4 * i) list)
  this_is = rw e (chunk_at (length list / 4) i list h)

  kind_is : get_or this 0 0 ≡ kind_in list i
  kind_is = let q : 4 * i + 0 ≡ 4 * i = omega arith in rw (this_is, word_in (4 * i) 0 list (omega arith), q) refl

  name_is : take (get_or this 3 0) (drop (get_or this 2 0) t) ≡ name_in t list i
  name_is = rw (this_is, word_in (4 * i) 3 list (omega arith), word_in (4 * i) 2 list (omega arith)) refl

  module _ (kind : ℕ) where
    pub other_kind : (get_or this 0 0 ≡ kind → ⊥) → false ≡ (eqb (kind_in list i) kind && same (name_in t list i) name)
    other_kind d = rw (ne_eqb (kind_in list i) kind (λ q. d (kind_is ∙ q))) refl

    pub same_kind : get_or this 0 0 ≡ kind → (r : Bool) → r ≡ same (take (get_or this 3 0) (drop (get_or this 2 0) t)) name
        → r ≡ (eqb (kind_in list i) kind && same (name_in t list i) name)
    same_kind k r q = q ∙ rw (name_is, eq-eqb (kind_in list i) kind (sym kind_is ∙ k)) refl

    pub one_is : (one : ℕ) → one ≡ bool_byte (eqb (get_or this 0 0) kind) → one ≡ cond (eqb (kind_in list i) kind) 1 0
    one_is one q = q ∙ rw kind_is (go (eqb (kind_in list i) kind))
      where
        go : (b : Bool) → bool_byte b ≡ cond b 1 0
        go true = refl
        go false = refl

one_little : (b : Bool) (one : ℕ) → one ≡ bool_byte b → one ≤ 1
one_little true one e = omega arith
one_little false one e = omega arith

pub number_low : (kind i number one w : ℕ) → one ≡ bool_byte (eqb w kind) → number ≤ i → number + one ≤ i + 1
number_low kind i number one w e h = omega (arith, one_little (eqb w kind) one e)

-- ---- the search

pub find_begins : (t list name : List ℕ) (kind : ℕ) → 0 + number_in (names_of_kind t list kind 0 (length list / 4 - 0)) name ≡ number_of t list kind name
unfolding number_of
find_begins t list name kind = let q : length list / 4 - 0 ≡ length list / 4 = omega arith in rw q (omega arith)

module _ (t list name : List ℕ) (kind things i number whole : ℕ) (inv : number + number_in (names_of_kind t list kind i (things - i)) name ≡ whole) where
  pub find_ends : things ≤ i → number ≡ whole
  unfolding names_of_kind number_in
  find_ends h = let e : things - i ≡ 0 = omega arith in let q : number + 0 ≡ whole = rw e at inv in omega arith

  module _ (h : i < things) (r : Bool) (e : r ≡ (eqb (kind_in list i) kind && same (name_in t list i) name)) where
    -- the names behind thing i
    abbrev others : List (List ℕ)
    others = names_of_kind t list kind (i + 1) (things - (i + 1))

    opened : number + number_in (cond (eqb (kind_in list i) kind) (name_in t list i ∷ others) others) name ≡ whole
    unfolding names_of_kind
    opened = let q : things - i ≡ suc (things - (i + 1)) = omega arith in rw q at inv

    pub find_found : r ≡ true → number ≡ whole
    unfolding number_in
    find_found z = go (eqb (kind_in list i) kind) (same (name_in t list i) name) refl (sym e ∙ z) opened
      where
        go : (a b : Bool) → same (name_in t list i) name ≡ b → (a && b) ≡ true
            → number + number_in (cond a (name_in t list i ∷ others) others) name ≡ whole → number ≡ whole
        go true true p q o = let k : number + 0 ≡ whole = rw p at o in omega arith
        go true false p q o = absurd (let z : ◌≡◌ {A = ℕ} 0 1 = cc in omega arith)
        go false b p q o = absurd (let z : ◌≡◌ {A = ℕ} 0 1 = cc in omega arith)

    pub find_on : r ≡ false → (one : ℕ) → one ≡ cond (eqb (kind_in list i) kind) 1 0 → number + one + number_in others name ≡ whole
    unfolding number_in
    find_on z one u = go (eqb (kind_in list i) kind) (same (name_in t list i) name) refl (sym e ∙ z) u opened
      where
        go : (a b : Bool) → same (name_in t list i) name ≡ b → (a && b) ≡ false → one ≡ cond a 1 0
            → number + number_in (cond a (name_in t list i ∷ others) others) name ≡ whole → number + one + number_in others name ≡ whole
        go true true p q v o = absurd (let z : ◌≡◌ {A = ℕ} 0 1 = cc in omega arith)
        go true false p q v o = let k : number + (number_in others name + 1) ≡ whole = rw p at o in omega arith
        go false b p q v o = omega arith
