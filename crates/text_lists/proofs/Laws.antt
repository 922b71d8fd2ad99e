-- Lists and values: what the code computes is the paper's test, or its fault.
use mathlib.Core.Path.{◌≡◌, refl, sym, ◌∙◌}
use mathlib.Core.Bool.{Bool, true, false, cond, not, ◌&&◌, ◌||◌, beq, and_assoc, or-false}
use mathlib.Core.List.{List, [], ◌∷◌}
use mathlib.Core.Logic.{◌⊎◌, ⊎_elim}
use Prim.Native.Nat.{ℕ, ◌+◌, ◌-◌, ◌<◌, ◌≤◌}
use native.Mathlib.Omega.{arith}
use lib.Dec.{eqb, leb}
use lib.ListN.{length, get_or, take, drop, drop_of_length-le}
use borrow.Author.Tests.{eqb-true, leb-true, lt-leb, le-leb}
use Rattle.paper.specs.Common.{bytes, same, is_one, any_of, all_of}
use Rattle.paper.specs.Text.{comma, space, open_bracket, close_bracket}
use Rattle.paper.specs.declared.Scalar.{Scalar}
use Rattle.paper.specs.declared.Value.{Value}
use Rattle.paper.specs.declared.Value.TheVariants.{Keys, NoneOrItems, AllOrKeys, AllNoneOrItems, One, ListOf, SomeOf, ListOrAll}
use Rattle.paper.specs.Lists.{bracketed, spaced, elements_in, elements, list_fault}
use Rattle.paper.specs.Listing.{bare_is_none, value_fault}
use Rattle.laws.proofs.Tests.{both_left}
use Rattle.laws.proofs.Chains.{tested_false, tested_true}
use Rattle.laws.proofs.Places.{drop_more}
use Rattle.paper.specs.Scalars.{is_scalar}
use Rattle.text_lists.specs.Walk.{first_element, elements_left, SpacedFrom}
use Rattle.text_lists.specs.Faults.{right_or, unless_fault, inside_fault}
use Rattle.text_lists.specs.Reading.{read_at}
use Rattle.std.specs.Prelude.{Option, Some, None, Result, Ok, Err}
use Rattle.text_lists.proofs.Walk.{left_first, left_past}
use Rattle.text_lists.proofs.Scalars.{read_wrong, read_right, read_ends, left_read}

-- ---- brackets

module _ (v : List ℕ) where
  pub not_bracketed : length v < 2 → false ≡ bracketed v
  unfolding bracketed
  not_bracketed h = rw (lt-leb 2 (length v) h)

  pub bracketed_is : 2 ≤ length v → (eqb (get_or v 0 0) open_bracket && eqb (get_or v (length v - 1) 0) close_bracket) ≡ bracketed v
  unfolding bracketed
  bracketed_is h = rw (le-leb 2 (length v) h)

  module _ (told : Bool) (e : told ≡ bracketed v) (t : told ≡ true) where
    room_for_both : 2 ≤ length v
    unfolding bracketed
    room_for_both = leb-true 2 (length v) (both_left (leb 2 (length v)) _ (both_left (leb 2 (length v) && eqb (get_or v 0 0) open_bracket) _ (sym e ∙ t)))

    pub some_bracket : 1 ≤ length v
    some_bracket = omega (arith, room_for_both)

    pub closed_behind_open : 1 ≤ length v - 1
    closed_behind_open = omega (arith, room_for_both)

-- ---- spaces

pub spaced_none : (s : List ℕ) → length s ≡ 0 → true ≡ spaced 0 s
unfolding spaced
spaced_none [] h = refl
spaced_none (b ∷ bs) h = absurd (omega arith)

-- behind the first byte, which is no space
pub spaced_starts : (s : List ℕ) → (length s ≡ 0 → ⊥) → (not (eqb (get_or s 0 0) space) && spaced (get_or s (1 - 1) 0) (drop 1 s)) ≡ spaced 0 s
unfolding spaced
spaced_starts [] h = absurd (h refl)
spaced_starts (b ∷ bs) h = go (eqb b space)
  where
    go : (t : Bool) → (not t && spaced b bs) ≡ (beq false t && spaced b bs)
    go true = refl
    go false = refl

-- the bytes before i are spaced, and those from it on behind the one before it, exactly where all of s is
module _ (s : List ℕ) (i : ℕ) (right : Bool) (inv : (right && spaced (get_or s (i - 1) 0) (drop i s)) ≡ spaced 0 s) where
  pub spaced_again : (r : Bool) → i < length s → r ≡ beq (eqb (get_or s (i - 1) 0) comma) (eqb (get_or s i 0) space) → (right && r && spaced (get_or s (i + 1 - 1) 0) (drop (i + 1) s)) ≡ spaced 0 s
  unfolding spaced
  spaced_again r h e =
      let q : i + 1 - 1 ≡ i = omega arith in
      rw (← inv, drop_more s i h, e, q) (and_assoc right _ _)

  pub spaced_told : i ≡ length s → (right && not (eqb (get_or s (length s - 1) 0) comma)) ≡ spaced 0 s
  unfolding spaced
  spaced_told h = let q : length s ≤ i = omega arith in rw (← inv, drop_of_length-le s q, h)

-- ---- every element is the scalar

module _ (k : Scalar) (s : List ℕ) (at : ℕ) where
  pub are_first : at ≡ first_element s → all_of (is_scalar k) (elements_left s at) ≡ all_of (is_scalar k) (elements_in s)
  are_first h = rw (h, left_first s)

  module _ (inv : all_of (is_scalar k) (elements_left s at) ≡ all_of (is_scalar k) (elements_in s)) where
    pub are_done : length s < at → true ≡ all_of (is_scalar k) (elements_in s)
    unfolding all_of
    are_done h = rw (← inv, left_past s at h)

    module _ (h : at ≤ length s) (w : SpacedFrom s at) (r : Option ℕ) (q : r ≡ read_at k s at) where
      pub are_fails : r ≡ None → false ≡ all_of (is_scalar k) (elements_in s)
      unfolding all_of
      are_fails n = rw (← inv, left_read s at h w, read_wrong k s at r q n)

      pub are_again : (end : ℕ) → r ≡ Some end → all_of (is_scalar k) (elements_left s (end + 2)) ≡ all_of (is_scalar k) (elements_in s)
      unfolding all_of
      are_again end n = rw (← inv, left_read s at h w, read_right k s at r q end n, read_ends k s at r q end n)

-- ---- what is wrong, as an answer

-- what is right, or 4
pub layout_told : (test told : Bool) (m : Result (Unit {0}) ℕ) → told ≡ test → m ≡ right_or told 4 → m ≡ unless_fault (cond test 0 4)
layout_told true told m e f = rw e at f
layout_told false told m e f = rw e at f

-- or 5
pub scalar_told : (test told : Bool) (m : Result (Unit {0}) ℕ) → told ≡ test → m ≡ right_or told 5 → m ≡ unless_fault (cond test 0 5)
scalar_told true told m e f = rw e at f
scalar_told false told m e f = rw e at f

module _ (test told : Bool) (m : Result (Unit {0}) ℕ) (first rest : ℕ) (e : told ≡ test) where
  pub fault_found : told ≡ true → m ≡ unless_fault first → m ≡ unless_fault (cond test first rest)
  fault_found t f = rw (← e, t) f

  pub fault_on : told ≡ false → m ≡ unless_fault rest → m ≡ unless_fault (cond test first rest)
  fault_on t f = rw (← e, t) f

-- the number of a fault, and of none
module _ (n : ℕ) (r : Result (Unit {0}) ℕ) (e : r ≡ unless_fault n) where
  pub is_fault : (number : ℕ) → r ≡ Err number → number ≡ n
  is_fault number f = go (eqb n 0) e
    where
      go : (t : Bool) → r ≡ right_or t n → number ≡ n
      go true g = absurd (let z : ◌≡◌ {A = ℕ} 0 1 = cc in omega arith)
      go false g = cc

  pub is_some_fault : (number : ℕ) → r ≡ Err number → (number ≡ 0 → ⊥)
  is_some_fault number f z = let g : r ≡ Ok tt = rw (sym (is_fault number f) ∙ z) at e in let y : ◌≡◌ {A = ℕ} 0 1 = cc in omega arith

  pub is_no_fault : (u : Unit {0}) → r ≡ Ok u → n ≡ 0
  is_no_fault u f = go (eqb n 0) refl e
    where
      go : (t : Bool) → eqb n 0 ≡ t → r ≡ right_or t n → n ≡ 0
      go true h g = eqb-true n 0 h
      go false h g = absurd (let z : ◌≡◌ {A = ℕ} 0 1 = cc in omega arith)

-- ---- the fault of a list

module _ (k : Scalar) (s : List ℕ) (told : Bool) (e : told ≡ spaced 0 s) where
  pub not_spaced : not told ≡ true → Err 4 ≡ unless_fault (inside_fault k s)
  not_spaced t = rw (tested_false _ told e t)

  module _ (t : not told ≡ false) where
    pub told_spaced : spaced 0 s ≡ true
    told_spaced = tested_true _ told e t

    pub all_told : (every : Bool) (m : Result (Unit {0}) ℕ) → every ≡ all_of (is_scalar k) (elements_in s) → m ≡ right_or every 5 → m ≡ unless_fault (inside_fault k s)
    all_told every m g h = rw (told_spaced) (scalar_told (all_of (is_scalar k) (elements_in s)) every m g h)

module _ (k : Scalar) (v : List ℕ) (told : Bool) (e : told ≡ bracketed v) where
  pub list_is : (m : Result (Unit {0}) ℕ) → told ≡ true → m ≡ unless_fault (inside_fault k (take (length v - 1 - 1) (drop 1 v))) → m ≡ unless_fault (list_fault k v)
  unfolding list_fault elements
  list_is m t f = let q : length v - 1 - 1 ≡ length v - 2 = omega arith in rw (← e, t, ← q) f

  pub no_list : told ≡ false → Err 4 ≡ unless_fault (list_fault k v)
  unfolding list_fault
  no_list t = rw (← e, t)

-- ---- values

pub all_none_is : (v : List ℕ) (all none : Bool) (m : Result (Unit {0}) ℕ) → all ≡ same (bytes "all") v → none ≡ same (bytes "[]") v → m ≡ right_or (all || none) 4
    → m ≡ unless_fault (value_fault AllNoneOrItems v)
unfolding value_fault is_one any_of
all_none_is v all none m e f g = layout_told _ (all || none) m (rw (or-false, ← e, ← f) refl) g

pub value_known : (value known : Value) (v : List ℕ) (m : Result (Unit {0}) ℕ) → value ≡ known → m ≡ unless_fault (value_fault known v) → m ≡ unless_fault (value_fault value v)
value_known value known v m e f = rw e f

pub bare_told : (value : Value) → (value ≡ AllNoneOrItems) ⊎ ((scalar : Scalar) × (value ≡ ListOrAll scalar)) → true ≡ bare_is_none value
unfolding bare_is_none
bare_told value h = ⊎_elim (λ (e : value ≡ AllNoneOrItems). rw e) (λ (p : (scalar : Scalar) × (value ≡ ListOrAll scalar)). rw p.1) h

pub bare_other : (value : Value) → (value ≡ AllNoneOrItems → ⊥) → ((scalar : Scalar) → value ≡ ListOrAll scalar → ⊥) → false ≡ bare_is_none value
unfolding bare_is_none
bare_other AllNoneOrItems n m = absurd (n refl)
bare_other (ListOrAll scalar) n m = absurd (m scalar refl)
bare_other Keys n m = refl
bare_other NoneOrItems n m = refl
bare_other AllOrKeys n m = refl
bare_other (One scalar) n m = refl
bare_other (ListOf scalar) n m = refl
bare_other (SomeOf scalar) n m = refl
