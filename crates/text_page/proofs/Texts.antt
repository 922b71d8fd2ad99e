-- A text up to its page: its refusal's line is at most 65,537, "one past the last" of 65,536 lines.
use mathlib.Core.Path.{◌≡◌, refl, sym, ap, ◌∙◌}
use mathlib.Core.Bool.{Bool, true, false, cond}
use mathlib.Core.List.{List, [], ◌∷◌}
use Prim.Native.Nat.{ℕ, zero, suc, ◌+◌, ◌<◌, ◌≤◌}
use native.Mathlib.Omega.{arith}
use mir.Syntax.{w32}
use mir.Val.{Fits}
use lib.Dec.{eqb, ltb}
use lib.ListN.{length}
use borrow.Author.Tests.{lt-ltb, le-ltb, ltb-false}
use Rattle.paper.specs.Text.{next_byte, may_stand, bad_byte_line, lines}
use Rattle.paper.specs.Page.{Outcome, fields, fault, before_first, page_of}
use Rattle.paper.specs.Rules.{unless_line}
use Rattle.paper.specs.Promises.{text_page}
use Rattle.laws_page.proofs.Steps.{Bounded, bounded, lines_few}
use Rattle.std.specs.Prelude.{Result, Err}
use Rattle.paper.specs.declared.Fault.{Fault}
use Rattle.text_page.specs.Walk.{at_start, page_left, refusal_of}
use Rattle.text_page.specs.declared.Cursor.{Cursor}

-- ---- the whole page: what is left is read as all of it is

module _ (t : List ℕ) (c : Cursor) (e : c ≡ at_start) where
  pub starts : refusal_of (page_left t c) ≡ refusal_of (page_of t)
  unfolding page_left page_of before_first
  starts = rw e refl

  pub starts_within : c.at ≤ length t
  starts_within = rw e (omega arith)

  pub starts_line : c.line ≤ c.at + 1
  starts_line = rw e (omega arith)

pub page_bounded : (t : List ℕ) (k m : ℕ) → page_of t ≡ fault k m → Bounded 1 (length (lines t)) k m
unfolding page_of before_first
page_bounded t k m e = bounded before_first 1 (lines t) k m (omega arith) e

-- ---- a text

pub bad_within : (n : ℕ) (t : List ℕ) → bad_byte_line n t ≤ n + length t
unfolding bad_byte_line
bad_within n [] = omega arith
bad_within n (b ∷ bs) = go (may_stand b (next_byte bs)) (eqb b 10) (λ m. bad_within m bs)
  where
    go : (s e : Bool) → ((m : ℕ) → bad_byte_line m bs ≤ m + length bs) → cond s (bad_byte_line (cond e (n + 1) n) bs) n ≤ n + suc (length bs)
    go true true ih = omega (arith, ih (n + 1))
    go true false ih = omega (arith, ih n)
    go false e ih = omega arith

module _ (t : List ℕ) where
  pub text_long : 65536 < length t → Err (record { number = 2; line = 0 }) ≡ refusal_of (text_page t)
  unfolding text_page
  text_long h = rw (lt-ltb 65536 (length t) h)

  module _ (b : ℕ) (h : length t ≤ 65536) (e : b ≡ bad_byte_line 1 t) where
    pub text_bad : (b ≡ 0 → ⊥) → Err (record { number = 3; line = b }) ≡ refusal_of (text_page t)
    unfolding text_page unless_line
    text_bad n = rw (le-ltb 65536 (length t) h, ← e) (go b n)
      where
        go : (k : ℕ) → (k ≡ 0 → ⊥) → Err (record { number = 3; line = k }) ≡ refusal_of (unless_line 3 k (page_of t))
        go zero n = absurd (n refl)
        go (suc k) n = refl

    pub text_page_lem : (r : Result Unit Fault) → b ≡ 0 → r ≡ refusal_of (page_of t) → r ≡ refusal_of (text_page t)
    unfolding text_page unless_line
    text_page_lem r z f = rw (le-ltb 65536 (length t) h, ← e, z, f)

  -- the line of its refusal fits 32 bits
  fault_fits : (k m : ℕ) → text_page t ≡ fault k m → Fits w32 m
  unfolding text_page unless_line
  fault_fits k m = go (ltb 65536 (length t)) refl (bad_byte_line 1 t) (bad_within 1 t)
    where
      go : (l : Bool) → ltb 65536 (length t) ≡ l → (b : ℕ) → b ≤ 1 + length t → cond l (fault 2 0) (unless_line 3 b (page_of t)) ≡ fault k m → Fits w32 m
      go true q b w e = let z : 0 ≡ m = cc in omega arith
      go false q zero w e =
          let h : length t ≤ 65536 = ltb-false 65536 (length t) q in
          let d : Bounded 1 (length (lines t)) k m = page_bounded t k m e in
          omega (arith, d.within, lines_few 0 t)
      go false q (suc b) w e = let h : length t ≤ 65536 = ltb-false 65536 (length t) q in let z : suc b ≡ m = cc in omega arith

  module _ (r : Result Unit Fault) (e : r ≡ refusal_of (text_page t)) where
    module _ (f : Fault) (q : r ≡ Err f) where
      pub line_fits : Fits w32 f.line
      line_fits = go (text_page t) refl (sym e ∙ q)
        where
          go : (p : Outcome) → text_page t ≡ p → refusal_of p ≡ Err f → Fits w32 f.line
          go (fields fs) g q = absurd (cc)
          go (fault k m) g q =
              let z : ◌≡◌ {A = Fault} (record { number = k; line = m }) f = cc in
              let y : m ≡ f.line = ap (λ (x : Fault). x.line) z in
              rw (← y) (fault_fits k m g)
