-- The CRs before a value are those of the lines before its own: none stands on a line before its end.
use mathlib.Core.Path.{◌≡◌, refl, sym, ap, ◌∙◌}
use mathlib.Core.List.{List, [], ◌∷◌, ◌++◌, append_assoc}
use mathlib.Core.Bool.{Bool, true, false, cond, ◌||◌}
use Prim.Native.Nat.{ℕ, zero, suc, ◌+◌, ◌-◌, ◌≤◌}
use native.Mathlib.Omega.{arith}
use lib.Dec.{eqb}
use lib.ListN.{length, take, drop, length-append, length-drop}
use lib.Seq.{take-append_seam}
use borrow.Author.Tests.{eqb-false, eq-eqb}
use Rattle.paper.specs.Common.{is_empty, all_of}
use Rattle.paper.specs.Text.{Line, next_byte, return_before_feed, end_at, on_line, with_byte, lines_from}
use Rattle.paper.specs.Page.{Field, State, fields, before_first, page_of}
use Rattle.laws.proofs.Standing.{feed_no_return}
use Rattle.laws_file.specs.Rules.{total}
use Rattle.laws_file.proofs.Counts.{total_both}
use Rattle.laws_page.proofs.Right.{Each, FieldOf, every}
use Rattle.laws_office.specs.Office.{office_from, office, returns_in, no_return, returns_to}
use Rattle.laws_office.proofs.Lines.{returns_before, before_more, other, lines_feed, lines_return, lines_on, lines_none, office_feed, office_return, office_on, office_none}

-- ---- CRs in a front of the text

returns_both : (xs ys : List ℕ) → returns_in (xs ++ ys) ≡ returns_in xs + returns_in ys
unfolding returns_in
returns_both xs ys = total_both _ xs ys

returns_other : (b : ℕ) → eqb b 13 ≡ false → returns_in (b ∷ []) ≡ 0
unfolding returns_in total
returns_other b e = rw e refl

returns_end : (b : ℕ) → eqb b 13 ≡ false → returns_in (13 ∷ b ∷ []) ≡ 1
unfolding returns_in total
returns_end b e = rw e refl

module _ (withReturn : ℕ → Bool) (u : List ℕ) where
  -- up to each place of the line so many CRs stand in the text as on the lines before it
  abbrev Counted : ℕ → Line → Type 0
  Counted n l = (k : ℕ) → k ≤ length l.text → returns_in (take (l.start + k) u) ≡ returns_before withReturn n

  -- the front of the text before a place of it
  front_counted : (before rest : List ℕ) (at n : ℕ) → u ≡ before ++ rest → length before ≡ at → returns_in before ≡ returns_before withReturn n
      → returns_in (take at u) ≡ returns_before withReturn n
  front_counted before rest at n e l r =
      let q : take (length before) u ≡ before = rw e (take-append_seam before rest) in
      rw (← l, q) r

  end_counted : (n at : ℕ) → returns_in (take at u) ≡ returns_before withReturn n → Counted n (end_at at)
  end_counted n at r zero h = let q : at + 0 ≡ at = omega arith in rw q r
  end_counted n at r (suc k) h = absurd (omega arith)

  -- a byte more in front of a line that begins behind it
  on_counted : (n at b : ℕ) (ls : List Line) → ((l : Line) (ms : List Line) → ls ≡ l ∷ ms → l.start ≡ at + 1)
      → returns_in (take at u) ≡ returns_before withReturn n → returns_in (take (at + 1) u) ≡ returns_before withReturn n → Each Counted n ls → Each Counted n (on_line at b ls)
  unfolding on_line
  on_counted n at b [] starts here next g = (one, tt)
    where
      one : Counted n (record { start = at; text = b ∷ []; ended = false })
      one zero h = let q : at + 0 ≡ at = omega arith in rw q here
      one (suc zero) h = next
      one (suc (suc k)) h = absurd (omega arith)
  on_counted n at b (l ∷ ms) starts here next g = (one, g.1)
    where
      one : Counted n (record { start = at; text = b ∷ l.text; ended = l.ended })
      one zero h = let q : at + 0 ≡ at = omega arith in rw q here
      one (suc k) h = let q : at + suc k ≡ l.start + k = omega (arith, starts l ms refl) in rw q (g.0 k (omega arith))

  first_starts : (at : ℕ) (xs : List ℕ) (l : Line) (ms : List Line) → lines_from at xs ≡ l ∷ ms → l.start ≡ at
  unfolding lines_from with_byte on_line
  first_starts at [] l ms e = absurd (let z : ◌≡◌ {A = ℕ} 0 1 = cc in omega arith)
  first_starts at (b ∷ bs) l ms e = go (return_before_feed b (next_byte bs)) (eqb b 10) (lines_from (at + 1) bs) e
    where
      go : (r f : Bool) (ls : List Line) → cond r (end_at at ∷ drop 1 ls) (cond f (end_at at ∷ ls) (on_line at b ls)) ≡ l ∷ ms → l.start ≡ at
      go true f ls q = let z : end_at at ≡ l = cc in ap (λ x. x.start) (sym z)
      go false true ls q = let z : end_at at ≡ l = cc in ap (λ x. x.start) (sym z)
      go false false [] q = let z : record { start = at; text = b ∷ []; ended = false } ≡ l = cc in ap (λ x. x.start) (sym z)
      go false false (m ∷ ks) q = let z : record { start = at; text = b ∷ m.text; ended = m.ended } ≡ l = cc in ap (λ x. x.start) (sym z)

  counted : (n : ℕ) (before xs : List ℕ) (at : ℕ) → length before ≡ at → 1 ≤ n → no_return xs ≡ true → u ≡ before ++ office_from withReturn n xs
      → returns_in before ≡ returns_before withReturn n → Each Counted n (lines_from at (office_from withReturn n xs))
  counted n before [] at l h none e r = rw (office_none withReturn n, lines_none at) tt
  counted n before (b ∷ bs) at l h none e r =
      go (eqb b 10) refl (withReturn n) refl
      (λ f w. counted (n + 1) (before ++ (13 ∷ b ∷ [])) bs (at + 1 + 1) (omega (arith, length-append before (13 ∷ b ∷ []))) (omega arith) (other b bs none).1
      (onto (13 ∷ b ∷ []) (office_from withReturn (n + 1) bs) (rw (office_return withReturn n b bs f w) at e))
      (more (13 ∷ b ∷ []) (n + 1) (let m = rw w at (before_more withReturn n h) in omega (arith, m, returns_end b (feed_no_return b f)))))
      (λ f w. counted (n + 1) (before ++ (b ∷ [])) bs (at + 1) (omega (arith, length-append before (b ∷ []))) (omega arith) (other b bs none).1
      (onto (b ∷ []) (office_from withReturn (n + 1) bs) (rw (office_feed withReturn n b bs f w) at e))
      (more (b ∷ []) (n + 1) (let m = rw w at (before_more withReturn n h) in omega (arith, m, returns_other b (feed_no_return b f)))))
      (λ f. counted n (before ++ (b ∷ [])) bs (at + 1) (omega (arith, length-append before (b ∷ []))) h (other b bs none).1
      (onto (b ∷ []) (office_from withReturn n bs) (rw (office_on withReturn n b bs f) at e)) (same f))
    where
      onto : (piece rest : List ℕ) → u ≡ before ++ (piece ++ rest) → u ≡ (before ++ piece) ++ rest
      onto piece rest q = q ∙ sym (append_assoc before piece rest)

      more : (piece : List ℕ) (m : ℕ) → returns_before withReturn n + returns_in piece ≡ returns_before withReturn m → returns_in (before ++ piece) ≡ returns_before withReturn m
      more piece m q = omega (arith, returns_both before piece, r)

      same : eqb b 10 ≡ false → returns_in (before ++ (b ∷ [])) ≡ returns_before withReturn n
      same f = more (b ∷ []) n (omega (arith, returns_other b (other b bs none).0))

      here : returns_in (take at u) ≡ returns_before withReturn n
      here = front_counted before (office_from withReturn n (b ∷ bs)) at n e l r

      go : (f : Bool) → eqb b 10 ≡ f → (w : Bool) → withReturn n ≡ w
          → (eqb b 10 ≡ true → withReturn n ≡ true → Each Counted (n + 1) (lines_from (at + 1 + 1) (office_from withReturn (n + 1) bs)))
          → (eqb b 10 ≡ true → withReturn n ≡ false → Each Counted (n + 1) (lines_from (at + 1) (office_from withReturn (n + 1) bs)))
          → (eqb b 10 ≡ false → Each Counted n (lines_from (at + 1) (office_from withReturn n bs)))
          → Each Counted n (lines_from at (office_from withReturn n (b ∷ bs)))
      go true f true w ended fed on =
          rw (office_return withReturn n b bs f w, lines_return at b (office_from withReturn (n + 1) bs) f) (end_counted n at here, ended f w)
      go true f false w ended fed on =
          rw (office_feed withReturn n b bs f w, lines_feed at b (office_from withReturn (n + 1) bs) f) (end_counted n at here, fed f w)
      go false f w v ended fed on =
          let next : returns_in (take (at + 1) u) ≡ returns_before withReturn n =
          front_counted (before ++ (b ∷ [])) (office_from withReturn n bs) (at + 1) n (onto (b ∷ []) (office_from withReturn n bs) (rw (office_on withReturn n b bs f) at e))
          (omega (arith, length-append before (b ∷ []), l)) (same f) in
          rw (office_on withReturn n b bs f, lines_on at b (office_from withReturn n bs) f (other b bs none).0)
          (on_counted n at b (lines_from (at + 1) (office_from withReturn n bs)) (first_starts (at + 1) (office_from withReturn n bs)) here next (on f))

-- ---- the fields

-- before a value that is not empty so many CRs stand as on the lines before its own
unfoldable pub moved_by_returns : (ℕ → Bool) → List ℕ → Field → Bool
moved_by_returns withReturn u f = is_empty f.value || eqb (returns_in (take f.start u)) (returns_to withReturn (f.line - 1))

field_counted : (withReturn : ℕ → Bool) (u : List ℕ) (st s : State) (n : ℕ) (l : Line) (f : Field) → Counted withReturn u n l → FieldOf st n l s f
    → moved_by_returns withReturn u f ≡ true
unfolding moved_by_returns returns_before
field_counted withReturn u st s n l f g d = go (is_empty f.value) refl
  where
    go : (x : Bool) → is_empty f.value ≡ x → (x || eqb (returns_in (take f.start u)) (returns_to withReturn (f.line - 1))) ≡ true
    go true e = refl
    go false e =
        let some : length f.value ≡ 0 → ⊥ = eqb-false (length f.value) 0 e in
        let held : length f.value ≡ length (drop d.behind l.text) = ap length d.value in
        let within : d.behind ≤ length l.text = omega (arith, some, held, length-drop d.behind l.text) in
        eq-eqb (returns_in (take f.start u)) (returns_to withReturn (f.line - 1)) (rw (d.starts, d.line) (g d.behind within))

none_yet : (withReturn : ℕ → Bool) → returns_in [] ≡ returns_before withReturn 1
unfolding returns_in total returns_before returns_to
none_yet withReturn = refl

pub fields_counted : (withReturn : ℕ → Bool) (t : List ℕ) (fs : List Field) → no_return t ≡ true → page_of (office withReturn t) ≡ fields fs
    → all_of (moved_by_returns withReturn (office withReturn t)) fs ≡ true
unfolding page_of office
fields_counted withReturn t fs none e =
    every (moved_by_returns withReturn (office withReturn t)) (Counted withReturn (office withReturn t)) (field_counted withReturn (office withReturn t)) before_first 1
    (lines_from 0 (office_from withReturn 1 t)) fs (counted withReturn (office withReturn t) 1 [] t 0 refl (omega arith) none refl (none_yet withReturn)) e
