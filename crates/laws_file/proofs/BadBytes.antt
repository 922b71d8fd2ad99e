-- 3: byte after byte, each LF one line on.
use mathlib.Core.Path.{◌≡◌, refl, sym, ap, ◌∙◌}
use mathlib.Core.List.{List, [], ◌∷◌, ◌++◌}
use mathlib.Core.Bool.{Bool, true, false, cond}
use mathlib.Core.Logic.{⊎_elim}
use Prim.Native.Nat.{ℕ, zero, suc, ◌+◌, ◌≤◌}
use native.Mathlib.Omega.{arith}
use lib.Dec.{eqb}
use Rattle.paper.specs.Text.{line_feed, next_byte, may_stand, bad_byte_line}
use Rattle.laws.specs.Standing.{all_stand}
use Rattle.laws.proofs.Standing.{none_bad, all_stand_lem}
use Rattle.laws_file.specs.Rules.{total}
use Rattle.laws_file.specs.AtFault.{feed, BadByte}
use Rattle.laws_file.proofs.Smallest.{Finds, same_faults, split_none, split_more}
use Rattle.laws_file.proofs.Stands.{not_both}

-- a byte more in front
module _ (n b : ℕ) (bs : List ℕ) where
  fed : (x : ℕ) → cond (eqb b line_feed) (n + 1) n + x ≡ n + (feed b + x)
  fed x = go (eqb b line_feed)
    where
      go : (t : Bool) → cond t (n + 1) n + x ≡ n + (cond t 1 0 + x)
      go true = omega arith
      go false = omega arith

  bad_behind : (m : ℕ) → BadByte (cond (eqb b line_feed) (n + 1) n) bs m → BadByte n (b ∷ bs) m
  unfolding total
  bad_behind m o = record {
    before = b ∷ o.before;
    byte = o.byte;
    behind = o.behind;
    splits = ap (λ (l : List ℕ). b ∷ l) o.splits;
    number = o.number ∙ fed (total feed o.before);
    bad = o.bad;
  }

  bad_rest : may_stand b (next_byte bs) ≡ true → (m : ℕ) → BadByte n (b ∷ bs) m → BadByte (cond (eqb b line_feed) (n + 1) n) bs m
  unfolding total
  bad_rest e m o =
      ⊎_elim
      (λ (p : (o.before ≡ []) × (b ≡ o.byte)).
      let s : b ∷ bs ≡ o.byte ∷ o.behind = rw p.0 at o.splits in
      let q : bs ≡ o.behind = cc in
      absurd (not_both (rw (p.1, q) at e) o.bad))
      (λ (p : (rest : List ℕ) × (o.before ≡ b ∷ rest) × (bs ≡ rest ++ (o.byte ∷ o.behind))).
      record { before = p.0; byte = o.byte; behind = o.behind; splits = p.2; number = (rw p.1 at o.number) ∙ sym (fed (total feed p.0)); bad = o.bad })
      (split_more b bs o.before o.behind o.byte o.splits)

  still_numbered : 1 ≤ n → 1 ≤ cond (eqb b line_feed) (n + 1) n
  still_numbered h = go (eqb b line_feed)
    where
      go : (t : Bool) → 1 ≤ cond t (n + 1) n
      go true = omega arith
      go false = h

  bad_here : may_stand b (next_byte bs) ≡ false → 1 ≤ n → Finds (BadByte n (b ∷ bs)) n
  unfolding total
  bad_here e h = record {
    found = λ p. record { before = []; byte = b; behind = bs; splits = refl; number = omega arith; bad = e };
    first = λ m o. (h, omega (arith, o.number));
  }

pub bad_finds : (n : ℕ) (t : List ℕ) → 1 ≤ n → Finds (BadByte n t) (bad_byte_line n t)
unfolding bad_byte_line
bad_finds n [] h = record { found = λ p. absurd (omega arith); first = λ m o. absurd (split_none o.before o.behind o.byte o.splits) }
bad_finds n (b ∷ bs) h = go (may_stand b (next_byte bs)) refl (bad_finds (cond (eqb b line_feed) (n + 1) n) bs (still_numbered n b bs h))
  where
    go : (t : Bool) → may_stand b (next_byte bs) ≡ t → Finds (BadByte (cond (eqb b line_feed) (n + 1) n) bs) (bad_byte_line (cond (eqb b line_feed) (n + 1) n) bs)
        → Finds (BadByte n (b ∷ bs)) (cond t (bad_byte_line (cond (eqb b line_feed) (n + 1) n) bs) n)
    go true e ih = same_faults _ (bad_behind n b bs) (bad_rest n b bs e) ih
    go false e ih = bad_here n b bs e h

-- every byte may stand exactly where none is bad
pub bytes_good : (t : List ℕ) → all_stand t ≡ true → (m : ℕ) → BadByte 1 t m → ⊥
bytes_good t h m o = omega (arith, ((bad_finds 1 t (omega arith)).first m o).0, none_bad 1 t h)

pub good_bytes : (t : List ℕ) → ((m : ℕ) → BadByte 1 t m → ⊥) → all_stand t ≡ true
good_bytes t h = all_stand_lem 1 t (omega arith) (go (bad_byte_line 1 t) refl)
  where
    go : (n : ℕ) → bad_byte_line 1 t ≡ n → n ≡ 0
    go zero e = refl
    go (suc n) e = absurd (h (bad_byte_line 1 t) ((bad_finds 1 t (omega arith)).found (omega arith)))
