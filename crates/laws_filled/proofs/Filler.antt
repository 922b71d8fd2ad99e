-- What the filler leaves in its output, by its answer: document 01, "Numbers that come back", sentence by sentence.
use mathlib.Core.Path.{◌≡◌, refl, sym, ap, ◌∙◌}
use mathlib.Core.List.{List, ◌++◌}
use mathlib.Core.Bool.{Bool, true, false, cond}
use Prim.Native.Nat.{ℕ, ◌≤◌}
use native.Mathlib.Omega.{arith}
use lib.Dec.{ltb}
use lib.ListN.{length, take, drop, length-append, length-drop}
use lib.Seq.{take_at, drop_at}
use borrow.Author.Tests.{ltb-false}
use Rattle.paper.specs.declared.Filling.{Filling}
use Rattle.paper.specs.declared.Filling.TheVariants.{Written, Unfilled}
use Rattle.paper.specs.Limits.{text_bytes}
use Rattle.paper.specs.Text.{no_line}
use Rattle.paper.specs.Page.{Field, Outcome, fields, fault}
use Rattle.paper.specs.Filled.{filled_text}
use Rattle.paper.specs.Promises.{file_of, written_in, filling_of, fill_answer, fill_leaves}

-- ---- a filler that did not refuse: the text was accepted, and the filled text is what it wrote

pub record Filled (t out : List ℕ) (size : ℕ) : Type 0 where
  pub fs : List Field
  pub accepted : file_of t ≡ fields fs
  pub short : length (filled_text fs) ≤ text_bytes
  pub sized : length (filled_text fs) ≡ size
  pub room : size ≤ length out
  pub left : fill_leaves t out ≡ filled_text fs ++ drop size out

written_in_lem : (room n size : ℕ) → written_in room n ≡ Written size → (n ≤ text_bytes) × (n ≤ room) × (n ≡ size)
unfolding written_in
written_in_lem room n size h = go (ltb text_bytes n) (ltb room n) refl refl h
  where
    go : (a b : Bool) → ltb text_bytes n ≡ a → ltb room n ≡ b → cond a (Unfilled 31 no_line) (cond b (Unfilled 30 no_line) (Written n)) ≡ Written size
        → (n ≤ text_bytes) × (n ≤ room) × (n ≡ size)
    go true b e d k = absurd (let z : ◌≡◌ {A = ℕ} 0 1 = cc in omega arith)
    go false true e d k = absurd (let z : ◌≡◌ {A = ℕ} 0 1 = cc in omega arith)
    go false false e d k = (ltb-false text_bytes n e, ltb-false room n d, cc)

pub was_filled : (t out : List ℕ) (size : ℕ) → fill_answer t out ≡ Written size → Filled t out size
unfolding fill_answer fill_leaves
was_filled t out size h = go (file_of t) refl h
  where
    go : (o : Outcome) → file_of t ≡ o → filling_of (length out) o ≡ Written size → Filled t out size
    go (fields fs) e k =
        let w = written_in_lem (length out) (length (filled_text fs)) size k in
        record { fs = fs; accepted = e; short = w.0; sized = w.2; room = omega (arith, w.1, w.2); left = rw (h, e) refl }
    go (fault number line) e k = absurd (let z : ◌≡◌ {A = ℕ} 0 1 = cc in omega arith)

module _ (t out : List ℕ) (size : ℕ) (h : fill_answer t out ≡ Written size) where
  -- the filled text stands at the front of the output
  pub left_text : take size (fill_leaves t out) ≡ filled_text (was_filled t out size h).fs
  left_text =
      let w = was_filled t out size h in
      rw w.left (take_at (filled_text w.fs) (drop size out) size w.sized)

  -- "bytes past the filled text, never change"
  pub past_unchanged : drop size (fill_leaves t out) ≡ drop size out
  past_unchanged =
      let w = was_filled t out size h in
      rw w.left (drop_at (filled_text w.fs) (drop size out) size w.sized)

-- "on refusal its output is untouched"
pub refused_untouched : (t out : List ℕ) (number line : ℕ) → fill_answer t out ≡ Unfilled number line → fill_leaves t out ≡ out
unfolding fill_leaves
refused_untouched t out number line h = rw h refl

-- the output is as long as it was
pub length_kept : (t out : List ℕ) → length (fill_leaves t out) ≡ length out
length_kept t out = go (fill_answer t out) refl
  where
    go : (a : Filling) → fill_answer t out ≡ a → length (fill_leaves t out) ≡ length out
    go (Written size) h =
        let w = was_filled t out size h in
        ap length w.left ∙ length-append (filled_text w.fs) (drop size out) ∙ omega (arith, w.sized, w.room, length-drop size out)
    go (Unfilled number line) h = ap length (refused_untouched t out number line h)

-- "any two results satisfying it agree": the answer and every byte lent, refused calls as well
pub fillings_agree : (t out : List ℕ) (a a' : Filling) (left left' : List ℕ)
    → (a ≡ fill_answer t out) × (left ≡ fill_leaves t out) → (a' ≡ fill_answer t out) × (left' ≡ fill_leaves t out) → (a ≡ a') × (left ≡ left')
fillings_agree t out a a' left left' p q = (p.0 ∙ sym q.0, p.1 ∙ sym q.1)
