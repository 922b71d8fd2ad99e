-- A page: its fields are readable, and the line of its refusal is one that a number of 32 bits holds.
use mathlib.Core.Path.{◌≡◌, refl, sym}
use mathlib.Core.Bool.{Bool, true, false, cond}
use mathlib.Core.List.{List}
use Prim.Native.Nat.{ℕ, zero, suc, ◌<◌, ◌≤◌}
use native.Mathlib.Omega.{arith}
use mir.Syntax.{w32}
use mir.Val.{Fits}
use lib.Dec.{ltb}
use lib.ListN.{length}
use borrow.Author.Tests.{ltb-true, ltb-false}
use Rattle.paper.specs.Limits.{text_bytes}
use Rattle.paper.specs.Text.{bad_byte_line, lines}
use Rattle.paper.specs.Page.{Field, Outcome, fields, fault, before_first, page_of}
use Rattle.paper.specs.Rules.{unless_line}
use Rattle.paper.specs.Promises.{text_page}
use Rattle.laws_page.proofs.Steps.{Bounded, lines_few}
use Rattle.laws_page.proofs.Right.{fields_right, fields_numbered, fields_low}
use Rattle.text_page.proofs.Texts.{page_bounded, bad_within}
use Rattle.file_read.specs.Readable.{is_low, Readable}
use Rattle.file_read.proofs.Spacing.{all_spaced_well}

page_readable : (t : List ℕ) (fs : List Field) → length t ≤ text_bytes → page_of t ≡ fields fs → Readable fs
unfolding page_of is_low
page_readable t fs h e =
    record {
      spaced = all_spaced_well fs (fields_right before_first 1 (lines t) fs e);
      numbered = fields_numbered before_first 1 (lines t) fs (omega arith) e;
      low = fields_low text_bytes before_first 1 (lines t) fs (omega (arith, lines_few 0 t)) e;
    }

page_fault_low : (t : List ℕ) (k m : ℕ) → length t ≤ text_bytes → page_of t ≡ fault k m → m ≤ 65537
page_fault_low t k m h e = let b : Bounded 1 (length (lines t)) k m = page_bounded t k m e in omega (arith, b.within, lines_few 0 t)

-- what a text's page is, by its three cases
module _ (t : List ℕ) where
  text_cases : {A : Type 0} (o : Outcome) → o ≡ text_page t
      → (text_bytes < length t → o ≡ fault 2 0 → A)
      → ((b : ℕ) → length t ≤ text_bytes → suc b ≡ bad_byte_line 1 t → o ≡ fault 3 (suc b) → A)
      → (length t ≤ text_bytes → o ≡ page_of t → A) → A
  unfolding text_page unless_line
  text_cases {A} o e long bad page = go (ltb text_bytes (length t)) refl (bad_byte_line 1 t) refl e
    where
      go : (x : Bool) → ltb text_bytes (length t) ≡ x → (y : ℕ) → bad_byte_line 1 t ≡ y → o ≡ cond x (fault 2 0) (unless_line 3 y (page_of t)) → A
      go true p y q r = long (ltb-true text_bytes (length t) p) r
      go false p zero q r = page (ltb-false text_bytes (length t) p) r
      go false p (suc y) q r = bad y (ltb-false text_bytes (length t) p) (sym q) r

  pub text_readable : (fs : List Field) → fields fs ≡ text_page t → Readable fs
  text_readable fs e =
      text_cases (fields fs) e
      (λ h f. absurd (let z : ◌≡◌ {A = ℕ} 0 1 = cc in omega arith))
      (λ b h q f. absurd (let z : ◌≡◌ {A = ℕ} 0 1 = cc in omega arith))
      (λ h f. page_readable t fs h (sym f))

  pub text_page_lem : (fs : List Field) → fields fs ≡ text_page t → page_of t ≡ fields fs
  text_page_lem fs e =
      text_cases (fields fs) e
      (λ h f. absurd (let z : ◌≡◌ {A = ℕ} 0 1 = cc in omega arith))
      (λ b h q f. absurd (let z : ◌≡◌ {A = ℕ} 0 1 = cc in omega arith))
      (λ h f. sym f)

  pub text_short : (fs : List Field) → fields fs ≡ text_page t → length t ≤ text_bytes
  text_short fs e =
      text_cases (fields fs) e
      (λ h f. absurd (let z : ◌≡◌ {A = ℕ} 0 1 = cc in omega arith))
      (λ b h q f. h)
      (λ h f. h)

  pub text_fault_fits : (k m : ℕ) → fault k m ≡ text_page t → Fits w32 m
  text_fault_fits k m e =
      text_cases (fault k m) e
      (λ h f. let z : m ≡ 0 = cc in omega arith)
      (λ b h q f. let z : m ≡ suc b = cc in omega (arith, bad_within 1 t))
      (λ h f. omega (arith, page_fault_low t k m h (sym f)))
