-- What the functions of this crate need, as plain laws: the facts that a place in the code has, and what is to be shown there.
use mathlib.Core.Path.{◌≡◌, refl, ◌∙◌}
use mathlib.Core.Bool.{Bool, true, false}
use mathlib.Core.List.{List}
use Prim.Native.Nat.{ℕ, ◌+◌, ◌*◌, ◌-◌, ◌/◌, ◌^◌, ◌<◌, ◌≤◌}
use native.Mathlib.Omega.{arith}
use lib.Dec.{eqb, ltb, leb}
use borrow.Author.Tests.{eq-eqb, ne_eqb, lt-ltb, le-ltb, ltb-true, ltb-false}
use native.Mathlib.Nat.{div-eq_of_lt, div-lt_iff_lt-mul}
use lib.Pow.{pow_pos}
use Rattle.paper.specs.Table.{set_at, first_domain_word, word, subject_domain_count, function_count, element_listed}
use Rattle.laws.proofs.Tests.{ltb_shifted}
use Rattle.table_blocks.specs.Parts.{used_bits, set_word_fits}

module _ (ws : List ℕ) (w : ℕ) where
  pub listed_function : (functions : ℕ) → functions ≡ function_count ws → w < first_domain_word → leb w functions ≡ element_listed ws w
  unfolding element_listed
  listed_function functions f h = rw (f, lt-ltb w first_domain_word h)

  pub listed_domain : (domains : ℕ) → domains ≡ subject_domain_count ws → first_domain_word ≤ w → ltb (w - first_domain_word) domains ≡ element_listed ws w
  unfolding element_listed
  listed_domain domains d h = rw (d, le-ltb w first_domain_word h) (ltb_shifted first_domain_word w (subject_domain_count ws) h)

-- a word has no bit from the k-th up
shifted_out : (w k : ℕ) → eqb (w / 2 ^ k) 0 ≡ ltb w (2 ^ k)
shifted_out w k = go (ltb w (2 ^ k)) refl
  where
    go : (b : Bool) → ltb w (2 ^ k) ≡ b → eqb (w / 2 ^ k) 0 ≡ b
    go true h = eq-eqb _ 0 (div-eq_of_lt (ltb-true w (2 ^ k) h))
    go false h =
        let l : 2 ^ k ≤ w = ltb-false w (2 ^ k) h in
        ne_eqb _ 0 (λ (z : w / 2 ^ k ≡ 0). let m : w < 1 * 2 ^ k = (div-lt_iff_lt-mul {x = w} {y = 1} (pow_pos k)).0 (omega arith) in omega arith)

pub set_word :
    (ws : List ℕ) (at domains j every used w : ℕ) → every ≡ word ws at → used ≡ used_bits every domains j → w ≡ word ws (at + set_at + j)
    → eqb (w / 2 ^ used) 0 ≡ set_word_fits ws at domains j
set_word ws at domains j every used w a u e = shifted_out w used ∙ rw (e, u, a)
