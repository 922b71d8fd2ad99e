-- The walk over words: what is written and what is left to write is the whole.
use mathlib.Core.Path.{◌≡◌, refl, sym, ap, ◌∙◌}
use mathlib.Core.Bool.{Bool, true, false, cond}
use mathlib.Core.List.{List, [], ◌∷◌, ◌++◌}
use Prim.Native.Nat.{ℕ, suc, ◌+◌, ◌<◌, ◌≤◌}
use native.Mathlib.Numerals.{add-one}
use native.Mathlib.Omega.{arith}
use lib.Dec.{ltb}
use lib.Seq.{sets, sets-eq}
use lib.ListN.{length, get_or, drop, set, drop_of_length-le}
use borrow.Author.Tests.{lt-ltb, le-ltb}
use Rattle.paper.specs.Table.{with_domain}
use Rattle.laws.proofs.Places.{drop_more}
use Rattle.laws.proofs.Sets.{length_after_insert}
use Rattle.file_blocks.specs.Written.{put_from, with_word, with_words}

-- ---- one domain

module _ (n : ℕ) (domains : List ℕ) (d : ℕ) where
  pub no_domain : n ≤ d → domains ≡ with_word n domains d
  unfolding with_word
  no_domain h = rw (le-ltb d n h) refl

  pub one_domain_lem : (left : List ℕ) → d < n → left ≡ with_domain domains d → left ≡ with_word n domains d
  unfolding with_word
  one_domain_lem left h f = rw (lt-ltb d n h) f

  word_long : length (with_word n domains d) ≡ length domains
  unfolding with_word
  word_long = go (ltb d n)
    where
      go : (t : Bool) → length (cond t (with_domain domains d) domains) ≡ length domains
      go true = length_after_insert domains d
      go false = refl

  pub domains_long : (more start : List ℕ) → more ≡ with_word n domains d → length domains ≡ length start → length more ≡ length start
  domains_long more start e l = ap length e ∙ word_long ∙ l

-- ---- words that are copied

one_by_one : (i : ℕ) (ws out : List ℕ) → put_from i ws out ≡ sets out i ws
unfolding put_from
one_by_one i [] out = refl
one_by_one i (w ∷ ws) out = rw add-one (one_by_one (suc i) ws (set out i w))

pub copied : (s out : List ℕ) → length s ≤ length out → s ++ drop (length s) out ≡ put_from 0 s out
copied s out h = sym (one_by_one 0 s out ∙ sets-eq s out 0 (omega (arith, h)) ∙ (let z : 0 + length s ≡ length s = omega arith in rw z refl))

-- ---- the walk

module _ (s : List ℕ) (i : ℕ) where
  module _ (out whole : List ℕ) (inv : put_from i (drop i s) out ≡ whole) where
    pub copy_done : length s ≤ i → out ≡ whole
    unfolding put_from
    copy_done h = rw (drop_of_length-le s h) at inv

    pub copy_again : i < length s → put_from (i + 1) (drop (i + 1) s) (set out i (get_or s i 0)) ≡ whole
    unfolding put_from
    copy_again h = rw (drop_more s i h) at inv

  module _ (n : ℕ) (domains whole : List ℕ) (inv : with_words n domains (drop i s) ≡ whole) where
    pub domains_done : length s ≤ i → domains ≡ whole
    unfolding with_words
    domains_done h = rw (drop_of_length-le s h) at inv

    pub domains_again : (more : List ℕ) → i < length s → more ≡ with_word n domains (get_or s i 0) → with_words n more (drop (i + 1) s) ≡ whole
    unfolding with_words
    domains_again more h e =
        let p : with_words n (with_word n domains (get_or s i 0)) (drop (i + 1) s) ≡ whole = rw (drop_more s i h) at inv in
        rw e p
