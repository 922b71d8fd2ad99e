-- The descriptors of each entry, the whole test in the order of the code, and that words past a table tell nothing.
use mathlib.Core.Path.{◌≡◌, refl, sym, ◌∙◌}
use mathlib.Core.Bool.{Bool, true, false, not, ◌&&◌, and_assoc, false≢true}
use mathlib.Core.List.{List, [], ◌++◌, append-nil}
use Prim.Native.Nat.{ℕ, ◌+◌, ◌<◌, ◌≤◌}
use lib.Dec.{eqb, leb}
use lib.ListN.{length, take, drop, length-take, take-append-drop}
use lib.Seq.{take-take}
use native.Mathlib.Omega.{arith}
use borrow.Author.Tests.{leb-true}
use Rattle.laws_table.proofs.Inverse.{rest_unread}
use Rattle.laws.proofs.Tests.{both_left, both_right, tests_again, test_fails}
use Rattle.paper.specs.Common.{up_to}
use Rattle.paper.specs.Limits.{most_entries, table_words}
use Rattle.paper.specs.Table.{mark_at, mark, word, entry_at, entry_count, read_count, write_count, first_descriptor, counts_fit, well_formed}
use Rattle.table_blocks.specs.Parts.{descriptors_bound, entry_bound, blocks_fit, rest_fits}

module _ (ws : List ℕ) (k at first n : ℕ) (r : Bool) (begins : first ≡ first_descriptor ws k) (stands : at ≡ entry_at k) (counted : n ≡ read_count ws k + write_count ws k)
    (told : r ≡ descriptors_bound ws at first n) where
  told_of_entry : r ≡ entry_bound ws k
  told_of_entry = rw (← counted, ← stands, ← begins) told

  pub entry_unbound : (entries : ℕ) → k < entries → not r ≡ true → false ≡ up_to (entry_bound ws) entries
  entry_unbound entries l h = test_fails (entry_bound ws) entries k r l told_of_entry h

  pub entry_bound_lem : up_to (entry_bound ws) k ≡ true → not r ≡ false → up_to (entry_bound ws) (k + 1) ≡ true
  entry_bound_lem inv h = tests_again (entry_bound ws) k r inv told_of_entry h

pub entries_few : (ws : List ℕ) (n : ℕ) → counts_fit ws ≡ true → n ≡ entry_count ws → n ≤ most_entries
unfolding counts_fit
entries_few ws n f q = rw q (leb-true _ most_entries (search (both_left, both_right) depth 10))

pub whole : (ws : List ℕ) → well_formed ws ≡ (leb table_words (length ws) && eqb (word ws mark_at) mark && counts_fit ws && blocks_fit ws && rest_fits ws)
unfolding well_formed blocks_fit rest_fits
whole ws = simp and_assoc

pub first_words_long : (ws : List ℕ) → table_words ≤ length ws → length (take table_words ws) ≡ table_words
first_words_long ws l = omega (arith, length-take table_words ws)

pub first_words_enough : (ws : List ℕ) → table_words ≤ length ws → table_words ≤ length (take table_words ws)
first_words_enough ws l = omega (arith, first_words_long ws l)

-- the words past those of a table tell nothing
first_words_tell : (ws : List ℕ) → table_words ≤ length ws → well_formed (take table_words ws) ≡ well_formed ws
first_words_tell ws l = go (well_formed (take table_words ws)) refl (well_formed ws) refl
  where
    more : well_formed (take table_words ws) ≡ true → well_formed ws ≡ true
    more h =
        let all : take table_words (take table_words ws) ++ drop table_words ws ≡ ws = rw (take-take table_words table_words ws (omega arith)) (take-append-drop table_words ws) in
        rw all at (rest_unread (take table_words ws) h (drop table_words ws)).0

    fewer : well_formed ws ≡ true → well_formed (take table_words ws) ≡ true
    fewer h = rw (append-nil (take table_words ws)) at (rest_unread ws h []).0

    go : (a : Bool) → well_formed (take table_words ws) ≡ a → (b : Bool) → well_formed ws ≡ b → well_formed (take table_words ws) ≡ well_formed ws
    go true e b f = e ∙ sym (more e)
    go false e true f = absurd (false≢true (sym e ∙ fewer f))
    go false e false f = e ∙ sym f

pub first_words_decide : (ws : List ℕ) (r : Bool) → table_words ≤ length ws → r ≡ well_formed (take table_words ws) → r ≡ well_formed ws
first_words_decide ws r l e = e ∙ first_words_tell ws l
