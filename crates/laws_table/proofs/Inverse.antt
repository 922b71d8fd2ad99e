-- A proper policy and a well-formed table determine each other.
use mathlib.Core.Path.{◌≡◌, sym, ap, ◌∙◌}
use mathlib.Core.Bool.{true}
use mathlib.Core.List.{List, ◌++◌}
use Prim.Native.Nat.{ℕ, ◌≤◌}
use native.Mathlib.Omega.{arith}
use lib.ListN.{length, take, length-append}
use Rattle.paper.specs.Limits.{table_words}
use Rattle.paper.specs.Policy.{Policy}
use Rattle.paper.specs.Table.{words_of, policy_in, well_formed}
use Rattle.laws.proofs.Stretches.{stands_front, taken_stretch}
use Rattle.laws_table.specs.Proper.{proper}
use Rattle.laws_table.proofs.Parts.{Proper, proper_is, is_proper, Parts, table_parts, table_whole, length_words}
use Rattle.laws_table.proofs.Reading.{policy_read_lem}
use Rattle.laws_table.proofs.Held.{formed_proper, formed_parts}
use Rattle.laws_table.proofs.Forming.{parts_formed}
use Rattle.laws_table.proofs.Formed.{Formed, formed, is_formed}

-- ---- from a policy to its words

module _ (p : Policy) (good : proper p ≡ true) where
  pub words_length : length (words_of p) ≡ table_words
  words_length = length_words p (proper_is p good)

  words_long : (rest : List ℕ) → table_words ≤ length (words_of p ++ rest)
  words_long rest = rw (length-append, words_length) (omega arith)

  words_parts : (rest : List ℕ) → Parts (words_of p ++ rest) p
  words_parts rest = table_parts p (proper_is p good) (words_of p ++ rest) (stands_front (words_of p) rest)

  -- the policy of a policy's words, whatever follows them
  pub policy_of_words : (rest : List ℕ) → policy_in (words_of p ++ rest) ≡ p
  policy_of_words rest = policy_read_lem p (proper_is p good) (words_of p ++ rest) (words_long rest) (words_parts rest)

  -- and they are well formed
  pub words_well_formed : (rest : List ℕ) → well_formed (words_of p ++ rest) ≡ true
  words_well_formed rest =
      let e : policy_in (words_of p ++ rest) ≡ p = policy_of_words rest in
      is_formed (words_of p ++ rest) (parts_formed (words_of p ++ rest) (words_long rest) (rw e (proper_is p good)) (rw e (words_parts rest)))

-- ---- from a table to its policy

module _ (ws : List ℕ) (h : well_formed ws ≡ true) where
  -- what is well formed holds a proper policy
  pub policy_proper : proper (policy_in ws) ≡ true
  policy_proper = is_proper (policy_in ws) (formed_proper ws (formed ws h))

  -- and is, up to 16,384 words, that policy's words
  pub words_of_policy : take table_words ws ≡ words_of (policy_in ws)
  words_of_policy =
      let f : Formed ws = formed ws h in
      let good : Proper (policy_in ws) = formed_proper ws f in
      taken_stretch ws 0 table_words (words_of (policy_in ws)) (length_words (policy_in ws) good) f.long (table_whole (policy_in ws) good ws (formed_parts ws f))

-- two tables that hold one policy hold the same words
pub tables_agree : (a b : List ℕ) → well_formed a ≡ true → well_formed b ≡ true → policy_in a ≡ policy_in b → take table_words a ≡ take table_words b
tables_agree a b p q e = words_of_policy a p ∙ ap words_of e ∙ sym (words_of_policy b q)

-- what lies past them is never read
pub rest_unread : (ws : List ℕ) → well_formed ws ≡ true → (rest : List ℕ) → (well_formed (take table_words ws ++ rest) ≡ true) × (policy_in (take table_words ws ++ rest) ≡ policy_in ws)
rest_unread ws h rest =
    rw (words_of_policy ws h) (words_well_formed (policy_in ws) (policy_proper ws h) rest, policy_of_words (policy_in ws) (policy_proper ws h) rest)
