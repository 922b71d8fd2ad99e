-- What the reader answers and leaves after every number, with a table one word short, exact, and longer (document 01, "Numbers that come back").
use Prim.Native.Nat.{ℕ}
use mathlib.Core.Path.{◌≡◌, refl}
use mathlib.Core.Bool.{true, false}
use mathlib.Core.List.{List, [], ◌∷◌, ◌++◌, map}
use lib.Dec.{ltb}
use lib.ListN.{length, drop, replicate}
use Rattle.paper.specs.declared.Reading.{Reading}
use Rattle.paper.specs.declared.Reading.TheVariants.{Accepted, Unread}
use Rattle.paper.specs.Page.{Field, fields, fault}
use Rattle.paper.specs.Policy.{policy_of}
use Rattle.paper.specs.Table.{words_of}
use Rattle.paper.specs.Promises.{file_of, read_answer, read_leaves}
use Rattle.paper.proofs.Computing.{computing}
use Rattle.paper.proofs.Texts.{Trial}
use Rattle.paper.proofs.Refused.{refused, shortest}

abbrev short : List ℕ
short = replicate 16383 7

abbrev exact : List ℕ
exact = replicate 16384 7

-- two words more, which never change
abbrev longer : List ℕ
longer = replicate 16384 7 ++ (8 ∷ 9 ∷ [])

abbrev answers : List ℕ → List Reading
answers table = map (λ (t : Trial). read_answer t.given table) refused

-- "2 .. 3 .. 4 ..", with the line of each
refused_as_told : answers exact ≡ map (λ (t : Trial). Unread t.told.number t.told.line) refused
unfolding computing
refused_as_told = refl

-- 1 before all others, with line 0
short_table_first : answers short ≡ map (λ (t : Trial). Unread 1 0) refused
unfolding computing
short_table_first = refl

accepted_with_enough_words :
    map (read_answer shortest) ([] ∷ short ∷ exact ∷ longer ∷ []) ≡ Unread 1 0 ∷ Unread 1 0 ∷ Accepted ∷ Accepted ∷ []
unfolding computing
accepted_with_enough_words = refl

-- .. whatever the text, one of 2 as well
short_table_before_every_text : (t table : List ℕ) → ltb (length table) 16384 ≡ true → read_answer t table ≡ Unread 1 0
unfolding read_answer
short_table_before_every_text t table h = rw h

-- 1: "nothing changed", whatever the text
short_table_unchanged : (t table : List ℕ) → ltb (length table) 16384 ≡ true → read_leaves t table ≡ table
unfolding read_leaves
short_table_unchanged t table h = rw h

-- 2 to 11: "first 16,384 words zero", and the rest as it was
refused_leaves_zeros :
    (t table : List ℕ) (number line : ℕ) → file_of t ≡ fault number line → ltb (length table) 16384 ≡ false → read_leaves t table ≡ replicate 16384 0 ++ drop 16384 table
unfolding read_leaves
refused_leaves_zeros t table number line r h = rw (h, r)

accepted_leaves_its_words :
    (t table : List ℕ) (fs : List Field) → file_of t ≡ fields fs → ltb (length table) 16384 ≡ false → read_leaves t table ≡ words_of (policy_of fs) ++ drop 16384 table
unfolding read_leaves
accepted_leaves_its_words t table fs r h = rw (h, r)

-- a refused text and an accepted one, with nothing but the mark in its table
what_is_left :
    map (read_leaves []) (short ∷ exact ∷ longer ∷ []) ++ map (read_leaves shortest) (short ∷ longer ∷ [])
    ≡ (short ∷ replicate 16384 0 ∷ (replicate 16384 0 ++ (8 ∷ 9 ∷ [])) ∷ []) ++ (short ∷ ((17492 ∷ replicate 16383 0) ++ (8 ∷ 9 ∷ [])) ∷ [])
unfolding computing
what_is_left = refl
