-- What the filler answers and leaves after every number, with room for one byte too few, the exact length, and more (document 01, "Numbers that come back").
use Prim.Native.Nat.{ℕ}
use mathlib.Core.Path.{◌≡◌, refl}
use mathlib.Core.List.{List, [], ◌∷◌, ◌++◌, map}
use lib.ListN.{length, drop, replicate}
use Rattle.paper.specs.declared.Filling.TheVariants.{Written, Unfilled}
use Rattle.paper.specs.Page.{Field, fields, fault}
use Rattle.paper.specs.Filled.{filled_text}
use Rattle.paper.specs.Promises.{file_of, text_filled, written_in, fill_answer, fill_leaves}
use Rattle.paper.proofs.Computing.{computing}
use Rattle.paper.proofs.Texts.{Trial}
use Rattle.paper.proofs.Example.{example, example_filled}
use Rattle.paper.proofs.Refused.{refused, shortest}

-- output of n bytes
abbrev room : ℕ → List ℕ
room n = replicate n 1

-- "The filler gives 2 to 11 as the reader does", with no room at all too
every_refusal_as_the_reader_does : (t out : List ℕ) (number line : ℕ) → file_of t ≡ fault number line → fill_answer t out ≡ Unfilled number line
unfolding fill_answer
every_refusal_as_the_reader_does t out number line r = rw r

refused_as_the_reader_does :
    map (λ (t : Trial). fill_answer t.given []) refused ≡ map (λ (t : Trial). Unfilled t.told.number t.told.line) refused
unfolding computing
refused_as_the_reader_does = refl

-- "on refusal its output is untouched"
refused_output_untouched : (t out : List ℕ) (number line : ℕ) → file_of t ≡ fault number line → fill_leaves t out ≡ out
unfolding fill_leaves fill_answer
refused_output_untouched t out number line r = rw r

refused_outputs : map (λ (t : Trial). fill_leaves t.given (room 3)) refused ≡ map (λ (t : Trial). room 3) refused
unfolding computing
refused_outputs = refl

-- the first worked file fills 472 bytes
lengths_at_the_edge :
    map (λ n. fill_answer example (room n)) (471 ∷ 472 ∷ 473 ∷ []) ++ map (λ n. fill_answer shortest (room n)) (45 ∷ 46 ∷ [])
    ≡ Unfilled 30 0 ∷ Written 472 ∷ Written 472 ∷ Unfilled 30 0 ∷ Written 46 ∷ []
unfolding computing
lengths_at_the_edge = refl

-- one byte short, exact, and longer: "bytes past the filled text, never change"
outputs_at_the_edge :
    fill_leaves shortest (room 45) ∷ fill_leaves shortest (room 46) ∷ fill_leaves shortest (room 49) ∷ [] ≡ room 45 ∷ shortest ∷ (shortest ++ room 3) ∷ []
unfolding computing
outputs_at_the_edge = refl

-- 31 before 30, at its limit and past it
sizes_at_the_limit :
    written_in 65536 65536 ∷ written_in 65535 65536 ∷ written_in 65537 65537 ∷ written_in 65536 65537 ∷ written_in 0 65537 ∷ written_in 0 0 ∷ []
    ≡ Written 65536 ∷ Unfilled 30 0 ∷ Unfilled 31 0 ∷ Unfilled 31 0 ∷ Unfilled 31 0 ∷ Written 0 ∷ []
unfolding computing
sizes_at_the_limit = refl

-- an accepted file is answered by the length of its filled text and that of the output
accepted_by_the_lengths :
    (t out : List ℕ) (fs : List Field) → file_of t ≡ fields fs → fill_answer t out ≡ written_in (length out) (length (filled_text fs))
unfolding fill_answer
accepted_by_the_lengths t out fs r = rw r

too_long_or_no_room_untouched : (t out : List ℕ) (number : ℕ) → fill_answer t out ≡ Unfilled number 0 → fill_leaves t out ≡ out
unfolding fill_leaves
too_long_or_no_room_untouched t out number r = rw r

-- what is written is the filled text, and not the text given
written_is_the_filled_text : (t out : List ℕ) (size : ℕ) → fill_answer t out ≡ Written size → fill_leaves t out ≡ text_filled (file_of t) ++ drop size out
unfolding fill_leaves
written_is_the_filled_text t out size r = rw r

example_written : fill_leaves example (room 473) ≡ example_filled ++ room 1
unfolding computing
example_written = refl
