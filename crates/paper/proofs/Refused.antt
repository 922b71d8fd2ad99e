-- One text for each number from 3 to 11 with its line, and one that is accepted: what the claims on reader, filler and lookup go through.
use Prim.Native.Nat.{ℕ}
use mathlib.Core.List.{List, [], ◌∷◌}
use Rattle.paper.specs.Common.{bytes}
use Rattle.paper.proofs.Texts.{Trial, text, entry, entry_of, context_of, reading, seventeen}

abbrev pub refused : List Trial
refused =
    text "\t" 3 1
    ∷ text "" 4 1
    ∷ text "object_map:\n- name: all\n" 5 2
    ∷ context_of (bytes seventeen) 6 11
    ∷ entry "  can_call: [B, B]\n" 7 10
    ∷ entry "  can_call: [Z]\n" 8 10
    ∷ entry "    execution_context:\n" 9 10
    ∷ entry_of (reading "      uid: U\n") 10 13
    ∷ entry "- principal:\n    subject: B\n" 11 10
    ∷ []

-- the shortest file: it is its own filled text, of 46 bytes
abbrev pub shortest : List ℕ
shortest = bytes "object_map: []\nsubject_map: []\nprivileges: []\n"
