-- Files whose lines end with CR LF, all or some of them (document 02 b), and a CR elsewhere.
use Prim.Native.Nat.{ℕ}
use mathlib.Core.Path.{◌≡◌, refl}
use mathlib.Core.Bool.{true, false}
use mathlib.Core.List.{List, [], ◌∷◌}
use Rattle.paper.specs.declared.Map.TheVariants.{Objects, Subjects}
use Rattle.paper.specs.Common.{bytes}
use Rattle.paper.specs.Text.{Line, lines}
use Rattle.paper.specs.Promises.{file_of, text_filled, lookup_answer}
use Rattle.paper.proofs.Computing.{computing}
use Rattle.paper.proofs.Texts.{Trial, computed, claimed, text, entry}

abbrev line : ℕ → List ℕ → Line
line place l = record { start = place; text = l; ended = true }

-- "A CR directly before LF now belongs to the line's end and to no value. One file may mix both ends."
lines_of_both_ends :
    lines (bytes "ab\r\ncd\n\r\n\n  \r\ne\rf\r\r\n\r")
    ≡ line 0 (bytes "ab")
    ∷ line 4 (bytes "cd")
    ∷ line 7 []
    ∷ line 9 []
    ∷ line 10 (bytes "  ")
    ∷ line 14 (bytes "e\rf\r")
    ∷ record { start = 20; text = bytes "\r"; ended = false }
    ∷ []
unfolding computing
lines_of_both_ends = refl

-- "line numbers unchanged"; CRs are no trailing spaces, and none stands in for an LF
abbrev ended : List Trial
ended =
    text "object_map: []\r\nsubject_map: []\r\nprivileges: []\r\n" 0 0
    ∷ text "\r\n# office\r\nobject_map: []\r\n  \r\nsubject_map: []\nprivileges: []\r\n" 0 0
    ∷ text "\r\n\r\n" 4 3
    ∷ text "object_map: []\r\nsubject_map: []\r\n" 4 3
    ∷ text "object_map: [] \r\nsubject_map: []\r\n" 4 1
    ∷ text "object_map: []\r\nsubject_map:\r\nprivileges: []\r\n" 9 2
    ∷ text "object_map:\r\n- name: a b\r\n" 5 2
    ∷ entry "  can_call: [B]\r\n  can_write:\r\n" 0 0
    ∷ entry "    execution_context: all\r\n  can_call:\r\n  can_read: []\r\n" 0 0
    ∷ []

-- "a CR anywhere else is still 3"
abbrev stray : List Trial
stray =
    text "object_map: []\r\r\nsubject_map: []\nprivileges: []\n" 3 1
    ∷ text "object_map: []\r\nsubject_map: []\rprivileges: []\r\n" 3 2
    ∷ text "object_map: []\r\nsubject_map: []\r\nprivileges: []\r" 3 3
    ∷ text "object_map: []\r\n# a \r note\r\n" 3 2
    ∷ text "object_map: []\r\n\rsubject_map: []\r\n" 3 2
    ∷ text "\r" 3 1
    ∷ text "\n\r" 3 2
    ∷ []

ends_as_told : computed ended ≡ claimed ended
unfolding computing
ends_as_told = refl

strays_as_told : computed stray ≡ claimed stray
unfolding computing
strays_as_told = refl

abbrev office : List ℕ
office = bytes "object_map:\r\n- name: A\n  objects: []\r\n\r\nsubject_map:\r\n- name: B\r\n  subjects: [f|g]\nprivileges: []\r\n"

-- "The filled text has LF only."
filled_with_feeds_alone : text_filled (file_of office) ≡ bytes "object_map:\n- name: A\n  objects: []\nsubject_map:\n- name: B\n  subjects: [f|g]\nprivileges: []\n"
unfolding computing
filled_with_feeds_alone = refl

-- a name's stretch lies where it does in the text as it stands, and has no CR
names_between_returns :
    lookup_answer office Objects 0 ∷ lookup_answer office Subjects 0 ∷ []
    ≡ record { start = 21; bytes = bytes "A" } ∷ record { start = 62; bytes = bytes "B" } ∷ []
unfolding computing
names_between_returns = refl
