-- Texts with the number and line that each gets, 0 and 0 where it is accepted. Points are those of docs/DECISIONS.md.
use Prim.Native.Nat.{ℕ}
use mathlib.Core.Path.{◌≡◌, refl}
use mathlib.Core.List.{List, [], ◌∷◌, ◌++◌}
use lib.ListN.{replicate}
use Rattle.paper.specs.Common.{bytes}
use Rattle.paper.proofs.Computing.{computing}
use Rattle.paper.proofs.Texts.{Trial, computed, claimed, given, text, privileges, entry, context, objects, subjects}

-- a name of so many bytes on line 2
abbrev long_name : ℕ → ℕ → ℕ → Trial
long_name k n l =
    given (bytes "object_map:\n- name: " ++ (replicate k 97 ++ bytes "\n  objects: []\nsubject_map: []\nprivileges: []\n")) n l

-- a subject identifier of so many bytes and two on line 4
abbrev long_identifier : ℕ → ℕ → ℕ → Trial
long_identifier k n l =
    given (bytes "object_map: []\nsubject_map:\n- name: B\n  subjects: [f|" ++ (replicate k 97 ++ bytes "]\nprivileges: []\n")) n l

-- 3, and that it goes before every fault of the page
abbrev bad_bytes : List Trial
bad_bytes =
    text "object_map: []\n#\t\nsubject_map: []\n" 3 2
    ∷ text "object_map: []\r \nsubject_map: []\n" 3 1
    ∷ text "nothing right\n\n\u{7f}" 3 3
    ∷ text "\u{1f}\n\t\n" 3 1
    ∷ []

-- points 1 to 3: lines, their numbers, skipped lines
abbrev of_lines : List Trial
of_lines =
    text "object_map:" 4 1
    ∷ text "object_map: []\n# no end" 4 2
    ∷ text "object_map:\n- name: A" 4 2
    ∷ text "object_map:\nx" 9 1
    ∷ text "object_map:\n- # no end" 4 2
    ∷ text "object_map:\n# no end" 9 1
    ∷ context "      uid:" 4 11
    ∷ entry "  can_call: [all]" 4 10
    ∷ entry "  can_read:" 4 10
    ∷ text "" 4 1
    ∷ text "\n" 4 2
    ∷ text "\n\n  \n# only skipped lines\n" 4 5
    ∷ text "object_map: []\nsubject_map: []\n\n# end\n" 4 5
    ∷ text "# first\n   \nobject_map:\n      # far  \n- name: A\n\n  objects: []\n#\nsubject_map: []\n  #x\nprivileges: []\n \n" 0 0
    ∷ text "object_map: [] # note\n" 4 1
    ∷ entry "  can_call: [B] # note\n" 4 10
    ∷ []

-- points 4 and 5: what a line is, keys, their columns and their order
abbrev of_keys : List Trial
of_keys =
    text "object_map: \n" 4 1
    ∷ text "object_map:  []\n" 4 1
    ∷ text "object_map: [] \n" 4 1
    ∷ text "objectmap: []\n" 4 1
    ∷ text " object_map: []\n" 4 1
    ∷ text "object_map []\n" 4 1
    ∷ text "object_map:[]\n" 4 1
    ∷ text "subject_map: []\nobject_map: []\n" 4 1
    ∷ text "object_map: []\nobject_map: []\n" 4 2
    ∷ text "object_map: []\n- name: A\n" 4 2
    ∷ text "object_map: []\nprivileges: []\n" 4 2
    ∷ text "object_map:\n- name: A\nsubject_map: []\n" 4 3
    ∷ text "object_map:\n- name: A\n" 4 3
    ∷ text "object_map: []\nsubject_map: []\nprivileges: []\nprivileges: []\n" 4 4
    ∷ text "object_map:\n- name: a:b\n" 5 2
    ∷ entry "  can_return: []\n  can_call: []\n" 4 11
    ∷ entry "  can_write: all\n  can_write: all\n" 4 11
    ∷ entry "can_call: []\n" 4 10
    ∷ context "      gid: all\n      uid: all\n" 4 12
    ∷ context "      namespace: all\n      gid: all\n" 4 12
    ∷ context "      namespace: all\n      namespace: all\n" 4 12
    ∷ privileges (bytes "- principal:\n    execution_context: all\n") 4 9
    ∷ entry "  can_read:\n  - object_context: all\n" 4 11
    ∷ []

-- points 6 to 9: empty fields
abbrev empty : List Trial
empty =
    text "object_map:\n - name: A\n" 9 1
    ∷ text "object_map:\n-name: A\n" 9 1
    ∷ text "object_map:\n- nme: X\n" 4 2
    ∷ text "object_map:\n- name:\n" 9 2
    ∷ text "object_map:\n- name: A\n  objects:\n" 9 3
    ∷ text "object_map:\n" 9 1
    ∷ text "object_map: []\nsubject_map: []\nprivileges:\n" 9 3
    ∷ privileges (bytes "- principal:\n     subject: B\n") 9 8
    ∷ privileges (bytes "- principal:\n    subject:\n") 9 9
    ∷ entry "    execution_context:\n" 9 10
    ∷ entry "    execution_context:\n     uid: U\n" 9 10
    ∷ entry "    execution_context:\n  can_call: []\n" 9 10
    ∷ entry "    execution_context:\n\n      # far\n      uid: U\n" 0 0
    ∷ context "      strange: x\n" 4 11
    ∷ context "      call_context: []\n" 9 11
    ∷ context "      call_context:\n" 9 11
    ∷ context "      uid:\n" 9 11
    ∷ context "      gid:\n" 9 11
    ∷ context "      namespace:\n" 9 11
    ∷ entry "    execution_context: []\n" 4 10
    ∷ entry "  can_read:\n  - objects:\n    object_context:\n" 9 12
    ∷ entry "  can_read:\n  - objects:\n    object_context: []\n" 4 12
    ∷ entry "  can_read:\n   - objects: []\n" 4 11
    ∷ context "      uid: []\n" 5 11
    ∷ context "      gid: []\n" 5 11
    ∷ context "      namespace: []\n" 5 11
    ∷ []

-- points 10 to 13: lists, and where a scalar is due
abbrev values : List Trial
values =
    entry "  can_call: [B,B]\n" 4 10
    ∷ entry "  can_call: [B,]\n" 4 10
    ∷ entry "  can_call: [ B]\n" 4 10
    ∷ entry "  can_call: [B B]\n" 4 10
    ∷ entry "  can_call: [ ]\n" 4 10
    ∷ entry "  can_call: [B,  B]\n" 4 10
    ∷ entry "  can_call: [B\n" 4 10
    ∷ entry "  can_call: [B]x\n" 4 10
    ∷ entry "  can_call: [B, ]\n" 5 10
    ∷ entry "  can_call: [, B]\n" 5 10
    ∷ entry "  can_call: [[B]]\n" 5 10
    ∷ entry "  can_call: [B]]\n" 5 10
    ∷ entry "  can_call: [all]\n" 5 10
    ∷ entry "  can_call: B\n" 4 10
    ∷ entry "  can_read: [A]\n" 4 10
    ∷ entry "  can_read:\n  - objects: [all]\n" 5 11
    ∷ entry "    execution_context: some\n" 4 10
    ∷ context "      call_context: all\n" 4 11
    ∷ context "      call_context: [any]\n" 8 11
    ∷ context "      call_context: [B]\n" 0 0
    ∷ context "      gid: root\n" 5 11
    ∷ context "      namespace: root\n" 5 11
    ∷ context "      namespace: Yard_1\n" 0 0
    ∷ context "      uid: any\n" 0 0
    ∷ context "      uid: 0\n      gid: _\n" 0 0
    ∷ privileges (bytes "- principal: B\n") 4 8
    ∷ privileges (bytes "- principal:\n    subject: all\n") 5 9
    ∷ text "object_map: all\n" 4 1
    ∷ text "object_map: [A]\n" 4 1
    ∷ text "object_map:\n- name: all\n" 5 2
    ∷ text "object_map:\n- name: [A]\n" 5 2
    ∷ text "object_map:\n- name: A B\n" 5 2
    ∷ text "object_map:\n- name: \"A\"\n" 5 2
    ∷ text "object_map:\n- name: A # note\n" 5 2
    ∷ text "object_map:\n- name: A\n  objects: all\n" 4 3
    ∷ text "object_map:\n- name: root\n  objects: []\nsubject_map:\n- name: user\n  subjects: []\nprivileges: []\n" 0 0
    ∷ long_name 64 0 0
    ∷ long_name 65 5 2
    ∷ []

-- point 14: identifiers
abbrev identifiers : List Trial
identifiers =
    objects "GLOBAL|/s/m.c|999999|x" 0 0
    ∷ objects "GLOBAL|m.c|1000000|x" 5 3
    ∷ objects "GLOBAL|m.c|0|x" 5 3
    ∷ objects "GLOBAL|m.c|01|x" 5 3
    ∷ objects "GLOBAL|m.c||x" 5 3
    ∷ objects "GLOBAL|m.c|x" 5 3
    ∷ objects "GLOBAL|m.c|1|x|" 5 3
    ∷ objects "GLOBAL|m.c|1|" 5 3
    ∷ objects "global|m.c|1|x" 5 3
    ∷ objects "IO|d|2|n" 0 0
    ∷ objects "HEAP|a.c|1|" 0 0
    ∷ objects "HEAP|a.c|1|x" 5 3
    ∷ objects "STACK_REGION|a.c|9|" 0 0
    ∷ objects "STACK_FRAME|a.c||f" 0 0
    ∷ objects "STACK_FRAME|a.c|1|f" 5 3
    ∷ objects "OTHER|||" 0 0
    ∷ objects "OTHER||7|n" 0 0
    ∷ objects "OTHER||0|" 5 3
    ∷ objects "OTHER|a{b||" 5 3
    ∷ objects "|a|1|b" 5 3
    ∷ subjects "/s/f.c|g, .x|y, _|9" 0 0
    ∷ subjects "f|g|h" 5 4
    ∷ subjects "f|" 5 4
    ∷ subjects "fg" 5 4
    ∷ subjects "-f|g" 5 4
    ∷ subjects "f:|g" 5 4
    ∷ long_identifier 126 0 0
    ∷ long_identifier 127 5 4
    ∷ []

-- faults on one line, and on two: 4 before 9 before 5 on one, the smaller of two lines, the page before the rules
abbrev orders : List Trial
orders =
    entry "  can_call: [all,B]\n" 4 10
    ∷ context "      call_context: [] \n" 4 11
    ∷ entry "  can_call: [all]\n  can_call: []\n" 5 10
    ∷ entry "    execution_context:\n  can_call: [all]\n" 9 10
    ∷ entry "    execution_context:\nstrange\n" 9 10
    ∷ entry "  can_call: [B, B]\n  can_return: [all]\n" 5 11
    ∷ entry "  can_call: [B, B]\n  can_return: Z" 4 11
    ∷ context "      uid: a-b\n      gid:\n" 5 11
    ∷ []

-- accepted oddities
abbrev oddities : List Trial
oddities =
    text "object_map: []\nsubject_map: []\nprivileges: []\n" 0 0
    ∷ entry "" 0 0
    ∷ entry "    execution_context: all\n  can_call:\n  can_return:\n  can_read:\n  can_write:\n" 0 0
    ∷ entry "  can_call: all\n  can_return: []\n  can_read: all\n  can_write: []\n" 0 0
    ∷ entry "  can_read:\n  - objects:\n  - objects: all\n    object_context: all\n  - objects: [A]\n    object_context:\n      call_context: [all]\n" 0 0
    ∷ []

abbrev all : List Trial
all = bad_bytes ++ (of_lines ++ (of_keys ++ (empty ++ (values ++ (identifiers ++ (orders ++ oddities))))))

as_told : computed all ≡ claimed all
unfolding computing
as_told = refl
