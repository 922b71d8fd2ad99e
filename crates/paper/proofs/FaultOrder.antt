-- Two faults in one text, both ways round: the smallest line of one rule, the rules in their order, and the page before the rules (document 01, "Reader order").
use Prim.Native.Nat.{ℕ, suc}
use mathlib.Core.Path.{◌≡◌, refl}
use mathlib.Core.List.{List, [], ◌∷◌, ◌++◌}
use Rattle.paper.specs.Common.{bytes}
use Rattle.paper.specs.Page.{Field, fields, fault}
use Rattle.paper.specs.Rules.{over_limit, named_twice, unknown_name, unbound_variable, twin_principal, unless_line, ruled}
use Rattle.paper.proofs.Computing.{computing}
use Rattle.paper.proofs.Texts.{Trial, computed, claimed, text, privileges, entry, entry_of, context, context_of, reading, writing, seventeen}

-- two of one rule: the smaller line
abbrev of_one_rule : List Trial
of_one_rule =
    -- 4, 9 and 5
    text "object_map\nsubject_map\n" 4 1
    ∷ context "      uid:\n      gid:\n" 9 11
    ∷ context "      uid: a-b\n      gid: a-b\n" 5 11
    -- 6: a pattern of the entry and one of a read, and one of a read and one of a write
    ∷ context_of (bytes seventeen ++ reading seventeen) 6 11
    -- 7: a domain and an identifier, an identifier and a domain, two lists
    ∷ text "object_map:\n- name: A\n  objects: []\n- name: A\n  objects: [OTHER|||, OTHER|||]\nsubject_map: []\nprivileges: []\n" 7 4
    ∷ text "object_map:\n- name: A\n  objects: [OTHER|||, OTHER|||]\n- name: A\n  objects: []\nsubject_map: []\nprivileges: []\n" 7 3
    ∷ text "object_map:\n- name: A\n  objects: [OTHER|||, OTHER|||]\nsubject_map:\n- name: B\n  subjects: [f|g, f|g]\nprivileges: []\n" 7 3
    ∷ entry "  can_call: [B, B]\n  can_return: [B, B]\n" 7 10
    -- 8: a domain and a function, a function and a domain
    ∷ privileges (bytes "- principal:\n    subject: Z\n    execution_context:\n      call_context: [f|h]\n") 8 9
    ∷ context "      call_context: [f|h]\n  can_call: [Z]\n" 8 11
    -- 10: uid and gid of one context, a read and a write, two entries
    ∷ entry_of (reading "      uid: U\n      gid: U\n") 10 13
    ∷ entry_of (reading "      gid: U\n" ++ writing "      uid: U\n") 10 13
    ∷ context_of (bytes "      uid: V\n" ++ (writing "      uid: U\n" ++ (bytes "- principal:\n    subject: B\n" ++ reading "      uid: U\n"))) 10 15
    ∷ []

smaller_line_of_one_rule : computed of_one_rule ≡ claimed of_one_rule
unfolding computing
smaller_line_of_one_rule = refl

-- "then 6, 7, 8, 10, 11, each over the whole file": for all fields and lines, so whichever stands first in the text
module _ (fs : List Field) (line : ℕ) where
  six_before_all : over_limit fs ≡ suc line → ruled fs ≡ fault 6 (suc line)
  unfolding ruled unless_line
  six_before_all r = rw r

  module _ (six : over_limit fs ≡ 0) where
    seven_next : named_twice fs ≡ suc line → ruled fs ≡ fault 7 (suc line)
    unfolding ruled unless_line
    seven_next r = rw (six, r)

    module _ (seven : named_twice fs ≡ 0) where
      eight_next : unknown_name fs ≡ suc line → ruled fs ≡ fault 8 (suc line)
      unfolding ruled unless_line
      eight_next r = rw (six, seven, r)

      module _ (eight : unknown_name fs ≡ 0) where
        ten_next : unbound_variable fs ≡ suc line → ruled fs ≡ fault 10 (suc line)
        unfolding ruled unless_line
        ten_next r = rw (six, seven, eight, r)

        eleven_last : unbound_variable fs ≡ 0 → twin_principal fs ≡ suc line → ruled fs ≡ fault 11 (suc line)
        unfolding ruled unless_line
        eleven_last ten r = rw (six, seven, eight, ten, r)

        accepted_without_fault : unbound_variable fs ≡ 0 → twin_principal fs ≡ 0 → ruled fs ≡ fields fs
        unfolding ruled unless_line
        accepted_without_fault ten eleven = rw (six, seven, eight, ten, eleven)

-- two neighbours of that order, the lower number first in the text and then behind
abbrev of_two_rules : List Trial
of_two_rules =
    context_of (bytes seventeen ++ bytes "  can_call: [B, B]\n") 6 11
    ∷ entry_of (bytes "  can_call: [B, B]\n" ++ writing seventeen) 6 14
    ∷ entry "  can_call: [B, B]\n  can_return: [Z]\n" 7 10
    ∷ entry "  can_call: [Z]\n  can_return: [B, B]\n" 7 11
    ∷ entry_of (bytes "  can_call: [Z]\n" ++ reading "      uid: U\n") 8 10
    ∷ entry_of (reading "      uid: U\n" ++ bytes "  can_write:\n  - objects: [Z]\n") 8 15
    ∷ entry_of (reading "      uid: U\n" ++ bytes "- principal:\n    subject: B\n") 10 13
    ∷ entry_of (bytes "- principal:\n    subject: B\n" ++ reading "      uid: U\n") 10 15
    ∷ []

lower_number_of_two_rules : computed of_two_rules ≡ claimed of_two_rules
unfolding computing
lower_number_of_two_rules = refl

-- 3 before the page and the rules, the page before the rules, whichever stands first; of 4, 9 and 5 the smaller line
abbrev of_the_page : List Trial
of_the_page =
    text "object_map\n#\t\n" 3 2
    ∷ text "object_map:\n#\t\n" 3 2
    ∷ entry "  can_call: [B, B]\n  can_return: [Z]\n\t\n" 3 12
    ∷ entry "  can_call: [B, B]\nstrange\n" 4 11
    ∷ entry "  can_call: [Z]\n  can_return: [all]\n" 5 11
    ∷ entry "  can_call: [Z]\n- principal:\n    subject:\n" 9 12
    ∷ entry "  can_call: [all]\nstrange\n" 5 10
    ∷ entry "strange\n  can_call: [all]\n" 4 10
    ∷ context "      uid:\n      gid: a-b\n" 9 11
    ∷ context "      uid: a-b\n      gid:\n" 5 11
    ∷ context "      uid:\nstrange\n" 9 11
    ∷ []

page_before_rules : computed of_the_page ≡ claimed of_the_page
unfolding computing
page_before_rules = refl
