-- 7, limb by limb: "domain name (over both maps), identifier of one map, or name in one list twice", on the later line; each of the first texts is refused by one limb alone.
use mathlib.Core.Path.{◌≡◌, refl}
use mathlib.Core.List.{List, [], ◌∷◌}
use Rattle.paper.proofs.Computing.{computing}
use Rattle.paper.proofs.Texts.{Trial, computed, claimed, text, entry, context}

abbrev domains : List Trial
domains =
    -- twice in the object map, in the subject map, and once in each with others between
    text "object_map:\n- name: A\n  objects: []\n- name: A\n  objects: []\nsubject_map: []\nprivileges: []\n" 7 4
    ∷ text "object_map: []\nsubject_map:\n- name: B\n  subjects: []\n- name: B\n  subjects: []\nprivileges: []\n" 7 5
    ∷ text "object_map:\n- name: A\n  objects: []\n- name: C\n  objects: []\nsubject_map:\n- name: B\n  subjects: []\n- name: A\n  subjects: []\nprivileges: []\n" 7 9
    -- a front, an extension and another case are other names
    ∷ text "object_map:\n- name: Ab\n  objects: []\n- name: A\n  objects: []\n- name: Abc\n  objects: []\nsubject_map:\n- name: ab\n  subjects: []\nprivileges: []\n" 0 0
    ∷ []

domain_named_twice : computed domains ≡ claimed domains
unfolding computing
domain_named_twice = refl

abbrev identifiers : List Trial
identifiers =
    -- objects in one list, side by side and apart, and in two lists
    text "object_map:\n- name: A\n  objects: [OTHER|||, OTHER|||]\nsubject_map: []\nprivileges: []\n" 7 3
    ∷ text "object_map:\n- name: A\n  objects: [OTHER|||a, OTHER|||b, OTHER|||a]\nsubject_map: []\nprivileges: []\n" 7 3
    ∷ text "object_map:\n- name: A\n  objects: [OTHER|||a]\n- name: C\n  objects: []\n- name: D\n  objects: [OTHER|||b, OTHER|||a]\nsubject_map: []\nprivileges: []\n" 7 7
    -- functions likewise
    ∷ text "object_map: []\nsubject_map:\n- name: B\n  subjects: [f|g, f|h, f|g]\nprivileges: []\n" 7 4
    ∷ text "object_map: []\nsubject_map:\n- name: B\n  subjects: [f|g]\n- name: D\n  subjects: [f|h, f|g]\nprivileges: []\n" 7 6
    -- another part is another identifier
    ∷ text "object_map:\n- name: A\n  objects: [GLOBAL|a|1|b, IO|a|1|b, GLOBAL|a|1|c, GLOBAL|a|2|b, GLOBAL|b|1|b]\nsubject_map: []\nprivileges: []\n" 0 0
    ∷ []

identifier_named_twice : computed identifiers ≡ claimed identifiers
unfolding computing
identifier_named_twice = refl

abbrev lists : List Trial
lists =
    -- a name in each of the four sorts of list
    entry "  can_call: [B, B]\n" 7 10
    ∷ entry "  can_return: [B, B]\n" 7 10
    ∷ entry "  can_read:\n  - objects: [A]\n  - objects: [A, A]\n" 7 12
    ∷ entry "  can_write:\n  - objects: []\n  - objects: [A, A]\n" 7 12
    -- in two lists it may stand: call and return, two items, reads and writes
    ∷ entry "  can_call: [B]\n  can_return: [B]\n  can_read:\n  - objects: [A]\n  - objects: [A]\n  can_write:\n  - objects: [A]\n  - objects: [A]\n" 0 0
    -- "`call_context` may repeat an element"
    ∷ context "      call_context: [all, f|g, all, f|g]\n  can_read:\n  - objects: [A]\n    object_context:\n      call_context: [f|g, f|g, all, all]\n" 0 0
    ∷ []

name_in_one_list_twice : computed lists ≡ claimed lists
unfolding computing
name_in_one_list_twice = refl
