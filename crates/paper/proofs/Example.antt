-- Document 01, "A file, filled out", with the `namespace` of document 02 g in every context.
use Prim.Native.Nat.{ℕ}
use mathlib.Core.Path.{◌≡◌, refl}
use mathlib.Core.Bool.{true, false}
use mathlib.Core.List.{List, [], ◌∷◌, ◌++◌, map}
use Rattle.paper.specs.declared.Map.TheVariants.{Objects, Subjects}
use Rattle.paper.specs.Common.{bytes}
use Rattle.paper.specs.Page.{Outcome, fields, fault}
use Rattle.paper.specs.Scalars.{variable, anyone}
use Rattle.paper.specs.Policy.{Policy, policy_of, all, these}
use Rattle.paper.specs.Lookup.{Stretch, name_in}
use Rattle.paper.specs.Promises.{file_of, text_filled}
use Rattle.paper.proofs.Computing.{computing}

-- the input, whole
abbrev pub example_maps : List ℕ
example_maps = bytes "object_map:\n- name: Meter\n  objects: [GLOBAL|m.c|4|kwh]\nsubject_map:\n- name: Main\n  subjects: [m.c|main]\n- name: Bill\n  subjects: [b.c|add, b.c|sum]\nprivileges:\n"

abbrev pub example : List ℕ
example = example_maps ++ bytes "- principal:\n    subject: Bill\n    execution_context:\n      uid: U\n  can_call: []\n  can_return: [Main]\n  can_read:\n  - objects: [Meter]\n  can_write:\n"

-- the output: "the first nine lines the same, then" these
abbrev pub example_filled : List ℕ
example_filled =
    example_maps
    ++ (bytes "- principal:\n    subject: Bill\n    execution_context:\n      call_context: [all]\n      uid: U\n      gid: all\n      namespace: all\n"
    ++ (bytes "  can_call: []\n  can_return: [Main]\n  can_read:\n  - objects: [Meter]\n"
    ++ bytes "    object_context:\n      call_context: [all]\n      uid: all\n      gid: all\n      namespace: all\n  can_write: []\n"))

pub filled_as_told : text_filled (file_of example) ≡ example_filled
unfolding computing
filled_as_told = refl

-- filling the filled text changes nothing
pub filled_again : text_filled (file_of example_filled) ≡ example_filled
unfolding computing
filled_again = refl

abbrev pub policy_read : Outcome → Policy
policy_read (fields fs) = policy_of fs
policy_read (fault number line) = policy_of []

-- the policy that the file means, and that the filled text means too
pub example_policy : Policy
example_policy =
    record {
      object_domains = 1;
      subject_domains = 2;
      objects = 0 ∷ [];
      functions = 0 ∷ 1 ∷ 1 ∷ [];
      entries =
          record {
            context = record { pattern = all ∷ []; uid = variable; gid = anyone; namespace = anyone };
            subject = 1;
            calls = these (false ∷ false ∷ []);
            returns = these (true ∷ false ∷ []);
            reads =
                record { context = record { pattern = all ∷ []; uid = anyone; gid = anyone; namespace = anyone }; objects = these (true ∷ []) } ∷ [];
            writes = [];
          }
          ∷ [];
    }

pub means : policy_read (file_of example) ≡ example_policy
unfolding computing example_policy
means = refl

pub filled_means_the_same : policy_read (file_of example_filled) ≡ example_policy
unfolding computing example_policy
filled_means_the_same = refl

-- the names of both maps, as stretches of the text; past the last, the empty one at the front
abbrev names : Outcome → List Stretch
names (fields fs) = map (λ d. name_in Objects d (fields fs)) (0 ∷ 1 ∷ []) ++ map (λ d. name_in Subjects d (fields fs)) (0 ∷ 1 ∷ 2 ∷ [])
names (fault number line) = []

pub names_found :
    names (file_of example)
    ≡ record { start = 20; bytes = bytes "Meter" }
    ∷ record { start = 0; bytes = [] }
    ∷ record { start = 77; bytes = bytes "Main" }
    ∷ record { start = 113; bytes = bytes "Bill" }
    ∷ record { start = 0; bytes = [] }
    ∷ []
unfolding computing
names_found = refl
