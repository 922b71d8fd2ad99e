-- 10, limb by limb: "object context variable not the one bound by that entry's same key", of reads and writes, of uid, gid and namespace, on the object context's own line.
use mathlib.Core.Path.{◌≡◌, refl}
use mathlib.Core.List.{List, [], ◌∷◌, ◌++◌}
use Rattle.paper.specs.Common.{bytes}
use Rattle.paper.proofs.Computing.{computing}
use Rattle.paper.proofs.Texts.{Trial, computed, claimed, entry, entry_of, context, context_of, reading, writing}

-- with no binding at all: the four places alone
abbrev bound_nowhere : List Trial
bound_nowhere =
    entry_of (reading "      uid: U\n") 10 13
    ∷ entry_of (reading "      gid: U\n") 10 13
    ∷ entry_of (writing "      uid: U\n") 10 13
    ∷ entry_of (writing "      gid: U\n") 10 13
    ∷ entry_of (reading "      namespace: U\n") 10 13
    ∷ entry_of (writing "      namespace: U\n") 10 13
    -- in a later item too
    ∷ entry "  can_read:\n  - objects: [A]\n  - objects:\n    object_context:\n      call_context: [all]\n      uid: all\n      gid: V\n" 10 16
    ∷ []

variable_bound_nowhere : computed bound_nowhere ≡ claimed bound_nowhere
unfolding computing
variable_bound_nowhere = refl

abbrev bound_otherwise : List Trial
bound_otherwise =
    -- another name, of reads and of writes
    context_of (bytes "      uid: U\n" ++ reading "      uid: V\n") 10 15
    ∷ context_of (bytes "      gid: U\n" ++ writing "      gid: UU\n") 10 15
    -- the other key
    ∷ context_of (bytes "      uid: U\n" ++ reading "      gid: U\n") 10 15
    ∷ context_of (bytes "      gid: U\n" ++ writing "      uid: U\n") 10 15
    ∷ context_of (bytes "      gid: U\n" ++ writing "      namespace: U\n") 10 15
    ∷ context_of (bytes "      namespace: U\n" ++ reading "      gid: U\n") 10 15
    ∷ context_of (bytes "      namespace: U\n" ++ reading "      namespace: V\n") 10 15
    -- a sort that is no variable
    ∷ context_of (bytes "      uid: root\n" ++ reading "      uid: U\n") 10 15
    ∷ context_of (bytes "      uid: user\n" ++ writing "      uid: U\n") 10 15
    ∷ context_of (bytes "      gid: all\n" ++ reading "      gid: U\n") 10 15
    -- another entry, before it and behind it
    ∷ context_of (bytes "      uid: U\n- principal:\n    subject: B\n" ++ reading "      uid: U\n") 10 17
    ∷ entry_of (reading "      uid: U\n" ++ bytes "- principal:\n    subject: B\n    execution_context:\n      uid: U\n") 10 13
    ∷ []

variable_bound_otherwise : computed bound_otherwise ≡ claimed bound_otherwise
unfolding computing
variable_bound_otherwise = refl

abbrev bound : List Trial
bound =
    context_of (bytes "      uid: U\n      gid: G\n" ++ (reading "      uid: U\n      gid: G\n" ++ writing "      uid: U\n      gid: G\n")) 0 0
    ∷ context_of (bytes "      namespace: N\n" ++ (reading "      namespace: N\n" ++ writing "      namespace: N\n")) 0 0
    -- "One name may be bound as uid and as gid."
    ∷ context_of (bytes "      uid: U\n      gid: U\n" ++ reading "      gid: U\n") 0 0
    -- what is no variable needs no binding
    ∷ entry_of (reading "      uid: root\n" ++ writing "      uid: user\n      gid: all\n") 0 0
    -- a variable that nothing looks at again
    ∷ context "      uid: U\n      gid: G\n  can_read:\n  - objects: [A]\n" 0 0
    ∷ []

variable_bound : computed bound ≡ claimed bound
unfolding computing
variable_bound = refl
