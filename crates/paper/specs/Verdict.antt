-- The verdict (document 01, "What a match is").
use Rattle.std.specs.Prelude.{ℕ, ◌+◌, List, [], ◌∷◌, Bool, true, false, cond, not, ◌&&◌, eqb, get_or}
use Rattle.paper.specs.declared.Access.{Access}
use Rattle.paper.specs.declared.Access.TheVariants.{Read, Write, Call, Return}
use Rattle.paper.specs.declared.Verdict.{Verdict}
use Rattle.paper.specs.declared.Verdict.TheVariants.{Inside, Granted, Violation}
use Rattle.paper.specs.Policy.{Entry, Policy}
use Rattle.paper.specs.Match.{Moment, top, is_listed, entry_matches, grants, some_descriptor_grants}

-- "unlisted code or data": a call and a return are of code, a read and a write of data
unfoldable pub is_code : Access → Bool
is_code (Read o) = false
is_code (Write o) = false
is_code (Call f) = true
is_code (Return f) = true

-- "Function numbers and object numbers both start at 0 and are kept apart.": the domains of what an access can be to
unfoldable pub targets_of : Policy → Access → List ℕ
targets_of p a = cond (is_code a) p.functions p.objects

-- the target's number among these
unfoldable pub target_number : Access → ℕ
target_number (Read o) = o.0
target_number (Write o) = o.0
target_number (Call f) = f.0
target_number (Return f) = f.0

-- "target unlisted" is violation 2
unfoldable pub target_listed : Policy → Access → Bool
target_listed p a = is_listed (targets_of p a) (target_number a)

-- the domain that a grant has to hold
unfoldable pub target_domain : Policy → Access → ℕ
target_domain p a = get_or (targets_of p a) (target_number a) 0

-- "inside one domain (call, return)": the subject domain of the running function
unfoldable pub inside_one_domain : Policy → Access → ℕ → Bool
inside_one_domain p a domain = is_code a && eqb (target_domain p a) domain

-- an entry grants the access. "For call and return no allocation data is looked at"
unfoldable pub entry_grants : Policy → Entry → Access → Moment → Moment → Bool
entry_grants p e (Read o) m allocation = some_descriptor_grants p e.reads (target_domain p (Read o)) m allocation
entry_grants p e (Write o) m allocation = some_descriptor_grants p e.writes (target_domain p (Write o)) m allocation
entry_grants p e (Call f) m allocation = grants e.calls (target_domain p (Call f))
entry_grants p e (Return f) m allocation = grants e.returns (target_domain p (Return f))

-- the entries from entry k on: "allowed, with the lowest matching entry that grants; violation 3, no entry matches; violation 4, none that match grants it"
unfoldable pub by_entries : Policy → Access → Moment → Moment → ℕ → Bool → List Entry → Verdict
by_entries p a m allocation k matched [] = Violation (cond matched 4 3)
by_entries p a m allocation k matched (e ∷ es) =
    cond (entry_matches p e m && entry_grants p e a m allocation)
    (Granted k)
    (by_entries p a m allocation (k + 1) (cond (entry_matches p e m) true matched) es)

-- "Verdict, in order"
unfoldable pub verdict_of : Policy → Access → Moment → Moment → Verdict
verdict_of p a m allocation =
    cond (not (is_listed p.functions (top m.stack))) (Violation 1)
    (cond (not (target_listed p a)) (Violation 2)
    (cond (inside_one_domain p a (get_or p.functions (top m.stack) 0)) Inside
    (by_entries p a m allocation 0 false p.entries)))
