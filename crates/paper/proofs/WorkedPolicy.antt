-- What the second worked file means (document 01, "The page" and "What a match is": all numbered "from 0 in file order").
use mathlib.Core.Path.{◌≡◌, refl}
use mathlib.Core.Bool.{true, false}
use mathlib.Core.List.{List, [], ◌∷◌}
use Rattle.paper.specs.Scalars.{Sort, anyone, variable, root, user}
use Rattle.paper.specs.Policy.{Element, all, fn, any_in, Context, Descriptor, Policy, Grant, every, these}
use Rattle.paper.specs.Promises.{file_of}
use Rattle.paper.proofs.Computing.{computing}
use Rattle.paper.proofs.Example.{policy_read}
use Rattle.paper.proofs.Worked.{worked}

-- `call_context`, `uid`, `gid` and `namespace`
abbrev pub context_with : List Element → Sort → Sort → Sort → Context
context_with pattern uid gid namespace = record { pattern = pattern; uid = uid; gid = gid; namespace = namespace }

-- `namespace: all`
abbrev pub context : List Element → Sort → Sort → Context
context pattern uid gid = context_with pattern uid gid anyone

-- "omitted ones are `[all]`, `all`, `all`"
abbrev pub any_context : Context
any_context = context (all ∷ []) anyone anyone

-- an item: `objects` and its context
abbrev pub item : Grant → Context → Descriptor
item objects c = record { context = c; objects = objects }

-- object domains Gauges 0, Spare 1, Heaps 2, Misc 3; subject domains Boot 0, Idle 1, Ctl 2, Net 3, Log 4;
-- functions main 0, init 1, push 2, pop 3, step 4, recv 5, put 6, flush 7
unfoldable pub worked_policy : Policy
worked_policy =
    record {
      object_domains = 4;
      subject_domains = 5;
      objects = 0 ∷ 0 ∷ 2 ∷ 2 ∷ 2 ∷ 3 ∷ 3 ∷ [];
      functions = 0 ∷ 0 ∷ 2 ∷ 2 ∷ 2 ∷ 3 ∷ 4 ∷ 4 ∷ [];
      entries =
          record {
            context = context (fn 0 ∷ all ∷ fn 4 ∷ []) variable variable;
            subject = 2;
            calls = these (true ∷ false ∷ false ∷ true ∷ false ∷ []);
            returns = every;
            reads =
                item (these (true ∷ false ∷ true ∷ false ∷ [])) (context (all ∷ fn 2 ∷ all ∷ []) variable anyone)
                ∷ item (these (false ∷ false ∷ false ∷ true ∷ [])) any_context
                ∷ item every (context (all ∷ []) anyone variable)
                ∷ [];
            writes =
                item (these (false ∷ false ∷ true ∷ false ∷ [])) (context (all ∷ []) root anyone)
                ∷ item (these (false ∷ false ∷ true ∷ true ∷ [])) (context (any_in 2 ∷ fn 3 ∷ []) user variable)
                ∷ item (these (false ∷ false ∷ false ∷ false ∷ [])) any_context
                ∷ item (these (false ∷ false ∷ false ∷ false ∷ [])) any_context
                ∷ [];
          }
          ∷ record {
            context = any_context;
            subject = 0;
            calls = every;
            returns = every;
            reads = item every any_context ∷ [];
            writes = item every any_context ∷ [];
          }
          ∷ record {
            context = any_context;
            subject = 2;
            calls = these (false ∷ false ∷ false ∷ false ∷ false ∷ []);
            returns = these (false ∷ false ∷ false ∷ false ∷ false ∷ []);
            reads = [];
            writes = [];
          }
          ∷ record {
            context = context (all ∷ []) root anyone;
            subject = 3;
            calls = every;
            returns = these (false ∷ false ∷ false ∷ false ∷ false ∷ []);
            reads = [];
            writes = item every any_context ∷ [];
          }
          ∷ record {
            context = context (all ∷ any_in 0 ∷ all ∷ fn 5 ∷ []) user anyone;
            subject = 3;
            calls = these (false ∷ false ∷ false ∷ false ∷ false ∷ []);
            returns = these (false ∷ false ∷ true ∷ false ∷ false ∷ []);
            reads = item every any_context ∷ [];
            writes = [];
          }
          ∷ record {
            context = context_with (all ∷ []) anyone variable variable;
            subject = 4;
            calls = every;
            returns = every;
            reads =
                item (these (false ∷ false ∷ false ∷ false ∷ [])) any_context
                ∷ item (these (false ∷ false ∷ false ∷ false ∷ [])) any_context
                ∷ item (these (true ∷ false ∷ false ∷ false ∷ [])) (context_with (all ∷ []) anyone anyone variable)
                ∷ [];
            writes = item every any_context ∷ [];
          }
          ∷ record {
            context = context (fn 6 ∷ []) anyone anyone;
            subject = 1;
            calls = every;
            returns = every;
            reads = item every any_context ∷ [];
            writes = item every any_context ∷ [];
          }
          ∷ [];
    }

pub worked_means : policy_read (file_of worked) ≡ worked_policy
unfolding computing worked_policy
worked_means = refl
