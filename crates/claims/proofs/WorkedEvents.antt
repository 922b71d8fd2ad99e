-- Events under the second worked file, and what each shows of it (document 01, "What a match is").
use Prim.Native.Nat.{ℕ}
use mathlib.Core.Path.{◌≡◌, refl}
use mathlib.Core.List.{List, [], ◌∷◌, map}
use Rattle.paper.specs.declared.Verdict.{Verdict}
use Rattle.paper.specs.declared.Verdict.TheVariants.{Inside, Granted, Violation}
use Rattle.paper.specs.Match.{Moment}
use Rattle.paper.specs.Promises.{judge_event}
use Rattle.paper.proofs.Computing.{computing}
use Rattle.paper.proofs.WorkedPolicy.{worked_policy}

abbrev reads : ℕ
reads = 1

abbrev writes : ℕ
writes = 2

abbrev calls : ℕ
calls = 3

abbrev returns : ℕ
returns = 4

abbrev moment : List ℕ → ℕ → ℕ → Moment
moment stack uid gid = record { stack = stack; uid = uid; gid = gid; namespace = 2 }

-- the same in another namespace
abbrev elsewhere : Moment → ℕ → Moment
elsewhere m namespace = record { stack = m.stack; uid = m.uid; gid = m.gid; namespace = namespace }

-- a static object: its uid, gid and namespace are not looked at
abbrev static : Moment
static = moment [] 9 9

-- functions: Boot main 0, init 1; Ctl push 2, pop 3, step 4; Net recv 5; Log put 6, flush 7
abbrev judged : ℕ → ℕ → Moment → Moment → Verdict
judged operation target m allocation = judge_event worked_policy operation target m allocation

record Event : Type 0 where
  given : Verdict
  told : Verdict

-- a call or return of a function
abbrev jump : ℕ → ℕ → Moment → Verdict → Event
jump operation target m told = record { given = judged operation target m static; told = told }

-- a read or write of an object, static or allocated at a moment
abbrev access : ℕ → ℕ → Moment → Moment → Verdict → Event
access operation target m allocation told = record { given = judged operation target m allocation; told = told }

abbrev verdicts : List Event → List Verdict
verdicts events = map (λ (e : Event). e.given) events

abbrev claims : List Event → List Verdict
claims events = map (λ (e : Event). e.told) events

-- step under main: entry 0 matches, and so does entry 2, which grants nothing
abbrev step : Moment
step = moment (0 ∷ 4 ∷ []) 5 7

abbrev jumps : List Event
jumps =
    -- entry 0 calls Net; `all` between main and step drops out
    jump calls 5 step (Granted 0)
    -- and Boot; `all` swallows two frames
    ∷ jump calls 0 (moment (0 ∷ 2 ∷ 3 ∷ 4 ∷ []) 5 7) (Granted 0)
    -- not Log, which is not in its list
    ∷ jump calls 6 step (Violation 4)
    -- it returns anywhere
    ∷ jump returns 6 step (Granted 0)
    -- the pattern's first function: under init entry 0 does not match; entry 2 does, and its bare `can_call` and its `can_return: []` grant nothing
    ∷ jump calls 5 (moment (1 ∷ 4 ∷ []) 5 7) (Violation 4)
    ∷ jump returns 6 (moment (1 ∷ 4 ∷ []) 5 7) (Violation 4)
    -- the pattern's last function: push on top is of the same domain, but not step
    ∷ jump returns 6 (moment (0 ∷ 4 ∷ 2 ∷ []) 5 7) (Violation 4)
    -- one domain
    ∷ jump calls 3 step Inside
    ∷ jump returns 2 (moment (1 ∷ 4 ∷ []) 5 7) Inside
    -- entry 1 has every field omitted
    ∷ jump calls 5 (moment (0 ∷ []) 0 0) (Granted 1)
    ∷ jump returns 7 (moment (0 ∷ 1 ∷ []) 3 3) (Granted 1)
    -- `uid: root` is 0 alone, and `can_call: all`; recv alone lacks the frame of Boot of entry 4
    ∷ jump calls 4 (moment (5 ∷ []) 0 7) (Granted 3)
    ∷ jump calls 4 (moment (5 ∷ []) 1 7) (Violation 3)
    -- `uid: user` is all but 0, init, of Boot, stands in the middle, and Ctl is in the `can_return`
    ∷ jump returns 4 (moment (0 ∷ 1 ∷ 2 ∷ 5 ∷ []) 1 7) (Granted 4)
    ∷ jump returns 6 (moment (0 ∷ 1 ∷ 2 ∷ 5 ∷ []) 1 7) (Violation 4)
    -- main is of Boot too; push is not, nor is an unlisted frame
    ∷ jump returns 4 (moment (0 ∷ 5 ∷ []) 1 7) (Granted 4)
    ∷ jump returns 4 (moment (2 ∷ 9 ∷ 5 ∷ []) 1 7) (Violation 3)
    ∷ jump calls 4 (moment (0 ∷ 1 ∷ 2 ∷ 5 ∷ []) 1 7) (Violation 4)
    -- as root entry 3 matches, whose bare `can_return` grants nothing
    ∷ jump returns 4 (moment (0 ∷ 1 ∷ 2 ∷ 5 ∷ []) 0 7) (Violation 4)
    -- entry 5: `gid: H` and `namespace: N` bind anything; `can_call` and `can_return` omitted
    ∷ jump calls 5 (moment (6 ∷ []) 0 9) (Granted 5)
    ∷ jump returns 0 (moment (9 ∷ 9 ∷ 7 ∷ []) 1 0) (Granted 5)
    -- an unlisted top, and an unlisted target
    ∷ jump calls 5 (moment (0 ∷ 8 ∷ []) 5 7) (Violation 1)
    ∷ jump calls 8 step (Violation 2)
    ∷ []

calls_and_returns : verdicts jumps ≡ claims jumps
unfolding computing worked_policy
calls_and_returns = refl

abbrev accesses : List Event
accesses =
    -- entry 0 reads Heaps under [all, push, all] and its own uid
    access reads 2 step (moment (0 ∷ 2 ∷ 3 ∷ []) 5 1) (Granted 0)
    -- another uid, and a stack without push
    ∷ access reads 2 step (moment (0 ∷ 2 ∷ 3 ∷ []) 6 1) (Violation 4)
    ∷ access reads 2 step (moment (0 ∷ 3 ∷ []) 5 1) (Violation 4)
    -- the bound uid is the moment's, not always 5
    ∷ access reads 2 (moment (0 ∷ 4 ∷ []) 6 7) (moment (0 ∷ 2 ∷ 3 ∷ []) 6 1) (Granted 0)
    -- its third item has every domain under its own gid
    ∷ access reads 2 step (moment (0 ∷ 3 ∷ []) 6 7) (Granted 0)
    ∷ access reads 0 step (moment (3 ∷ []) 6 7) (Granted 0)
    ∷ access reads 0 step (moment (3 ∷ []) 6 8) (Violation 4)
    -- Misc under any context, also of unlisted frames, and static; Gauges are not static for it
    ∷ access reads 5 step (moment (99 ∷ []) 3 3) (Granted 0)
    ∷ access reads 6 step static (Granted 0)
    ∷ access reads 0 step static (Violation 4)
    -- it writes Heaps that root allocated, and with Misc those that pop under a function of Ctl did for a user of its gid
    ∷ access writes 3 step (moment (9 ∷ []) 0 1) (Granted 0)
    ∷ access writes 3 step (moment (9 ∷ []) 1 7) (Violation 4)
    ∷ access writes 3 step (moment (2 ∷ 3 ∷ []) 8 7) (Granted 0)
    ∷ access writes 6 step (moment (2 ∷ 3 ∷ []) 8 7) (Granted 0)
    ∷ access writes 6 step (moment (4 ∷ 3 ∷ []) 8 7) (Granted 0)
    -- one frame of Ctl, and not of another domain
    ∷ access writes 6 step (moment (2 ∷ 4 ∷ 3 ∷ []) 8 7) (Violation 4)
    ∷ access writes 6 step (moment (0 ∷ 3 ∷ []) 8 7) (Violation 4)
    ∷ access writes 6 step (moment (2 ∷ 3 ∷ []) 0 7) (Violation 4)
    ∷ access writes 3 step (moment (2 ∷ 3 ∷ []) 8 8) (Violation 4)
    ∷ access writes 3 step (moment (2 ∷ 9 ∷ 3 ∷ []) 8 7) (Violation 4)
    -- reads and writes are not each other's
    ∷ access reads 3 step (moment (9 ∷ []) 0 1) (Violation 4)
    ∷ access writes 2 step (moment (0 ∷ 2 ∷ 3 ∷ []) 5 1) (Violation 4)
    ∷ access writes 0 step (moment (2 ∷ 3 ∷ []) 8 7) (Violation 4)
    ∷ access writes 3 step static (Violation 4)
    -- entry 2 alone: `can_read: []` and a bare `can_write`
    ∷ access reads 6 (moment (4 ∷ []) 5 7) static (Violation 4)
    ∷ access writes 6 (moment (4 ∷ []) 5 7) static (Violation 4)
    -- entry 1 omits both
    ∷ access reads 5 (moment (1 ∷ []) 5 7) static (Granted 1)
    ∷ access writes 4 (moment (1 ∷ []) 5 7) (moment (9 ∷ []) 1 1) (Granted 1)
    -- entry 3: bare `can_read`, `can_write: all`; entry 4: `can_read: all`, `can_write: []`
    ∷ access reads 0 (moment (5 ∷ []) 0 7) static (Violation 4)
    ∷ access writes 0 (moment (5 ∷ []) 0 7) static (Granted 3)
    ∷ access reads 2 (moment (1 ∷ 5 ∷ []) 1 7) (moment (9 ∷ []) 3 4) (Granted 4)
    ∷ access writes 2 (moment (1 ∷ 5 ∷ []) 1 7) static (Violation 4)
    -- entry 5 reads Gauges of its own namespace by its third item, nothing by the bare one and the `[]`; it writes all
    ∷ access reads 1 (moment (6 ∷ []) 5 7) (moment (9 ∷ []) 1 1) (Granted 5)
    ∷ access reads 1 (elsewhere (moment (6 ∷ []) 5 7) 0) (elsewhere (moment (9 ∷ []) 1 1) 0) (Granted 5)
    ∷ access reads 1 (moment (6 ∷ []) 5 7) (elsewhere (moment (9 ∷ []) 1 1) 7) (Violation 4)
    ∷ access reads 1 (moment (6 ∷ []) 5 7) static (Violation 4)
    ∷ access reads 5 (moment (6 ∷ []) 5 7) static (Violation 4)
    ∷ access writes 5 (moment (6 ∷ []) 5 7) static (Granted 5)
    -- there is no object 7, though there is a function 7; Spare holds no object, so no number lies in it
    ∷ access reads 7 step static (Violation 2)
    ∷ access writes 7 (moment (0 ∷ []) 5 7) static (Violation 2)
    ∷ access reads 6 (moment (8 ∷ []) 5 7) static (Violation 1)
    ∷ []

reads_and_writes : verdicts accesses ≡ claims accesses
unfolding computing worked_policy
reads_and_writes = refl
