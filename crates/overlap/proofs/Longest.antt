-- Two patterns of 16 that need a stack of 30 functions, and a policy of two entries with them.
use Prim.Native.Nat.{ℕ, ◌<◌, ◌≤◌}
use native.Mathlib.Omega.{arith}
use mathlib.Core.Logic.{⊎_elim}
use mathlib.Core.Path.{refl}
use mathlib.Core.List.{List, [], ◌∷◌, ◌++◌, map}
use lib.ListN.{length, replicate}
use Rattle.paper.specs.declared.Report.TheVariants.{Clash}
use Rattle.paper.specs.Scalars.{anyone}
use Rattle.paper.specs.Policy.{Element, all, fn, every, Entry, Policy}
use Rattle.paper.specs.Match.{Moment}
use Rattle.paper.specs.Overlap.{BothMatch, PairBefore, NotAfter, Says, entry_of_policy, witness_left}
use Rattle.paper.proofs.Computing.{computing}
use Rattle.overlap_meeting.proofs.Order.{after_length}
use Rattle.overlap_meeting.proofs.Needed.{needed}
use Rattle.overlap.proofs.Clash.{matched}

abbrev base : List ℕ
base = 0 ∷ 1 ∷ 2 ∷ 3 ∷ 4 ∷ 5 ∷ 6 ∷ 7 ∷ 8 ∷ 9 ∷ 10 ∷ 11 ∷ 12 ∷ 13 ∷ 14 ∷ []

abbrev above_fifteen : List ℕ
above_fifteen = 16 ∷ 17 ∷ 18 ∷ 19 ∷ 20 ∷ 21 ∷ 22 ∷ 23 ∷ 24 ∷ 25 ∷ 26 ∷ 27 ∷ 28 ∷ 29 ∷ []

-- all thirty functions from the base up
abbrev thirty : List ℕ
thirty = base ++ (15 ∷ above_fifteen)

abbrev entry : List Element → Entry
entry pattern =
    record { context = record { pattern = pattern; uid = anyone; gid = anyone; namespace = anyone }; subject = 0; calls = every; returns = every; reads = []; writes = [] }

abbrev two : Policy
two =
    record {
      object_domains = 0;
      subject_domains = 1;
      objects = [];
      functions = replicate 30 0;
      entries = entry (map fn base ++ (all ∷ [])) ∷ entry (all ∷ map fn (15 ∷ above_fifteen)) ∷ [];
    }

none_before : (i j : ℕ) → i < j → PairBefore i j 0 1 → ⊥
none_before i j below before = ⊎_elim (λ h. omega arith) (λ h. omega arith) before

thirty_first : (m : Moment) → BothMatch two 0 1 m → NotAfter thirty m.stack
unfolding entry_of_policy
thirty_first m both = needed two.functions base 15 above_fifteen m.stack refl (matched two _ m both.one).takes (matched two _ m both.other).takes

-- no shorter stack is matched by both
pub thirty_needed : (m : Moment) → BothMatch two 0 1 m → 30 ≤ length m.stack
thirty_needed m both = after_length thirty m.stack (thirty_first m both)

-- and they clash there
pub thirty_clash : (old : List ℕ) → Says two old (witness_left thirty old) (Clash 0 1 30 0 0 0)
unfolding computing
thirty_clash old =
    record {
      ordered = omega arith;
      listed = omega arith;
      first = λ i j below listed before m both. none_before i j below before;
      both = record { one = refl; other = refl };
      least = thirty_first;
      short = omega arith;
      left = refl;
      uid_is = refl;
      gid_is = refl;
      namespace_is = refl;
    }
