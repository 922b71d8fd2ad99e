-- What packing an answer needs, as plain laws.
use mathlib.Core.Path.{◌≡◌, refl}
use Prim.Native.Nat.{ℕ, ◌+◌, ◌*◌, ◌<◌, ◌≤◌}
use native.Mathlib.Omega.{arith}
use Rattle.paper.specs.declared.Verdict.{Verdict}
use Rattle.paper.specs.declared.Verdict.TheVariants.{Inside, Granted, Violation, Unjudged}
use Rattle.paper.specs.declared.Report.{Report}
use Rattle.paper.specs.declared.Report.TheVariants.{Clear, Clash, Unreported}
use Rattle.paper.specs.declared.Reading.{Reading}
use Rattle.paper.specs.declared.Reading.TheVariants.{Accepted, Unread}
use Rattle.paper.specs.declared.Filling.{Filling}
use Rattle.paper.specs.declared.Filling.TheVariants.{Written, Unfilled}
use Rattle.paper.specs.Answers.{clash_rest, packed, reading_packed, filling_packed, verdict_packed, report_packed, ReportFits}

-- ---- parts to a number

module _ (class value : ℕ) where
  pub half_packed : value + class * 65536 ≡ packed (record { class = class; value = value; rest = 0 })
  unfolding packed
  half_packed = omega arith

  pub whole_packed :
      (low rest : ℕ) → low ≡ packed (record { class = class; value = value; rest = 0 })
      → low + rest * 4294967296 ≡ packed (record { class = class; value = value; rest = rest })
  unfolding packed
  whole_packed low rest h = omega arith

pub clash_packed : (lower higher depth uid : ℕ) → lower + higher * 256 + depth * 65536 + uid * 16777216 ≡ clash_rest lower higher depth uid
unfolding clash_rest
clash_packed lower higher depth uid = refl

-- ---- the number of each case

module _ (v : Verdict) (r : ℕ) where
  pub packs_unjudged : (number : ℕ) → v ≡ Unjudged number → r ≡ packed (record { class = 1; value = number; rest = 0 }) → r ≡ verdict_packed v
  unfolding verdict_packed
  packs_unjudged number e h = rw e h

  pub packs_violation : (number : ℕ) → v ≡ Violation number → r ≡ packed (record { class = 2; value = number; rest = 0 }) → r ≡ verdict_packed v
  unfolding verdict_packed
  packs_violation number e h = rw e h

  pub packs_inside : v ≡ Inside → r ≡ packed (record { class = 3; value = 0; rest = 0 }) → r ≡ verdict_packed v
  unfolding verdict_packed
  packs_inside e h = rw e h

  pub packs_granted : (entry : ℕ) → v ≡ Granted entry → r ≡ packed (record { class = 4; value = entry; rest = 0 }) → r ≡ verdict_packed v
  unfolding verdict_packed
  packs_granted entry e h = rw e h

module _ (a : Reading) (r : ℕ) where
  pub packs_unread : (number line : ℕ) → a ≡ Unread number line → r ≡ packed (record { class = 1; value = number; rest = line }) → r ≡ reading_packed a
  unfolding reading_packed
  packs_unread number line e h = rw e h

  pub packs_accepted : a ≡ Accepted → r ≡ packed (record { class = 2; value = 0; rest = 0 }) → r ≡ reading_packed a
  unfolding reading_packed
  packs_accepted e h = rw e h

module _ (a : Filling) (r : ℕ) where
  pub packs_unfilled : (number line : ℕ) → a ≡ Unfilled number line → r ≡ packed (record { class = 1; value = number; rest = line }) → r ≡ filling_packed a
  unfolding filling_packed
  packs_unfilled number line e h = rw e h

  pub packs_written : (size : ℕ) → a ≡ Written size → r ≡ packed (record { class = 2; value = 0; rest = size }) → r ≡ filling_packed a
  unfolding filling_packed
  packs_written size e h = rw e h

module _ (a : Report) (r : ℕ) where
  pub packs_unreported : (number : ℕ) → a ≡ Unreported number → r ≡ packed (record { class = 1; value = number; rest = 0 }) → r ≡ report_packed a
  unfolding report_packed
  packs_unreported number e h = rw e h

  pub packs_clash :
      (lower higher depth uid gid namespace rest : ℕ) → a ≡ Clash lower higher depth uid gid namespace → rest ≡ clash_rest lower higher depth uid
      → r ≡ packed (record { class = 2; value = 0; rest = rest }) → r ≡ report_packed a
  unfolding report_packed
  packs_clash lower higher depth uid gid namespace rest e s h = rw (e, ← s) h

  pub packs_clear : a ≡ Clear → r ≡ packed (record { class = 3; value = 0; rest = 0 }) → r ≡ report_packed a
  unfolding report_packed
  packs_clear e h = rw e h

-- ---- the numbers of a clash have room
module _ (a : Report) (lower higher depth uid gid namespace : ℕ) (e : a ≡ Clash lower higher depth uid gid namespace) (f : ReportFits a) where
  pub lower_fits : lower < 256
  lower_fits = (rw e at f).0

  pub higher_fits : higher < 256
  higher_fits = (rw e at f).1

  pub depth_fits : depth < 256
  depth_fits = (rw e at f).2

  pub uid_fits : uid ≤ 1
  uid_fits = (rw e at f).3
