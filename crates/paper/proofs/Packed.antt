-- Packing loses nothing: the parts of a packed answer are read off again, so two answers with one packed number are equal; and 0 is none of them.
use Prim.Native.Nat.{ℕ, ◌+◌, ◌*◌, ◌/◌, ◌%◌, ◌<◌}
use mathlib.Core.Path.{◌≡◌, refl, sym, ap, ◌∙◌}
use mathlib.Core.Bool.{Bool, true, false, cond}
use lib.Dec.{eqb}
use lib.ListN.{length}
use native.Mathlib.Omega.{arith}
use Rattle.paper.specs.declared.Reading.{Reading}
use Rattle.paper.specs.declared.Reading.TheVariants.{Accepted, Unread}
use Rattle.paper.specs.declared.Filling.{Filling}
use Rattle.paper.specs.declared.Filling.TheVariants.{Written, Unfilled}
use Rattle.paper.specs.declared.Verdict.{Verdict}
use Rattle.paper.specs.declared.Verdict.TheVariants.{Inside, Granted, Violation, Unjudged}
use Rattle.paper.specs.declared.Report.{Report}
use Rattle.paper.specs.declared.Report.TheVariants.{Clear, Clash, Unreported}
use Rattle.paper.specs.Common.{is_empty}
use Rattle.paper.specs.Lookup.{Stretch}
use Rattle.paper.specs.Answers.{Parts, reading_parts, filling_parts, verdict_parts, clash_rest, report_parts}
use Rattle.paper.specs.Answers.{packed, reading_packed, filling_packed, verdict_packed, report_packed, name_parts, name_packed, unpacked, PartsFit, ClashFits, ReportFits}

-- ---- any parts

pub parts_unpacked : (a : Parts) → PartsFit a → unpacked (packed a) ≡ a
unfolding packed unpacked
parts_unpacked a (c, v, r) =
    let class : (a.value + a.class * 65536 + a.rest * 4294967296) / 65536 % 65536 ≡ a.class = omega arith in
    let value : (a.value + a.class * 65536 + a.rest * 4294967296) % 65536 ≡ a.value = omega arith in
    let rest : (a.value + a.class * 65536 + a.rest * 4294967296) / 4294967296 ≡ a.rest = omega arith in
    rw (class, value, rest)

pub one_number_one_parts : (a b : Parts) → PartsFit a → PartsFit b → packed a ≡ packed b → a ≡ b
one_number_one_parts a b f g e = sym (parts_unpacked a f) ∙ ap unpacked e ∙ parts_unpacked b g

-- ---- the answer that some parts are

abbrev reading_in : Parts → Reading
reading_in a = cond (eqb a.class 1) (Unread a.value a.rest) Accepted

abbrev filling_in : Parts → Filling
filling_in a = cond (eqb a.class 1) (Unfilled a.value a.rest) (Written a.rest)

abbrev verdict_in : Parts → Verdict
verdict_in a =
    cond (eqb a.class 1) (Unjudged a.value)
    (cond (eqb a.class 2) (Violation a.value)
    (cond (eqb a.class 3) Inside (Granted a.value)))

abbrev clash_in : ℕ → Report
clash_in rest = Clash (rest % 256) (rest / 256 % 256) (rest / 65536 % 256) (rest / 16777216) 0 0

abbrev report_in : Parts → Report
report_in a =
    cond (eqb a.class 1) (Unreported a.value)
    (cond (eqb a.class 2) (clash_in a.rest) Clear)

reading_in_lem : (r : Reading) → reading_in (reading_parts r) ≡ r
reading_in_lem (Unread number line) = refl
reading_in_lem Accepted = refl

filling_in_lem : (f : Filling) → filling_in (filling_parts f) ≡ f
filling_in_lem (Unfilled number line) = refl
filling_in_lem (Written size) = refl

verdict_in_lem : (v : Verdict) → verdict_in (verdict_parts v) ≡ v
verdict_in_lem (Unjudged number) = refl
verdict_in_lem (Violation number) = refl
verdict_in_lem Inside = refl
verdict_in_lem (Granted entry) = refl

byte_below : (x above : ℕ) → x < 256 → (x + above * 256) % 256 ≡ x
byte_below x above h = omega arith

module _ (lower higher depth uid : ℕ) (l : lower < 256) (h : higher < 256) (d : depth < 256) where
  lower_in : clash_rest lower higher depth uid % 256 ≡ lower
  unfolding clash_rest
  lower_in = omega arith

  higher_in : clash_rest lower higher depth uid / 256 % 256 ≡ higher
  unfolding clash_rest
  higher_in =
      let above : (lower + higher * 256 + depth * 65536 + uid * 16777216) / 256 ≡ higher + (depth + uid * 256) * 256 = omega arith in
      rw (above, byte_below)

  depth_in : clash_rest lower higher depth uid / 65536 % 256 ≡ depth
  unfolding clash_rest
  depth_in =
      let above : (lower + higher * 256 + depth * 65536 + uid * 16777216) / 65536 ≡ depth + uid * 256 = omega arith in
      rw (above, byte_below)

  uid_in_lem : clash_rest lower higher depth uid / 16777216 ≡ uid
  unfolding clash_rest
  uid_in_lem = omega arith

clash_in_lem :
    (lower higher depth uid gid namespace : ℕ) → ClashFits lower higher depth uid gid namespace
    → clash_in (clash_rest lower higher depth uid) ≡ Clash lower higher depth uid gid namespace
clash_in_lem lower higher depth uid gid namespace (l, h, d, u, g, n) = rw (lower_in, higher_in, depth_in, uid_in_lem, g, n)

report_in_lem : (r : Report) → ReportFits r → report_in (report_parts r) ≡ r
report_in_lem (Unreported number) f = refl
report_in_lem (Clash lower higher depth uid gid namespace) f = clash_in_lem lower higher depth uid gid namespace f
report_in_lem Clear f = refl

-- ---- two answers with one packed number are equal

pub one_number_one_reading : (r s : Reading) → PartsFit (reading_parts r) → PartsFit (reading_parts s) → reading_packed r ≡ reading_packed s → r ≡ s
unfolding reading_packed
one_number_one_reading r s f g e = sym (reading_in_lem r) ∙ ap reading_in (one_number_one_parts (reading_parts r) (reading_parts s) f g e) ∙ reading_in_lem s

pub one_number_one_filling : (f g : Filling) → PartsFit (filling_parts f) → PartsFit (filling_parts g) → filling_packed f ≡ filling_packed g → f ≡ g
unfolding filling_packed
one_number_one_filling f g p q e = sym (filling_in_lem f) ∙ ap filling_in (one_number_one_parts (filling_parts f) (filling_parts g) p q e) ∙ filling_in_lem g

pub one_number_one_verdict : (v w : Verdict) → PartsFit (verdict_parts v) → PartsFit (verdict_parts w) → verdict_packed v ≡ verdict_packed w → v ≡ w
unfolding verdict_packed
one_number_one_verdict v w f g e = sym (verdict_in_lem v) ∙ ap verdict_in (one_number_one_parts (verdict_parts v) (verdict_parts w) f g e) ∙ verdict_in_lem w

-- what has room in a report has room in its parts
report_parts_fit : (r : Report) → ReportFits r → PartsFit (report_parts r)
unfolding clash_rest
report_parts_fit (Unreported number) f = (omega arith, f, omega arith)
report_parts_fit (Clash lower higher depth uid gid namespace) (l, h, d, u, g, n) = (omega arith, omega arith, omega arith)
report_parts_fit Clear f = (omega arith, omega arith, omega arith)

pub one_number_one_report : (r s : Report) → ReportFits r → ReportFits s → report_packed r ≡ report_packed s → r ≡ s
unfolding report_packed
one_number_one_report r s f g e =
    sym (report_in_lem r f)
    ∙ ap report_in (one_number_one_parts (report_parts r) (report_parts s) (report_parts_fit r f) (report_parts_fit s g) e)
    ∙ report_in_lem s g

-- ---- 0 is no answer

pub reading_not_zero : (r : Reading) → reading_packed r ≡ 0 → ⊥
unfolding reading_packed packed
reading_not_zero (Unread number line) e = omega arith
reading_not_zero Accepted e = omega arith

pub filling_not_zero : (f : Filling) → filling_packed f ≡ 0 → ⊥
unfolding filling_packed packed
filling_not_zero (Unfilled number line) e = omega arith
filling_not_zero (Written size) e = omega arith

pub verdict_not_zero : (v : Verdict) → verdict_packed v ≡ 0 → ⊥
unfolding verdict_packed packed
verdict_not_zero (Unjudged number) e = omega arith
verdict_not_zero (Violation number) e = omega arith
verdict_not_zero Inside e = omega arith
verdict_not_zero (Granted entry) e = omega arith

pub report_not_zero : (r : Report) → report_packed r ≡ 0 → ⊥
unfolding report_packed packed
report_not_zero (Unreported number) e = omega arith
report_not_zero (Clash lower higher depth uid gid namespace) e = omega arith
report_not_zero Clear e = omega arith

pub name_not_zero : (s : Stretch) → name_packed s ≡ 0 → ⊥
unfolding name_packed name_parts packed
name_not_zero s e = go (is_empty s.bytes) e
  where
    go : (b : Bool) → length s.bytes + cond b 1 2 * 65536 + s.start * 4294967296 ≡ 0 → ⊥
    go true k = omega arith
    go false k = omega arith
