-- The one number that a caller in C gets for each case of an answer, digit by digit as include/dovetenon.h lays it out: rest, class and value.
use mathlib.Core.Path.{◌≡◌, refl}
use mathlib.Core.List.{[], ◌∷◌, map}
use Rattle.paper.specs.declared.Reading.TheVariants.{Accepted, Unread}
use Rattle.paper.specs.declared.Filling.TheVariants.{Written, Unfilled}
use Rattle.paper.specs.declared.Verdict.TheVariants.{Inside, Granted, Violation, Unjudged}
use Rattle.paper.specs.declared.Report.TheVariants.{Clear, Clash, Unreported}
use Rattle.paper.specs.Answers.{reading_packed, filling_packed, verdict_packed, report_packed, name_parts, name_packed, unpacked, packed, clash_rest}
use Rattle.paper.specs.Common.{bytes}

readings : map reading_packed (Unread 4 12 ∷ Unread 2 0 ∷ Unread 4 65537 ∷ Accepted ∷ []) ≡ 0xC00010004 ∷ 0x10002 ∷ 0x1000100010004 ∷ 0x20000 ∷ []
unfolding reading_packed packed
readings = refl

fillings : map filling_packed (Unfilled 30 0 ∷ Unfilled 5 2 ∷ Written 2825 ∷ Written 65536 ∷ []) ≡ 0x1001E ∷ 0x200010005 ∷ 0xB0900020000 ∷ 0x1000000020000 ∷ []
unfolding filling_packed packed
fillings = refl

verdicts : map verdict_packed (Unjudged 20 ∷ Violation 4 ∷ Inside ∷ Granted 0 ∷ Granted 127 ∷ []) ≡ 0x10014 ∷ 0x20004 ∷ 0x30000 ∷ 0x40000 ∷ 0x4007F ∷ []
unfolding verdict_packed packed
verdicts = refl

reports :
    map report_packed (Unreported 40 ∷ Clash 0 1 2 0 0 0 ∷ Clash 126 127 30 1 0 0 ∷ Clear ∷ []) ≡ 0x10028 ∷ 0x0002010000020000 ∷ 0x011E7F7E00020000 ∷ 0x30000 ∷ []
unfolding report_packed packed clash_rest
reports = refl

names :
    map name_packed (record { start = 0; bytes = [] } ∷ record { start = 20; bytes = bytes "Meter" } ∷ record { start = 65535; bytes = bytes "A" } ∷ [])
    ≡ 0x10000 ∷ 0x1400020005 ∷ 0xFFFF00020001 ∷ []
unfolding name_packed name_parts packed
names = refl

parts_again :
    map unpacked (0xC00010004 ∷ 0x4007F ∷ 0x011E7F7E00020000 ∷ 0 ∷ [])
    ≡ record { class = 1; value = 4; rest = 12 }
    ∷ record { class = 4; value = 127; rest = 0 }
    ∷ record { class = 2; value = 0; rest = 0x011E7F7E }
    ∷ record { class = 0; value = 0; rest = 0 }
    ∷ []
unfolding unpacked
parts_again = refl
