-- The loop: every byte before it may stand and every byte from it on, where all may.
use Rattle.std.proofs.Common.{◌≡◌, ◌&&◌, ◌-◌, drop}
use Rattle.laws.specs.Standing.{all_stand}
use Rattle.text_lines.proofs.has_bad_byte.Given as goal

abbrev pub invariant-loop-i : goal.invariant-loop-i
invariant-loop-i l = ((l.right && all_stand (drop (l.i - 1) l.text)) ≡ all_stand l.text)
