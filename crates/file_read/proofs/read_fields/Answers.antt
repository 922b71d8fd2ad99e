-- 6, and then the rules that are left.
use Rattle.std.proofs.Common.{rules}
use Rattle.file_read.proofs.Asked.{over_fits, no_over}
use Rattle.file_read.proofs.Ruling.{over_answers, over_leaves}
use Rattle.file_read.proofs.read_fields.Goals as goal

pub refused-requires : goal.refused-requires
refused-requires c = search (rules, over_fits)

pub returns-then-over-ne-NO_LINE : goal.returns-then-over-ne-NO_LINE
returns-then-over-ne-NO_LINE c = search (rules, over_answers, over_leaves)

pub read_within-requires : goal.read_within-requires
read_within-requires c = record {
  sound = c.requires.sound;
  few = c.requires.few;
  readable = c.requires.readable;
  within = no_over _ _ c.over_limit-over.ensures c.if-over-ne-NO_LINE.false;
  cleared = c.requires.cleared;
}
