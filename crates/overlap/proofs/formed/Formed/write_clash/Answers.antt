-- No clash, or the best stack of both patterns.
use Rattle.std.proofs.Common.{rules}
use Rattle.overlap.proofs.Words.{entry_listed, parts_fit_lem, none_written, clash_written}
use Rattle.overlap.proofs.formed.Formed.write_clash.Goals as goal

pub may_clash-requires : goal.may_clash-requires
may_clash-requires c = (entry_listed _ c.args.self.now.formed _ c.requires.listed.0, entry_listed _ c.args.self.now.formed _ c.requires.listed.1)

pub returns-then-not-may_clash : goal.returns-then-not-may_clash
returns-then-not-may_clash c = search (rules, none_written)

pub pattern_of-p-requires : goal.pattern_of-p-requires
pattern_of-p-requires c = entry_listed _ c.args.self.now.formed _ c.requires.listed.0

pub pattern_of-q-requires : goal.pattern_of-q-requires
pattern_of-q-requires c = entry_listed _ c.args.self.now.formed _ c.requires.listed.1

pub subject_of-subject-requires : goal.subject_of-subject-requires
subject_of-subject-requires c = entry_listed _ c.args.self.now.formed _ c.requires.listed.0

pub write_best_stack-requires : goal.write_best_stack-requires
write_best_stack-requires c = parts_fit_lem _ c.args.self.now.formed _ _ c.requires.listed.0 c.requires.listed.1 _ _ _ c.pattern_of-p.ensures c.pattern_of-q.ensures c.requires.room

pub returns : goal.returns
returns c = let read = c.args.self.now.read in search (rules, clash_written)
