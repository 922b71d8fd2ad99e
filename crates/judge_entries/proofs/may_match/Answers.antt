-- Another subject, a uid or an end of the pattern that does not fit: each alone tells, where it is asked.
use Rattle.std.proofs.Common.{rules}
use Rattle.judge_entries.proofs.Passes.{subject_of_none, subject_known, another_subject_tells, may_well, uid_tells, ends_tell}
use Rattle.judge_entries.proofs.may_match.Goals as goal

pub returns-then-not-has_subject-clause-of_subject : goal.returns-then-not-has_subject-clause-of_subject
returns-then-not-has_subject-clause-of_subject g c = search (rules, subject_of_none)

pub returns-then-not-has_subject-clause-may : goal.returns-then-not-has_subject-clause-may
returns-then-not-has_subject-clause-may g c = search (rules, another_subject_tells)

pub returns-then-not-asks_ends-clause-of_subject : goal.returns-then-not-asks_ends-clause-of_subject
returns-then-not-asks_ends-clause-of_subject g c = search (rules, subject_known)

pub returns-then-not-asks_ends-clause-may : goal.returns-then-not-asks_ends-clause-may
returns-then-not-asks_ends-clause-may g c = search (rules, may_well)

pub returns-then-not-sort_fits-clause-of_subject : goal.returns-then-not-sort_fits-clause-of_subject
returns-then-not-sort_fits-clause-of_subject g c = search (rules, subject_of_none)

pub returns-then-not-sort_fits-clause-may : goal.returns-then-not-sort_fits-clause-may
returns-then-not-sort_fits-clause-may g c = search (rules, uid_tells)

pub returns-clause-of_subject : goal.returns-clause-of_subject
returns-clause-of_subject g c = search (rules, subject_known)

pub returns-clause-may : goal.returns-clause-may
returns-clause-may g c = search (rules, ends_tell)

pub pattern_at-requires-clause-there : goal.pattern_at-requires-clause-there
pattern_at-requires-clause-there g c = g.met.R.Reading.fewer _ _ _ (search rules) (c.requires.ready.entries _ c.requires.k_bound.0)
