-- Where the first part is all of it, it is no identifier; where it is not, it is no name.
use Rattle.std.proofs.Common.{rules}
use Rattle.text_lists.proofs.Scalars.{part_within, pattern_subject, pattern_all, pattern_name}
use Rattle.text_lists.proofs.read_pattern.Goals as goal

pub returns-then-not-element_ends : goal.returns-then-not-element_ends
returns-then-not-element_ends c = search (rules, pattern_subject)

pub slice_bounds-is_all-end : goal.slice_bounds-is_all-end
slice_bounds-is_all-end c = search (rules, part_within)

pub returns-then-is_all : goal.returns-then-is_all
returns-then-is_all c = search (rules, pattern_all)

pub slice_bounds-is_domain_name-end : goal.slice_bounds-is_domain_name-end
slice_bounds-is_domain_name-end c = search (rules, part_within)

pub returns : goal.returns
returns c = search (rules, pattern_name)
