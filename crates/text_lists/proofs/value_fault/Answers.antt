-- By the value, each as its own row of the definition.
use Rattle.std.proofs.Common.{rules}
use Rattle.paper.specs.Listing.{value_fault}
use Rattle.text_lists.proofs.Laws.{value_known, layout_told, scalar_told, all_none_is, fault_found, fault_on}
use Rattle.text_lists.proofs.value_fault.Goals as goal

pub returns-in-Keys : goal.returns-in-Keys
unfolding value_fault
returns-in-Keys c = search (rules, value_known)

pub returns-in-NoneOrItems : goal.returns-in-NoneOrItems
unfolding value_fault
returns-in-NoneOrItems c = search (rules, value_known, layout_told, scalar_told)

pub returns-in-AllOrKeys : goal.returns-in-AllOrKeys
unfolding value_fault
returns-in-AllOrKeys c = search (rules, value_known, layout_told, scalar_told)

pub returns-in-AllNoneOrItems : goal.returns-in-AllNoneOrItems
unfolding value_fault
returns-in-AllNoneOrItems c = search (rules, value_known, all_none_is)

pub returns-in-One : goal.returns-in-One
unfolding value_fault
returns-in-One c = search (rules, value_known, layout_told, scalar_told)

pub returns-in-ListOf : goal.returns-in-ListOf
unfolding value_fault
returns-in-ListOf c = search (rules, value_known)

pub returns-then-is_none : goal.returns-then-is_none
unfolding value_fault
returns-then-is_none c = search (rules, value_known, fault_found)

pub returns-else-is_none : goal.returns-else-is_none
unfolding value_fault
returns-else-is_none c = search (rules, value_known, fault_on)

pub returns-then-is_all : goal.returns-then-is_all
unfolding value_fault
returns-then-is_all c = search (rules, value_known, fault_found)

pub returns-else-is_all : goal.returns-else-is_all
unfolding value_fault
returns-else-is_all c = search (rules, value_known, fault_on)
