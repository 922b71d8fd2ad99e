-- Six stores over zeros.
use Rattle.std.proofs.Common.{rules}
use Rattle.file_table.proofs.Domains.{head_below, head_words_lem}
use Rattle.file_table.proofs.write_head.Goals as goal

pub bounds-out-0 : goal.bounds-out-0
bounds-out-0 c = search (rules, head_below)

pub bounds-out-1 : goal.bounds-out-1
bounds-out-1 c = search (rules, head_below) depth 12

pub bounds-out-2 : goal.bounds-out-2
bounds-out-2 c = search (rules, head_below) depth 12

pub bounds-out-3 : goal.bounds-out-3
bounds-out-3 c = search (rules, head_below) depth 12

pub bounds-out-4 : goal.bounds-out-4
bounds-out-4 c = search (rules, head_below) depth 12

pub bounds-out-5 : goal.bounds-out-5
bounds-out-5 c = search (rules, head_below) depth 12

pub returns : goal.returns
returns c = search (rules, head_words_lem)
