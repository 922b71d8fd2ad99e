-- The sorts of object: which one the first part of an identifier names, and what it says of the other three.
use Rattle.std.specs.Prelude.{ℕ, List, Bool, Option, Some, None, false, cond, ◌&&◌, ◌||◌}
use Rattle.paper.specs.Common.{is_empty, is}
use Rattle.paper.specs.declared.Need.{Need}
use Rattle.paper.specs.declared.Need.TheVariants.{Needed, Absent, Free}
use Rattle.paper.specs.Scalars.{meets, is_line_number}
use Rattle.text_scalars.specs.declared.ObjectSort.{ObjectSort}
use Rattle.text_scalars.specs.declared.ObjectSort.TheVariants.{Global, Io, Heap, StackRegion, StackFrame, Other}
use Rattle.text_scalars.specs.declared.Needs.{Needs}

-- the sort that a word names
abbrev pub sort_named : List ℕ → Option ObjectSort
sort_named word =
    cond (is "GLOBAL" word) (Some Global)
    (cond (is "IO" word) (Some Io)
    (cond (is "HEAP" word) (Some Heap)
    (cond (is "STACK_REGION" word) (Some StackRegion)
    (cond (is "STACK_FRAME" word) (Some StackFrame)
    (cond (is "OTHER" word) (Some Other) None)))))

-- path, line and name are as needed, and the line, if there is one, is a number
unfoldable pub parts_meet : Need → Need → Need → List ℕ → List ℕ → List ℕ → Bool
parts_meet path line name p l n = meets path p && meets line l && (is_empty l || is_line_number l) && meets name n

-- what a sort says of each of the three
abbrev pub needs_of : ObjectSort → Needs
needs_of Global = record { path = Needed; line = Needed; name = Needed }
needs_of Io = record { path = Needed; line = Needed; name = Needed }
needs_of Heap = record { path = Needed; line = Needed; name = Absent }
needs_of StackRegion = record { path = Needed; line = Needed; name = Absent }
needs_of StackFrame = record { path = Needed; line = Absent; name = Needed }
needs_of Other = record { path = Free; line = Free; name = Free }

-- they are as the sort needs them, where the word names one
abbrev pub meets_sort : Option ObjectSort → List ℕ → List ℕ → List ℕ → Bool
meets_sort (Some sort) p l n = parts_meet (needs_of sort).path (needs_of sort).line (needs_of sort).name p l n
meets_sort None p l n = false
