-- 6 and 2 at every limit (document 01: "At most: 128 domains in each map, 1,024 objects, 1,024 subjects, 128 entries, 16 elements in a `call_context`,
-- 256 access descriptors in the file"; "Text is at most 65,536 bytes"). The line told is that of the first one past the limit, so those up to it are no fault.
use Prim.Native.Nat.{ℕ, ◌+◌, ◌*◌}
use Prim.Native.String.{String}
use mathlib.Core.Path.{◌≡◌, refl}
use mathlib.Core.Bool.{true, false}
use mathlib.Core.List.{List, [], ◌∷◌, ◌++◌, map, flat_map}
use lib.Dec.{ltb}
use lib.ListN.{length}
use Rattle.paper.specs.Common.{bytes, count_up}
use Rattle.paper.specs.Listing.{object_name, object_members, subject_name, subject_members, principal, execution_context, can_read, can_write}
use Rattle.paper.specs.Listing.{call_context_in, objects_in, object_context_in}
use Rattle.paper.specs.Text.{bad_byte_line}
use Rattle.paper.specs.Page.{Field, fault, page_of}
use Rattle.paper.specs.Rules.{over_limit, unless_line}
use Rattle.paper.specs.Promises.{text_page, file_of}
use Rattle.paper.proofs.Computing.{computing}
use Rattle.paper.proofs.Texts.{at, times}

-- n bare fields of a place, on lines from `line` up
abbrev bare : ℕ → ℕ → ℕ → List Field
bare place line n = map (at place []) (count_up line n)

-- `[`, n + 1 elements and `]`
abbrev list : String → ℕ → List ℕ
list element n = bytes "[" ++ (times n (bytes element ++ bytes ", ") ++ (bytes element ++ bytes "]"))

-- the 129th domain of a map; 128 in each are no fault
domains_up_to_128 :
    map over_limit (bare object_name 1 130 ∷ bare subject_name 1 130 ∷ (bare object_name 1 128 ++ bare subject_name 200 128) ∷ []) ≡ 129 ∷ 129 ∷ 0 ∷ []
unfolding computing
domains_up_to_128 = refl

-- eight lists of 128 on lines 1 to 8, and one element on line 10
abbrev members : ℕ → List Field
members place = map (at place (list "a" 127)) (count_up 1 8) ++ (at place (bytes "[]") 9 ∷ at place (bytes "[a]") 10 ∷ [])

members_up_to_1024 : over_limit (members object_members) ∷ over_limit (members subject_members) ∷ [] ≡ 10 ∷ 10 ∷ []
unfolding computing
members_up_to_1024 = refl

-- entries with no access descriptor: entry k has its `principal` on line 3 k + 1
abbrev entries : ℕ → List Field
entries n = flat_map (λ k. at principal [] (3 * k + 1) ∷ at can_read [] (3 * k + 2) ∷ at can_write [] (3 * k + 3) ∷ []) (count_up 0 n)

entries_up_to_128 : over_limit (entries 130) ≡ 385
unfolding computing
entries_up_to_128 = refl

-- 16 elements on line 2 and 17 on line 3, in each of the three contexts
abbrev patterns : ℕ → List Field
patterns place = at principal [] 1 ∷ at (call_context_in place) (list "all" 15) 2 ∷ at (call_context_in place) (list "all" 16) 3 ∷ []

elements_up_to_16 :
    map over_limit (patterns execution_context ∷ patterns (object_context_in can_read) ∷ patterns (object_context_in can_write) ∷ []) ≡ 3 ∷ 3 ∷ 3 ∷ []
unfolding computing
elements_up_to_16 = refl

-- an entry with so many items that it reads and writes, on lines from `line` up
abbrev itemized : ℕ → ℕ → ℕ → List Field
itemized line reads writes =
    at principal [] line
    ∷ (at can_read [] (line + 1) ∷ bare (objects_in can_read) (line + 2) reads)
    ++ (at can_write [] (line + 300) ∷ bare (objects_in can_write) (line + 301) writes)

-- of reads, of writes, and of both over several entries, on the `principal` line of the one that passes
descriptors_up_to_256 :
    map over_limit
    ((itemized 1 256 0 ++ itemized 1001 1 0)
    ∷ (itemized 1 0 256 ++ itemized 1001 0 1)
    ∷ (itemized 1 100 100 ++ (itemized 1001 50 6 ++ (itemized 2001 0 0 ++ itemized 3001 0 1)))
    ∷ itemized 1 200 57
    ∷ [])
    ≡ 1001 ∷ 1001 ∷ 3001 ∷ 1 ∷ []
unfolding computing
descriptors_up_to_256 = refl

-- "A `can_read` or `can_write` that is `all` or omitted counts as one access descriptor", and one that is `[]` or bare as none
all_and_omitted_count_one :
    map over_limit
    ((itemized 1 254 0 ++ (at principal [] 1001 ∷ at principal [] 1002 ∷ []))
    ∷ (itemized 1 255 0 ++ (at principal [] 1001 ∷ []))
    ∷ (itemized 1 255 0 ++ (at principal [] 1001 ∷ at can_read (bytes "all") 1002 ∷ at can_write [] 1003 ∷ itemized 2001 0 1))
    ∷ (itemized 1 255 0 ++ (at principal [] 1001 ∷ at can_read [] 1002 ∷ at can_write (bytes "all") 1003 ∷ itemized 2001 0 1))
    ∷ (itemized 1 256 0 ++ (at principal [] 1001 ∷ at can_read (bytes "[]") 1002 ∷ at can_write (bytes "[]") 1003 ∷ []))
    ∷ [])
    ≡ 1002 ∷ 1001 ∷ 2001 ∷ 2001 ∷ 0 ∷ []
unfolding computing
all_and_omitted_count_one = refl

-- two limits passed in one file: the smaller line, whichever limit it is of
smaller_line_of_two_limits :
    over_limit (at principal [] 1 ∷ at (call_context_in execution_context) (list "all" 16) 2 ∷ bare principal 3 130)
    ∷ over_limit (bare object_name 1 130 ++ (at principal [] 200 ∷ at (call_context_in execution_context) (list "all" 16) 201 ∷ []))
    ∷ []
    ≡ 2 ∷ 129 ∷ []
unfolding computing
smaller_line_of_two_limits = refl

-- 2, with line 0, for every text of more than 65,536 bytes, before 3 and the page
longer_than_65536 : (t : List ℕ) → ltb 65536 (length t) ≡ true → file_of t ≡ fault 2 0
unfolding file_of text_page
longer_than_65536 t h = rw h

not_longer_than_65536 : (t : List ℕ) → ltb 65536 (length t) ≡ false → text_page t ≡ unless_line 3 (bad_byte_line 1 t) (page_of t)
unfolding text_page
not_longer_than_65536 t h = rw h
