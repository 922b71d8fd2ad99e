-- The table: where each word stands (docs/TABLE.md), the words of a policy, the policy of words, and what "well formed" is
-- (document 01, "Numbers that come back": "The table is a lent stretch of sixteen_bit words").
use Rattle.std.specs.Prelude.{ℕ, zero, suc, ◌+◌, ◌*◌, ◌-◌, ◌/◌, ◌%◌, ◌^◌, min, ◌≡◌, refl, Bool, cond, not, ◌&&◌, ◌||◌, eqb, ltb, leb, length, get_or, take, drop, set, replicate}
use mathlib.Core.List.{List, [], ◌∷◌, ◌++◌, map, flat_map}
use Rattle.paper.specs.Common.{within, up_to, count_up, same}
use Rattle.paper.specs.Limits.{most_domains, most_members, most_entries, most_elements, most_descriptors, table_words}
use Rattle.paper.specs.Scalars.{Sort, anyone, variable, root, user, sort_number}
use Rattle.paper.specs.Policy.{Element, all, fn, any_in, Context, Grant, every, these, Descriptor, Entry, Policy}

-- ---- where each word stands

-- in the head: "a mark that isn't zero" first, then the counts
abbrev pub mark_at : ℕ
mark_at = 0

abbrev pub mark : ℕ
mark = 17492

abbrev pub object_domain_count_at : ℕ
object_domain_count_at = 1

abbrev pub subject_domain_count_at : ℕ
subject_domain_count_at = 2

abbrev pub object_count_at : ℕ
object_count_at = 3

abbrev pub function_count_at : ℕ
function_count_at = 4

abbrev pub entry_count_at : ℕ
entry_count_at = 5

abbrev pub head_spare_at : ℕ
head_spare_at = 6

abbrev pub head_spare_size : ℕ
head_spare_size = 26

abbrev pub head_size : ℕ
head_size = 32

-- in a context: the number of elements first; a sort stands as its number
abbrev pub uid_at : ℕ
uid_at = 1

abbrev pub gid_at : ℕ
gid_at = 2

abbrev pub namespace_at : ℕ
namespace_at = 3

abbrev pub elements_at : ℕ
elements_at = 4

abbrev pub context_size : ℕ
context_size = 20

-- an element is 0 for `all`, n + 1 for function n; from this word up it is a subject domain (document 02 d)
abbrev pub first_domain_word : ℕ
first_domain_word = 1025

-- the sorts of a uid are `all`, a variable, `root` and `user`; a gid has the first two, and a namespace "same rules as gid" (document 02 g)
abbrev pub uid_sorts : ℕ
uid_sorts = 4

abbrev pub gid_sorts : ℕ
gid_sorts = 2

abbrev pub variable_word : ℕ
variable_word = 1

-- in a grant: whether it grants every listed domain, then the set of those that it grants, one to a bit of its "sixteen_bit words"
abbrev pub every_word : ℕ
every_word = 1

abbrev pub set_at : ℕ
set_at = 1

abbrev pub word_bits : ℕ
word_bits = 16

abbrev pub set_size : ℕ
set_size = 8

abbrev pub grant_size : ℕ
grant_size = 9

-- in an entry: its context, then its subject; together they are its principal
abbrev pub subject_at : ℕ
subject_at = 20

abbrev pub reads_at : ℕ
reads_at = 21

abbrev pub writes_at : ℕ
writes_at = 22

abbrev pub entry_spare_at : ℕ
entry_spare_at = 23

abbrev pub calls_at : ℕ
calls_at = 24

abbrev pub returns_at : ℕ
returns_at = 33

abbrev pub entry_tail_at : ℕ
entry_tail_at = 42

abbrev pub entry_tail_size : ℕ
entry_tail_size = 2

abbrev pub principal_size : ℕ
principal_size = 21

abbrev pub entry_size : ℕ
entry_size = 44

-- in a descriptor: its context, then the grant of its objects
abbrev pub grant_at : ℕ
grant_at = 20

abbrev pub descriptor_tail_at : ℕ
descriptor_tail_at = 29

abbrev pub descriptor_tail_size : ℕ
descriptor_tail_size = 3

abbrev pub descriptor_size : ℕ
descriptor_size = 32

-- in the table: the head, the objects' domains, the functions' domains, the entries, the descriptors; nothing after them
abbrev pub objects_at : ℕ
objects_at = 32

abbrev pub functions_at : ℕ
functions_at = 1056

abbrev pub entries_at : ℕ
entries_at = 2080

abbrev pub entries_size : ℕ
entries_size = 5632

abbrev pub descriptors_at : ℕ
descriptors_at = 7712

abbrev pub descriptors_size : ℕ
descriptors_size = 8672

abbrev pub spare_at : ℕ
spare_at = 15904

abbrev pub spare_size : ℕ
spare_size = 480

-- where entry k stands
abbrev pub entry_at : ℕ → ℕ
entry_at k = entries_at + entry_size * k

-- where descriptor d stands
abbrev pub descriptor_at : ℕ → ℕ
descriptor_at d = descriptors_at + descriptor_size * d

-- each block begins where the one before it ends
pub blocks_follow :
    (head_spare_at + head_spare_size ≡ head_size)
    × (elements_at + most_elements ≡ context_size)
    × (most_members + 1 ≡ first_domain_word)
    × (word_bits * set_size ≡ most_domains)
    × (set_at + set_size ≡ grant_size)
    × (context_size + 1 ≡ principal_size)
    × (calls_at + grant_size ≡ returns_at)
    × (returns_at + grant_size ≡ entry_tail_at)
    × (entry_tail_at + entry_tail_size ≡ entry_size)
    × (grant_at + grant_size ≡ descriptor_tail_at)
    × (descriptor_tail_at + descriptor_tail_size ≡ descriptor_size)
    × (objects_at + most_members ≡ functions_at)
    × (functions_at + most_members ≡ entries_at)
    × (entry_at most_entries ≡ descriptors_at)
    × (entries_at + entries_size ≡ descriptors_at)
    × (descriptor_at most_descriptors ≡ spare_at)
    × (spare_at + spare_size ≡ table_words)
    × (descriptors_at + descriptors_size ≡ table_words)
blocks_follow = (refl, refl, refl, refl, refl, refl, refl, refl, refl, refl, refl, refl, refl, refl, refl, refl, refl, refl)

-- ---- the words of a policy

-- a stretch, with zeros up to n words
unfoldable pub padded : ℕ → List ℕ → List ℕ
padded n ws = ws ++ replicate (n - length ws) 0

-- a word for each element: functions below `first_domain_word`, subject domains from it up
unfoldable pub element_word : Element → ℕ
element_word all = 0
element_word (fn f) = f + 1
element_word (any_in d) = first_domain_word + d

-- contexts, sets, grants, entries and descriptors in the order of their layout
unfoldable pub context_words : Context → List ℕ
context_words c =
    length c.pattern ∷ sort_number c.uid ∷ sort_number c.gid ∷ sort_number c.namespace ∷ padded most_elements (map element_word c.pattern)

-- some domains as the bits of a word, the first as the lowest
unfoldable pub bits_word : List Bool → ℕ
bits_word [] = 0
bits_word (b ∷ bs) = cond b 1 0 + 2 * bits_word bs

unfoldable pub set_words : List Bool → List ℕ
set_words domains = map (λ j. bits_word (take word_bits (drop (word_bits * j) domains))) (count_up 0 set_size)

unfoldable pub grant_words : Grant → List ℕ
grant_words every = padded grant_size (every_word ∷ [])
grant_words (these domains) = 0 ∷ set_words domains

unfoldable pub entry_words : Entry → List ℕ
entry_words e =
    padded entry_size
    (context_words e.context
    ++ (e.subject ∷ length e.reads ∷ length e.writes ∷ 0 ∷ (grant_words e.calls ++ grant_words e.returns)))

unfoldable pub descriptor_words : Descriptor → List ℕ
descriptor_words d = padded descriptor_size (context_words d.context ++ grant_words d.objects)

-- head, objects, functions, entries, descriptors
unfoldable pub words_of : Policy → List ℕ
words_of p =
    padded head_size (mark ∷ p.object_domains ∷ p.subject_domains ∷ length p.objects ∷ length p.functions ∷ length p.entries ∷ [])
    ++ (padded most_members p.objects
    ++ (padded most_members p.functions
    ++ (padded entries_size (flat_map entry_words p.entries)
    ++ padded descriptors_size (flat_map (λ e. flat_map descriptor_words (e.reads ++ e.writes)) p.entries))))

-- ---- the policy of words

-- a word, 0 past the end
abbrev pub word : List ℕ → ℕ → ℕ
word ws at = get_or ws at 0

-- the counts of the head
abbrev pub object_domain_count : List ℕ → ℕ
object_domain_count ws = word ws object_domain_count_at

abbrev pub subject_domain_count : List ℕ → ℕ
subject_domain_count ws = word ws subject_domain_count_at

abbrev pub object_count : List ℕ → ℕ
object_count ws = word ws object_count_at

abbrev pub function_count : List ℕ → ℕ
function_count ws = word ws function_count_at

abbrev pub entry_count : List ℕ → ℕ
entry_count ws = word ws entry_count_at

-- the element that a word says
unfoldable pub element_in : ℕ → Element
element_in zero = all
element_in (suc f) = cond (ltb (suc f) first_domain_word) (fn f) (any_in (suc f - first_domain_word))

-- the sort that a word says
unfoldable pub sort_in : ℕ → Sort
sort_in zero = anyone
sort_in (suc zero) = variable
sort_in (suc (suc zero)) = root
sort_in (suc (suc (suc n))) = user

-- the context at a place: how many elements its pattern has,
abbrev pub element_count : List ℕ → ℕ → ℕ
element_count ws at = word ws at

-- and the words of these
abbrev pub pattern_words_in : List ℕ → ℕ → List ℕ
pattern_words_in ws at = take (element_count ws at) (drop (at + elements_at) ws)

unfoldable pub context_in : List ℕ → ℕ → Context
context_in ws at =
    record {
      pattern = map element_in (pattern_words_in ws at);
      uid = sort_in (word ws (at + uid_at));
      gid = sort_in (word ws (at + gid_at));
      namespace = sort_in (word ws (at + namespace_at));
    }

-- domain d is a bit of a set
unfoldable pub is_in : List ℕ → ℕ → Bool
is_in domains d = eqb (word domains (d / word_bits) / 2 ^ (d % word_bits) % 2) 1

-- the set with domain d in it; a domain past the set's last word changes nothing
unfoldable pub with_domain : List ℕ → ℕ → List ℕ
with_domain domains d = cond (is_in domains d) domains (set domains (d / word_bits) (word domains (d / word_bits) + 2 ^ (d % word_bits)))

-- a grant among so many domains
unfoldable pub grant_in : List ℕ → ℕ → ℕ → Grant
grant_in ws at domains = cond (eqb (word ws at) every_word) every (these (map (is_in (drop (at + set_at) ws)) (count_up 0 domains)))

unfoldable pub descriptor_in : List ℕ → ℕ → Descriptor
descriptor_in ws d =
    record { context = context_in ws (descriptor_at d); objects = grant_in ws (descriptor_at d + grant_at) (object_domain_count ws) }

-- how many descriptors entry k has for reads, and for writes
abbrev pub read_count : List ℕ → ℕ → ℕ
read_count ws k = word ws (entry_at k + reads_at)

abbrev pub write_count : List ℕ → ℕ → ℕ
write_count ws k = word ws (entry_at k + writes_at)

-- how many descriptors the entries before entry k have: its own begin there
unfoldable pub first_descriptor : List ℕ → ℕ → ℕ
first_descriptor ws zero = 0
first_descriptor ws (suc k) = first_descriptor ws k + read_count ws k + write_count ws k

unfoldable pub entry_in : List ℕ → ℕ → Entry
entry_in ws k =
    record {
      context = context_in ws (entry_at k);
      subject = word ws (entry_at k + subject_at);
      calls = grant_in ws (entry_at k + calls_at) (subject_domain_count ws);
      returns = grant_in ws (entry_at k + returns_at) (subject_domain_count ws);
      reads = map (descriptor_in ws) (count_up (first_descriptor ws k) (read_count ws k));
      writes = map (descriptor_in ws) (count_up (first_descriptor ws k + read_count ws k) (write_count ws k));
    }

-- the domain of each object
abbrev pub object_domains_in : List ℕ → List ℕ
object_domains_in ws = take (object_count ws) (drop objects_at ws)

-- and of each function
abbrev pub function_domains_in : List ℕ → List ℕ
function_domains_in ws = take (function_count ws) (drop functions_at ws)

-- the policy that the words hold
unfoldable pub policy_in : List ℕ → Policy
policy_in ws =
    record {
      object_domains = object_domain_count ws;
      subject_domains = subject_domain_count ws;
      objects = object_domains_in ws;
      functions = function_domains_in ws;
      entries = map (entry_in ws) (count_up 0 (entry_count ws));
    }

-- ---- "It is well formed exactly when it has at least 16,384 words, the mark, counts within the limits (patterns 1 to 16), every number it holds
-- below its count, no two entries with one principal, object variables bound as 10 asks, and zeros in unused words and bits up to 16,384."

-- the descriptors of all entries
abbrev pub descriptor_count : List ℕ → ℕ
descriptor_count ws = first_descriptor ws (entry_count ws)

-- n words from a place on are zero
unfoldable pub zeros : List ℕ → ℕ → ℕ → Bool
zeros ws at n = up_to (λ i. eqb (word ws (at + i)) 0) n

-- "counts within the limits"
unfoldable pub counts_fit : List ℕ → Bool
counts_fit ws =
    leb (object_domain_count ws) most_domains
    && leb (subject_domain_count ws) most_domains
    && leb (object_count ws) most_members
    && leb (function_count ws) most_members
    && leb (entry_count ws) most_entries
    && leb (descriptor_count ws) most_descriptors

-- of a block of members so many are domains below their count, and the others are unused
unfoldable pub members_fit : List ℕ → ℕ → ℕ → ℕ → Bool
members_fit ws at members domains =
    up_to (λ i. cond (ltb i members) (ltb (word ws (at + i)) domains) (eqb (word ws (at + i)) 0)) most_members

-- an element is `all`, or a function or a subject domain below their count
unfoldable pub element_listed : List ℕ → ℕ → Bool
element_listed ws w =
    cond (ltb w first_domain_word) (leb w (function_count ws)) (ltb w (first_domain_word + subject_domain_count ws))

-- "patterns 1 to 16"; "zeros in unused words"
unfoldable pub context_fits : List ℕ → ℕ → Bool
context_fits ws at =
    within 1 most_elements (element_count ws at)
    && ltb (word ws (at + uid_at)) uid_sorts
    && ltb (word ws (at + gid_at)) gid_sorts
    && ltb (word ws (at + namespace_at)) gid_sorts
    && up_to (λ i. cond (ltb i (element_count ws at)) (element_listed ws (word ws (at + elements_at + i))) (eqb (word ws (at + elements_at + i)) 0)) most_elements

-- `all` with no set, or a set with no bit at or past the count: of word j of it, bits below the count less those of the words before it are used
unfoldable pub grant_fits : List ℕ → ℕ → ℕ → Bool
grant_fits ws at domains =
    leb (word ws at) every_word
    && up_to (λ j. ltb (word ws (at + set_at + j)) (2 ^ cond (eqb (word ws at) every_word) 0 (min word_bits (domains - word_bits * j)))) set_size

-- an entry at a place: its context, its subject "below its count", its grants, its unused words
unfoldable pub entry_fits : List ℕ → ℕ → Bool
entry_fits ws at =
    context_fits ws at
    && ltb (word ws (at + subject_at)) (subject_domain_count ws)
    && eqb (word ws (at + entry_spare_at)) 0
    && grant_fits ws (at + calls_at) (subject_domain_count ws)
    && grant_fits ws (at + returns_at) (subject_domain_count ws)
    && zeros ws (at + entry_tail_at) entry_tail_size

unfoldable pub descriptor_fits : List ℕ → ℕ → Bool
descriptor_fits ws at = context_fits ws at && grant_fits ws (at + grant_at) (object_domain_count ws) && zeros ws (at + descriptor_tail_at) descriptor_tail_size

-- "zeros in unused words": in the blocks of entries that are not there as well
unfoldable pub entries_fit : List ℕ → Bool
entries_fit ws = up_to (λ k. cond (ltb k (entry_count ws)) (entry_fits ws (entry_at k)) (zeros ws (entry_at k) entry_size)) most_entries

-- the same of the descriptors
unfoldable pub descriptors_fit : List ℕ → Bool
descriptors_fit ws =
    up_to (λ d. cond (ltb d (descriptor_count ws)) (descriptor_fits ws (descriptor_at d)) (zeros ws (descriptor_at d) descriptor_size)) most_descriptors

-- "no two entries with one principal": its words are the first of the entry
unfoldable pub one_principal : List ℕ → ℕ → ℕ → Bool
one_principal ws j k = same (take principal_size (drop (entry_at j) ws)) (take principal_size (drop (entry_at k) ws))

unfoldable pub principals_differ : List ℕ → Bool
principals_differ ws = up_to (λ k. up_to (λ j. not (one_principal ws j k)) k) (entry_count ws)

-- "object variables bound as 10 asks": a variable in a descriptor's context has one at the same key of its entry
unfoldable pub bound_at : List ℕ → ℕ → ℕ → ℕ → Bool
bound_at ws entry at key = not (eqb (word ws (at + key)) variable_word) || eqb (word ws (entry + key)) variable_word

-- so have all its keys
unfoldable pub bound_by : List ℕ → ℕ → ℕ → Bool
bound_by ws entry at = bound_at ws entry at uid_at && bound_at ws entry at gid_at && bound_at ws entry at namespace_at

unfoldable pub variables_bound : List ℕ → Bool
variables_bound ws =
    up_to (λ k. up_to (λ i. bound_by ws (entry_at k) (descriptor_at (first_descriptor ws k + i))) (read_count ws k + write_count ws k)) (entry_count ws)

unfoldable pub well_formed : List ℕ → Bool
well_formed ws =
    leb table_words (length ws)
    && eqb (word ws mark_at) mark
    && counts_fit ws
    && zeros ws head_spare_at head_spare_size
    && members_fit ws objects_at (object_count ws) (object_domain_count ws)
    && members_fit ws functions_at (function_count ws) (subject_domain_count ws)
    && entries_fit ws
    && descriptors_fit ws
    && zeros ws spare_at spare_size
    && principals_differ ws
    && variables_bound ws
