-- The rules over the whole file: 6, 7, 8, 10, 11, each with "the smallest [line] at fault" (document 01, "Numbers that come back").
-- A rule answers the line at fault, or `no_line` where it holds.
use Rattle.std.specs.Prelude.{ℕ, zero, suc, ◌+◌, Bool, false, cond, not, ◌&&◌, ◌||◌, eqb, ltb, length}
use mathlib.Core.List.{List, [], ◌∷◌, ◌++◌, map, flat_map}
use Rattle.paper.specs.Common.{bytes, all_of, any_of, is, same, among}
use Rattle.paper.specs.Limits.{most_domains, most_members, most_entries, most_elements, most_descriptors}
use Rattle.paper.specs.Text.{no_line}
use Rattle.paper.specs.Scalars.{is_variable, sort_of, sort_number}
use Rattle.paper.specs.Lists.{elements}
use Rattle.paper.specs.Listing.{object_name, object_members, subject_name, subject_members, principal, subject_of_entry, execution_context, can_call, can_return, can_read, can_write}
use Rattle.paper.specs.Listing.{call_context_in, uid_in, gid_in, namespace_in, objects_in, object_context_in}
use Rattle.paper.specs.Page.{Field, Outcome, fields, fault}
use Rattle.paper.specs.Entries.{is_at, is_at_one, call_contexts, value_at, fields_at, entries_of, items_of, line_of_entry}

-- the smaller of two lines, where there are two
unfoldable pub earlier : ℕ → ℕ → ℕ
earlier a b = cond (eqb a no_line) b (cond (eqb b no_line || ltb a b) a b)

-- the smallest of several lines
unfoldable pub earliest : List ℕ → ℕ
earliest [] = no_line
earliest (a ∷ lines) = earlier a (earliest lines)

-- the line of the first field with a fault
unfoldable pub first_with : (Field → Bool) → List Field → ℕ
first_with test [] = no_line
first_with test (f ∷ fs) = cond (test f) f.line (first_with test fs)

-- ---- 6: "a count over its limit"; "for 6 the line that passes the limit"

-- the line of the first thing with which the sum of the weights, k so far, passes the limit
unfoldable pub passing : {A : Type 0} → (A → ℕ) → (A → ℕ) → ℕ → ℕ → List A → ℕ
passing line weight limit k [] = no_line
passing line weight limit k (x ∷ xs) = cond (ltb limit (k + weight x)) (line x) (passing line weight limit (k + weight x) xs)

-- one for each field of a place
unfoldable pub one_at : ℕ → Field → ℕ
one_at place f = cond (is_at place f) 1 0

-- one for each element of a list at a place
unfoldable pub members_at : ℕ → Field → ℕ
members_at place f = cond (is_at place f) (length (elements f.value)) 0

-- "A `can_read` or `can_write` that is `all` or omitted counts as one access descriptor."
unfoldable pub descriptors_of : ℕ → List Field → ℕ
descriptors_of access entry = cond (is "all" (value_at access entry)) 1 (length (items_of access entry))

-- the access descriptors of an entry
unfoldable pub descriptors_in : List Field → ℕ
descriptors_in entry = descriptors_of can_read entry + descriptors_of can_write entry

-- "16 elements in a `call_context`"
unfoldable pub long_pattern : Field → Bool
long_pattern f = is_at_one call_contexts f && ltb most_elements (length (elements f.value))

-- "At most: 128 domains in each map, 1,024 objects, 1,024 subjects, 128 entries, 16 elements in a `call_context`, 256 access descriptors in the file."
unfoldable pub over_limit : List Field → ℕ
over_limit fs =
    earliest
    (passing (λ f. f.line) (one_at object_name) most_domains 0 fs
    ∷ passing (λ f. f.line) (one_at subject_name) most_domains 0 fs
    ∷ passing (λ f. f.line) (members_at object_members) most_members 0 fs
    ∷ passing (λ f. f.line) (members_at subject_members) most_members 0 fs
    ∷ passing (λ f. f.line) (one_at principal) most_entries 0 fs
    ∷ first_with long_pattern fs
    ∷ passing line_of_entry descriptors_in most_descriptors 0 (entries_of fs)
    ∷ [])

-- ---- 7: "domain name (over both maps), identifier of one map, or name in one list twice"; "for 7 the later one"

-- one of the names stands before itself, or among those seen earlier
unfoldable pub repeats : List (List ℕ) → List (List ℕ) → Bool
repeats seen [] = false
repeats seen (x ∷ xs) = among x seen || repeats (x ∷ seen) xs

-- the line of the first field that names again what was named before it or in it
unfoldable pub repeated : (Field → List (List ℕ)) → List (List ℕ) → List Field → ℕ
repeated named seen [] = no_line
repeated named seen (f ∷ fs) = cond (repeats seen (named f)) f.line (repeated named (named f ++ seen) fs)

-- "domain name (over both maps)"
unfoldable pub domain_named : Field → List (List ℕ)
domain_named f = cond (is_at_one (object_name ∷ subject_name ∷ []) f) (f.value ∷ []) []

-- "identifier of one map"
unfoldable pub members_named : ℕ → Field → List (List ℕ)
members_named place f = cond (is_at place f) (elements f.value) []

-- the lists that name subject domains
unfoldable pub subject_lists : List ℕ
subject_lists = can_call ∷ can_return ∷ []

-- the lists that name object domains
unfoldable pub object_lists : List ℕ
object_lists = objects_in can_read ∷ objects_in can_write ∷ []

-- "name in one list twice"
unfoldable pub repeats_in_list : Field → Bool
repeats_in_list f = is_at_one (subject_lists ++ object_lists) f && repeats [] (elements f.value)

-- 7 over the whole file
unfoldable pub named_twice : List Field → ℕ
named_twice fs =
    earliest
    (repeated domain_named [] fs
    ∷ repeated (members_named object_members) [] fs
    ∷ repeated (members_named subject_members) [] fs
    ∷ first_with repeats_in_list fs
    ∷ [])

-- ---- 8: "domain or function its map lacks"

-- the domain names of a map, by the place of its names
unfoldable pub domains_at : ℕ → List Field → List (List ℕ)
domains_at place file = map (λ f. f.value) (fields_at place file)

-- the objects or functions of a map, by the place of its lists
unfoldable pub identifiers_at : ℕ → List Field → List (List ℕ)
identifiers_at place file = flat_map (λ f. elements f.value) (fields_at place file)

-- what an element of a pattern may name: "An element may now also be a subject domain name" (document 02 d)
unfoldable pub element_names : List Field → List (List ℕ)
element_names file = bytes "all" ∷ (identifiers_at subject_members file ++ domains_at subject_name file)

-- all of the names are known
unfoldable pub all_known : List (List ℕ) → List (List ℕ) → Bool
all_known known names = all_of (λ name. among name known) names

-- a field names what the file lacks
unfoldable pub names_unknown : List Field → Field → Bool
names_unknown file f =
    cond (is_at subject_of_entry f) (not (among f.value (domains_at subject_name file)))
    (cond (is_at_one subject_lists f) (not (all_known (domains_at subject_name file) (elements f.value)))
    (cond (is_at_one object_lists f) (not (all_known (domains_at object_name file) (elements f.value)))
    (is_at_one call_contexts f && not (all_known (element_names file) (elements f.value)))))

-- 8 over the whole file
unfoldable pub unknown_name : List Field → ℕ
unknown_name fs = first_with (names_unknown fs) fs

-- ---- 10: "object context variable not the one bound by that entry's same key"

-- a key's places in the two object contexts
unfoldable pub in_object_contexts : (ℕ → ℕ) → List ℕ
in_object_contexts key = key (object_context_in can_read) ∷ key (object_context_in can_write) ∷ []

-- a variable at this key of an object context is not the one of the entry's same key
unfoldable pub is_unbound_key : (ℕ → ℕ) → List Field → Field → Bool
is_unbound_key key entry f =
    is_at_one (in_object_contexts key) f && is_variable f.value && not (same f.value (value_at (key execution_context) entry))

-- the keys that can hold a variable: 10 includes `namespace` (document 02 g)
unfoldable pub is_unbound : List Field → Field → Bool
is_unbound entry f = is_unbound_key uid_in entry f || is_unbound_key gid_in entry f || is_unbound_key namespace_in entry f

-- 10 over the whole file
unfoldable pub unbound_variable : List Field → ℕ
unbound_variable fs = earliest (map (λ entry. first_with (is_unbound entry) entry) (entries_of fs))

-- ---- 11: "two entries with the same principal"; "the later entry's `principal` line"

-- "uid and gid are of the same sort (two variables are the same sort)"
unfoldable pub same_sort : List ℕ → List ℕ → Bool
same_sort a b = eqb (sort_number (sort_of a)) (sort_number (sort_of b))

-- the two have the same sort at this key of their execution contexts
unfoldable pub same_sort_at : (ℕ → ℕ) → List Field → List Field → Bool
same_sort_at key a b = same_sort (value_at (key execution_context) a) (value_at (key execution_context) b)

-- "Principals are the same when subject and pattern elements are equal and uid and gid are of the same sort"; 11 includes `namespace` (document 02 g)
unfoldable pub same_principal : List Field → List Field → Bool
same_principal a b =
    same (value_at subject_of_entry a) (value_at subject_of_entry b)
    && same (value_at (call_context_in execution_context) a) (value_at (call_context_in execution_context) b)
    && same_sort_at uid_in a b
    && same_sort_at gid_in a b
    && same_sort_at namespace_in a b

-- the line of the first entry with the principal of one before it
unfoldable pub twin_after : List (List Field) → List (List Field) → ℕ
twin_after seen [] = no_line
twin_after seen (e ∷ es) = cond (any_of (same_principal e) seen) (line_of_entry e) (twin_after (e ∷ seen) es)

-- 11 over the whole file
unfoldable pub twin_principal : List Field → ℕ
twin_principal fs = twin_after [] (entries_of fs)

-- ---- "then 6, 7, 8, 10, 11, each over the whole file"

-- what else becomes of a text, unless the rule with this number names a line
unfoldable pub unless_line : ℕ → ℕ → Outcome → Outcome
unless_line number zero outcome = outcome
unless_line number (suc line) outcome = fault number (suc line)

-- the rules in their order, each over the whole file
unfoldable pub ruled : List Field → Outcome
ruled fs =
    unless_line 6 (over_limit fs)
    (unless_line 7 (named_twice fs)
    (unless_line 8 (unknown_name fs)
    (unless_line 10 (unbound_variable fs)
    (unless_line 11 (twin_principal fs) (fields fs)))))
