-- What "well formed" (document 01, "Numbers that come back") asks of a table, said of the policy in it: "counts within the limits (patterns 1 to 16),
-- every number it holds below its count, no two entries with one principal, object variables bound as 10 asks".
use Rattle.std.specs.Prelude.{ℕ, Bool, true, not, ◌&&◌, ◌||◌, eqb, ltb, leb, length}
use mathlib.Core.List.{List, [], ◌∷◌, ◌++◌, map, flat_map}
use Rattle.paper.specs.Limits.{most_descriptors, most_domains, most_elements, most_entries, most_members}
use Rattle.paper.specs.Common.{within, all_of, same}
use Rattle.paper.specs.Scalars.{Sort, variable, sort_number}
use Rattle.paper.specs.Policy.{Element, all, fn, any_in, Context, Grant, every, these, Descriptor, Entry, Policy}
use Rattle.paper.specs.Table.{gid_sorts, element_word}

-- ---- a context and a grant, in entries and in descriptors

-- an element among so many functions and subject domains
unfoldable pub element_below : ℕ → ℕ → Element → Bool
element_below functions domains all = true
element_below functions domains (fn f) = ltb f functions
element_below functions domains (any_in d) = ltb d domains

unfoldable pub is_gid_sort : Sort → Bool
is_gid_sort sort = ltb (sort_number sort) gid_sorts

-- a context among so many functions and subject domains
unfoldable pub proper_context : ℕ → ℕ → Context → Bool
proper_context functions domains c = within 1 most_elements (length c.pattern) && all_of (element_below functions domains) c.pattern && is_gid_sort c.gid && is_gid_sort c.namespace

-- a grant among so many domains: of each, whether it is granted
unfoldable pub proper_grant : ℕ → Grant → Bool
proper_grant domains every = true
proper_grant domains (these granted) = eqb (length granted) domains

-- ---- "object variables bound as 10 asks"

unfoldable pub is_binding : Sort → Bool
is_binding sort = eqb (sort_number sort) (sort_number variable)

-- a sort of an object context, against the same one of its entry
unfoldable pub bound_sort : Sort → Sort → Bool
bound_sort entry object = not (is_binding object) || is_binding entry

unfoldable pub bound_in : Context → Context → Bool
bound_in entry object = bound_sort entry.uid object.uid && bound_sort entry.gid object.gid && bound_sort entry.namespace object.namespace

-- ---- "no two entries with one principal"

unfoldable pub no_two : {A : Type 0} → (A → A → Bool) → List A → Bool
no_two alike [] = true
no_two alike (x ∷ xs) = all_of (λ y. not (alike x y)) xs && no_two alike xs

-- subject, sorts and pattern, as numbers
unfoldable pub principal_of : Entry → List ℕ
principal_of e =
    e.subject ∷ sort_number e.context.uid ∷ sort_number e.context.gid ∷ sort_number e.context.namespace ∷ map element_word e.context.pattern

unfoldable pub share_principal : Entry → Entry → Bool
share_principal a b = same (principal_of a) (principal_of b)

-- ---- entries, and a policy

-- an entry's descriptors, and a policy's
unfoldable pub accesses_of : Entry → List Descriptor
accesses_of e = e.reads ++ e.writes

unfoldable pub all_descriptors : Policy → List Descriptor
all_descriptors p = flat_map accesses_of p.entries

unfoldable pub proper_descriptor : Policy → Descriptor → Bool
proper_descriptor p d = proper_context (length p.functions) p.subject_domains d.context && proper_grant p.object_domains d.objects

unfoldable pub proper_entry : Policy → Entry → Bool
proper_entry p e =
    proper_context (length p.functions) p.subject_domains e.context
    && ltb e.subject p.subject_domains
    && proper_grant p.subject_domains e.calls
    && proper_grant p.subject_domains e.returns
    && all_of (proper_descriptor p) (accesses_of e)
    && all_of (λ d. bound_in e.context d.context) (accesses_of e)

-- "counts within the limits"
unfoldable pub proper_counts : Policy → Bool
proper_counts p =
    leb p.object_domains most_domains
    && leb p.subject_domains most_domains
    && leb (length p.objects) most_members
    && leb (length p.functions) most_members
    && leb (length p.entries) most_entries
    && leb (length (all_descriptors p)) most_descriptors

unfoldable pub proper : Policy → Bool
proper p =
    proper_counts p
    && all_of (λ d. ltb d p.object_domains) p.objects
    && all_of (λ d. ltb d p.subject_domains) p.functions
    && all_of (proper_entry p) p.entries
    && no_two share_principal p.entries
