-- The listing, place by place: the key that stands there, what it takes, its block, and the keys that may follow it (document 01, "The page").
use Prim.Native.Nat.{ℕ}
use Prim.Native.String.{String}
use mathlib.Core.Path.{◌≡◌, refl}
use mathlib.Core.Bool.{Bool, true, false}
use mathlib.Core.List.{List, [], ◌∷◌, map}
use Rattle.paper.specs.declared.Scalar.TheVariants.{DomainName, UidValue, GidValue, SubjectIdentifier, ObjectIdentifier, PatternElement}
use Rattle.paper.specs.declared.Value.{Value}
use Rattle.paper.specs.declared.Value.TheVariants.{Keys, NoneOrItems, AllOrKeys, AllNoneOrItems, One, ListOf, SomeOf, ListOrAll}
use Rattle.paper.specs.Listing.{nowhere, object_map, object_name, object_members, subject_map, subject_name, subject_members, privileges, principal, subject_of_entry}
use Rattle.paper.specs.Listing.{execution_context, can_call, can_return, can_read, can_write, call_context_in, uid_in, gid_in, namespace_in, objects_in, object_context_in, row_at}
use Rattle.paper.proofs.Computing.{computing}

abbrev keys_of : List ℕ → List String
keys_of places = map (λ place. (row_at place).key) places

-- the places of the maps, of an entry's own fields, of a context and of an access
abbrev of_maps : List ℕ
of_maps = nowhere ∷ object_map ∷ object_name ∷ object_members ∷ subject_map ∷ subject_name ∷ subject_members ∷ privileges ∷ []

abbrev of_entry : List ℕ
of_entry = principal ∷ subject_of_entry ∷ can_call ∷ can_return ∷ []

abbrev context : ℕ → List ℕ
context place = place ∷ call_context_in place ∷ uid_in place ∷ gid_in place ∷ namespace_in place ∷ []

abbrev access : ℕ → List ℕ
access place = place ∷ objects_in place ∷ context (object_context_in place)

pub maps_named :
    keys_of of_maps ≡ "" ∷ "object_map:" ∷ "- name:" ∷ "  objects:" ∷ "subject_map:" ∷ "- name:" ∷ "  subjects:" ∷ "privileges:" ∷ []
unfolding computing
maps_named = refl

pub entry_named : keys_of of_entry ≡ "- principal:" ∷ "    subject:" ∷ "  can_call:" ∷ "  can_return:" ∷ []
unfolding computing
entry_named = refl

pub contexts_named :
    map (λ place. keys_of (context place)) (execution_context ∷ object_context_in can_read ∷ object_context_in can_write ∷ [])
    ≡ ("    execution_context:" ∷ "      call_context:" ∷ "      uid:" ∷ "      gid:" ∷ "      namespace:" ∷ [])
    ∷ ("    object_context:" ∷ "      call_context:" ∷ "      uid:" ∷ "      gid:" ∷ "      namespace:" ∷ [])
    ∷ ("    object_context:" ∷ "      call_context:" ∷ "      uid:" ∷ "      gid:" ∷ "      namespace:" ∷ [])
    ∷ []
unfolding computing
contexts_named = refl

pub accesses_named :
    keys_of (can_read ∷ objects_in can_read ∷ can_write ∷ objects_in can_write ∷ []) ≡ "  can_read:" ∷ "  - objects:" ∷ "  can_write:" ∷ "  - objects:" ∷ []
unfolding computing
accesses_named = refl

abbrev taken_by : List ℕ → List Value
taken_by places = map (λ place. (row_at place).value) places

-- "`object_map`, `subject_map` and `privileges` are `[]` or items"
pub maps_take :
    taken_by of_maps
    ≡ Keys
    ∷ NoneOrItems
    ∷ One DomainName
    ∷ ListOf ObjectIdentifier
    ∷ NoneOrItems
    ∷ One DomainName
    ∷ ListOf SubjectIdentifier
    ∷ NoneOrItems
    ∷ []
unfolding computing
maps_take = refl

-- "`can_call` and `can_return` are a list or `all`"
pub entry_takes : taken_by of_entry ≡ Keys ∷ One DomainName ∷ ListOrAll DomainName ∷ ListOrAll DomainName ∷ []
unfolding computing
entry_takes = refl

-- "`execution_context` and `object_context` are `all` or one or more of `call_context`, `uid`, `gid`"; "`call_context: []`" is no value
pub contexts_take :
    map (λ place. taken_by (context place)) (execution_context ∷ object_context_in can_read ∷ object_context_in can_write ∷ [])
    ≡ (AllOrKeys ∷ SomeOf PatternElement ∷ One UidValue ∷ One GidValue ∷ One GidValue ∷ [])
    ∷ (AllOrKeys ∷ SomeOf PatternElement ∷ One UidValue ∷ One GidValue ∷ One GidValue ∷ [])
    ∷ (AllOrKeys ∷ SomeOf PatternElement ∷ One UidValue ∷ One GidValue ∷ One GidValue ∷ [])
    ∷ []
unfolding computing
contexts_take = refl

-- "`can_read` and `can_write` are `all`, `[]`, or items, each with `objects` (a list or `all`, required)"
pub accesses_take :
    taken_by (can_read ∷ objects_in can_read ∷ can_write ∷ objects_in can_write ∷ [])
    ≡ AllNoneOrItems ∷ ListOrAll DomainName ∷ AllNoneOrItems ∷ ListOrAll DomainName ∷ []
unfolding computing
accesses_take = refl

-- the keys that a block may begin with, and those that may follow
abbrev blocks : List ℕ → List (List String)
blocks places = map (λ place. keys_of (row_at place).block) places

abbrev followers : List ℕ → List (List String)
followers places = map (λ place. keys_of (row_at place).next) places

pub maps_followed :
    followers of_maps
    ≡ ("object_map:" ∷ [])
    ∷ ("subject_map:" ∷ [])
    ∷ ("  objects:" ∷ [])
    ∷ ("- name:" ∷ "subject_map:" ∷ [])
    ∷ ("privileges:" ∷ [])
    ∷ ("  subjects:" ∷ [])
    ∷ ("- name:" ∷ "privileges:" ∷ [])
    ∷ []
    ∷ []
unfolding computing
maps_followed = refl

-- "`execution_context`, `object_context` and the four `can_` fields may be omitted"
pub entry_followed :
    followers of_entry
    ≡ []
    ∷ ("    execution_context:" ∷ "  can_call:" ∷ "  can_return:" ∷ "  can_read:" ∷ "  can_write:" ∷ "- principal:" ∷ [])
    ∷ ("  can_return:" ∷ "  can_read:" ∷ "  can_write:" ∷ "- principal:" ∷ [])
    ∷ ("  can_read:" ∷ "  can_write:" ∷ "- principal:" ∷ [])
    ∷ []
unfolding computing
entry_followed = refl

abbrev after_context : List String
after_context = "  can_call:" ∷ "  can_return:" ∷ "  can_read:" ∷ "  can_write:" ∷ "- principal:" ∷ []

pub execution_context_followed :
    followers (context execution_context)
    ≡ after_context
    ∷ ("      uid:" ∷ "      gid:" ∷ "      namespace:" ∷ after_context)
    ∷ ("      gid:" ∷ "      namespace:" ∷ after_context)
    ∷ ("      namespace:" ∷ after_context)
    ∷ after_context
    ∷ []
unfolding computing
execution_context_followed = refl

abbrev after_reads : List String
after_reads = "  - objects:" ∷ "  can_write:" ∷ "- principal:" ∷ []

pub reads_followed :
    followers (access can_read)
    ≡ ("  can_write:" ∷ "- principal:" ∷ [])
    ∷ ("    object_context:" ∷ after_reads)
    ∷ after_reads
    ∷ ("      uid:" ∷ "      gid:" ∷ "      namespace:" ∷ after_reads)
    ∷ ("      gid:" ∷ "      namespace:" ∷ after_reads)
    ∷ ("      namespace:" ∷ after_reads)
    ∷ after_reads
    ∷ []
unfolding computing
reads_followed = refl

abbrev after_writes : List String
after_writes = "  - objects:" ∷ "- principal:" ∷ []

pub writes_followed :
    followers (access can_write)
    ≡ ("- principal:" ∷ [])
    ∷ ("    object_context:" ∷ after_writes)
    ∷ after_writes
    ∷ ("      uid:" ∷ "      gid:" ∷ "      namespace:" ∷ after_writes)
    ∷ ("      gid:" ∷ "      namespace:" ∷ after_writes)
    ∷ ("      namespace:" ∷ after_writes)
    ∷ after_writes
    ∷ []
unfolding computing
writes_followed = refl

abbrev context_keys : List String
context_keys = "      call_context:" ∷ "      uid:" ∷ "      gid:" ∷ "      namespace:" ∷ []

pub blocks_begin :
    blocks
    (object_map
    ∷ subject_map
    ∷ privileges
    ∷ principal
    ∷ execution_context
    ∷ can_read
    ∷ object_context_in can_read
    ∷ can_write
    ∷ object_context_in can_write
    ∷ [])
    ≡ ("- name:" ∷ [])
    ∷ ("- name:" ∷ [])
    ∷ ("- principal:" ∷ [])
    ∷ ("    subject:" ∷ [])
    ∷ context_keys
    ∷ ("  - objects:" ∷ [])
    ∷ context_keys
    ∷ ("  - objects:" ∷ [])
    ∷ context_keys
    ∷ []
unfolding computing
blocks_begin = refl

abbrev may_end : List ℕ → List Bool
may_end places = map (λ place. (row_at place).last) places

-- a text ends behind `privileges` or behind an entry with its subject
pub ends :
    map may_end (of_maps ∷ of_entry ∷ context execution_context ∷ access can_read ∷ access can_write ∷ [])
    ≡ (false ∷ false ∷ false ∷ false ∷ false ∷ false ∷ false ∷ true ∷ [])
    ∷ (false ∷ true ∷ true ∷ true ∷ [])
    ∷ (true ∷ true ∷ true ∷ true ∷ true ∷ [])
    ∷ (true ∷ true ∷ true ∷ true ∷ true ∷ true ∷ true ∷ [])
    ∷ (true ∷ true ∷ true ∷ true ∷ true ∷ true ∷ true ∷ [])
    ∷ []
unfolding computing
ends = refl
