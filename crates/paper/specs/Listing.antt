-- The listing: every line that a file can have, as a place with its key, its value, its block and what may follow
-- (document 01, "The page" and "A file, filled out").
use Rattle.std.specs.Prelude.{ℕ, ◌+◌, List, [], ◌∷◌, ◌++◌, Bool, true, false, cond, not, ◌&&◌, ◌||◌, eqb, get_or, drop}
use Prim.Native.String.{String}
use Rattle.paper.specs.declared.Scalar.TheVariants.{DomainName, UidValue, GidValue, SubjectIdentifier, ObjectIdentifier, PatternElement}
use Rattle.paper.specs.declared.Value.{Value}
use Rattle.paper.specs.declared.Value.TheVariants.{Keys, NoneOrItems, AllOrKeys, AllNoneOrItems, One, ListOf, SomeOf, ListOrAll}
use Rattle.paper.specs.Common.{bytes, is, is_one, is_front_of}
use Rattle.paper.specs.Text.{column}
use Rattle.paper.specs.Scalars.{is_scalar}
use Rattle.paper.specs.Lists.{list_fault}

-- "A bare `can_` field, or bare `objects` in such an item, means `[]`."
unfoldable pub bare_is_none : Value → Bool
bare_is_none Keys = false
bare_is_none NoneOrItems = false
bare_is_none AllOrKeys = false
bare_is_none AllNoneOrItems = true
bare_is_none (One s) = false
bare_is_none (ListOf s) = false
bare_is_none (SomeOf s) = false
bare_is_none (ListOrAll s) = true

-- a value that is right has no fault
abbrev pub no_fault : ℕ
no_fault = 0

-- what is wrong with a value that is written, 4, 9 or 5: 4 where "no list, block or `all`" stands "where one is due", 5 for a scalar, 9 for `call_context: []`
unfoldable pub value_fault : Value → List ℕ → ℕ
-- `principal` takes a block and no value
value_fault Keys v = 4
-- "`object_map`, `subject_map` and `privileges` are `[]` or items"
value_fault NoneOrItems v = cond (is "[]" v) no_fault 4
-- "`execution_context` and `object_context` are `all` or one or more of" their keys
value_fault AllOrKeys v = cond (is "all" v) no_fault 4
-- "`can_read` and `can_write` are `all`, `[]`, or items"
value_fault AllNoneOrItems v = cond (is_one ("all" ∷ "[]" ∷ []) v) no_fault 4
value_fault (One s) v = cond (is_scalar s v) no_fault 5
value_fault (ListOf s) v = list_fault s v
value_fault (SomeOf s) v = cond (is "[]" v) 9 (list_fault s v)
-- "`can_call` and `can_return` are a list or `all`"; an item's "`objects` (a list or `all`, required)"
value_fault (ListOrAll s) v = cond (is "all" v) no_fault (list_fault s v)

-- ---- the places of the listing, numbered in its order: row n of `listing` is place n. Places.antt in proofs/ computes the key of each

-- before the first line, and where a line begins with no key that may stand there
abbrev pub nowhere : ℕ
nowhere = 0

-- "`object_map`, `subject_map` and `privileges`", and in the maps "`name`, `objects` and `subjects`"
abbrev pub object_map : ℕ
object_map = 1

abbrev pub object_name : ℕ
object_name = 2

abbrev pub object_members : ℕ
object_members = 3

abbrev pub subject_map : ℕ
subject_map = 4

abbrev pub subject_name : ℕ
subject_name = 5

abbrev pub subject_members : ℕ
subject_members = 6

abbrev pub privileges : ℕ
privileges = 7

-- "In an entry, `principal` with `subject` is required"
abbrev pub principal : ℕ
principal = 8

abbrev pub subject_of_entry : ℕ
subject_of_entry = 9

-- `execution_context`
abbrev pub execution_context : ℕ
execution_context = 10

-- behind a context stand its keys, "`call_context`, `uid`, `gid`", and "a third number, after `gid` in every context: `namespace`" (document 02 g)
abbrev pub call_context_in : ℕ → ℕ
call_context_in context = context + 1

abbrev pub uid_in : ℕ → ℕ
uid_in context = context + 2

abbrev pub gid_in : ℕ → ℕ
gid_in context = context + 3

abbrev pub namespace_in : ℕ → ℕ
namespace_in context = context + 4

-- so many places a context takes
abbrev pub context_places : ℕ
context_places = 5

-- behind `can_read` or `can_write` stand an item's `objects` and its `object_context`
abbrev pub objects_in : ℕ → ℕ
objects_in access = access + 1

abbrev pub object_context_in : ℕ → ℕ
object_context_in access = access + 2

-- so many places they take
abbrev pub access_places : ℕ
access_places = 2 + context_places

-- "the four `can_` fields"
abbrev pub can_call : ℕ
can_call = execution_context + context_places

abbrev pub can_return : ℕ
can_return = can_call + 1

abbrev pub can_read : ℕ
can_read = can_return + 1

abbrev pub can_write : ℕ
can_write = can_read + access_places

-- ---- its rows

-- a row of the listing
pub record Row : Type 0 where
  -- column, perhaps a dash, key word and colon
  pub key : String
  pub value : Value
  -- the places that its block may begin with; none where no block can follow
  pub block : List ℕ
  -- the places that may follow it, its block aside
  pub next : List ℕ
  -- the text may end with it
  pub last : Bool

-- a row, its parts in order
abbrev pub row : String → Value → List ℕ → List ℕ → Bool → Row
row k v b n l = record { key = k; value = v; block = b; next = n; last = l }

-- what may follow each of "the four `can_` fields", which "may be omitted", and what may follow the principal
abbrev pub after_write : List ℕ
after_write = principal ∷ []

abbrev pub after_read : List ℕ
after_read = can_write ∷ after_write

abbrev pub after_return : List ℕ
after_return = can_read ∷ after_read

abbrev pub after_call : List ℕ
after_call = can_return ∷ after_return

abbrev pub after_principal : List ℕ
after_principal = can_call ∷ after_call

-- a context at place c: "`all` or one or more of `call_context`, `uid`, `gid`", and `namespace`, "`all` or a variable, same rules as gid" (document 02 g)
abbrev pub context_rows : ℕ → String → List ℕ → List Row
context_rows c key after =
    row key AllOrKeys (call_context_in c ∷ uid_in c ∷ gid_in c ∷ namespace_in c ∷ []) after true
    ∷ row "      call_context:" (SomeOf PatternElement) [] (uid_in c ∷ gid_in c ∷ namespace_in c ∷ after) true
    ∷ row "      uid:" (One UidValue) [] (gid_in c ∷ namespace_in c ∷ after) true
    ∷ row "      gid:" (One GidValue) [] (namespace_in c ∷ after) true
    ∷ row "      namespace:" (One GidValue) [] after true
    ∷ []

-- `can_read` or `can_write` at place a: "`all`, `[]`, or items, each with `objects`" and perhaps a context
abbrev pub access_rows : ℕ → String → List ℕ → List Row
access_rows a key after =
    row key AllNoneOrItems (objects_in a ∷ []) after true
    ∷ row "  - objects:" (ListOrAll DomainName) [] (object_context_in a ∷ objects_in a ∷ after) true
    ∷ context_rows (object_context_in a) "    object_context:" (objects_in a ∷ after)

-- "Keys stand in the order and columns of the listing": row n is place n
unfoldable pub listing : List Row
listing =
    row "" Keys [] (object_map ∷ []) false
    ∷ row "object_map:" NoneOrItems (object_name ∷ []) (subject_map ∷ []) false
    ∷ row "- name:" (One DomainName) [] (object_members ∷ []) false
    ∷ row "  objects:" (ListOf ObjectIdentifier) [] (object_name ∷ subject_map ∷ []) false
    ∷ row "subject_map:" NoneOrItems (subject_name ∷ []) (privileges ∷ []) false
    ∷ row "- name:" (One DomainName) [] (subject_members ∷ []) false
    ∷ row "  subjects:" (ListOf SubjectIdentifier) [] (subject_name ∷ privileges ∷ []) false
    ∷ row "privileges:" NoneOrItems (principal ∷ []) [] true
    ∷ row "- principal:" Keys (subject_of_entry ∷ []) [] false
    ∷ row "    subject:" (One DomainName) [] (execution_context ∷ after_principal) true
    ∷ (context_rows execution_context "    execution_context:" after_principal
    ++ (row "  can_call:" (ListOrAll DomainName) [] after_call true
    ∷ row "  can_return:" (ListOrAll DomainName) [] after_return true
    ∷ (access_rows can_read "  can_read:" after_read ++ access_rows can_write "  can_write:" after_write)))

-- the row of a place
unfoldable pub row_at : ℕ → Row
row_at place = get_or listing place (row "" Keys [] [] false)

-- the key of a place, as bytes
unfoldable pub key_at : ℕ → List ℕ
key_at place = bytes (row_at place).key

-- "Items begin `- ` at their block's column."
unfoldable pub dashed : List ℕ → Bool
dashed l = is_front_of (bytes "- ") (drop (column l) l)

-- "at that block's column (for items, with `- ` there)": as the block's first key stands
unfoldable pub alongside : List ℕ → List ℕ → Bool
alongside key l = eqb (column l) (column key) && (not (dashed key) || dashed l)

-- it stands as the first key of these does; no line stands in a block where none can follow
unfoldable pub begins_block : List ℕ → List ℕ → Bool
begins_block [] l = false
begins_block (place ∷ places) l = alongside (key_at place) l

-- a line stands where the block of this place would begin
unfoldable pub at_block : ℕ → List ℕ → Bool
at_block place l = begins_block (row_at place).block l
