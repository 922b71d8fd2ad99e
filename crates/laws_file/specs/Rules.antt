-- The lines of a file's fields that are at fault, rule by rule (document 01, "Numbers that come back"): each said by itself and not by looking for it.
use Rattle.std.specs.Prelude.{ℕ, ◌+◌, ◌<◌, ◌≤◌, ◌≡◌, true, List, [], ◌∷◌, ◌++◌, length}
use Rattle.paper.specs.Common.{bytes}
use Rattle.paper.specs.Limits.{most_domains, most_members, most_entries, most_elements, most_descriptors}
use Rattle.paper.specs.Text.{no_line}
use Rattle.paper.specs.Scalars.{is_variable, sort_of}
use Rattle.paper.specs.Lists.{elements}
use Rattle.paper.specs.Listing.{object_name, object_members, subject_name, subject_members, principal, subject_of_entry, execution_context, call_context_in, uid_in, gid_in, namespace_in}
use Rattle.paper.specs.Page.{Field}
use Rattle.paper.specs.Entries.{is_at_one, call_contexts, value_at, entries_of, line_of_entry}
use Rattle.paper.specs.Rules.{one_at, members_at, descriptors_in, domain_named, members_named, subject_lists, object_lists, domains_at, identifiers_at, in_object_contexts}

-- ---- things that stand on lines

-- x is one of these
pub record Has {A : Type 0} (xs : List A) (x : A) : Type 0 where
  pub front : List A
  pub behind : List A
  pub splits : xs ≡ front ++ (x ∷ behind)

-- one of these stands on line m and is at fault, with those before it
pub record On {A : Type 0} (line : A → ℕ) (Fault : List A → A → Type 0) (xs : List A) (m : ℕ) : Type 0 where
  pub before : List A
  pub it : A
  pub behind : List A
  pub splits : xs ≡ before ++ (it ∷ behind)
  pub number : line it ≡ m
  pub faulty : Fault before it

-- the same of fields, each on its own line
abbrev pub OnField : (List Field → Field → Type 0) → List Field → ℕ → Type 0
OnField Fault fs m = On (λ f. f.line) Fault fs m

-- a rule answers no line exactly where none is at fault; else "The line returned is the smallest at fault"
pub record Answers (AtFault : ℕ → Type 0) (answer : ℕ) : Type 0 where
  pub clear : answer ≡ no_line → (m : ℕ) → AtFault m → ⊥
  pub silent : ((m : ℕ) → AtFault m → ⊥) → answer ≡ no_line
  pub found : (answer ≡ no_line → ⊥) → AtFault answer
  pub smallest : (m : ℕ) → AtFault m → answer ≤ m

-- ---- 6: "a count over its limit"; "for 6 the line that passes the limit"

-- the weights of all of these together
unfoldable pub total : {A : Type 0} → (A → ℕ) → List A → ℕ
total weight [] = 0
total weight (x ∷ xs) = weight x + total weight xs

-- with x, and not before it, the count is over its limit
pub record Passes {A : Type 0} (weight : A → ℕ) (limit : ℕ) (before : List A) (x : A) : Type 0 where
  pub within : total weight before ≤ limit
  pub over : limit < total weight before + weight x

-- a `call_context` of more than 16 elements
pub record LongPattern (before : List Field) (f : Field) : Type 0 where
  pub place : is_at_one call_contexts f ≡ true
  pub long : most_elements < length (elements f.value)

-- "At most: 128 domains in each map, 1,024 objects, 1,024 subjects, 128 entries, 16 elements in a `call_context`, 256 access descriptors in the file."
pub data OverLimit (fs : List Field) (m : ℕ) : Type 0 where
  domains_of_objects : OnField (Passes (one_at object_name) most_domains) fs m → OverLimit fs m
  domains_of_subjects : OnField (Passes (one_at subject_name) most_domains) fs m → OverLimit fs m
  objects : OnField (Passes (members_at object_members) most_members) fs m → OverLimit fs m
  subjects : OnField (Passes (members_at subject_members) most_members) fs m → OverLimit fs m
  entries : OnField (Passes (one_at principal) most_entries) fs m → OverLimit fs m
  elements_of_pattern : OnField LongPattern fs m → OverLimit fs m
  -- "for access descriptors the `principal` line of the entry that passes 256"
  descriptors : On line_of_entry (Passes descriptors_in most_descriptors) (entries_of fs) m → OverLimit fs m

-- ---- 7: "domain name (over both maps), identifier of one map, or name in one list twice"; "for 7 the later one"

-- a name stands twice among these
pub record Twice (names : List (List ℕ)) : Type 0 where
  pub name : List ℕ
  pub front : List (List ℕ)
  pub behind : List (List ℕ)
  pub splits : names ≡ front ++ (name ∷ behind)
  pub again : Has behind name

-- a field names what one before it named, or names it twice itself, whichever names it is that fields give
pub data NamesAgain (named : Field → List (List ℕ)) (before : List Field) (f : Field) : Type 0 where
  named_before : (g : Field) → Has before g → (name : List ℕ) → Has (named g) name → Has (named f) name → NamesAgain named before f
  twice_itself : Twice (named f) → NamesAgain named before f

-- the lists in which no name may stand twice; "`call_context` may repeat an element"
pub record RepeatsInList (before : List Field) (f : Field) : Type 0 where
  pub place : is_at_one (subject_lists ++ object_lists) f ≡ true
  pub twice : Twice (elements f.value)

-- the later field of two that name the same, or one with a name twice in its list
pub data NamedTwice (fs : List Field) (m : ℕ) : Type 0 where
  domain_name : OnField (NamesAgain domain_named) fs m → NamedTwice fs m
  object : OnField (NamesAgain (members_named object_members)) fs m → NamedTwice fs m
  subject : OnField (NamesAgain (members_named subject_members)) fs m → NamedTwice fs m
  in_one_list : OnField RepeatsInList fs m → NamedTwice fs m

-- ---- 8: "domain or function its map lacks"

-- a field that holds names holds one that is not among those of the map
pub record Lacking (known names : List (List ℕ)) : Type 0 where
  pub name : List ℕ
  pub held : Has names name
  pub lacked : Has known name → ⊥

-- a field of the file names what its map lacks: the subject of an entry, a domain in a list, an element of a `call_context`
pub data NamesUnknown (file before : List Field) (f : Field) : Type 0 where
  entry_subject : f.place ≡ subject_of_entry → (Has (domains_at subject_name file) f.value → ⊥) → NamesUnknown file before f
  listed_subject : is_at_one subject_lists f ≡ true → Lacking (domains_at subject_name file) (elements f.value) → NamesUnknown file before f
  listed_object : is_at_one object_lists f ≡ true → Lacking (domains_at object_name file) (elements f.value) → NamesUnknown file before f
  -- "`call_context` holds function identifiers or `all`", or subject domain names (document 02 d)
  element : is_at_one call_contexts f ≡ true → Lacking (bytes "all" ∷ (identifiers_at subject_members file ++ domains_at subject_name file)) (elements f.value)
      → NamesUnknown file before f

-- on the line of that field
abbrev pub UnknownName : List Field → ℕ → Type 0
UnknownName fs m = OnField (NamesUnknown fs) fs m

-- ---- 10: "object context variable not the one bound by that entry's same key"

-- a key of an object context holds a variable that is not the value of the same key of the entry's execution context
pub record UnboundKey (key : ℕ → ℕ) (entry : List Field) (f : Field) : Type 0 where
  pub place : is_at_one (in_object_contexts key) f ≡ true
  pub holds_variable : is_variable f.value ≡ true
  pub another : f.value ≡ value_at (key execution_context) entry → ⊥

-- the keys that can hold a variable
pub data Unbound (entry before : List Field) (f : Field) : Type 0 where
  uid : UnboundKey uid_in entry f → Unbound entry before f
  gid : UnboundKey gid_in entry f → Unbound entry before f
  namespace : UnboundKey namespace_in entry f → Unbound entry before f

-- on a line of one of the entries
pub record UnboundVariable (fs : List Field) (m : ℕ) : Type 0 where
  pub entry : List Field
  pub stands : Has (entries_of fs) entry
  pub unbound : OnField (Unbound entry) entry m

-- ---- 11: "two entries with the same principal"; "for 11 the later entry's `principal` line"

-- "Principals are the same when subject and pattern elements are equal and uid and gid are of the same sort (two variables are the same sort)."; and namespace (document 02 g)
pub record SamePrincipal (a b : List Field) : Type 0 where
  pub subject : value_at subject_of_entry a ≡ value_at subject_of_entry b
  pub pattern : elements (value_at (call_context_in execution_context) a) ≡ elements (value_at (call_context_in execution_context) b)
  pub uid : sort_of (value_at (uid_in execution_context) a) ≡ sort_of (value_at (uid_in execution_context) b)
  pub gid : sort_of (value_at (gid_in execution_context) a) ≡ sort_of (value_at (gid_in execution_context) b)
  pub namespace : sort_of (value_at (namespace_in execution_context) a) ≡ sort_of (value_at (namespace_in execution_context) b)

-- an entry before has the principal of this one
pub record HasTwin (before : List (List Field)) (entry : List Field) : Type 0 where
  pub twin : List Field
  pub stands : Has before twin
  pub alike : SamePrincipal entry twin

-- on the `principal` line of that entry
abbrev pub TwinPrincipal : List Field → ℕ → Type 0
TwinPrincipal fs m = On line_of_entry HasTwin (entries_of fs) m
