-- The policy: what an accepted file means, and what a well-formed table holds. Functions, objects, domains and entries
-- "are numbered from 0 in file order" (document 01, "What a match is"); they are their places in these lists.
use Rattle.std.specs.Prelude.{ℕ, ◌+◌, List, [], ◌∷◌, ◌++◌, map, Bool, cond, length, replicate}
use Rattle.paper.specs.Common.{is, among, number_in}
use Rattle.paper.specs.Scalars.{Sort, anyone, sort_of}
use Rattle.paper.specs.Lists.{elements}
use Rattle.paper.specs.Listing.{object_name, object_members, subject_name, subject_members, subject_of_entry, execution_context}
use Rattle.paper.specs.Listing.{can_call, can_return, can_read, can_write, call_context_in, uid_in, gid_in, namespace_in, objects_in, object_context_in}
use Rattle.paper.specs.Page.{Field}
use Rattle.paper.specs.Entries.{value_at, fields_at, entries_of, items_of}
use Rattle.paper.specs.Rules.{domains_at, identifiers_at}

-- an element of a pattern: the wildcard, a function, or a subject domain ("An element may now also be a subject domain name", document 02 d)
pub data Element : Type 0 where
  all : Element
  fn : ℕ → Element
  any_in : ℕ → Element

pub record Context : Type 0 where
  pub pattern : List Element
  pub uid : Sort
  pub gid : Sort
  pub namespace : Sort

-- the domains that are granted: every listed one, or for each domain in order whether it is
pub data Grant : Type 0 where
  every : Grant
  these : List Bool → Grant

pub record Descriptor : Type 0 where
  pub context : Context
  pub objects : Grant

-- an entry: its principal, and what it grants
pub record Entry : Type 0 where
  pub context : Context
  pub subject : ℕ
  pub calls : Grant
  pub returns : Grant
  pub reads : List Descriptor
  pub writes : List Descriptor

pub record Policy : Type 0 where
  pub object_domains : ℕ
  pub subject_domains : ℕ
  -- the domain of each object, and of each function
  pub objects : List ℕ
  pub functions : List ℕ
  pub entries : List Entry

-- no entry at all: what stands where a list of entries has none
abbrev pub no_entry : Entry
no_entry =
    record { context = record { pattern = []; uid = anyone; gid = anyone; namespace = anyone }; subject = 0; calls = every; returns = every; reads = []; writes = [] }

-- "call_context holds function identifiers or `all`", or subject domain names; "Identifiers have a `|` and names don't, so nothing is ambiguous" (document 02 d)
unfoldable pub element_of : List (List ℕ) → List (List ℕ) → List ℕ → Element
element_of functions domains s =
    cond (is "all" s) all (cond (among s functions) (fn (number_in functions s)) (any_in (number_in domains s)))

-- the context at a place, among the functions and the subject domains of the file
unfoldable pub context_of : List (List ℕ) → List (List ℕ) → ℕ → List Field → Context
context_of functions domains place fs =
    record {
      pattern = map (element_of functions domains) (elements (value_at (call_context_in place) fs));
      uid = sort_of (value_at (uid_in place) fs);
      gid = sort_of (value_at (gid_in place) fs);
      namespace = sort_of (value_at (namespace_in place) fs);
    }

-- a list of domain names, or `all`, among the domains of a map
unfoldable pub grant_of : List (List ℕ) → List ℕ → Grant
grant_of domains v = cond (is "all" v) every (these (map (λ name. among name (elements v)) domains))

-- an item: its `objects` and its `object_context`
unfoldable pub descriptor_of : List Field → ℕ → List Field → Descriptor
descriptor_of file access item =
    record {
      context = context_of (identifiers_at subject_members file) (domains_at subject_name file) (object_context_in access) item;
      objects = grant_of (domains_at object_name file) (value_at (objects_in access) item);
    }

-- `can_read` or `can_write`: `all` is one descriptor with nothing written in it, so that "an omitted privilege field grants every listed domain"
unfoldable pub access_of : List Field → ℕ → List Field → List Descriptor
access_of file access entry =
    cond (is "all" (value_at access entry)) (descriptor_of file access [] ∷ []) (map (descriptor_of file access) (items_of access entry))

-- an entry's fields, among those of the file
unfoldable pub entry_of : List Field → List Field → Entry
entry_of file entry =
    record {
      context = context_of (identifiers_at subject_members file) (domains_at subject_name file) execution_context entry;
      subject = number_in (domains_at subject_name file) (value_at subject_of_entry entry);
      calls = grant_of (domains_at subject_name file) (value_at can_call entry);
      returns = grant_of (domains_at subject_name file) (value_at can_return entry);
      reads = access_of file can_read entry;
      writes = access_of file can_write entry;
    }

-- the domain of each member in turn, d being the domain that the next list of members belongs to
unfoldable pub member_domains : ℕ → List Field → List ℕ
member_domains d [] = []
member_domains d (f ∷ fs) = replicate (length (elements f.value)) d ++ member_domains (d + 1) fs

-- the policy of an accepted file
unfoldable pub policy_of : List Field → Policy
policy_of file =
    record {
      object_domains = length (domains_at object_name file);
      subject_domains = length (domains_at subject_name file);
      objects = member_domains 0 (fields_at object_members file);
      functions = member_domains 0 (fields_at subject_members file);
      entries = map (entry_of file) (entries_of file);
    }
