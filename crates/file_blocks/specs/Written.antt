-- The words of a context and of a grant as the code writes them, from the words of their names.
use Rattle.std.specs.Prelude.{ℕ, zero, suc, ◌+◌, ◌-◌, List, [], ◌∷◌, map, Bool, cond, ◌&&◌, ◌||◌, ltb, leb, length, set, replicate}
use Rattle.paper.specs.Common.{is}
use Rattle.paper.specs.Limits.{most_elements}
use Rattle.paper.specs.Scalars.{sort_number, sort_of}
use Rattle.paper.specs.Lists.{elements}
use Rattle.paper.specs.Listing.{subject_of_entry, can_read, can_write, call_context_in, uid_in, gid_in, namespace_in}
use Rattle.paper.specs.Page.{Field}
use Rattle.paper.specs.Entries.{value_at}
use Rattle.paper.specs.Rules.{descriptors_of}
use Rattle.paper.specs.Table.{every_word, set_size, padded, with_domain}
use Rattle.file_fields.specs.declared.file.FieldAt.{FieldAt}
use Rattle.file_fields.specs.Fields.{between, next_at, value_in}
use Rattle.file_words.specs.Words.{words_in}

-- words written over those from number i on, one behind the other
unfoldable pub put_from : ℕ → List ℕ → List ℕ → List ℕ
put_from i [] out = out
put_from i (w ∷ ws) out = put_from (i + 1) ws (set out i w)

-- ---- contexts

-- the words of a pattern: those of field i, and one `all` where there is no such field in front of another
unfoldable pub pattern_in : List ℕ → List ℕ → ℕ → ℕ → List ℕ
pattern_in words starts i to = cond (ltb i to) (words_in words starts i) (0 ∷ [])

-- the words of a context, by those of its pattern and the values of its other keys
unfoldable pub context_of_words : List ℕ → List ℕ → List ℕ → List ℕ → List ℕ
context_of_words pattern uid gid namespace =
    length pattern ∷ sort_number (sort_of uid) ∷ sort_number (sort_of gid) ∷ sort_number (sort_of namespace) ∷ padded most_elements pattern

-- those of the context at a place, among the fields from one number up to another
unfoldable pub context_in : List ℕ → List FieldAt → List ℕ → List ℕ → ℕ → ℕ → ℕ → List ℕ
context_in t list words starts place from to =
    context_of_words (pattern_in words starts (next_at list (call_context_in place) from (to - from)) to)
    (value_at (uid_in place) (between t list from to))
    (value_at (gid_in place) (between t list from to))
    (value_at (namespace_in place) (between t list from to))

-- ---- grants

-- field i grants every domain, or there is no such field in front of another
unfoldable pub every_in : List ℕ → List FieldAt → ℕ → ℕ → Bool
every_in t list i to = leb to i || is "all" (value_in t list i)

-- a set of domains with this one in it; a number that is not below n is none
unfoldable pub with_word : ℕ → List ℕ → ℕ → List ℕ
with_word n domains d = cond (ltb d n) (with_domain domains d) domains

-- the set with all of these in it
unfoldable pub with_words : ℕ → List ℕ → List ℕ → List ℕ
with_words n domains [] = domains
with_words n domains (d ∷ ds) = with_words n (with_word n domains d) ds

-- the words of the grant at a place, among the fields from one number up to another, by those of its names, of which there are n
unfoldable pub grant_in : List ℕ → List FieldAt → List ℕ → List ℕ → ℕ → ℕ → ℕ → ℕ → List ℕ
grant_in t list words starts place from to n =
    cond (every_in t list (next_at list place from (to - from)) to)
    (every_word ∷ replicate set_size 0)
    (0 ∷ with_words n (replicate set_size 0) (words_in words starts (next_at list place from (to - from))))

-- ---- by the words of names

module _ (word : List ℕ → ℕ) where
  -- the words of a context, by the values of its keys
  unfoldable pub context_by : List ℕ → List ℕ → List ℕ → List ℕ → List ℕ
  context_by pattern uid gid namespace = context_of_words (map word (elements pattern)) uid gid namespace

  -- the same of the context at a place, among these fields
  abbrev pub context_at : ℕ → List Field → List ℕ
  context_at place fs =
      context_by (value_at (call_context_in place) fs) (value_at (uid_in place) fs) (value_at (gid_in place) fs) (value_at (namespace_in place) fs)

  -- of an entry: its subject, and how many descriptors it has for reads and for writes
  abbrev pub counts_by : List Field → List ℕ
  counts_by fs = word (value_at subject_of_entry fs) ∷ descriptors_of can_read fs ∷ descriptors_of can_write fs ∷ []

  -- the words of a grant among n domains
  unfoldable pub grant_by : ℕ → List ℕ → List ℕ
  grant_by n v = cond (is "all" v) (every_word ∷ replicate set_size 0) (0 ∷ with_words n (replicate set_size 0) (map word (elements v)))
