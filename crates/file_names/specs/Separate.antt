-- Words that are numbers of domains, no two the same: in such a list no name stands twice.
use Rattle.std.specs.Prelude.{ℕ, ◌-◌, List, [], ◌∷◌, Bool, true, false, cond, not, ◌&&◌, ltb, replicate}
use Rattle.paper.specs.Common.{all_of, count_up}
use Rattle.paper.specs.Limits.{most_domains}
use Rattle.paper.specs.Table.{set_size, is_in, with_domain}
use Rattle.file_fields.specs.Fields.{place_in}
use Rattle.file_fields.specs.declared.file.FieldAt.{FieldAt}
use Rattle.file_words.specs.Looking.{sought_at}
use Rattle.file_words.specs.Words.{words_in}
use Rattle.file_words.specs.declared.places.Sought.{Sought}
use Rattle.file_words.specs.declared.places.Sought.TheVariants.{Subject, Subjects, Objects, Elements, Nothing}

-- the words are below 128, not in the set, and no two of them the same
unfoldable pub separate : List ℕ → List ℕ → Bool
separate set [] = true
separate set (w ∷ ws) = ltb w most_domains && not (is_in set w) && separate (with_domain set w) ws

-- a list of domains stands there
abbrev pub is_listed : Sought → Bool
is_listed Subject = false
is_listed Subjects = true
is_listed Objects = true
is_listed Elements = false
is_listed Nothing = false

-- so are those of field i, where it is a list of domains
unfoldable pub list_separate : List FieldAt → List ℕ → List ℕ → ℕ → Bool
list_separate list words starts i = cond (is_listed (sought_at (place_in list i))) (separate (replicate set_size 0) (words_in words starts i)) true

-- so are those of the fields from one number up to another
unfoldable pub lists_separate : List FieldAt → List ℕ → List ℕ → ℕ → ℕ → Bool
lists_separate list words starts from to = all_of (list_separate list words starts) (count_up from (to - from))
