-- What the names at a place are looked up in.
use Rattle.std.specs.Prelude.{ℕ, cond, eqb}
use Rattle.paper.specs.Common.{any_of}
use Rattle.paper.specs.Listing.{subject_of_entry}
use Rattle.paper.specs.Entries.{call_contexts}
use Rattle.paper.specs.Rules.{subject_lists, object_lists}
use Rattle.file_words.specs.declared.places.Sought.{Sought}
use Rattle.file_words.specs.declared.places.Sought.TheVariants.{Subject, Subjects, Objects, Elements, Nothing}

-- by its place
unfoldable pub sought_at : ℕ → Sought
sought_at place =
    cond (eqb place subject_of_entry) Subject
    (cond (any_of (eqb place) subject_lists) Subjects
    (cond (any_of (eqb place) object_lists) Objects
    (cond (any_of (eqb place) call_contexts) Elements Nothing)))
