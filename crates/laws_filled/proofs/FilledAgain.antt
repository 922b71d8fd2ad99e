-- Filling twice is filling once: the filled text of a filled text is itself, byte for byte, and is refused with 30 alone.
use mathlib.Core.Path.{◌≡◌, refl, sym, ap, ◌∙◌}
use mathlib.Core.List.{List}
use mathlib.Core.Bool.{cond}
use Prim.Native.Nat.{ℕ, ◌<◌, ◌≤◌}
use lib.Dec.{ltb}
use lib.ListN.{length, take}
use borrow.Author.Tests.{le-ltb, lt-ltb}
use Rattle.paper.specs.declared.Filling.TheVariants.{Written, Unfilled}
use Rattle.paper.specs.Limits.{text_bytes}
use Rattle.paper.specs.Text.{no_line}
use Rattle.paper.specs.Page.{Field, fields}
use Rattle.paper.specs.Filled.{filled_text}
use Rattle.paper.specs.Promises.{file_of, written_in, fill_answer, fill_leaves}
use Rattle.laws_file.proofs.Reader.{accepted_page}
use Rattle.laws_filled.proofs.Filler.{Filled, was_filled, left_text}
use Rattle.laws_filled.proofs.RoundTrip.{filled_file}
use Rattle.laws_filled.proofs.FilledTwice.{filled_twice}

-- ---- of every text that the reader accepts and whose filled text is not too long

module _ (t : List ℕ) (fs : List Field) (accepted : file_of t ≡ fields fs) (short : length (filled_text fs) ≤ text_bytes) (out : List ℕ) where
  -- the filler answers of its filled text what it answers of the text, whatever output is lent: 31 no more than there
  pub again_answer : fill_answer (filled_text fs) out ≡ fill_answer t out
  unfolding fill_answer
  again_answer = rw (filled_file t fs accepted short, accepted, filled_twice t fs (accepted_page t fs accepted).0) refl

  -- and leaves the same bytes
  pub again_leaves : fill_leaves (filled_text fs) out ≡ fill_leaves t out
  unfolding fill_leaves
  again_leaves = rw (again_answer, filled_file t fs accepted short, accepted, filled_twice t fs (accepted_page t fs accepted).0) refl

-- the answer where the text is accepted, by the room there is
answer_in : (t : List ℕ) (fs : List Field) (out : List ℕ) → file_of t ≡ fields fs → fill_answer t out ≡ written_in (length out) (length (filled_text fs))
unfolding fill_answer
answer_in t fs out accepted = rw accepted refl

-- ---- the same of what the filler wrote

module _ (t out : List ℕ) (size : ℕ) (h : fill_answer t out ≡ Written size) (next : List ℕ) where
  abbrev first : Filled t out size
  first = was_filled t out size h

  -- into any other output the two texts are filled alike
  pub same_filling : (fill_answer (take size (fill_leaves t out)) next ≡ fill_answer t next)
      × (fill_leaves (take size (fill_leaves t out)) next ≡ fill_leaves t next)
  same_filling =
      rw (left_text t out size h)
      (again_answer t first.fs first.accepted first.short next, again_leaves t first.fs first.accepted first.short next)

  -- the whole answer of the second filling: 30 where it has no room, and never 31 nor 2 to 11
  pub answer_again : fill_answer (take size (fill_leaves t out)) next ≡ cond (ltb (length next) size) (Unfilled 30 no_line) (Written size)
  unfolding written_in
  answer_again =
      same_filling.0
      ∙ answer_in t first.fs next first.accepted
      ∙ rw (le-ltb text_bytes (length (filled_text first.fs)) first.short, first.sized) refl

  -- where it has room it is as long as the first
  pub filled_again : size ≤ length next → fill_answer (take size (fill_leaves t out)) next ≡ Written size
  filled_again room = answer_again ∙ rw (le-ltb (length next) size room) refl

  pub no_room_again : length next < size → fill_answer (take size (fill_leaves t out)) next ≡ Unfilled 30 no_line
  no_room_again small = answer_again ∙ rw (lt-ltb (length next) size small) refl

  -- the filled text of a filled text is itself, byte for byte
  pub itself_again : size ≤ length next → take size (fill_leaves (take size (fill_leaves t out)) next) ≡ take size (fill_leaves t out)
  itself_again room =
      let k : fill_answer t next ≡ Written size = sym same_filling.0 ∙ filled_again room in
      let w = was_filled t next size k in
      let e : fields w.fs ≡ fields first.fs = sym w.accepted ∙ first.accepted in
      let s : w.fs ≡ first.fs = cc in
      ap (take size) same_filling.1 ∙ left_text t next size k ∙ ap filled_text s ∙ sym (left_text t out size h)
