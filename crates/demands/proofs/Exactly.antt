-- Demand 1 leaves nothing open: whatever it says of an answer and of what is left in the lent buffers is met by the promised ones alone.
use mathlib.Core.Path.{◌≡◌, refl, sym, ap, ◌∙◌}
use mathlib.Core.Logic.{◌⊎◌, ⊎_elim}
use mathlib.Core.Bool.{true, false}
use mathlib.Core.List.{List, ◌++◌}
use Prim.Native.Nat.{ℕ, ◌<◌, ◌≤◌}
use lib.Dec.{leb}
use lib.ListN.{length, drop, take-append-drop}
use borrow.Author.Tests.{lt-ltb, le-ltb, le-leb, lt-leb}
use Rattle.paper.specs.declared.Reading.{Reading}
use Rattle.paper.specs.declared.Filling.{Filling}
use Rattle.paper.specs.declared.Verdict.{Verdict}
use Rattle.paper.specs.declared.Report.{Report}
use Rattle.paper.specs.declared.Map.{Map}
use Rattle.paper.specs.Common.{within}
use Rattle.paper.specs.Limits.{text_bytes, table_words, most_frames, witness_words}
use Rattle.paper.specs.Policy.{policy_of}
use Rattle.paper.specs.Table.{words_of, policy_in}
use Rattle.paper.specs.Match.{Moment}
use Rattle.paper.specs.Filled.{filled_text}
use Rattle.paper.specs.Lookup.{Stretch, name_among}
use Rattle.paper.specs.Promises.{read_answer, read_leaves, written_in, fill_answer, fill_leaves, judge_event, judge_answer, report_refusal, Reported, lookup_answer}
use Rattle.laws.proofs.Tests.{both_true, both_false}
use Rattle.laws_table.proofs.Inverse.{words_of_policy}
use Rattle.laws_file.proofs.Accepted.{refused_exactly}
use Rattle.overlap.proofs.Agree.{reports_fixed}
use Rattle.file_lookup.specs.Names.{count_of}
use Rattle.file_lookup.proofs.Found.{name_none}
use Rattle.demands.specs.Answered.{TableTooShort, TextRefused, TextRead, Reads, FilledTooLong, OutputTooShort, FillingRefused, TextFilled, Fills}
use Rattle.demands.specs.Answered.{StackRefused, AllocationRefused, OperationRefused, VerdictGiven, Judges, ReportRefused, ReportMade, Reports, NameTold, NoName, Names}

-- ---- the reader

module _ (t table : List ℕ) (r : Reading) (left : List ℕ) where
  abbrev AsRead : Type 0
  AsRead = (r ≡ read_answer t table) × (left ≡ read_leaves t table)

  too_short : TableTooShort table r left → AsRead
  unfolding read_answer read_leaves
  too_short h = rw (lt-ltb _ _ h.short) (h.told, h.unchanged)

  text_refused : TextRefused t table r left → AsRead
  unfolding read_answer read_leaves
  text_refused h = rw (le-ltb _ _ h.room, refused_exactly t h.number h.line h.rightly) (h.told, h.zeroed)

  text_read : TextRead t table r left → AsRead
  unfolding read_answer read_leaves
  text_read h =
      let words : left ≡ words_of (policy_of h.file) ++ drop table_words table =
      sym (take-append-drop table_words left)
      ∙ ap (λ (w : List ℕ). w ++ drop table_words left) (words_of_policy left h.formed ∙ ap words_of h.holds)
      ∙ ap (λ (w : List ℕ). words_of (policy_of h.file) ++ w) h.past in
      rw (le-ltb _ _ h.room, h.read) (h.told, words)

  pub reads_exactly : Reads t table r left → AsRead
  reads_exactly h = ⊎_elim too_short (⊎_elim text_refused text_read) h

-- ---- the filler

module _ (t out : List ℕ) (a : Filling) (left : List ℕ) where
  abbrev AsFilled : Type 0
  AsFilled = (a ≡ fill_answer t out) × (left ≡ fill_leaves t out)

  filling_refused : FillingRefused t out a left → AsFilled
  unfolding fill_answer fill_leaves written_in
  filling_refused h =
      ⊎_elim
      (λ r. rw (refused_exactly t h.number h.line r) (h.told, h.untouched))
      (λ n.
      ⊎_elim
      (λ (l : FilledTooLong n.file h.number). rw (n.read, lt-ltb _ _ l.long) (h.told ∙ rw (l.number_31, n.lineless) refl, h.untouched))
      (λ (s : OutputTooShort n.file out h.number).
      rw (n.read, le-ltb text_bytes (length (filled_text n.file)) s.not_long, lt-ltb (length out) (length (filled_text n.file)) s.short)
      (h.told ∙ rw (s.number_30, n.lineless) refl, h.untouched))
      n.why)
      h.why

  text_filled_lem : TextFilled t out a left → AsFilled
  unfolding fill_answer fill_leaves written_in
  text_filled_lem h =
      rw (h.read, le-ltb text_bytes (length (filled_text h.file)) h.short, le-ltb (length out) (length (filled_text h.file)) h.fits) (h.told, h.written)

  pub fills_exactly : Fills t out a left → AsFilled
  fills_exactly h = ⊎_elim filling_refused text_filled_lem h

-- ---- the judge

-- a number from low to high, and one that is not
inside : (low high n : ℕ) → low ≤ n → n ≤ high → within low high n ≡ true
inside low high n a b = both_true _ _ (le-leb low n a) (le-leb n high b)

outside : (low high n : ℕ) → (n < low) ⊎ (high < n) → within low high n ≡ false
outside low high n h = ⊎_elim (λ a. rw (lt-leb low n a) refl) (λ b. both_false (leb low n) _ (lt-leb n high b)) h

module _ (table : List ℕ) (operation target : ℕ) (m allocation : Moment) (v : Verdict) where
  abbrev Judgement : Type 0
  Judgement = v ≡ judge_event (policy_in table) operation target m allocation

  stack_refused : StackRefused m v → Judgement
  unfolding judge_event
  stack_refused h = rw (outside 1 most_frames _ h.bad) h.told

  allocation_refused : AllocationRefused m allocation v → Judgement
  unfolding judge_event
  allocation_refused h = rw (inside 1 most_frames _ h.some_frame h.few_frames, lt-ltb most_frames _ h.bad) h.told

  operation_refused : OperationRefused operation m allocation v → Judgement
  unfolding judge_event
  operation_refused h =
      rw (inside 1 most_frames _ h.some_frame h.few_frames, le-ltb most_frames _ h.few_allocation_frames, outside 1 4 operation h.bad) h.told

  verdict_given : VerdictGiven table operation target m allocation v → Judgement
  unfolding judge_event
  verdict_given h =
      let j = h.judged in
      rw (
        inside 1 most_frames _ j.some_frame j.few_frames,
        le-ltb most_frames _ j.few_allocation_frames,
        inside 1 4 operation j.some_operation j.known_operation,
      )
      h.told

  pub judges_exactly : Judges table operation target m allocation v → v ≡ judge_answer table operation target m allocation
  unfolding judge_answer
  judges_exactly h =
      ⊎_elim
      (λ n. rw n.0 n.1)
      (λ w. rw w.0 (⊎_elim stack_refused (⊎_elim allocation_refused (⊎_elim operation_refused verdict_given)) w.1))
      h

-- ---- the report

pub reports_exactly : (table old new : List ℕ) (r : Report) → Reports table old new r → Reported table old new r
unfolding Reported report_refusal
reports_exactly table old new r h =
    ⊎_elim
    (λ (n : ReportRefused table old new r).
    ⊎_elim
    (λ w. rw w.0 (n.told ∙ rw w.1 refl, n.unchanged))
    (λ w. rw (w.0, lt-ltb (length old) witness_words w.1) (n.told ∙ rw w.2 refl, n.unchanged))
    n.why)
    (λ (s : ReportMade table old new r). rw (s.formed, le-ltb (length old) witness_words s.room) s.says)
    h

-- so that two answers of which that is true are one, and leave the same witness
pub reports_alike : (table old new new' : List ℕ) (r r' : Report) → Reports table old new r → Reports table old new' r' → (r ≡ r') × (new ≡ new')
reports_alike table old new new' r r' one other =
    reports_fixed table old new new' r r' (reports_exactly table old new r one) (reports_exactly table old new' r' other)

-- ---- name lookup

pub names_exactly : (t : List ℕ) (which : Map) (d : ℕ) (s : Stretch) → Names t which d s → s ≡ lookup_answer t which d
unfolding lookup_answer name_among
names_exactly t which d s h =
    ⊎_elim
    (λ (n : NameTold t which d s). n.told ∙ rw (n.read, lt-ltb d (count_of which n.file) n.below) refl)
    (λ (n : NoName t which d s). n.told ∙ sym ((name_none t which d).1 n.none))
    h
