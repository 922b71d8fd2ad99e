-- Every call gets an answer, by the definitions that the contracts cite: case by case over what they test.
use mathlib.Core.Path.{◌≡◌, refl}
use mathlib.Core.Logic.{inl, inr, ⊎_elim}
use mathlib.Core.Bool.{Bool, true, false, cond, not, ◌&&◌}
use mathlib.Core.List.{List, ◌++◌}
use Prim.Native.Nat.{ℕ, ◌<◌, ◌≤◌}
use lib.Dec.{ltb, leb}
use lib.ListN.{length, drop}
use lib.Seq.{drop_at}
use borrow.Author.Tests.{ltb-true, ltb-false, leb-true, leb-false, lt-ltb, le-ltb}
use Rattle.paper.specs.declared.Reading.TheVariants.{Unread}
use Rattle.paper.specs.declared.Filling.TheVariants.{Written, Unfilled}
use Rattle.paper.specs.declared.Verdict.TheVariants.{Unjudged}
use Rattle.paper.specs.declared.Report.{Report}
use Rattle.paper.specs.declared.Report.TheVariants.{Clear, Clash, Unreported}
use Rattle.paper.specs.declared.Map.{Map}
use Rattle.paper.specs.Limits.{text_bytes, table_words, most_frames, witness_words}
use Rattle.paper.specs.Text.{no_line}
use Rattle.paper.specs.Page.{Field, Outcome, fields, fault}
use Rattle.paper.specs.Policy.{Policy, policy_of}
use Rattle.paper.specs.Table.{words_of, policy_in, well_formed}
use Rattle.paper.specs.Match.{Moment}
use Rattle.paper.specs.Verdict.{verdict_of}
use Rattle.paper.specs.Overlap.{Says}
use Rattle.paper.specs.Filled.{filled_text}
use Rattle.paper.specs.Lookup.{name_among}
use Rattle.paper.specs.Promises.{file_of, reading_of, words_read, read_answer, read_leaves, written_in, filling_of, text_filled, output_left, fill_answer, fill_leaves}
use Rattle.paper.specs.Promises.{access_for, judge_event, judge_answer, report_refusal, ReportedUnless, Reported, lookup_answer}
use Rattle.laws_file.specs.AtFault.{RulesHold}
use Rattle.laws_file.proofs.Accepted.{accepted_exactly, refused_smallest}
use Rattle.laws.proofs.Tests.{le_or_lt}
use Rattle.laws_table.proofs.Inverse.{words_length}
use Rattle.laws_file.proofs.Reader.{accepted_proper, read_formed, read_policy}
use Rattle.file_lookup.specs.Names.{count_of}
use Rattle.file_lookup.proofs.Found.{name_found}
use Rattle.demands.specs.Answered.{Reads, Fills, JudgesEvent, Judges, Reports, ClashNamed, Names}

-- ---- the reader

-- a file's rules hold
file_rules : (t : List ℕ) (fs : List Field) → file_of t ≡ fields fs → RulesHold t
file_rules t fs e = (accepted_exactly t).0 (rw e refl)

pub reader_answers : (t table : List ℕ) → Reads t table (read_answer t table) (read_leaves t table)
unfolding read_answer read_leaves
reader_answers t table = go (ltb (length table) table_words) refl (file_of t) refl
  where
    go : (b : Bool) → ltb (length table) table_words ≡ b → (o : Outcome) → file_of t ≡ o
        → Reads t table (cond b (Unread 1 no_line) (reading_of o)) (cond b table (words_read o ++ drop table_words table))
    go true e o f = inl (record { short = ltb-true _ _ e; told = refl; unchanged = refl })
    go false e (fields fs) f =
        let room : table_words ≤ length table = ltb-false _ _ e in
        let left : read_leaves t table ≡ words_of (policy_of fs) ++ drop table_words table = rw (e, f) refl in
        inr
        (inr
        (record {
          room = room;
          rules = file_rules t fs f;
          told = refl;
          file = fs;
          read = f;
          formed = rw left at (read_formed t table fs f room);
          holds = rw left at (read_policy t table fs f room);
          past = drop_at (words_of (policy_of fs)) (drop table_words table) table_words (words_length (policy_of fs) (accepted_proper t fs f));
        }))
    go false e (fault k m) f = inr (inl (record { room = ltb-false _ _ e; number = k; line = m; rightly = refused_smallest t k m f; told = refl; zeroed = refl }))

-- ---- the filler

pub filler_answers : (t out : List ℕ) → Fills t out (fill_answer t out) (fill_leaves t out)
unfolding fill_answer fill_leaves written_in
filler_answers t out = go (file_of t) refl
  where
    sized : (fs : List Field) → file_of t ≡ fields fs → (a b : Bool) → ltb text_bytes (length (filled_text fs)) ≡ a → ltb (length out) (length (filled_text fs)) ≡ b
        → Fills t out
        (cond a (Unfilled 31 no_line) (cond b (Unfilled 30 no_line) (Written (length (filled_text fs)))))
        (output_left (filled_text fs) out (cond a (Unfilled 31 no_line) (cond b (Unfilled 30 no_line) (Written (length (filled_text fs))))))
    sized fs e true b long short =
        inl
        (record {
          number = 31;
          line = no_line;
          why = inr (record { file = fs; read = e; lineless = refl; why = inl (record { number_31 = refl; long = ltb-true _ _ long }) });
          told = refl;
          untouched = refl;
        })
    sized fs e false true long short =
        inl
        (record {
          number = 30;
          line = no_line;
          why = inr (record { file = fs; read = e; lineless = refl; why = inr (record { number_30 = refl; not_long = ltb-false _ _ long; short = ltb-true _ _ short }) });
          told = refl;
          untouched = refl;
        })
    sized fs e false false long short =
        inr
        (record {
          rules = file_rules t fs e;
          file = fs;
          read = e;
          told = refl;
          short = ltb-false _ _ long;
          fits = ltb-false _ _ short;
          written = refl;
        })

    go : (o : Outcome) → file_of t ≡ o → Fills t out (filling_of (length out) o) (output_left (text_filled o) out (filling_of (length out) o))
    go (fields fs) e = sized fs e (ltb text_bytes (length (filled_text fs))) (ltb (length out) (length (filled_text fs))) refl refl
    go (fault k m) e = inl (record { number = k; line = m; why = inl (refused_smallest t k m e); told = refl; untouched = refl })

-- ---- the judge

module _ (table : List ℕ) (operation target : ℕ) (m allocation : Moment) where
  abbrev frames : ℕ
  frames = length m.stack

  abbrev allocated : ℕ
  allocated = length allocation.stack

  event_answers : (a b c d e : Bool) → leb 1 frames ≡ a → leb frames most_frames ≡ b → ltb most_frames allocated ≡ c → leb 1 operation ≡ d → leb operation 4 ≡ e
      → JudgesEvent table operation target m allocation
      (cond (not (a && b)) (Unjudged 21)
      (cond c (Unjudged 22)
      (cond (not (d && e)) (Unjudged 23)
      (verdict_of (policy_in table) (access_for operation target) m allocation))))
  event_answers false b c d e p q r s z = inl (record { bad = inl (leb-false _ _ p); told = refl })
  event_answers true false c d e p q r s z = inl (record { bad = inr (leb-false _ _ q); told = refl })
  event_answers true true true d e p q r s z =
      inr (inl (record { some_frame = leb-true _ _ p; few_frames = leb-true _ _ q; bad = ltb-true _ _ r; told = refl }))
  event_answers true true false false e p q r s z =
      inr
      (inr
      (inl
      (record { some_frame = leb-true _ _ p; few_frames = leb-true _ _ q; few_allocation_frames = ltb-false _ _ r; bad = inl (leb-false _ _ s); told = refl })))
  event_answers true true false true false p q r s z =
      inr
      (inr
      (inl
      (record { some_frame = leb-true _ _ p; few_frames = leb-true _ _ q; few_allocation_frames = ltb-false _ _ r; bad = inr (leb-false _ _ z); told = refl })))
  event_answers true true false true true p q r s z =
      inr
      (inr
      (inr
      (record {
        judged = record {
          some_frame = leb-true _ _ p;
          few_frames = leb-true _ _ q;
          few_allocation_frames = ltb-false _ _ r;
          some_operation = leb-true _ _ s;
          known_operation = leb-true _ _ z;
        };
        told = refl;
      })))

  pub judge_answers : Judges table operation target m allocation (judge_answer table operation target m allocation)
  unfolding judge_answer judge_event
  judge_answers = go (well_formed table) refl
    where
      go : (w : Bool) → well_formed table ≡ w → Judges table operation target m allocation (cond w (judge_event (policy_in table) operation target m allocation) (Unjudged 20))
      go false f = inl (f, refl)
      go true f = inr (f, event_answers _ _ _ _ _ refl refl refl refl refl)

-- ---- the report

pub report_answers : (table old new : List ℕ) (r : Report) → Reported table old new r → Reports table old new r
unfolding Reported report_refusal
report_answers table old new r h = go (well_formed table) refl (ltb (length old) witness_words) refl h
  where
    go : (f : Bool) → well_formed table ≡ f → (b : Bool) → ltb (length old) witness_words ≡ b → ReportedUnless (cond f (cond b 40 0) 20) (policy_in table) old new r
        → Reports table old new r
    go false f b e k = inl (record { number = 20; why = inl (f, refl); told = k.0; unchanged = k.1 })
    go true f true e k = inl (record { number = 40; why = inr (f, ltb-true _ _ e, refl); told = k.0; unchanged = k.1 })
    go true f false e k = inr (record { formed = f; room = ltb-false _ _ e; says = k })

-- a report that is not refused and not clear names a pair
pub clash_named : (p : Policy) (old new : List ℕ) (r : Report) → Says p old new r → (r ≡ Clear → ⊥) → ClashNamed p old new r
clash_named p old new Clear h n = absurd (n refl)
clash_named p old new (Clash lower higher depth uid gid namespace) h n =
    record { lower = lower; higher = higher; depth = depth; uid = uid; gid = gid; namespace = namespace; told = refl; first = h }
clash_named p old new (Unreported number) h n = absurd h

-- ---- name lookup

pub lookup_answers : (t : List ℕ) (which : Map) (d : ℕ) → Names t which d (lookup_answer t which d)
unfolding lookup_answer name_among
lookup_answers t which d = go (file_of t) refl
  where
    go : (o : Outcome) → file_of t ≡ o → Names t which d (lookup_answer t which d)
    go (fault number line) r = inr (record { none = rw r tt; told = rw r refl })
    go (fields fs) r =
        ⊎_elim
        (λ (h : count_of which fs ≤ d). inr (record { none = rw r h; told = rw (r, le-ltb d (count_of which fs) h) refl }))
        (λ (h : d < count_of which fs).
        inl (record { file = fs; read = r; below = h; told = rw (r, lt-ltb d (count_of which fs) h) refl; stands = name_found t fs r which d h }))
        (le_or_lt (count_of which fs) d)
