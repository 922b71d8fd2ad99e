-- What the reader leaves of an accepted text is well formed and holds the file's policy: the judge and the report say of it what they say of the file.
use mathlib.Core.Path.{◌≡◌, refl, ap, ◌∙◌}
use mathlib.Core.Bool.{Bool, true, false, cond}
use mathlib.Core.Logic.{◌↔◌}
use mathlib.Core.List.{List, ◌++◌}
use Prim.Native.Nat.{ℕ, ◌<◌, ◌≤◌}
use native.Mathlib.Omega.{arith}
use lib.Dec.{ltb}
use lib.ListN.{length, drop}
use borrow.Author.Tests.{le-ltb, ltb-false}
use Rattle.paper.specs.declared.Reading.TheVariants.{Accepted, Unread}
use Rattle.paper.specs.declared.Report.{Report}
use Rattle.paper.specs.declared.Report.TheVariants.{Clear, Clash, Unreported}
use Rattle.paper.specs.Limits.{text_bytes, table_words, witness_words}
use Rattle.paper.specs.Text.{bad_byte_line}
use Rattle.paper.specs.Page.{Field, Outcome, fields, fault, page_of}
use Rattle.paper.specs.Rules.{unless_line, ruled}
use Rattle.paper.specs.Policy.{Policy, policy_of}
use Rattle.paper.specs.Table.{words_of, policy_in, well_formed}
use Rattle.paper.specs.Match.{Moment}
use Rattle.paper.specs.Overlap.{NeverBoth, Says}
use Rattle.paper.specs.Promises.{text_page, held_to_rules, file_of, reading_of, read_answer, read_leaves, judge_event, judge_answer, report_refusal, ReportedUnless, Reported}
use Rattle.laws_table.specs.Proper.{proper}
use Rattle.laws_table.proofs.Inverse.{policy_of_words, words_well_formed}
use Rattle.laws_file.proofs.Kept.{unless_none, no_line_lem}
use Rattle.laws_file.proofs.Proper.{file_proper}

-- ---- an accepted text: its page, held to the rules

page_of_lem : (t : List ℕ) (fs : List Field) → text_page t ≡ fields fs → page_of t ≡ fields fs
unfolding text_page
page_of_lem t fs h = go (ltb text_bytes (length t)) h
  where
    go : (b : Bool) → cond b (fault 2 0) (unless_line 3 (bad_byte_line 1 t) (page_of t)) ≡ fields fs → page_of t ≡ fields fs
    go true k = absurd (let z : ◌≡◌ {A = ℕ} 0 1 = cc in omega arith)
    go false k = (unless_none 3 (bad_byte_line 1 t) (page_of t) fs k).1

pub accepted_page : (t : List ℕ) (fs : List Field) → file_of t ≡ fields fs → (page_of t ≡ fields fs) × (ruled fs ≡ fields fs)
unfolding file_of
accepted_page t fs h = go (text_page t) refl h
  where
    go : (o : Outcome) → text_page t ≡ o → held_to_rules o ≡ fields fs → (page_of t ≡ fields fs) × (ruled fs ≡ fields fs)
    go (fields gs) e k =
        let s : gs ≡ fs = (no_line_lem gs fs k).1 in
        (page_of_lem t fs (e ∙ ap fields s), rw s at k)
    go (fault number line) e k = absurd (let z : ◌≡◌ {A = ℕ} 0 1 = cc in omega arith)

-- its policy is proper
pub accepted_proper : (t : List ℕ) (fs : List Field) → file_of t ≡ fields fs → proper (policy_of fs) ≡ true
accepted_proper t fs h = let a = accepted_page t fs h in file_proper t fs a.0 a.1

-- what the reader accepts is a file, with room for its table
pub record AcceptedFile (t table : List ℕ) : Type 0 where
  pub file : List Field
  pub read : file_of t ≡ fields file
  pub room : table_words ≤ length table

pub accepted_file : (t table : List ℕ) → read_answer t table ≡ Accepted → AcceptedFile t table
unfolding read_answer
accepted_file t table h = go (ltb (length table) table_words) refl (file_of t) refl h
  where
    go : (b : Bool) → ltb (length table) table_words ≡ b → (o : Outcome) → file_of t ≡ o → cond b (Unread 1 0) (reading_of o) ≡ Accepted → AcceptedFile t table
    go true e o f k = absurd (let z : ◌≡◌ {A = ℕ} 0 1 = cc in omega arith)
    go false e (fields fs) f k = record { file = fs; read = f; room = ltb-false _ _ e }
    go false e (fault number line) f k = absurd (let z : ◌≡◌ {A = ℕ} 0 1 = cc in omega arith)

-- ---- what the report says: clear exactly when no moment is matched by two different entries

clear_exactly : (p : Policy) (old new : List ℕ) (r : Report) → Says p old new r → (r ≡ Clear) ↔ ((i j : ℕ) → i < j → j < length p.entries → NeverBoth p i j)
clear_exactly p old new Clear h = (λ e. h.1, λ k. refl)
clear_exactly p old new (Clash lower higher depth uid gid namespace) h =
    (λ e. absurd (let z : ◌≡◌ {A = ℕ} 0 1 = cc in omega arith), λ never. absurd (never lower higher h.ordered h.listed _ h.both))
clear_exactly p old new (Unreported number) h = absurd h

-- ---- what the reader leaves

module _ (t table : List ℕ) (fs : List Field) (read : file_of t ≡ fields fs) (room : table_words ≤ length table) where
  leaves : read_leaves t table ≡ words_of (policy_of fs) ++ drop table_words table
  unfolding read_leaves
  leaves = rw (le-ltb _ _ room, read)

  -- it is well formed
  pub read_formed : well_formed (read_leaves t table) ≡ true
  read_formed = rw leaves (words_well_formed (policy_of fs) (accepted_proper t fs read) (drop table_words table))

  -- and holds the file's policy
  pub read_policy : policy_in (read_leaves t table) ≡ policy_of fs
  read_policy = rw leaves (policy_of_words (policy_of fs) (accepted_proper t fs read) (drop table_words table))

  -- the verdict on it is the file's
  pub read_judged : (operation target : ℕ) (m allocation : Moment) → judge_answer (read_leaves t table) operation target m allocation ≡ judge_event (policy_of fs) operation target m allocation
  unfolding judge_answer
  read_judged operation target m allocation = rw (read_formed, read_policy)

  -- and so is the report, refused only for want of witness room
  pub read_reported : (old new : List ℕ) (r : Report) → Reported (read_leaves t table) old new r ≡ ReportedUnless (cond (ltb (length old) witness_words) 40 0) (policy_of fs) old new r
  unfolding Reported report_refusal
  read_reported old new r = rw (read_formed, read_policy)

  -- demand 3 of the file: where there is witness room, what the report says of it holds of the file's policy
  module _ (old new : List ℕ) (r : Report) (enough : witness_words ≤ length old) (reported : Reported (read_leaves t table) old new r) where
    pub read_says : Says (policy_of fs) old new r
    read_says = rw (read_reported old new r, le-ltb (length old) witness_words enough) at reported

    -- it is clear exactly when no moment is matched by two different entries
    pub read_clear : (r ≡ Clear) ↔ ((i j : ℕ) → i < j → j < length (policy_of fs).entries → NeverBoth (policy_of fs) i j)
    read_clear = clear_exactly (policy_of fs) old new r read_says

-- what the reader leaves of an accepted text is well formed
pub read_well_formed : (t table : List ℕ) → read_answer t table ≡ Accepted → well_formed (read_leaves t table) ≡ true
read_well_formed t table h = let a = accepted_file t table h in read_formed t table a.file a.read a.room
