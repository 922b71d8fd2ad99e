-- What the walk found of a text, as the reader's answer and as the table's words.
use mathlib.Core.Path.{◌≡◌, refl, sym, ap, ◌∙◌}
use mathlib.Core.List.{List, ◌++◌}
use Prim.Native.Nat.{ℕ, ◌≤◌}
use native.Mathlib.Omega.{arith}
use mir.Syntax.{w32}
use mir.Val.{Fits}
use lib.ListN.{length, take, drop, replicate, length-take}
use Rattle.paper.specs.declared.Reading.{Reading}
use Rattle.paper.specs.declared.Reading.TheVariants.{Accepted, Unread}
use Rattle.paper.specs.Limits.{text_bytes, table_words}
use Rattle.paper.specs.Page.{Field, Outcome, fields, fault}
use Rattle.paper.specs.Rules.{ruled}
use Rattle.paper.specs.Promises.{text_page, file_of, reading_of, words_read}
use Rattle.laws_file.proofs.Kept.{no_line_lem}
use Rattle.std.specs.Prelude.{Result, Ok, Err}
use Rattle.paper.specs.declared.Fault.{Fault}
use Rattle.file_fields.specs.Fields.{between}
use Rattle.file_fields.specs.Listed.{most_fields, found_in, Holds}
use Rattle.file_fields.specs.declared.file.FieldAt.{FieldAt}
use Rattle.file_names.specs.Naming.{Sound}
use Rattle.file_read.specs.Readable.{Readable}
use Rattle.file_read.specs.Lent.{Left}
use Rattle.file_read.proofs.Pages.{text_readable, text_short, text_fault_fits}
use Rattle.file_read.proofs.Asked.{sound}
use Rattle.file_read.proofs.Ruling.{text_refused, text_zero, text_read, text_words}

module _ (t : List ℕ) (list : List FieldAt) (r : Result ℕ Fault) (e : found_in t list r ≡ text_page t) where
  module _ (f : Fault) (q : r ≡ Err f) where
    refusal : fault f.number f.line ≡ text_page t
    refusal = rw q at e

    pub file_refused : file_of t ≡ fault f.number f.line
    unfolding file_of
    file_refused = rw (← refusal) refl

    pub refusal_fits : Fits w32 f.line
    refusal_fits = text_fault_fits t f.number f.line refusal

    pub refusal_answers : Unread f.number f.line ≡ reading_of (file_of t)
    refusal_answers = text_refused t f.number f.line refusal

    pub refusal_leaves : (table : List ℕ) → take table_words table ≡ replicate table_words 0 → table ≡ words_read (file_of t) ++ drop table_words table
    refusal_leaves table z = text_zero t f.number f.line table refusal z

  module _ (n : ℕ) (q : r ≡ Ok n) where
    listed : fields (between t (take n list) 0 (length (take n list))) ≡ text_page t
    listed = rw q at e

    pub file_held : file_of t ≡ ruled (between t (take n list) 0 (length (take n list)))
    unfolding file_of
    file_held = rw (← listed) refl

    fields_held : Holds t list r → Holds t list (Ok n)
    fields_held h = rw q at h

    pub fields_there : Holds t list r → n ≤ length list
    fields_there h = (fields_held h).0

    pub fields_few : Holds t list r → length list ≡ most_fields → length (take n list) ≤ most_fields
    fields_few h e = omega (arith, (fields_held h).0, length-take n list)

    fields_short : length t ≤ text_bytes
    fields_short = text_short t (between t (take n list) 0 (length (take n list))) listed

    pub fields_readable : Readable (between t (take n list) 0 (length (take n list)))
    fields_readable = text_readable t (between t (take n list) 0 (length (take n list))) listed

    pub fields_sound : Holds t list r → Sound t (take n list) (length (take n list))
    fields_sound h = sound t (take n list) (length (take n list)) (fields_held h).1 fields_short fields_readable

    pub fields_answer : (s : Reading) → s ≡ reading_of (ruled (between t (take n list) 0 (length (take n list)))) → s ≡ reading_of (file_of t)
    fields_answer s f = text_read t (between t (take n list) 0 (length (take n list))) s listed f

    pub fields_leave : (table after : List ℕ) → table_words ≤ length table → Left (ruled (between t (take n list) 0 (length (take n list)))) table after
        → after ≡ words_read (file_of t) ++ drop table_words table
    fields_leave table after h f = text_words t (between t (take n list) 0 (length (take n list))) table after listed h f

-- ---- fields held to the rules

module _ (fs : List Field) (r : Reading) (e : r ≡ reading_of (ruled fs)) where
  pub rules_fault : (k m : ℕ) → r ≡ Unread k m → ruled fs ≡ fault k m
  rules_fault k m q = go (ruled fs) (sym q ∙ e)
    where
      go : (o : Outcome) → Unread k m ≡ reading_of o → o ≡ fault k m
      go (fields gs) h = absurd (let z : ◌≡◌ {A = ℕ} 0 1 = cc in omega arith)
      go (fault l n) h = cc

  pub rules_hold : r ≡ Accepted → ruled fs ≡ fields fs
  rules_hold q = go (ruled fs) refl (sym q ∙ e)
    where
      go : (o : Outcome) → ruled fs ≡ o → Accepted ≡ reading_of o → ruled fs ≡ fields fs
      go (fields gs) h a = h ∙ ap fields (sym (no_line_lem fs gs h).1)
      go (fault l n) h a = absurd (let z : ◌≡◌ {A = ℕ} 0 1 = cc in omega arith)
