-- Every promise of the exported functions fixes the answer: two results that meet it are equal.
use mathlib.Core.Path.{◌≡◌, sym, ap, ◌∙◌}
use mathlib.Core.List.{List}
use Prim.Native.Nat.{ℕ}
use Rattle.paper.specs.Answers.{reading_packed, filling_packed, report_packed}
use Rattle.paper.specs.Promises.{read_answer, read_leaves, fill_answer, fill_leaves}
use Rattle.file_listing.specs.Answer.{list_answer, list_leaves, listing_packed}
use Rattle.overlap.proofs.Agree.{reports_fixed}
use Rattle.export.specs.Told.{ReportedAs}

-- the table test, the judge, the page and name lookup: the promise is an equation
pub one_answer : {A : Type 0} {answer r r' : A} → r ≡ answer → r' ≡ answer → r ≡ r'
one_answer e e' = e ∙ sym e'

-- the reader: the answer and every word of the table
pub one_reading : (text table left left' : List ℕ) (r r' : ℕ)
    → (r ≡ reading_packed (read_answer text table)) × (left ≡ read_leaves text table) → (r' ≡ reading_packed (read_answer text table)) × (left' ≡ read_leaves text table) → (r ≡ r') × (left ≡ left')
one_reading text table left left' r r' a b = (one_answer a.0 b.0, one_answer a.1 b.1)

-- the filler: the answer and every byte of the output
pub one_filling : (text out left left' : List ℕ) (r r' : ℕ)
    → (r ≡ filling_packed (fill_answer text out)) × (left ≡ fill_leaves text out) → (r' ≡ filling_packed (fill_answer text out)) × (left' ≡ fill_leaves text out)
    → (r ≡ r') × (left ≡ left')
one_filling text out left left' r r' a b = (one_answer a.0 b.0, one_answer a.1 b.1)

-- the list of names: the answer and every word of the list
pub one_listing : (text list left left' : List ℕ) (r r' : ℕ)
    → (r ≡ listing_packed (list_answer text)) × (left ≡ list_leaves text list) → (r' ≡ listing_packed (list_answer text)) × (left' ≡ list_leaves text list)
    → (r ≡ r') × (left ≡ left')
one_listing text list left left' r r' a b = (one_answer a.0 b.0, one_answer a.1 b.1)

-- the report: the answer and every word of the witness
pub one_report : (table old new new' : List ℕ) (r r' : ℕ) → ReportedAs table old new r → ReportedAs table old new' r' → (r ≡ r') × (new ≡ new')
one_report table old new new' r r' a b =
    let same = reports_fixed table old new new' a.report b.report a.reported b.reported in
    (a.packs ∙ ap report_packed same.0 ∙ sym b.packs, same.1)
