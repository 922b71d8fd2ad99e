-- A file is accepted exactly when document 01's rules hold; else it is refused with the first number in the reader's order, and the smallest line at fault of it.
use mathlib.Core.Path.{◌≡◌, refl, sym, ap, ◌∙◌}
use mathlib.Core.List.{List, [], ◌∷◌}
use mathlib.Core.Bool.{Bool, true, false, cond}
use mathlib.Core.Logic.{⊎_elim}
use Prim.Native.Nat.{ℕ, zero, suc, ◌+◌, ◌<◌, ◌≤◌}
use native.Mathlib.Omega.{arith}
use lib.Dec.{ltb}
use lib.ListN.{length, get_or}
use borrow.Author.Tests.{ltb-true, ltb-false}
use Rattle.paper.specs.Limits.{text_bytes}
use Rattle.paper.specs.Text.{no_line, bad_byte_line}
use Rattle.paper.specs.Page.{Field, Outcome, fields, fault, page_of}
use Rattle.paper.specs.Rules.{over_limit, named_twice, unknown_name, unbound_variable, twin_principal, unless_line, ruled}
use Rattle.paper.specs.Promises.{text_page, held_to_rules, file_of, reading_of}
use Rattle.paper.specs.declared.Reading.TheVariants.{Accepted}
use Rattle.laws.proofs.Tests.{le_or_lt, same_or_not}
use Rattle.laws_page.specs.First.{Smallest}
use Rattle.laws_page.specs.Right.{Ascending}
use Rattle.laws_page.proofs.Theorems.{smallest}
use Rattle.laws_page.proofs.Answered.{answers, page_number}
use Rattle.laws_file.specs.Rules.{OverLimit, NamedTwice, UnknownName, UnboundVariable, TwinPrincipal}
use Rattle.laws_file.specs.AtFault.{InFile, Refusal, text_too_long, bad_byte, layout, empty_field, malformed_scalar, count_over_limit, name_twice, name_unknown, variable_unbound, principal_twin}
use Rattle.laws_file.specs.AtFault.{number_of, turn_of, AtFault, RulesHold, RefusedRightly}
use Rattle.laws_file.proofs.Smallest.{Finds, same_faults}
use Rattle.laws_file.proofs.BadBytes.{bad_finds, bytes_good, good_bytes}
use Rattle.laws_file.proofs.EachRule.{page_ascends, page_right}
use Rattle.laws_file.proofs.Counts as counts
use Rattle.laws_file.proofs.Repeats as repeats
use Rattle.laws_file.proofs.Unknown as unknown
use Rattle.laws_file.proofs.InEntries as entries

-- fields are no refusal
not_fields : (fs : List Field) (k m : ℕ) → fields fs ≡ fault k m → ⊥
not_fields fs k m e = let z : ◌≡◌ {A = ℕ} 0 1 = cc in omega arith

-- ---- the turns

turns : (r : Refusal) → (2 ≤ turn_of r) × (turn_of r ≤ 9)
turns text_too_long = (omega arith, omega arith)
turns bad_byte = (omega arith, omega arith)
turns layout = (omega arith, omega arith)
turns empty_field = (omega arith, omega arith)
turns malformed_scalar = (omega arith, omega arith)
turns count_over_limit = (omega arith, omega arith)
turns name_twice = (omega arith, omega arith)
turns name_unknown = (omega arith, omega arith)
turns variable_unbound = (omega arith, omega arith)
turns principal_twin = (omega arith, omega arith)

-- the refusal of each turn, but that three share the fourth
abbrev in_turn : List Refusal
in_turn = text_too_long ∷ text_too_long ∷ text_too_long ∷ bad_byte ∷ layout ∷ count_over_limit ∷ name_twice ∷ name_unknown ∷ variable_unbound ∷ principal_twin ∷ []

its_turn : (r : Refusal) → (turn_of r ≡ 4 → ⊥) → get_or in_turn (turn_of r) text_too_long ≡ r
its_turn text_too_long h = refl
its_turn bad_byte h = refl
its_turn layout h = absurd (h refl)
its_turn empty_field h = absurd (h refl)
its_turn malformed_scalar h = absurd (h refl)
its_turn count_over_limit h = refl
its_turn name_twice h = refl
its_turn name_unknown h = refl
its_turn variable_unbound h = refl
its_turn principal_twin h = refl

-- so a turn that is not the fourth is that of one refusal
alone : (r s : Refusal) → (turn_of r ≡ 4 → ⊥) → turn_of s ≡ turn_of r → s ≡ r
alone r s h e =
    sym (its_turn s (λ q. h (sym e ∙ q))) ∙ ap (λ (n : ℕ). get_or in_turn n text_too_long) e ∙ its_turn r h

module _ (t : List ℕ) where
  -- no line is at fault of a number whose turn comes before
  abbrev Clear : ℕ → Type 0
  Clear turn = (r : Refusal) (m : ℕ) → turn_of r < turn → AtFault t r m → ⊥

  -- an outcome that is right: fields where none is at fault at all
  abbrev Rightly : Outcome → Type 0
  Rightly (fields fs) = Clear 10 × (page_of t ≡ fields fs)
  Rightly (fault k m) = RefusedRightly t k m

  -- ---- a number with a turn of its own

  module _ (r : Refusal) (own : (turn_of r ≡ 4 → ⊥)) (clear : Clear (turn_of r)) where
    clear_more : ((m : ℕ) → AtFault t r m → ⊥) → Clear (turn_of r + 1)
    clear_more none s m h a =
        ⊎_elim
        (λ (p : turn_of r ≤ turn_of s). let e : s ≡ r = alone r s own (omega arith) in none m (rw e at a))
        (λ (p : turn_of s < turn_of r). clear s m p a)
        (le_or_lt (turn_of r) (turn_of s))

    refused : (m : ℕ) → AtFault t r m → ((l : ℕ) → AtFault t r l → m ≤ l) → RefusedRightly t (number_of r) m
    refused m a least = record {
      refusal = r;
      number = refl;
      at_fault = a;
      smallest = λ s l e b. let q : s ≡ r = alone r s own e in least l (rw q at b);
      sooner = clear;
    }

    unless : (answer : ℕ) (o : Outcome) → Finds (AtFault t r) answer → (Clear (turn_of r + 1) → Rightly o) → Rightly (unless_line (number_of r) answer o)
    unfolding unless_line
    unless zero o f h = h (clear_more (λ m a. omega (arith, (f.first m a).0)))
    unless (suc n) o f h = refused (suc n) (f.found (omega arith)) (λ l a. (f.first l a).1)

  -- ---- 4, 9 and 5: the page

  -- each is the first line of the page at fault
  of_page : (r : Refusal) (m : ℕ) → turn_of r ≡ 4 → AtFault t r m → page_of t ≡ fault (number_of r) m
  of_page text_too_long m e a = absurd (omega arith)
  of_page bad_byte m e a = absurd (omega arith)
  of_page layout m e a = answers t 4 m a
  of_page empty_field m e a = answers t 9 m a
  of_page malformed_scalar m e a = answers t 5 m a
  of_page count_over_limit m e a = absurd (omega arith)
  of_page name_twice m e a = absurd (omega arith)
  of_page name_unknown m e a = absurd (omega arith)
  of_page variable_unbound m e a = absurd (omega arith)
  of_page principal_twin m e a = absurd (omega arith)

  module _ (clear : Clear 4) where
    clear_page : (fs : List Field) → page_of t ≡ fields fs → Clear 5
    clear_page fs e r m h a =
        ⊎_elim
        (λ (p : 4 ≤ turn_of r). not_fields fs (number_of r) m (sym e ∙ of_page r m (omega arith) a))
        (λ (p : turn_of r < 4). clear r m p a)
        (le_or_lt 4 (turn_of r))

    of_number : (r : Refusal) (k m : ℕ) → turn_of r ≡ 4 → number_of r ≡ k → AtFault t r m → page_of t ≡ fault k m → RefusedRightly t k m
    of_number r k m e n a p = record {
      refusal = r;
      number = n;
      at_fault = a;
      smallest = λ s l q b.
          let z : fault k m ≡ fault (number_of s) l = sym p ∙ of_page s l (q ∙ e) b in
          let v : m ≡ l = cc in
          omega arith;
      sooner = λ s l q b. clear s l (omega arith) b;
    }

    refused_page : (k m : ℕ) → page_of t ≡ fault k m → RefusedRightly t k m
    refused_page k m p =
        let s : Smallest t k m = smallest t k m p in
        ⊎_elim
        (λ (e : k ≡ 4). of_number layout k m refl (sym e) (rw e at s) p)
        (⊎_elim
        (λ (e : k ≡ 9). of_number empty_field k m refl (sym e) (rw e at s) p)
        (λ (e : k ≡ 5). of_number malformed_scalar k m refl (sym e) (rw e at s) p))
        (page_number t k m s)

  -- ---- 6, 7, 8, 10 and 11: the file

  module _ (fs : List Field) (page : page_of t ≡ fields fs) where
    ascending : Ascending (λ f. f.line) 1 fs
    ascending = page_ascends t fs page

    in_file : (Rule : List Field → ℕ → Type 0) (answer : ℕ) → Finds (Rule fs) answer → Finds (InFile t Rule) answer
    in_file Rule answer f =
        same_faults answer
        (λ m b. record { fs = fs; page = page; broken = b })
        (λ m i. let e : fields i.fs ≡ fields fs = sym i.page ∙ page in let q : i.fs ≡ fs = cc in rw q at i.broken)
        f

    held : Clear 5 → Rightly (ruled fs)
    unfolding ruled
    held clear =
        unless count_over_limit (λ e. omega arith) clear (over_limit fs) _ (in_file OverLimit _ (counts.over_limit_lem fs ascending))
        (λ six.
        unless name_twice (λ e. omega arith) six (named_twice fs) _ (in_file NamedTwice _ (repeats.named_twice_lem fs ascending))
        (λ seven.
        unless name_unknown (λ e. omega arith) seven (unknown_name fs) _ (in_file UnknownName _ (unknown.unknown_name_lem fs ascending))
        (λ eight.
        unless variable_unbound (λ e. omega arith) eight (unbound_variable fs) _ (in_file UnboundVariable _ (entries.unbound_variable_lem fs ascending))
        (λ ten. unless principal_twin (λ e. omega arith) ten (twin_principal fs) (fields fs)
        (in_file TwinPrincipal _ (entries.twin_principal_lem fs ascending (page_right t fs page))) (λ eleven. (eleven, page))))))

  -- ---- the whole

  page_rightly : Clear 4 → Rightly (held_to_rules (page_of t))
  page_rightly clear = go (page_of t) refl
    where
      go : (o : Outcome) → page_of t ≡ o → Rightly (held_to_rules o)
      go (fields fs) e = held fs e (clear_page clear fs e)
      go (fault k m) e = refused_page clear k m e

  held_unless : (k answer : ℕ) (o : Outcome) → held_to_rules (unless_line k answer o) ≡ unless_line k answer (held_to_rules o)
  unfolding unless_line
  held_unless k zero o = refl
  held_unless k (suc n) o = refl

  none_before : Clear 2
  none_before r m h a = omega (arith, (turns r).0)

  rightly : Rightly (file_of t)
  unfolding file_of text_page
  rightly = go (ltb text_bytes (length t)) refl
    where
      go : (x : Bool) → ltb text_bytes (length t) ≡ x → Rightly (held_to_rules (cond x (fault 2 no_line) (unless_line 3 (bad_byte_line 1 t) (page_of t))))
      go true e = refused text_too_long (λ q. omega arith) none_before no_line (refl, ltb-true text_bytes (length t) e) (λ l a. omega arith)
      go false e =
          rw held_unless
          (unless bad_byte (λ q. omega arith)
          (clear_more text_too_long (λ q. omega arith) none_before (λ m a. omega (arith, a.1, ltb-false text_bytes (length t) e)))
          (bad_byte_line 1 t) (held_to_rules (page_of t)) (bad_finds 1 t (omega arith)) page_rightly)

  -- ---- no line at fault, and the rules by name

  rules_hold : (fs : List Field) → Clear 10 → page_of t ≡ fields fs → RulesHold t
  rules_hold fs clear page = record {
    short = ⊎_elim (λ (p : length t ≤ text_bytes). p) (λ (p : text_bytes < length t). absurd (none text_too_long no_line (refl, p))) (le_or_lt (length t) text_bytes);
    bytes_stand = good_bytes t (none bad_byte);
    laid_out = none layout;
    none_empty = none empty_field;
    scalars_right = none malformed_scalar;
    fs = fs;
    page = page;
    within_limits = λ m b. none count_over_limit m (record { fs = fs; page = page; broken = b });
    named_once = λ m b. none name_twice m (record { fs = fs; page = page; broken = b });
    names_known = λ m b. none name_unknown m (record { fs = fs; page = page; broken = b });
    variables_bound = λ m b. none variable_unbound m (record { fs = fs; page = page; broken = b });
    no_twins = λ m b. none principal_twin m (record { fs = fs; page = page; broken = b });
  }
    where
      none : (r : Refusal) (m : ℕ) → AtFault t r m → ⊥
      none r m a = clear r m (omega (arith, (turns r).1)) a

  module _ (h : RulesHold t) where
    not_broken : (Rule : List Field → ℕ → Type 0) → ((m : ℕ) → Rule h.fs m → ⊥) → (m : ℕ) → InFile t Rule m → ⊥
    not_broken Rule none m i =
        let e : fields i.fs ≡ fields h.fs = sym i.page ∙ h.page in
        let q : i.fs ≡ h.fs = cc in
        none m (rw q at i.broken)

    none_at_fault : (r : Refusal) (m : ℕ) → AtFault t r m → ⊥
    none_at_fault text_too_long m a = omega (arith, a.1, h.short)
    none_at_fault bad_byte m a = bytes_good t h.bytes_stand m a
    none_at_fault layout m a = h.laid_out m a
    none_at_fault empty_field m a = h.none_empty m a
    none_at_fault malformed_scalar m a = h.scalars_right m a
    none_at_fault count_over_limit m a = not_broken OverLimit h.within_limits m a
    none_at_fault name_twice m a = not_broken NamedTwice h.named_once m a
    none_at_fault name_unknown m a = not_broken UnknownName h.names_known m a
    none_at_fault variable_unbound m a = not_broken UnboundVariable h.variables_bound m a
    none_at_fault principal_twin m a = not_broken TwinPrincipal h.no_twins m a

-- ---- the theorems

-- "A file is accepted exactly when document 01's rules hold"
pub accepted_exactly : (t : List ℕ) → (reading_of (file_of t) ≡ Accepted → RulesHold t) × (RulesHold t → reading_of (file_of t) ≡ Accepted)
accepted_exactly t = (λ e. only (file_of t) (rightly t) e, λ h. all (file_of t) (rightly t) h)
  where
    only : (o : Outcome) → Rightly t o → reading_of o ≡ Accepted → RulesHold t
    only (fields fs) r e = rules_hold t fs r.0 r.1
    only (fault k m) r e = absurd (let z : ◌≡◌ {A = ℕ} 0 1 = cc in omega arith)

    all : (o : Outcome) → Rightly t o → RulesHold t → reading_of o ≡ Accepted
    all (fields fs) r h = refl
    all (fault k m) r h = absurd (none_at_fault t h r.refusal m r.at_fault)

-- "The line returned is the smallest at fault", and no number that comes sooner in the reader's order has one
pub refused_smallest : (t : List ℕ) (k m : ℕ) → file_of t ≡ fault k m → RefusedRightly t k m
refused_smallest t k m e = rw e at (rightly t)

-- one line is at fault of one number of a turn
one_number : (t : List ℕ) (r s : Refusal) (m : ℕ) → turn_of r ≡ turn_of s → AtFault t r m → AtFault t s m → number_of r ≡ number_of s
one_number t r s m e a b =
    ⊎_elim
    (λ (q : turn_of s ≡ 4).
    let z : fault (number_of r) m ≡ fault (number_of s) m = sym (of_page t r m (e ∙ q) a) ∙ of_page t s m q b in
    cc)
    (λ (q : turn_of s ≡ 4 → ⊥). ap number_of (alone s r q e))
    (same_or_not (turn_of s) 4)

-- so a refusal that is right is the one that is given
pub refused_exactly : (t : List ℕ) (k m : ℕ) → RefusedRightly t k m → file_of t ≡ fault k m
refused_exactly t k m h = go (file_of t) (rightly t)
  where
    go : (o : Outcome) → Rightly t o → o ≡ fault k m
    go (fields fs) r = absurd (r.0 h.refusal m (omega (arith, (turns h.refusal).1)) h.at_fault)
    go (fault j l) r =
        let up : turn_of h.refusal ≤ turn_of r.refusal =
        ⊎_elim (λ p. p) (λ p. absurd (h.sooner r.refusal l p r.at_fault)) (le_or_lt (turn_of h.refusal) (turn_of r.refusal)) in
        let down : turn_of r.refusal ≤ turn_of h.refusal =
        ⊎_elim (λ p. p) (λ p. absurd (r.sooner h.refusal m p h.at_fault)) (le_or_lt (turn_of r.refusal) (turn_of h.refusal)) in
        let turn : turn_of r.refusal ≡ turn_of h.refusal = omega arith in
        let under : m ≤ l = h.smallest r.refusal l turn r.at_fault in
        let over : l ≤ m = r.smallest h.refusal m (sym turn) h.at_fault in
        let line : l ≡ m = omega arith in
        let number : j ≡ k = sym r.number ∙ one_number t r.refusal h.refusal m turn (rw line at r.at_fault) h.at_fault ∙ h.number in
        cc

-- a text has fields exactly when no line is at fault of 4, of 9 or of 5
pub page_exactly : (t : List ℕ)
    → ((fs : List Field) → page_of t ≡ fields fs → (k m : ℕ) → Smallest t k m → ⊥)
    × (((m : ℕ) → Smallest t 4 m → ⊥) → ((m : ℕ) → Smallest t 9 m → ⊥) → ((m : ℕ) → Smallest t 5 m → ⊥) → (fs : List Field) × (page_of t ≡ fields fs))
page_exactly t = (λ fs p k m s. not_fields fs k m (sym p ∙ answers t k m s), all (page_of t) refl)
  where
    all : (o : Outcome) → page_of t ≡ o → ((m : ℕ) → Smallest t 4 m → ⊥) → ((m : ℕ) → Smallest t 9 m → ⊥) → ((m : ℕ) → Smallest t 5 m → ⊥) → (fs : List Field) × (page_of t ≡ fields fs)
    all (fields fs) e four nine five = (fs, e)
    all (fault k m) e four nine five =
        let s : Smallest t k m = smallest t k m e in
        absurd (⊎_elim (λ (q : k ≡ 4). four m (rw q at s)) (⊎_elim (λ (q : k ≡ 9). nine m (rw q at s)) (λ (q : k ≡ 5). five m (rw q at s))) (page_number t k m s))
