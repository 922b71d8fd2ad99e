-- Rule by rule: the first that names a line refuses the file, and leaves zeros; where none does the words are written.
use mathlib.Core.Path.{◌≡◌, refl, sym, ap, ◌∙◌}
use mathlib.Core.List.{List, ◌++◌}
use Prim.Native.Nat.{ℕ, zero, suc, ◌<◌, ◌≤◌}
use native.Mathlib.Omega.{arith}
use lib.ListN.{length, take, drop, replicate, length-append, length-replicate, take-append-drop}
use lib.Seq.{length-take-le, take_at, drop_at}
use borrow.Author.Tests.{lt-ltb, le-ltb}
use Rattle.paper.specs.declared.Reading.{Reading}
use Rattle.paper.specs.declared.Reading.TheVariants.{Accepted, Unread}
use Rattle.paper.specs.Limits.{table_words}
use Rattle.paper.specs.Page.{Field, Outcome, fields, fault}
use Rattle.paper.specs.Policy.{policy_of}
use Rattle.paper.specs.Table.{words_of}
use Rattle.paper.specs.Rules.{unless_line, over_limit, named_twice, unknown_name, unbound_variable, twin_principal, ruled}
use Rattle.paper.specs.Promises.{text_page, file_of, reading_of, read_answer, words_read, read_leaves}
use Rattle.file_read.specs.Ruled.{known_ruled, names_ruled}
use Rattle.file_read.specs.Lent.{Cleared, Left}

unless_fault : (k line : ℕ) (o : Outcome) → (line ≡ 0 → ⊥) → unless_line k line o ≡ fault k line
unfolding unless_line
unless_fault k zero o n = absurd (n refl)
unless_fault k (suc line) o n = refl

unless_passed : (k line : ℕ) (o : Outcome) → line ≡ 0 → unless_line k line o ≡ o
unfolding unless_line
unless_passed k zero o e = refl
unless_passed k (suc line) o e = absurd (let z : suc line ≡ 0 = e in omega arith)

-- what is left in the table where the front of it is zero
zero_front : (n : ℕ) (table : List ℕ) → take n table ≡ replicate n 0 → table ≡ replicate n 0 ++ drop n table
zero_front n table z = sym (take-append-drop n table) ∙ rw z refl

-- an outcome that is a refusal
module _ (o : Outcome) (k line : ℕ) (e : o ≡ fault k line) where
  answers : (r : Reading) → r ≡ Unread k line → r ≡ reading_of o
  answers r q = q ∙ rw e refl

  leaves : (table : List ℕ) → Cleared table → Left o table table
  leaves table z = record { words = λ h. rw e (zero_front table_words table (z.clear h)) }

-- an outcome that is another one's
module _ (o p : Outcome) (e : o ≡ p) where
  answers_on : (r : Reading) → r ≡ reading_of p → r ≡ reading_of o
  answers_on r q = q ∙ sym (ap reading_of e)

  leaves_on : (table after : List ℕ) → Left p table after → Left o table after
  leaves_on table after q = record { words = λ h. q.words h ∙ rw e refl }

-- ---- 6, then 7

module _ (fs : List Field) (over : ℕ) (e : over ≡ over_limit fs) where
  module _ (n : over ≡ 0 → ⊥) where
    refused_over : ruled fs ≡ fault 6 over
    unfolding ruled
    refused_over = rw (← e) (unless_fault 6 over _ n)

    pub over_answers : (r : Reading) → r ≡ Unread 6 over → r ≡ reading_of (ruled fs)
    over_answers r q = answers (ruled fs) 6 over refused_over r q

    pub over_leaves : (table : List ℕ) → Cleared table → Left (ruled fs) table table
    over_leaves table z = leaves (ruled fs) 6 over refused_over table z

  module _ (none : over ≡ 0) (twice : ℕ) (f : twice ≡ named_twice fs) where
    module _ (n : twice ≡ 0 → ⊥) where
      refused_twice : ruled fs ≡ fault 7 twice
      unfolding ruled
      refused_twice = rw (← e, ← f, unless_passed 6 over _ none) (unless_fault 7 twice _ n)

      pub twice_answers : (r : Reading) → r ≡ Unread 7 twice → r ≡ reading_of (ruled fs)
      twice_answers r q = answers (ruled fs) 7 twice refused_twice r q

      pub twice_leaves : (table : List ℕ) → Cleared table → Left (ruled fs) table table
      twice_leaves table z = leaves (ruled fs) 7 twice refused_twice table z

    module _ (once : twice ≡ 0) where
      names_left : ruled fs ≡ names_ruled fs
      unfolding ruled names_ruled known_ruled
      names_left = rw (← e, ← f, unless_passed 6 over _ none, unless_passed 7 twice _ once) refl

      pub named_answers : (r : Reading) → r ≡ reading_of (names_ruled fs) → r ≡ reading_of (ruled fs)
      named_answers = answers_on (ruled fs) (names_ruled fs) names_left

      pub named_leaves : (table after : List ℕ) → Left (names_ruled fs) table after → Left (ruled fs) table after
      named_leaves = leaves_on (ruled fs) (names_ruled fs) names_left

-- ---- 8

module _ (fs : List Field) (unknown : ℕ) (e : unknown ≡ unknown_name fs) where
  module _ (n : unknown ≡ 0 → ⊥) where
    refused_unknown : names_ruled fs ≡ fault 8 unknown
    unfolding names_ruled
    refused_unknown = rw (← e) (unless_fault 8 unknown _ n)

    pub unknown_answers : (r : Reading) → r ≡ Unread 8 unknown → r ≡ reading_of (names_ruled fs)
    unknown_answers r q = answers (names_ruled fs) 8 unknown refused_unknown r q

    pub unknown_leaves : (table : List ℕ) → Cleared table → Left (names_ruled fs) table table
    unknown_leaves table z = leaves (names_ruled fs) 8 unknown refused_unknown table z

  module _ (known : unknown ≡ 0) where
    known_left : names_ruled fs ≡ known_ruled fs
    unfolding names_ruled
    known_left = rw (← e) (unless_passed 8 unknown _ known)

    pub known_answers : (r : Reading) → r ≡ reading_of (known_ruled fs) → r ≡ reading_of (names_ruled fs)
    known_answers = answers_on (names_ruled fs) (known_ruled fs) known_left

    pub known_leaves : (table after : List ℕ) → Left (known_ruled fs) table after → Left (names_ruled fs) table after
    known_leaves = leaves_on (names_ruled fs) (known_ruled fs) known_left

-- ---- 10, then 11, then the words

module _ (fs : List Field) (unbound : ℕ) (f : unbound ≡ unbound_variable fs) where
  module _ (n : unbound ≡ 0 → ⊥) where
    refused_unbound : known_ruled fs ≡ fault 10 unbound
    unfolding known_ruled
    refused_unbound = rw (← f) (unless_fault 10 unbound _ n)

    pub unbound_answers : (r : Reading) → r ≡ Unread 10 unbound → r ≡ reading_of (known_ruled fs)
    unbound_answers r q = answers (known_ruled fs) 10 unbound refused_unbound r q

    pub unbound_leaves : (table : List ℕ) → Cleared table → Left (known_ruled fs) table table
    unbound_leaves table z = leaves (known_ruled fs) 10 unbound refused_unbound table z

  module _ (bound : unbound ≡ 0) (twin : ℕ) (g : twin ≡ twin_principal fs) where
    module _ (n : twin ≡ 0 → ⊥) where
      refused_twin : known_ruled fs ≡ fault 11 twin
      unfolding known_ruled
      refused_twin = rw (← f, ← g, unless_passed 10 unbound _ bound) (unless_fault 11 twin _ n)

      pub twin_answers : (r : Reading) → r ≡ Unread 11 twin → r ≡ reading_of (known_ruled fs)
      twin_answers r q = answers (known_ruled fs) 11 twin refused_twin r q

      pub twin_leaves : (table : List ℕ) → Cleared table → Left (known_ruled fs) table table
      twin_leaves table z = leaves (known_ruled fs) 11 twin refused_twin table z

    module _ (alone : twin ≡ 0) where
      holds : known_ruled fs ≡ fields fs
      unfolding known_ruled
      holds = rw (← f, ← g, unless_passed 10 unbound _ bound) (unless_passed 11 twin _ alone)

      pub accepts : Accepted ≡ reading_of (known_ruled fs)
      accepts = rw holds refl

      pub writes : (table after : List ℕ) → after ≡ words_of (policy_of fs) ++ drop table_words table → Left (known_ruled fs) table after
      writes table after q = record { words = λ h. q ∙ rw holds refl }

-- no words are wanted
pub keeps : (o : Outcome) (table : List ℕ) → length table < table_words → Left o table table
keeps o table s = record { words = λ h. absurd (omega arith) }

pub is_cleared : (table : List ℕ) → take table_words table ≡ replicate table_words 0 → Cleared table
is_cleared table z = record { clear = λ h. z }

pub short_cleared : Cleared (replicate 1 0)
short_cleared = record { clear = λ h. absurd (omega (arith, length-replicate {A = ℕ} 1 0)) }

-- ---- a text, with a table that has room or has not

module _ (t : List ℕ) where
  pub text_refused : (k m : ℕ) → fault k m ≡ text_page t → Unread k m ≡ reading_of (file_of t)
  unfolding file_of
  text_refused k m e = rw (← e) refl

  pub text_zero : (k m : ℕ) (table : List ℕ) → fault k m ≡ text_page t → take table_words table ≡ replicate table_words 0 → table ≡ words_read (file_of t) ++ drop table_words table
  unfolding file_of
  text_zero k m table e z = rw (← e) (zero_front table_words table z)

  pub text_read : (fs : List Field) (r : Reading) → fields fs ≡ text_page t → r ≡ reading_of (ruled fs) → r ≡ reading_of (file_of t)
  unfolding file_of
  text_read fs r e q = q ∙ rw (← e) refl

  pub text_words : (fs : List Field) (table after : List ℕ) → fields fs ≡ text_page t → table_words ≤ length table → Left (ruled fs) table after
      → after ≡ words_read (file_of t) ++ drop table_words table
  unfolding file_of
  text_words fs table after e h q = q.words h ∙ rw (← e) refl

  module _ (table : List ℕ) where
    module _ (h : length table < table_words) where
      pub short_answers : Unread 1 0 ≡ read_answer t table
      unfolding read_answer
      short_answers = rw (lt-ltb (length table) table_words h) refl

      pub short_leaves : table ≡ read_leaves t table
      unfolding read_leaves
      short_leaves = rw (lt-ltb (length table) table_words h) refl

    module _ (h : table_words ≤ length table) where
      pub room_answers : (r : Reading) → r ≡ reading_of (file_of t) → r ≡ read_answer t table
      unfolding read_answer
      room_answers r q = rw (le-ltb (length table) table_words h) q

-- ---- the front of the table made zero

module _ (table : List ℕ) (h : table_words ≤ length table) where
  pub front_count : table_words ≡ length (take table_words table)
  front_count = sym (length-take-le table_words table h)

  -- the table behind it stays
  module _ (zeros : List ℕ) (e : zeros ≡ replicate (length (take table_words table)) 0) where
    cleared : zeros ≡ replicate table_words 0
    cleared = e ∙ ap (λ (n : ℕ). replicate n 0) (sym front_count)

    zeros_long : length zeros ≡ table_words
    zeros_long = ap length cleared ∙ length-replicate {A = ℕ} table_words 0

    pub front_zero : take table_words (zeros ++ drop table_words table) ≡ replicate table_words 0
    front_zero = take_at zeros (drop table_words table) table_words zeros_long ∙ cleared

    pub front_room : table_words ≤ length (zeros ++ drop table_words table)
    front_room = rw (length-append, zeros_long) (omega arith)

    behind_stays : drop table_words (zeros ++ drop table_words table) ≡ drop table_words table
    behind_stays = drop_at zeros (drop table_words table) table_words zeros_long

    pub front_leaves : (t left : List ℕ) → left ≡ words_read (file_of t) ++ drop table_words (zeros ++ drop table_words table) → left ≡ read_leaves t table
    unfolding read_leaves
    front_leaves t left q = q ∙ rw (behind_stays, le-ltb (length table) table_words h) refl
