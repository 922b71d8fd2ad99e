-- 10: a key of an object context field by field, the first such field of an entry, and the smallest line over the entries.
use mathlib.Core.Path.{◌≡◌, refl, sym, ◌∙◌}
use mathlib.Core.Bool.{Bool, true, false, not, ◌&&◌, ◌||◌, or-false}
use mathlib.Core.Logic.{⊎_elim}
use mathlib.Core.List.{List, map}
use Prim.Native.Nat.{ℕ, ◌+◌, ◌<◌, ◌≤◌}
use native.Mathlib.Omega.{arith}
use lib.Dec.{eqb}
use lib.ListN.{length}
use borrow.Author.Tests.{eq-eqb, ne_eqb, lt-ltb, le-ltb, not-true, not-false}
use Rattle.paper.specs.Common.{any_of, same}
use Rattle.paper.specs.Listing.{principal, execution_context, can_read, can_write, object_context_in}
use Rattle.paper.specs.Scalars.{is_variable}
use Rattle.paper.specs.Page.{Field}
use Rattle.paper.specs.Entries.{is_at_one, value_at}
use Rattle.paper.specs.Rules.{earlier, earliest, first_with, in_object_contexts, is_unbound_key, is_unbound, unbound_variable}
use Rattle.laws.proofs.Tests.{same_or_not, le_or_lt, both_false}
use Rattle.file_fields.specs.Fields.{value_of, field_of}
use Rattle.file_fields.specs.Stretches.{fields_of, stretch_of, left_of, Begins, IsNext}
use Rattle.file_fields.specs.declared.file.FieldAt.{FieldAt}
use Rattle.file_fields.specs.declared.file.File.{File}
use Rattle.file_fields.specs.declared.stretch.Stretch.{Stretch}
use Rattle.file_fields.specs.declared.stretch.Stretches.{Stretches}
use Rattle.file_fields.proofs.Left.{left_entries, left_more, left_none}
use Rattle.file_entries.specs.Keys.{key_in}

-- ---- one key of one field

pub object_key : (f : FieldAt) (key p : ℕ) → p ≡ f.place
    → (eqb p (object_context_in can_read + key) || eqb p (object_context_in can_write + key)) ≡ any_of (eqb f.place) (in_object_contexts (key_in key))
unfolding any_of in_object_contexts key_in
object_key f key p e = rw (← e, or-false) refl

module _ (t : List ℕ) (f : FieldAt) (key : ℕ) (entry : List Field) where
  key_is : is_unbound_key (key_in key) entry (field_of t f)
      ≡ (any_of (eqb f.place) (in_object_contexts (key_in key)) && is_variable (value_of t f) && not (same (value_of t f) (value_at (execution_context + key) entry)))
  unfolding is_unbound_key is_at_one field_of key_in
  key_is = refl

  module _ (a : Bool) (e : a ≡ any_of (eqb f.place) (in_object_contexts (key_in key))) where
    pub no_key : not a ≡ true → false ≡ is_unbound_key (key_in key) entry (field_of t f)
    no_key h = sym (key_is ∙ rw (← e, not-true a h) refl)

    module _ (v : List ℕ) (g : v ≡ value_of t f) (b : Bool) (k : b ≡ is_variable v) where
      pub no_variable : not b ≡ true → false ≡ is_unbound_key (key_in key) entry (field_of t f)
      no_variable h = sym (key_is ∙ rw (← g, ← k, not-true b h, both_false _ false refl) refl)

      pub key_variable : not a ≡ false → not b ≡ false → (w : List ℕ) → w ≡ value_at (execution_context + key) entry → (s : Bool) → s ≡ same v w
          → not s ≡ is_unbound_key (key_in key) entry (field_of t f)
      key_variable h l w p s q = sym (key_is ∙ rw (← e, not-false a h, ← g, ← k, not-false b l, ← p, ← q) refl)

pub any_key : (entry : List Field) (f : Field) (a b c : Bool) → a ≡ is_unbound_key (key_in 2) entry f → b ≡ is_unbound_key (key_in 3) entry f → c ≡ is_unbound_key (key_in 4) entry f
    → (a || b || c) ≡ is_unbound entry f
unfolding is_unbound key_in
any_key entry f a b c p q r = rw (p, q, r) refl

-- the keys of object contexts stand behind the first such context
module _ (t : List ℕ) (f : FieldAt) (p : ℕ) (entry : List Field) (e : p ≡ f.place) (h : p < object_context_in can_read) where
  before_key : (key : ℕ) → false ≡ is_unbound_key (key_in key) entry (field_of t f)
  before_key key =
      let none : false ≡ (eqb p (object_context_in can_read + key) || eqb p (object_context_in can_write + key)) =
      rw (ne_eqb p (object_context_in can_read + key) (λ q. omega arith), ne_eqb p (object_context_in can_write + key) (λ q. omega arith)) refl in
      no_key t f key entry false (none ∙ object_key f key p e) refl

  pub before_keys : false ≡ is_unbound entry (field_of t f)
  before_keys = any_key entry (field_of t f) false false false (before_key 2) (before_key 3) (before_key 4)

-- ---- the smallest line

none_earlier : (a : ℕ) → earlier 0 a ≡ a
unfolding earlier
none_earlier a = refl

earlier_none : (a : ℕ) → earlier a 0 ≡ a
unfolding earlier
earlier_none a = ⊎_elim (λ (h : a ≡ 0). rw (eq-eqb a 0 h) (sym h)) (λ (h : a ≡ 0 → ⊥). rw (ne_eqb a 0 h) refl) (same_or_not a 0)

earlier_first : (a b : ℕ) → (a ≡ 0 → ⊥) → (b ≡ 0 → ⊥) → a < b → earlier a b ≡ a
unfolding earlier
earlier_first a b p q h = rw (ne_eqb a 0 p, ne_eqb b 0 q, lt-ltb a b h) refl

earlier_second : (a b : ℕ) → (a ≡ 0 → ⊥) → (b ≡ 0 → ⊥) → b ≤ a → earlier a b ≡ b
unfolding earlier
earlier_second a b p q h = rw (ne_eqb a 0 p, ne_eqb b 0 q, le-ltb a b h) refl

module _ (a b c : ℕ) where
  lines_assoc : (a ≡ 0 → ⊥) → (b ≡ 0 → ⊥) → (c ≡ 0 → ⊥) → earlier a (earlier b c) ≡ earlier (earlier a b) c
  lines_assoc p q r = ⊎_elim
      (λ (h : b ≤ a). ⊎_elim
      (λ (k : c ≤ b). rw (earlier_second b c q r k, earlier_second a b p q h, earlier_second b c q r k) (earlier_second a c p r (omega arith)))
      (λ (k : b < c). rw (earlier_first b c q r k, earlier_second a b p q h) (sym (earlier_first b c q r k)))
      (le_or_lt c b))
      (λ (h : a < b). ⊎_elim
      (λ (k : c ≤ b). rw (earlier_second b c q r k, earlier_first a b p q h) refl)
      (λ (k : b < c). rw (earlier_first b c q r k, earlier_first a b p q h) (sym (earlier_first a c p r (omega arith))))
      (le_or_lt c b))
      (le_or_lt b a)

  earlier_assoc : earlier a (earlier b c) ≡ earlier (earlier a b) c
  earlier_assoc = ⊎_elim
      (λ (p : a ≡ 0). rw (p, none_earlier (earlier b c), none_earlier b) refl)
      (λ (p : a ≡ 0 → ⊥). ⊎_elim
      (λ (q : b ≡ 0). rw (q, none_earlier c, earlier_none a) refl)
      (λ (q : b ≡ 0 → ⊥). ⊎_elim
      (λ (r : c ≡ 0). rw (r, earlier_none b, earlier_none (earlier a b)) refl)
      (λ (r : c ≡ 0 → ⊥). lines_assoc p q r)
      (same_or_not c 0))
      (same_or_not b 0))
      (same_or_not a 0)

-- 10 over some entries
abbrev pub unbound_in : List (List Field) → ℕ
unbound_in entries = earliest (map (λ entry. first_with (is_unbound entry) entry) entries)

pub unbound_starts : (file : File) (s : Stretches) → Begins file principal 0 (length file.fields.now) s → earlier 0 (unbound_in (left_of s)) ≡ unbound_variable (fields_of file)
unfolding unbound_variable
unbound_starts file s b = rw (left_entries file s b) (none_earlier _)

module _ (s : Stretches) (line whole : ℕ) (inv : earlier line (unbound_in (left_of s)) ≡ whole) where
  pub unbound_on : (x : Stretch) (r : Stretches) → IsNext s x r → (one line' : ℕ) → one ≡ first_with (is_unbound (stretch_of x)) (stretch_of x) → line' ≡ earlier line one
      → earlier line' (unbound_in (left_of r)) ≡ whole
  unfolding earliest
  unbound_on x r n one line' f g =
      let step : earlier line (earlier one (unbound_in (left_of r))) ≡ whole = rw (left_more s x r n, ← f) at inv in
      rw g (sym (earlier_assoc line one (unbound_in (left_of r))) ∙ step)

  pub unbound_ends : s.rest.from ≡ s.rest.to → line ≡ whole
  unfolding earliest
  unbound_ends h = sym (earlier_none line) ∙ (rw (left_none s h) at inv)
