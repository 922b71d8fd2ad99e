-- A value that is right has no other bytes than a line may hold, and no space at its ends: scalar by scalar, and a list from its elements.
use mathlib.Core.Path.{◌≡◌, refl}
use mathlib.Core.List.{List, [], ◌∷◌, ◌++◌}
use mathlib.Core.Bool.{Bool, true, false, cond, ◌&&◌, ◌||◌, false≢true}
use mathlib.Core.Logic.{⊎_elim}
use Prim.Native.Nat.{ℕ, ◌-◌, ◌≤◌}
use native.Mathlib.Omega.{arith}
use lib.Dec.{eqb, leb}
use lib.ListN.{length, get_or}
use borrow.Author.Tests.{eqb-true, ne_eqb, leb-true, le-leb}
use Rattle.paper.specs.declared.Kind.{Kind}
use Rattle.paper.specs.declared.Kind.TheVariants.{Subject}
use Rattle.paper.specs.declared.Scalar.{Scalar}
use Rattle.paper.specs.declared.Scalar.TheVariants.{DomainName, UidValue, GidValue, SubjectIdentifier, ObjectIdentifier, PatternElement}
use Rattle.paper.specs.declared.Value.{Value}
use Rattle.paper.specs.declared.Value.TheVariants.{Keys, NoneOrItems, AllOrKeys, AllNoneOrItems, One, ListOf, SomeOf, ListOrAll}
use Rattle.paper.specs.Common.{bytes, within, all_of, any_of, same, is, is_one, cut}
use Rattle.paper.specs.Text.{space, bar, open_bracket, close_bracket}
use Rattle.paper.specs.Scalars.{is_letter, is_digit, name_byte, is_name, is_domain_name, is_variable, is_uid, is_gid, identifier_byte, identifier_first}
use Rattle.paper.specs.Scalars.{parts_fit, is_identifier, is_scalar}
use Rattle.paper.specs.Lists.{bracketed, elements, list_fault}
use Rattle.paper.specs.Listing.{value_fault}
use Rattle.laws.proofs.Tests.{both_true, both_left, both_right, either_of, same_equal}
use Rattle.laws.proofs.Counting.{all_of_at, all_of_weaker, all_of_append}
use Rattle.laws_page.proofs.ListText.{text_behind, text_of, list_right, list_text}

-- no other bytes than a line may hold, and no space at the ends
pub record Plain (v : List ℕ) : Type 0 where
  pub stands : all_of (within 0x20 0x7E) v ≡ true
  pub first : eqb (get_or v 0 0) space ≡ false
  pub last : eqb (get_or v (length v - 1) 0) space ≡ false

-- a byte of a scalar
abbrev solid : ℕ → Bool
solid b = within 0x21 0x7E b

within_wider : (low high low' high' b : ℕ) → low ≤ low' → high' ≤ high → within low' high' b ≡ true → within low high b ≡ true
within_wider low high low' high' b p q h =
    let l : low' ≤ b = leb-true low' b (both_left (leb low' b) _ h) in
    let u : b ≤ high' = leb-true b high' (both_right (leb low' b) _ h) in
    both_true (leb low b) (leb b high) (le-leb low b (omega arith)) (le-leb b high (omega arith))

among_solid : (b : ℕ) (bs : List ℕ) → all_of solid bs ≡ true → any_of (eqb b) bs ≡ true → solid b ≡ true
unfolding all_of any_of
among_solid b [] h a = absurd (false≢true a)
among_solid b (c ∷ bs) h a =
    ⊎_elim
    (λ (e : eqb b c ≡ true). rw (eqb-true b c e) (both_left (solid c) _ h))
    (λ (e : any_of (eqb b) bs ≡ true). among_solid b bs (both_right (solid c) _ h) e)
    (either_of (eqb b c) _ a)

name_solid : (b : ℕ) → name_byte b ≡ true → solid b ≡ true
unfolding name_byte is_letter is_digit all_of
name_solid b h =
    ⊎_elim
    (λ k.
    ⊎_elim
    (λ l.
    ⊎_elim
    (λ m. within_wider 0x21 0x7E 65 90 b (omega arith) (omega arith) m)
    (λ m. within_wider 0x21 0x7E 97 122 b (omega arith) (omega arith) m)
    (either_of (within 65 90 b) (within 97 122 b) l))
    (λ l. within_wider 0x21 0x7E 48 57 b (omega arith) (omega arith) l)
    (either_of (within 65 90 b || within 97 122 b) (within 48 57 b) k))
    (λ k. among_solid b (bytes "_.") refl k)
    (either_of (within 65 90 b || within 97 122 b || within 48 57 b) _ h)

name_bytes_lem : (s : List ℕ) → is_name s ≡ true → all_of solid s ≡ true
unfolding is_name
name_bytes_lem s h = all_of_weaker name_byte solid name_solid s (both_right (within 1 64 (length s)) _ h)

variable_bytes : (s : List ℕ) → is_variable s ≡ true → all_of solid s ≡ true
unfolding is_variable
variable_bytes s h = name_bytes_lem s (both_left (is_name s) _ h)

-- a word that is known
word_bytes : (w s : List ℕ) → all_of solid w ≡ true → same w s ≡ true → all_of solid s ≡ true
word_bytes w s h e = rw (same_equal w s e) at h

identifier_bytes : (kind : Kind) (s : List ℕ) → is_identifier kind s ≡ true → all_of solid s ≡ true
unfolding is_identifier identifier_byte
identifier_bytes kind s h =
    all_of_weaker identifier_byte solid (λ b k. both_left (solid b) _ k) s
    (both_right (within 1 128 (length s) && identifier_first (get_or s 0 0)) (all_of identifier_byte s)
    (both_left (within 1 128 (length s) && identifier_first (get_or s 0 0) && all_of identifier_byte s) (parts_fit kind (cut bar s)) h))

scalar_bytes : (scalar : Scalar) (s : List ℕ) → is_scalar scalar s ≡ true → all_of solid s ≡ true
unfolding is_scalar is_domain_name is_uid is_gid is_one any_of all_of
scalar_bytes DomainName s h = name_bytes_lem s (both_left (is_name s) _ h)
scalar_bytes UidValue s h =
    ⊎_elim
    (λ k.
    ⊎_elim (λ e. word_bytes (bytes "root") s refl e)
    (λ l.
    ⊎_elim (λ e. word_bytes (bytes "user") s refl e)
    (λ m. ⊎_elim (λ e. word_bytes (bytes "all") s refl e) (λ e. absurd (false≢true e)) (either_of (is "all" s) false m))
    (either_of (is "user" s) _ l))
    (either_of (is "root" s) _ k))
    (λ k. variable_bytes s k)
    (either_of (is "root" s || (is "user" s || (is "all" s || false))) (is_variable s) h)
scalar_bytes GidValue s h = ⊎_elim (λ e. word_bytes (bytes "all") s refl e) (λ k. variable_bytes s k) (either_of (is "all" s) (is_variable s) h)
scalar_bytes SubjectIdentifier s h = identifier_bytes _ s h
scalar_bytes ObjectIdentifier s h = identifier_bytes _ s h
scalar_bytes PatternElement s h =
    ⊎_elim
    (λ k. ⊎_elim (λ e. word_bytes (bytes "all") s refl e) (λ l. identifier_bytes _ s l) (either_of (is "all" s) _ k))
    (λ k. name_bytes_lem s (both_left (is_name s) _ k))
    (either_of (is "all" s || is_identifier Subject s) (is_domain_name s) h)

-- ---- a scalar, a word and a list are plain

solid_within : (b : ℕ) → solid b ≡ true → within 0x20 0x7E b ≡ true
solid_within b h = within_wider 0x20 0x7E 0x21 0x7E b (omega arith) (omega arith) h

solid_no_space : (b : ℕ) → solid b ≡ true → eqb b space ≡ false
solid_no_space b h = ne_eqb b space (λ e. omega (arith, leb-true 0x21 b (both_left (leb 0x21 b) _ h)))

solid_plain : (v : List ℕ) → 1 ≤ length v → all_of solid v ≡ true → Plain v
solid_plain v s h = record {
  stands = all_of_weaker solid (within 0x20 0x7E) solid_within v h;
  first = solid_no_space (get_or v 0 0) (all_of_at solid 0 v h 0 (omega arith));
  last = solid_no_space (get_or v (length v - 1) 0) (all_of_at solid 0 v h (length v - 1) (omega arith));
}

all_plain : (v : List ℕ) → is "all" v ≡ true → Plain v
unfolding all_of
all_plain v e = let p : Plain (bytes "all") = record { stands = refl; first = refl; last = refl } in rw (same_equal (bytes "all") v e) at p

none_plain : (v : List ℕ) → is "[]" v ≡ true → Plain v
unfolding all_of
none_plain v e = let p : Plain (bytes "[]") = record { stands = refl; first = refl; last = refl } in rw (same_equal (bytes "[]") v e) at p

module _ (scalar : Scalar) where
  behind_stands : (xs : List (List ℕ)) → all_of (is_scalar scalar) xs ≡ true → all_of (within 0x20 0x7E) (text_behind xs) ≡ true
  unfolding all_of text_behind
  behind_stands [] h = refl
  behind_stands (x ∷ xs) h =
      all_of_append (within 0x20 0x7E) x (text_behind xs)
      (all_of_weaker solid (within 0x20 0x7E) solid_within x (scalar_bytes scalar x (both_left (is_scalar scalar x) _ h)))
      (behind_stands xs (both_right (is_scalar scalar x) _ h))

  text_stands : (xs : List (List ℕ)) → all_of (is_scalar scalar) xs ≡ true → all_of (within 0x20 0x7E) (text_of xs) ≡ true
  unfolding all_of text_of
  text_stands [] h = refl
  text_stands (x ∷ xs) h =
      all_of_append (within 0x20 0x7E) x (text_behind xs)
      (all_of_weaker solid (within 0x20 0x7E) solid_within x (scalar_bytes scalar x (both_left (is_scalar scalar x) _ h)))
      (behind_stands xs (both_right (is_scalar scalar x) _ h))

  brackets_stand : (t : List ℕ) → all_of (within 0x20 0x7E) t ≡ true → all_of (within 0x20 0x7E) (open_bracket ∷ (t ++ (close_bracket ∷ []))) ≡ true
  unfolding all_of
  brackets_stand t h = all_of_append (within 0x20 0x7E) t (close_bracket ∷ []) h refl

  list_plain : (v : List ℕ) → list_fault scalar v ≡ 0 → Plain v
  unfolding bracketed
  list_plain v e =
      let r = list_right scalar v e in
      let first : get_or v 0 0 ≡ open_bracket = eqb-true _ _ (both_right (leb 2 (length v)) _ (both_left _ _ r.0)) in
      let last : get_or v (length v - 1) 0 ≡ close_bracket = eqb-true _ _ (both_right (leb 2 (length v) && eqb (get_or v 0 0) open_bracket) _ r.0) in
      record {
        stands = rw (list_text v r.0 r.1) (brackets_stand (text_of (elements v)) (text_stands (elements v) r.2));
        first = rw first refl;
        last = rw last refl;
      }

-- ---- a value that is right for its place

module _ (v : List ℕ) where
  test_right : (t : Bool) (k : ℕ) → 1 ≤ k → cond t 0 k ≡ 0 → t ≡ true
  test_right true k h e = refl
  test_right false k h e = absurd (omega arith)

  pub right_plain : (value : Value) → 1 ≤ length v → value_fault value v ≡ 0 → Plain v
  unfolding value_fault is_one any_of
  right_plain Keys s e = absurd (omega arith)
  right_plain NoneOrItems s e = none_plain v (test_right (is "[]" v) 4 (omega arith) e)
  right_plain AllOrKeys s e = all_plain v (test_right (is "all" v) 4 (omega arith) e)
  right_plain AllNoneOrItems s e =
      ⊎_elim (λ h. all_plain v h)
      (λ h. ⊎_elim (λ k. none_plain v k) (λ k. absurd (false≢true k)) (either_of (is "[]" v) false h))
      (either_of (is "all" v) _ (test_right (is "all" v || (is "[]" v || false)) 4 (omega arith) e))
  right_plain (One scalar) s e = solid_plain v s (scalar_bytes scalar v (test_right (is_scalar scalar v) 5 (omega arith) e))
  right_plain (ListOf scalar) s e = list_plain scalar v e
  right_plain (SomeOf scalar) s e = go (is "[]" v) e
    where
      go : (t : Bool) → cond t 9 (list_fault scalar v) ≡ 0 → Plain v
      go true k = absurd (omega arith)
      go false k = list_plain scalar v k
  right_plain (ListOrAll scalar) s e = go (is "all" v) refl e
    where
      go : (t : Bool) → is "all" v ≡ t → cond t 0 (list_fault scalar v) ≡ 0 → Plain v
      go true p k = all_plain v p
      go false p k = list_plain scalar v k
