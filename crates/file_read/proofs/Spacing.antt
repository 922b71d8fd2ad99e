-- A value that is right for its place is, where it is a list, spaced as a list is.
use mathlib.Core.Path.{◌≡◌, refl, sym, ◌∙◌}
use mathlib.Core.Bool.{Bool, true, false, cond, not, ◌&&◌, ◌||◌}
use mathlib.Core.Logic.{⊎_elim}
use mathlib.Core.List.{List, [], ◌∷◌}
use Prim.Native.Nat.{ℕ, suc, ◌-◌}
use native.Mathlib.Omega.{arith}
use lib.Dec.{eqb, leb}
use lib.ListN.{length, get_or}
use borrow.Author.Tests.{eqb-true}
use Rattle.paper.specs.Common.{bytes, within, is_empty, all_of, any_of, is, is_one}
use Rattle.paper.specs.declared.Kind.TheVariants.{Subject, Object}
use Rattle.paper.specs.Scalars.{is_letter, is_digit, name_byte, is_name, is_domain_name, is_variable, is_uid, is_gid, identifier_first, identifier_byte, is_identifier, is_scalar}
use Rattle.paper.specs.declared.Kind.{Kind}
use Rattle.paper.specs.declared.Scalar.{Scalar}
use Rattle.paper.specs.declared.Scalar.TheVariants.{DomainName, UidValue, GidValue, SubjectIdentifier, ObjectIdentifier, PatternElement}
use Rattle.paper.specs.declared.Value.{Value}
use Rattle.paper.specs.declared.Value.TheVariants.{Keys, NoneOrItems, AllOrKeys, AllNoneOrItems, One, ListOf, SomeOf, ListOrAll}
use Rattle.paper.specs.Text.{open_bracket}
use Rattle.paper.specs.Lists.{bracketed, inside, spaced, elements, list_fault}
use Rattle.paper.specs.Listing.{row_at, value_fault}
use Rattle.paper.specs.Page.{Field}
use Rattle.laws.proofs.Tests.{both_left, both_right, either_of, same_equal}
use Rattle.laws.proofs.Counting.{all_of_weaker}
use Rattle.laws_page.specs.Right.{is_right}
use Rattle.file_fields.specs.Fields.{list_spaced, well_spaced}

absurd_test : {A : Type 0} → true ≡ false → A
absurd_test e = absurd (let z : ◌≡◌ {A = ℕ} 0 1 = cc in omega arith)

-- ---- what begins with another byte than `[` is no list

begins_otherwise : (v : List ℕ) → eqb (get_or v 0 0) open_bracket ≡ false → list_spaced v ≡ true
unfolding list_spaced bracketed
begins_otherwise v e = rw e (go (leb 2 (length v)))
  where
    go : (a : Bool) → (not (a && false && eqb (get_or v (length v - 1) 0) 93) || spaced 0 (inside v)) ≡ true
    go true = refl
    go false = refl

passed_byte : (test : ℕ → Bool) → test open_bracket ≡ false → (b : ℕ) → test b ≡ true → eqb b open_bracket ≡ false
passed_byte test f b h = go (eqb b open_bracket) refl
  where
    go : (e : Bool) → eqb b open_bracket ≡ e → e ≡ false
    go true q = absurd_test (sym h ∙ rw (eqb-true b open_bracket q) f)
    go false q = refl

no_name_byte : name_byte open_bracket ≡ false
unfolding name_byte is_letter is_digit any_of
no_name_byte = refl

no_first_byte : identifier_first open_bracket ≡ false
unfolding identifier_first is_letter is_digit any_of
no_first_byte = refl

name_spaced : (v : List ℕ) → is_name v ≡ true → list_spaced v ≡ true
unfolding is_name all_of
name_spaced [] h = absurd_test (sym h)
name_spaced (b ∷ bs) h =
    let all : (name_byte b && all_of name_byte bs) ≡ true = both_right (within 1 64 (length (b ∷ bs))) (name_byte b && all_of name_byte bs) h in
    begins_otherwise (b ∷ bs) (passed_byte name_byte no_name_byte b (both_left (name_byte b) (all_of name_byte bs) all))

identifier_spaced : (kind : Kind) (v : List ℕ) → is_identifier kind v ≡ true → list_spaced v ≡ true
unfolding is_identifier
identifier_spaced kind v h =
    let front : (within 1 128 (length v) && identifier_first (get_or v 0 0)) ≡ true =
    both_left (within 1 128 (length v) && identifier_first (get_or v 0 0)) _ (both_left (within 1 128 (length v) && identifier_first (get_or v 0 0) && all_of identifier_byte v) _ h) in
    begins_otherwise v (passed_byte identifier_first no_first_byte (get_or v 0 0) (both_right (within 1 128 (length v)) _ front))

-- the words that a value can be
all_spaced : (v : List ℕ) → is "all" v ≡ true → list_spaced v ≡ true
all_spaced v h = rw (← same_equal (bytes "all") v h) (begins_otherwise (bytes "all") refl)

root_spaced : (v : List ℕ) → is "root" v ≡ true → list_spaced v ≡ true
root_spaced v h = rw (← same_equal (bytes "root") v h) (begins_otherwise (bytes "root") refl)

user_spaced : (v : List ℕ) → is "user" v ≡ true → list_spaced v ≡ true
user_spaced v h = rw (← same_equal (bytes "user") v h) (begins_otherwise (bytes "user") refl)

none_spaced : (v : List ℕ) → is "[]" v ≡ true → list_spaced v ≡ true
unfolding list_spaced bracketed spaced
none_spaced v h = rw (← same_equal (bytes "[]") v h) refl

module _ (v : List ℕ) where
  variable_spaced : is_variable v ≡ true → list_spaced v ≡ true
  unfolding is_variable
  variable_spaced h = name_spaced v (both_left (is_name v) _ h)

  uid_spaced : is_uid v ≡ true → list_spaced v ≡ true
  unfolding is_uid is_one any_of
  uid_spaced h =
      ⊎_elim
      (λ (w : (is "root" v || (is "user" v || (is "all" v || false))) ≡ true). go (is "root" v) (is "user" v) (is "all" v) refl refl refl w)
      (λ (w : is_variable v ≡ true). variable_spaced w)
      (either_of (is "root" v || (is "user" v || (is "all" v || false))) (is_variable v) h)
    where
      go : (a b d : Bool) → is "root" v ≡ a → is "user" v ≡ b → is "all" v ≡ d → (a || (b || (d || false))) ≡ true → list_spaced v ≡ true
      go true b d p q r w = root_spaced v p
      go false true d p q r w = user_spaced v q
      go false false true p q r w = all_spaced v r
      go false false false p q r w = absurd_test (sym w)

  scalar_spaced : (s : Scalar) → is_scalar s v ≡ true → list_spaced v ≡ true
  unfolding is_scalar is_domain_name is_gid
  scalar_spaced DomainName h = name_spaced v (both_left (is_name v) _ h)
  scalar_spaced UidValue h = uid_spaced h
  scalar_spaced GidValue h = ⊎_elim (λ (a : is "all" v ≡ true). all_spaced v a) (λ (a : is_variable v ≡ true). variable_spaced a) (either_of (is "all" v) (is_variable v) h)
  scalar_spaced SubjectIdentifier h = identifier_spaced Subject v h
  scalar_spaced ObjectIdentifier h = identifier_spaced Object v h
  scalar_spaced PatternElement h =
      ⊎_elim
      (λ k. ⊎_elim (λ (a : is "all" v ≡ true). all_spaced v a) (λ (a : is_identifier Subject v ≡ true). identifier_spaced Subject v a) (either_of (is "all" v) (is_identifier Subject v) k))
      (λ k. name_spaced v (both_left (is_name v) _ k))
      (either_of (is "all" v || is_identifier Subject v) (is_domain_name v) h)

  -- ---- a list, and any value

  list_spaced_lem : (s : Scalar) → list_fault s v ≡ 0 → list_spaced v ≡ true
  unfolding list_fault list_spaced
  list_spaced_lem s h = go (bracketed v) (spaced 0 (inside v)) h
    where
      go : (a b : Bool) → ◌≡◌ {A = ℕ} (cond (a && b) (cond (all_of (is_scalar s) (elements v)) 0 5) 4) 0 → (not a || b) ≡ true
      go true true e = refl
      go true false e = absurd (omega arith)
      go false b e = refl

  -- a test that was passed, or else the rest
  passed : (b : Bool) (first rest : ℕ) → cond b first rest ≡ 0 → (b ≡ true → list_spaced v ≡ true) → (rest ≡ 0 → list_spaced v ≡ true) → list_spaced v ≡ true
  passed true first rest e p q = p refl
  passed false first rest e p q = q e

  pub fault_free_spaced : (k : Value) → value_fault k v ≡ 0 → list_spaced v ≡ true
  unfolding value_fault is_one any_of
  fault_free_spaced Keys h = absurd (omega arith)
  fault_free_spaced NoneOrItems h = passed (is "[]" v) 0 4 h (none_spaced v) (λ z. absurd (omega arith))
  fault_free_spaced AllOrKeys h = passed (is "all" v) 0 4 h (all_spaced v) (λ z. absurd (omega arith))
  fault_free_spaced AllNoneOrItems h =
      passed (is "all" v || (is "[]" v || false)) 0 4 h
      (λ e. ⊎_elim (λ (a : is "all" v ≡ true). all_spaced v a)
      (λ (a : (is "[]" v || false) ≡ true). ⊎_elim (λ (b : is "[]" v ≡ true). none_spaced v b) (λ (b : false ≡ true). absurd_test (sym b))
      (either_of (is "[]" v) false a)) (either_of (is "all" v) (is "[]" v || false) e))
      (λ z. absurd (omega arith))
  fault_free_spaced (One s) h = passed (is_scalar s v) 0 5 h (scalar_spaced s) (λ z. absurd (omega arith))
  fault_free_spaced (ListOf s) h = list_spaced_lem s h
  fault_free_spaced (SomeOf s) h = passed (is "[]" v) 9 (list_fault s v) h (none_spaced v) (list_spaced_lem s)
  fault_free_spaced (ListOrAll s) h = passed (is "all" v) 0 (list_fault s v) h (all_spaced v) (list_spaced_lem s)

empty_spaced : (v : List ℕ) → is_empty v ≡ true → list_spaced v ≡ true
unfolding list_spaced bracketed
empty_spaced [] h = refl
empty_spaced (b ∷ bs) h = absurd (let z : suc (length bs) ≡ 0 = eqb-true (suc (length bs)) 0 h in omega arith)

right_spaced : (f : Field) → is_right f ≡ true → well_spaced f ≡ true
unfolding is_right well_spaced
right_spaced f h =
    ⊎_elim
    (λ (e : is_empty f.value ≡ true). empty_spaced f.value e)
    (λ (e : eqb (value_fault (row_at f.place).value f.value) 0 ≡ true). fault_free_spaced f.value (row_at f.place).value (eqb-true (value_fault (row_at f.place).value f.value) 0 e))
    (either_of (is_empty f.value) (eqb (value_fault (row_at f.place).value f.value) 0) h)

-- each field of a page that is not refused is well spaced
pub all_spaced_well : (fs : List Field) → all_of is_right fs ≡ true → all_of well_spaced fs ≡ true
all_spaced_well fs h = all_of_weaker is_right well_spaced right_spaced fs h
