-- The contexts of a file: patterns of 1 to 16 known elements, and a gid and a namespace that are `all` or a variable. Over any of the three contexts.
use mathlib.Core.Path.{◌≡◌, refl, sym, ◌∙◌}
use mathlib.Core.Bool.{Bool, true, false, cond, not, ◌||◌, false≢true}
use mathlib.Core.List.{List, [], ◌∷◌, map}
use Prim.Native.Nat.{ℕ, ◌≤◌}
use native.Mathlib.Omega.{arith}
use lib.Dec.{eqb}
use lib.ListN.{length, length-map}
use borrow.Author.Tests.{eqb-true, le-leb, not-true, not-false, ltb-false}
use Rattle.paper.specs.Common.{bytes, within, is_empty, all_of, any_of, cut, on_piece, is, same, among}
use Rattle.paper.specs.Limits.{most_elements}
use Rattle.paper.specs.declared.Scalar.{Scalar}
use Rattle.paper.specs.declared.Scalar.TheVariants.{PatternElement, UidValue, GidValue}
use Rattle.paper.specs.declared.Value.{Value}
use Rattle.paper.specs.declared.Value.TheVariants.{One, SomeOf}
use Rattle.paper.specs.Scalars.{is_scalar, sort_number, sort_of}
use Rattle.paper.specs.Lists.{bracketed, spaced, unspaced, elements_in, elements, list_fault}
use Rattle.paper.specs.Listing.{subject_name, subject_members, subject_of_entry, execution_context, can_read, can_write, call_context_in, uid_in, gid_in, namespace_in}
use Rattle.paper.specs.Listing.{object_context_in, listing, row_at, bare_is_none, value_fault}
use Rattle.paper.specs.Page.{Field}
use Rattle.paper.specs.Entries.{is_at_one, call_contexts, default_at, meant, value_at}
use Rattle.paper.specs.Rules.{long_pattern, domains_at, identifiers_at, element_names, all_known, subject_lists, object_lists, names_unknown}
use Rattle.paper.specs.Policy.{element_of, context_of}
use Rattle.laws.proofs.Tests.{both_true, both_left, both_right, same_refl}
use Rattle.laws_page.specs.Right.{is_right}
use Rattle.laws_page.proofs.ListText.{list_right, list_text, text_of}
use Rattle.laws_table.specs.Proper.{is_gid_sort, proper_context}
use Rattle.laws_file.specs.Accepted.{is_filled, is_good}
use Rattle.laws_file.proofs.Stretched.{value_holds}
use Rattle.laws_file.proofs.Names.{known, all_below_lem}
use Rattle.laws_file.proofs.Sorts.{gid_sort}

-- ---- a field that can be neither bare nor have a block has a value, which is right

pub record Written (kind : Value) (f : Field) : Type 0 where
  pub right : value_fault kind f.value ≡ 0
  pub plain : meant f ≡ f.value

written : (kind : Value) (f : Field) → (row_at f.place).value ≡ kind → bare_is_none kind ≡ false → is_empty (row_at f.place).block ≡ true → is_right f ≡ true → is_filled f ≡ true → Written kind f
unfolding is_right is_filled meant
written kind f k n b r s = go (is_empty f.value) refl r s
  where
    go : (e : Bool) → is_empty f.value ≡ e → (e || eqb (value_fault (row_at f.place).value f.value) 0) ≡ true
        → (not e || bare_is_none (row_at f.place).value || not (is_empty (row_at f.place).block)) ≡ true → Written kind f
    go true e r s = absurd (false≢true (rw (k, n, b) at s))
    go false e r s = record { right = eqb-true (value_fault kind f.value) 0 (rw k at r); plain = rw e refl }

-- ---- the three contexts

pub data ContextAt : ℕ → Type 0 where
  execution : ContextAt execution_context
  reading : ContextAt (object_context_in can_read)
  writing : ContextAt (object_context_in can_write)

-- what the listing and the rules say of the place of its `call_context`
record PatternPlace (c : ℕ) : Type 0 where
  value : (row_at (call_context_in c)).value ≡ SomeOf PatternElement
  block : is_empty (row_at (call_context_in c)).block ≡ true
  default : default_at (call_context_in c) ≡ bytes "[all]"
  listed : any_of (eqb (call_context_in c)) call_contexts ≡ true
  not_subject : eqb (call_context_in c) subject_of_entry ≡ false
  not_subjects : any_of (eqb (call_context_in c)) subject_lists ≡ false
  not_objects : any_of (eqb (call_context_in c)) object_lists ≡ false

pattern_place : {c : ℕ} → ContextAt c → PatternPlace c
unfolding row_at listing default_at call_contexts any_of subject_lists object_lists
pattern_place execution = record { value = refl; block = refl; default = refl; listed = refl; not_subject = refl; not_subjects = refl; not_objects = refl }
pattern_place reading = record { value = refl; block = refl; default = refl; listed = refl; not_subject = refl; not_subjects = refl; not_objects = refl }
pattern_place writing = record { value = refl; block = refl; default = refl; listed = refl; not_subject = refl; not_subjects = refl; not_objects = refl }

-- and of the places of its `uid`, `gid` and `namespace`
pub record KeyPlace (key : ℕ → ℕ) (scalar : Scalar) (c : ℕ) : Type 0 where
  pub value : (row_at (key c)).value ≡ One scalar
  pub block : is_empty (row_at (key c)).block ≡ true
  pub default : default_at (key c) ≡ bytes "all"

pub uid_place : {c : ℕ} → ContextAt c → KeyPlace uid_in UidValue c
unfolding row_at listing default_at call_contexts any_of
uid_place execution = record { value = refl; block = refl; default = refl }
uid_place reading = record { value = refl; block = refl; default = refl }
uid_place writing = record { value = refl; block = refl; default = refl }

pub gid_place : {c : ℕ} → ContextAt c → KeyPlace gid_in GidValue c
unfolding row_at listing default_at call_contexts any_of
gid_place execution = record { value = refl; block = refl; default = refl }
gid_place reading = record { value = refl; block = refl; default = refl }
gid_place writing = record { value = refl; block = refl; default = refl }

pub namespace_place : {c : ℕ} → ContextAt c → KeyPlace namespace_in GidValue c
unfolding row_at listing default_at call_contexts any_of
namespace_place execution = record { value = refl; block = refl; default = refl }
namespace_place reading = record { value = refl; block = refl; default = refl }
namespace_place writing = record { value = refl; block = refl; default = refl }

-- ---- the value of a `call_context`

pub record PatternValue (functions domains : List (List ℕ)) (v : List ℕ) : Type 0 where
  pub right : list_fault PatternElement v ≡ 0
  pub some : 1 ≤ length (elements v)
  pub few : length (elements v) ≤ most_elements
  pub knows : all_of (known functions domains) (elements v) ≡ true

-- a list that is not `[]` has elements
some_elements : (v : List ℕ) → is "[]" v ≡ false → list_fault PatternElement v ≡ 0 → 1 ≤ length (elements v)
unfolding text_of
some_elements v n h = go (elements v) refl
  where
    go : (xs : List (List ℕ)) → elements v ≡ xs → 1 ≤ length xs
    go [] e =
        let r = list_right PatternElement v h in
        let t : v ≡ bytes "[]" = list_text v r.0 r.1 ∙ rw e refl in
        absurd (false≢true (sym n ∙ rw t (same_refl (bytes "[]"))))
    go (x ∷ xs) e = omega arith

some_right : (v : List ℕ) → value_fault (SomeOf PatternElement) v ≡ 0 → (is "[]" v ≡ false) × (list_fault PatternElement v ≡ 0)
unfolding value_fault
some_right v h = go (is "[]" v) h
  where
    go : (t : Bool) → cond t 9 (list_fault PatternElement v) ≡ 0 → (t ≡ false) × (list_fault PatternElement v ≡ 0)
    go true k = absurd (omega arith)
    go false k = (refl, k)

-- `[all]`
default_pattern : (functions domains : List (List ℕ)) → PatternValue functions domains (bytes "[all]")
unfolding list_fault elements elements_in bracketed spaced cut on_piece unspaced is_scalar all_of any_of among same
default_pattern functions domains = record { right = refl; some = omega arith; few = omega arith; knows = refl }

-- ---- a value of one scalar

pub one_right : (scalar : Scalar) (v : List ℕ) → value_fault (One scalar) v ≡ 0 → is_scalar scalar v ≡ true
unfolding value_fault
one_right scalar v h = go (is_scalar scalar v) h
  where
    go : (t : Bool) → cond {A = ℕ} t 0 5 ≡ 0 → t ≡ true
    go true k = refl
    go false k = absurd (omega arith)

default_gid : is_gid_sort (sort_of (bytes "all")) ≡ true
unfolding sort_of same is_gid_sort sort_number
default_gid = refl

-- ---- of good fields

-- the parts of `is_good`
pub record Good (file : List Field) (f : Field) : Type 0 where
  pub right : is_right f ≡ true
  pub filled : is_filled f ≡ true
  pub short : long_pattern f ≡ false
  pub knows : names_unknown file f ≡ false

pub good : (file : List Field) (f : Field) → is_good file f ≡ true → Good file f
unfolding is_good
good file f h = record {
  right = search (both_left, both_right);
  filled = search (both_left, both_right);
  short = not-true _ (search (both_left, both_right));
  knows = not-true _ (search (both_left, both_right));
}

module _ (file : List Field) where
  abbrev function_names : List (List ℕ)
  function_names = identifiers_at subject_members file

  abbrev domain_names : List (List ℕ)
  domain_names = domains_at subject_name file

  -- a field that is good for its place
  pub field_written : (kind : Value) (f : Field) (place : ℕ) → f.place ≡ place → (row_at place).value ≡ kind → bare_is_none kind ≡ false
      → is_empty (row_at place).block ≡ true → is_good file f ≡ true → Written kind f
  field_written kind f place e k n b h = let g = good file f h in written kind f (rw e k) n (rw e b) g.right g.filled

  pub key_written : {key : ℕ → ℕ} {scalar : Scalar} {c : ℕ} → KeyPlace key scalar c → (f : Field) → is_good file f ≡ true → f.place ≡ key c → Written (One scalar) f
  unfolding bare_is_none
  key_written {key} {scalar} {c} k f h e = field_written (One scalar) f (key c) e k.value refl k.block h

  module _ {c : ℕ} (at : ContextAt c) where
    pattern_few : (f : Field) → f.place ≡ call_context_in c → long_pattern f ≡ false → length (elements f.value) ≤ most_elements
    unfolding long_pattern is_at_one
    pattern_few f e h = ltb-false _ _ (rw (e, (pattern_place at).listed) at h)

    pattern_known : (f : Field) → f.place ≡ call_context_in c → names_unknown file f ≡ false → all_of (known function_names domain_names) (elements f.value) ≡ true
    unfolding names_unknown element_names is_at_one all_known
    pattern_known f e h = not-false _ (rw (e, (pattern_place at).not_subject, (pattern_place at).not_subjects, (pattern_place at).not_objects, (pattern_place at).listed) at h)

    pattern_field : (f : Field) → is_good file f ≡ true → f.place ≡ call_context_in c → PatternValue function_names domain_names (meant f)
    unfolding bare_is_none
    pattern_field f h e =
        let g = good file f h in
        let w = field_written (SomeOf PatternElement) f (call_context_in c) e (pattern_place at).value refl (pattern_place at).block h in
        let r = some_right f.value w.right in
        rw w.plain
        (record { right = r.1; some = some_elements f.value r.0 r.1; few = pattern_few f e g.short; knows = pattern_known f e g.knows })

    -- the pattern of a context, written or not
    pub pattern_value : (fs : List Field) → all_of (is_good file) fs ≡ true → PatternValue function_names domain_names (value_at (call_context_in c) fs)
    pattern_value fs h =
        value_holds (call_context_in c) (PatternValue function_names domain_names) (is_good file) pattern_field fs h
        (λ e. rw (pattern_place at).default (default_pattern function_names domain_names))

    -- the sort at a key that takes what a gid takes
    gid_value : (key : ℕ → ℕ) → KeyPlace key GidValue c → (fs : List Field) → all_of (is_good file) fs ≡ true → is_gid_sort (sort_of (value_at (key c) fs)) ≡ true
    gid_value key place fs h =
        value_holds (key c) (λ v. is_gid_sort (sort_of v) ≡ true) (is_good file)
        (λ f g e. let w = key_written place f g e in rw w.plain (gid_sort f.value (one_right GidValue f.value w.right)))
        fs h
        (λ e. rw place.default default_gid)

    pub context_proper : (fs : List Field) → all_of (is_good file) fs ≡ true → proper_context (length function_names) (length domain_names) (context_of function_names domain_names c fs) ≡ true
    unfolding proper_context context_of
    context_proper fs h =
        let v = pattern_value fs h in
        let one-to-most : within 1 most_elements (length (map (element_of function_names domain_names) (elements (value_at (call_context_in c) fs)))) ≡ true =
        rw length-map (both_true _ _ (le-leb _ _ v.some) (le-leb _ _ v.few)) in
        both_true _ _
        (both_true _ _
        (both_true _ _
        one-to-most
        (all_below_lem function_names domain_names (elements (value_at (call_context_in c) fs)) v.knows))
        (gid_value gid_in (gid_place at) fs h))
        (gid_value namespace_in (namespace_place at) fs h)
