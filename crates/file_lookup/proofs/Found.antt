-- What name lookup answers: each field at a name's place of an accepted text holds a domain name that stands in the text.
use mathlib.Core.Path.{◌≡◌, refl}
use mathlib.Core.Bool.{Bool, true, false, cond, not, ◌&&◌, ◌||◌, false≢true}
use mathlib.Core.List.{List}
use mathlib.Core.Logic.{◌↔◌, ◌⊎◌, inl, inr, ⊎_elim}
use Prim.Native.Nat.{ℕ, ◌+◌, ◌<◌, ◌≤◌}
use native.Mathlib.Omega.{arith}
use lib.Dec.{eqb, leb}
use lib.ListN.{length, get_or, take, drop, length-take, length-drop}
use borrow.Author.Tests.{eqb-true, leb-true, lt-ltb, le-ltb}
use Rattle.paper.specs.declared.Map.{Map}
use Rattle.paper.specs.declared.Map.TheVariants.{Objects, Subjects}
use Rattle.paper.specs.Common.{is_empty, all_of, is}
use Rattle.paper.specs.Limits.{text_bytes}
use Rattle.paper.specs.Scalars.{is_name, is_domain_name, is_scalar}
use Rattle.paper.specs.Listing.{listing, row_at, bare_is_none, value_fault}
use Rattle.paper.specs.Page.{Field, no_field, Outcome, fields, fault, before_first, page_of}
use Rattle.paper.specs.Entries.{is_at, fields_at}
use Rattle.paper.specs.Lookup.{Stretch, front, stretch_of, names_of, name_among}
use Rattle.paper.specs.Promises.{file_of, lookup_answer}
use Rattle.laws.proofs.Tests.{both_left, both_right, same_equal, le_or_lt}
use Rattle.laws.proofs.Counting.{all_of_at}
use Rattle.laws_page.specs.Right.{is_right, stands}
use Rattle.laws_page.proofs.Right.{fields_stand}
use Rattle.laws_file.specs.Accepted.{is_filled}
use Rattle.laws_file.proofs.Stretched.{all_of_both, at_place}
use Rattle.laws_file.proofs.Ordered.{fields_filled}
use Rattle.laws_file.proofs.EachRule.{page_right, page_in_order}
use Rattle.laws_file.proofs.Reader.{accepted_page}
use Rattle.laws_file.proofs.Accepted.{accepted_exactly}
use Rattle.file_lookup.specs.Names.{count_of, NoSuchName, NameStands, name_bytes, Bounded}

-- ---- a name

-- a field at a name's place that is right and not left empty holds a domain name
right_name : (value : List ℕ) (empty : Bool) → (empty || eqb (cond (is_domain_name value) 0 5) 0) ≡ true → (not empty || false || false) ≡ true
    → is_domain_name value ≡ true
right_name value true r s = absurd (false≢true s)
right_name value false r s = go (is_domain_name value) r
  where
    go : (b : Bool) → eqb (cond b 0 5) 0 ≡ true → b ≡ true
    go true k = refl
    go false k = absurd (let z : 5 ≡ 0 = eqb-true 5 0 k in omega arith)

name_at_lem : (which : Map) (f : Field) → f.place ≡ names_of which → is_right f ≡ true → is_filled f ≡ true → is_domain_name f.value ≡ true
unfolding is_right is_filled row_at listing bare_is_none value_fault is_scalar
name_at_lem Objects f e r s = right_name f.value (is_empty f.value) (rw e at r) (rw e at s)
name_at_lem Subjects f e r s = right_name f.value (is_empty f.value) (rw e at r) (rw e at s)

-- "1 to 64 bytes"
name_length : (s : List ℕ) → is_domain_name s ≡ true → (1 ≤ length s) × (length s ≤ name_bytes)
unfolding is_domain_name is_name
name_length s h =
    let n : (leb 1 (length s) && leb (length s) 64) ≡ true = both_left (leb 1 (length s) && leb (length s) 64) _ (both_left _ (not (is "all" s)) h) in
    (leb-true 1 (length s) (both_left (leb 1 (length s)) _ n), leb-true (length s) 64 (both_right (leb 1 (length s)) _ n))

-- ---- where it stands

page_stands : (t : List ℕ) (fs : List Field) → page_of t ≡ fields fs → all_of (stands t) fs ≡ true
unfolding page_of
page_stands t fs page = fields_stand t before_first 1 0 fs page

-- bytes that are a stretch of the text lie within it
within_text : (t bs : List ℕ) (start : ℕ) → bs ≡ take (length bs) (drop start t) → 1 ≤ length bs → start + length bs ≤ length t
within_text t bs start e h =
    let q : length bs ≡ length (take (length bs) (drop start t)) = rw (← e) refl in
    omega (arith, q, length-take (length bs) (drop start t), length-drop start t)

-- ---- what lookup answers

module _ (t : List ℕ) (fs : List Field) (read : file_of t ≡ fields fs) (which : Map) (d : ℕ) where
  answer_is : lookup_answer t which d ≡ name_among (fields_at (names_of which) fs) d
  unfolding lookup_answer
  answer_is = rw read refl

  good : d < count_of which fs → (is_right (get_or (fields_at (names_of which) fs) d no_field) && is_filled (get_or (fields_at (names_of which) fs) d no_field)
      && stands t (get_or (fields_at (names_of which) fs) d no_field) && is_at (names_of which) (get_or (fields_at (names_of which) fs) d no_field)) ≡ true
  good h =
      let page : page_of t ≡ fields fs = (accepted_page t fs read).0 in
      all_of_at (λ f. is_right f && is_filled f && stands t f && is_at (names_of which) f) no_field (fields_at (names_of which) fs)
      (at_place (names_of which) (λ f. is_right f && is_filled f && stands t f) fs
      (all_of_both (λ f. is_right f && is_filled f) (stands t) fs
      (all_of_both is_right is_filled fs (page_right t fs page) (fields_filled 0 false fs (page_in_order t fs page)))
      (page_stands t fs page)))
      d h

  found_field : (f : Field) → (is_right f && is_filled f && stands t f && is_at (names_of which) f) ≡ true → NameStands t (stretch_of f)
  unfolding stretch_of stands
  found_field f h =
      let both : (is_right f && is_filled f && stands t f) ≡ true = both_left (is_right f && is_filled f && stands t f) _ h in
      let sound : (is_right f && is_filled f) ≡ true = both_left (is_right f && is_filled f) _ both in
      let placed : f.place ≡ names_of which = eqb-true f.place (names_of which) (both_right (is_right f && is_filled f && stands t f) _ h) in
      let named : is_domain_name f.value ≡ true = name_at_lem which f placed (both_left (is_right f) _ sound) (both_right (is_right f) _ sound) in
      let same : f.value ≡ take (length f.value) (drop f.start t) = same_equal f.value _ (both_right (is_right f && is_filled f) _ both) in
      record { name = named; very = same; inside = within_text t f.value f.start same (name_length f.value named).0 }

  -- of an accepted text and a number below the map's count: a domain name that stands in the text
  pub name_found : d < count_of which fs → NameStands t (lookup_answer t which d)
  unfolding name_among
  name_found h = rw (answer_is, lt-ltb d (count_of which fs) h) (found_field (get_or (fields_at (names_of which) fs) d no_field) (good h))

  past_count : count_of which fs ≤ d → lookup_answer t which d ≡ front
  unfolding name_among
  past_count h = rw (answer_is, le-ltb d (count_of which fs) h) refl

-- a name is not the empty stretch at the front
not_front : (t : List ℕ) (s : Stretch) → NameStands t s → s ≡ front → ⊥
unfolding front
not_front t s n e = let z : 1 ≤ length s.bytes = (name_length s.bytes n.name).0 in let k : 1 ≤ 0 = rw e at z in omega arith

-- "where the reader would refuse the text (2 to 11), or the number is not below that map's count, with an empty stretch at the front", and only there
pub name_none : (t : List ℕ) (which : Map) (d : ℕ) → (lookup_answer t which d ≡ front) ↔ NoSuchName which d (file_of t)
unfolding lookup_answer
name_none t which d = (λ e. only (file_of t) refl e, λ h. all (file_of t) refl h)
  where
    only : (o : Outcome) → file_of t ≡ o → lookup_answer t which d ≡ front → NoSuchName which d o
    only (fault number line) r e = tt
    only (fields fs) r e =
        ⊎_elim (λ (h : count_of which fs ≤ d). h)
        (λ (h : d < count_of which fs). absurd (not_front t (lookup_answer t which d) (name_found t fs r which d h) e))
        (le_or_lt (count_of which fs) d)

    all : (o : Outcome) → file_of t ≡ o → NoSuchName which d o → lookup_answer t which d ≡ front
    all (fault number line) r h = rw r refl
    all (fields fs) r h = past_count t fs r which d h

-- ---- for every text, map and number

-- a name that stands in a text that is not too long, or the front
found_or_front : (t : List ℕ) (which : Map) (d : ℕ) → (NameStands t (lookup_answer t which d) × (length t ≤ text_bytes)) ⊎ (lookup_answer t which d ≡ front)
found_or_front t which d = go (file_of t) refl
  where
    go : (o : Outcome) → file_of t ≡ o → (NameStands t (lookup_answer t which d) × (length t ≤ text_bytes)) ⊎ (lookup_answer t which d ≡ front)
    go (fault number line) r = inr ((name_none t which d).1 (rw r tt))
    go (fields fs) r =
        ⊎_elim (λ (h : count_of which fs ≤ d). inr (past_count t fs r which d h))
        (λ (h : d < count_of which fs). inl (name_found t fs r which d h, ((accepted_exactly t).0 (rw r refl)).short))
        (le_or_lt (count_of which fs) d)

-- what is empty stands at the front
pub empty_front : (t : List ℕ) (which : Map) (d : ℕ) → length (lookup_answer t which d).bytes ≡ 0 → lookup_answer t which d ≡ front
empty_front t which d z =
    ⊎_elim
    (λ (n : NameStands t (lookup_answer t which d) × (length t ≤ text_bytes)).
    absurd (omega (arith, (name_length (lookup_answer t which d).bytes n.0.name).0)))
    (λ (e : lookup_answer t which d ≡ front). e)
    (found_or_front t which d)

pub front_bounded : (t : List ℕ) → Bounded t front
unfolding front
front_bounded t = record { inside = omega arith; short = omega arith; low = omega arith }

-- the answer lies within the text, has at most 64 bytes and starts at 65,536 at most
pub name_bounded : (t : List ℕ) (which : Map) (d : ℕ) → Bounded t (lookup_answer t which d)
name_bounded t which d =
    ⊎_elim
    (λ (n : NameStands t (lookup_answer t which d) × (length t ≤ text_bytes)).
    record { inside = n.0.inside; short = (name_length (lookup_answer t which d).bytes n.0.name).1; low = omega (arith, n.0.inside, n.1) })
    (λ (e : lookup_answer t which d ≡ front). rw e (front_bounded t))
    (found_or_front t which d)
