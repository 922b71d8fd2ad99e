-- What the code reads of an element is what the paper says of the scalar.
use mathlib.Core.Path.{◌≡◌, refl, sym, ap, ◌∙◌}
use mathlib.Core.Bool.{Bool, true, false, cond, not, ◌&&◌, and_assoc, and-true, and-false, or-false, false≢true}
use mathlib.Core.List.{List, [], ◌∷◌}
use Prim.Native.Nat.{ℕ, suc, ◌+◌, ◌-◌, ◌*◌, ◌^◌, ◌<◌, ◌≤◌}
use mathlib.Core.Logic.{dite}
use native.Mathlib.Decide.{dec_lt}
use native.Mathlib.Omega.{arith}
use mir.Syntax.{w64}
use mir.Val.{Fits}
use lib.Dec.{eqb, leb, ltb}
use lib.ListN.{length, get_or, take, drop, length-drop, drop_of_length-le}
use lib.Seq.{drop-drop, get_or-take, get_or-drop, length-take-le}
use borrow.Author.Tests.{eqb-true, le-leb, ne_eqb, eq-eqb, lt-ltb, le-ltb}
use Rattle.paper.specs.Common.{within, is, any_of, all_of, cut}
use Rattle.paper.specs.Text.{comma, bar}
use Rattle.paper.specs.declared.Kind.{Kind}
use Rattle.paper.specs.declared.Scalar.{Scalar}
use Rattle.paper.specs.Scalars.{is_letter, is_digit, name_byte, is_name, is_domain_name, identifier_byte, identifier_first, parts_fit, is_identifier, is_scalar}
use Rattle.paper.specs.declared.Kind.TheVariants.{Subject, Object}
use Rattle.paper.specs.declared.Scalar.TheVariants.{DomainName, SubjectIdentifier, ObjectIdentifier, PatternElement}
use Rattle.laws.specs.Pieces.{before}
use Rattle.laws.proofs.Tests.{both_left, both_true, both_false}
use Rattle.laws.proofs.Counting.{all_of_weaker}
use Rattle.laws.proofs.Chains.{tested_false, tested_true}
use Rattle.text_bytes.specs.Classes.{part_of, run}
use Rattle.laws.proofs.Pieces.{before_within, piece_within}
use Rattle.text_scalars.proofs.Classed.{name_in_identifier, all_bytes}
use Rattle.text_lists.specs.Walk.{element_to, element_at, elements_left, SpacedFrom}
use Rattle.text_lists.specs.Reading.{element_from, end_from, element_ends, bar_stands, read_if, read_at}
use Rattle.std.specs.Prelude.{Option, Some, None}
use Rattle.text_lists.proofs.Walk.{element_found, left_found, spaced_found}
use Rattle.text_lists.proofs.Reading.{plain, parts_test, ended_at, barred_at, no_bar_at, no_end_at, end_is, end_behind, all_of_run, not_ended, before_ended}

-- ---- what a reading says

pub begins_is : (s : List ℕ) (at end : ℕ) (first : Bool) → first ≡ identifier_first (get_or s at 0) → (leb (end - at) 128 && first) ≡ (leb (end - at) 128 && identifier_first (get_or s at 0))
begins_is s at end first e = rw e

module _ (k : Scalar) (s : List ℕ) (at : ℕ) (r : Option ℕ) (q : r ≡ read_at k s at) where
  pub read_wrong : r ≡ None → is_scalar k (element_from s at) ≡ false
  unfolding read_at
  read_wrong n = go (is_scalar k (element_from s at)) q
    where
      go : (t : Bool) → r ≡ read_if t (end_from s at) → t ≡ false
      go true e = absurd (let z : ◌≡◌ {A = ℕ} 0 1 = cc in omega arith)
      go false e = refl

  module _ (end : ℕ) (n : r ≡ Some end) where
    pub read_right : is_scalar k (element_from s at) ≡ true
    unfolding read_at
    read_right = go (is_scalar k (element_from s at)) q
      where
        go : (t : Bool) → r ≡ read_if t (end_from s at) → t ≡ true
        go true e = refl
        go false e = absurd (let z : ◌≡◌ {A = ℕ} 0 1 = cc in omega arith)

    pub read_ends : end ≡ end_from s at
    unfolding read_at
    read_ends = go (is_scalar k (element_from s at)) q
      where
        go : (t : Bool) → r ≡ read_if t (end_from s at) → end ≡ end_from s at
        go true e = cc
        go false e = absurd (let z : ◌≡◌ {A = ℕ} 0 1 = cc in omega arith)

    pub read_within : at ≤ length s → end ≤ length s
    read_within h = piece_within comma s at end read_ends h

    pub read_less : at ≤ length s → length s + 3 - (end + 2) < length s + 3 - at
    read_less h = omega (arith, read_ends)

    pub spaced_read : at ≤ length s → SpacedFrom s at → SpacedFrom s (end + 2)
    spaced_read h w =
        rw read_ends (spaced_found s at (element_at s at) refl (element_to (end_from s at)) (sym (element_found s at (end_from s at) refl h)) w)

    pub read_fits : at ≤ length s → length s * 1 < 2 ^ 63 → Fits w64 (end + 2)
    read_fits h l = omega (arith, read_within h)

-- ---- the elements that are left begin with the one that is read

module _ (s : List ℕ) (at : ℕ) (h : at ≤ length s) (w : SpacedFrom s at) where
  pub left_read : elements_left s at ≡ element_from s at ∷ elements_left s (end_from s at + 2)
  left_read =
      let p : end_from s at - at ≡ before comma (drop at s) = omega arith in
      left_found s at (element_at s at) refl (element_to (end_from s at)) (sym (element_found s at (end_from s at) refl h)) w
      ∙ ap (λ (n : ℕ). take n (drop at s) ∷ elements_left s (end_from s at + 2)) p

-- ---- identifiers

run_within : (p : ℕ → Bool) (x : List ℕ) → run p x ≤ length x
unfolding run
run_within p [] = omega arith
run_within p (b ∷ bs) = go (p b) (run_within p bs)
  where
    go : (t : Bool) → run p bs ≤ length bs → cond t (suc (run p bs)) 0 ≤ suc (length bs)
    go true k = omega arith
    go false k = omega arith

module _ (f : ℕ → Bool) (s : List ℕ) (at a : ℕ) (fa : a ≡ at + run (part_of f) (drop at s)) where
  pub part_within : at ≤ length s → a ≤ length s
  part_within h = omega (arith, run_within (part_of f) (drop at s), length-drop at s)

module _ (kind : Kind) (s : List ℕ) (at : ℕ) where
  identifier_not : parts_test (parts_fit kind) (drop at s) ≡ false → is_identifier kind (element_from s at) ≡ false
  unfolding is_identifier
  identifier_not h =
      and_assoc size (all_of identifier_byte (element_from s at)) (parts_fit kind (cut bar (element_from s at)))
      ∙ both_false size (parts_test (parts_fit kind) (drop at s)) h
    where
      size : Bool
      size = within 1 128 (length (element_from s at)) && identifier_first (get_or (element_from s at) 0 0)

  identifier_read : (end : ℕ) → end_from s at ≡ end → at < end
      → is_identifier kind (element_from s at) ≡ ((leb (end - at) 128 && identifier_first (get_or s at 0)) && parts_test (parts_fit kind) (drop at s))
  unfolding is_identifier
  identifier_read end f some =
      let n : before comma (drop at s) ≡ end - at = omega arith in
      let l : length (element_from s at) ≡ end - at = length-take-le (before comma (drop at s)) (drop at s) (before_within comma (drop at s)) ∙ n in
      let o : at + 0 ≡ at = omega arith in
      let g : get_or (element_from s at) 0 0 ≡ get_or s at 0 =
      get_or-take (before comma (drop at s)) (drop at s) 0 0 (omega arith) ∙ get_or-drop at s 0 0 ∙ ap (λ (i : ℕ). get_or s i 0) o in
      rw (l, le-leb 1 (end - at) (omega arith), g) (
      and_assoc (leb (end - at) 128 && identifier_first (get_or s at 0)) (all_of identifier_byte (element_from s at)) (parts_fit kind (cut bar (element_from s at))))

some_between : (i j : ℕ) → i ≤ j → not (eqb (j - i) 0) ≡ ltb i j
some_between i j h =
    dite (dec_lt i j)
    (λ (k : i < j). rw (lt-ltb i j k, ne_eqb (j - i) 0 (λ z. omega arith)))
    (λ (k : ¬ (i < j)). let z : j - i ≡ 0 = omega arith in let m : j ≤ i = omega arith in rw (le-ltb i j m, eq-eqb (j - i) 0 z))

taken_length : (s : List ℕ) (i j : ℕ) → i ≤ j → j ≤ length s → length (take (j - i) (drop i s)) ≡ j - i
taken_length s i j h k = length-take-le (j - i) (drop i s) (omega (arith, length-drop i s))

subject_one : (y : List ℕ) → parts_fit Subject (y ∷ []) ≡ false
unfolding parts_fit
subject_one y = refl

subject_three : (x y z : List ℕ) (zs : List (List ℕ)) → parts_fit Subject (x ∷ y ∷ z ∷ zs) ≡ false
unfolding parts_fit
subject_three x y z zs = rw (ne_eqb (suc (suc (suc (length zs)))) 2 (λ z. omega arith))

pub bar_within : (s : List ℕ) (a : ℕ) (told : Bool) → told ≡ bar_stands (drop a s) → not told ≡ false → a < length s
unfolding bar_stands
bar_within s a told e t =
    dite (dec_lt a (length s)) (λ (h : a < length s). h)
    (λ (h : ¬ (a < length s)). let k : length s ≤ a = omega arith in
    absurd (false≢true (sym (ap bar_stands (drop_of_length-le s k)) ∙ tested_true _ told e t)))

module _ (s : List ℕ) (a : ℕ) (told : Bool) (e : told ≡ bar_stands (drop a s)) (t : not told ≡ false) where
  pub bar_to : a ≤ length s
  bar_to = omega (arith, bar_within s a told e t)

  pub behind_bar_to : a + 1 ≤ length s
  behind_bar_to = omega (arith, bar_within s a told e t)

  pub behind_bar_fits : length s * 1 < 2 ^ 63 → Fits w64 (a + 1)
  behind_bar_fits l = omega (arith, bar_within s a told e t)

  pub begins_within : (at : ℕ) → a ≡ at + run plain (drop at s) → at < length s
  begins_within at fa = omega (arith, bar_within s a told e t)

  pub last_to : (d : ℕ) → d ≡ a + 1 + run plain (drop (a + 1) s) → d ≤ length s
  last_to d fd = let w : a < length s = bar_within s a told e t in part_within identifier_byte s (a + 1) d fd (omega arith)

module _ (s : List ℕ) (at a b : ℕ) (fa : a ≡ at + run plain (drop at s)) (fb : b ≡ a + 1 + run plain (drop (a + 1) s)) where
  pub two_parts_from : at ≤ b
  two_parts_from = omega arith

  pub four_parts_from : (c d : ℕ) → c ≡ b + 1 + run plain (drop (b + 1) s) → d ≡ c + 1 + run plain (drop (c + 1) s) → at ≤ d
  four_parts_from c d fc fd = omega arith

module _ (s : List ℕ) (at a : ℕ) (fa : a ≡ at + run plain (drop at s)) (told : Bool) (e : told ≡ bar_stands (drop a s)) where
  pub subject_no_bar : not told ≡ true → None ≡ read_at SubjectIdentifier s at
  unfolding read_at is_scalar
  subject_no_bar t = rw (identifier_not Subject s at (no_bar_at s at a fa (parts_fit Subject) subject_one (tested_false _ told e t)))

  module _ (t : not told ≡ false) (b : ℕ) (fb : b ≡ a + 1 + run plain (drop (a + 1) s)) (ends : Bool) (g : ends ≡ element_ends (drop b s)) where
    pub subject_no_end : not ends ≡ true → None ≡ read_at SubjectIdentifier s at
    unfolding read_at is_scalar
    subject_no_end u = rw (identifier_not Subject s at (
        barred_at s at a fa (parts_fit Subject) (tested_true _ told e t)
        ∙ no_end_at s (a + 1) b fb (λ ps. parts_fit Subject (take (a - at) (drop at s) ∷ ps)) (λ y z zs. subject_three _ y z zs) (tested_false _ ends g u)))

    module _ (u : not ends ≡ false) where
      subject_ends : end_from s at ≡ b
      subject_ends = end_behind s at a fa (tested_true _ told e t) ∙ end_is s (a + 1) b fb (tested_true _ ends g u)

      subject_parts : parts_test (parts_fit Subject) (drop at s) ≡ (ltb at a && ltb (a + 1) b)
      unfolding parts_fit all_of
      subject_parts =
          let within : a < length s = bar_within s a told e t in
          let full : b ≤ length s = part_within identifier_byte s (a + 1) b fb (omega arith) in
          barred_at s at a fa (parts_fit Subject) (tested_true _ told e t)
          ∙ ended_at s (a + 1) b fb (λ ps. parts_fit Subject (take (a - at) (drop at s) ∷ ps)) (tested_true _ ends g u)
          ∙ rw (taken_length s at a (omega arith) (omega arith), taken_length s (a + 1) b (omega arith) full, some_between at a (omega arith), some_between (a + 1) b (omega arith), and-true)

      pub subject_read : (begins : Bool) (r : Option ℕ) → begins ≡ (leb (b - at) 128 && identifier_first (get_or s at 0))
          → r ≡ read_if (begins && ltb at a && ltb (a + 1) b) b → r ≡ read_at SubjectIdentifier s at
      unfolding read_at is_scalar
      subject_read begins r f h = rw (h, f, identifier_read Subject s at b subject_ends (omega arith), subject_parts, subject_ends, and_assoc)

-- ---- objects: four parts

object_one : (y : List ℕ) → parts_fit Object (y ∷ []) ≡ false
unfolding parts_fit
object_one y = refl

object_two : (x y : List ℕ) → parts_fit Object (x ∷ y ∷ []) ≡ false
unfolding parts_fit
object_two x y = refl

object_three : (x y z : List ℕ) → parts_fit Object (x ∷ y ∷ z ∷ []) ≡ false
unfolding parts_fit
object_three x y z = refl

object_five : (v w x y z : List ℕ) (zs : List (List ℕ)) → parts_fit Object (v ∷ w ∷ x ∷ y ∷ z ∷ zs) ≡ false
unfolding parts_fit
object_five v w x y z zs = rw (ne_eqb (suc (suc (suc (suc (suc (length zs)))))) 4 (λ z. omega arith))

module _ (s : List ℕ) (at a : ℕ) (fa : a ≡ at + run plain (drop at s)) (told : Bool) (e : told ≡ bar_stands (drop a s)) where
  pub object_no_sort : not told ≡ true → None ≡ read_at ObjectIdentifier s at
  unfolding read_at is_scalar
  object_no_sort t = rw (identifier_not Object s at (no_bar_at s at a fa (parts_fit Object) object_one (tested_false _ told e t)))

  module _ (t : not told ≡ false) (b : ℕ) (fb : b ≡ a + 1 + run plain (drop (a + 1) s)) (told-b : Bool) (eb : told-b ≡ bar_stands (drop b s)) where
    behind_sort : parts_test (parts_fit Object) (drop at s) ≡ parts_test (λ ps. parts_fit Object (take (a - at) (drop at s) ∷ ps)) (drop (a + 1) s)
    behind_sort = barred_at s at a fa (parts_fit Object) (tested_true _ told e t)

    pub object_no_path : not told-b ≡ true → None ≡ read_at ObjectIdentifier s at
    unfolding read_at is_scalar
    object_no_path u = rw (identifier_not Object s at (
        behind_sort
        ∙ no_bar_at s (a + 1) b fb (λ ps. parts_fit Object (take (a - at) (drop at s) ∷ ps)) (λ y. object_two _ y) (tested_false _ told-b eb u)))

    module _ (u : not told-b ≡ false) (c : ℕ) (fc : c ≡ b + 1 + run plain (drop (b + 1) s)) (told-c : Bool) (ec : told-c ≡ bar_stands (drop c s)) where
      behind_path : parts_test (parts_fit Object) (drop at s)
          ≡ parts_test (λ ps. parts_fit Object (take (a - at) (drop at s) ∷ take (b - (a + 1)) (drop (a + 1) s) ∷ ps)) (drop (b + 1) s)
      behind_path = behind_sort ∙ barred_at s (a + 1) b fb (λ ps. parts_fit Object (take (a - at) (drop at s) ∷ ps)) (tested_true _ told-b eb u)

      pub object_no_line : not told-c ≡ true → None ≡ read_at ObjectIdentifier s at
      unfolding read_at is_scalar
      object_no_line v = rw (identifier_not Object s at (
          behind_path
          ∙ no_bar_at s (b + 1) c fc (λ ps. parts_fit Object (take (a - at) (drop at s) ∷ take (b - (a + 1)) (drop (a + 1) s) ∷ ps)) (λ y. object_three _ _ y) (tested_false _ told-c ec v)))

      module _ (v : not told-c ≡ false) (d : ℕ) (fd : d ≡ c + 1 + run plain (drop (c + 1) s)) (ends : Bool) (g : ends ≡ element_ends (drop d s)) where
        behind_line : parts_test (parts_fit Object) (drop at s)
            ≡ parts_test (λ ps. parts_fit Object (take (a - at) (drop at s) ∷ take (b - (a + 1)) (drop (a + 1) s) ∷ take (c - (b + 1)) (drop (b + 1) s) ∷ ps)) (drop (c + 1) s)
        behind_line = behind_path
            ∙ barred_at s (b + 1) c fc (λ ps. parts_fit Object (take (a - at) (drop at s) ∷ take (b - (a + 1)) (drop (a + 1) s) ∷ ps)) (tested_true _ told-c ec v)

        pub object_no_end : not ends ≡ true → None ≡ read_at ObjectIdentifier s at
        unfolding read_at is_scalar
        object_no_end w = rw (identifier_not Object s at (
            behind_line
            ∙ no_end_at s (c + 1) d fd (λ ps. parts_fit Object (take (a - at) (drop at s) ∷ take (b - (a + 1)) (drop (a + 1) s) ∷ take (c - (b + 1)) (drop (b + 1) s) ∷ ps))
            (λ y z zs. object_five _ _ _ y z zs) (tested_false _ ends g w)))

        pub object_read : (begins fits : Bool) (r : Option ℕ) → not ends ≡ false
            → fits ≡ parts_fit Object (take (a - at) (drop at s) ∷ take (b - (a + 1)) (drop (a + 1) s) ∷ take (c - (b + 1)) (drop (b + 1) s) ∷ take (d - (c + 1)) (drop (c + 1) s) ∷ [])
            → begins ≡ (leb (d - at) 128 && identifier_first (get_or s at 0)) → r ≡ read_if (begins && fits) d → r ≡ read_at ObjectIdentifier s at
        unfolding read_at is_scalar
        object_read begins fits r w k f h =
            let m : end_from s at ≡ d =
            end_behind s at a fa (tested_true _ told e t)
            ∙ end_behind s (a + 1) b fb (tested_true _ told-b eb u)
            ∙ end_behind s (b + 1) c fc (tested_true _ told-c ec v)
            ∙ end_is s (c + 1) d fd (tested_true _ ends g w) in
            let p : parts_test (parts_fit Object) (drop at s) ≡ fits =
            behind_line
            ∙ ended_at s (c + 1) d fd (λ ps. parts_fit Object (take (a - at) (drop at s) ∷ take (b - (a + 1)) (drop (a + 1) s) ∷ take (c - (b + 1)) (drop (b + 1) s) ∷ ps)) (tested_true _ ends g w)
            ∙ sym k in
            rw (h, f, identifier_read Object s at d m (omega arith), p, m)

-- ---- names

name_no_bar : (b : ℕ) → name_byte b ≡ true → not (eqb b bar) ≡ true
unfolding name_byte is_letter is_digit any_of
name_no_bar b h = go (eqb b bar) refl
  where
    go : (t : Bool) → eqb b bar ≡ t → not t ≡ true
    go true e = absurd (false≢true (sym (ap name_byte (eqb-true b bar e)) ∙ h))
    go false e = refl

-- whatever holds of a name's bytes does not hold of some byte: it is no name
not_all_of : (p : ℕ → Bool) (x : List ℕ) → ((b : ℕ) → name_byte b ≡ true → p b ≡ true) → all_of p x ≡ false → all_of name_byte x ≡ false
not_all_of p x w h = go (all_of name_byte x) refl
  where
    go : (t : Bool) → all_of name_byte x ≡ t → t ≡ false
    go true e = absurd (false≢true (sym h ∙ all_of_weaker name_byte p w x e))
    go false e = refl

module _ (f : ℕ → Bool) (no_comma : part_of f comma ≡ false) (wider : (b : ℕ) → name_byte b ≡ true → part_of f b ≡ true) (s : List ℕ) (at a : ℕ) (fa : a ≡ at + run (part_of f) (drop at s)) where
  stop_is : drop (run (part_of f) (drop at s)) (drop at s) ≡ drop a s
  stop_is = rw fa (drop-drop (run (part_of f) (drop at s)) at s)

  no_name_bytes : element_ends (drop a s) ≡ false → all_of name_byte (element_from s at) ≡ false
  no_name_bytes h = not_all_of (part_of f) (element_from s at) wider (not_ended (part_of f) no_comma (drop at s) (ap element_ends stop_is ∙ h))

  run_is : element_ends (drop a s) ≡ true → before comma (drop at s) ≡ run (part_of f) (drop at s)
  run_is h = before_ended (part_of f) no_comma (drop at s) (ap element_ends stop_is ∙ h)

  ends_there : element_ends (drop a s) ≡ true → end_from s at ≡ a
  ends_there h = omega (arith, run_is h)

  element_there : element_ends (drop a s) ≡ true → element_from s at ≡ take (a - at) (drop at s)
  element_there h = let q : before comma (drop at s) ≡ a - at = omega (arith, run_is h) in ap (λ (n : ℕ). take n (drop at s)) q

  run_passes : element_ends (drop a s) ≡ true → all_of (part_of f) (element_from s at) ≡ true
  run_passes h = ap (λ (n : ℕ). all_of (part_of f) (take n (drop at s))) (run_is h) ∙ all_of_run (part_of f) no_comma (drop at s)

no_domain_name : (x : List ℕ) → all_of name_byte x ≡ false → is_domain_name x ≡ false
unfolding is_domain_name is_name
no_domain_name x h = rw (h, and-false)

no_all : (x : List ℕ) → all_of name_byte x ≡ false → is "all" x ≡ false
no_all x h = go (is "all" x) refl
  where
    go : (t : Bool) → is "all" x ≡ t → t ≡ false
    go true e = absurd (false≢true (sym h ∙ all_bytes x e))
    go false e = refl

name_wider : (b : ℕ) → name_byte b ≡ true → part_of name_byte b ≡ true
name_wider b h = both_true (name_byte b) (not (eqb b bar)) h (name_no_bar b h)

name_no_comma : part_of name_byte comma ≡ false
unfolding name_byte is_letter is_digit any_of
name_no_comma = refl

plain_wider : (b : ℕ) → name_byte b ≡ true → plain b ≡ true
plain_wider b h = both_true (identifier_byte b) (not (eqb b bar)) (name_in_identifier b h) (name_no_bar b h)

plain_comma : plain comma ≡ false
unfolding identifier_byte any_of
plain_comma = refl

module _ (s : List ℕ) (at a : ℕ) (fa : a ≡ at + run (part_of name_byte) (drop at s)) (ends : Bool) (g : ends ≡ element_ends (drop a s)) where
  pub name_no_end : not ends ≡ true → None ≡ read_at DomainName s at
  unfolding read_at is_scalar
  name_no_end u = rw (no_domain_name (element_from s at) (no_name_bytes name_byte name_no_comma name_wider s at a fa (tested_false _ ends g u)))

  pub name_read : (size all : Bool) (r : Option ℕ) → not ends ≡ false → size ≡ within 1 64 (length (take (a - at) (drop at s))) → all ≡ is "all" (take (a - at) (drop at s))
      → r ≡ read_if (size && not all) a → r ≡ read_at DomainName s at
  unfolding read_at is_scalar is_domain_name is_name
  name_read size all r u k l h =
      let w : element_ends (drop a s) ≡ true = tested_true _ ends g u in
      let e : element_from s at ≡ take (a - at) (drop at s) = element_there name_byte name_no_comma name_wider s at a fa w in
      let f : end_from s at ≡ a = ends_there name_byte name_no_comma name_wider s at a fa w in
      let y : all_of name_byte (element_from s at) ≡ true =
      all_of_weaker (part_of name_byte) name_byte (λ b q. both_left (name_byte b) (not (eqb b bar)) q) (element_from s at) (run_passes name_byte name_no_comma name_wider s at a fa w) in
      rw (y, f, e, h, k, l, and-true)

-- ---- elements of patterns

module _ (s : List ℕ) (at a : ℕ) (fa : a ≡ at + run plain (drop at s)) (ends : Bool) (g : ends ≡ element_ends (drop a s)) where
  pub pattern_subject : (r : Option ℕ) → not ends ≡ true → r ≡ read_at SubjectIdentifier s at → r ≡ read_at PatternElement s at
  unfolding read_at is_scalar
  pattern_subject r u h =
      let n : all_of name_byte (element_from s at) ≡ false = no_name_bytes identifier_byte plain_comma plain_wider s at a fa (tested_false _ ends g u) in
      rw (no_all (element_from s at) n, no_domain_name (element_from s at) n, or-false) h

  module _ (u : not ends ≡ false) (all : Bool) (l : all ≡ is "all" (take (a - at) (drop at s))) where
    there : element_from s at ≡ take (a - at) (drop at s)
    there = element_there identifier_byte plain_comma plain_wider s at a fa (tested_true _ ends g u)

    pub pattern_all : all ≡ true → Some a ≡ read_at PatternElement s at
    unfolding read_at is_scalar
    pattern_all t = rw (there, ← l, t, ends_there identifier_byte plain_comma plain_wider s at a fa (tested_true _ ends g u))

    pub pattern_name : (name : Bool) (r : Option ℕ) → all ≡ false → name ≡ is_domain_name (take (a - at) (drop at s)) → r ≡ read_if name a → r ≡ read_at PatternElement s at
    unfolding read_at is_scalar
    pattern_name name r t k h =
        let i : is_identifier Subject (element_from s at) ≡ false = identifier_not Subject s at (ended_at s at a fa (parts_fit Subject) (tested_true _ ends g u) ∙ subject_one _) in
        rw (i, there, ← l, t, ← k, h, ends_there identifier_byte plain_comma plain_wider s at a fa (tested_true _ ends g u))

-- ---- any other scalar

pub other_read : (k : Scalar) (s : List ℕ) (at a : ℕ) (right : Bool) (r : Option ℕ) → a ≡ at + before comma (drop at s) → right ≡ is_scalar k (take (a - at) (drop at s)) → r ≡ read_if right a → r ≡ read_at k s at
unfolding read_at
other_read k s at a right r f e h = let q : a - at ≡ before comma (drop at s) = omega arith in rw (h, e, q, f)

pub read_known : (scalar known : Scalar) (s : List ℕ) (at : ℕ) (r : Option ℕ) → scalar ≡ known → r ≡ read_at known s at → r ≡ read_at scalar s at
read_known scalar known s at r e f = rw e f
