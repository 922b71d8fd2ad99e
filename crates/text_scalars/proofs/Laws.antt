-- Scalars: what the code computes of a stretch is the paper's test.
use mathlib.Core.Path.{◌≡◌, refl, sym, ap, ◌∙◌}
use mathlib.Core.Bool.{Bool, true, false, not, ◌&&◌, ◌||◌, and-true, and_comm, or_assoc, or-false}
use mathlib.Core.List.{List, [], ◌∷◌}
use mathlib.Core.Logic.{dite}
use Prim.Native.String.{String}
use Prim.Native.Char.{code}
use Prim.Native.Nat.{ℕ, suc, ◌+◌, ◌-◌, ◌<◌, ◌≤◌}
use native.Mathlib.Decide.{dec_lt}
use native.Mathlib.Omega.{arith}
use lib.Dec.{eqb, leb}
use lib.ListN.{length, get_or, take, drop, length-drop}
use lib.Seq.{length-take-le}
use borrow.Author.Tests.{ne_eqb, lt-leb, le-leb}
use Rattle.paper.specs.Common.{bytes, within, same, is_one, any_of, all_of, cut}
use Rattle.paper.specs.Text.{bar}
use Rattle.paper.specs.Scalars.{is_digit, name_byte, identifier_byte, identifier_first, is_name, is_domain_name, is_variable, is_uid, is_gid}
use Rattle.paper.specs.Scalars.{is_line_number, meets, object_sorts, is_of_sort, parts_fit, is_identifier, is_scalar}
use Rattle.paper.specs.declared.Need.{Need}
use Rattle.paper.specs.declared.Kind.{Kind}
use Rattle.paper.specs.declared.Kind.TheVariants.{Subject, Object}
use Rattle.paper.specs.declared.Scalar.{Scalar}
use Rattle.paper.specs.declared.Scalar.TheVariants.{PatternElement}
use Rattle.laws.specs.Pieces.{before}
use Rattle.laws.proofs.Tests.{same_equal, eqb_same}
use Rattle.laws.proofs.Pieces.{piece_within, cut_more, cut_last, cut_some}
use Rattle.text_scalars.specs.Sorts.{parts_meet, sort_named, needs_of, meets_sort}
use Rattle.text_scalars.specs.declared.ObjectSort.{ObjectSort}
use Rattle.text_scalars.specs.declared.Needs.{Needs}
use Rattle.std.specs.Prelude.{Option, Some, None}
use Rattle.std.specs.List.{list_all}
use Rattle.laws.proofs.Library.{list_all_of}
use Rattle.text_scalars.specs.Classed.{fits_kind}
use Rattle.text_scalars.proofs.Classed.{identifier_splits}

-- ---- names, users and groups

module _ (s : List ℕ) where
  pub name_is : (right every : Bool) → right ≡ within 1 64 (length s) → every ≡ list_all name_byte s → (right && every) ≡ is_name s
  unfolding is_name
  name_is right every e f = rw (e, f, list_all_of name_byte s)

  module _ (name all root user : Bool) (e : all ≡ same (bytes "all") s) where
    pub domain_name_is : name ≡ is_name s → (name && not all) ≡ is_domain_name s
    unfolding is_domain_name
    domain_name_is n = rw (n, e)

    module _ (f : root ≡ same (bytes "root") s) (g : user ≡ same (bytes "user") s) where
      pub variable_is : name ≡ is_name s → (name && not (all || root || user)) ≡ is_variable s
      unfolding is_variable is_one any_of
      variable_is n = rw (n, e, f, g) (simp (or_assoc, or-false))

      pub uid_is_lem : (variable : Bool) → variable ≡ is_variable s → (root || user || all || variable) ≡ is_uid s
      unfolding is_uid is_one any_of
      uid_is_lem variable v = rw (v, e, f, g) (simp (or_assoc, or-false))

  pub gid_is_lem : (all variable : Bool) → all ≡ same (bytes "all") s → variable ≡ is_variable s → (all || variable) ≡ is_gid s
  unfolding is_gid
  gid_is_lem all variable e v = rw (e, v)

  -- ---- the parts of an object identifier

  pub no_line_number : length s < 1 → false ≡ is_line_number s
  unfolding is_line_number
  no_line_number h = rw (lt-leb 1 (length s) h)

  pub line_number_is : (every : Bool) → 1 ≤ length s → every ≡ list_all is_digit s → (leb (length s) 6 && every && not (eqb (get_or s 0 0) (code "0"))) ≡ is_line_number s
  unfolding is_line_number
  line_number_is every h e = rw (le-leb 1 (length s) h, e, list_all_of is_digit s)

  pub meets_known : (need known : Need) (r : Bool) → need ≡ known → r ≡ meets known s → r ≡ meets need s
  meets_known need known r e f = rw e f

pub parts_meet_is : (path line name : Need) (p l n : List ℕ) (a b c d : Bool) → a ≡ meets path p → b ≡ meets line l → c ≡ is_line_number l → d ≡ meets name n
    → (a && b && (eqb (length l) 0 || c) && d) ≡ parts_meet path line name p l n
unfolding parts_meet
parts_meet_is path line name p l n a b c d ea eb ec ed = rw (ea, eb, ec, ed)

-- ---- the sorts of object

-- where the word is that of a sort, the rows of the others fail
sort_table : (word p l n : List ℕ) → meets_sort (sort_named word) p l n ≡ any_of (is_of_sort (word ∷ p ∷ l ∷ n ∷ [])) object_sorts
unfolding object_sorts any_of is_of_sort parts_meet same
sort_table word p l n =
    by "GLOBAL" (λ q. rw (← q) (sym (or-false _)))
    (λ a. by "IO" (λ q. rw (← q) (sym (or-false _)))
    (λ b. by "HEAP" (λ q. rw (← q) (sym (or-false _)))
    (λ c. by "STACK_REGION" (λ q. rw (← q) (sym (or-false _)))
    (λ d. by "STACK_FRAME" (λ q. rw (← q) (sym (or-false _)))
    (λ e. by "OTHER" (λ q. rw (← q) (sym (or-false _)))
    (λ f. rw (a, b, c, d, e, f)))))))
  where
    Same : Type 0
    Same = meets_sort (sort_named word) p l n ≡ any_of (is_of_sort (word ∷ p ∷ l ∷ n ∷ [])) object_sorts

    by : (text : String) → (bytes text ≡ word → Same) → (same (bytes text) word ≡ false → Same) → Same
    by text named other = go (same (bytes text) word) refl
      where
        go : (t : Bool) → same (bytes text) word ≡ t → Same
        go true e = named (same_equal (bytes text) word e)
        go false e = other e

module _ (word p l n : List ℕ) (found : Option ObjectSort) (f : found ≡ sort_named word) where
  pub sort_fits : (sort : ObjectSort) (needs : Needs) (r : Bool) → found ≡ Some sort → needs ≡ needs_of sort → r ≡ parts_meet needs.path needs.line needs.name p l n
      → r ≡ parts_fit Object (word ∷ p ∷ l ∷ n ∷ [])
  unfolding parts_fit
  sort_fits sort needs r e g h = h ∙ rw (g) (ap (λ (o : Option ObjectSort). meets_sort o p l n) (sym e ∙ f)) ∙ sort_table word p l n

  pub no_sort_fits : found ≡ None → false ≡ parts_fit Object (word ∷ p ∷ l ∷ n ∷ [])
  unfolding parts_fit
  no_sort_fits e = ap (λ (o : Option ObjectSort). meets_sort o p l n) (sym e ∙ f) ∙ sort_table word p l n

-- ---- the parts between the `|`

module _ (s : List ℕ) (a : ℕ) (fa : a ≡ 0 + before bar (drop 0 s)) where
  one_part : length s ≤ a → cut bar s ≡ take (a - 0) s ∷ []
  one_part h = cut_last bar s 0 a fa (omega arith) h

  pub no_bar : (kind : Kind) → length s ≤ a → false ≡ parts_fit kind (cut bar s)
  unfolding parts_fit
  no_bar Subject h = rw (one_part h)
  no_bar Object h = rw (one_part h)

  module _ (ha : a < length s) (b : ℕ) (fb : b ≡ a + 1 + before bar (drop (a + 1) s)) where
    first_part : cut bar s ≡ take (a - 0) s ∷ cut bar (drop (a + 1) s)
    first_part = cut_more bar s 0 a fa ha

    two_parts : length s ≤ b → cut bar s ≡ take (a - 0) s ∷ take (b - (a + 1)) (drop (a + 1) s) ∷ []
    two_parts h = first_part ∙ ap (λ (ps : List (List ℕ)). take (a - 0) s ∷ ps) (cut_last bar s (a + 1) b fb (omega arith) h)

    left_length : length (take (a - 0) s) ≡ a
    left_length = let q : a - 0 ≡ a = omega arith in rw q (length-take-le a s (omega arith))

    right_length : length s ≤ b → length (take (b - (a + 1)) (drop (a + 1) s)) ≡ length s - (a + 1)
    right_length h = let q : b ≡ length s = omega (arith, piece_within bar s (a + 1) b fb (omega arith)) in
        rw q (length-take-le (length s - (a + 1)) (drop (a + 1) s) (omega (arith, length-drop (a + 1) s)))

    right_empty : (k : ℕ) → a < k → eqb (k - (a + 1)) 0 ≡ eqb (a + 1) k
    right_empty k q = eqb_same (k - (a + 1)) 0 (a + 1) k (λ e. omega arith) (λ e. omega arith)

    pub subject_parts : (leb (length s) b && not (eqb a 0) && not (eqb (a + 1) (length s))) ≡ parts_fit Subject (cut bar s)
    unfolding parts_fit all_of
    subject_parts = dite (dec_lt b (length s))
        (λ (h : b < length s). rw (
          lt-leb (length s) b h,
          first_part,
          cut_more bar s (a + 1) b fb h,
          (cut_some bar (drop (b + 1) s)).2,
          ne_eqb (suc (suc (suc (length (cut_some bar (drop (b + 1) s)).1)))) 2 (λ z. omega arith),
        ))
        (λ (h : ¬ (b < length s)). let k : length s ≤ b = omega arith in
        rw (le-leb (length s) b k, two_parts k, left_length, right_length k, right_empty (length s) (omega arith), and-true))

    pub one_bar : length s ≤ b → false ≡ parts_fit Object (cut bar s)
    unfolding parts_fit
    one_bar h = rw (two_parts h)

    module _ (hb : b < length s) (c : ℕ) (fc : c ≡ b + 1 + before bar (drop (b + 1) s)) where
      second_part : cut bar (drop (a + 1) s) ≡ take (b - (a + 1)) (drop (a + 1) s) ∷ cut bar (drop (b + 1) s)
      second_part = cut_more bar s (a + 1) b fb hb

      pub two_bars : length s ≤ c → false ≡ parts_fit Object (cut bar s)
      unfolding parts_fit
      two_bars h = rw (first_part, second_part, cut_last bar s (b + 1) c fc (omega arith) h)

      module _ (hc : c < length s) (d : ℕ) (fd : d ≡ c + 1 + before bar (drop (c + 1) s)) where
        third_part : cut bar (drop (b + 1) s) ≡ take (c - (b + 1)) (drop (b + 1) s) ∷ cut bar (drop (c + 1) s)
        third_part = cut_more bar s (b + 1) c fc hc

        pub four_bars : d < length s → false ≡ parts_fit Object (cut bar s)
        unfolding parts_fit
        four_bars h = rw (
          first_part,
          second_part,
          third_part,
          cut_more bar s (c + 1) d fd h,
          (cut_some bar (drop (d + 1) s)).2,
          ne_eqb (suc (suc (suc (suc (suc (length (cut_some bar (drop (d + 1) s)).1)))))) 4 (λ z. omega arith),
        )

        pub object_parts : (r : Bool) → length s ≤ d
            → r ≡ parts_fit Object (take (a - 0) (drop 0 s) ∷ take (b - (a + 1)) (drop (a + 1) s) ∷ take (c - (b + 1)) (drop (b + 1) s) ∷ take (length s - (c + 1)) (drop (c + 1) s) ∷ [])
            → r ≡ parts_fit Object (cut bar s)
        object_parts r h e = let q : length s ≡ d = omega (arith, piece_within bar s (c + 1) d fd (omega arith)) in
            rw (first_part, second_part, third_part, cut_last bar s (c + 1) d fd (omega arith) h, e, q)

pub parts_known : (kind known : Kind) (parts : List (List ℕ)) (r : Bool) → kind ≡ known → r ≡ parts_fit known parts → r ≡ parts_fit kind parts
parts_known kind known parts r e f = rw e f

-- ---- identifiers, over both kinds and every length

module _ (kind : Kind) (s : List ℕ) where
  pub fits_none : length s < 1 → false ≡ fits_kind kind s
  unfolding fits_kind
  fits_none h = rw (lt-leb 1 (length s) h)

  pub fits_kind_is : (first parts : Bool) → 1 ≤ length s → first ≡ identifier_first (get_or s 0 0) → parts ≡ parts_fit kind (cut bar s)
      → (leb (length s) 128 && first && parts) ≡ fits_kind kind s
  unfolding fits_kind
  fits_kind_is first parts h e f = rw (le-leb 1 (length s) h, e, f)

  pub identifier_is : (right every : Bool) → right ≡ fits_kind kind s → every ≡ all_of identifier_byte s → (right && every) ≡ is_identifier kind s
  identifier_is right every e f = rw (e, f) (and_comm (fits_kind kind s) (all_of identifier_byte s) ∙ sym (identifier_splits kind s))

  -- where the library's `all` looked at the bytes
  pub identifier_told : (right every : Bool) → right ≡ fits_kind kind s → every ≡ list_all identifier_byte s → (right && every) ≡ is_identifier kind s
  identifier_told right every e f = identifier_is right every e (f ∙ list_all_of identifier_byte s)

-- ---- scalars

module _ (s : List ℕ) (r all : Bool) (e : all ≡ same (bytes "all") s) where
  pub element_all : all ≡ true → true ≡ is_scalar PatternElement s
  unfolding is_scalar
  element_all t = rw (← e, t)

  module _ (t : all ≡ false) where
    pub element_identifier : r ≡ is_identifier Subject s → r ≡ true → r ≡ is_scalar PatternElement s
    unfolding is_scalar
    element_identifier f u = rw (← e, t, ← f, u)

    pub element_name : (identifier : Bool) → identifier ≡ is_identifier Subject s → identifier ≡ false → r ≡ is_domain_name s → r ≡ is_scalar PatternElement s
    unfolding is_scalar
    element_name identifier f u n = rw (← e, t, ← f, u, n)

pub scalar_known : (s : List ℕ) (r : Bool) (scalar known : Scalar) → scalar ≡ known → r ≡ is_scalar known s → r ≡ is_scalar scalar s
scalar_known s r scalar known e f = rw e f
