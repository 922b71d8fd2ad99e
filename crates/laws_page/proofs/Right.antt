-- What the fields of a page that is not refused are: right, numbered from 1, in the order of the listing, and stretches of the text.
use mathlib.Core.Path.{◌≡◌, refl, sym, ap, ◌∙◌}
use mathlib.Core.List.{List, [], ◌∷◌}
use mathlib.Core.Bool.{Bool, true, false, cond, not, ◌&&◌, ◌||◌}
use mathlib.Core.Logic.{◌⊎◌, inl, inr, ⊎_elim}
use Prim.Native.Nat.{ℕ, zero, suc, ◌+◌, ◌-◌, ◌≤◌}
use native.Mathlib.Omega.{arith}
use lib.Dec.{eqb, leb}
use lib.ListN.{length, get_or, take, drop, length-drop}
use lib.Seq.{drop-drop}
use borrow.Author.Tests.{eq-eqb, ne_eqb, le-leb, leb-true, eqb-true}
use Rattle.paper.specs.Common.{is_empty, all_of, any_of, is_front_of}
use Rattle.paper.specs.Text.{Line, next_byte, return_before_feed, end_at, lines_from, with_byte, on_line, skipped}
use Rattle.paper.specs.Listing.{row_at, key_at, at_block, bare_is_none, value_fault}
use Rattle.paper.specs.Page.{Outcome, fields, fault, State, Step, pass, stop, Field, is_left_empty, places_for, place_of, one_space_and_value, field_step, after_key, place_step, unless_empty}
use Rattle.paper.specs.Page.{line_step, at_end, and_fields, after, page_from}
use Rattle.laws.proofs.Places.{drop_take}
use Rattle.laws.proofs.Tests.{both_true, both_left, either_left, either_right, same_refl}
use Rattle.laws_page.specs.Right.{is_right, is_numbered, Ascending, stands, needs_block, may_follow, in_listing_order}

-- ---- the field of a line

-- what is known of the field that a line holds after a state, and of the state behind it
pub record FieldOf (st : State) (n : ℕ) (l : Line) (s : State) (f : Field) : Type 0 where
  pub line : f.line ≡ n
  pub ended : l.ended ≡ true
  pub placed : any_of (eqb f.place) (places_for st l.text) ≡ true
  pub filled : is_left_empty st (at_block st.place l.text) ≡ false
  pub after : s ≡ record { place = f.place; bare = is_empty f.value; line = f.line }
  pub right : is_right f ≡ true
  pub behind : ℕ
  pub keyed : length (key_at f.place) ≤ behind
  pub starts : f.start ≡ l.start + behind
  pub value : f.value ≡ drop behind l.text

-- a line that passes is skipped, or holds a field
abbrev Yields : State → ℕ → Line → Step → Type 0
Yields st n l (pass s fs) = ((s ≡ st) × (fs ≡ [])) ⊎ ((f : Field) × (fs ≡ f ∷ []) × FieldOf st n l s f)
Yields st n l (stop k m) = Unit

-- the place that was found is one of those looked among
placed_among : (ps : List ℕ) (l : List ℕ) → (place_of ps l ≡ 0 → ⊥) → any_of (eqb (place_of ps l)) ps ≡ true
unfolding place_of any_of
placed_among [] l z = absurd (z refl)
placed_among (p ∷ ps) l z = go (is_front_of (key_at p) l) z (λ y. placed_among ps l y)
  where
    go : (t : Bool) → (cond t p (place_of ps l) ≡ 0 → ⊥) → ((place_of ps l ≡ 0 → ⊥) → any_of (eqb (place_of ps l)) ps ≡ true)
        → (eqb (cond t p (place_of ps l)) p || any_of (eqb (cond t p (place_of ps l))) ps) ≡ true
    go true y ih = either_left (eqb p p) (any_of (eqb p) ps) (eq-eqb p p refl)
    go false y ih = either_right (eqb (place_of ps l) p) (any_of (eqb (place_of ps l)) ps) (ih y)

-- one space and a value are a value
has_value : (s : List ℕ) → one_space_and_value s ≡ true → is_empty (drop 1 s) ≡ false
unfolding one_space_and_value
has_value s h =
    let f : (leb 2 (length s) && eqb (get_or s 0 0) 32) ≡ true = both_left (leb 2 (length s) && eqb (get_or s 0 0) 32) _ (both_left (leb 2 (length s) && eqb (get_or s 0 0) 32 && _) _ h) in
    let k : 2 ≤ length s = leb-true 2 (length s) (both_left (leb 2 (length s)) _ f) in
    ne_eqb (length (drop 1 s)) 0 (λ z. omega (arith, length-drop 1 s))

empty_is : (s : List ℕ) → is_empty s ≡ true → s ≡ []
empty_is [] e = refl
empty_is (b ∷ bs) e = absurd (let z : suc (length bs) ≡ 0 = eqb-true (suc (length bs)) 0 e in omega arith)

module _ (st : State) (n : ℕ) (l : Line) where
  yields_cond : (t : Bool) (a b : Step) → (t ≡ true → Yields st n l a) → (t ≡ false → Yields st n l b) → Yields st n l (cond t a b)
  yields_cond true a b p q = p refl
  yields_cond false a b p q = q refl

  yields_unless : (b : Bool) (s : Step) → (is_left_empty st b ≡ false → Yields st n l s) → Yields st n l (unless_empty st b s)
  unfolding unless_empty
  yields_unless b s d = yields_cond (is_left_empty st b) _ _ (λ e. tt) d

  module _ (p : ℕ) (a : any_of (eqb p) (places_for st l.text) ≡ true) (w : is_left_empty st (at_block st.place l.text) ≡ false) (u : l.ended ≡ true) where
    yields_bare : is_empty (drop (length (key_at p)) l.text) ≡ true
        → Yields st n l (field_step (record { line = n; place = p; start = l.start + length (key_at p); value = [] }) true 0)
    unfolding field_step is_right
    yields_bare e =
        inr (
          record { line = n; place = p; start = l.start + length (key_at p); value = [] },
          refl,
          record {
            line = refl;
            ended = u;
            placed = a;
            filled = w;
            after = refl;
            right = refl;
            behind = length (key_at p);
            keyed = omega arith;
            starts = refl;
            value = sym (empty_is (drop (length (key_at p)) l.text) e);
          },
        )

    yields_value : (k : ℕ) → k ≡ value_fault (row_at p).value (drop 1 (drop (length (key_at p)) l.text)) → one_space_and_value (drop (length (key_at p)) l.text) ≡ true
        → Yields st n l (field_step (record { line = n; place = p; start = l.start + length (key_at p) + 1; value = drop 1 (drop (length (key_at p)) l.text) }) false k)
    unfolding field_step is_right
    yields_value zero e o =
        let v : is_empty (drop 1 (drop (length (key_at p)) l.text)) ≡ false = has_value (drop (length (key_at p)) l.text) o in
        let q : l.start + length (key_at p) + 1 ≡ l.start + (length (key_at p) + 1) = omega arith in
        inr (
          record { line = n; place = p; start = l.start + length (key_at p) + 1; value = drop 1 (drop (length (key_at p)) l.text) },
          refl,
          record {
            line = refl;
            ended = u;
            placed = a;
            filled = w;
            after = rw v refl;
            right = either_right (is_empty (drop 1 (drop (length (key_at p)) l.text))) _ (eq-eqb (value_fault (row_at p).value (drop 1 (drop (length (key_at p)) l.text))) 0 (sym e));
            behind = length (key_at p) + 1;
            keyed = omega arith;
            starts = q;
            value = drop-drop 1 (length (key_at p)) l.text;
          },
        )
    yields_value (suc k) e o = tt

    yields_rest : Yields st n l (after_key n p (l.start + length (key_at p)) (drop (length (key_at p)) l.text))
    unfolding after_key
    yields_rest =
        yields_cond (is_empty (drop (length (key_at p)) l.text)) _ _ yields_bare
        (λ e. yields_cond (one_space_and_value (drop (length (key_at p)) l.text)) _ _ (λ o. yields_value _ refl o) (λ o. tt))

  yields_place : is_left_empty st (at_block st.place l.text) ≡ false → l.ended ≡ true → Yields st n l (place_step n (place_of (places_for st l.text) l.text) l)
  unfolding place_step
  yields_place w u = go (place_of (places_for st l.text) l.text) refl
    where
      go : (p : ℕ) → place_of (places_for st l.text) l.text ≡ p → Yields st n l (cond (eqb p 0) (stop 4 n) (after_key n p (l.start + length (key_at p)) (drop (length (key_at p)) l.text)))
      go zero e = tt
      go (suc p) e =
          yields_cond (eqb (suc p) 0) _ _ (λ z. tt)
          (λ z. yields_rest (suc p) (rw e at (placed_among (places_for st l.text) l.text (λ y. let x : suc p ≡ 0 = sym e ∙ y in omega arith))) w u)

  pub yields : Yields st n l (line_step st n l)
  unfolding line_step
  yields =
      yields_cond (skipped l.text) _ _
      (λ e. yields_cond l.ended _ _ (λ f. inl (refl, refl)) (λ f. yields_unless false (stop 4 n) (λ g. tt)))
      (λ e. yields_unless (at_block st.place l.text) _ (λ w. yields_cond l.ended _ _ (λ f. yields_place w f) (λ f. tt)))

-- what is known of the field on a line that passes with one
pub field_on_lem : (st s : State) (n : ℕ) (l : Line) (f : Field) → line_step st n l ≡ pass s (f ∷ []) → FieldOf st n l s f
field_on_lem st s n l f e = go (line_step st n l) (yields st n l) e
  where
    go : (x : Step) → Yields st n l x → x ≡ pass s (f ∷ []) → FieldOf st n l s f
    go (pass z gs) d q =
        let u : z ≡ s = cc in
        let v : gs ≡ f ∷ [] = cc in
        ⊎_elim
        (λ (y : (z ≡ st) × (gs ≡ [])). absurd (let w : f ∷ [] ≡ [] = sym v ∙ y.1 in let k : ◌≡◌ {A = ℕ} 0 1 = cc in omega arith))
        (λ (y : (g : Field) × (gs ≡ g ∷ []) × FieldOf st n l z g).
        let w : y.0 ∷ [] ≡ f ∷ [] = sym y.1 ∙ v in
        let g : y.0 ≡ f = cc in
        rw (u, g) at y.2)
        d
    go (stop k m) d q = absurd (let w : ◌≡◌ {A = ℕ} 0 1 = cc in omega arith)

-- every line is good, the first being line n
abbrev pub Each : (ℕ → Line → Type 0) → ℕ → List Line → Type 0
Each Good n [] = Unit
Each Good n (l ∷ ls) = Good n l × Each Good (n + 1) ls

-- ---- a page, line by line: what holds at its end, of lines with one that is skipped more, and of those with a field more, holds of it

module _ (P : State → ℕ → List Field → Type 0) (Good : ℕ → Line → Type 0)
    (ends : (st : State) (n : ℕ) → at_end st n ≡ fields [] → P st n [])
    (skip : (st : State) (n : ℕ) (fs : List Field) → P st (n + 1) fs → P st n fs)
    (more : (st s : State) (n : ℕ) (l : Line) (f : Field) (fs : List Field) → Good n l → FieldOf st n l s f → P s (n + 1) fs → P st n (f ∷ fs)) where
  no_more : (st : State) (n : ℕ) (fs : List Field) → at_end st n ≡ fields fs → fs ≡ []
  unfolding at_end
  no_more st n fs e = go (is_left_empty st false) (row_at st.place).last e
    where
      go : (a b : Bool) → cond a (fault 9 st.line) (cond b (fields []) (fault 4 n)) ≡ fields fs → fs ≡ []
      go true b q = absurd (let z : ◌≡◌ {A = ℕ} 0 1 = cc in omega arith)
      go false true q = cc
      go false false q = absurd (let z : ◌≡◌ {A = ℕ} 0 1 = cc in omega arith)

  pub by_lines : (st : State) (n : ℕ) (ls : List Line) (fs : List Field) → Each Good n ls → page_from st n ls ≡ fields fs → P st n fs
  unfolding page_from
  by_lines st n [] fs g e = let q : fs ≡ [] = no_more st n fs e in rw q (ends st n (rw q at e))
  by_lines st n (l ∷ ls) fs g e = go (line_step st n l) (yields st n l) e (λ s gs q. by_lines s (n + 1) ls gs g.1 q)
    where
      skips : (s : State) (gs : List Field) → s ≡ st → gs ≡ [] → and_fields gs (page_from s (n + 1) ls) ≡ fields fs
          → ((x : State) (hs : List Field) → page_from x (n + 1) ls ≡ fields hs → P x (n + 1) hs) → P st n fs
      skips s gs a b q ih = skip st n fs (rw a at (ih s fs (kept (page_from s (n + 1) ls) (rw b at q))))
        where
          kept : (o : Outcome) → and_fields [] o ≡ fields fs → o ≡ fields fs
          kept (fields hs) r = r
          kept (fault k m) r = r

      holds : (s : State) (f : Field) → FieldOf st n l s f → (o : Outcome) → and_fields (f ∷ []) o ≡ fields fs → ((hs : List Field) → o ≡ fields hs → P s (n + 1) hs) → P st n fs
      holds s f d (fields hs) q ih = let r : f ∷ hs ≡ fs = cc in rw (← r) (more st s n l f hs g.0 d (ih hs refl))
      holds s f d (fault k m) q ih = absurd (let z : ◌≡◌ {A = ℕ} 0 1 = cc in omega arith)

      go : (x : Step) → Yields st n l x → after x (λ st'. page_from st' (n + 1) ls) ≡ fields fs
          → ((y : State) (hs : List Field) → page_from y (n + 1) ls ≡ fields hs → P y (n + 1) hs) → P st n fs
      go (pass s gs) d q ih =
          ⊎_elim
          (λ (x : (s ≡ st) × (gs ≡ [])). skips s gs x.0 x.1 q ih)
          (λ (x : (f : Field) × (gs ≡ f ∷ []) × FieldOf st n l s f). holds s x.0 x.2 (page_from s (n + 1) ls) (rw x.1 at q) (ih s))
          d
      go (stop k m) d q ih = absurd (let z : ◌≡◌ {A = ℕ} 0 1 = cc in omega arith)

-- the same of what does not depend on the line
module _ (P : State → List Field → Type 0) (Good : ℕ → Line → Type 0)
    (ends : (st : State) (n : ℕ) → at_end st n ≡ fields [] → P st [])
    (more : (st s : State) (n : ℕ) (l : Line) (f : Field) (fs : List Field) → Good n l → FieldOf st n l s f → P s fs → P st (f ∷ fs)) where
  pub by_fields : (st : State) (n : ℕ) (ls : List Line) (fs : List Field) → Each Good n ls → page_from st n ls ≡ fields fs → P st fs
  by_fields = by_lines (λ st n fs. P st fs) Good ends (λ st n fs h. h) more

-- ---- what holds of each field

module _ (test : Field → Bool) (Good : ℕ → Line → Type 0) (passes : (st s : State) (n : ℕ) (l : Line) (f : Field) → Good n l → FieldOf st n l s f → test f ≡ true) where
  passes_none : (st : State) (n : ℕ) → at_end st n ≡ fields [] → all_of test [] ≡ true
  unfolding all_of
  passes_none st n e = refl

  passes_more : (st s : State) (n : ℕ) (l : Line) (f : Field) (fs : List Field) → Good n l → FieldOf st n l s f → all_of test fs ≡ true → all_of test (f ∷ fs) ≡ true
  unfolding all_of
  passes_more st s n l f fs g d h = both_true (test f) (all_of test fs) (passes st s n l f g d) h

  pub every : (st : State) (n : ℕ) (ls : List Line) (fs : List Field) → Each Good n ls → page_from st n ls ≡ fields fs → all_of test fs ≡ true
  every = by_fields (λ s gs. all_of test gs ≡ true) Good passes_none passes_more

any_line : (n : ℕ) (ls : List Line) → Each (λ k l. Unit) n ls
any_line n [] = tt
any_line n (l ∷ ls) = (tt, any_line (n + 1) ls)

-- each is right
pub fields_right : (st : State) (n : ℕ) (ls : List Line) (fs : List Field) → page_from st n ls ≡ fields fs → all_of is_right fs ≡ true
fields_right st n ls fs e = every is_right (λ k l. Unit) (λ x s k l f g d. d.right) st n ls fs (any_line n ls) e

lines_numbered : (n : ℕ) (ls : List Line) → 1 ≤ n → Each (λ k l. 1 ≤ k) n ls
lines_numbered n [] h = tt
lines_numbered n (l ∷ ls) h = (h, lines_numbered (n + 1) ls (omega arith))

-- each has a line, where the first line is numbered 1
pub fields_numbered : (st : State) (n : ℕ) (ls : List Line) (fs : List Field) → 1 ≤ n → page_from st n ls ≡ fields fs → all_of is_numbered fs ≡ true
unfolding is_numbered
fields_numbered st n ls fs h e = every is_numbered (λ k l. 1 ≤ k) (λ x s k l f g d. le-leb 1 f.line (omega (arith, d.line))) st n ls fs (lines_numbered n ls h) e

lines_low : (most n : ℕ) (ls : List Line) → n + length ls ≤ most + 1 → Each (λ k l. k ≤ most) n ls
lines_low most n [] h = tt
lines_low most n (l ∷ ls) h = (omega arith, lines_low most (n + 1) ls (omega arith))

-- and none past the last line
pub fields_low : (most : ℕ) (st : State) (n : ℕ) (ls : List Line) (fs : List Field) → n + length ls ≤ most + 1 → page_from st n ls ≡ fields fs → all_of (λ f. leb f.line most) fs ≡ true
fields_low most st n ls fs h e =
    every (λ f. leb f.line most) (λ k l. k ≤ most) (λ x s k l f g d. le-leb f.line most (omega (arith, d.line))) st n ls fs (lines_low most n ls h) e

-- ---- in which order their lines stand

pub ascending_from : {A : Type 0} (line : A → ℕ) (n k : ℕ) (xs : List A) → n ≤ k → Ascending line k xs → Ascending line n xs
ascending_from line n k [] h a = tt
ascending_from line n k (x ∷ xs) h a = (omega (arith, a.0), a.1)

-- they ascend from the number of the first line on
pub fields_ascend : (st : State) (n : ℕ) (ls : List Line) (fs : List Field) → page_from st n ls ≡ fields fs → Ascending (λ f. f.line) n fs
fields_ascend st n ls fs e =
    by_lines (λ st n fs. Ascending (λ f. f.line) n fs) (λ k l. Unit)
    (λ st n e. tt)
    (λ st n fs a. ascending_from (λ f. f.line) n (n + 1) fs (omega arith) a)
    (λ st s n l f fs g d a. (omega (arith, d.line), rw (← d.line) at a))
    st n ls fs (any_line n ls) e

-- ---- where the values stand

-- a line is the stretch of the text from its start on
abbrev Stretch : List ℕ → ℕ → Line → Type 0
Stretch t n l = l.text ≡ take (length l.text) (drop l.start t)

abbrev Begins : ℕ → List Line → Type 0
Begins at [] = Unit
Begins at (l ∷ ls) = l.start ≡ at

front_more : (t : List ℕ) (at b : ℕ) (bs : List ℕ) → b ∷ bs ≡ drop at t → bs ≡ drop (at + 1) t
front_more t at b bs e = ap (drop 1) e ∙ drop-drop 1 at t

module _ (t : List ℕ) (at b : ℕ) (bs : List ℕ) (e : b ∷ bs ≡ drop at t) where
  again : (ms : List Line) (k : ℕ) → Each (Stretch t) (k + 1) ms → Each (Stretch t) k ms
  again [] k h = tt
  again (m ∷ ms) k h = (h.0, again ms (k + 1) h.1)

  -- the end of a line holds nothing, whichever it is
  behind_end : (n : ℕ) (ls : List Line) → Each (Stretch t) (n + 1) ls → Each (Stretch t) (n + 1) (drop 1 ls)
  behind_end n [] g = tt
  behind_end n (l ∷ ls) g = again ls (n + 1) g.1

  stretch_one : (n next : ℕ) (ls : List Line) → Begins (at + 1) ls → Each (Stretch t) (n + 1) ls
      → Begins at (with_byte at b next ls) × Each (Stretch t) n (with_byte at b next ls)
  unfolding with_byte on_line
  stretch_one n next ls h g = go (return_before_feed b next) (eqb b 10) ls h g
    where
      go : (r x : Bool) (ls : List Line) → Begins (at + 1) ls → Each (Stretch t) (n + 1) ls
          → Begins at (cond r (end_at at ∷ drop 1 ls) (cond x (end_at at ∷ ls) (on_line at b ls)))
          × Each (Stretch t) n (cond r (end_at at ∷ drop 1 ls) (cond x (end_at at ∷ ls) (on_line at b ls)))
      go true x ls h g = (refl, (refl, behind_end n ls g))
      go false true ls h g = (refl, (refl, g))
      go false false [] h g = (refl, (rw (← e) refl, tt))
      go false false (l ∷ ls) h g =
          let q : l.text ≡ take (length l.text) bs = g.0 ∙ rw (h, ← front_more t at b bs e) refl in
          (refl, (rw (← e) (ap (λ (x : List ℕ). b ∷ x) q), again ls (n + 1) g.1))

lines_stretch : (t : List ℕ) (n at : ℕ) (xs : List ℕ) → xs ≡ drop at t → Begins at (lines_from at xs) × Each (Stretch t) n (lines_from at xs)
unfolding lines_from
lines_stretch t n at [] e = (tt, tt)
lines_stretch t n at (b ∷ bs) e = go (lines_stretch t (n + 1) (at + 1) bs (front_more t at b bs e))
  where
    go : Begins (at + 1) (lines_from (at + 1) bs) × Each (Stretch t) (n + 1) (lines_from (at + 1) bs)
        → Begins at (with_byte at b (next_byte bs) (lines_from (at + 1) bs)) × Each (Stretch t) n (with_byte at b (next_byte bs) (lines_from (at + 1) bs))
    go h = stretch_one t at b bs e n (next_byte bs) (lines_from (at + 1) bs) h.0 h.1

-- what a line holds behind a place of it is the stretch from there on
stretch_behind : (t : List ℕ) (n : ℕ) (l : Line) (k : ℕ) → Stretch t n l → drop k l.text ≡ take (length (drop k l.text)) (drop (l.start + k) t)
stretch_behind t n l k e =
    let m : length l.text - k ≡ length (drop k l.text) = sym (length-drop k l.text) in
    ap (drop k) e ∙ drop_take k (length l.text) (drop l.start t) ∙ rw (m, drop-drop k l.start t) refl

-- each value is the very stretch of the text that begins where the field says
pub fields_stand : (t : List ℕ) (st : State) (n at : ℕ) (fs : List Field) → page_from st n (lines_from at (drop at t)) ≡ fields fs → all_of (stands t) fs ≡ true
unfolding stands
fields_stand t st n at fs e =
    every (stands t) (Stretch t)
    (λ x s k l f g d.
    let v : f.value ≡ take (length f.value) (drop f.start t) = rw (d.value, d.starts) (stretch_behind t k l d.behind g) in
    rw (← v) (same_refl f.value))
    st n (lines_from at (drop at t)) fs (lines_stretch t n at (drop at t) refl).1 e

-- ---- in which order the fields stand

follows_one : (bare none here block next : Bool) → cond (bare && here) block next ≡ true → (bare && not none && not here) ≡ false → ((bare && block) || (not (bare && not none) && next)) ≡ true
follows_one true none true block next p q = either_left block _ p
follows_one true true false block next p q = either_right block next p
follows_one true false false block next p q = absurd (let z : ◌≡◌ {A = ℕ} 0 1 = cc in omega arith)
follows_one false none here block next p q = p

any_cond : (p : ℕ) (t : Bool) (xs ys : List ℕ) → any_of (eqb p) (cond t xs ys) ≡ cond t (any_of (eqb p) xs) (any_of (eqb p) ys)
any_cond p true xs ys = refl
any_cond p false xs ys = refl

order_ends : (st : State) (n : ℕ) → at_end st n ≡ fields [] → in_listing_order st.place st.bare [] ≡ true
unfolding at_end is_left_empty in_listing_order needs_block
order_ends st n e = go (st.bare && not (bare_is_none (row_at st.place).value)) (row_at st.place).last e
  where
    go : (a b : Bool) → cond (a && true) (fault 9 st.line) (cond b (fields []) (fault 4 n)) ≡ fields [] → (not a && b) ≡ true
    go true b q = absurd (let z : ◌≡◌ {A = ℕ} 0 1 = cc in omega arith)
    go false true q = refl
    go false false q = absurd (let z : ◌≡◌ {A = ℕ} 0 1 = cc in omega arith)

order_more : (st s : State) (n : ℕ) (l : Line) (f : Field) (fs : List Field) → Unit {0} → FieldOf st n l s f
    → in_listing_order s.place s.bare fs ≡ true → in_listing_order st.place st.bare (f ∷ fs) ≡ true
unfolding in_listing_order may_follow needs_block is_left_empty places_for
order_more st s n l f fs g d h =
    both_true _ (in_listing_order f.place (is_empty f.value) fs)
    (follows_one st.bare (bare_is_none (row_at st.place).value) (at_block st.place l.text)
    (any_of (eqb f.place) (row_at st.place).block)
    (any_of (eqb f.place) (row_at st.place).next)
    (rw any_cond at d.placed)
    d.filled)
    (rw d.after at h)

-- each place begins the block of the place before it, or follows that; and the text may end with the last
pub fields_in_order : (st : State) (n : ℕ) (ls : List Line) (fs : List Field) → page_from st n ls ≡ fields fs → in_listing_order st.place st.bare fs ≡ true
fields_in_order st n ls fs e =
    by_fields (λ s gs. in_listing_order s.place s.bare gs ≡ true) (λ k l. Unit) order_ends order_more st n ls fs (any_line n ls) e
