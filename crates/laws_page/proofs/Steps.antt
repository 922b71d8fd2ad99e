-- What a line does, in one statement: it is skipped, it holds a field, or it stops on its own line or on that of the field above.
use mathlib.Core.Path.{◌≡◌, refl, ap, ◌∙◌}
use mathlib.Core.List.{List, [], ◌∷◌}
use mathlib.Core.Bool.{Bool, true, false, cond, not, ◌&&◌}
use mathlib.Core.Logic.{◌⊎◌, inl, inr, ⊎_elim}
use Prim.Native.Nat.{ℕ, zero, suc, ◌+◌, ◌≤◌}
use native.Mathlib.Omega.{arith}
use lib.Dec.{eqb}
use lib.ListN.{length, drop}
use Rattle.paper.specs.Common.{is_empty}
use Rattle.paper.specs.Text.{Line, next_byte, return_before_feed, end_at, lines_from, with_byte, on_line, skipped}
use Rattle.paper.specs.Listing.{row_at, key_at, at_block, bare_is_none, value_fault}
use Rattle.paper.specs.Page.{Outcome, fields, fault, State, Step, pass, stop, Field, is_left_empty, places_for, place_of, one_space_and_value, field_step, after_key, place_step, unless_empty}
use Rattle.paper.specs.Page.{line_step, at_end, and_fields, after, page_from}
use borrow.Author.Tests.{not-true}
use Rattle.laws.proofs.Tests.{both_true, both_left, both_right}
use Rattle.laws_page.specs.First.{Breaks}

-- a stop has a number, and lies on line n, or is the 9 of the field above
pub record Stops (st : State) (n : ℕ) (l : Line) (k m : ℕ) : Type 0 where
  pub numbered : k ≡ 0 → ⊥
  pub lies : (m ≡ n) ⊎ ((m ≡ st.line) × (is_left_empty st false ≡ true) × (k ≡ 9) × Breaks st l)

-- a pass is that of a skipped line, or of a field of line n
abbrev pub Does : State → ℕ → Line → Step → Type 0
Does st n l (pass st' fs) = ((st' ≡ st) × (skipped l.text ≡ true) × (l.ended ≡ true)) ⊎ (st'.line ≡ n)
Does st n l (stop k m) = Stops st n l k m

-- a field that is left empty by a line that begins its block or not is left empty at all, and the line does not begin it
pub left_at_all : (st : State) (here : Bool) → is_left_empty st here ≡ true → is_left_empty st false ≡ true
unfolding is_left_empty
left_at_all st here e = both_true (st.bare && not (bare_is_none (row_at st.place).value)) true (both_left (st.bare && not (bare_is_none (row_at st.place).value)) (not here) e) refl

pub left_not_here : (st : State) (here : Bool) → is_left_empty st here ≡ true → here ≡ false
unfolding is_left_empty
left_not_here st here e = not-true here (both_right (st.bare && not (bare_is_none (row_at st.place).value)) (not here) e)

module _ (st : State) (n : ℕ) (l : Line) where
  stop_here : (k : ℕ) → Stops st n l (suc k) n
  stop_here k = record { numbered = λ z. omega arith; lies = inl refl }

  does_cond : (t : Bool) (a b : Step) → Does st n l a → Does st n l b → Does st n l (cond t a b)
  does_cond true a b p q = p
  does_cond false a b p q = q

  does_unless : (b : Bool) (s : Step) → (b ≡ false → Breaks st l) → Does st n l s → Does st n l (unless_empty st b s)
  unfolding unless_empty
  does_unless b s w d = go (is_left_empty st b) refl
    where
      go : (t : Bool) → is_left_empty st b ≡ t → Does st n l (cond t (stop 9 st.line) s)
      go true e = record { numbered = λ z. omega arith; lies = inr (refl, left_at_all st b e, refl, w (left_not_here st b e)) }
      go false e = d

  does_field : (f : Field) (b : Bool) (k : ℕ) → f.line ≡ n → Does st n l (field_step f b k)
  unfolding field_step
  does_field f b zero e = inr e
  does_field f b (suc k) e = record { numbered = λ z. omega arith; lies = inl e }

  does_rest : (p a : ℕ) (s : List ℕ) → Does st n l (after_key n p a s)
  unfolding after_key
  does_rest p a s =
      does_cond (is_empty s) _ _ (does_field _ true 0 refl)
      (does_cond (one_space_and_value s) _ _ (does_field _ false (value_fault (row_at p).value (drop 1 s)) refl) (stop_here 3))

  does_place : (p : ℕ) → Does st n l (place_step n p l)
  unfolding place_step
  does_place p = does_cond (eqb p 0) _ _ (stop_here 3) (does_rest p (l.start + length (key_at p)) (drop (length (key_at p)) l.text))

  pub does : Does st n l (line_step st n l)
  unfolding line_step
  does = go (skipped l.text) refl
    where
      ends : (t : Bool) → l.ended ≡ t → skipped l.text ≡ true → Does st n l (cond t (pass st []) (unless_empty st false (stop 4 n)))
      ends true e s = inl (refl, s, e)
      ends false e s = does_unless false (stop 4 n) (λ z. inl (s, e)) (stop_here 3)

      go : (t : Bool) → skipped l.text ≡ t
          → Does st n l (cond t (cond l.ended (pass st []) (unless_empty st false (stop 4 n)))
          (unless_empty st (at_block st.place l.text) (cond l.ended (place_step n (place_of (places_for st l.text) l.text) l) (stop 4 n))))
      go true e = ends l.ended refl e
      go false e = does_unless (at_block st.place l.text) _ (λ z. inr (e, z)) (does_cond l.ended _ _ (does_place (place_of (places_for st l.text) l.text)) (stop_here 3))

-- ---- a refusal has a number, and its line is in the text or one past it

-- fields in front of what is refused change nothing
pub refused_behind : (fs : List Field) (p : Outcome) (k m : ℕ) → and_fields fs p ≡ fault k m → p ≡ fault k m
refused_behind fs (fields gs) k m f = absurd (let z : ◌≡◌ {A = ℕ} 0 1 = cc in omega arith)
refused_behind fs (fault a b) k m f = f

abbrev Ends : State → ℕ → Outcome → Type 0
Ends st n (fields fs) = Unit
Ends st n (fault k m) = (k ≡ 0 → ⊥) × ((m ≡ n) ⊎ (m ≡ st.line))

end_does : (st : State) (n : ℕ) → Ends st n (at_end st n)
unfolding at_end
end_does st n = go (is_left_empty st false) (row_at st.place).last
  where
    go : (a b : Bool) → Ends st n (cond a (fault 9 st.line) (cond b (fields []) (fault 4 n)))
    go true b = (λ z. omega arith, inr refl)
    go false true = tt
    go false false = (λ z. omega arith, inl refl)

pub record Bounded (n c k m : ℕ) : Type 0 where
  pub numbered : k ≡ 0 → ⊥
  pub within : m ≤ n + c

pub bounded : (st : State) (n : ℕ) (ls : List Line) (k m : ℕ) → st.line ≤ n → page_from st n ls ≡ fault k m → Bounded n (length ls) k m
unfolding page_from
bounded st n [] k m h e = go (at_end st n) refl (end_does st n) e
  where
    go : (p : Outcome) → at_end st n ≡ p → Ends st n p → p ≡ fault k m → Bounded n 0 k m
    go (fields fs) q d f = absurd (let z : ◌≡◌ {A = ℕ} 0 1 = cc in omega arith)
    go (fault k' m') q d f =
        let u : k' ≡ k = cc in
        let v : m' ≡ m = cc in
        record { numbered = λ z. d.0 (u ∙ z); within = ⊎_elim (λ (x : m' ≡ n). omega arith) (λ (x : m' ≡ st.line). omega arith) d.1 }
bounded st n (l ∷ ls) k m h e = go (line_step st n l) refl (does st n l) e (λ s q f. bounded s (n + 1) ls k m q f)
  where
    more : Bounded (n + 1) (length ls) k m → Bounded n (suc (length ls)) k m
    more b = record { numbered = b.numbered; within = omega (arith, b.within) }

    go : (s : Step) → line_step st n l ≡ s → Does st n l s → after s (λ st'. page_from st' (n + 1) ls) ≡ fault k m
        → ((x : State) → x.line ≤ n + 1 → page_from x (n + 1) ls ≡ fault k m → Bounded (n + 1) (length ls) k m)
        → Bounded n (suc (length ls)) k m
    go (pass s fs) q d f ih =
        let g : page_from s (n + 1) ls ≡ fault k m = refused_behind fs (page_from s (n + 1) ls) k m f in
        ⊎_elim
        (λ (x : (s ≡ st) × (skipped l.text ≡ true) × (l.ended ≡ true)). let y : s.line ≡ st.line = ap (λ (z : State). z.line) x.0 in more (ih s (omega arith) g))
        (λ (x : s.line ≡ n). more (ih s (omega arith) g))
        d
    go (stop k' m') q d f ih =
        let u : k' ≡ k = cc in
        let v : m' ≡ m = cc in
        record {
          numbered = λ z. d.numbered (u ∙ z);
          within =
              ⊎_elim
              (λ (x : m' ≡ n). omega arith)
              (λ (x : (m' ≡ st.line) × (is_left_empty st false ≡ true) × (k' ≡ 9) × Breaks st l). omega (arith, x.0))
              d.lies;
        }

-- there are no more lines than bytes
pub lines_few : (at : ℕ) (t : List ℕ) → length (lines_from at t) ≤ length t
unfolding lines_from with_byte on_line
lines_few at [] = omega arith
lines_few at (b ∷ bs) = go (return_before_feed b (next_byte bs)) (eqb b 10) (lines_from (at + 1) bs) (lines_few (at + 1) bs)
  where
    go : (r t : Bool) (ls : List Line) → length ls ≤ length bs
        → length (cond r (end_at at ∷ drop 1 ls) (cond t (end_at at ∷ ls) (on_line at b ls))) ≤ suc (length bs)
    go true t [] h = omega arith
    go true t (l ∷ ls) h = omega arith
    go false true ls h = omega arith
    go false false [] h = omega arith
    go false false (l ∷ ls) h = omega arith
