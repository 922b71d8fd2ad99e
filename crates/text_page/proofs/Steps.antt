-- The step of a line, one test after another.
use mathlib.Core.Path.{◌≡◌, refl, sym, ap, ◌∙◌}
use mathlib.Core.Bool.{Bool, true, false, cond, not, ◌&&◌, and-true}
use mathlib.Core.List.{List, [], ◌∷◌}
use Prim.Native.Nat.{ℕ, zero, suc, ◌+◌, ◌-◌, ◌<◌, ◌≤◌}
use native.Mathlib.Omega.{arith}
use lib.Dec.{eqb, leb}
use lib.ListN.{length, get_or, take, drop, length-drop, drop_of_length-le}
use lib.Seq.{drop-drop, take_all}
use borrow.Author.Tests.{ne_eqb, lt-leb, le-leb, not-true, not-false}
use Rattle.paper.specs.Common.{is_empty}
use Rattle.paper.specs.Text.{skipped}
use Rattle.paper.specs.Listing.{nowhere, listing, row_at, key_at, begins_block, at_block, bare_is_none, value_fault}
use Rattle.paper.specs.Page as paper
use Rattle.paper.specs.Page.{is_left_empty, places_for, place_of, one_space_and_value, field_step, after_key, place_step, unless_empty, line_step}
use Rattle.laws.proofs.Tests.{both_false}
use Rattle.laws.proofs.Chains.{tested_false, tested_true}
use Rattle.laws_page.proofs.Keys.{key_bytes, key_long}
use Rattle.text_keys.specs.Rows.{Said, seen, told}
use Rattle.text_keys.specs.declared.rows.Row.{Row}
use Rattle.std.specs.Prelude.{Result, Ok, Err, Option, Some, None}
use Rattle.text_lists.proofs.Laws.{is_no_fault}
use Rattle.text_lists.specs.Faults.{unless_fault}
use Rattle.std.specs.Option.{ok_or}
use Rattle.paper.specs.declared.Fault.{Fault}
use Rattle.text_keys.specs.declared.Placed.{Placed}
use Rattle.text_keys.specs.Asked.{Finds}
use Rattle.text_page.specs.Steps.{Step, state_of, step_of, rest_fault}
use Rattle.text_page.specs.declared.step.State.{State}

-- ---- what a row of the code says is what the paper's says

module _ (p : ℕ) (row : Row) (e : seen row ≡ told (row_at p)) where
  value_told : row.value ≡ (row_at p).value
  value_told = ap (λ (s : Said). s.value) e

  block_told : row.block.now ≡ (row_at p).block
  block_told = ap (λ (s : Said). s.block) e

  next_told : row.next.now ≡ (row_at p).next
  next_told = ap (λ (s : Said). s.next) e

  pub last_told : row.last ≡ (row_at p).last
  last_told = ap (λ (s : Said). s.last) e

-- ---- whether the field above is left empty

module _ (st : State) (here : Bool) where
  pub left_not : (st.bare && not here) ≡ false → (st.bare && not here) ≡ is_left_empty (state_of st) here
  unfolding is_left_empty
  left_not h = go st.bare here h
    where
      go : (b t : Bool) → (b && not t) ≡ false → (b && not t) ≡ (b && not (bare_is_none (row_at st.place).value) && not t)
      go true true h = sym (both_false _ false refl)
      go true false h = absurd (cc)
      go false t h = refl

  pub left_bare : (row : Row) (r : Bool) → (st.bare && not here) ≡ true → seen row ≡ told (row_at st.place) → r ≡ bare_is_none row.value → not r ≡ is_left_empty (state_of st) here
  unfolding is_left_empty
  left_bare row r h e f = go st.bare here r (f ∙ ap bare_is_none (value_told st.place row e)) h
    where
      go : (b t r : Bool) → r ≡ bare_is_none (row_at st.place).value → (b && not t) ≡ true → not r ≡ (b && not (bare_is_none (row_at st.place).value) && not t)
      go true true r q h = absurd (cc)
      go true false r q h = rw (← q) (sym (and-true (not r)))
      go false t r q h = absurd (cc)

-- ---- what stands after a key

no_value : one_space_and_value [] ≡ true → ⊥
unfolding one_space_and_value
no_value q = let z : ◌≡◌ {A = ℕ} 0 1 = cc in omega arith

module _ (s : List ℕ) where
  pub value_short : length s < 2 → leb 2 (length s) ≡ one_space_and_value s
  unfolding one_space_and_value
  value_short h = rw (lt-leb 2 (length s) h)

  pub value_is : 2 ≤ length s → (eqb (get_or s 0 0) 32 && not (eqb (get_or s 1 0) 32) && not (eqb (get_or s (length s - 1) 0) 32)) ≡ one_space_and_value s
  unfolding one_space_and_value
  value_is h = rw (le-leb 2 (length s) h)

  module _ (o : Bool) (e : o ≡ one_space_and_value s) where
    -- what is a value has bytes
    pub value_long : not o ≡ false → 1 ≤ length s
    value_long t = go s (sym e ∙ not-false o t)
      where
        go : (x : List ℕ) → one_space_and_value x ≡ true → 1 ≤ length x
        go [] q = absurd (no_value q)
        go (b ∷ bs) q = omega arith

    module _ (p : ℕ) where
      pub rest_layout : not o ≡ true → Err 4 ≡ unless_fault (rest_fault p s)
      unfolding rest_fault
      rest_layout t = rw (tested_false (one_space_and_value s) o e t)

      pub rest_value : (row : Row) (r : Result (Unit {0}) ℕ) → not o ≡ false → seen row ≡ told (row_at p) → r ≡ unless_fault (value_fault row.value (take (length s - 1) (drop 1 s)))
          → r ≡ unless_fault (rest_fault p s)
      unfolding rest_fault
      rest_value row r t f g = rw (tested_true (one_space_and_value s) o e t, ← value_told p row f, g, take_all (length s - 1) (drop 1 s) (omega (arith, length-drop 1 s)))

-- ---- a line of a place

field_stop : (f : paper.Field) (b : Bool) (k : ℕ) → (k ≡ 0 → ⊥) → field_step f b k ≡ paper.stop k f.line
unfolding field_step
field_stop f b zero h = absurd (h refl)
field_stop f b (suc k) h = refl

field_pass : (f : paper.Field) (b : Bool) (k : ℕ) → k ≡ 0 → field_step f b k ≡ paper.pass (record { place = f.place; bare = b; line = f.line }) (f ∷ [])
unfolding field_step
field_pass f b zero h = refl
field_pass f b (suc k) h = absurd (let z : suc k ≡ 0 = h in omega arith)

-- what stands after the key, where something does, decides alone
rest_decides : (n p from : ℕ) (bs : List ℕ) (o : Bool) (k : ℕ)
    → cond o (field_step (record { line = n; place = p; start = from; value = bs }) false k) (paper.stop 4 n)
    ≡ field_step (record { line = n; place = p; start = from; value = bs }) false (cond o k 4)
unfolding field_step
rest_decides n p from bs true k = refl
rest_decides n p from bs false k = refl

module _ (st : State) (n p : ℕ) (l : List ℕ) (from : ℕ) (ended : Bool) where
  module _ (k : ℕ) (w : (p ≡ 0 → ⊥)) (ek : k ≡ length (key_at p)) where
    pub place_bare : k ≡ length l
        → place_step n p (record { start = from; text = l; ended = ended }) ≡ step_of st n from l (Ok (Some (record { place = p; bare = true; start = k })))
    unfolding place_step after_key field_step
    place_bare e =
        let q : length l ≤ k = omega arith in
        let d : drop k l ≡ [] = drop_of_length-le l q in
        rw (ne_eqb p 0 w, ← ek, d)

    module _ (m : ℕ) (i : k ≤ length l) (e : (k ≡ length l → ⊥)) (em : m ≡ rest_fault p (take (length l - k) (drop k l))) where
      some_rest : is_empty (drop k l) ≡ false
      some_rest = ne_eqb (length (drop k l)) 0 (λ z. omega (arith, length-drop k l))

      by_rest : place_step n p (record { start = from; text = l; ended = ended })
          ≡ field_step (record { line = n; place = p; start = from + k + 1; value = drop 1 (drop k l) }) false m
      unfolding place_step after_key rest_fault
      by_rest =
          rw (ne_eqb p 0 w, ← ek, some_rest, em, take_all (length l - k) (drop k l) (omega (arith, length-drop k l)))
          (rest_decides n p (from + k + 1) (drop 1 (drop k l)) (one_space_and_value (drop k l)) (value_fault (row_at p).value (drop 1 (drop k l))))

      pub place_stop : (m ≡ 0 → ⊥) → place_step n p (record { start = from; text = l; ended = ended }) ≡ step_of st n from l (Err (record { number = m; line = n }))
      place_stop h = by_rest ∙ field_stop _ false m h

      pub place_field : m ≡ 0
          → place_step n p (record { start = from; text = l; ended = ended }) ≡ step_of st n from l (Ok (Some (record { place = p; bare = false; start = k + 1 })))
      place_field h =
          let q : from + k + 1 ≡ from + (k + 1) = omega arith in
          by_rest ∙ field_pass _ false m h ∙ rw (drop-drop 1 k l, q) refl

    module _ (i : k ≤ length l) (e : (k ≡ length l → ⊥)) (r : Result (Unit {0}) ℕ) (f : r ≡ unless_fault (rest_fault p (take (length l - k) (drop k l)))) where
      pub place_right : (u : Unit {0}) → r ≡ Ok u → place_step n p (record { start = from; text = l; ended = ended }) ≡ step_of st n from l (Ok (Some (record { place = p; bare = false; start = k + 1 })))
      place_right u g = place_field (rest_fault p (take (length l - k) (drop k l))) i e refl (is_no_fault _ r f u g)

-- ---- a line

module _ (st : State) (n : ℕ) (l : List ℕ) (ended : Bool) (from : ℕ) where
  -- what the code says of this line is what the paper says
  abbrev pub Does : Step → Type 0
  Does r = line_step (state_of st) n (record { start = from; text = l; ended = ended }) ≡ step_of st n from l r

  pub skip_ended : (s : Bool) → s ≡ skipped l → s ≡ true → ended ≡ true → Does (Ok None)
  unfolding line_step
  skip_ended s e t f = rw (← e, t, f)

  module _ (s : Bool) (e : s ≡ skipped l) (t : s ≡ true) (f : ended ≡ false) where
    pub skip_empty : is_left_empty (state_of st) false ≡ true → Does (Err (record { number = 9; line = st.line }))
    unfolding line_step unless_empty
    skip_empty g = rw (← e, t, f, g)

    pub skip_open : is_left_empty (state_of st) false ≡ false → Does (Err (record { number = 4; line = n }))
    unfolding line_step unless_empty
    skip_open g = rw (← e, t, f, g)

  module _ (s : Bool) (row : Row) (here : Bool) (es : s ≡ skipped l) (ts : s ≡ false) (er : seen row ≡ told (row_at st.place)) (eh : here ≡ begins_block row.block.now l) where
    counts : skipped l ≡ false
    counts = sym es ∙ ts

    begins : at_block st.place l ≡ here
    unfolding at_block
    begins = sym (eh ∙ ap (λ (ps : List ℕ). begins_block ps l) (block_told st.place row er))

    pub line_empty : is_left_empty (state_of st) here ≡ true → Does (Err (record { number = 9; line = st.line }))
    unfolding line_step unless_empty
    line_empty g = rw (counts, begins, g)

    module _ (g : is_left_empty (state_of st) here ≡ false) where
      pub line_open : not ended ≡ true → Does (Err (record { number = 4; line = n }))
      unfolding line_step unless_empty
      line_open f = rw (counts, begins, g, not-true ended f)

      -- the places that the code looks among are those that the paper does
      module _ (ps : List ℕ) (e : ps ≡ cond (st.bare && here) row.block.now row.next.now) (f : not ended ≡ false) where
        places_are : places_for (state_of st) l ≡ ps
        unfolding places_for
        places_are = rw (begins, e) (go (st.bare && here))
          where
            go : (t : Bool) → cond t (row_at st.place).block (row_at st.place).next ≡ cond t row.block.now row.next.now
            go true = sym (block_told st.place row er)
            go false = sym (next_told st.place row er)

        pub no_place : place_of ps l ≡ nowhere → Does (Err (record { number = 4; line = n }))
        unfolding line_step unless_empty place_step
        no_place q = let z : place_of (places_for (state_of st) l) l ≡ 0 = rw places_are q in rw (counts, begins, g, not-false ended f, z)

        -- the place that the look found
        module _ (o : Option Placed) (w : Finds ps l o) (x : Fault) (found : Placed) (q : ok_or o x ≡ Ok found) where
          found_is : Finds ps l (Some found)
          found_is = go o w q
            where
              go : (o : Option Placed) → Finds ps l o → ok_or o x ≡ Ok found → Finds ps l (Some found)
              go None w q = absurd (cc)
              go (Some y) w q = let z : y ≡ found = cc in rw z at w

          -- a key that may stand there has bytes
          pub some_place : found.place ≡ 0 → ⊥
          unfolding key_at row_at listing
          some_place z =
              let k : key_bytes ≤ length (key_at found.place) = key_long (state_of st) l found.place (rw (← places_are) at found_is.1) in
              let m : key_bytes ≤ length (key_at 0) = rw z at k in
              omega arith

          pub line_place : (r : Step) → ((s : State) (x : ℕ) (y : Bool) → place_step n found.place (record { start = x; text = l; ended = y }) ≡ step_of s n x l r) → Does r
          unfolding line_step unless_empty
          line_place r k =
              let z : place_of (places_for (state_of st) l) l ≡ found.place = rw (places_are) (sym found_is.0) in
              rw (counts, begins, g, not-false ended f, z) (k st from true)
