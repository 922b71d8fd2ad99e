-- The fields between two numbers of the list: one field at a time, stretch by stretch, and with one put behind them.
use mathlib.Core.Path.{◌≡◌, refl, sym, ap, ◌∙◌}
use mathlib.Core.Bool.{Bool, true, false, cond}
use mathlib.Core.Logic.{⊎_elim}
use Rattle.std.proofs.Common.{min, length-take-le}
use mathlib.Core.List.{List, [], ◌∷◌, ◌++◌, map, flat_map, append-nil, map-append}
use Prim.Native.Nat.{ℕ, zero, suc, ◌+◌, ◌-◌, ◌<◌, ◌≤◌}
use native.Mathlib.Nat.{zero-add}
use native.Mathlib.Omega.{arith}
use lib.Dec.{eqb}
use lib.ListN.{length, get_or, set, take, length-append, length-take, length-drop}
use lib.Seq.{get_or-set_same, get_or-set_other, get_or-take}
use borrow.Author.Rules.{get_or_read}
use borrow.Author.Tests.{eqb-true, eq-eqb, ne_eqb}
use Rattle.paper.specs.Common.{bytes, is_empty, all_of, count_up}
use Rattle.paper.specs.Page.{Field}
use Rattle.paper.specs.Entries.{is_at, default_at, meant, value_at, up_to_next, stretches_from}
use Rattle.laws.proofs.Counting.{counted_append, all_of_counted, flat_map_append}
use Rattle.laws.proofs.Tests.{le_or_lt}
use Rattle.file_fields.specs.Fields.{nowhere_at, value_of, field_of, place_in, start_in, end_in, value_in, field_at, between, bytes_to, next_at, count_at, value_or}
use Rattle.file_fields.proofs.Laws.{bytes_more}
use Rattle.file_fields.specs.declared.file.FieldAt.{FieldAt}

-- ---- the fields as they are read

pub field_read : (t : List ℕ) (list : List FieldAt) (i : ℕ) (f : FieldAt) → i < length list → f ≡ get_or list i f → field_of t f ≡ field_at t list i
field_read t list i f l e = ap (field_of t) (get_or_read list i f l e nowhere_at)

-- ---- one field at a time

module _ (t : List ℕ) (list : List FieldAt) where
  -- k fields from number i on
  abbrev run : ℕ → ℕ → List Field
  run i k = map (field_at t list) (count_up i k)

  run_more : (i k : ℕ) → run i (suc k) ≡ field_at t list i ∷ run (i + 1) k
  unfolding count_up
  run_more i k = refl

  run_none : (i : ℕ) → run i 0 ≡ []
  unfolding count_up
  run_none i = refl

  between_run : (i k : ℕ) → between t list i (i + k) ≡ run i k
  unfolding between
  between_run i k = let e : i + k - i ≡ k = omega arith in rw e refl

  pub between_more : (i to : ℕ) → i < to → between t list i to ≡ field_at t list i ∷ between t list (i + 1) to
  unfolding between
  between_more i to h = let e : to - i ≡ suc (to - (i + 1)) = omega arith in rw e (run_more i (to - (i + 1)))

  pub between_none : (i to : ℕ) → to ≤ i → between t list i to ≡ []
  unfolding between
  between_none i to h = let e : to - i ≡ 0 = omega arith in rw e (run_none i)

  -- where the second number is the smaller one there are none, as from there on
  pub between_least : (i to low : ℕ) → low ≡ min i to → between t list low to ≡ between t list i to
  between_least i to low e = ⊎_elim
      (λ (h : i ≤ to). let same : low ≡ i = omega (arith, e) in rw same refl)
      (λ (h : to < i). rw (between_none low to (omega (arith, e)), between_none i to (omega arith)) refl)
      (le_or_lt i to)

  -- ---- the first of them, and the last

  pub between_split : (i n : ℕ) → i ≤ n → between t list 0 n ≡ between t list 0 i ++ between t list i n
  unfolding between
  between_split i n h =
      let e : n - 0 ≡ i + (n - i) = omega arith in
      let f : i - 0 ≡ i = omega arith in
      rw (e, f, counted_append 0 i (n - i), zero-add) (map-append (field_at t list) (count_up 0 i) (count_up i (n - i)))

  pub between_last : (i : ℕ) → between t list 0 (i + 1) ≡ between t list 0 i ++ (field_at t list i ∷ [])
  between_last i =
      between_split i (i + 1) (omega arith)
      ∙ ap (λ (l : List Field). between t list 0 i ++ l)
      (between_more i (i + 1) (omega arith) ∙ ap (λ (l : List Field). field_at t list i ∷ l) (between_none (i + 1) (i + 1) (omega arith)))

  -- a test of every field holds of each
  pub each_field : (test : Field → Bool) (n i : ℕ) → all_of test (between t list 0 n) ≡ true → i < n → test (field_at t list i) ≡ true
  unfolding between
  each_field test n i h l = all_of_counted (field_at t list) test 0 (n - 0) h i (omega arith) (omega arith)

  -- what the fields before number i have, one behind the other
  module _ {A : Type 0} (names : Field → List A) where
    pub names_more : (i : ℕ) → flat_map names (between t list 0 (i + 1)) ≡ flat_map names (between t list 0 i) ++ names (field_at t list i)
    unfolding flat_map
    names_more i =
        ap (flat_map names) (between_last i)
        ∙ flat_map_append names (between t list 0 i) (field_at t list i ∷ [])
        ∙ ap (λ (l : List A). flat_map names (between t list 0 i) ++ l) (append-nil (names (field_at t list i)))

    pub names_split : (i n : ℕ) → i ≤ n → flat_map names (between t list 0 n) ≡ flat_map names (between t list 0 i) ++ flat_map names (between t list i n)
    names_split i n h = ap (flat_map names) (between_split i n h) ∙ flat_map_append names (between t list 0 i) (between t list i n)

    pub names_fewer : (i n : ℕ) → i ≤ n → length (flat_map names (between t list 0 i)) ≤ length (flat_map names (between t list 0 n))
    names_fewer i n h = omega (arith, ap length (names_split i n h) ∙ length-append (flat_map names (between t list 0 i)) (flat_map names (between t list i n)))

    pub names_none : flat_map names (between t list 0 0) ≡ []
    unfolding flat_map
    names_none = ap (flat_map names) (between_none 0 0 (omega arith))

  place_at : (i p : ℕ) (e : Bool) → eqb (place_in list i) p ≡ e → is_at p (field_at t list i) ≡ e
  unfolding field_of
  place_at i p e h = h

  value_at_place : (i : ℕ) → (field_at t list i).value ≡ value_in t list i
  unfolding field_of
  value_at_place i = refl

  pub value_short : (i : ℕ) → length (value_in t list i) ≤ length t
  value_short i = rw length-take (omega (arith, length-drop (start_in list i) t))

  -- ---- the next field of a place

  pub next_from : (p i k : ℕ) → i ≤ next_at list p i k
  unfolding next_at
  next_from p i zero = omega arith
  next_from p i (suc k) = go (eqb (place_in list i) p) (next_from p (i + 1) k)
    where
      go : (e : Bool) → i + 1 ≤ next_at list p (i + 1) k → i ≤ cond e i (next_at list p (i + 1) k)
      go true h = omega arith
      go false h = omega arith

  next_to : (p i k : ℕ) → next_at list p i k ≤ i + k
  unfolding next_at
  next_to p i zero = omega arith
  next_to p i (suc k) = go (eqb (place_in list i) p) (next_to p (i + 1) k)
    where
      go : (e : Bool) → next_at list p (i + 1) k ≤ i + 1 + k → cond e i (next_at list p (i + 1) k) ≤ i + suc k
      go true h = omega arith
      go false h = omega arith

  next_place : (p i k : ℕ) → next_at list p i k < i + k → place_in list (next_at list p i k) ≡ p
  unfolding next_at
  next_place p i zero h = absurd (omega arith)
  next_place p i (suc k) h = go (eqb (place_in list i) p) refl h (next_place p (i + 1) k)
    where
      go : (e : Bool) → eqb (place_in list i) p ≡ e → cond e i (next_at list p (i + 1) k) < i + suc k
          → (next_at list p (i + 1) k < i + 1 + k → place_in list (next_at list p (i + 1) k) ≡ p) → place_in list (cond e i (next_at list p (i + 1) k)) ≡ p
      go true q l ih = eqb-true (place_in list i) p q
      go false q l ih = ih (omega arith)

  -- what stands before it, and what is left from it on
  run_before : (p i k : ℕ) → up_to_next p (run i k) ≡ run i (next_at list p i k - i)
  unfolding next_at up_to_next
  run_before p i zero = let e : i - i ≡ 0 = omega arith in rw (e, run_none i) refl
  run_before p i (suc k) = rw (run_more i k) (go (eqb (place_in list i) p) refl (run_before p (i + 1) k) (next_from p (i + 1) k))
    where
      go : (e : Bool) → eqb (place_in list i) p ≡ e → up_to_next p (run (i + 1) k) ≡ run (i + 1) (next_at list p (i + 1) k - (i + 1)) → i + 1 ≤ next_at list p (i + 1) k
          → cond (is_at p (field_at t list i)) [] (field_at t list i ∷ up_to_next p (run (i + 1) k)) ≡ run i (cond e i (next_at list p (i + 1) k) - i)
      go true q ih l = let e : i - i ≡ 0 = omega arith in rw (place_at i p true q, e, run_none i) refl
      go false q ih l =
          let e : next_at list p (i + 1) k - i ≡ suc (next_at list p (i + 1) k - (i + 1)) = omega arith in
          rw (place_at i p false q, e, ih) (sym (run_more i (next_at list p (i + 1) k - (i + 1))))

  run_behind : (p i k : ℕ) → stretches_from p (run i k) ≡ stretches_from p (run (next_at list p i k) (i + k - next_at list p i k))
  unfolding next_at stretches_from
  run_behind p i zero = let e : i + 0 - i ≡ 0 = omega arith in rw e refl
  run_behind p i (suc k) = go (eqb (place_in list i) p) refl (run_behind p (i + 1) k)
    where
      go : (e : Bool) → eqb (place_in list i) p ≡ e → stretches_from p (run (i + 1) k) ≡ stretches_from p (run (next_at list p (i + 1) k) (i + 1 + k - next_at list p (i + 1) k))
          → stretches_from p (run i (suc k)) ≡ stretches_from p (run (cond e i (next_at list p (i + 1) k)) (i + suc k - cond e i (next_at list p (i + 1) k)))
      go true q ih = let e : i + suc k - i ≡ suc k = omega arith in rw e refl
      go false q ih = let e : i + suc k ≡ i + 1 + k = omega arith in rw (e, ← ih, run_more i k, place_at i p false q) refl

  value_before : (omitted none : List ℕ) (p i k : ℕ) → next_at list p i k < i + k
      → value_or omitted none p (run i k) ≡ cond (is_empty (value_in t list (next_at list p i k))) none (value_in t list (next_at list p i k))
  unfolding next_at value_or
  value_before omitted none p i zero h = absurd (omega arith)
  value_before omitted none p i (suc k) h = rw (run_more i k) (go (eqb (place_in list i) p) refl h (value_before omitted none p (i + 1) k))
    where
      go : (e : Bool) → eqb (place_in list i) p ≡ e → cond e i (next_at list p (i + 1) k) < i + suc k
          → (next_at list p (i + 1) k < i + 1 + k
          → value_or omitted none p (run (i + 1) k) ≡ cond (is_empty (value_in t list (next_at list p (i + 1) k))) none (value_in t list (next_at list p (i + 1) k)))
          → cond (is_at p (field_at t list i)) (cond (is_empty (field_at t list i).value) none (field_at t list i).value) (value_or omitted none p (run (i + 1) k))
          ≡ cond (is_empty (value_in t list (cond e i (next_at list p (i + 1) k)))) none (value_in t list (cond e i (next_at list p (i + 1) k)))
      go true q l ih = rw (place_at i p true q, value_at_place i) refl
      go false q l ih = rw (place_at i p false q) (ih (omega arith))

  value_omitted : (omitted none : List ℕ) (p i k : ℕ) → i + k ≤ next_at list p i k → value_or omitted none p (run i k) ≡ omitted
  unfolding next_at value_or
  value_omitted omitted none p i zero h = rw (run_none i) refl
  value_omitted omitted none p i (suc k) h = rw (run_more i k) (go (eqb (place_in list i) p) refl h (value_omitted omitted none p (i + 1) k))
    where
      go : (e : Bool) → eqb (place_in list i) p ≡ e → i + suc k ≤ cond e i (next_at list p (i + 1) k)
          → (i + 1 + k ≤ next_at list p (i + 1) k → value_or omitted none p (run (i + 1) k) ≡ omitted)
          → cond (is_at p (field_at t list i)) (cond (is_empty (field_at t list i).value) none (field_at t list i).value) (value_or omitted none p (run (i + 1) k)) ≡ omitted
      go true q l ih = absurd (omega arith)
      go false q l ih = rw (place_at i p false q) (ih (omega arith))

  count_run : (p i k : ℕ) → count_at list p i k ≡ length (stretches_from p (run i k))
  unfolding count_at stretches_from
  count_run p i zero = rw (run_none i) refl
  count_run p i (suc k) = rw (run_more i k) (go (eqb (place_in list i) p) refl (count_run p (i + 1) k))
    where
      go : (e : Bool) → eqb (place_in list i) p ≡ e → count_at list p (i + 1) k ≡ length (stretches_from p (run (i + 1) k))
          → cond (eqb (place_in list i) p) 1 0 + count_at list p (i + 1) k
          ≡ length (cond (is_at p (field_at t list i)) ((field_at t list i ∷ up_to_next p (run (i + 1) k)) ∷ stretches_from p (run (i + 1) k)) (stretches_from p (run (i + 1) k)))
      go true q ih = rw (q, place_at i p true q, ih) (omega arith)
      go false q ih = rw (q, place_at i p false q, ih) (omega arith)

-- ---- as the code goes over them

module _ (t : List ℕ) (list : List FieldAt) (p from to : ℕ) where
  -- the number that the next field of the place has
  abbrev next : ℕ
  next = next_at list p from (to - from)

  pub next_within : from ≤ to → next ≤ to
  next_within h = omega (arith, next_to t list p from (to - from))

  pub next_at_place : next < to → place_in list next ≡ p
  next_at_place h = next_place t list p from (to - from) (omega (arith, next_from t list p from (to - from)))

  -- the stretches that begin with the place are those from its next field on
  pub stretches_next : from ≤ to → stretches_from p (between t list from to) ≡ stretches_from p (between t list next to)
  unfolding between
  stretches_next h =
      let e : from + (to - from) ≡ to = omega arith in
      rw e at (run_behind t list p from (to - from))

  -- what stands before it
  pub before_next : up_to_next p (between t list from to) ≡ between t list from next
  unfolding between
  before_next = run_before t list p from (to - from)

  pub count_stretches : count_at list p from (to - from) ≡ length (stretches_from p (between t list from to))
  unfolding between
  count_stretches = count_run t list p from (to - from)

  -- a stretch that begins with the place: up to the next one, and the others behind it
  pub stretch_more : from < to → place_in list from ≡ p
      → stretches_from p (between t list from to)
      ≡ between t list from (next_at list p (from + 1) (to - (from + 1))) ∷ stretches_from p (between t list (next_at list p (from + 1) (to - (from + 1))) to)
  unfolding between stretches_from
  stretch_more h e =
      let one : to - from ≡ suc (to - (from + 1)) = omega arith in
      let up : from + 1 ≤ next_at list p (from + 1) (to - (from + 1)) = next_from t list p (from + 1) (to - (from + 1)) in
      let whole : from + 1 + (to - (from + 1)) ≡ to = omega arith in
      let own : next_at list p (from + 1) (to - (from + 1)) - from ≡ suc (next_at list p (from + 1) (to - (from + 1)) - (from + 1)) = omega arith in
      rw (
        one,
        run_more t list from (to - (from + 1)),
        place_at t list from p true (eq-eqb (place_in list from) p e),
        own,
        run_more t list from (next_at list p (from + 1) (to - (from + 1)) - (from + 1)),
        run_before t list p (from + 1) (to - (from + 1)),
      )
      (ap (λ (l : List (List Field)). (field_at t list from ∷ run t list (from + 1) (next_at list p (from + 1) (to - (from + 1)) - (from + 1))) ∷ l)
      (rw whole at (run_behind t list p (from + 1) (to - (from + 1)))))

  module _ (omitted none : List ℕ) (n : ℕ) (e : n ≡ next) where
    pub value_is_omitted : to ≤ n → omitted ≡ value_or omitted none p (between t list from to)
    unfolding between
    value_is_omitted h = sym (value_omitted t list omitted none p from (to - from) (omega (arith, next_from t list p from (to - from))))

    pub value_found : n < to → value_or omitted none p (between t list from to) ≡ cond (is_empty (value_in t list n)) none (value_in t list n)
    unfolding between
    value_found h = rw e (value_before t list omitted none p from (to - from) (omega (arith, next_from t list p from (to - from))))

    pub value_is_none : (v : List ℕ) → n < to → v ≡ value_in t list n → length v ≡ 0 → none ≡ value_or omitted none p (between t list from to)
    value_is_none v h q z = sym (value_found h ∙ rw (← q, eq-eqb (length v) 0 z) refl)

    pub value_is : (v : List ℕ) → n < to → v ≡ value_in t list n → (length v ≡ 0 → ⊥) → v ≡ value_or omitted none p (between t list from to)
    value_is v h q z = sym (value_found h ∙ rw (← q, ne_eqb (length v) 0 z) refl)

-- the value at a place, with the paper's defaults
pub value_or_lem : (p : ℕ) (fs : List Field) → value_or (default_at p) (bytes "[]") p fs ≡ value_at p fs
unfolding value_or value_at meant
value_or_lem p [] = refl
value_or_lem p (f ∷ fs) = ap (cond (is_at p f) (meant f)) (value_or_lem p fs)

-- ---- the front of a list as a list of its own

module _ (list : List FieldAt) (n : ℕ) (h : n ≤ length list) where
  front_long : length (take n list) ≡ n
  front_long = length-take-le n list h

  front_same : (i : ℕ) → i < n → get_or (take n list) i nowhere_at ≡ get_or list i nowhere_at
  front_same i l = get_or-take n list i nowhere_at l

  front_bytes : (k : ℕ) → k ≤ n → bytes_to (take n list) k ≡ bytes_to list k
  unfolding bytes_to
  front_bytes zero l = refl
  front_bytes (suc k) l = omega (arith, front_bytes k (omega arith), ap (λ (x : FieldAt). x.end - x.start) (front_same k (omega arith)))

  pub bytes_front : bytes_to (take n list) (length (take n list)) ≡ bytes_to list n
  bytes_front = rw front_long (front_bytes n (omega arith))

  module _ (t : List ℕ) where
    front_run : (i k : ℕ) → i + k ≤ n → run t (take n list) i k ≡ run t list i k
    front_run i zero l = rw (run_none t (take n list) i, run_none t list i) refl
    front_run i (suc k) l =
        rw (run_more t (take n list) i k, run_more t list i k, ap (field_of t) (front_same i (omega arith)), front_run (i + 1) k (omega arith)) refl

    pub between_front : between t (take n list) 0 (length (take n list)) ≡ between t list 0 n
    unfolding between
    between_front = let e : n - 0 ≡ n = omega arith in rw (front_long, e) (front_run 0 n (omega arith))

-- ---- one field put behind the others

module _ (list : List FieldAt) (n : ℕ) (f : FieldAt) (room : n < length list) where
  put_there : get_or (set list n f) n nowhere_at ≡ f
  put_there = get_or-set_same list n f nowhere_at room

  put_other : (j : ℕ) → j < n → get_or (set list n f) j nowhere_at ≡ get_or list j nowhere_at
  put_other j h = get_or-set_other list n j f nowhere_at (λ e. omega arith)

  size_there : end_in (set list n f) n - start_in (set list n f) n ≡ f.end - f.start
  size_there = ap (λ (x : FieldAt). x.end - x.start) put_there

  size_stays : (j : ℕ) → j < n → end_in (set list n f) j - start_in (set list n f) j ≡ end_in list j - start_in list j
  size_stays j h = ap (λ (x : FieldAt). x.end - x.start) (put_other j h)

  -- the values before it have as many bytes as they had
  bytes_stay : (k : ℕ) → k ≤ n → bytes_to (set list n f) k ≡ bytes_to list k
  unfolding bytes_to
  bytes_stay zero h = refl
  bytes_stay (suc k) h = omega (arith, bytes_stay k (omega arith), size_stays k (omega arith))

  pub bytes_put : bytes_to (set list n f) (n + 1) ≡ bytes_to list n + (f.end - f.start)
  bytes_put = omega (arith, bytes_more (set list n f) n, bytes_stay n (omega arith), size_there)

  module _ (t : List ℕ) where
    put_field_at : field_at t (set list n f) n ≡ record { line = f.line; place = f.place; start = f.start; value = value_of t f }
    unfolding field_of
    put_field_at = ap (field_of t) put_there

    others_stay : (i : ℕ) → i < n → field_at t (set list n f) i ≡ field_at t list i
    others_stay i h = ap (field_of t) (put_other i h)

    run_stays : (i k : ℕ) → i + k ≤ n → run t (set list n f) i k ≡ run t list i k
    run_stays i zero h = rw (run_none t (set list n f) i, run_none t list i) refl
    run_stays i (suc k) h = rw (run_more t (set list n f) i k, run_more t list i k, others_stay i (omega arith), run_stays (i + 1) k (omega arith)) refl

    pub between_put : between t (set list n f) 0 (n + 1) ≡ between t list 0 n ++ (record { line = f.line; place = f.place; start = f.start; value = value_of t f } ∷ [])
    unfolding between
    between_put =
        let e : n + 1 - 0 ≡ n + 1 = omega arith in
        let g : n - 0 ≡ n = omega arith in
        rw (
          e,
          g,
          counted_append 0 n 1,
          map-append (field_at t (set list n f)) (count_up 0 n) (count_up (0 + n) 1),
          run_stays 0 n (omega arith),
          zero-add,
          run_more t (set list n f) n 0,
          run_none t (set list n f) (n + 1),
          put_field_at,
        ) refl
