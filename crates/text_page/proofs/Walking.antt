-- The walk, line by line: its answer, and what that says of the page.
use mathlib.Core.Path.{◌≡◌, refl, sym, ap, ◌∙◌}
use mathlib.Core.Bool.{Bool, true, false, cond}
use mathlib.Core.List.{List, [], ◌∷◌}
use mathlib.Core.Logic.{⊎_elim}
use Prim.Native.Nat.{ℕ, ◌+◌, ◌*◌, ◌-◌, ◌^◌, ◌<◌, ◌≤◌}
use native.Mathlib.Omega.{arith}
use mir.Syntax.{w64}
use mir.Val.{Fits}
use lib.Dec.{eqb}
use lib.ListN.{length, get_or-eq_default, take, drop, length-take, length-drop, drop_of_length-le}
use lib.Seq.{drop-drop}
use Rattle.paper.specs.Text.{Line, next_byte, return_before_feed, end_at, lines_from, with_byte, on_line}
use Rattle.paper.specs.Listing.{row, listing, row_at, key_at}
use Rattle.paper.specs.declared.Value.TheVariants.{Keys}
use Rattle.paper.specs.Page as paper
use Rattle.paper.specs.Page.{Outcome, fields, fault, and_fields, after, is_left_empty, line_step, at_end, page_from}
use Rattle.laws.proofs.Tests.{le_or_lt}
use Rattle.laws.proofs.Places.{drop_take}
use Rattle.laws_page.proofs.Right.{FieldOf, field_on_lem}
use Rattle.laws_page.proofs.Keys.{key_long}
use Rattle.text_keys.specs.Rows.{seen, told}
use Rattle.text_keys.specs.declared.rows.Row.{Row}
use Rattle.text_lines.specs.Splits.{Splits}
use Rattle.text_lines.specs.declared.LineAt.{LineAt}
use Rattle.std.specs.Prelude.{Some, None, Ok, Err}
use Rattle.paper.specs.declared.Fault.{Fault}
use Rattle.text_page.specs.Steps.{Step, state_of, step_of, StartsIn}
use Rattle.text_page.specs.Walk.{Next, start_of, next_after, next_in, last_next, page_left, page_next, field_bytes, places, Within}
use Rattle.text_page.proofs.Steps.{last_told}
use Rattle.text_page.specs.declared.Field.{Field}
use Rattle.text_page.specs.declared.step.State.{State}
use Rattle.text_page.specs.declared.step.Keyed.{Keyed}

first_start : (end at b next : ℕ) (ls : List Line) → start_of end (with_byte at b next ls) ≡ at
unfolding with_byte on_line
first_start end at b next ls = go (return_before_feed b next) (eqb b 10) ls
  where
    go : (r x : Bool) (ms : List Line) → start_of end (cond r (end_at at ∷ drop 1 ms) (cond x (end_at at ∷ ms) (on_line at b ms))) ≡ at
    go true x ms = refl
    go false true ms = refl
    go false false [] = refl
    go false false (m ∷ ms) = refl

-- the lines from a place on start there
starts_at : (t : List ℕ) (at : ℕ) → at ≤ length t → start_of (length t) (lines_from at (drop at t)) ≡ at
unfolding lines_from
starts_at t at h = go (drop at t) refl
  where
    go : (xs : List ℕ) → drop at t ≡ xs → start_of (length t) (lines_from at xs) ≡ at
    go [] e = let k : length (drop at t) ≡ 0 = ap length e in omega (arith, length-drop at t)
    go (b ∷ bs) e = first_start (length t) at b (next_byte bs) (lines_from (at + 1) bs)

no_fields : (p : Outcome) → and_fields [] p ≡ p
no_fields (fields fs) = refl
no_fields (fault k m) = refl

-- a key that has bytes is that of a row
key_listed : (p : ℕ) → 0 < length (key_at p) → p < places
unfolding listing row_at key_at
key_listed p k =
    ⊎_elim
    (λ (h : length listing ≤ p). absurd (let z : length (key_at p) ≡ 0 = rw (get_or-eq_default listing (row "" Keys [] [] false) {n = p} h) refl in omega (arith, z)))
    (λ (h : p < length listing). h)
    (le_or_lt (length listing) p)

-- ---- one line of the walk

module _ (t : List ℕ) (at : ℕ) (l : LineAt) (sp : Splits t at l) where
  pub part_from : at ≤ l.end
  part_from = sp.after

  pub part_to : l.end ≤ length t
  part_to = sp.inside

  pub walk_less : length t - l.next < length t - at
  walk_less = omega (arith, sp.further, sp.stays)

  pub walk_line : (n : ℕ) → n ≤ at + 1 → n + 1 ≤ l.next + 1
  walk_line n k = omega (arith, sp.further)

  pub walk_on : (a : ℕ) → a ≤ at → a ≤ l.next
  walk_on a k = omega (arith, sp.further)

  pub walk_stays : l.next ≤ length t
  walk_stays = sp.stays

  pub line_fits : (n : ℕ) → n ≤ at + 1 → length t * 1 < 2 ^ 63 → Fits w64 (n + 1)
  line_fits n k f = omega (arith, sp.further, sp.stays)

  module _ (st : State) (n : ℕ) (s : Step)
      (e : (x : ℕ) → line_step (state_of st) n (record { start = x; text = take (l.end - at) (drop at t); ended = l.ended }) ≡ step_of st n x (take (l.end - at) (drop at t)) s) where
    -- the field that the walk tells of
    abbrev pub found : Keyed → Field
    found k = record { line = n; place = k.place; start = at + k.start; bare = k.bare; end = l.end; next = l.next }

    module _ (N : Next) (inv : next_in (length t) (state_of st) n (lines_from at (drop at t)) ≡ N) where
      -- the answer at a step of this line
      answer : paper.Step → Next
      answer x = next_after (length t) (lines_from l.next (drop l.next t)) x (λ st'. next_in (length t) st' (n + 1) (lines_from l.next (drop l.next t)))

      next_is : N ≡ answer (step_of st n at (take (l.end - at) (drop at t)) s)
      unfolding next_in answer
      next_is = sym inv ∙ ap (next_in (length t) (state_of st) n) sp.splits ∙ ap answer (e at)

      pub next_skip : s ≡ Ok None → next_in (length t) (state_of st) (n + 1) (lines_from l.next (drop l.next t)) ≡ N
      unfolding answer
      next_skip q = sym (next_is ∙ rw q refl)

      pub next_stop : (k : Fault) → s ≡ Err k → Err k ≡ N
      unfolding answer
      next_stop k q = sym (next_is ∙ rw q refl)

      pub next_field : (k : Keyed) → StartsIn (take (l.end - at) (drop at t)) s → s ≡ Ok (Some k) → Ok (Some (found k)) ≡ N
      unfolding answer
      next_field k i q =
          let h : k.start ≤ length (take (l.end - at) (drop at t)) = rw q at i in
          let m : at + k.start + length (drop k.start (take (l.end - at) (drop at t))) ≡ l.end =
          omega (arith, length-drop k.start (take (l.end - at) (drop at t)), length-take (l.end - at) (drop at t), length-drop at t, sp.after, sp.inside) in
          sym (next_is ∙ rw (q, m, starts_at t l.next sp.stays) refl)

    module _ (P : Outcome) (inv : page_from (state_of st) n (lines_from at (drop at t)) ≡ P) where
      page_is : P ≡ after (step_of st n at (take (l.end - at) (drop at t)) s) (λ st'. page_from st' (n + 1) (lines_from l.next (drop l.next t)))
      unfolding page_from
      page_is = sym inv ∙ ap (page_from (state_of st) n) sp.splits ∙ ap (λ (x : paper.Step). after x (λ st'. page_from st' (n + 1) (lines_from l.next (drop l.next t)))) (e at)

      pub page_skip : s ≡ Ok None → page_from (state_of st) (n + 1) (lines_from l.next (drop l.next t)) ≡ P
      page_skip q = sym (page_is ∙ rw q (no_fields _))

      pub page_stop : (k : Fault) → s ≡ Err k → P ≡ page_next t (Err k)
      page_stop k q = page_is ∙ rw q refl

      pub page_field : (k : Keyed) → s ≡ Ok (Some k) → P ≡ page_next t (Ok (Some (found k)))
      unfolding page_left
      page_field k q =
          let h : l.end - at - k.start ≡ l.end - (at + k.start) = omega arith in
          let v : drop k.start (take (l.end - at) (drop at t)) ≡ take (l.end - (at + k.start)) (drop (at + k.start) t) =
          drop_take k.start (l.end - at) (drop at t) ∙ rw (h, drop-drop k.start at t) refl in
          page_is ∙ rw (q, v) refl

    -- the line holds this field
    abbrev FieldHere : Keyed → Type 0
    FieldHere k =
        FieldOf
        (state_of st)
        n
        (record { start = at; text = take (l.end - at) (drop at t); ended = l.ended })
        (record { place = k.place; bare = k.bare; line = n })
        (record { line = n; place = k.place; start = at + k.start; value = drop k.start (take (l.end - at) (drop at t)) })

    field_here : (k : Keyed) → s ≡ Ok (Some k) → FieldHere k
    field_here k q = field_on_lem (state_of st) _ n (record { start = at; text = take (l.end - at) (drop at t); ended = l.ended }) _ (e at ∙ rw q refl)

    -- the key of a field and its LF take at least eight bytes, its place is a row of the listing, and its value takes no more bytes than its line
    pub found_within : (from : ℕ) (k : Keyed) → StartsIn (take (l.end - at) (drop at t)) s → s ≡ Ok (Some k) → from ≤ at → n ≤ at + 1 → at < length t
        → Within t from (Ok (Some (found k)))
    found_within from k i q h lined more =
        let d : FieldHere k = field_here k q in
        let w : k.start ≤ length (take (l.end - at) (drop at t)) = rw q at i in
        let u : k.start ≤ l.end - at = omega (arith, length-take (l.end - at) (drop at t)) in
        let key : 7 ≤ length (key_at k.place) = key_long (state_of st) (take (l.end - at) (drop at t)) k.place d.placed in
        let long : field_bytes ≤ k.start + 1 = omega (arith, key, d.keyed, d.starts) in (
          omega (arith, u, sp.after),
          sp.inside,
          omega (arith, long, length-take (l.end - at) (drop at t), w, sp.after, sp.fed d.ended),
          sp.stays,
          omega (arith, sp.further),
          omega (arith, sp.after, sp.fed d.ended),
          omega arith,
          key_listed k.place (omega (arith, key)),
        )

  module _ (k : Keyed) (s : Step) (i : StartsIn (take (l.end - at) (drop at t)) s) (q : s ≡ Ok (Some k)) where
    start_in_lem : k.start ≤ l.end - at
    start_in_lem = let h : k.start ≤ length (take (l.end - at) (drop at t)) = rw q at i in omega (arith, length-take (l.end - at) (drop at t))

    pub start_fits : length t < 2 ^ 64 → Fits w64 (at + k.start)
    start_fits f = omega (arith, start_in_lem, sp.after, sp.inside)

-- ---- the end of the text

module _ (st : State) (n : ℕ) where
  pub end_empty : is_left_empty (state_of st) false ≡ true → Err (record { number = 9; line = st.line }) ≡ last_next (at_end (state_of st) n)
  unfolding at_end
  end_empty u = rw u

  module _ (row : Row) (u : is_left_empty (state_of st) false ≡ false) (f : seen row ≡ told (row_at st.place)) where
    pub end_right : row.last ≡ true → Ok None ≡ last_next (at_end (state_of st) n)
    unfolding at_end
    end_right v = rw (u, ← last_told st.place row f, v)

    pub end_missing : row.last ≡ false → Err (record { number = 4; line = n }) ≡ last_next (at_end (state_of st) n)
    unfolding at_end
    end_missing v = rw (u, ← last_told st.place row f, v)

module _ (t : List ℕ) (n : ℕ) (st : State) (r : Next) (e : r ≡ last_next (at_end (state_of st) n)) where
  last_is : at_end (state_of st) n ≡ page_next t (last_next (at_end (state_of st) n))
  unfolding at_end
  last_is = go (is_left_empty (state_of st) false) (row_at st.place).last
    where
      go : (a b : Bool) → cond a (fault 9 st.line) (cond b (fields []) (fault 4 n)) ≡ page_next t (last_next (cond a (fault 9 st.line) (cond b (fields []) (fault 4 n))))
      go true b = refl
      go false true = refl
      go false false = refl

  pub next_ends : (at : ℕ) (N : Next) → next_in (length t) (state_of st) n (lines_from at (drop at t)) ≡ N → length t ≤ at → r ≡ N
  unfolding next_in lines_from
  next_ends at N inv h = e ∙ sym (sym inv ∙ rw (drop_of_length-le t h) refl)

  pub page_ends : (at : ℕ) (P : Outcome) → page_from (state_of st) n (lines_from at (drop at t)) ≡ P → length t ≤ at → P ≡ page_next t r
  unfolding page_from lines_from
  page_ends at P inv h = sym inv ∙ rw (drop_of_length-le t h) (last_is ∙ ap (page_next t) (sym e))

  pub ends_within : (from : ℕ) → Within t from r
  ends_within from = rw e (go (at_end (state_of st) n))
    where
      go : (p : Outcome) → Within t from (last_next p)
      go (fields fs) = tt
      go (fault k m) = tt
