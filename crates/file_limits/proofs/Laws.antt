-- Counts against their limits: what was counted and what is left pass the limit where all of it does.
use mathlib.Core.Path.{◌≡◌, refl, ◌∙◌}
use mathlib.Core.Bool.{Bool, true, false, cond}
use mathlib.Core.List.{List, [], ◌∷◌, ◌++◌}
use Prim.Native.Nat.{ℕ, ◌+◌, ◌-◌, ◌*◌, ◌^◌, ◌<◌, ◌≤◌}
use native.Mathlib.Omega.{arith}
use mir.Syntax.{w64}
use mir.Val.{Fits}
use lib.Dec.{eqb, ltb}
use lib.ListN.{length, get_or, take, drop, length-take, length-drop}
use borrow.Author.Tests.{eq-eqb, ne_eqb, lt-ltb, le-ltb, ltb-false}
use Rattle.paper.specs.Common.{any_of}
use Rattle.paper.specs.Limits.{most_domains, most_members}
use Rattle.paper.specs.Listing.{object_name, object_members, subject_name, subject_members, principal, can_read, can_write}
use Rattle.paper.specs.Lists.{elements}
use Rattle.paper.specs.Page.{Field}
use Rattle.paper.specs.Entries.{call_contexts, is_at_one, entries_of, line_of_entry}
use Rattle.paper.specs.Rules.{earlier, earliest, first_with, passing, one_at, members_at, long_pattern, descriptors_of, descriptors_in, over_limit}
use Rattle.file_fields.specs.Fields.{nowhere_at, stands_at, value_of, line_in, field_of, field_at, between, maps_end}
use Rattle.file_fields.specs.declared.file.FieldAt.{FieldAt}
use Rattle.file_fields.proofs.Between.{between_more, between_none}
use Rattle.file_fields.proofs.Items.{item_within, item_is, items_end}
use Rattle.file_fields.proofs.Left.{left_entries, left_more, left_none, next_entry_line}
use Rattle.file_fields.specs.Stretches.{fields_of, stretch_of, left_of, Begins, IsNext}
use Rattle.file_fields.specs.declared.file.File.{File}
use Rattle.file_fields.specs.declared.stretch.Stretch.{Stretch}
use Rattle.file_fields.specs.declared.stretch.Stretches.{Stretches}
use Rattle.file_fields.proofs.Maps.{as_in_maps}
use Rattle.file_limits.specs.Counts.{map_line}

-- ---- the weight of a field

module _ (f : FieldAt) (place : ℕ) (t : List ℕ) (w : ℕ) (e : w ≡ cond (stands_at place f) 1 0) where
  pub one_weighs : w ≡ one_at place (field_of t f)
  unfolding one_at field_of
  one_weighs = e

module _ (t : List ℕ) (f : FieldAt) (place p : ℕ) (e : p ≡ f.place) where
  pub no_members : (p ≡ place → ⊥) → 0 ≡ members_at place (field_of t f)
  unfolding members_at field_of
  no_members h = rw (← e, ne_eqb p place h) refl

  pub all_members : p ≡ place → (v : List ℕ) → v ≡ value_of t f → (n : ℕ) → n ≡ length (elements v) → n ≡ members_at place (field_of t f)
  unfolding members_at field_of
  all_members h v g n q = rw (← e, eq-eqb p place h, ← g) q

pub members_little : (t v : List ℕ) (f : FieldAt) (n : ℕ) → v ≡ value_of t f → n ≤ length v + 1 → n ≤ length t + 1
members_little t v f n e h = let q : length v ≤ length t = rw (e, length-take) (omega (arith, length-drop f.start t)) in omega arith

-- ---- counted field by field

module _ (t : List ℕ) (list items : List FieldAt) (from to : ℕ) (cut : items ≡ take (to - from) (drop from list)) (ordered : from ≤ to) (listed : to ≤ length list)
    (weigh : Field → ℕ) (most i sum : ℕ) where
  -- the line of what is left
  abbrev left : ℕ → ℕ → ℕ
  left k j = passing (λ f. f.line) weigh most k (between t list (from + j) to)

  module _ (whole : ℕ) (inv : left sum i ≡ whole) where
    module _ (h : i < length items) (w : ℕ) (e : w ≡ weigh (field_of t (get_or items i nowhere_at))) where
      at_step : cond (ltb most (sum + weigh (field_at t list (from + i)))) (line_in list (from + i)) (left (sum + weigh (field_at t list (from + i))) (i + 1)) ≡ whole
      unfolding passing field_of
      at_step =
          let on : from + i + 1 ≡ from + (i + 1) = omega arith in
          rw on at (rw (between_more t list (from + i) to (item_within list items from to cut ordered listed i h)) at inv)

      step : cond (ltb most (sum + w)) (get_or items i nowhere_at).line (left (sum + w) (i + 1)) ≡ whole
      unfolding field_of
      step = rw (e, item_is list items from to cut ordered listed i h) at_step

      pub passes_here : (line : ℕ) → most < sum + w → line ≡ (get_or items i nowhere_at).line → line ≡ whole
      passes_here line l q = q ∙ (rw (lt-ltb most (sum + w) l) at step)

      pub passes_not : sum + w ≤ most → left (sum + w) (i + 1) ≡ whole
      passes_not l = rw (le-ltb most (sum + w) l) at step

    pub passes_nowhere : length items ≤ i → 0 ≡ whole
    unfolding passing
    passes_nowhere h = rw (between_none t list (from + i) to (items_end list items from to cut ordered listed i h)) at inv

pub sum_fits : (t : List ℕ) (sum w most : ℕ) → sum ≤ most → most ≤ 1024 → w ≤ length t + 1 → length t * 1 < 2 ^ 63 → Fits w64 (sum + w)
sum_fits t sum w most a b d l = omega arith

-- ---- long patterns

module _ (t : List ℕ) (f : FieldAt) (p : ℕ) (e : p ≡ f.place) (b : Bool) (q : b ≡ any_of (eqb p) call_contexts) where
  pub no_pattern : b ≡ false → b ≡ long_pattern (field_of t f)
  unfolding long_pattern is_at_one field_of
  no_pattern h = rw (← e, ← q, h) refl

  pub pattern_long : (v : List ℕ) (n : ℕ) → b ≡ true → v ≡ value_of t f → n ≡ length (elements v) → ltb 16 n ≡ long_pattern (field_of t f)
  unfolding long_pattern is_at_one field_of
  pattern_long v n h g l = rw (← e, ← q, h, ← g, l) refl

-- ---- access descriptors

pub both_accesses : (fs : List Field) (a b : ℕ) → a ≡ descriptors_of can_read fs → b ≡ descriptors_of can_write fs → a + b ≡ descriptors_in fs
unfolding descriptors_in
both_accesses fs a b p q = rw (p, q) refl

module _ (s : Stretches) (sum whole : ℕ) (inv : passing line_of_entry descriptors_in 256 sum (left_of s) ≡ whole) where
  module _ (x : Stretch) (r : Stretches) (n : IsNext s x r) (w : ℕ) (e : w ≡ descriptors_in (stretch_of x)) where
    entry_step : cond (ltb 256 (sum + w)) (line_in x.file.fields.now x.from) (passing line_of_entry descriptors_in 256 (sum + w) (left_of r)) ≡ whole
    unfolding passing
    entry_step = rw (left_more s x r n, ← e, next_entry_line s x r n) at inv

    pub descriptors_pass : (line : ℕ) → 256 < sum + w → line ≡ line_in x.file.fields.now x.from → line ≡ whole
    descriptors_pass line l f = f ∙ (rw (lt-ltb 256 (sum + w) l) at entry_step)

    pub descriptors_on : sum + w ≤ 256 → passing line_of_entry descriptors_in 256 (sum + w) (left_of r) ≡ whole
    descriptors_on l = rw (le-ltb 256 (sum + w) l) at entry_step

  pub no_entries : s.rest.from ≡ s.rest.to → 0 ≡ whole
  unfolding passing
  no_entries h = rw (left_none s h) at inv

pub entries_start : (file : File) (s : Stretches) → Begins file principal 0 (length file.fields.now) s
    → passing line_of_entry descriptors_in 256 0 (left_of s) ≡ passing line_of_entry descriptors_in 256 0 (entries_of (fields_of file))
entries_start file s b = rw (left_entries file s b) refl

pub descriptors_fit_lem : (list : List FieldAt) (to sum w : ℕ) → sum ≤ 256 → w ≤ 2 * (1 + to) → to ≤ length list → length list * 16 < 2 ^ 63 → Fits w64 (sum + w)
descriptors_fit_lem list to sum w q b d l = omega arith

-- ---- all of them

-- a field that weighs nothing, put behind the others, passes no limit
passing_blind : {A : Type 0} (line weight : A → ℕ) (most : ℕ) (f : A) → weight f ≡ 0 → (fs : List A) (k : ℕ) → k ≤ most
    → passing line weight most k (fs ++ (f ∷ [])) ≡ passing line weight most k fs
unfolding passing
passing_blind line weight most f z [] k h = let e : k + weight f ≡ k = omega (arith, z) in rw (e, le-ltb most k h) refl
passing_blind line weight most f z (x ∷ xs) k h = go (ltb most (k + weight x)) refl (passing_blind line weight most f z xs (k + weight x))
  where
    go : (b : Bool) → ltb most (k + weight x) ≡ b → (k + weight x ≤ most → passing line weight most (k + weight x) (xs ++ (f ∷ [])) ≡ passing line weight most (k + weight x) xs)
        → cond b (line x) (passing line weight most (k + weight x) (xs ++ (f ∷ []))) ≡ cond b (line x) (passing line weight most (k + weight x) xs)
    go true e on = refl
    go false e on = on (ltb-false most (k + weight x) e)

module _ (place : ℕ) (f : Field) (l : place < principal) (h : principal ≤ f.place) where
  one_blind : one_at place f ≡ 0
  unfolding one_at
  one_blind = rw (ne_eqb f.place place (λ e. omega arith)) refl

  members_blind : members_at place f ≡ 0
  unfolding members_at
  members_blind = rw (ne_eqb f.place place (λ e. omega arith)) refl

maps_blind : (after : ℕ) (fs : List Field) (f : Field) → principal ≤ f.place → map_line (fs ++ (f ∷ [])) after ≡ map_line fs after
unfolding map_line
maps_blind after fs f h =
    rw (
      passing_blind (λ f. f.line) (one_at object_name) most_domains f (one_blind object_name f (omega arith) h) fs 0 (omega arith),
      passing_blind (λ f. f.line) (one_at subject_name) most_domains f (one_blind subject_name f (omega arith) h) fs 0 (omega arith),
      passing_blind (λ f. f.line) (members_at object_members) most_members f (members_blind object_members f (omega arith) h) fs 0 (omega arith),
      passing_blind (λ f. f.line) (members_at subject_members) most_members f (members_blind subject_members f (omega arith) h) fs 0 (omega arith),
    )
    refl

maps_put : (fs : List Field) (a b d e after w x y z : ℕ)
    → a ≡ passing (λ f. f.line) (one_at object_name) 128 0 fs
    → b ≡ passing (λ f. f.line) (one_at subject_name) 128 0 fs
    → d ≡ passing (λ f. f.line) (members_at object_members) 1024 0 fs
    → e ≡ passing (λ f. f.line) (members_at subject_members) 1024 0 fs
    → w ≡ earlier e after → x ≡ earlier d w → y ≡ earlier b x → z ≡ earlier a y → z ≡ map_line fs after
unfolding map_line
maps_put fs a b d e after w x y z p q r s k l m n = n ∙ rw (m, l, k, p, q, r, s) refl

pub map_line_lem : (t : List ℕ) (list : List FieldAt) (n end : ℕ) → end ≡ maps_end list n → (a b d e after w x y z : ℕ)
    → a ≡ passing (λ f. f.line) (one_at object_name) 128 0 (between t list 0 end)
    → b ≡ passing (λ f. f.line) (one_at subject_name) 128 0 (between t list 0 end)
    → d ≡ passing (λ f. f.line) (members_at object_members) 1024 0 (between t list 0 end)
    → e ≡ passing (λ f. f.line) (members_at subject_members) 1024 0 (between t list 0 end)
    → w ≡ earlier e after → x ≡ earlier d w → y ≡ earlier b x → z ≡ earlier a y → z ≡ map_line (between t list 0 n) after
map_line_lem t list n end i a b d e after w x y z p q r s k l m o =
    maps_put (between t list 0 end) a b d e after w x y z p q r s k l m o
    ∙ rw i (as_in_maps t list (λ fs. map_line fs after) (maps_blind after) n)

module _ (fs : List Field) where
  pub all_lines : (a b d w x y z : ℕ)
      → a ≡ passing (λ f. f.line) (one_at principal) 128 0 fs
      → b ≡ first_with long_pattern fs
      → d ≡ passing line_of_entry descriptors_in 256 0 (entries_of fs)
      → w ≡ earlier d 0 → x ≡ earlier b w → y ≡ earlier a x → z ≡ map_line fs y → z ≡ over_limit fs
  unfolding map_line over_limit earliest
  all_lines a b d w x y z p q r k l m n = n ∙ rw (m, l, k, p, q, r) refl
