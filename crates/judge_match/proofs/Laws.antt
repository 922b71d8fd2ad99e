-- What the functions of this crate need, as plain laws: the facts that a place in the code has, and what is to be shown there.
use mathlib.Core.Path.{◌≡◌, refl, sym, ◌∙◌}
use mathlib.Core.Bool.{Bool, true, false, not, ◌&&◌, ◌||◌, and-true, and-false}
use mathlib.Core.Logic.{⊎_elim}
use mathlib.Core.List.{List, [], map}
use Prim.Native.Nat.{ℕ, zero, suc, ◌+◌, ◌-◌, ◌<◌, ◌≤◌}
use native.Mathlib.Omega.{arith}
use native.Mathlib.Nat.{add_assoc, zero-add}
use lib.Dec.{eqb, ltb}
use lib.ListN.{length, drop, get_or-eq_default}
use borrow.Author.Tests.{eq-eqb, ne_eqb, lt-ltb, le-ltb}
use Rattle.laws.proofs.Tests.{le_or_lt}
use Rattle.paper.specs.Common.{all_of, any_of, count_up}
use Rattle.paper.specs.Scalars.{sort_number}
use Rattle.paper.specs.Table.{set_at, uid_at, gid_at, namespace_at, every_word, variable_word, subject_at, grant_at, entry_at, descriptor_at, word, object_domain_count, pattern_words_in, function_domains_in}
use Rattle.paper.specs.Table.{element_in, sort_in, context_in, is_in, grant_in, descriptor_in, entry_in, policy_in}
use Rattle.paper.specs.Match.{lies_in, matches, top_lies_in, sort_fits, sorts_fit, allocated_sort_fits, allocated_sorts_fit, entry_matches}
use Rattle.paper.specs.Match.{is_all, is_anyone, sorts_anyone, fits_static, fits_allocated, context_fits_object, grants}
use Rattle.paper.specs.Match.{descriptor_grants}
use Rattle.laws.proofs.Counting.{length_map_counted, get_d_counted, counted_step, counted_end}
use Rattle.laws.proofs.Chains.{tested_false, tested_true, is_equal, is_other}
use Rattle.judge_match.specs.declared.Ids.{Ids}
use Rattle.judge_match.specs.declared.Event.{Event}
use Rattle.judge_match.specs.Moments.{moment_of, binding, allocation_of, Placed, has_subject}

-- ---- sorts

pub all_or_variable_fits : (sort id : ℕ) → sort ≤ variable_word → true ≡ sort_fits (sort_in sort) id
unfolding sort_fits sort_in
all_or_variable_fits zero id h = refl
all_or_variable_fits (suc zero) id h = refl
all_or_variable_fits (suc (suc n)) id h = absurd (omega arith)

pub root_fits : (sort id : ℕ) → sort ≡ 2 → eqb id 0 ≡ sort_fits (sort_in sort) id
unfolding sort_fits sort_in
root_fits sort id h = rw h

pub user_fits : (sort id : ℕ) → variable_word < sort → (sort ≡ 2 → ⊥) → not (eqb id 0) ≡ sort_fits (sort_in sort) id
unfolding sort_fits sort_in
user_fits zero id h n = absurd (omega arith)
user_fits (suc zero) id h n = absurd (omega arith)
user_fits (suc (suc zero)) id h n = absurd (n refl)
user_fits (suc (suc (suc k))) id h n = refl

pub variable_is_bound : (sort bound id : ℕ) → sort ≡ variable_word → eqb id bound ≡ allocated_sort_fits (sort_in sort) bound id
unfolding allocated_sort_fits sort_in
variable_is_bound sort bound id h = rw h

pub others_fit_likewise : (sort bound id : ℕ) (r : Bool) → (sort ≡ variable_word → ⊥) → r ≡ sort_fits (sort_in sort) id → r ≡ allocated_sort_fits (sort_in sort) bound id
unfolding allocated_sort_fits sort_fits sort_in
others_fit_likewise zero bound id r n e = e
others_fit_likewise (suc zero) bound id r n e = absurd (n refl)
others_fit_likewise (suc (suc zero)) bound id r n e = e
others_fit_likewise (suc (suc (suc k))) bound id r n e = e

anyone_is_zero : (sort : ℕ) → is_anyone (sort_in sort) ≡ eqb sort 0
unfolding is_anyone sort_number sort_in
anyone_is_zero zero = refl
anyone_is_zero (suc zero) = refl
anyone_is_zero (suc (suc zero)) = refl
anyone_is_zero (suc (suc (suc k))) = sym (ne_eqb (suc (suc (suc k))) 0 (λ (h : suc (suc (suc k)) ≡ 0). omega arith))

-- ---- the sorts of a context, key by key

module _ (ws : List ℕ) (at : ℕ) (ids : Ids) (u : ℕ) (a : Bool) (uid : u ≡ word ws (at + uid_at)) (told : a ≡ sort_fits (sort_in u) ids.uid) where
  abbrev sorts_fit_here : Bool
  sorts_fit_here = sorts_fit (context_in ws at) (moment_of [] ids)

  pub other_uid : not a ≡ true → false ≡ sorts_fit_here
  unfolding sorts_fit context_in
  other_uid n = rw (← uid, tested_false _ a told n)

  module _ (fits : not a ≡ false) (g : ℕ) (b : Bool) (gid : g ≡ word ws (at + gid_at)) (told' : b ≡ sort_fits (sort_in g) ids.gid) where
    pub other_gid : not b ≡ true → false ≡ sorts_fit_here
    unfolding sorts_fit context_in
    other_gid n = rw (← uid, tested_true _ a told fits, ← gid, tested_false _ b told' n)

    pub namespace_decides : (w : ℕ) (r : Bool) → not b ≡ false → w ≡ word ws (at + namespace_at) → r ≡ sort_fits (sort_in w) ids.namespace → r ≡ sorts_fit_here
    unfolding sorts_fit context_in
    namespace_decides w r n e h = rw (← uid, tested_true _ a told fits, ← gid, tested_true _ b told' n, ← e) h

module _ (ws : List ℕ) (at : ℕ) (ids allocated : Ids) (u : ℕ) (a : Bool) (uid : u ≡ word ws (at + uid_at)) (told : a ≡ allocated_sort_fits (sort_in u) ids.uid allocated.uid) where
  abbrev allocated_fit_here : Bool
  allocated_fit_here = allocated_sorts_fit (context_in ws at) (moment_of [] ids) (moment_of [] allocated)

  pub allocated_uid : not a ≡ true → false ≡ allocated_fit_here
  unfolding allocated_sorts_fit context_in
  allocated_uid n = rw (← uid, tested_false _ a told n)

  module _ (fits : not a ≡ false) (g : ℕ) (b : Bool) (gid : g ≡ word ws (at + gid_at)) (told' : b ≡ allocated_sort_fits (sort_in g) ids.gid allocated.gid) where
    pub allocated_gid : not b ≡ true → false ≡ allocated_fit_here
    unfolding allocated_sorts_fit context_in
    allocated_gid n = rw (← uid, tested_true _ a told fits, ← gid, tested_false _ b told' n)

    pub allocated_namespace_decides :
        (w : ℕ) (r : Bool) → not b ≡ false → w ≡ word ws (at + namespace_at) → r ≡ allocated_sort_fits (sort_in w) ids.namespace allocated.namespace → r ≡ allocated_fit_here
    unfolding allocated_sorts_fit context_in
    allocated_namespace_decides w r n e h = rw (← uid, tested_true _ a told fits, ← gid, tested_true _ b told' n, ← e) h

module _ (ws : List ℕ) (at u : ℕ) (uid : u ≡ word ws (at + uid_at)) where
  pub uid_of_someone : (u ≡ 0 → ⊥) → false ≡ sorts_anyone (context_in ws at)
  unfolding sorts_anyone context_in
  uid_of_someone h = simp (anyone_is_zero, is_other _ 0 u uid h)

  module _ (all : u ≡ 0) (g : ℕ) (gid : g ≡ word ws (at + gid_at)) where
    pub gid_of_someone : (g ≡ 0 → ⊥) → false ≡ sorts_anyone (context_in ws at)
    unfolding sorts_anyone context_in
    gid_of_someone h = simp (anyone_is_zero, is_other _ 0 g gid h, and-false)

    pub namespace_of_anyone : (w : ℕ) → g ≡ 0 → w ≡ word ws (at + namespace_at) → eqb w 0 ≡ sorts_anyone (context_in ws at)
    unfolding sorts_anyone context_in
    namespace_of_anyone w h e =
        rw (anyone_is_zero (word ws (at + uid_at)), is_equal _ 0 u uid all, anyone_is_zero (word ws (at + gid_at)), is_equal _ 0 g gid h)
        (rw (anyone_is_zero (word ws (at + namespace_at)), ← e))

-- ---- an entry matches

pub subject_compared : (ws : List ℕ) (event : Event) (k at w : ℕ) → at ≡ entry_at k → w ≡ word ws (at + subject_at) → eqb event.subject w ≡ has_subject ws k event
unfolding entry_in
subject_compared ws event k at w stands e = rw (e, stands)

module _ (ws s : List ℕ) (event : Event) (placed : Placed ws s event) where
  top_lies_in_lem : (domain : ℕ) → top_lies_in (policy_in ws) domain s ≡ eqb event.subject domain
  unfolding top_lies_in lies_in policy_in
  top_lies_in_lem domain = rw (ne_eqb _ 0 placed.some, lt-ltb _ _ placed.listed, placed.subject)

  module _ (k : ℕ) where
    abbrev entry_matches_here : Bool
    entry_matches_here = entry_matches (policy_in ws) (entry_in ws k) (moment_of s event.ids)

    pub other_subject : has_subject ws k event ≡ false → false ≡ entry_matches_here
    unfolding entry_matches
    other_subject h = rw (top_lies_in_lem (entry_in ws k).subject, h)

    module _ (at : ℕ) (stands : at ≡ entry_at k) where
      pub other_sorts : (r : Bool) → r ≡ sorts_fit (context_in ws at) (moment_of [] event.ids) → not r ≡ true → false ≡ entry_matches_here
      unfolding entry_matches entry_in sorts_fit
      other_sorts r h n = rw (← stands) (simp (tested_false _ r h n, and-false))

      pub pattern_decides :
          (F p : List ℕ) (a r : Bool) → has_subject ws k event ≡ true → a ≡ sorts_fit (context_in ws at) (moment_of [] event.ids) → not a ≡ false
          → F ≡ function_domains_in ws → p ≡ pattern_words_in ws at → r ≡ matches F (map element_in p) s → r ≡ entry_matches_here
      unfolding entry_matches entry_in sorts_fit context_in policy_in
      pattern_decides F p a r q h n x z y =
          rw (top_lies_in_lem (entry_in ws k).subject, q, ← stands, tested_true _ a h n, ← x, ← z, ← y, and-true)

-- ---- a context fits an object

module _ (ws : List ℕ) (at : ℕ) where
  pub not_anyone : (r : Bool) → r ≡ sorts_anyone (context_in ws at) → not r ≡ true → false ≡ fits_static (context_in ws at)
  unfolding fits_static
  not_anyone r h n = simp (tested_false _ r h n, and-false)

  pub static_pattern_decides :
      (p : List ℕ) (a r : Bool) → a ≡ sorts_anyone (context_in ws at) → not a ≡ false → p ≡ pattern_words_in ws at → r ≡ all_of is_all (map element_in p)
      → r ≡ fits_static (context_in ws at)
  unfolding fits_static context_in
  static_pattern_decides p a r h n z y = rw (tested_true _ a h n, and-true) (y ∙ rw z)

  module _ (event : Event) (al : List ℕ) where
    abbrev numbers_fit : Bool
    numbers_fit = allocated_sorts_fit (context_in ws at) (moment_of [] event.ids) (moment_of [] event.allocated)

    pub other_numbers : (r : Bool) → r ≡ numbers_fit → not r ≡ true → false ≡ fits_allocated (policy_in ws) (context_in ws at) (binding event) (allocation_of al event)
    unfolding fits_allocated allocated_sorts_fit
    other_numbers r h n = simp (tested_false _ r h n, and-false)

    pub allocated_pattern_decides :
        (F p : List ℕ) (a r : Bool) → a ≡ numbers_fit → not a ≡ false → F ≡ function_domains_in ws → p ≡ pattern_words_in ws at → r ≡ matches F (map element_in p) al
        → r ≡ fits_allocated (policy_in ws) (context_in ws at) (binding event) (allocation_of al event)
    unfolding fits_allocated allocated_sorts_fit context_in policy_in
    allocated_pattern_decides F p a r h n x z y = rw (tested_true _ a h n, ← x, ← z, ← y, and-true)

    pub static_object : (r : Bool) → length al ≡ 0 → r ≡ fits_static (context_in ws at) → r ≡ context_fits_object (policy_in ws) (context_in ws at) (binding event) (allocation_of al event)
    unfolding context_fits_object
    static_object r h e = rw (eq-eqb (length al) 0 h) e

    pub allocated_object :
        (r : Bool) → (length al ≡ 0 → ⊥) → r ≡ fits_allocated (policy_in ws) (context_in ws at) (binding event) (allocation_of al event)
        → r ≡ context_fits_object (policy_in ws) (context_in ws at) (binding event) (allocation_of al event)
    unfolding context_fits_object
    allocated_object r h e = rw (ne_eqb (length al) 0 h) e

-- ---- a grant

module _ (ws : List ℕ) (at domains d w : ℕ) (read : w ≡ word ws at) where
  pub every_granted : w ≡ every_word → true ≡ grants (grant_in ws at domains) d
  unfolding grant_in grants
  every_granted h = rw (is_equal _ every_word w read h)

  past_not_granted : (w ≡ every_word → ⊥) → domains ≤ d → false ≡ grants (grant_in ws at domains) d
  unfolding grant_in grants
  past_not_granted h l =
      let n = length_map_counted (is_in (drop (at + set_at) ws)) 0 domains in
      rw (is_other _ every_word w read h) (sym (get_or-eq_default (map (is_in (drop (at + set_at) ws)) (count_up 0 domains)) false (omega arith)))

  set_holds : (r : Bool) → (w ≡ every_word → ⊥) → d < domains → r ≡ is_in (drop (at + set_at) ws) d → r ≡ grants (grant_in ws at domains) d
  unfolding grant_in grants
  set_holds r h l s = rw (is_other _ every_word w read h, get_d_counted (is_in (drop (at + set_at) ws)) false 0 domains d l, zero-add d) s

  pub set_decides : (r : Bool) → (w ≡ every_word → ⊥) → r ≡ (ltb d domains && is_in (drop (at + set_at) ws) d) → r ≡ grants (grant_in ws at domains) d
  set_decides r h s =
      ⊎_elim (λ l. s ∙ (rw (le-ltb d domains l) (past_not_granted h l)))
      (λ l. set_holds r h l (s ∙ rw (lt-ltb d domains l) refl))
      (le_or_lt domains d)

-- ---- descriptors

module _ (ws al : List ℕ) (event : Event) (d at n : ℕ) (b : Bool) (stands : at ≡ descriptor_at d) (counted : n ≡ object_domain_count ws)
    (told : b ≡ grants (grant_in ws (at + grant_at) n) event.target) where
  pub target_not_granted : not b ≡ true → false ≡ descriptor_grants (policy_in ws) event.target (binding event) (allocation_of al event) (descriptor_in ws d)
  unfolding descriptor_grants descriptor_in
  target_not_granted h = rw (← stands, ← counted, tested_false _ b told h)

  pub context_decides :
      (r : Bool) → not b ≡ false → r ≡ context_fits_object (policy_in ws) (context_in ws at) (binding event) (allocation_of al event)
      → r ≡ descriptor_grants (policy_in ws) event.target (binding event) (allocation_of al event) (descriptor_in ws d)
  unfolding descriptor_grants descriptor_in
  context_decides r h q = rw (← stands, ← counted, tested_true _ b told h) q

-- some counted thing passes a test: the loop over what is left, i passed of n
module _ {A : Type 0} (test : A → Bool) (f : ℕ → A) (first n : ℕ) where
  abbrev pub some_from : ℕ → Bool
  some_from i = any_of test (map f (count_up (first + i) (n - i)))

  abbrev pub some_of : Bool
  some_of = any_of test (map f (count_up first n))

  pub some_start : some_from 0 ≡ some_of
  some_start = let p : first + 0 ≡ first = omega arith in let q : n - 0 ≡ n = omega arith in rw (p, q)

  module _ (i : ℕ) (left : some_from i ≡ some_of) where
    pub some_none : n ≤ i → false ≡ some_of
    unfolding any_of
    some_none h = rw (← left, counted_end (first + i) n i h)

    module _ (r : Bool) (below : i < n) (told : r ≡ test (f (first + i))) where
      some_step : some_of ≡ (r || some_from (i + 1))
      unfolding any_of
      some_step = sym left ∙ rw (counted_step (first + i) n i below, add_assoc first i 1, told)

      pub some_found : r ≡ true → true ≡ some_of
      some_found h = rw (some_step, h)

      pub some_later : r ≡ false → some_from (i + 1) ≡ some_of
      some_later h = rw (some_step, h)
