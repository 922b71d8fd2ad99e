-- The entries of a well-formed table, and the words that the report reads of them.
use Prim.Native.Nat.{ℕ, zero, suc, ◌+◌, ◌<◌, ◌≤◌}
use native.Mathlib.Omega.{arith}
use native.Mathlib.Nat.{zero-add}
use mathlib.Core.Path.{◌≡◌, refl, sym, ◌∙◌}
use mathlib.Core.Bool.{Bool, true, false, not}
use mathlib.Core.List.{List, [], ◌∷◌, map}
use lib.Dec.{eqb, ltb, leb}
use lib.ListN.{length, get_or, length-take, length-map}
use borrow.Author.Tests.{eq-eqb, ne_eqb, leb-true, ltb-true, le-leb, lt-leb, not-true, not-false}
use Rattle.std.specs.Prelude.{Option, Some, None}
use Rattle.std.proofs.lemmas.Option.{none-some, same_Some}
use Rattle.paper.specs.Limits.{most_members, most_entries, most_elements, witness_words}
use Rattle.paper.specs.Scalars.{sort_number}
use Rattle.paper.specs.Table.{subject_at, uid_at, gid_at, namespace_at, gid_sorts, functions_at, entry_at, word, subject_domain_count, function_count, element_count, element_in, sort_in, entry_count}
use Rattle.paper.specs.Table.{pattern_words_in, function_domains_in, context_in, entry_in, policy_in, context_fits, well_formed}
use Rattle.paper.specs.Match.{sort_fits}
use Rattle.paper.specs.Overlap.{is_user, entry_of_policy, witness_uid, witness_left}
use Rattle.laws.proofs.Tests.{both_left, both_right}
use Rattle.laws.proofs.Counting.{all_of_at, length_map_counted, get_d_counted}
use Rattle.laws_table.proofs.Formed.{formed, members_below}
use Rattle.laws_table.proofs.Entries.{entry_context}
use Rattle.overlap_cells.specs.Best.{InDomains, best_stack}
use Rattle.overlap_meeting.specs.Written.{Fits, Written, depth_of}
use Rattle.overlap.specs.Clash.{is_root, apart, may_clash, clash_stack, pair_stack, table_stack, Free}
use Rattle.overlap.proofs.Clash.{clash_short}

-- ---- sorts
pub apart_root : (a b : ℕ) → a ≡ 2 → leb 3 b ≡ apart (sort_in a) (sort_in b)
unfolding sort_in apart is_user is_root sort_number
apart_root a zero e = rw e
apart_root a (suc zero) e = rw e
apart_root a (suc (suc zero)) e = rw e
apart_root a (suc (suc (suc b))) e = rw (e, le-leb 3 (suc (suc (suc b))) (omega arith))

pub apart_user : (a b : ℕ) → (a ≡ 2 → ⊥) → 3 ≤ a → eqb b 2 ≡ apart (sort_in a) (sort_in b)
unfolding sort_in apart is_user is_root sort_number
apart_user zero b n h = absurd (omega arith)
apart_user (suc zero) b n h = absurd (omega arith)
apart_user (suc (suc zero)) b n h = absurd (omega arith)
apart_user (suc (suc (suc a))) zero n h = refl
apart_user (suc (suc (suc a))) (suc zero) n h = refl
apart_user (suc (suc (suc a))) (suc (suc zero)) n h = refl
apart_user (suc (suc (suc a))) (suc (suc (suc b))) n h = ne_eqb (suc (suc (suc b))) 2 (λ e. omega arith)

pub apart_neither : (a b : ℕ) → (a ≡ 2 → ⊥) → a < 3 → leb 3 a ≡ apart (sort_in a) (sort_in b)
unfolding sort_in apart is_user is_root sort_number
apart_neither zero b n h = refl
apart_neither (suc zero) b n h = refl
apart_neither (suc (suc zero)) b n h = absurd (n refl)
apart_neither (suc (suc (suc a))) b n h = absurd (omega arith)

user_word : (w : ℕ) → is_user (sort_in w) ≡ leb 3 w
unfolding sort_in is_user sort_number
user_word zero = refl
user_word (suc zero) = refl
user_word (suc (suc zero)) = refl
user_word (suc (suc (suc w))) = sym (le-leb 3 (suc (suc (suc w))) (omega arith))

gid_word : (w : ℕ) → w < gid_sorts → sort_fits (sort_in w) 0 ≡ true
unfolding sort_in sort_fits
gid_word zero h = refl
gid_word (suc zero) h = refl
gid_word (suc (suc w)) h = absurd (omega arith)

-- ---- an entry
module _ (ws : List ℕ) (k a : ℕ) (place : a ≡ entry_at k) where
  pub word_of_entry : (n r : ℕ) → r ≡ word ws (a + n) → r ≡ word ws (entry_at k + n)
  word_of_entry n r h = rw (← place) h

  pub pattern_of_entry : (r : List ℕ) → r ≡ pattern_words_in ws a → r ≡ pattern_words_in ws (entry_at k)
  pattern_of_entry r h = rw (← place) h

-- ---- two entries
module _ (ws : List ℕ) (i j a b : ℕ) (uidA : a ≡ word ws (entry_at i + uid_at)) where
  says_user : 3 ≤ a → is_user (entry_in ws i).context.uid ≡ true
  unfolding entry_in context_in
  says_user h = user_word (word ws (entry_at i + uid_at)) ∙ rw (← uidA) (le-leb 3 a h)

  says_other : a < 3 → is_user (entry_in ws i).context.uid ≡ false
  unfolding entry_in context_in
  says_other h = user_word (word ws (entry_at i + uid_at)) ∙ rw (← uidA) (lt-leb 3 a h)

  pub uid_of_one : 3 ≤ a → 1 ≡ witness_uid (entry_in ws i) (entry_in ws j)
  unfolding witness_uid
  uid_of_one h = rw (says_user h)

module _ (ws : List ℕ) (i j a b : ℕ) (uidA : a ≡ word ws (entry_at i + uid_at)) (uidB : b ≡ word ws (entry_at j + uid_at)) where
  pub uid_of_other : a < 3 → 3 ≤ b → 1 ≡ witness_uid (entry_in ws i) (entry_in ws j)
  unfolding witness_uid
  uid_of_other h k = rw (says_other ws i j a b uidA h, says_user ws j i b a uidB k)

  pub uid_of_neither : a < 3 → b < 3 → 0 ≡ witness_uid (entry_in ws i) (entry_in ws j)
  unfolding witness_uid
  uid_of_neither h k = rw (says_other ws i j a b uidA h, says_other ws j i b a uidB k)

  pub may_clash_lem : (d e : ℕ) (t : Bool) → d ≡ word ws (entry_at i + subject_at) → e ≡ word ws (entry_at j + subject_at) → d ≡ e → t ≡ apart (sort_in a) (sort_in b) →
      not t ≡ may_clash (entry_in ws i) (entry_in ws j)
  unfolding may_clash entry_in context_in
  may_clash_lem d e t f g same told = rw (told, uidA, uidB, eq-eqb _ _ (sym f ∙ (same ∙ g)))

pub subjects_differ : (ws : List ℕ) (i j d e : ℕ) → d ≡ word ws (entry_at i + subject_at) → e ≡ word ws (entry_at j + subject_at) → (d ≡ e → ⊥) →
    eqb d e ≡ may_clash (entry_in ws i) (entry_in ws j)
unfolding may_clash entry_in
subjects_differ ws i j d e f g n = rw (ne_eqb _ _ (λ h. n (f ∙ (h ∙ sym g))), ne_eqb d e n)

-- ---- how many frames a stack has
pub depth_counted : (S : List ℕ) (r : ℕ) → Some r ≡ depth_of S → r ≡ length S
depth_counted [] r e = absurd (none-some _ (sym e))
depth_counted (x ∷ S) r e = same_Some r (length (x ∷ S)) e

-- ---- a well-formed table
module _ (ws : List ℕ) (good : well_formed ws ≡ true) where
  pub few_entries_lem : entry_count ws ≤ most_entries
  few_entries_lem = (formed ws good).few_entries

  few_functions_lem : length (function_domains_in ws) ≤ most_members
  few_functions_lem = rw length-take (let l = (formed ws good).few_functions in omega arith)

  pub in_domains_lem : InDomains (function_domains_in ws)
  unfolding InDomains
  in_domains_lem f h =
      let g = formed ws good in
      let room = g.long in
      let few = g.few_functions in
      let listed = members_below ws functions_at (function_count ws) (subject_domain_count ws) (omega arith) few g.functions in
      let below : get_or (function_domains_in ws) f 0 < subject_domain_count ws = ltb-true _ _ (all_of_at (λ d. ltb d (subject_domain_count ws)) 0 (function_domains_in ws) listed f h) in
      let domains = g.subject_domains in
      omega arith

  pub functions_fit : (F : List ℕ) → F ≡ function_domains_in ws → (length F ≤ most_members) × InDomains F
  functions_fit F e = rw e (few_functions_lem, in_domains_lem)

  pub entry_listed : (k : ℕ) → k < entry_count ws → k ≤ most_entries
  entry_listed k h = let few = few_entries_lem in omega arith

  module _ (k : ℕ) (h : k < entry_count ws) where
    context_good : context_fits ws (entry_at k) ≡ true
    context_good = entry_context ws (entry_at k) ((formed ws good).entry k h)

    few_elements : element_count ws (entry_at k) ≤ most_elements
    unfolding context_fits
    few_elements = let c = context_good in leb-true _ _ (search (both_left, both_right) depth 8)

    short_pattern : length (pattern_words_in ws (entry_at k)) ≤ most_elements
    short_pattern = rw length-take (let l = few_elements in omega arith)

    pub context_free : Free (entry_in ws k).context
    unfolding entry_in context_in context_fits
    context_free =
        let c = context_good in
        let g : ltb (word ws (entry_at k + gid_at)) gid_sorts ≡ true = search (both_left, both_right) depth 8 in
        let n : ltb (word ws (entry_at k + namespace_at)) gid_sorts ≡ true = search (both_left, both_right) depth 8 in
        record {
          gid = gid_word (word ws (entry_at k + gid_at)) (ltb-true _ _ g);
          namespace = gid_word (word ws (entry_at k + namespace_at)) (ltb-true _ _ n);
        }

    pub entry_read : entry_of_policy (policy_in ws) k ≡ entry_in ws k
    unfolding entry_of_policy policy_in
    entry_read = get_d_counted (entry_in ws) _ 0 (entry_count ws) k h ∙ rw zero-add

  module _ (i j : ℕ) (hi : i < entry_count ws) (hj : j < entry_count ws) where
    pub pair_read : pair_stack (policy_in ws) i j ≡ table_stack ws i j
    unfolding pair_stack table_stack policy_in
    pair_read = rw (entry_read i hi, entry_read j hj)

    pub stack_short : length (table_stack ws i j) ≤ witness_words
    unfolding table_stack policy_in entry_in context_in
    stack_short =
        let s = clash_short (policy_in ws) (entry_in ws i) (entry_in ws j) in
        let a = short_pattern i hi in
        let b = short_pattern j hj in
        let x = length-map (pattern_words_in ws (entry_at i)) element_in in
        let y = length-map (pattern_words_in ws (entry_at j)) element_in in
        omega arith

    -- the parts of the table that are read fit
    pub parts_fit_lem : (p q witness : List ℕ) → p ≡ pattern_words_in ws (entry_at i) → q ≡ pattern_words_in ws (entry_at j) → witness_words ≤ length witness → Fits p q witness
    parts_fit_lem p q witness e f room = record { one = rw e (short_pattern i hi); other = rw f (short_pattern j hj); room = room }

pub entries_counted : (ws : List ℕ) → length (policy_in ws).entries ≡ entry_count ws
unfolding policy_in
entries_counted ws = length_map_counted (entry_in ws) 0 (entry_count ws)

-- ---- the stack of a pair, written
module _ (ws : List ℕ) (i j : ℕ) (t : Bool) (tested : t ≡ may_clash (entry_in ws i) (entry_in ws j)) (old new : List ℕ) where
  pub none_written : not t ≡ true → new ≡ witness_left [] old → Written (table_stack ws i j) old new None
  unfolding table_stack clash_stack
  none_written h e = rw (← tested, not-true t h) (record { counted = refl; left = e })

  pub clash_written : (p q functions : List ℕ) (d : ℕ) (r : Option ℕ) → not t ≡ false → p ≡ pattern_words_in ws (entry_at i) → q ≡ pattern_words_in ws (entry_at j) → functions ≡ function_domains_in ws →
      d ≡ word ws (entry_at i + subject_at) → Written (best_stack functions d (map element_in p) (map element_in q)) old new r → Written (table_stack ws i j) old new r
  unfolding table_stack clash_stack entry_in context_in
  clash_written p q functions d r h e f g k w = rw (← tested, not-false t h, ← e, ← f, ← g, ← k) w
