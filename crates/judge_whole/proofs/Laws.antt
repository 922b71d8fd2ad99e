-- What the pass of a read or write passes over, and what a table that has its entries' words may be read of.
use Prim.Native.Nat.{ℕ, suc, ◌+◌, ◌*◌, ◌/◌, ◌%◌, ◌<◌, ◌≤◌}
use native.Mathlib.Omega.{arith}
use mathlib.Core.Path.{◌≡◌, refl, sym, ◌∙◌}
use mathlib.Core.Bool.{Bool, true, false, cond, not, ◌&&◌, false≢true}
use mathlib.Core.List.{List, [], map}
use lib.ListN.{length, take, drop, get_or}
use lib.Seq.{get_or-take, get_or-drop}
use lib.Dec.{ltb}
use borrow.Author.Tests.{not-false, lt-ltb}
use Rattle.paper.specs.declared.Access.{Access}
use Rattle.paper.specs.Common.{count_up}
use Rattle.paper.specs.Policy.{Descriptor}
use Rattle.paper.specs.Limits.{most_domains}
use Rattle.paper.specs.Table.{grant_at, entry_at, descriptor_at, entry_count, is_in, grant_in, descriptor_in, policy_in, subject_domain_count, object_domain_count}
use Rattle.paper.specs.Table.{read_count, write_count, first_descriptor, entry_in}
use Rattle.paper.specs.Match.{grants, descriptor_grants, some_descriptor_grants}
use Rattle.paper.specs.Verdict.{is_code, target_domain, entry_grants}
use Rattle.judge_match.specs.declared.Event.{Event}
use Rattle.table.specs.Reach.{word_values}
use Rattle.judge_match.specs.Moments.{binding, allocation_of, has_subject}
use Rattle.judge_match.proofs.Laws.{target_not_granted, some_from, some_of, some_start, some_none, some_later}
use Rattle.judge_entries.specs.Passes.{domain_count, is_write, Ready}
use Rattle.judge_entries.proofs.Passes.{another_subject, descriptors_grant}
use Rattle.judge_whole.specs.Whole.{Whole, NoneGrants, MayGrant}
use Rattle.judge_whole.specs.Descriptors.{Describes}
use Rattle.judge_whole.specs.declared.descriptors.Descriptors.{Descriptors}

-- what a descriptor is asked
abbrev granting : List ℕ → List ℕ → Event → Descriptor → Bool
granting ws al event = descriptor_grants (policy_in ws) event.target (binding event) (allocation_of al event)

-- ---- words that are there

-- the word of a set that has a bit, by itself
pub same_bit : (ws q : List ℕ) (at domains d n : ℕ) (r : Bool) → d < domains → n ≡ 1 → q ≡ take n (drop (at + d / 16) ws) → r ≡ is_in q (d % 16)
    → r ≡ (ltb d domains && is_in (drop at ws) d)
unfolding is_in
same_bit ws q at domains d n r l one p e =
    let low : d % 16 / 16 ≡ 0 = omega arith in
    let bit : d % 16 % 16 ≡ d % 16 = omega arith in
    let right : at + d / 16 + 0 ≡ at + d / 16 = omega arith in
    let here : get_or (take 1 (drop (at + d / 16) ws)) 0 0 ≡ get_or (drop at ws) (d / 16) 0
    = get_or-take 1 (drop (at + d / 16) ws) 0 0 (omega arith) ∙ (get_or-drop (at + d / 16) ws 0 0 ∙ (rw right refl ∙ sym (get_or-drop at ws (d / 16) 0))) in
    e ∙ rw (p, one, low, bit, here, lt-ltb d domains l) refl

module _ (ws : List ℕ) (event : Event) where
  pub ready_there : Whole ws event → Ready (λ xs n. n ≤ length xs) (λ d n. d < n) ws event
  ready_there whole =
      record {
        entries = λ k below. let l = whole.entries in omega arith;
        grants = λ k g below small. let l = whole.entries in let f = whole.few in omega arith;
        listed = whole.listed;
      }

  pub not_whole : false ≡ true → Whole ws event
  not_whole h = absurd (false≢true h)

  pub is_whole :
      (n entries at : ℕ) (r : Bool) → event.target < most_domains → n ≡ domain_count ws event.access → event.target < n
      → entries ≡ entry_count ws → at ≡ entry_at entries → (r ≡ true → at ≤ length ws) → r ≡ true → Whole ws event
  is_whole n entries at r f c l counted stands within h =
      let z = within h in
      record { entries = rw (← counted, ← stands) z; few = f; listed = rw c at l }

-- how many domains, by the access
module _ (ws : List ℕ) (a : Access) (code : Bool) (told : code ≡ is_code a) where
  pub domains_of_code : (r : ℕ) → code ≡ true → r ≡ subject_domain_count ws → r ≡ domain_count ws a
  domains_of_code r h e = rw (← told, h) e

  pub domains_of_data : (r : ℕ) → code ≡ false → r ≡ object_domain_count ws → r ≡ domain_count ws a
  domains_of_data r h e = rw (← told, h) e

-- ---- descriptors, i passed of n

module _ (ws : List ℕ) (first n : ℕ) (event : Event) where
  abbrev pub NoneUpTo : ℕ → Type 0
  NoneUpTo i = (al : List ℕ) → some_from (granting ws al event) (descriptor_in ws) first n i ≡ some_of (granting ws al event) (descriptor_in ws) first n

  pub none_yet : NoneUpTo 0
  none_yet al = some_start (granting ws al event) (descriptor_in ws) first n

  pub one_not :
      (i at domains : ℕ) (b : Bool) → domains ≡ object_domain_count ws → NoneUpTo i → i < n → at ≡ descriptor_at (first + i)
      → b ≡ grants (grant_in ws (at + grant_at) domains) event.target → b ≡ false → NoneUpTo (i + 1)
  one_not i at domains b counted left below stands told h al =
      some_later (granting ws al event) (descriptor_in ws) first n i (left al) false below
      (target_not_granted ws al event (first + i) at domains b stands counted told (rw h)) refl

  pub none_at_all : (i : ℕ) → NoneUpTo i → n ≤ i → true ≡ true → NoneGrants ws first n event
  unfolding some_descriptor_grants
  none_at_all i left h e = record { refuses = λ al. some_none (granting ws al event) (descriptor_in ws) first n i (left al) h }

  pub perhaps_one : false ≡ true → NoneGrants ws first n event
  perhaps_one h = absurd (false≢true h)

-- ---- an entry that cannot grant

module _ (ws : List ℕ) (event : Event) (k : ℕ) (of : Bool) (told : of ≡ has_subject ws k event) where
  pub subject_grants_not : not of ≡ true → MayGrant ws k event false
  subject_grants_not h = record { refuses = λ al e. another_subject of _ (has_subject ws k event) told h }

  module _ (d : Descriptors) (describes : Describes ws k d) (of_data : is_code event.access ≡ false) (target : event.target ≡ target_domain (policy_in ws) event.access)
      (write : Bool) (written : is_write event.access ≡ write) (first count : ℕ)
      (begins : first ≡ d.first + cond write d.reads 0) (many : count ≡ cond write d.writes d.reads) (same : not of ≡ false) where
    pub asked_grant :
        (al : List ℕ) (r : Bool) → r ≡ some_descriptor_grants (policy_in ws) (map (descriptor_in ws) (count_up first count)) event.target (binding event) (allocation_of al event)
        → r ≡ (has_subject ws k event && entry_grants (policy_in ws) (entry_in ws k) event.access (binding event) (allocation_of al event))
    asked_grant al r e =
        descriptors_grant ws [] event al k of told d.first d.reads d.writes (cond write d.reads 0) count write r same of_data target
        describes.first describes.reads describes.writes (sym written) refl many (rw begins at e)

    pub descriptors_tell : (none : Bool) → (none ≡ true → NoneGrants ws first count event) → MayGrant ws k event (not none)
    descriptors_tell none told' = record { refuses = λ al e. asked_grant al false ((told' (not-false none e)).refuses al) }

-- ---- the descriptors of the entries before one

pub none_before : (ws : List ℕ) → 0 ≡ first_descriptor ws 0
unfolding first_descriptor
none_before ws = refl

pub next_begin : (ws : List ℕ) (k : ℕ) (d : Descriptors) (r : ℕ) → Describes ws k d → r ≡ d.first + (d.reads + d.writes)
    → (r ≡ first_descriptor ws (k + 1)) × (r ≤ 2 * word_values * (k + 1))
unfolding first_descriptor
next_begin ws k d r describes e =
    let one : k + 1 ≡ suc k = omega arith in
    let n = describes.near in
    let f = describes.few in
    let sum : r ≡ first_descriptor ws k + read_count ws k + write_count ws k =
    rw (e, describes.first, describes.reads, describes.writes) (omega arith) in
    (rw one sum, omega arith)
