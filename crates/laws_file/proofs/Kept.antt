-- What the rules leave: each names no line, so its scan found nothing at fault.
use mathlib.Core.Path.{◌≡◌, refl}
use mathlib.Core.Bool.{true, not, ◌&&◌}
use mathlib.Core.List.{List, []}
use Prim.Native.Nat.{ℕ, zero, suc, ◌≤◌}
use native.Mathlib.Omega.{arith}
use lib.Dec.{eqb, leb}
use borrow.Author.Tests.{eqb-true}
use Rattle.paper.specs.Common.{all_of}
use Rattle.paper.specs.Limits.{most_domains, most_members, most_entries, most_descriptors}
use Rattle.paper.specs.Listing.{object_name, object_members, subject_name, subject_members, principal}
use Rattle.paper.specs.Page.{Field, Outcome, fields}
use Rattle.paper.specs.Entries.{entries_of, line_of_entry}
use Rattle.paper.specs.Rules.{first_with, passing, one_at, members_at, descriptors_in, long_pattern, over_limit, named_twice, names_unknown, unknown_name}
use Rattle.paper.specs.Rules.{is_unbound, unbound_variable, same_principal, twin_principal}
use Rattle.paper.specs.Rules.{unless_line, ruled}
use Rattle.laws.proofs.Tests.{both_left, both_right}
use Rattle.laws.proofs.Counting.{all_of_weaker}
use Rattle.laws_page.specs.Right.{is_numbered}
use Rattle.laws_table.specs.Proper.{no_two}
use Rattle.laws_file.specs.Accepted.{total}
use Rattle.laws_file.proofs.Scans.{earliest_none, first_none, passing_none, twins_none}
use Rattle.laws_file.proofs.Stretched.{all_of_both, map_all_of, stretches_all, stretches_numbered}

-- no rule names a line
pub record NoLine (fs : List Field) : Type 0 where
  pub limits : over_limit fs ≡ 0
  pub twice : named_twice fs ≡ 0
  pub unknown : unknown_name fs ≡ 0
  pub unbound : unbound_variable fs ≡ 0
  pub twins : twin_principal fs ≡ 0

pub unless_none : (number line : ℕ) (o : Outcome) (fs : List Field) → unless_line number line o ≡ fields fs → (line ≡ 0) × (o ≡ fields fs)
unfolding unless_line
unless_none number zero o fs h = (refl, h)
unless_none number (suc line) o fs h = absurd (let z : ◌≡◌ {A = ℕ} 0 1 = cc in omega arith)

-- the rules change nothing that they let through
pub no_line_lem : (gs fs : List Field) → ruled gs ≡ fields fs → NoLine gs × (gs ≡ fs)
unfolding ruled
no_line_lem gs fs h =
    let a = unless_none 6 (over_limit gs) _ fs h in
    let b = unless_none 7 (named_twice gs) _ fs a.1 in
    let c = unless_none 8 (unknown_name gs) _ fs b.1 in
    let d = unless_none 10 (unbound_variable gs) _ fs c.1 in
    let e = unless_none 11 (twin_principal gs) _ fs d.1 in
    let f : fields gs ≡ fields fs = e.1 in
    (record { limits = a.0; twice = b.0; unknown = c.0; unbound = d.0; twins = e.0 }, cc)

-- its counts are within their limits
pub record Counted (fs : List Field) : Type 0 where
  pub object_domains : total (one_at object_name) fs ≤ most_domains
  pub subject_domains : total (one_at subject_name) fs ≤ most_domains
  pub objects : total (members_at object_members) fs ≤ most_members
  pub functions : total (members_at subject_members) fs ≤ most_members
  pub entries : total (one_at principal) fs ≤ most_entries
  pub patterns : all_of (λ f. not (long_pattern f)) fs ≡ true
  pub descriptors : total descriptors_in (entries_of fs) ≤ most_descriptors

-- of numbered fields
module _ (fs : List Field) (numbered : all_of is_numbered fs ≡ true) where
  pub entries_numbered : all_of (λ e. leb 1 (line_of_entry e)) (entries_of fs) ≡ true
  unfolding entries_of
  entries_numbered = stretches_numbered principal fs numbered

  -- ---- 6

  few_fields : (weight : Field → ℕ) (limit : ℕ) → passing (λ f. f.line) weight limit 0 fs ≡ 0 → total weight fs ≤ limit
  unfolding is_numbered
  few_fields weight limit h = omega (arith, passing_none (λ (f : Field). f.line) weight limit 0 fs numbered (omega arith) h)

  pub counted : over_limit fs ≡ 0 → Counted fs
  unfolding over_limit all_of
  counted limits =
      let h = earliest_none _ limits in
      record {
        object_domains = few_fields (one_at object_name) most_domains (eqb-true _ _ (search (both_left, both_right) depth 10));
        subject_domains = few_fields (one_at subject_name) most_domains (eqb-true _ _ (search (both_left, both_right) depth 10));
        objects = few_fields (members_at object_members) most_members (eqb-true _ _ (search (both_left, both_right) depth 10));
        functions = few_fields (members_at subject_members) most_members (eqb-true _ _ (search (both_left, both_right) depth 10));
        entries = few_fields (one_at principal) most_entries (eqb-true _ _ (search (both_left, both_right) depth 10));
        patterns = first_none long_pattern fs numbered (eqb-true _ _ (search (both_left, both_right) depth 10));
        descriptors =
            let k = passing_none line_of_entry descriptors_in most_descriptors 0 (entries_of fs) entries_numbered (omega arith) (eqb-true _ _ (search (both_left, both_right) depth 10)) in
            omega arith;
      }

-- ---- 8, 10, 11

module _ (fs : List Field) (numbered : all_of is_numbered fs ≡ true) (none : NoLine fs) where
  pub all_known_lem : all_of (λ f. not (names_unknown fs f)) fs ≡ true
  unfolding unknown_name
  all_known_lem = first_none (names_unknown fs) fs numbered none.unknown

  pub all_bound_lem : all_of (λ e. all_of (λ f. not (is_unbound e f)) e) (entries_of fs) ≡ true
  unfolding unbound_variable entries_of
  all_bound_lem =
      all_of_weaker (λ e. eqb (first_with (is_unbound e) e) 0 && all_of is_numbered e) _
      (λ e h. first_none (is_unbound e) e (both_right (eqb (first_with (is_unbound e) e) 0) _ h) (eqb-true _ _ (both_left (eqb (first_with (is_unbound e) e) 0) _ h)))
      (entries_of fs)
      (all_of_both _ _ (entries_of fs) (map_all_of (λ e. first_with (is_unbound e) e) (λ a. eqb a 0) (entries_of fs) (earliest_none _ none.unbound)) (stretches_all principal is_numbered fs numbered))

  pub all_apart_lem : no_two (λ a b. same_principal b a) (entries_of fs) ≡ true
  unfolding twin_principal
  all_apart_lem = (twins_none [] (entries_of fs) (entries_numbered fs numbered) none.twins).1
