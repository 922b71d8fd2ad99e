-- 6 of the filled text, its patterns aside: what is counted is counted by the policy too, which is the same.
use mathlib.Core.Path.{◌≡◌, refl, sym, ap, ◌∙◌}
use mathlib.Core.List.{List, [], ◌∷◌, flat_map}
use Prim.Native.Nat.{ℕ, ◌+◌, ◌≤◌}
use native.Mathlib.Omega.{arith}
use lib.ListN.{length}
use borrow.Author.Tests.{le-ltb}
use Rattle.paper.specs.Page.{Field}
use Rattle.paper.specs.Entries.{entries_of}
use Rattle.paper.specs.Rules.{passing, one_at, members_at, descriptors_in}
use Rattle.paper.specs.Policy.{Policy, policy_of}
use Rattle.laws_table.specs.Proper.{accesses_of}
use Rattle.laws_file.specs.Accepted.{total}
use Rattle.laws_file.proofs.Members.{members_counted}
use Rattle.laws_file.proofs.Proper.{all_counted, domains_counted, entries_counted}

-- a sum within its limit names no line
pub passing_silent : {A : Type 0} (line weight : A → ℕ) (limit k : ℕ) (xs : List A) → k + total weight xs ≤ limit → passing line weight limit k xs ≡ 0
unfolding passing total
passing_silent line weight limit k [] h = refl
passing_silent line weight limit k (x ∷ xs) h =
    rw (le-ltb limit (k + weight x) (omega arith)) (passing_silent line weight limit (k + weight x) xs (omega arith))

-- ---- fields that have the same policy count the same

module _ (fs gs : List Field) (e : policy_of gs ≡ policy_of fs) where
  pub same_object_domains : total (one_at 2) gs ≡ total (one_at 2) fs
  unfolding policy_of
  same_object_domains = sym (domains_counted 2 gs) ∙ ap (λ (p : Policy). p.object_domains) e ∙ domains_counted 2 fs

  pub same_subject_domains : total (one_at 5) gs ≡ total (one_at 5) fs
  unfolding policy_of
  same_subject_domains = sym (domains_counted 5 gs) ∙ ap (λ (p : Policy). p.subject_domains) e ∙ domains_counted 5 fs

  pub same_objects : total (members_at 3) gs ≡ total (members_at 3) fs
  unfolding policy_of
  same_objects = sym (members_counted 3 0 gs) ∙ ap (λ (p : Policy). length p.objects) e ∙ members_counted 3 0 fs

  pub same_functions : total (members_at 6) gs ≡ total (members_at 6) fs
  unfolding policy_of
  same_functions = sym (members_counted 6 0 gs) ∙ ap (λ (p : Policy). length p.functions) e ∙ members_counted 6 0 fs

  pub same_entries : total (one_at 8) gs ≡ total (one_at 8) fs
  same_entries = sym (entries_counted gs) ∙ ap (λ (p : Policy). length p.entries) e ∙ entries_counted fs

  pub same_descriptors : total descriptors_in (entries_of gs) ≡ total descriptors_in (entries_of fs)
  unfolding policy_of
  same_descriptors =
      sym (all_counted gs (entries_of gs)) ∙ ap (λ (p : Policy). length (flat_map accesses_of p.entries)) e ∙ all_counted fs (entries_of fs)
