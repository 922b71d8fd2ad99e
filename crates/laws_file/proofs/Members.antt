-- The members of a map: how many there are, and that the domain of each is below the number of domains. Over any map.
use mathlib.Core.Path.{◌≡◌, refl}
use mathlib.Core.Bool.{Bool, true, false, cond}
use mathlib.Core.List.{List, [], ◌∷◌, flat_map}
use Prim.Native.Nat.{ℕ, zero, suc, ◌+◌, ◌≤◌}
use native.Mathlib.Omega.{arith}
use lib.Dec.{ltb}
use lib.ListN.{length, replicate, length-append, length-replicate}
use borrow.Author.Tests.{lt-ltb}
use Rattle.paper.specs.Common.{all_of}
use Rattle.paper.specs.Lists.{elements}
use Rattle.paper.specs.Page.{Field}
use Rattle.paper.specs.Entries.{is_at, fields_at}
use Rattle.paper.specs.Rules.{members_at}
use Rattle.paper.specs.Policy.{member_domains}
use Rattle.laws.proofs.Tests.{both_true}
use Rattle.laws.proofs.Counting.{all_of_append}
use Rattle.laws_file.specs.Accepted.{total}

all_of_replicate : {A : Type 0} (test : A → Bool) (n : ℕ) (x : A) → test x ≡ true → all_of test (replicate n x) ≡ true
unfolding all_of
all_of_replicate test zero x h = refl
all_of_replicate test (suc n) x h = both_true (test x) _ h (all_of_replicate test n x h)

-- each domain is below the number of lists behind it
pub members_below : (domains d : ℕ) (fs : List Field) → d + length fs ≤ domains → all_of (λ m. ltb m domains) (member_domains d fs) ≡ true
unfolding member_domains all_of
members_below domains d [] h = refl
members_below domains d (f ∷ fs) h =
    all_of_append (λ m. ltb m domains) (replicate (length (elements f.value)) d) _
    (all_of_replicate (λ m. ltb m domains) (length (elements f.value)) d (lt-ltb d domains (omega arith)))
    (members_below domains (d + 1) fs (omega arith))

-- there is a domain for each member
pub members_length : (d : ℕ) (fs : List Field) → length (member_domains d fs) ≡ length (flat_map (λ f. elements f.value) fs)
unfolding member_domains flat_map
members_length d [] = refl
members_length d (f ∷ fs) = rw (length-append, length-append, length-replicate, members_length (d + 1) fs)

-- as many as the lists of a place have
pub members_counted : (place d : ℕ) (fs : List Field) → length (member_domains d (fields_at place fs)) ≡ total (members_at place) fs
unfolding member_domains fields_at total members_at
members_counted place d [] = refl
members_counted place d (f ∷ fs) = go (is_at place f) (λ k. members_counted place k fs)
  where
    go : (t : Bool) → ((k : ℕ) → length (member_domains k (fields_at place fs)) ≡ total (members_at place) fs)
        → length (member_domains d (cond t (f ∷ fields_at place fs) (fields_at place fs))) ≡ cond t (length (elements f.value)) 0 + total (members_at place) fs
    go true k = rw (length-append, length-replicate, k (d + 1))
    go false k = omega (arith, k d)
