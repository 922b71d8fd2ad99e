-- Every key that may stand on a line has at least seven bytes: by computing those that the rows of the listing name.
use mathlib.Core.Path.{◌≡◌, refl}
use mathlib.Core.List.{List, [], ◌∷◌}
use mathlib.Core.Bool.{Bool, true, false, cond, ◌&&◌}
use mathlib.Core.Logic.{⊎_elim}
use Prim.Native.Nat.{ℕ, ◌<◌, ◌≤◌}
use native.Mathlib.Omega.{arith}
use lib.Dec.{eqb, leb}
use lib.ListN.{length, get_or-eq_default}
use borrow.Author.Tests.{leb-true, eqb-true}
use Rattle.paper.specs.Common.{all_of, any_of}
use Rattle.paper.specs.declared.Value.TheVariants.{Keys}
use Rattle.paper.specs.Listing.{Row, row, listing, row_at, key_at, at_block}
use Rattle.paper.specs.Page.{State, places_for}
use Rattle.laws.proofs.Tests.{both_left, both_right, either_of, le_or_lt}
use Rattle.laws.proofs.Counting.{all_of_at}

-- the shortest key is `- name:`
abbrev pub key_bytes : ℕ
key_bytes = 7

-- the keys of these places are at least as long
abbrev keys_long : List ℕ → Bool
keys_long places = all_of (λ p. leb key_bytes (length (key_at p))) places

-- those that a row's block begins with, and those that follow it
abbrev names_long : Row → Bool
names_long r = keys_long r.block && keys_long r.next

listing_long : all_of names_long listing ≡ true
unfolding all_of listing row_at key_at
listing_long = refl

none_long : names_long (row "" Keys [] [] false) ≡ true
unfolding all_of
none_long = refl

row_long : (place : ℕ) → names_long (row_at place) ≡ true
unfolding row_at
row_long place =
    ⊎_elim
    (λ (h : length listing ≤ place). rw (get_or-eq_default listing (row "" Keys [] [] false) {n = place} h) none_long)
    (λ (h : place < length listing). all_of_at names_long (row "" Keys [] [] false) listing listing_long place h)
    (le_or_lt (length listing) place)

among_long : (p : ℕ) (places : List ℕ) → any_of (eqb p) places ≡ true → keys_long places ≡ true → key_bytes ≤ length (key_at p)
unfolding all_of any_of
among_long p [] a k = absurd (let z : ◌≡◌ {A = ℕ} 0 1 = cc in omega arith)
among_long p (q ∷ qs) a k =
    ⊎_elim
    (λ (e : eqb p q ≡ true). rw (eqb-true p q e) (leb-true key_bytes (length (key_at q)) (both_left _ (keys_long qs) k)))
    (λ (e : any_of (eqb p) qs ≡ true). among_long p qs e (both_right (leb key_bytes (length (key_at q))) (keys_long qs) k))
    (either_of (eqb p q) (any_of (eqb p) qs) a)

pub key_long : (st : State) (l : List ℕ) (p : ℕ) → any_of (eqb p) (places_for st l) ≡ true → key_bytes ≤ length (key_at p)
unfolding places_for
key_long st l p a = go (st.bare && at_block st.place l) a
  where
    go : (t : Bool) → any_of (eqb p) (cond t (row_at st.place).block (row_at st.place).next) ≡ true → key_bytes ≤ length (key_at p)
    go true b = among_long p (row_at st.place).block b (both_left _ (keys_long (row_at st.place).next) (row_long st.place))
    go false b = among_long p (row_at st.place).next b (both_right (keys_long (row_at st.place).block) _ (row_long st.place))
