-- The ways through an index with one name more: its own way ends at it, and all others end as they did, if need be one name further.
use mathlib.Core.Path.{◌≡◌, refl, sym, ap, ◌∙◌}
use mathlib.Core.Bool.{Bool, true, false, cond}
use mathlib.Core.Logic.{⊎_elim}
use mathlib.Core.List.{List}
use Prim.Native.Nat.{ℕ, zero, suc, ◌+◌, ◌-◌, ◌<◌, ◌≤◌}
use native.Mathlib.Omega.{arith}
use lib.ListN.{length, get_or}
use Rattle.laws.proofs.Tests.{same_or_not, le_or_lt}
use Rattle.file_index.specs.Words.{links_at, name_at, link_in}
use Rattle.file_index.specs.Buckets.{is_name, turn_of, way_end_from, Within, number_of, word_of, inserted_at, LinkOf}
use Rattle.file_index.specs.declared.names.Place.{Place}
use Rattle.file_index.specs.declared.names.Place.TheVariants.{Found, Free}
use Rattle.file_index.proofs.Steps.{way_low, way_on, within_free, within_found}
use Rattle.file_index.proofs.Links.{link_before, link_one, link_next}
use Rattle.file_index.proofs.Inserted.{kept_before, kept_behind, is_name_kept, link_put}

found_or_free : (k w : ℕ) → Found k ≡ Free w → ⊥
found_or_free k w h = let z : ◌≡◌ {A = ℕ} 0 1 = cc in omega arith

pub same_word : (v w : ℕ) → Free v ≡ Free w → v ≡ w
unfolding word_of
same_word v w e = ap word_of e

not_found : (b : Bool) (k w : ℕ) (p : Place) → cond b (Found k) p ≡ Free w → (b ≡ false) × (p ≡ Free w)
not_found true k w p e = absurd (found_or_free k w e)
not_found false k w p e = (refl, e)

-- a way ended at a word that has no link
pub record Ended (ix : List ℕ) (n w : ℕ) : Type 0 where
  pub last : ℕ
  pub few : last ≤ n
  pub at : LinkOf last w
  pub none : link_in ix w ≤ last

within_either : (n : ℕ) (b : Bool) (p q : Place) → Within n p → Within n q → Within n (cond b p q)
within_either n true p q h k = h
within_either n false p q h k = k

module _ (t ix : List ℕ) (n : ℕ) (low : (k w : ℕ) → k ≤ n → LinkOf k w → link_in ix w ≤ n) where
  module _ (g : ℕ) (y : List ℕ) where
    abbrev old : ℕ → ℕ → ℕ → ℕ → Place
    old = way_end_from t ix n g y

    -- the word behind the name that word w links to
    abbrev next : ℕ → ℕ → ℕ
    next d w = name_at (link_in ix w - 1) + links_at + turn_of y d

    pub place_within : (fuel d last w : ℕ) → last ≤ n → LinkOf last w → Within n (old fuel d last w)
    unfolding way_end_from
    place_within zero d last w l p = within_free n last w (link_before last w p) l
    place_within (suc fuel) d last w l p = ⊎_elim
        (λ (a : link_in ix w ≤ last). rw (way_low t ix n g y (suc fuel) d last w a) (within_free n last w (link_before last w p) l))
        (λ (a : last < link_in ix w). rw (way_on t ix n g y fuel d last w a (low last w l p))
        (within_either n (is_name t ix g y (link_in ix w - 1)) (Found (link_in ix w - 1)) (old fuel (d + 1) (link_in ix w) (next d w))
        (within_found n last (link_in ix w) a (low last w l p))
        (place_within fuel (d + 1) (link_in ix w) (next d w) (low last w l p) (link_next y d (link_in ix w) (omega arith)))))
        (le_or_lt (link_in ix w) last)

    here : (last v w : ℕ) → last ≤ n → LinkOf last v → link_in ix v ≤ last → Free v ≡ Free w → Ended ix n w
    here last v w l p a e =
        let f : v ≡ w = same_word v w e in
        record {
          last = last;
          few = l;
          at = rw f at p;
          none = rw f at a;
        }

    pub way_ended : (fuel d last v w : ℕ) → n ≤ fuel + last → last ≤ n → LinkOf last v → old fuel d last v ≡ Free w → Ended ix n w
    unfolding way_end_from
    way_ended zero d last v w m l p e = here last v w l p (omega (arith, low last v l p)) e
    way_ended (suc fuel) d last v w m l p e = ⊎_elim
        (λ (a : link_in ix v ≤ last). here last v w l p a (sym (way_low t ix n g y (suc fuel) d last v a) ∙ e))
        (λ (a : last < link_in ix v).
        way_ended fuel (d + 1) (link_in ix v) (next d v) w (omega arith) (low last v l p) (link_next y d (link_in ix v) (omega arith))
        (not_found (is_name t ix g y (link_in ix v - 1)) (link_in ix v - 1) w (old fuel (d + 1) (link_in ix v) (next d v))
        (sym (way_on t ix n g y fuel d last v a (low last v l p)) ∙ e)).1)
        (le_or_lt (link_in ix v) last)

  module _ (clear : (w : ℕ) → name_at n ≤ w → get_or ix w 0 ≡ 0) (room : name_at (n + 1) ≤ length ix) (v start end h : ℕ) (ended : Ended ix n v) where
    abbrev after : List ℕ
    after = inserted_at ix n v start end h

    put : link_in after v ≡ n + 1
    put = link_put ix n v start end h ended.last ended.at room ended.few

    -- the new name has no links
    bare : (y : List ℕ) (d : ℕ) → link_in after (name_at n + links_at + turn_of y d) ≡ 0
    bare y d =
        kept_behind ix n v start end h (name_at n + links_at + turn_of y d) (omega arith)
        (λ (e : name_at n + links_at + turn_of y d ≡ v). omega (arith, link_before ended.last v ended.at, ended.few))
        ∙ clear (name_at n + links_at + turn_of y d) (omega arith)

    module _ (g : ℕ) (y : List ℕ) where
      abbrev new : ℕ → ℕ → ℕ → ℕ → Place
      new = way_end_from t after (n + 1) g y

      -- where the link of the new name is, a way meets that name, and ends there or behind it
      meets : (fuel d last : ℕ) → last ≤ n → new (suc fuel) d last v ≡ cond (is_name t after g y n) (Found n) (Free (name_at n + links_at + turn_of y d))
      meets fuel d last l =
          let e : n + 1 - 1 ≡ n = omega arith in
          let f : new fuel (d + 1) (n + 1) (name_at n + links_at + turn_of y d) ≡ Free (name_at n + links_at + turn_of y d) =
          way_low t after (n + 1) g y fuel (d + 1) (n + 1) (name_at n + links_at + turn_of y d) (rw (bare y d) (omega arith)) in
          rw (put, e, f) at (way_on t after (n + 1) g y fuel d last v (rw put (omega arith)) (rw put (omega arith)))

      -- any other link is as it was
      module _ (d last w : ℕ) (l : last ≤ n) (p : LinkOf last w) (other : w ≡ v → ⊥) where
        same_link : link_in after w ≡ link_in ix w
        same_link = kept_before ix n v start end h w (omega (arith, link_before last w p)) other

        ends_too : (fuel : ℕ) → link_in ix w ≤ last → new fuel d last w ≡ Free w
        ends_too fuel a = way_low t after (n + 1) g y fuel d last w (rw same_link a)

        goes_on_lem : (fuel : ℕ) → last < link_in ix w
            → new (suc fuel) d last w ≡
            cond (is_name t ix g y (link_in ix w - 1)) (Found (link_in ix w - 1)) (new fuel (d + 1) (link_in ix w) (next g y d w))
        goes_on_lem fuel a =
            rw (same_link, is_name_kept ix n v start end h ended.last ended.at t g y (link_in ix w - 1) (omega (arith, low last w l p))) at
            (way_on t after (n + 1) g y fuel d last w (rw same_link a) (rw same_link (omega (arith, low last w l p))))

      -- a name that is not the new one
      module _ (other : is_name t after g y n ≡ false) where
        numbered_alike : (b : Bool) (k : ℕ) (p q : Place) → number_of (n + 1) p ≡ number_of (n + 1) q
            → number_of (n + 1) (cond b (Found k) p) ≡ number_of (n + 1) (cond b (Found k) q)
        numbered_alike true k p q e = refl
        numbered_alike false k p q e = e

        passes_link : (fuel d last : ℕ) → last ≤ n → LinkOf last v
            → number_of (n + 1) (new (suc fuel) d last v) ≡ number_of (n + 1) (old g y fuel d last v)
        unfolding number_of
        passes_link fuel d last l p =
            let e : last ≡ ended.last = link_one last ended.last v p ended.at in
            rw (meets fuel d last l, other, way_low t ix n g y fuel d last v (rw e ended.none))

        pub passes : (fuel d last w : ℕ) → n ≤ fuel + last → last ≤ n → LinkOf last w
            → number_of (n + 1) (new (suc fuel) d last w) ≡ number_of (n + 1) (old g y fuel d last w)
        unfolding way_end_from
        passes zero d last w m l p = ⊎_elim
            (λ (e : w ≡ v). rw e (passes_link zero d last l (rw e at p)))
            (λ (o : w ≡ v → ⊥). ap (number_of (n + 1)) (ends_too d last w l p o 1 (omega (arith, low last w l p))))
            (same_or_not w v)
        passes (suc fuel) d last w m l p = ⊎_elim
            (λ (e : w ≡ v). rw e (passes_link (suc fuel) d last l (rw e at p)))
            (λ (o : w ≡ v → ⊥). ⊎_elim
            (λ (a : link_in ix w ≤ last).
            ap (number_of (n + 1)) (ends_too d last w l p o (suc (suc fuel)) a ∙ sym (way_low t ix n g y (suc fuel) d last w a)))
            (λ (a : last < link_in ix w). rw (goes_on_lem d last w l p o (suc fuel) a, way_on t ix n g y fuel d last w a (low last w l p))
            (numbered_alike (is_name t ix g y (link_in ix w - 1)) (link_in ix w - 1) (new (suc fuel) (d + 1) (link_in ix w) (next g y d w))
            (old g y fuel (d + 1) (link_in ix w) (next g y d w))
            (passes fuel (d + 1) (link_in ix w) (next g y d w) (omega arith) (low last w l p) (link_next y d (link_in ix w) (omega arith)))))
            (le_or_lt (link_in ix w) last))
            (same_or_not w v)

      -- the new one
      module _ (itself : is_name t after g y n ≡ true) where
        finds_link : (fuel d last : ℕ) → last ≤ n → new (suc fuel) d last v ≡ Found n
        finds_link fuel d last l = rw (meets fuel d last l, itself)

        pub finds : (fuel d last w : ℕ) → n ≤ fuel + last → last ≤ n → LinkOf last w → old g y fuel d last w ≡ Free v
            → new (suc fuel) d last w ≡ Found n
        unfolding way_end_from
        finds zero d last w m l p e = rw (same_word w v e) (finds_link zero d last l)
        finds (suc fuel) d last w m l p e = ⊎_elim
            (λ (a : link_in ix w ≤ last).
            let f : w ≡ v = same_word w v (sym (way_low t ix n g y (suc fuel) d last w a) ∙ e) in
            rw f (finds_link (suc fuel) d last l))
            (λ (a : last < link_in ix w).
            on a (not_found (is_name t ix g y (link_in ix w - 1)) (link_in ix w - 1) v (old g y fuel (d + 1) (link_in ix w) (next g y d w))
            (sym (way_on t ix n g y fuel d last w a (low last w l p)) ∙ e))
            (λ h. finds fuel (d + 1) (link_in ix w) (next g y d w) (omega arith) (low last w l p) (link_next y d (link_in ix w) (omega arith)) h))
            (le_or_lt (link_in ix w) last)
          where
            -- a word with a link is not the one at which the way ended
            apart : last < link_in ix w → w ≡ v → ⊥
            apart a f =
                let q : LinkOf last v = rw f at p in
                let b : last < link_in ix v = rw f at a in
                omega (arith, link_one last ended.last v q ended.at, ended.none)

            on : (a : last < link_in ix w) → (is_name t ix g y (link_in ix w - 1) ≡ false) × (old g y fuel (d + 1) (link_in ix w) (next g y d w) ≡ Free v)
                → (old g y fuel (d + 1) (link_in ix w) (next g y d w) ≡ Free v → new (suc fuel) (d + 1) (link_in ix w) (next g y d w) ≡ Found n)
                → new (suc (suc fuel)) d last w ≡ Found n
            on a h k = rw (goes_on_lem d last w l p (apart a) (suc fuel) a, h.0) (k h.1)
