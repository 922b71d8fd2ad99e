-- Two entries match a moment exactly where `clash_stack` finds a stack, and none comes before it.
use Prim.Native.Nat.{ℕ, suc, ◌≤◌}
use native.Mathlib.Omega.{arith}
use native.Mathlib.Numerals.{sub-one}
use mathlib.Core.Path.{◌≡◌, refl, sym, ap, ◌∙◌}
use mathlib.Core.Bool.{Bool, true, false, cond, not, ◌||◌, false≢true}
use mathlib.Core.List.{List, [], ◌∷◌}
use lib.Dec.{eqb, eqb-suc-zero}
use lib.ListN.{length}
use borrow.Author.Tests.{eqb-true, eq-eqb, not-true}
use Rattle.paper.specs.Scalars.{Sort, anyone, variable, root, user, sort_number}
use Rattle.paper.specs.Policy.{Entry, Policy}
use Rattle.paper.specs.Match.{Moment, lies_in, top, top_lies_in, sort_fits, matches, sorts_fit, entry_matches}
use Rattle.paper.specs.Overlap.{is_user, witness_uid, NotAfter}
use Rattle.overlap_cells.specs.Best.{most_needed, top_passes, Meet, best_stack}
use Rattle.overlap_meeting.proofs.Common.{one_domain_lem}
use Rattle.overlap_meeting.proofs.Best.{Some}
use Rattle.overlap_meeting.proofs.Order.{best_short, best_sound, best_least}
use Rattle.laws.proofs.Tests.{both_true, both_left, both_right}
use Rattle.overlap.specs.Clash.{is_root, apart, may_clash, clash_stack, MatchedShort, Free}

-- ---- the top frame
top_next : (x y : ℕ) (s : List ℕ) → top (x ∷ y ∷ s) ≡ top (y ∷ s)
top_next x y s = rw (sub-one (suc (suc (length s))), sub-one (suc (length s)))

passes_top : (test : ℕ → Bool) (x : ℕ) (s : List ℕ) → top_passes test (x ∷ s) ≡ test (top (x ∷ s))
unfolding top_passes
passes_top test x [] = refl
passes_top test x (y ∷ s) = passes_top test y s ∙ ap test (sym (top_next x y s))

lies_top : (p : Policy) (d x : ℕ) (s : List ℕ) → top_lies_in p d (x ∷ s) ≡ lies_in p.functions d (top (x ∷ s))
unfolding top_lies_in
lies_top p d x s = rw (eqb-suc-zero (length s))

top_lies : (p : Policy) (d : ℕ) (s : List ℕ) → top_lies_in p d s ≡ top_passes (lies_in p.functions d) s
unfolding top_lies_in top_passes
top_lies p d [] = refl
top_lies p d (x ∷ s) = lies_top p d x s ∙ sym (passes_top (lies_in p.functions d) x s)

one_subject : (p : Policy) (a b : ℕ) (s : List ℕ) → top_lies_in p a s ≡ true → top_lies_in p b s ≡ true → a ≡ b
unfolding top_lies_in
one_subject p a b s h k = one_domain_lem p.functions a b (top s) (search both_right) (search both_right)

-- ---- uids
fit_together : (s t : Sort) (id : ℕ) → sort_fits s id ≡ true → sort_fits t id ≡ true → apart s t ≡ false
unfolding sort_fits apart is_user is_root sort_number
fit_together anyone t id h k = refl
fit_together variable t id h k = refl
fit_together root anyone id h k = refl
fit_together root variable id h k = refl
fit_together root root id h k = refl
fit_together root user id h k = absurd (false≢true (rw h at k))
fit_together user anyone id h k = refl
fit_together user variable id h k = refl
fit_together user root id h k = absurd (false≢true (rw k at h))
fit_together user user id h k = refl

-- "1 if either entry says `user`, else 0"
abbrev uid_for : Sort → Sort → ℕ
uid_for s t = cond (is_user s || is_user t) 1 0

one_fits : (s t : Sort) → apart s t ≡ false → sort_fits s (uid_for s t) ≡ true
unfolding sort_fits apart is_user is_root sort_number
one_fits anyone t h = refl
one_fits variable t h = refl
one_fits root anyone h = refl
one_fits root variable h = refl
one_fits root root h = refl
one_fits root user h = absurd (false≢true (sym h))
one_fits user t h = refl

other_fits : (s t : Sort) → apart s t ≡ false → sort_fits t (uid_for s t) ≡ true
unfolding sort_fits apart is_user is_root sort_number
other_fits s anyone h = refl
other_fits s variable h = refl
other_fits anyone root h = refl
other_fits variable root h = refl
other_fits root root h = refl
other_fits user root h = absurd (false≢true (sym h))
other_fits anyone user h = refl
other_fits variable user h = refl
other_fits root user h = refl
other_fits user user h = refl

-- ---- an entry that matches a moment
pub record Matched (p : Policy) (e : Entry) (m : Moment) : Type 0 where
  pub lies : top_lies_in p e.subject m.stack ≡ true
  pub takes : matches p.functions e.context.pattern m.stack ≡ true
  pub uid : sort_fits e.context.uid m.uid ≡ true
  pub gid : sort_fits e.context.gid m.gid ≡ true
  pub namespace : sort_fits e.context.namespace m.namespace ≡ true

pub matched : (p : Policy) (e : Entry) (m : Moment) → entry_matches p e m ≡ true → Matched p e m
unfolding entry_matches sorts_fit
matched p e m h = record {
  lies = search both_left depth 5;
  takes = search (both_left, both_right) depth 5;
  uid = search (both_left, both_right) depth 5;
  gid = search (both_left, both_right) depth 5;
  namespace = search both_right depth 5;
}

is_matched : (p : Policy) (e : Entry) (m : Moment) → Matched p e m → entry_matches p e m ≡ true
unfolding entry_matches sorts_fit
is_matched p e m f = both_true _ _ (both_true _ _ f.lies f.takes) (both_true _ _ (both_true _ _ f.uid f.gid) f.namespace)

module _ (p : Policy) (a b : Entry) where
  -- the stack of these two entries
  abbrev stack : List ℕ
  stack = clash_stack p.functions a b

  -- ---- sound
  abbrev Both : List ℕ → Type 0
  Both s =
      let m : Moment = record { stack = s; uid = witness_uid a b; gid = 0; namespace = 0 } in
      (entry_matches p a m ≡ true) × (entry_matches p b m ≡ true)

  module _ (one : Free a.context) (other : Free b.context) where
    both_at : (s : List ℕ) → a.subject ≡ b.subject → apart a.context.uid b.context.uid ≡ false →
        Meet p.functions (lies_in p.functions a.subject) a.context.pattern b.context.pattern s → Both s
    unfolding witness_uid
    both_at s e u c =
        let lies : top_lies_in p a.subject s ≡ true = top_lies p a.subject s ∙ c.top in (
          is_matched p a _ (record { lies = lies; takes = c.one; uid = one_fits a.context.uid b.context.uid u; gid = one.gid; namespace = one.namespace }),
          is_matched p b _ (record { lies = rw (← e) lies; takes = c.other; uid = other_fits a.context.uid b.context.uid u; gid = other.gid; namespace = other.namespace }),
        )

    pub clash_sound : Some stack → Both stack
    unfolding clash_stack may_clash
    clash_sound = go (may_clash a b) refl
      where
        best : List ℕ
        best = best_stack p.functions a.subject a.context.pattern b.context.pattern

        go : (t : Bool) → may_clash a b ≡ t → Some (cond t best []) → Both (cond t best [])
        go true e s =
            let same : eqb a.subject b.subject ≡ true = search both_left in
            let fit : not (apart a.context.uid b.context.uid) ≡ true = search both_right in
            both_at best (eqb-true _ _ same) (not-true _ fit) (best_sound p.functions a.subject a.context.pattern b.context.pattern s)
        go false e s = absurd s

  -- ---- complete, and least
  pub clash_least : (m : Moment) → entry_matches p a m ≡ true → entry_matches p b m ≡ true → Some stack × NotAfter stack m.stack
  unfolding clash_stack may_clash
  clash_least m h k =
      let f = matched p a m h in
      let g = matched p b m k in
      rw (
        eq-eqb a.subject b.subject (one_subject p a.subject b.subject m.stack f.lies g.lies),
        fit_together a.context.uid b.context.uid m.uid f.uid g.uid,
      )
      (best_least p.functions a.subject a.context.pattern b.context.pattern m.stack
      (record { one = f.takes; other = g.takes; top = sym (top_lies p a.subject m.stack) ∙ f.lies }))

  -- ---- short
  abbrev enough : ℕ
  enough = most_needed (length a.context.pattern) (length b.context.pattern)

  pub clash_short : length stack ≤ enough
  unfolding clash_stack
  clash_short = go (may_clash a b)
    where
      go : (t : Bool) → length (cond t (best_stack p.functions a.subject a.context.pattern b.context.pattern) []) ≤ enough
      go true = best_short p.functions a.subject a.context.pattern b.context.pattern
      go false = omega arith

  -- a moment that both entries match, with the best stack in the place of its own
  pub short_enough : (m : Moment) → entry_matches p a m ≡ true → entry_matches p b m ≡ true → MatchedShort p a b m
  short_enough m h k =
      let f = matched p a m h in
      let g = matched p b m k in
      let same = one_subject p a.subject b.subject m.stack f.lies g.lies in
      let found = best_least p.functions a.subject a.context.pattern b.context.pattern m.stack
      (record { one = f.takes; other = g.takes; top = sym (top_lies p a.subject m.stack) ∙ f.lies }) in
      let best = best_stack p.functions a.subject a.context.pattern b.context.pattern in
      let meet = best_sound p.functions a.subject a.context.pattern b.context.pattern found.0 in
      let lies : top_lies_in p a.subject best ≡ true = top_lies p a.subject best ∙ meet.top in
      record {
        stack = best;
        short = best_short p.functions a.subject a.context.pattern b.context.pattern;
        one = is_matched p a _ (record { lies = lies; takes = meet.one; uid = f.uid; gid = f.gid; namespace = f.namespace });
        other = is_matched p b _ (record { lies = rw (← same) lies; takes = meet.other; uid = g.uid; gid = g.gid; namespace = g.namespace });
      }
