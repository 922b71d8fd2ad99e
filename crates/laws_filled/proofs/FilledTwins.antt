-- 11 of the filled text: its entries have the principals that they had, so that no two are the same.
use mathlib.Core.Path.{◌≡◌, refl, ap, ◌∙◌}
use mathlib.Core.List.{List, [], ◌∷◌, map}
use mathlib.Core.Bool.{Bool, true, false, cond, not, ◌&&◌}
use Prim.Native.Nat.{ℕ, ◌≤◌}
use native.Mathlib.Omega.{arith}
use lib.Dec.{leb}
use borrow.Author.Tests.{leb-true, not-true}
use Rattle.paper.specs.Common.{all_of, any_of}
use Rattle.paper.specs.Listing.{principal, subject_of_entry, execution_context, call_context_in, uid_in, gid_in, namespace_in}
use Rattle.paper.specs.Page.{Field, fields, page_of}
use Rattle.paper.specs.Entries.{stretches_from, entries_of, line_of_entry}
use Rattle.paper.specs.Rules.{same_sort_at, same_principal, twin_after, twin_principal}
use Rattle.laws.proofs.Tests.{both_left, both_right}
use Rattle.laws_file.proofs.Kept.{entries_numbered}
use Rattle.laws_file.proofs.EachRule.{page_numbered}
use Rattle.laws_filled.specs.Fields.{entry_fields, filled_fields}
use Rattle.laws_filled.proofs.Says.{says, filled_same, value_says, stretches_say}
use Rattle.laws_filled.proofs.SamePolicy.{front_values, entries_written}

-- no entry has the principal of one before it
unfoldable no_twins : List (List Field) → List (List Field) → Bool
no_twins seen [] = true
no_twins seen (e ∷ es) = not (any_of (same_principal e) seen) && no_twins (e ∷ seen) es

twins_silent : (seen es : List (List Field)) → no_twins seen es ≡ true → twin_after seen es ≡ 0
unfolding no_twins twin_after
twins_silent seen [] h = refl
twins_silent seen (e ∷ es) h =
    rw (not-true (any_of (same_principal e) seen) (both_left (not (any_of (same_principal e) seen)) _ h))
    (twins_silent (e ∷ seen) es (both_right (not (any_of (same_principal e) seen)) _ h))

silent_twins : (seen es : List (List Field)) → all_of (λ e. leb 1 (line_of_entry e)) es ≡ true → twin_after seen es ≡ 0 → no_twins seen es ≡ true
unfolding no_twins twin_after all_of
silent_twins seen [] n h = refl
silent_twins seen (e ∷ es) n h = go (any_of (same_principal e) seen) h (silent_twins (e ∷ seen) es (both_right (leb 1 (line_of_entry e)) _ n))
  where
    go : (t : Bool) → cond t (line_of_entry e) (twin_after (e ∷ seen) es) ≡ 0 → (twin_after (e ∷ seen) es ≡ 0 → no_twins (e ∷ seen) es ≡ true)
        → (not t && no_twins (e ∷ seen) es) ≡ true
    go true k ih = absurd (let l : 1 ≤ line_of_entry e = leb-true 1 (line_of_entry e) (both_left (leb 1 (line_of_entry e)) _ n) in omega arith)
    go false k ih = ih k

-- entries that keep their principals
module _ (h : List Field → List Field) (keeps : (a b : List Field) → same_principal (h a) (h b) ≡ same_principal a b) where
  pub any_kept : (e : List Field) (seen : List (List Field)) → any_of (same_principal (h e)) (map h seen) ≡ any_of (same_principal e) seen
  unfolding any_of
  any_kept e [] = refl
  any_kept e (x ∷ xs) = rw (keeps e x, any_kept e xs) refl

  twins_kept : (seen es : List (List Field)) → no_twins (map h seen) (map h es) ≡ no_twins seen es
  unfolding no_twins
  twins_kept seen [] = refl
  twins_kept seen (e ∷ es) = rw (any_kept e seen, twins_kept (e ∷ seen) es) refl

says_sort : (key : ℕ → ℕ) (a b : List Field) → same_sort_at key (map says a) (map says b) ≡ same_sort_at key a b
unfolding same_sort_at
says_sort key a b = rw (value_says (key execution_context) a, value_says (key execution_context) b) refl

pub says_principal : (a b : List Field) → same_principal (map says a) (map says b) ≡ same_principal a b
unfolding same_principal
says_principal a b =
    rw (
      value_says subject_of_entry a,
      value_says subject_of_entry b,
      value_says (call_context_in execution_context) a,
      value_says (call_context_in execution_context) b,
      says_sort uid_in a b,
      says_sort gid_in a b,
      says_sort namespace_in a b,
    ) refl

filled_principal : (a b : List Field) → same_principal (entry_fields a) (entry_fields b) ≡ same_principal a b
unfolding same_principal same_sort_at
filled_principal a b =
    let v = front_values a in
    let w = front_values b in
    rw (v.subject, w.subject, v.call_context, w.call_context, v.uid, w.uid, v.gid, w.gid, v.namespace, w.namespace) refl

said_twins : (fs : List Field) → no_twins [] (entries_of (map says fs)) ≡ no_twins [] (entries_of fs)
unfolding entries_of
said_twins fs = rw (stretches_say principal fs) (twins_kept (map says) says_principal [] (stretches_from principal fs))

filled_no_twins : (fs : List Field) → no_twins [] (entries_of (filled_fields fs)) ≡ no_twins [] (entries_of fs)
filled_no_twins fs =
    filled_same (λ gs. no_twins [] (entries_of gs)) said_twins fs
    ∙ ap (no_twins []) (entries_written fs)
    ∙ twins_kept entry_fields filled_principal [] (entries_of fs)

-- no two entries of the filled text have the same principal
pub filled_twins : (t : List ℕ) (fs : List Field) → page_of t ≡ fields fs → twin_principal fs ≡ 0 → twin_principal (filled_fields fs) ≡ 0
unfolding twin_principal
filled_twins t fs page none =
    twins_silent [] (entries_of (filled_fields fs))
    (filled_no_twins fs ∙ silent_twins [] (entries_of fs) (entries_numbered fs (page_numbered t fs page)) none)
