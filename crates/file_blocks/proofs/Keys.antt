-- The first key of a context: what stands before it has nothing to do with the context.
use mathlib.Core.Path.{◌≡◌, refl, sym, ap, ◌∙◌}
use mathlib.Core.Bool.{Bool, true, false, cond}
use mathlib.Core.Logic.{⊎_elim}
use mathlib.Core.List.{List, ◌∷◌}
use Prim.Native.Nat.{ℕ, zero, suc, ◌+◌, ◌-◌, ◌<◌, ◌≤◌}
use native.Mathlib.Omega.{arith}
use lib.Dec.{eqb}
use lib.ListN.{length, set, replicate}
use borrow.Author.Tests.{ne_eqb, lt-ltb, le-leb}
use Rattle.paper.specs.Common.{bytes, same}
use Rattle.paper.specs.Scalars.{sort_number, sort_of}
use Rattle.paper.specs.Limits.{most_elements}
use Rattle.paper.specs.Page.{Field}
use Rattle.paper.specs.Entries.{value_at}
use Rattle.paper.specs.Table.{context_size}
use Rattle.laws.proofs.Tests.{le_or_lt}
use Rattle.file_fields.specs.Fields.{between, next_at, next_key}
use Rattle.file_fields.specs.declared.file.FieldAt.{FieldAt}
use Rattle.file_fields.specs.Stretches.{IsPart}
use Rattle.file_fields.specs.declared.stretch.Stretch.{Stretch}
use Rattle.file_fields.specs.Places.{IsContext}
use Rattle.file_fields.proofs.Between.{between_more, between_none}
use Rattle.file_fields.proofs.Places.{uid_default, gid_default, namespace_default}
use Rattle.file_fields.proofs.Keys.{key_at_lem, next_skipped, value_skipped}
use Rattle.file_blocks.specs.Written.{pattern_in, context_of_words, context_in}
use Rattle.file_blocks.proofs.Contexts.{all_written}

module _ (t : List ℕ) (list : List FieldAt) (words starts : List ℕ) (place from to first : ℕ) (e : first ≡ next_key list place from (to - from)) where
  context_skipped : context_in t list words starts place first to ≡ context_in t list words starts place from to
  unfolding context_in
  context_skipped =
      rw (
        next_skipped t list place from to first e (place + 1) (key_at_lem place (place + 1) (omega arith) (omega arith)),
        value_skipped t list place from to first e (place + 2) (key_at_lem place (place + 2) (omega arith) (omega arith)),
        value_skipped t list place from to first e (place + 3) (key_at_lem place (place + 3) (omega arith) (omega arith)),
        value_skipped t list place from to first e (place + 4) (key_at_lem place (place + 4) (omega arith) (omega arith)),
      )
      refl

  pub pattern_skipped : length (pattern_in words starts (next_at list (place + 1) from (to - from)) to) ≤ most_elements
      → length (pattern_in words starts (next_at list (place + 1) first (to - first)) to) ≤ most_elements
  pattern_skipped h = rw (next_skipped t list place from to first e (place + 1) (key_at_lem place (place + 1) (omega arith) (omega arith))) h

  pub found_written : (out : List ℕ) → out ≡ context_in t list words starts place first to → out ≡ context_in t list words starts place from to
  found_written out h = h ∙ context_skipped

  none_there : IsContext place → to ≤ first → context_of_words (pattern_in words starts first to) (bytes "all") (bytes "all") (bytes "all") ≡ context_in t list words starts place first to
  unfolding context_in value_at next_at
  none_there which h =
      let z : to - first ≡ 0 = omega arith in
      rw (z, between_none t list first to h, uid_default place which, gid_default place which, namespace_default place which) refl

  pub none_written : IsContext place → (out : List ℕ) → out ≡ replicate context_size 0 → to ≤ first → set out 0 1 ≡ context_in t list words starts place from to
  unfolding sort_number sort_of same
  none_written which out z h =
      let four : set out 0 1 ≡ set (set (set (set out 1 0) 2 0) 3 0) 0 1 = rw z refl in
      four
      ∙ all_written out z 0 0 0 words starts first to (bytes "all") (bytes "all") (bytes "all") h refl refl refl
      ∙ none_there which h
      ∙ context_skipped

-- ---- as stretches

module _ (part keys : Stretch) (words starts : List ℕ) (place : ℕ) (k : IsPart part.file (next_key part.file.fields.now place part.from (part.to - part.from)) part.to keys) where
  pub keys_few : length (pattern_in words starts (next_at part.file.fields.now (place + 1) part.from (part.to - part.from)) part.to) ≤ most_elements
      → length (pattern_in words starts (next_at keys.file.fields.now (place + 1) keys.from (keys.to - keys.from)) keys.to) ≤ most_elements
  keys_few h = rw (k.of_file, k.first, k.last) (pattern_skipped part.file.text.now part.file.fields.now words starts place part.from part.to _ refl h)

  pub keys_written : (out : List ℕ) → out ≡ context_in keys.file.text.now keys.file.fields.now words starts place keys.from keys.to
      → out ≡ context_in part.file.text.now part.file.fields.now words starts place part.from part.to
  keys_written out h = found_written part.file.text.now part.file.fields.now words starts place part.from part.to _ refl out (rw (k.of_file, k.first, k.last) at h)

pub no_key_written : (t : List ℕ) (list : List FieldAt) (words starts : List ℕ) (place from to : ℕ) → to ≤ next_key list place from (to - from) → IsContext place
    → (out : List ℕ) → out ≡ replicate context_size 0 → set out 0 1 ≡ context_in t list words starts place from to
no_key_written t list words starts place from to h which out z = none_written t list words starts place from to _ refl which out z h
