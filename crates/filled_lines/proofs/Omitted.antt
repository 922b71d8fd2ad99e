-- A context none of whose keys is there, and what stands before the first key of one that has some.
use mathlib.Core.Path.{◌≡◌, refl, sym, ap, ◌∙◌}
use mathlib.Core.Bool.{true}
use mathlib.Core.Logic.{⊎_elim}
use mathlib.Core.List.{List, [], ◌++◌}
use Prim.Native.Nat.{ℕ, ◌+◌, ◌-◌, ◌≤◌}
use native.Mathlib.Omega.{arith}
use lib.ListN.{length}
use Rattle.paper.specs.Common.{any_of}
use Rattle.paper.specs.Listing.{execution_context, can_read, can_write, object_context_in, listing, row_at, key_at}
use Rattle.paper.specs.Entries.{call_contexts, default_at, value_at}
use Rattle.paper.specs.Filled.{key_line, bare_line, value_line, context_text}
use Rattle.file_fields.specs.Fields.{between, is_key, next_key}
use Rattle.file_fields.specs.declared.file.FieldAt.{FieldAt}
use Rattle.file_fields.specs.Places.{IsContext}
use Rattle.file_fields.proofs.Between.{between_none}
use Rattle.file_fields.proofs.Keys.{key_at_lem, value_skipped}
use Rattle.filled_lines.specs.Wrote.{Wrote}
use Rattle.filled_lines.specs.Omitted.{omitted_bytes, omitted_keys, omitted_size}

-- ---- the bytes of the code

pub bytes_room : (old : List ℕ) → length omitted_keys ≤ length old → length omitted_bytes ≤ length old
unfolding omitted_keys
bytes_room old h = h

pub bytes_wrote : (old out : List ℕ) (n : ℕ) → Wrote omitted_bytes old out n → Wrote omitted_keys old out n
unfolding omitted_keys
bytes_wrote old out n w = w

-- ---- no key

none_is : (place : ℕ) → IsContext place → context_text place [] ≡ bare_line place ++ omitted_keys
unfolding context_text value_line value_at default_at call_contexts any_of key_line key_at row_at listing omitted_keys
none_is place which =
    ⊎_elim
    (λ (e : place ≡ execution_context). rw e refl)
    (⊎_elim (λ (e : place ≡ object_context_in can_read). rw e refl) (λ (e : place ≡ object_context_in can_write). rw e refl))
    which

pub omitted_length : length omitted_keys ≡ omitted_size
unfolding omitted_keys
omitted_length = refl

-- ---- from the first key on

module _ (t : List ℕ) (list : List FieldAt) (place from to first : ℕ) (e : first ≡ next_key list place from (to - from)) where
  line_skipped : (key : ℕ) → is_key place key ≡ true → value_line key (between t list first to) ≡ value_line key (between t list from to)
  unfolding value_line
  line_skipped key l = ap (key_line key) (value_skipped t list place from to first e key l)

  pub context_skipped : context_text place (between t list first to) ≡ context_text place (between t list from to)
  unfolding context_text
  context_skipped =
      rw (
        line_skipped (place + 1) (key_at_lem place (place + 1) (omega arith) (omega arith)),
        line_skipped (place + 2) (key_at_lem place (place + 2) (omega arith) (omega arith)),
        line_skipped (place + 3) (key_at_lem place (place + 3) (omega arith) (omega arith)),
        line_skipped (place + 4) (key_at_lem place (place + 4) (omega arith) (omega arith)),
      )
      refl

  module _ (which : IsContext place) (h : to ≤ first) where
    pub context_omitted : context_text place (between t list from to) ≡ bare_line place ++ omitted_keys
    context_omitted = sym context_skipped ∙ rw (between_none t list first to h) (none_is place which)
