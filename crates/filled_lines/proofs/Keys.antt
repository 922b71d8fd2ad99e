-- A key that is known is put by its text.
use Prim.Native.Nat.{ℕ}
use mathlib.Core.Path.{◌≡◌}
use mathlib.Core.List.{List}
use Rattle.text_keys.specs.declared.rows.Key.{Key}
use Rattle.text_keys.specs.Rows.{key_text}
use Rattle.filled_lines.specs.Wrote.{Fits, Wrote}

module _ (known key : Key) (is : key ≡ known) where
  pub key_fits : (out : List ℕ) → Fits (key_text key) out → Fits (key_text known) out
  key_fits out h = rw is at h

  pub key_wrote : (before after : List ℕ) (r : ℕ) → Wrote (key_text known) before after r → Wrote (key_text key) before after r
  key_wrote before after r h = rw is h
