-- A text that was written in part: so many bytes of it are no more than it has.
use mathlib.Core.Path.{◌≡◌, sym}
use mathlib.Core.List.{List}
use Prim.Native.Nat.{ℕ, ◌≤◌}
use lib.ListN.{length, take}
use lib.Seq.{length-take-le}

pub taken : (n : ℕ) (text : List ℕ) → n ≤ length text → n ≡ length (take n text)
taken n text h = sym (length-take-le n text h)
