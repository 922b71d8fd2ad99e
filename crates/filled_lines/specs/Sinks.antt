-- What takes texts one behind the other.
use Rattle.std.specs.Prelude.{ℕ, List, ◌++◌, []}

-- there is room for a text, and a text was put: what follows from room for two texts, and from one put behind the other
pub record SinkLaws {S : Type 0} (Fits : S → List ℕ → Type 0) (Put : S → List ℕ → S → Type 0) : Type 0 where
  pub nothing : (s : S) → Fits s [] → Put s [] s
  pub first : (s : S) (x y : List ℕ) → Fits s (x ++ y) → Fits s x
  pub rest : (s m : S) (x y : List ℕ) → Fits s (x ++ y) → Put s x m → Fits m y
  pub both : (s m e : S) (x y : List ℕ) → Put s x m → Put m y e → Put s (x ++ y) e
