-- How far it is to a separator.
use Rattle.std.specs.Prelude.{ℕ, suc, List, [], ◌∷◌, cond, eqb}

-- how many bytes stand before the first c: all of them, where there is none
unfoldable pub before : ℕ → List ℕ → ℕ
before c [] = 0
before c (b ∷ bs) = cond (eqb b c) 0 (suc (before c bs))
