-- What the elements behind the last `all`, and a run of elements up to an `all`, say of a pattern and a stack, the functions being given by their domains.
use Rattle.std.specs.Prelude.{ℕ, ◌<◌, ◌≤◌, ◌≡◌, Bool, true, false, List, ◌∷◌, map, length, get_or, Option, Some, None}
use Rattle.std.specs.Borrow.{Bor}
use Rattle.paper.specs.Policy.{all}
use Rattle.paper.specs.Table.{element_in}
use Rattle.paper.specs.Match.{matches, top}
use Rattle.laws.specs.Frames.{meets_frame}
use Rattle.judge_pattern.specs.declared.Words.{Words}
use Rattle.judge_pattern.specs.declared.Run.{Run}
use Rattle.judge_pattern.specs.declared.Run.TheVariants.{Match, Fail, Never, All}

-- the elements of the words match the stack
abbrev pub matches_words : List ℕ → List ℕ → List ℕ → Bool
matches_words F p s = matches F (map element_in p) s

-- they do so behind an `all`: from the first frame on or from a later one
abbrev pub matches_later : List ℕ → List ℕ → List ℕ → Bool
matches_later F p s = matches F (all ∷ map element_in p) s

-- from the front every element up to an `all` fits; q is what stands behind it, t the frames left
pub record FitsToAll (F p s q t : List ℕ) : Type 0 where
  pub shorter : length q < length p
  pub no_longer : length t ≤ length s
  -- the rest decides, whether or not an `all` stands before
  pub decides : matches_words F p s ≡ matches_later F q t
  pub decides_later : matches_later F p s ≡ matches_later F q t

-- what each answer says of a pattern and a stack
abbrev pub Says : Run → List ℕ → List ℕ → List ℕ → Type 0
Says Match F p s = matches_words F p s ≡ true
Says Fail F p s = matches_words F p s ≡ false
Says Never F p s = matches_later F p s ≡ false
Says (All q t) F p s = FitsToAll F p s q.now t.now

-- no other element besides `all` meets the frame than those of two words
pub record Meeting (F : List ℕ) (x : ℕ) (words : Words) : Type 0 where
  pub others : (one : ℕ) → (one ≡ 0 → ⊥) → (one ≡ words.function → ⊥) → (one ≡ words.domain → ⊥) → meets_frame F (element_in one) x ≡ false

-- where the ends of a pattern may not meet those of a stack, it does not match
pub record EndsMayMeet (p : List ℕ) (base running : Words) (r : Bool) : Type 0 where
  pub refuses : (F s : List ℕ) → (length s ≡ 0 → ⊥) → Meeting F (get_or s 0 0) base → Meeting F (top s) running → r ≡ false → false ≡ matches F (map element_in p) s

-- every element behind those left meets its frame above those left, or one of them does not
abbrev pub SaysOfTop : List ℕ → List ℕ → List ℕ → Option (Bor (List ℕ) × Bor (List ℕ)) → Type 0
SaysOfTop F p s None = matches_words F p s ≡ false
SaysOfTop F p s (Some below) = matches_words F p s ≡ matches_words F below.0.now below.1.now
