-- What a look among places finds.
use Rattle.std.specs.Prelude.{ℕ, ◌≡◌, ◌<◌, ◌≤◌, List, true, eqb, length, get_or, Option, Some, None}
use Rattle.paper.specs.Common.{any_of}
use Rattle.paper.specs.Listing.{nowhere, key_at}
use Rattle.paper.specs.Page.{place_of}
use Rattle.text_keys.specs.declared.Placed.{Placed}

-- key and line have the same bytes from a place up to another (what `eight_alike` answers)
abbrev pub Alike : List ℕ → List ℕ → ℕ → ℕ → Type 0
Alike key l from to = (i : ℕ) → from ≤ i → i < to → get_or l i 0 ≡ get_or key i 0

-- the place whose key the line begins with, which is one of these, and how long that key is; or that none is
abbrev pub Finds : List ℕ → List ℕ → Option Placed → Type 0
Finds places l None = place_of places l ≡ nowhere
Finds places l (Some p) =
    (p.place ≡ place_of places l) × (any_of (eqb p.place) places ≡ true) × (p.length ≡ length (key_at p.place)) × (p.length ≤ length l)
