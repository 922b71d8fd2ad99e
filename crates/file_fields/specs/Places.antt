-- The places of an entry that stand more than once.
use Rattle.std.specs.Prelude.{ℕ, ◌≡◌, ◌⊎◌}
use Rattle.paper.specs.Listing.{execution_context, can_read, can_write, object_context_in}

-- `can_read` or `can_write`
abbrev pub IsAccess : ℕ → Type 0
IsAccess place = (place ≡ can_read) ⊎ (place ≡ can_write)

-- the place of a context
abbrev pub IsContext : ℕ → Type 0
IsContext place = (place ≡ execution_context) ⊎ ((place ≡ object_context_in can_read) ⊎ (place ≡ object_context_in can_write))
