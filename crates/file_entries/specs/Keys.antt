-- The keys of a context, by how far they stand behind it.
use Rattle.std.specs.Prelude.{ℕ, ◌+◌}

-- the place of a key in a context: the paper's `uid_in`, `gid_in` and `namespace_in` are three of these
unfoldable pub key_in : ℕ → ℕ → ℕ
key_in key context = context + key
