-- The weight of a value: a number that equal values have in common, and others hardly ever, by eight bytes at a time.
use Rattle.std.specs.Prelude.{ℕ, zero, suc, ◌+◌, ◌*◌, ◌-◌, ◌/◌, ◌%◌, List, cond, ltb, length, get_or}
use Rattle.file_index.specs.Buckets.{multiplier, hashes, hash_of}

-- a byte is below this
abbrev pub byte_values : ℕ
byte_values = 256

-- what sets four bytes apart from the four behind them
abbrev pub apart : ℕ
apart = 40503

-- the four bytes from a place on, as one number
abbrev pub four_at : List ℕ → ℕ → ℕ
four_at v i = get_or v i 0 + byte_values * (get_or v (i + 1) 0 + byte_values * (get_or v (i + 2) 0 + byte_values * get_or v (i + 3) 0))

-- the weight h, gone on over the eight bytes from a place on
abbrev pub with_eight : ℕ → List ℕ → ℕ → ℕ
with_eight h v i = (h * multiplier + four_at v i * apart + four_at v (i + 4)) % hashes

-- the weight of the first k eights
unfoldable pub eights : List ℕ → ℕ → ℕ
eights v zero = 0
eights v (suc k) = with_eight (eights v k) v (8 * k)

-- that of all bytes: the last eight are taken whether or not some of them were
unfoldable pub weight_of : List ℕ → ℕ
weight_of v = cond (ltb (length v) 8) (hash_of multiplier v) (with_eight (eights v (length v / 8)) v (length v - 8))
