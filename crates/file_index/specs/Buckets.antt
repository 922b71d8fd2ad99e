-- The hash of a name, the way through the bucket of that hash, and when an index knows a list of names.
use Rattle.std.specs.Prelude.{ℕ, zero, suc, ◌+◌, ◌*◌, ◌-◌, ◌/◌, ◌%◌, ◌^◌, ◌<◌, ◌≤◌, ◌≡◌, List, [], ◌∷◌, Bool, cond, ◌&&◌, ◌||◌, eqb, ltb, leb, length, get_or, take, drop, set}
use Rattle.paper.specs.Common.{same, number_in}
use Rattle.file_index.specs.Words.{heads_at, names_at, start_at, end_at, hash_at, links_at, name_at, multiplier_in, link_in, hash_in, name_in}
use Rattle.file_index.specs.declared.names.Place.{Place}
use Rattle.file_index.specs.declared.names.Place.TheVariants.{Found, Free}

-- ---- the hash

-- the multiplier that whoever clears an index gives it
abbrev pub multiplier : ℕ
multiplier = 65599

-- a multiplier counts up to 2 to the 20
abbrev pub multipliers : ℕ
multipliers = 1048576

-- a hash is below 2 to the 32
abbrev pub hashes : ℕ
hashes = 4294967296

-- what spreads hashes over the buckets: 2 to the 32 by the golden ratio
abbrev pub spread : ℕ
spread = 2654435769

-- how many spread hashes fall into one bucket
abbrev pub bucket_size : ℕ
bucket_size = 4194304

-- the hash h, gone on over bytes
unfoldable pub hash_from : ℕ → ℕ → List ℕ → ℕ
hash_from m h [] = h
hash_from m h (b ∷ bs) = hash_from m ((h * (m % multipliers) + b) % hashes) bs

-- the hash of a name
abbrev pub hash_of : ℕ → List ℕ → ℕ
hash_of m name = hash_from m 0 name

-- the two bytes of a name from a place on, as one number
abbrev pub two_at : ℕ → List ℕ → ℕ → ℕ
two_at step name i = get_or name i 0 * step + get_or name (i + 1) 0

-- the bucket that names of hash h are in
unfoldable pub bucket_of : ℕ → ℕ
bucket_of h = h % hashes * spread % hashes / bucket_size

-- ---- the way through a bucket, by links: 0 is none, k + 1 is name k

-- name k is x, whose hash is h
abbrev pub is_name : List ℕ → List ℕ → ℕ → List ℕ → ℕ → Bool
is_name t ix h x k = eqb (hash_in ix k) h && same (name_in t ix k) x

-- turn d of the way of x, one of four: two bits of a byte, from its last byte to its first
unfoldable pub turn_of : List ℕ → ℕ → ℕ
turn_of x d = cond (leb (length x) (d / 4)) 0 (get_or x (length x - 1 - d / 4) 0 / 2 ^ (d % 4 * 2) % 4)

-- where the way of x, whose hash is h, ends among n names, from word w and turn d on. A link goes to a name behind the last one; where the
-- words say another, there is none.
unfoldable pub way_end_from : List ℕ → List ℕ → ℕ → ℕ → List ℕ → ℕ → ℕ → ℕ → ℕ → Place
way_end_from t ix n h x zero d last w = Free w
way_end_from t ix n h x (suc fuel) d last w =
    cond (leb (link_in ix w) last || ltb n (link_in ix w)) (Free w)
    (cond (is_name t ix h x (link_in ix w - 1)) (Found (link_in ix w - 1))
    (way_end_from t ix n h x fuel (d + 1) (link_in ix w) (name_at (link_in ix w - 1) + links_at + turn_of x d)))

-- the same from the head of its bucket on: no way passes more than n names
abbrev pub way_end : List ℕ → List ℕ → ℕ → ℕ → List ℕ → Place
way_end t ix n h x = way_end_from t ix n h x n 0 0 (heads_at + bucket_of h)

-- the place is one of n names, or stands in front of name n
unfoldable pub Within : ℕ → Place → Type 0
Within n (Found k) = k < n
Within n (Free w) = w < name_at n

-- the number of a place among n names; n where it is free
unfoldable pub number_of : ℕ → Place → ℕ
number_of n (Found k) = k
number_of n (Free w) = n

-- the number of x among the n names of an index; n where it is none of them
unfoldable pub numbers_in : List ℕ → List ℕ → ℕ → List ℕ → ℕ
numbers_in t ix n x = number_of n (way_end t ix n (hash_of (multiplier_in ix) x) x)

-- ---- an index

-- the words once name n, of hash h, is in, with its link in word w
unfoldable pub inserted_at : List ℕ → ℕ → ℕ → ℕ → ℕ → ℕ → List ℕ
inserted_at ix n w start end h = set (set (set (set ix (name_at n + start_at) start) (name_at n + end_at) end) (name_at n + hash_at) h) w (n + 1)

-- the word of a place that is free
unfoldable pub word_of : Place → ℕ
word_of (Found k) = 0
word_of (Free w) = w

-- the words once a stretch of the text, of hash h, is in as name n, with its link where its way ended
abbrev pub inserted : List ℕ → List ℕ → ℕ → ℕ → ℕ → ℕ → List ℕ
inserted t ix n start end h = inserted_at ix n (word_of (way_end t ix n h (take (end - start) (drop start t)))) start end h

-- word w is one of the links of the name that link k goes to; where k is none, the head of a bucket
unfoldable pub LinkOf : ℕ → ℕ → Type 0
LinkOf zero w = (heads_at ≤ w) × (w < names_at)
LinkOf (suc k) w = (name_at k + links_at ≤ w) × (w < name_at (k + 1))

-- the index knows these names of the text, and no others
pub record Index (t ix : List ℕ) (n : ℕ) (names : List (List ℕ)) : Type 0 where
  -- it counts them
  pub count : n ≡ length names
  -- no link goes to a name that is yet to come
  pub low : (k w : ℕ) → k ≤ n → LinkOf k w → link_in ix w ≤ n
  -- behind their words there is nothing
  pub clear : (w : ℕ) → name_at n ≤ w → get_or ix w 0 ≡ 0
  -- it numbers every name as the list does
  pub knows : (x : List ℕ) → numbers_in t ix n x ≡ number_in names x
