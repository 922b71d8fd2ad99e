-- Where each word of an index stands: the multiplier of the hash, the head of each bucket, and seven words for each name.
use Rattle.std.specs.Prelude.{ℕ, ◌+◌, ◌*◌, ◌-◌, List, get_or, take, drop}

-- the multiplier of the hash
abbrev pub multiplier_at : ℕ
multiplier_at = 0

-- the heads of the buckets, one behind the other
abbrev pub heads_at : ℕ
heads_at = 1

-- how many buckets there are
abbrev pub buckets : ℕ
buckets = 1024

-- the words of name 0; those of the others stand behind it
abbrev pub names_at : ℕ
names_at = 1025

-- how many words a name has
abbrev pub name_size : ℕ
name_size = 7

-- of a name: where it starts in the text
abbrev pub start_at : ℕ
start_at = 0

-- where it ends
abbrev pub end_at : ℕ
end_at = 1

-- its hash
abbrev pub hash_at : ℕ
hash_at = 2

-- its links, one behind the other: 0 is none, k + 1 is name k
abbrev pub links_at : ℕ
links_at = 3

-- how many links a name has
abbrev pub links : ℕ
links = 4

-- where the words of name k stand
abbrev pub name_at : ℕ → ℕ
name_at k = names_at + name_size * k

-- ---- what stands there

-- the multiplier
abbrev pub multiplier_in : List ℕ → ℕ
multiplier_in ix = get_or ix multiplier_at 0

-- the link in word w
abbrev pub link_in : List ℕ → ℕ → ℕ
link_in ix w = get_or ix w 0

-- the start of name k
abbrev pub start_in : List ℕ → ℕ → ℕ
start_in ix k = get_or ix (name_at k + start_at) 0

-- its end
abbrev pub end_in : List ℕ → ℕ → ℕ
end_in ix k = get_or ix (name_at k + end_at) 0

-- its hash
abbrev pub hash_in : List ℕ → ℕ → ℕ
hash_in ix k = get_or ix (name_at k + hash_at) 0

-- the stretch of the text that name k is
abbrev pub name_in : List ℕ → List ℕ → ℕ → List ℕ
name_in t ix k = take (end_in ix k - start_in ix k) (drop (start_in ix k) t)
