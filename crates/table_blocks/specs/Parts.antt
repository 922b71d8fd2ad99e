-- Names for the tests that `well_formed` makes of each word, block and entry, as the functions of this crate and of the whole test make them.
use Rattle.std.specs.Prelude.{ℕ, ◌+◌, ◌*◌, ◌-◌, ◌^◌, min, List, Bool, cond, not, ◌&&◌, eqb, ltb}
use Rattle.paper.specs.Common.{up_to}
use Rattle.paper.specs.Table.{head_spare_at, head_spare_size, elements_at, every_word, word_bits, set_at, entry_size, descriptor_size, spare_size, element_count}
use Rattle.paper.specs.Table.{word, objects_at, functions_at, spare_at, entry_at, descriptor_at, object_domain_count, subject_domain_count, object_count, function_count, entry_count}
use Rattle.paper.specs.Table.{read_count, write_count, first_descriptor, zeros, members_fit, element_listed, entry_fits, descriptor_fits, entries_fit, descriptors_fit, one_principal}
use Rattle.paper.specs.Table.{principals_differ, bound_by, variables_bound}

-- word i from a place on
abbrev pub zero_at : List ℕ → ℕ → ℕ → Bool
zero_at ws at i = eqb (word ws (at + i)) 0

-- word i of a block of members
abbrev pub member_fits : List ℕ → ℕ → ℕ → ℕ → ℕ → Bool
member_fits ws at members domains i = cond (ltb i members) (ltb (word ws (at + i)) domains) (eqb (word ws (at + i)) 0)

-- element i of a context
abbrev pub element_fits : List ℕ → ℕ → ℕ → Bool
element_fits ws at i = cond (ltb i (element_count ws at)) (element_listed ws (word ws (at + elements_at + i))) (eqb (word ws (at + elements_at + i)) 0)

-- how many bits of word j of a set are used
abbrev pub used_bits : ℕ → ℕ → ℕ → ℕ
used_bits every domains j = cond (eqb every every_word) 0 (min word_bits (domains - word_bits * j))

-- word j of the set of a grant
abbrev pub set_word_fits : List ℕ → ℕ → ℕ → ℕ → Bool
set_word_fits ws at domains j = ltb (word ws (at + set_at + j)) (2 ^ used_bits (word ws at) domains j)

-- block k of the entries, used or not
abbrev pub entry_block_fits : List ℕ → ℕ → Bool
entry_block_fits ws k = cond (ltb k (entry_count ws)) (entry_fits ws (entry_at k)) (zeros ws (entry_at k) entry_size)

-- block d of the descriptors, used or not
abbrev pub descriptor_block_fits : List ℕ → ℕ → ℕ → Bool
descriptor_block_fits ws descriptors d = cond (ltb d descriptors) (descriptor_fits ws (descriptor_at d)) (zeros ws (descriptor_at d) descriptor_size)

-- entry j does not have the principal of entry k
abbrev pub differs_from : List ℕ → ℕ → ℕ → Bool
differs_from ws k j = not (one_principal ws j k)

-- no entry before entry k has its principal
abbrev pub principal_is_new : List ℕ → ℕ → Bool
principal_is_new ws k = up_to (differs_from ws k) k

-- descriptor i from the first on has its variables bound by the entry at a place
abbrev pub descriptor_bound : List ℕ → ℕ → ℕ → ℕ → Bool
descriptor_bound ws entry first i = bound_by ws entry (descriptor_at (first + i))

-- n descriptors have
abbrev pub descriptors_bound : List ℕ → ℕ → ℕ → ℕ → Bool
descriptors_bound ws entry first n = up_to (descriptor_bound ws entry first) n

-- all descriptors of entry k have
abbrev pub entry_bound : List ℕ → ℕ → Bool
entry_bound ws k = descriptors_bound ws (entry_at k) (first_descriptor ws k) (read_count ws k + write_count ws k)

-- the blocks before the descriptors
unfoldable pub blocks_fit : List ℕ → Bool
blocks_fit ws =
    zeros ws head_spare_at head_spare_size
    && members_fit ws objects_at (object_count ws) (object_domain_count ws)
    && members_fit ws functions_at (function_count ws) (subject_domain_count ws)
    && entries_fit ws

-- the descriptors, what stands behind them, and what entries say of each other and of their descriptors
unfoldable pub rest_fits : List ℕ → Bool
rest_fits ws = descriptors_fit ws && zeros ws spare_at spare_size && principals_differ ws && variables_bound ws
