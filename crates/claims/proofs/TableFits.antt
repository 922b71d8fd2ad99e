-- "It is well formed exactly when ..": each of its tests, on words that pass it and on words with one fault (document 01, and docs/TABLE.md for the places).
use Prim.Native.Nat.{ℕ, ◌+◌, ◌*◌}
use mathlib.Core.Path.{◌≡◌, refl}
use mathlib.Core.Bool.{Bool, true, false, cond, ◌&&◌}
use mathlib.Core.List.{List, [], ◌∷◌, ◌++◌, map}
use lib.Dec.{eqb, ltb, leb}
use lib.ListN.{length, get_or, set, replicate}
use Rattle.paper.specs.Common.{up_to}
use Rattle.paper.specs.Table.{zeros, counts_fit, members_fit, context_fits, grant_fits, entry_fits, descriptor_fits, entries_fit, descriptors_fit}
use Rattle.paper.specs.Table.{first_descriptor, principals_differ, bound_by, variables_bound, well_formed}
use Rattle.paper.proofs.Computing.{computing}

-- ---- the tests over a whole table, of 128 entries and 256 descriptors, where they look

pub well_formed_is :
    (ws : List ℕ) →
    well_formed ws
    ≡ (leb 16384 (length ws)
    && eqb (get_or ws 0 0) 17492
    && counts_fit ws
    && zeros ws 6 26
    && members_fit ws 32 (get_or ws 3 0) (get_or ws 1 0)
    && members_fit ws 1056 (get_or ws 4 0) (get_or ws 2 0)
    && entries_fit ws
    && descriptors_fit ws
    && zeros ws 15904 480
    && principals_differ ws
    && variables_bound ws)
unfolding well_formed
well_formed_is ws = refl

pub entries_fit_is :
    (ws : List ℕ) →
    entries_fit ws ≡ up_to (λ k. cond (ltb k (get_or ws 5 0)) (entry_fits ws (2080 + 44 * k)) (zeros ws (2080 + 44 * k) 44)) 128
unfolding entries_fit
entries_fit_is ws = refl

pub descriptors_fit_is :
    (ws : List ℕ) →
    descriptors_fit ws
    ≡ up_to (λ d. cond (ltb d (first_descriptor ws (get_or ws 5 0))) (descriptor_fits ws (7712 + 32 * d)) (zeros ws (7712 + 32 * d) 32)) 256
unfolding descriptors_fit
descriptors_fit_is ws = refl

-- ---- "counts within the limits"

-- object domains, subject domains, objects, functions, entries
abbrev head : ℕ → ℕ → ℕ → ℕ → ℕ → List ℕ
head object_domains subject_domains objects functions entries =
    17492 ∷ object_domains ∷ subject_domains ∷ objects ∷ functions ∷ entries ∷ []

-- a table whose one entry has so many reads and writes
abbrev counting : ℕ → ℕ → List ℕ
counting reads writes = head 0 0 0 0 1 ++ (replicate 2095 0 ++ (reads ∷ writes ∷ []))

counts_at_their_limits :
    map counts_fit
    (head 128 128 1024 1024 128
    ∷ head 129 0 0 0 0
    ∷ head 0 129 0 0 0
    ∷ head 0 0 1025 0 0
    ∷ head 0 0 0 1025 0
    ∷ head 0 0 0 0 129
    ∷ counting 200 56
    ∷ counting 200 57
    ∷ counting 257 0
    ∷ counting 0 257
    ∷ [])
    ≡ true ∷ false ∷ false ∷ false ∷ false ∷ false ∷ true ∷ false ∷ false ∷ false ∷ []
unfolding computing
counts_at_their_limits = refl

-- ---- "every number it holds below its count .. and zeros in unused words and bits"

-- four members, the first at place 1; 1,024 of them use the whole block
members_in_their_domains :
    members_fit (9 ∷ 0 ∷ 1 ∷ 0 ∷ 1 ∷ []) 1 4 2
    ∷ members_fit (9 ∷ 0 ∷ 2 ∷ 0 ∷ 1 ∷ []) 1 4 2
    ∷ members_fit (9 ∷ 0 ∷ 1 ∷ 0 ∷ 1 ∷ []) 1 3 2
    ∷ members_fit [] 1 1024 1
    ∷ members_fit [] 1 1 0
    ∷ members_fit [] 1 0 0
    ∷ []
    ≡ true ∷ false ∷ false ∷ true ∷ false ∷ true ∷ []
unfolding computing
members_in_their_domains = refl

-- behind a head with 2 object domains, 3 subject domains and 5 functions: [fn 4, all, fn 0], a variable twice
abbrev context : List ℕ
context = head 2 3 4 5 6 ++ (3 ∷ 1 ∷ 1 ∷ 0 ∷ 5 ∷ 0 ∷ 1 ∷ replicate 13 0)

-- one word of it changed
abbrev fits : (List ℕ → ℕ → Bool) → List ℕ → ℕ → ℕ → Bool
fits test ws i v = test (set ws (6 + i) v) 6

contexts_that_fit :
    context_fits context 6
    -- 16 elements, the last of them a function; uid, gid and namespace of their last sort; the highest function, the lowest and the highest subject domain
    ∷ fits context_fits (set context (6 + 0) 16) 19 5
    ∷ fits context_fits context 1 3
    ∷ fits context_fits context 2 0
    ∷ fits context_fits context 3 1
    ∷ fits context_fits context 6 5
    ∷ fits context_fits context 4 1025
    ∷ fits context_fits context 6 1027
    -- the last of 1,024 functions
    ∷ fits context_fits (set context 4 1024) 4 1024
    ∷ []
    ≡ replicate 9 true
unfolding computing
contexts_that_fit = refl

contexts_with_one_fault :
    -- no element, and 17
    fits context_fits context 0 0
    ∷ fits context_fits context 0 17
    -- the sorts one too high
    ∷ fits context_fits context 1 4
    ∷ fits context_fits context 2 2
    ∷ fits context_fits context 3 2
    -- the first and the last unused element
    ∷ fits context_fits context 7 1
    ∷ fits context_fits context 19 1
    -- a function not below the count, first and last
    ∷ fits context_fits context 4 6
    ∷ fits context_fits context 6 6
    -- a subject domain not below the count, in any place; one where an element is unused
    ∷ fits context_fits context 4 1028
    ∷ fits context_fits context 6 65535
    ∷ fits context_fits context 7 1025
    -- the last function of all and the first domain, where there are none
    ∷ fits context_fits context 4 1024
    ∷ fits context_fits (set context 2 0) 4 1025
    ∷ []
    ≡ replicate 14 false
unfolding computing
contexts_with_one_fault = refl

-- sets over 0, 16, 17, 127 and 128 domains: no bit at or past the count; under 1 no bit at all
grants_of_the_listed_domains :
    map (λ (ws : List ℕ). grant_fits ws 1 0) ((9 ∷ 0 ∷ []) ∷ (9 ∷ 1 ∷ []) ∷ (9 ∷ 2 ∷ []) ∷ (9 ∷ 0 ∷ 1 ∷ []) ∷ (9 ∷ 1 ∷ 1 ∷ []) ∷ (9 ∷ 1 ∷ 0 ∷ 0 ∷ 0 ∷ 0 ∷ 0 ∷ 0 ∷ 0 ∷ 1 ∷ []) ∷ [])
    ++ (map (λ (ws : List ℕ). grant_fits ws 1 16) ((9 ∷ 0 ∷ 65535 ∷ []) ∷ (9 ∷ 0 ∷ 65535 ∷ 1 ∷ []) ∷ [])
    ++ (map (λ (ws : List ℕ). grant_fits ws 1 17) ((9 ∷ 0 ∷ 65535 ∷ 1 ∷ []) ∷ (9 ∷ 0 ∷ 65535 ∷ 2 ∷ []) ∷ [])
    ++ map (λ (domains : ℕ). grant_fits (9 ∷ 0 ∷ replicate 8 65535) 1 domains) (128 ∷ 127 ∷ [])))
    ≡ (true ∷ true ∷ false ∷ false ∷ false ∷ false ∷ []) ++ ((true ∷ false ∷ []) ++ ((true ∷ false ∷ []) ++ (true ∷ false ∷ [])))
unfolding computing
grants_of_the_listed_domains = refl

-- an entry at place 6: subject 2, as many reads and writes as you like, calls domains 0 to 2, returns everywhere
abbrev entry : List ℕ
entry = context ++ (2 ∷ 9 ∷ 9 ∷ 0 ∷ 0 ∷ 7 ∷ replicate 7 0) ++ (1 ∷ replicate 8 0) ++ (0 ∷ 0 ∷ [])

entries_with_one_fault :
    entry_fits entry 6
    -- context, subject, the unused word
    ∷ fits entry_fits entry 2 2
    ∷ fits entry_fits entry 20 3
    ∷ fits entry_fits entry 23 1
    -- a bit past the subject domains in either grant, a set under `all`
    ∷ fits entry_fits entry 25 8
    ∷ fits entry_fits entry 32 1
    ∷ fits entry_fits entry 34 1
    ∷ fits entry_fits entry 33 2
    -- the unused end
    ∷ fits entry_fits entry 42 1
    ∷ fits entry_fits entry 43 1
    ∷ []
    ≡ true ∷ replicate 9 false
unfolding computing
entries_with_one_fault = refl

-- a descriptor at place 6, of object domains 0 and 1
abbrev descriptor : List ℕ
descriptor = context ++ (0 ∷ 3 ∷ replicate 7 0) ++ (0 ∷ 0 ∷ 0 ∷ [])

descriptors_with_one_fault :
    descriptor_fits descriptor 6
    ∷ fits descriptor_fits descriptor 1 4
    ∷ fits descriptor_fits descriptor 21 4
    ∷ fits descriptor_fits descriptor 20 1
    ∷ fits descriptor_fits descriptor 29 1
    ∷ fits descriptor_fits descriptor 31 1
    ∷ []
    ≡ true ∷ replicate 5 false
unfolding computing
descriptors_with_one_fault = refl

-- the first and the last of three words, and those outside them
zeros_between :
    map (λ (ws : List ℕ). zeros ws 1 3) ((9 ∷ 0 ∷ 0 ∷ 0 ∷ 9 ∷ []) ∷ (0 ∷ 9 ∷ []) ∷ (0 ∷ 0 ∷ 0 ∷ 9 ∷ []) ∷ [] ∷ []) ≡ true ∷ false ∷ false ∷ true ∷ []
unfolding computing
zeros_between = refl

-- ---- "no two entries with one principal"

-- two entries that differ in one word alone
abbrev two_entries : ℕ → List ℕ
two_entries i = head 0 0 0 0 2 ++ (replicate 2074 0 ++ (replicate 44 0 ++ set (replicate 44 0) i 1))

-- first and last of the 21 words of a principal, and the word behind them
principals_told_apart : map (λ i. principals_differ (two_entries i)) (0 ∷ 2 ∷ 19 ∷ 20 ∷ 21 ∷ 43 ∷ []) ≡ true ∷ true ∷ true ∷ true ∷ false ∷ false ∷ []
unfolding computing
principals_told_apart = refl

-- three entries of which the last is the first: not neighbours alone
principals_of_all_pairs :
    principals_differ (head 0 0 0 0 3 ++ (replicate 2074 0 ++ (replicate 44 0 ++ (1 ∷ replicate 87 0)))) ≡ false
unfolding computing
principals_of_all_pairs = refl

-- ---- "object variables bound as 10 asks"

-- the uid and gid sorts of an entry at place 0 and of a descriptor at place 4
abbrev bound : ℕ → ℕ → ℕ → ℕ → Bool
bound uid gid uidHere gidHere = bound_by (1 ∷ uid ∷ gid ∷ 0 ∷ 1 ∷ uidHere ∷ gidHere ∷ 0 ∷ []) 0 4

variables_bound_lem :
    bound 1 1 1 1 ∷ bound 1 0 1 0 ∷ bound 0 1 0 1 ∷ bound 0 0 0 0 ∷ bound 2 0 3 0 ∷ bound 0 0 1 0 ∷ bound 0 0 0 1 ∷ bound 0 1 1 0 ∷ bound 1 0 0 1 ∷ bound 2 0 1 0 ∷ bound 3 1 1 1 ∷ []
    ≡ true ∷ true ∷ true ∷ true ∷ true ∷ false ∷ false ∷ false ∷ false ∷ false ∷ false ∷ []
unfolding computing
variables_bound_lem = refl

-- the same of the namespace, uid and gid being variables of the entry
namespaces_bound :
    map (λ (sort : ℕ). bound_by (1 ∷ 1 ∷ 1 ∷ sort ∷ 1 ∷ 0 ∷ 0 ∷ 1 ∷ []) 0 4) (1 ∷ 0 ∷ []) ++ map (λ (sort : ℕ). bound_by (1 ∷ 1 ∷ 1 ∷ 0 ∷ 1 ∷ 0 ∷ 0 ∷ sort ∷ []) 0 4) (0 ∷ 1 ∷ [])
    ≡ true ∷ false ∷ true ∷ false ∷ []
unfolding computing
namespaces_bound = refl

-- two entries, the second with a read and a write; uid sorts of the entries, and of the two descriptors
abbrev reading : ℕ → ℕ → ℕ → ℕ → List ℕ
reading first second read write =
    head 0 0 0 0 2
    ++ (replicate 2074 0 ++ ((1 ∷ first ∷ replicate 42 0) ++ ((1 ∷ second ∷ replicate 19 0) ++ (1 ∷ 1 ∷ replicate 21 0))))
    ++ (replicate 5544 0 ++ ((1 ∷ read ∷ replicate 30 0) ++ (1 ∷ write ∷ replicate 30 0)))

-- each descriptor by its own entry, the last too
variables_of_their_entry :
    variables_bound (reading 0 1 1 1) ∷ variables_bound (reading 1 0 0 1) ∷ variables_bound (reading 1 0 1 0) ∷ [] ≡ true ∷ false ∷ false ∷ []
unfolding computing
variables_of_their_entry = refl
