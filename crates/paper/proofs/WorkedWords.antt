-- The table of the second worked file, every word of it (docs/TABLE.md).
use Prim.Native.Nat.{ℕ, ◌-◌}
use mathlib.Core.Path.{◌≡◌, refl}
use mathlib.Core.Bool.{true, false}
use mathlib.Core.List.{List, [], ◌∷◌, ◌++◌, map}
use lib.ListN.{length, replicate}
use Rattle.paper.specs.Table.{set_words, words_of}
use Rattle.paper.proofs.Computing.{computing}
use Rattle.paper.proofs.WorkedPolicy.{worked_policy}

-- words, and zeros up to n of them
abbrev up_to : ℕ → List ℕ → List ℕ
up_to n ws = ws ++ replicate (n - length ws) 0

-- a context, 20 words: how many elements, uid (0 `all`, 1 a variable, 2 `root`, 3 `user`), gid, namespace, and the elements, 0 for `all`, n + 1 for function n and 1,025 + d for subject domain d
abbrev context_with : ℕ → ℕ → ℕ → ℕ → List ℕ → List ℕ
context_with elements uid gid namespace pattern = up_to 20 (elements ∷ uid ∷ gid ∷ namespace ∷ pattern)

-- `namespace: all`
abbrev context : ℕ → ℕ → ℕ → List ℕ → List ℕ
context elements uid gid pattern = context_with elements uid gid 0 pattern

-- an entry, 44 words: context, subject, how many reads and writes, and two grants: 1 for every domain, or 0 and the set's first word
abbrev entry : List ℕ → ℕ → ℕ → ℕ → List ℕ → List ℕ → List ℕ
entry c subject reads writes calls returns = up_to 44 (c ++ (subject ∷ reads ∷ writes ∷ 0 ∷ (up_to 9 calls ++ returns)))

-- a descriptor, 32 words: context and grant
abbrev descriptor : List ℕ → List ℕ → List ℕ
descriptor c objects = up_to 32 (c ++ objects)

abbrev every : List ℕ
every = 1 ∷ []

abbrev domains : ℕ → List ℕ
domains bits = 0 ∷ bits ∷ []

-- `[all]`, `all`, `all`
abbrev any_context : List ℕ
any_context = context 1 0 0 (0 ∷ [])

abbrev entries : List ℕ
entries =
    -- [main, all, step], U, G: calls Boot and Net (bits 1 and 8), returns anywhere
    entry (context 3 1 1 (1 ∷ 0 ∷ 5 ∷ [])) 2 3 4 (domains 9) every
    ++ (entry any_context 0 1 1 every every
    ++ (entry any_context 2 0 0 (domains 0) (domains 0)
    ++ (entry (context 1 2 0 (0 ∷ [])) 3 0 1 every (domains 0)
    -- [all, Boot, all, recv], user: returns to Ctl (bit 4)
    ++ (entry (context 4 3 0 (0 ∷ 1025 ∷ 0 ∷ 6 ∷ [])) 3 1 0 (domains 0) (domains 4)
    ++ (entry (context_with 1 0 1 1 (0 ∷ [])) 4 3 1 every every
    ++ entry (context 1 0 0 (7 ∷ [])) 1 1 1 every every)))))

abbrev descriptors : List ℕ
descriptors =
    -- entry 0 reads: Gauges and Heaps (bits 1 and 4) under [all, push, all], U; Misc (bit 8); every domain under G
    descriptor (context 3 1 0 (0 ∷ 3 ∷ 0 ∷ [])) (domains 5)
    ++ (descriptor any_context (domains 8)
    ++ (descriptor (context 1 0 1 (0 ∷ [])) every
    -- and writes: Heaps under root; Heaps and Misc under [Ctl, pop], user, G; twice nothing
    ++ (descriptor (context 1 2 0 (0 ∷ [])) (domains 4)
    ++ (descriptor (context 2 3 1 (1027 ∷ 4 ∷ [])) (domains 12)
    ++ (descriptor any_context (domains 0)
    ++ (descriptor any_context (domains 0)
    -- entry 1 reads and writes, entry 3 writes, entry 4 reads
    ++ (descriptor any_context every
    ++ (descriptor any_context every
    ++ (descriptor any_context every
    ++ (descriptor any_context every
    -- entry 5 reads nothing twice and Gauges (bit 1) under N, and writes
    ++ (descriptor any_context (domains 0)
    ++ (descriptor any_context (domains 0)
    ++ (descriptor (context_with 1 0 0 1 (0 ∷ [])) (domains 1)
    ++ (descriptor any_context every
    -- entry 6 reads and writes
    ++ (descriptor any_context every ++ descriptor any_context every)))))))))))))))

abbrev pub worked_words : List ℕ
worked_words =
    -- the mark, 4 object domains, 5 subject domains, 7 objects, 8 functions, 7 entries
    up_to 32 (17492 ∷ 4 ∷ 5 ∷ 7 ∷ 8 ∷ 7 ∷ [])
    ++ (up_to 1024 (0 ∷ 0 ∷ 2 ∷ 2 ∷ 2 ∷ 3 ∷ 3 ∷ [])
    ++ (up_to 1024 (0 ∷ 0 ∷ 2 ∷ 2 ∷ 2 ∷ 3 ∷ 4 ∷ 4 ∷ [])
    ++ (up_to 5632 entries
    ++ (up_to 8192 descriptors ++ replicate 480 0))))

pub worked_words_lem : words_of worked_policy ≡ worked_words
unfolding computing worked_policy
worked_words_lem = refl

-- sets of more than sixteen domains: each word has its sixteen, the first as the lowest bit
sets_of_many_domains :
    map set_words
    (replicate 128 true
    ∷ (replicate 15 false ++ (true ∷ true ∷ []))
    ∷ (replicate 31 false ++ (true ∷ []))
    ∷ (replicate 112 false ++ (true ∷ (replicate 14 false ++ (true ∷ []))))
    ∷ [])
    ≡ replicate 8 65535 ∷ up_to 8 (32768 ∷ 1 ∷ []) ∷ up_to 8 (0 ∷ 32768 ∷ []) ∷ (replicate 7 0 ++ (32769 ∷ [])) ∷ []
unfolding computing
sets_of_many_domains = refl
