-- The policy that words hold (docs/TABLE.md): read off the second worked file's table, and off single contexts, grants and sets.
use Prim.Native.Nat.{ℕ, ◌+◌, ◌*◌}
use mathlib.Core.Path.{◌≡◌, refl}
use mathlib.Core.Bool.{true, false}
use mathlib.Core.List.{List, [], ◌∷◌, ◌++◌, map}
use lib.ListN.{get_or, replicate}
use Rattle.paper.specs.Common.{count_up}
use Rattle.paper.specs.Scalars.{anyone, variable, root, user}
use Rattle.paper.specs.Policy.{all, fn, any_in, every, these}
use Rattle.paper.specs.Overlap.{entry_of_policy}
use Rattle.paper.specs.Table.{object_domain_count, subject_domain_count, object_count, function_count, entry_count, object_domains_in, function_domains_in}
use Rattle.paper.specs.Table.{context_in, grant_in, is_in, with_domain, descriptor_in, first_descriptor, entry_in, policy_in}
use Rattle.paper.proofs.Computing.{computing}
use Rattle.paper.proofs.WorkedPolicy.{context, item, worked_policy}
use Rattle.paper.proofs.WorkedWords.{worked_words}

counts_read :
    object_domain_count worked_words ∷ subject_domain_count worked_words ∷ object_count worked_words ∷ function_count worked_words ∷ entry_count worked_words ∷ []
    ≡ 4 ∷ 5 ∷ 7 ∷ 8 ∷ 7 ∷ []
unfolding computing
counts_read = refl

members_read :
    object_domains_in worked_words ∷ function_domains_in worked_words ∷ []
    ≡ (0 ∷ 0 ∷ 2 ∷ 2 ∷ 2 ∷ 3 ∷ 3 ∷ []) ∷ (0 ∷ 0 ∷ 2 ∷ 2 ∷ 2 ∷ 3 ∷ 4 ∷ 4 ∷ []) ∷ []
unfolding computing
members_read = refl

-- "Descriptors stand without gaps in the order entry 0's reads, entry 0's writes, entry 1's reads, and so on."
first_descriptors : map (first_descriptor worked_words) (count_up 0 8) ≡ 0 ∷ 7 ∷ 9 ∷ 9 ∷ 10 ∷ 11 ∷ 15 ∷ 17 ∷ []
unfolding computing
first_descriptors = refl

-- where an entry's parts stand: descriptors of reads from the first of its own, then those of writes
pub entry_is :
    (ws : List ℕ) (k : ℕ) →
    entry_in ws k
    ≡ record {
      context = context_in ws (2080 + 44 * k);
      subject = get_or ws (2080 + 44 * k + 20) 0;
      calls = grant_in ws (2080 + 44 * k + 24) (get_or ws 2 0);
      returns = grant_in ws (2080 + 44 * k + 33) (get_or ws 2 0);
      reads = map (descriptor_in ws) (count_up (first_descriptor ws k) (get_or ws (2080 + 44 * k + 21) 0));
      writes = map (descriptor_in ws) (count_up (first_descriptor ws k + get_or ws (2080 + 44 * k + 21) 0) (get_or ws (2080 + 44 * k + 22) 0));
    }
unfolding entry_in
entry_is ws k = refl

-- two descriptors, and an entry of its own that has none
descriptors_read :
    map (descriptor_in worked_words) (2 ∷ 4 ∷ [])
    ≡ item every (context (all ∷ []) anyone variable)
    ∷ item (these (false ∷ false ∷ true ∷ true ∷ [])) (context (any_in 2 ∷ fn 3 ∷ []) user variable)
    ∷ []
unfolding computing
descriptors_read = refl

entry_read : entry_in worked_words 2 ≡ entry_of_policy worked_policy 2
unfolding computing worked_policy
entry_read = refl

-- a context at place 2: "0 is `all`, n + 1 is function n", and what stands past its length is not read
contexts_read :
    map (λ (words : List ℕ). context_in (9 ∷ 9 ∷ words) 2)
    ((3 ∷ 0 ∷ 1 ∷ 0 ∷ 0 ∷ 1 ∷ 8 ∷ 5 ∷ []) ∷ (1 ∷ 1 ∷ 0 ∷ 0 ∷ 4 ∷ []) ∷ (1 ∷ 2 ∷ 0 ∷ 0 ∷ 0 ∷ []) ∷ (2 ∷ 3 ∷ 0 ∷ 0 ∷ 0 ∷ 0 ∷ []) ∷ [])
    ≡ context (all ∷ fn 0 ∷ fn 7 ∷ []) anyone variable
    ∷ context (fn 3 ∷ []) variable anyone
    ∷ context (all ∷ []) root anyone
    ∷ context (all ∷ all ∷ []) user anyone
    ∷ []
unfolding computing
contexts_read = refl

-- "domain d is bit d mod 16 (of value 2 to the d mod 16) of word 1 + d / 16"
grants_read :
    map (λ (words : List ℕ). grant_in (9 ∷ words) 1 18) ((1 ∷ 0 ∷ []) ∷ (0 ∷ 5 ∷ 3 ∷ []) ∷ (0 ∷ 32768 ∷ 2 ∷ []) ∷ (0 ∷ []) ∷ [])
    ≡ every
    ∷ these ((true ∷ false ∷ true ∷ []) ++ (replicate 13 false ++ (true ∷ true ∷ [])))
    ∷ these (replicate 15 false ++ (true ∷ false ∷ true ∷ []))
    ∷ these (replicate 18 false)
    ∷ []
unfolding computing
grants_read = refl

sets_read : map (is_in (1 ∷ 32768 ∷ [])) (0 ∷ 1 ∷ 15 ∷ 16 ∷ 30 ∷ 31 ∷ 32 ∷ 127 ∷ []) ≡ true ∷ false ∷ false ∷ false ∷ false ∷ true ∷ false ∷ false ∷ []
unfolding computing
sets_read = refl

-- a domain put into a set, once and again; past its last word nothing changes
sets_written :
    map (with_domain (1 ∷ 2 ∷ [])) (0 ∷ 1 ∷ 15 ∷ 16 ∷ 17 ∷ 31 ∷ 32 ∷ [])
    ≡ (1 ∷ 2 ∷ []) ∷ (3 ∷ 2 ∷ []) ∷ (32769 ∷ 2 ∷ []) ∷ (1 ∷ 3 ∷ []) ∷ (1 ∷ 2 ∷ []) ∷ (1 ∷ 32770 ∷ []) ∷ (1 ∷ 2 ∷ []) ∷ []
unfolding computing
sets_written = refl

-- a head, and nothing behind it
policy_read_lem :
    policy_in (17492 ∷ 1 ∷ 2 ∷ 0 ∷ 0 ∷ 0 ∷ []) ≡ record { object_domains = 1; subject_domains = 2; objects = []; functions = []; entries = [] }
unfolding computing
policy_read_lem = refl
