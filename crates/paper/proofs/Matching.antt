-- What a match is, part by part: patterns on stacks, uid and gid, static and allocated objects (document 01, "What a match is").
use Prim.Native.Nat.{ℕ}
use mathlib.Core.Path.{◌≡◌, refl}
use mathlib.Core.Bool.{Bool, true, false}
use mathlib.Core.List.{List, [], ◌∷◌, ◌++◌, map}
use lib.ListN.{replicate}
use Rattle.paper.specs.Scalars.{Sort, anyone, variable, root, user}
use Rattle.paper.specs.Policy.{Element, all, fn, any_in, Context, every, Policy}
use Rattle.paper.specs.Match.{Moment, matches, sort_fits, allocated_sort_fits, entry_matches, context_fits_object}
use Rattle.paper.proofs.Computing.{computing}
use Rattle.paper.proofs.WorkedPolicy.{context_with, context, any_context}

-- functions 0 and 1 of domain 0, function 2 of domain 1; domain 2 has none
abbrev in_domains : List ℕ
in_domains = 0 ∷ 0 ∷ 1 ∷ []

-- the stacks tried on a pattern
abbrev tried : List Element → List Bool
tried pattern = map (matches in_domains pattern) ([] ∷ (0 ∷ []) ∷ (1 ∷ []) ∷ (0 ∷ 1 ∷ []) ∷ (1 ∷ 0 ∷ []) ∷ (0 ∷ 2 ∷ 1 ∷ []) ∷ (0 ∷ 0 ∷ 1 ∷ []) ∷ (0 ∷ 1 ∷ 1 ∷ []) ∷ [])

patterns_of_functions :
    map tried
    ([]
    ∷ (all ∷ [])
    ∷ (all ∷ all ∷ [])
    ∷ (fn 0 ∷ [])
    ∷ (fn 0 ∷ fn 1 ∷ [])
    ∷ (fn 0 ∷ all ∷ [])
    ∷ (all ∷ fn 1 ∷ [])
    ∷ (fn 0 ∷ all ∷ fn 1 ∷ [])
    ∷ (all ∷ fn 2 ∷ all ∷ [])
    ∷ (all ∷ fn 0 ∷ all ∷ fn 1 ∷ [])
    ∷ [])
    ≡ (true ∷ false ∷ false ∷ false ∷ false ∷ false ∷ false ∷ false ∷ [])
    ∷ (true ∷ true ∷ true ∷ true ∷ true ∷ true ∷ true ∷ true ∷ [])
    ∷ (true ∷ true ∷ true ∷ true ∷ true ∷ true ∷ true ∷ true ∷ [])
    ∷ (false ∷ true ∷ false ∷ false ∷ false ∷ false ∷ false ∷ false ∷ [])
    ∷ (false ∷ false ∷ false ∷ true ∷ false ∷ false ∷ false ∷ false ∷ [])
    ∷ (false ∷ true ∷ false ∷ true ∷ false ∷ true ∷ true ∷ true ∷ [])
    ∷ (false ∷ false ∷ true ∷ true ∷ false ∷ true ∷ true ∷ true ∷ [])
    ∷ (false ∷ false ∷ false ∷ true ∷ false ∷ true ∷ true ∷ true ∷ [])
    ∷ (false ∷ false ∷ false ∷ false ∷ false ∷ true ∷ false ∷ false ∷ [])
    ∷ (false ∷ false ∷ false ∷ true ∷ false ∷ true ∷ true ∷ true ∷ [])
    ∷ []
unfolding computing
patterns_of_functions = refl

-- "it meets any one frame whose function lies in that domain. .. A domain with no functions meets no frame, so a pattern naming it matches nothing" (document 02 d)
patterns_of_domains :
    map tried
    ((any_in 0 ∷ [])
    ∷ (any_in 1 ∷ [])
    ∷ (any_in 2 ∷ [])
    ∷ (any_in 0 ∷ any_in 0 ∷ [])
    ∷ (fn 0 ∷ any_in 0 ∷ [])
    ∷ (any_in 0 ∷ fn 0 ∷ [])
    ∷ (all ∷ any_in 0 ∷ [])
    ∷ (all ∷ any_in 1 ∷ all ∷ [])
    ∷ (all ∷ any_in 2 ∷ all ∷ [])
    ∷ (any_in 0 ∷ all ∷ any_in 0 ∷ [])
    ∷ [])
    ≡ (false ∷ true ∷ true ∷ false ∷ false ∷ false ∷ false ∷ false ∷ [])
    ∷ (false ∷ false ∷ false ∷ false ∷ false ∷ false ∷ false ∷ false ∷ [])
    ∷ (false ∷ false ∷ false ∷ false ∷ false ∷ false ∷ false ∷ false ∷ [])
    ∷ (false ∷ false ∷ false ∷ true ∷ true ∷ false ∷ false ∷ false ∷ [])
    ∷ (false ∷ false ∷ false ∷ true ∷ false ∷ false ∷ false ∷ false ∷ [])
    ∷ (false ∷ false ∷ false ∷ false ∷ true ∷ false ∷ false ∷ false ∷ [])
    ∷ (false ∷ true ∷ true ∷ true ∷ true ∷ true ∷ true ∷ true ∷ [])
    ∷ (false ∷ false ∷ false ∷ false ∷ false ∷ true ∷ false ∷ false ∷ [])
    ∷ (false ∷ false ∷ false ∷ false ∷ false ∷ false ∷ false ∷ false ∷ [])
    ∷ (false ∷ false ∷ false ∷ true ∷ true ∷ true ∷ true ∷ true ∷ [])
    ∷ []
unfolding computing
patterns_of_domains = refl

-- an unlisted frame lies in no domain: only `all` swallows it
unlisted_frames :
    map (λ (pattern : List Element). matches in_domains pattern (3 ∷ [])) ((all ∷ []) ∷ (any_in 0 ∷ []) ∷ (any_in 1 ∷ []) ∷ (any_in 2 ∷ []) ∷ (any_in 3 ∷ []) ∷ []) ≡ true ∷ replicate 4 false
unfolding computing
unlisted_frames = refl

-- "`root` is 0, `user` is not 0, a variable binds anything"; in an object context "a variable there needing the bound number"
sorts_of_an_entry :
    map (λ (sort : Sort). map (sort_fits sort) (0 ∷ 1 ∷ 4294967295 ∷ [])) (anyone ∷ variable ∷ root ∷ user ∷ [])
    ≡ (true ∷ true ∷ true ∷ []) ∷ (true ∷ true ∷ true ∷ []) ∷ (true ∷ false ∷ false ∷ []) ∷ (false ∷ true ∷ true ∷ []) ∷ []
unfolding computing
sorts_of_an_entry = refl

-- against the bound number 5
sorts_of_an_object_context :
    map (λ (sort : Sort). map (allocated_sort_fits sort 5) (0 ∷ 5 ∷ 6 ∷ [])) (anyone ∷ variable ∷ root ∷ user ∷ [])
    ≡ (true ∷ true ∷ true ∷ []) ∷ (false ∷ true ∷ false ∷ []) ∷ (true ∷ false ∷ false ∷ []) ∷ (false ∷ true ∷ true ∷ []) ∷ []
unfolding computing
sorts_of_an_object_context = refl

abbrev moment : List ℕ → ℕ → ℕ → Moment
moment stack uid gid = record { stack = stack; uid = uid; gid = gid; namespace = 3 }

-- those functions
abbrev listed : Policy
listed = record { object_domains = 0; subject_domains = 3; objects = []; functions = in_domains; entries = [] }

-- an entry for domain 1 with a context
abbrev matched : Context → Moment → Bool
matched c m =
    entry_matches listed
    (record { context = c; subject = 1; calls = every; returns = every; reads = []; writes = [] })
    m

-- "the top frame's domain is its subject, the pattern matches the whole stack, and uid fits", and gid
entries_at_moments :
    matched any_context (moment (0 ∷ 2 ∷ []) 3 3)
    -- the top is of another domain, unlisted, or not there
    ∷ matched any_context (moment (2 ∷ 0 ∷ []) 3 3)
    ∷ matched any_context (moment (2 ∷ 3 ∷ []) 3 3)
    ∷ matched any_context (moment [] 3 3)
    -- frames below the top may be unlisted
    ∷ matched any_context (moment (9 ∷ 2 ∷ []) 3 3)
    -- the whole stack, not a front or an end of it
    ∷ matched (context (fn 0 ∷ []) anyone anyone) (moment (0 ∷ 2 ∷ []) 3 3)
    ∷ matched (context (fn 2 ∷ []) anyone anyone) (moment (0 ∷ 2 ∷ []) 3 3)
    -- the subject's own domain, another, and one before it
    ∷ matched (context (any_in 1 ∷ []) anyone anyone) (moment (2 ∷ []) 3 3)
    ∷ matched (context (any_in 0 ∷ []) anyone anyone) (moment (2 ∷ []) 3 3)
    ∷ matched (context (any_in 0 ∷ any_in 1 ∷ []) anyone anyone) (moment (0 ∷ 2 ∷ []) 3 3)
    -- uid, and gid; a variable for the namespace binds anything
    ∷ matched (context_with (all ∷ []) anyone anyone variable) (moment (2 ∷ []) 0 0)
    ∷ matched (context (all ∷ []) root anyone) (moment (2 ∷ []) 0 3)
    ∷ matched (context (all ∷ []) root anyone) (moment (2 ∷ []) 3 0)
    ∷ matched (context (all ∷ []) user anyone) (moment (2 ∷ []) 0 3)
    ∷ matched (context (all ∷ []) anyone root) (moment (2 ∷ []) 3 0)
    ∷ matched (context (all ∷ []) anyone root) (moment (2 ∷ []) 0 3)
    ∷ []
    ≡ true ∷ false ∷ false ∷ false ∷ true ∷ false ∷ false ∷ true ∷ false ∷ true ∷ true ∷ true ∷ false ∷ false ∷ true ∷ false ∷ []
unfolding computing
entries_at_moments = refl

-- an object context, the entry having bound uid 5, gid 7 and namespace 3
abbrev fits : Context → Moment → Bool
fits c allocation = context_fits_object listed c (moment (2 ∷ []) 5 7) allocation

-- "It fits a static object only with every pattern element `all` and uid and gid `all`."
static_objects :
    map (λ (c : Context). fits c (moment [] 5 7))
    (any_context
    ∷ context (all ∷ all ∷ []) anyone anyone
    ∷ context (fn 2 ∷ []) anyone anyone
    ∷ context (all ∷ fn 2 ∷ all ∷ []) anyone anyone
    -- a domain is no `all`, whether it has functions or not
    ∷ context (all ∷ any_in 0 ∷ []) anyone anyone
    ∷ context (any_in 2 ∷ []) anyone anyone
    ∷ context (all ∷ []) variable anyone
    ∷ context (all ∷ []) root anyone
    ∷ context (all ∷ []) user anyone
    ∷ context (all ∷ []) anyone variable
    ∷ context_with (all ∷ []) anyone anyone variable
    ∷ [])
    ≡ true ∷ true ∷ replicate 9 false
unfolding computing
static_objects = refl

-- the pattern on the allocation's stack and not the moment's; uid by uid and gid by gid
allocated_objects :
    fits (context (fn 2 ∷ []) anyone anyone) (moment (0 ∷ []) 5 7)
    ∷ fits (context (fn 0 ∷ []) anyone anyone) (moment (0 ∷ []) 5 7)
    ∷ fits (context (any_in 0 ∷ []) anyone anyone) (moment (0 ∷ []) 5 7)
    ∷ fits (context (any_in 1 ∷ []) anyone anyone) (moment (0 ∷ []) 5 7)
    ∷ fits (context (all ∷ []) variable variable) (moment (0 ∷ []) 5 7)
    ∷ fits (context (all ∷ []) variable variable) (moment (0 ∷ []) 7 5)
    ∷ fits (context (all ∷ []) variable anyone) (moment (0 ∷ []) 5 1)
    ∷ fits (context (all ∷ []) variable anyone) (moment (0 ∷ []) 1 7)
    ∷ fits (context (all ∷ []) anyone variable) (moment (0 ∷ []) 1 7)
    ∷ fits (context (all ∷ []) anyone variable) (moment (0 ∷ []) 5 1)
    ∷ fits (context (all ∷ []) root anyone) (moment (0 ∷ []) 0 7)
    ∷ fits (context (all ∷ []) user anyone) (moment (0 ∷ []) 0 7)
    ∷ []
    ≡ false ∷ true ∷ true ∷ false ∷ true ∷ false ∷ true ∷ false ∷ true ∷ false ∷ true ∷ false ∷ []
unfolding computing
allocated_objects = refl

-- the namespace by the namespace, and neither by uid nor by gid (document 02 g)
abbrev allocated_in : ℕ → Moment
allocated_in namespace = record { stack = 0 ∷ []; uid = 5; gid = 7; namespace = namespace }

allocations_in_namespaces :
    map (λ (namespace : ℕ). fits (context_with (all ∷ []) anyone anyone variable) (allocated_in namespace)) (3 ∷ 5 ∷ 7 ∷ 0 ∷ [])
    ++ map (λ (namespace : ℕ). fits any_context (allocated_in namespace)) (3 ∷ 0 ∷ [])
    ≡ true ∷ false ∷ false ∷ false ∷ true ∷ true ∷ []
unfolding computing
allocations_in_namespaces = refl
