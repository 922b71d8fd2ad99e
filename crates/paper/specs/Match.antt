-- What a match is (document 01, "What a match is").
use Rattle.std.specs.Prelude.{ℕ, ◌-◌, ◌≡◌, List, [], ◌∷◌, Bool, true, false, cond, not, ◌&&◌, ◌||◌, eqb, ltb, length, get_or}
use Rattle.std.proofs.Math.Path.{refl}
use Rattle.paper.specs.Common.{is_empty, all_of, any_of}
use Rattle.paper.specs.Scalars.{Sort, anyone, variable, root, user, sort_number}
use Rattle.paper.specs.Policy.{Element, all, fn, any_in, Context, Grant, every, these, Descriptor, Entry, Policy}

-- a moment: "a stack (base first, running function last), uid and gid", and namespace (document 02 g)
pub record Moment : Type 0 where
  pub stack : List ℕ
  pub uid : ℕ
  pub gid : ℕ
  pub namespace : ℕ

-- ---- where a frame's function lies

-- "A number not below the count means unlisted."
abbrev pub is_listed : List ℕ → ℕ → Bool
is_listed domains n = ltb n (length domains)

-- a listed function of this domain: an unlisted one lies in none
unfoldable pub lies_in : List ℕ → ℕ → ℕ → Bool
lies_in functions domain f = is_listed functions f && eqb (get_or functions f 0) domain

-- ---- "A pattern matches a stack when: an empty pattern meets an empty stack; a first function equals the first frame and the rest of the pattern
-- against the rest of the stack matches; a first `all` either drops out or swallows one frame and stays." And a subject domain name "meets any one
-- frame whose function lies in that domain" (document 02 d). The functions are given by their domains.

-- the rest of the pattern matches here, or after some frames
unfoldable pub swallowing : (List ℕ → Bool) → List ℕ → Bool
swallowing rest [] = rest []
swallowing rest (x ∷ stack) = rest (x ∷ stack) || swallowing rest stack

-- the first frame passes the test, and the rest of the pattern against the rest of the stack matches
unfoldable pub first_meets : (ℕ → Bool) → (List ℕ → Bool) → List ℕ → Bool
first_meets test rest [] = false
first_meets test rest (x ∷ stack) = test x && rest stack

unfoldable pub matches : List ℕ → List Element → List ℕ → Bool
matches functions [] stack = is_empty stack
matches functions (all ∷ pattern) stack = swallowing (matches functions pattern) stack
matches functions (fn f ∷ pattern) stack = first_meets (eqb f) (matches functions pattern) stack
matches functions (any_in domain ∷ pattern) stack = first_meets (lies_in functions domain) (matches functions pattern) stack

module _ (functions : List ℕ) where
  -- "an empty pattern meets an empty stack"
  pub empty_meets_empty : matches functions [] [] ≡ true
  unfolding matches
  empty_meets_empty = refl

  module _ (pattern : List Element) where
    -- "a first `all` .. drops out": on an empty stack it can do nothing else
    pub all_drops_out : matches functions (all ∷ pattern) [] ≡ matches functions pattern []
    unfolding matches swallowing
    all_drops_out = refl

    module _ (x : ℕ) (stack : List ℕ) where
      -- "a first function equals the first frame and the rest .. matches"
      pub first_function : (f : ℕ) → matches functions (fn f ∷ pattern) (x ∷ stack) ≡ (eqb f x && matches functions pattern stack)
      unfolding matches first_meets
      first_function f = refl

      -- "it meets any one frame whose function lies in that domain" (document 02 d)
      pub first_domain : (domain : ℕ) → matches functions (any_in domain ∷ pattern) (x ∷ stack) ≡ (lies_in functions domain x && matches functions pattern stack)
      unfolding matches first_meets
      first_domain domain = refl

      -- "a first `all` either drops out or swallows one frame and stays"
      pub all_drops_out_or_swallows : matches functions (all ∷ pattern) (x ∷ stack) ≡ (matches functions pattern (x ∷ stack) || matches functions (all ∷ pattern) stack)
      unfolding matches swallowing
      all_drops_out_or_swallows = refl

-- ---- "An entry matches when the top frame's domain is its subject, the pattern matches the whole stack, and uid fits"

-- "The last frame is the running function"
abbrev pub top : List ℕ → ℕ
top stack = get_or stack (length stack - 1) 0

-- the top frame is a listed function of this domain
unfoldable pub top_lies_in : Policy → ℕ → List ℕ → Bool
top_lies_in p domain stack = not (is_empty stack) && lies_in p.functions domain (top stack)

-- "`root` is 0, `user` is not 0, a variable binds anything"
unfoldable pub sort_fits : Sort → ℕ → Bool
sort_fits anyone id = true
sort_fits variable id = true
sort_fits root id = eqb id 0
sort_fits user id = not (eqb id 0)

-- gid and namespace fit likewise
unfoldable pub sorts_fit : Context → Moment → Bool
sorts_fit c m = sort_fits c.uid m.uid && sort_fits c.gid m.gid && sort_fits c.namespace m.namespace

unfoldable pub entry_matches : Policy → Entry → Moment → Bool
entry_matches p e m =
    top_lies_in p e.subject m.stack && matches p.functions e.context.pattern m.stack && sorts_fit e.context m

-- ---- "An object context fits an allocated object likewise, a variable there needing the bound number."

-- a sort against the allocation's number, the entry having bound the moment's
unfoldable pub allocated_sort_fits : Sort → ℕ → ℕ → Bool
allocated_sort_fits anyone bound id = true
allocated_sort_fits variable bound id = eqb id bound
allocated_sort_fits root bound id = eqb id 0
allocated_sort_fits user bound id = not (eqb id 0)

-- uid, gid and namespace, each against its own
unfoldable pub allocated_sorts_fit : Context → Moment → Moment → Bool
allocated_sorts_fit c m allocation =
    allocated_sort_fits c.uid m.uid allocation.uid
    && allocated_sort_fits c.gid m.gid allocation.gid
    && allocated_sort_fits c.namespace m.namespace allocation.namespace

-- an allocation at one moment, looked at from another
unfoldable pub fits_allocated : Policy → Context → Moment → Moment → Bool
fits_allocated p c m allocation = matches p.functions c.pattern allocation.stack && allocated_sorts_fit c m allocation

-- ---- "It fits a static object only with every pattern element `all` and uid and gid `all`."

unfoldable pub is_all : Element → Bool
is_all all = true
is_all (fn f) = false
is_all (any_in domain) = false

unfoldable pub is_anyone : Sort → Bool
is_anyone sort = eqb (sort_number sort) (sort_number anyone)

-- "uid and gid `all`", and namespace (document 02 g)
unfoldable pub sorts_anyone : Context → Bool
sorts_anyone c = is_anyone c.uid && is_anyone c.gid && is_anyone c.namespace

unfoldable pub fits_static : Context → Bool
fits_static c = all_of is_all c.pattern && sorts_anyone c

-- "An empty allocation stack means a static object; its uid and gid are then not looked at."
unfoldable pub context_fits_object : Policy → Context → Moment → Moment → Bool
context_fits_object p c m allocation = cond (is_empty allocation.stack) (fits_static c) (fits_allocated p c m allocation)

-- a grant holds the domain
unfoldable pub grants : Grant → ℕ → Bool
grants every d = true
grants (these set) d = get_or set d false

-- "A read or write is granted by one descriptor that lists the domain and whose context fits."
unfoldable pub descriptor_grants : Policy → ℕ → Moment → Moment → Descriptor → Bool
descriptor_grants p d m allocation a = grants a.objects d && context_fits_object p a.context m allocation

unfoldable pub some_descriptor_grants : Policy → List Descriptor → ℕ → Moment → Moment → Bool
some_descriptor_grants p descriptors d m allocation = any_of (descriptor_grants p d m allocation) descriptors
