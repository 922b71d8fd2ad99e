-- What `proper` says of some small policies: of one that is, and of the same with one thing wrong.
use mathlib.Core.Path.{◌≡◌, refl}
use mathlib.Core.Bool.{Bool, true, false}
use mathlib.Core.List.{List, [], ◌∷◌}
use Prim.Native.Nat.{ℕ}
use Rattle.paper.specs.Scalars.{Sort, anyone, variable, root, user}
use Rattle.paper.specs.Policy.{Element, all, fn, any_in, every, these, Entry, Policy}
use Rattle.paper.proofs.Computing.{computing}
use Rattle.laws_table.specs.Proper.{element_below, is_gid_sort, proper_context, proper_grant, is_binding, bound_sort, bound_in, no_two, principal_of, share_principal, accesses_of}
use Rattle.laws_table.specs.Proper.{all_descriptors, proper_descriptor, proper_entry, proper_counts, proper}

-- an entry that may call everything and read one object domain: its pattern, sorts, subject, where it may return, and the uid of its object context
abbrev entry : List Element → Sort → Sort → ℕ → List Bool → Sort → Entry
entry pattern uid gid subject returns objectUid = record {
  context = record { pattern = pattern; uid = uid; gid = gid; namespace = anyone };
  subject = subject;
  calls = every;
  returns = these returns;
  reads = record { context = record { pattern = all ∷ []; uid = objectUid; gid = anyone; namespace = anyone }; objects = these (true ∷ []) } ∷ [];
  writes = [];
}

-- one object domain with one object, two subject domains with three functions
abbrev policy : List Entry → Policy
policy entries = record { object_domains = 1; subject_domains = 2; objects = 0 ∷ []; functions = 0 ∷ 1 ∷ 1 ∷ []; entries = entries }

-- every definition that `proper` stands on
unfoldable opened : Unit {0}
unfolding computing element_below is_gid_sort proper_context proper_grant is_binding bound_sort bound_in no_two principal_of share_principal accesses_of
    all_descriptors proper_descriptor proper_entry proper_counts proper
opened = tt

sound : proper (policy (entry (all ∷ fn 2 ∷ []) variable anyone 1 (true ∷ false ∷ []) variable ∷ [])) ≡ true
unfolding opened
sound = refl

no_function_three : proper (policy (entry (all ∷ fn 3 ∷ []) variable anyone 1 (true ∷ false ∷ []) variable ∷ [])) ≡ false
unfolding opened
no_function_three = refl

domain_in_a_pattern : proper (policy (entry (any_in 1 ∷ fn 2 ∷ []) variable anyone 1 (true ∷ false ∷ []) variable ∷ [])) ≡ true
unfolding opened
domain_in_a_pattern = refl

no_domain_two : proper (policy (entry (any_in 2 ∷ fn 2 ∷ []) variable anyone 1 (true ∷ false ∷ []) variable ∷ [])) ≡ false
unfolding opened
no_domain_two = refl

no_element : proper (policy (entry [] variable anyone 1 (true ∷ false ∷ []) variable ∷ [])) ≡ false
unfolding opened
no_element = refl

gid_is_root : proper (policy (entry (all ∷ fn 2 ∷ []) variable root 1 (true ∷ false ∷ []) variable ∷ [])) ≡ false
unfolding opened
gid_is_root = refl

no_subject_two : proper (policy (entry (all ∷ fn 2 ∷ []) variable anyone 2 (true ∷ false ∷ []) variable ∷ [])) ≡ false
unfolding opened
no_subject_two = refl

set_too_short : proper (policy (entry (all ∷ fn 2 ∷ []) variable anyone 1 (true ∷ []) variable ∷ [])) ≡ false
unfolding opened
set_too_short = refl

unbound : proper (policy (entry (all ∷ fn 2 ∷ []) user anyone 1 (true ∷ false ∷ []) variable ∷ [])) ≡ false
unfolding opened
unbound = refl

-- two entries whose principals differ in the sort of the gid, and two with one principal
apart : proper (policy (entry (all ∷ []) user anyone 1 (true ∷ false ∷ []) root ∷ entry (all ∷ []) user variable 1 (true ∷ false ∷ []) root ∷ [])) ≡ true
unfolding opened
apart = refl

twins : proper (policy (entry (all ∷ []) user anyone 1 (true ∷ false ∷ []) root ∷ entry (all ∷ []) user anyone 1 (true ∷ true ∷ []) user ∷ [])) ≡ false
unfolding opened
twins = refl
