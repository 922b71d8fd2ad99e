-- 8, limb by limb: "domain or function its map lacks", in every place that names one; each of the first texts is refused by one limb alone.
use mathlib.Core.Path.{◌≡◌, refl}
use mathlib.Core.List.{List, [], ◌∷◌, ◌++◌}
use Rattle.paper.specs.Common.{bytes}
use Rattle.paper.proofs.Computing.{computing}
use Rattle.paper.proofs.Texts.{Trial, computed, claimed, privileges, entry, entry_of, context, context_of, reading, writing}

abbrev domains : List Trial
domains =
    privileges (bytes "- principal:\n    subject: Z\n") 8 9
    ∷ entry "  can_call: [B, Z]\n" 8 10
    ∷ entry "  can_return: [Z]\n" 8 10
    ∷ entry "  can_read:\n  - objects: [A]\n  - objects: [Z]\n" 8 12
    ∷ entry "  can_write:\n  - objects: []\n  - objects: [A, Z]\n" 8 12
    -- "a name of the other map is not in this one"
    ∷ privileges (bytes "- principal:\n    subject: A\n") 8 9
    ∷ entry "  can_call: [A]\n" 8 10
    ∷ entry "  can_return: [B, A]\n" 8 10
    ∷ entry "  can_read:\n  - objects: [B]\n" 8 11
    ∷ entry "  can_write:\n  - objects: [B]\n" 8 11
    -- a front and an extension of a name are other names
    ∷ entry "  can_call: [BB]\n" 8 10
    ∷ entry "  can_call: [B]\n  can_return: [B]\n  can_read:\n  - objects: [A]\n  can_write:\n  - objects: [A]\n" 0 0
    ∷ []

domain_its_map_lacks : computed domains ≡ claimed domains
unfolding computing
domain_its_map_lacks = refl

abbrev functions : List Trial
functions =
    -- in the execution context, in the context of a read and of a write
    context "      call_context: [all, f|h]\n" 8 11
    ∷ entry_of (reading "      call_context: [f|h, all]\n") 8 13
    ∷ entry_of (writing "      call_context: [f|g, f|h]\n") 8 13
    ∷ context "      call_context: [g|f]\n" 8 11
    ∷ context "      call_context: [f|gg]\n" 8 11
    ∷ context_of (bytes "      call_context: [f|g]\n" ++ (reading "      call_context: [f|g, all]\n" ++ writing "      call_context: [all, f|g]\n")) 0 0
    ∷ []

-- "An element may now also be a subject domain name .. 8 an unknown one" (document 02 d)
abbrev elements : List Trial
elements =
    context_of (bytes "      call_context: [B, f|g, all]\n" ++ (reading "      call_context: [f|g, B]\n" ++ writing "      call_context: [B]\n")) 0 0
    ∷ context "      call_context: [any]\n" 8 11
    ∷ context "      call_context: [all, BB]\n" 8 11
    -- a domain of the object map is not in this one
    ∷ context "      call_context: [A]\n" 8 11
    ∷ entry_of (reading "      call_context: [B, A]\n") 8 13
    ∷ entry_of (writing "      call_context: [Z, B]\n") 8 13
    ∷ []

domain_in_a_pattern : computed elements ≡ claimed elements
unfolding computing
domain_in_a_pattern = refl

function_its_map_lacks : computed functions ≡ claimed functions
unfolding computing
function_its_map_lacks = refl
