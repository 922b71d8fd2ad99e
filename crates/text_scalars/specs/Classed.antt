-- The test that a scalar's bytes pass; and an identifier without it.
use Rattle.std.specs.Prelude.{ℕ, List, Bool, ◌&&◌, length, get_or}
use Rattle.paper.specs.Common.{within, cut}
use Rattle.paper.specs.Text.{bar}
use Rattle.paper.specs.Scalars.{name_byte, identifier_byte, identifier_first, parts_fit}
use Rattle.paper.specs.declared.Kind.{Kind}
use Rattle.paper.specs.declared.Scalar.{Scalar}
use Rattle.paper.specs.declared.Scalar.TheVariants.{DomainName, UidValue, GidValue, SubjectIdentifier, ObjectIdentifier, PatternElement}

-- the test that each of a scalar's bytes passes
abbrev pub class_of : Scalar → ℕ → Bool
class_of DomainName = name_byte
class_of UidValue = name_byte
class_of GidValue = name_byte
class_of SubjectIdentifier = identifier_byte
class_of ObjectIdentifier = identifier_byte
class_of PatternElement = identifier_byte

-- the rest of what an identifier is: its length, its first byte, its parts
unfoldable pub fits_kind : Kind → List ℕ → Bool
fits_kind kind s = within 1 128 (length s) && identifier_first (get_or s 0 0) && parts_fit kind (cut bar s)
