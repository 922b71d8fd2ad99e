-- By the scalar, each as its own definition.
use Rattle.std.proofs.Common.{rules}
use Rattle.text_scalars.proofs.Laws.{scalar_known}
use Rattle.paper.specs.Scalars.{is_scalar}
use Rattle.text_scalars.proofs.is_scalar.Goals as goal

pub returns-in-DomainName : goal.returns-in-DomainName
unfolding is_scalar
returns-in-DomainName c = search (rules, scalar_known)

pub returns-in-UidValue : goal.returns-in-UidValue
unfolding is_scalar
returns-in-UidValue c = search (rules, scalar_known)

pub returns-in-GidValue : goal.returns-in-GidValue
unfolding is_scalar
returns-in-GidValue c = search (rules, scalar_known)

pub returns-in-SubjectIdentifier : goal.returns-in-SubjectIdentifier
unfolding is_scalar
returns-in-SubjectIdentifier c = search (rules, scalar_known)

pub returns-in-ObjectIdentifier : goal.returns-in-ObjectIdentifier
unfolding is_scalar
returns-in-ObjectIdentifier c = search (rules, scalar_known)

pub returns-in-PatternElement : goal.returns-in-PatternElement
unfolding is_scalar
returns-in-PatternElement c = search (rules, scalar_known)
