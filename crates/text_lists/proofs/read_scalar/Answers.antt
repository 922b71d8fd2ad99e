-- Each scalar by its own reader.
use Rattle.std.proofs.Common.{rules}
use Rattle.text_lists.proofs.Scalars.{read_known}
use Rattle.text_lists.proofs.read_scalar.Goals as goal

pub returns-in-DomainName : goal.returns-in-DomainName
returns-in-DomainName c = search (rules, read_known)

pub returns-in-SubjectIdentifier : goal.returns-in-SubjectIdentifier
returns-in-SubjectIdentifier c = search (rules, read_known)

pub returns-in-ObjectIdentifier : goal.returns-in-ObjectIdentifier
returns-in-ObjectIdentifier c = search (rules, read_known)

pub returns-in-PatternElement : goal.returns-in-PatternElement
returns-in-PatternElement c = search (rules, read_known)
