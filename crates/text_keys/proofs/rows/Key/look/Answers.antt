-- By the key, whose text has so many spaces in front and then perhaps a dash.
use Rattle.std.proofs.Common.{rules}
use Rattle.paper.specs.Common.{is_front_of}
use Rattle.paper.specs.Text.{column}
use Rattle.paper.specs.Listing.{dashed}
use Rattle.text_keys.proofs.Looks.{stands_of}
use Rattle.text_keys.proofs.rows.Key.look.Goals as goal

pub returns-in-Nothing-clause-stands : goal.returns-in-Nothing-clause-stands
unfolding column is_front_of dashed
returns-in-Nothing-clause-stands c = search (rules, stands_of)

pub returns-in-ObjectMap-clause-stands : goal.returns-in-ObjectMap-clause-stands
unfolding column is_front_of dashed
returns-in-ObjectMap-clause-stands c = search (rules, stands_of)

pub returns-in-Name-clause-stands : goal.returns-in-Name-clause-stands
unfolding column is_front_of dashed
returns-in-Name-clause-stands c = search (rules, stands_of)

pub returns-in-Objects-clause-stands : goal.returns-in-Objects-clause-stands
unfolding column is_front_of dashed
returns-in-Objects-clause-stands c = search (rules, stands_of)

pub returns-in-SubjectMap-clause-stands : goal.returns-in-SubjectMap-clause-stands
unfolding column is_front_of dashed
returns-in-SubjectMap-clause-stands c = search (rules, stands_of)

pub returns-in-Subjects-clause-stands : goal.returns-in-Subjects-clause-stands
unfolding column is_front_of dashed
returns-in-Subjects-clause-stands c = search (rules, stands_of)

pub returns-in-Privileges-clause-stands : goal.returns-in-Privileges-clause-stands
unfolding column is_front_of dashed
returns-in-Privileges-clause-stands c = search (rules, stands_of)

pub returns-in-Principal-clause-stands : goal.returns-in-Principal-clause-stands
unfolding column is_front_of dashed
returns-in-Principal-clause-stands c = search (rules, stands_of)

pub returns-in-Subject-clause-stands : goal.returns-in-Subject-clause-stands
unfolding column is_front_of dashed
returns-in-Subject-clause-stands c = search (rules, stands_of)

pub returns-in-ExecutionContext-clause-stands : goal.returns-in-ExecutionContext-clause-stands
unfolding column is_front_of dashed
returns-in-ExecutionContext-clause-stands c = search (rules, stands_of)

pub returns-in-CallContext-clause-stands : goal.returns-in-CallContext-clause-stands
unfolding column is_front_of dashed
returns-in-CallContext-clause-stands c = search (rules, stands_of)

pub returns-in-Uid-clause-stands : goal.returns-in-Uid-clause-stands
unfolding column is_front_of dashed
returns-in-Uid-clause-stands c = search (rules, stands_of)

pub returns-in-Gid-clause-stands : goal.returns-in-Gid-clause-stands
unfolding column is_front_of dashed
returns-in-Gid-clause-stands c = search (rules, stands_of)

pub returns-in-Namespace-clause-stands : goal.returns-in-Namespace-clause-stands
unfolding column is_front_of dashed
returns-in-Namespace-clause-stands c = search (rules, stands_of)

pub returns-in-CanCall-clause-stands : goal.returns-in-CanCall-clause-stands
unfolding column is_front_of dashed
returns-in-CanCall-clause-stands c = search (rules, stands_of)

pub returns-in-CanReturn-clause-stands : goal.returns-in-CanReturn-clause-stands
unfolding column is_front_of dashed
returns-in-CanReturn-clause-stands c = search (rules, stands_of)

pub returns-in-CanRead-clause-stands : goal.returns-in-CanRead-clause-stands
unfolding column is_front_of dashed
returns-in-CanRead-clause-stands c = search (rules, stands_of)

pub returns-in-ItemObjects-clause-stands : goal.returns-in-ItemObjects-clause-stands
unfolding column is_front_of dashed
returns-in-ItemObjects-clause-stands c = search (rules, stands_of)

pub returns-in-ObjectContext-clause-stands : goal.returns-in-ObjectContext-clause-stands
unfolding column is_front_of dashed
returns-in-ObjectContext-clause-stands c = search (rules, stands_of)

pub returns-in-CanWrite-clause-stands : goal.returns-in-CanWrite-clause-stands
unfolding column is_front_of dashed
returns-in-CanWrite-clause-stands c = search (rules, stands_of)
