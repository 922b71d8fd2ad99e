-- By what the field names.
use Rattle.std.proofs.Common.{rules}
use Rattle.file_things.proofs.Things.{one_asked, one_put, each_asked, each_put, an_entry_asked, an_entry_put, nothing_put}
use Rattle.file_things.proofs.put_field.Goals as goal

pub put_name-requires : goal.put_name-requires
put_name-requires c = search (rules, one_asked)

pub put_each-requires-clause-writable : goal.put_each-requires-clause-writable
put_each-requires-clause-writable c = search (rules, each_asked)

pub put_entry-requires-clause-writable : goal.put_entry-requires-clause-writable
put_entry-requires-clause-writable c = search (rules, an_entry_asked)

pub returns-in-One : goal.returns-in-One
returns-in-One c = search (rules, one_put)

pub returns-in-Each : goal.returns-in-Each
returns-in-Each c = search (rules, each_put)

pub returns-in-Entry : goal.returns-in-Entry
returns-in-Entry c = search (rules, an_entry_put)

pub returns-in-Nothing : goal.returns-in-Nothing
returns-in-Nothing c = search (rules, nothing_put)
