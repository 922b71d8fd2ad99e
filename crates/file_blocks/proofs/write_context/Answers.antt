-- Where no key is found, one `all` for anyone; else what stands before the first key is nothing of the context.
use Rattle.std.proofs.Common.{rules}
use Rattle.file_blocks.proofs.Keys.{keys_few, keys_written, no_key_written}
use Rattle.file_blocks.proofs.write_context.Goals as goal

pub write_found-requires-clause-few : goal.write_found-requires-clause-few
write_found-requires-clause-few c = search (rules, keys_few)

pub returns-in-Some : goal.returns-in-Some
returns-in-Some c = keys_written c.args.part c.in-Some.keys _ _ _ c.in-Some.ensures.0 _ c.write_found.ensures

pub returns-in-None : goal.returns-in-None
returns-in-None c = search (rules, no_key_written)
