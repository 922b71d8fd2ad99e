-- What is measured is no longer than a number can be.
use Rattle.filled_size.proofs.Most.{filled_counts}
use Rattle.filled_size.proofs.filled_size.Goals as goal

pub put_filled-requires : goal.put_filled-requires
put_filled-requires c = filled_counts c.args.file c.requires.0 c.requires.1
