-- What the code computes is the bucket, by definition.
use Rattle.std.proofs.Common.{rules}
use Rattle.file_index.proofs.Steps.{bucket_is, bucket_below}
use Rattle.file_index.proofs.bucket.Goals as goal

pub returns : goal.returns
returns c = search (rules, bucket_is, bucket_below)
