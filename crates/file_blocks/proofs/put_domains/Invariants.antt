-- The loop: the set with the domains that are left is the set with all of them.
use Rattle.std.proofs.Common.{◌≡◌, ◌-◌, length, drop}
use Rattle.file_blocks.specs.Written.{with_words}
use Rattle.file_blocks.proofs.put_domains.Given as goal

abbrev pub invariant-loop-word : goal.invariant-loop-word
invariant-loop-word l = (length l.domains ≡ length l.initial.domains) × (with_words l.n l.domains (drop l.word-index l.s) ≡ with_words l.n l.initial.domains l.s)
