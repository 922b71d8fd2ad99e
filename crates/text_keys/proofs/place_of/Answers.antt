-- The loop: the places that are left find what all of them find.
use Rattle.std.proofs.Common.{rules}
use Rattle.text_keys.proofs.Looks.{place_found, place_again, place_spent}
use Rattle.text_keys.proofs.place_of.Goals as goal

pub returns-then-begins_with : goal.returns-then-begins_with
returns-then-begins_with c = search (rules, place_found)

pub loop-place-preserved : goal.loop-place-preserved
loop-place-preserved c = search (rules, place_again)

pub returns : goal.returns
returns c = search (rules, place_spent)
