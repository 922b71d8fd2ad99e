-- The loop: the places that are left find what all of them find.
use Rattle.std.proofs.Common.{◌≡◌, drop}
use Rattle.paper.specs.Page.{place_of}
use Rattle.text_keys.proofs.place_of.Given as goal

abbrev pub invariant-loop-place : goal.invariant-loop-place
invariant-loop-place l = place_of (drop l.place-index l.places) l.l ≡ place_of l.places l.l
