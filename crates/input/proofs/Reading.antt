-- What came first and what came after it, read behind it in the same room, came together.
use Rattle.std.proofs.Common.{◌≡◌, ℕ, ◌+◌, ◌≤◌, List, ◌++◌, length, take, ap, subst, sym, ◌∙◌, length-take-le}
use Rattle.std.proofs.lemmas.List.{take-append-le}
use Rattle.std.proofs.Math.Seq.{take-append-add}
use Rattle.std.specs.Prelude.{Option}
use Rattle.std.specs.Io.KnownBytes.{Consumes}
use Rattle.std.proofs.KnownBytes.{Consumes-trans}
use borrow.Rule.Slice.PartMut.{put_mid, post_of}

front_of : (d n k : ℕ) (xs ys : List ℕ) → d ≤ length xs → n ≤ length ys → take (d + n) (put_mid d k xs ys) ≡ take d xs ++ take n ys
front_of d n k xs ys h l =
    subst (λ (m : ℕ). take (m + n) (put_mid d k xs ys) ≡ take d xs ++ take n ys) (length-take-le d xs h)
    (take-append-add (take d xs) (ys ++ post_of d k xs) n ∙ ap (λ (zs : List ℕ). take d xs ++ zs) (take-append-le n ys (post_of d k xs) l))

pub came_too : (a b c : Option (List ℕ)) (d n k : ℕ) (xs ys : List ℕ) → d ≤ length xs → n ≤ length ys → Consumes a b (take d xs) → Consumes b c (take n ys)
    → Consumes a c (take (d + n) (put_mid d k xs ys))
came_too a b c d n k xs ys h l p q = subst (Consumes a c) (sym (front_of d n k xs ys h l)) (Consumes-trans a b c (take d xs) (take n ys) p q)
