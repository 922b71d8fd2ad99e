-- Texts put one behind the other: there is room for each where there is room for the whole, and together they are the whole.
use mathlib.Core.Path.{◌≡◌, refl, ◌∙◌}
use mathlib.Core.List.{List, [], ◌++◌, append_assoc, append-nil}
use Prim.Native.Nat.{ℕ}
use Rattle.filled_lines.specs.Sinks.{SinkLaws}

module _ {S : Type 0} {Fits : S → List ℕ → Type 0} {Put : S → List ℕ → S → Type 0} (laws : SinkLaws Fits Put) where
  pub fits_one : (s : S) (x rest : List ℕ) → Fits s (x ++ rest) → Fits s x
  fits_one s x rest h = laws.first s x rest h

  module _ (s : S) (x : List ℕ) (a : S) (p : Put s x a) where
    pub fits_last : (y : List ℕ) → Fits s (x ++ y) → Fits a y
    fits_last y h = laws.rest s a x y h p

    pub put_two : (y : List ℕ) (b : S) → Put a y b → Put s (x ++ y) b
    put_two y b q = laws.both s a b x y p q

    pub fits_two : (y rest : List ℕ) → Fits s (x ++ (y ++ rest)) → Fits a y
    fits_two y rest h = fits_one a y rest (fits_last (y ++ rest) h)

  module _ (s : S) (x : List ℕ) (a : S) (p : Put s x a) (y : List ℕ) (b : S) (q : Put a y b) where
    pub last_of_three : (z : List ℕ) → Fits s (x ++ (y ++ z)) → Fits b z
    last_of_three z h = fits_last a y b q z (fits_last s x a p (y ++ z) h)

    pub put_three : (z : List ℕ) (c : S) → Put b z c → Put s (x ++ (y ++ z)) c
    put_three z c r = put_two s x a p (y ++ z) c (put_two a y b q z c r)

    pub fits_three : (z rest : List ℕ) → Fits s (x ++ (y ++ (z ++ rest))) → Fits b z
    fits_three z rest h = fits_one b z rest (last_of_three (z ++ rest) h)

    module _ (z : List ℕ) (c : S) (r : Put b z c) where
      last_of_four : (u : List ℕ) → Fits s (x ++ (y ++ (z ++ u))) → Fits c u
      last_of_four u h = fits_last b z c r u (last_of_three (z ++ u) h)

      pub fits_four : (u rest : List ℕ) → Fits s (x ++ (y ++ (z ++ (u ++ rest)))) → Fits c u
      fits_four u rest h = fits_one c u rest (last_of_four (u ++ rest) h)

      module _ (u : List ℕ) (d : S) (t : Put c u d) where
        pub last_of_five : (v : List ℕ) → Fits s (x ++ (y ++ (z ++ (u ++ v)))) → Fits d v
        last_of_five v h = fits_last c u d t v (last_of_four (u ++ v) h)

        pub put_five : (v : List ℕ) (e : S) → Put d v e → Put s (x ++ (y ++ (z ++ (u ++ v)))) e
        put_five v e k = put_three (z ++ (u ++ v)) e (put_two b z c r (u ++ v) e (put_two c u d t v e k))

        pub fits_five : (v rest : List ℕ) → Fits s (x ++ (y ++ (z ++ (u ++ (v ++ rest))))) → Fits d v
        fits_five v rest h = fits_one d v rest (last_of_five (v ++ rest) h)

        module _ (v : List ℕ) (e : S) (k : Put d v e) where
          last_of_six : (w : List ℕ) → Fits s (x ++ (y ++ (z ++ (u ++ (v ++ w))))) → Fits e w
          last_of_six w h = fits_last d v e k w (last_of_five (v ++ w) h)

          pub fits_six : (w rest : List ℕ) → Fits s (x ++ (y ++ (z ++ (u ++ (v ++ (w ++ rest)))))) → Fits e w
          fits_six w rest h = fits_one e w rest (last_of_six (w ++ rest) h)

          module _ (w : List ℕ) (f : S) (l : Put e w f) where
            pub last_of_seven : (o : List ℕ) → Fits s (x ++ (y ++ (z ++ (u ++ (v ++ (w ++ o)))))) → Fits f o
            last_of_seven o h = fits_last e w f l o (last_of_six (w ++ o) h)

            pub put_seven : (o : List ℕ) (g : S) → Put f o g → Put s (x ++ (y ++ (z ++ (u ++ (v ++ (w ++ o)))))) g
            put_seven o g i = put_five (v ++ (w ++ o)) g (put_two d v e k (w ++ o) g (put_two e w f l o g i))

-- ---- a text put in a loop: of `whole`, all but `rest` is there

pub record Putting {S : Type 0} (Fits : S → List ℕ → Type 0) (Put : S → List ℕ → S → Type 0) (whole rest : List ℕ) (s m : S) : Type 0 where
  pub front : List ℕ
  pub joins : whole ≡ front ++ rest
  pub enough : Fits s whole
  pub done : Put s front m

module _ {S : Type 0} {Fits : S → List ℕ → Type 0} {Put : S → List ℕ → S → Type 0} (laws : SinkLaws Fits Put) where
  pub begin : (whole rest : List ℕ) (s : S) → whole ≡ rest → Fits s whole → Putting Fits Put whole rest s s
  begin whole rest s e h = record { front = []; joins = e; enough = h; done = laws.nothing s (laws.first s [] whole h) }

  module _ {whole rest : List ℕ} {s m : S} (w : Putting Fits Put whole rest s m) where
    pub finish : rest ≡ [] → Put s whole m
    finish e = let q : whole ≡ w.front = w.joins ∙ rw (e, append-nil) refl in rw q w.done

    module _ (x others : List ℕ) (e : rest ≡ x ++ others) where
      pub room : Fits m x
      room = fits_two laws s w.front m w.done x others (rw (← e, ← w.joins) w.enough)

      pub more : (n : S) → Put m x n → Putting Fits Put whole others s n
      more n p = record { front = w.front ++ x; joins = w.joins ∙ rw (e, append_assoc) refl; enough = w.enough; done = laws.both s m n w.front x w.done p }
