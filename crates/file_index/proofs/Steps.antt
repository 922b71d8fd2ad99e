-- The steps of the code: a byte more in a hash, a link more in a bucket, each from the words as they are read.
use mathlib.Core.Path.{◌≡◌, refl, sym, ap, ◌∙◌}
use mathlib.Core.Bool.{Bool, true, false, cond, ◌||◌}
use mathlib.Core.List.{List}
use Prim.Native.Nat.{ℕ, zero, suc, ◌+◌, ◌*◌, ◌-◌, ◌/◌, ◌%◌, ◌^◌, ◌<◌, ◌≤◌}
use native.Mathlib.Nat.{add_assoc, mul_comm, add-mul, mul_assoc, mul-le-mul, mod-add-mod, div-add-mod, add-mul-mod_self_left}
use native.Mathlib.Omega.{arith}
use lib.Dec.{ltb, leb}
use lib.ListN.{length, get_or, take, drop, set, length-take, length-drop, drop_of_length-le}
use lib.Seq.{get_or-take, get_or-drop}
use mir.Syntax.{w8, w64}
use mir.Val.{Fits}
use borrow.Author.Tests.{eq-eqb, ne_eqb, lt-ltb, le-ltb, lt-leb, le-leb}
use Rattle.paper.specs.Common.{same}
use Rattle.laws.proofs.Tests.{either_right}
use Rattle.laws.proofs.Places.{drop_more}
use Rattle.file_index.specs.Words.{heads_at, buckets, start_at, end_at, hash_at, links_at, links, name_at}
use Rattle.file_index.specs.Words.{start_in, end_in, hash_in, multiplier_in, link_in}
use Rattle.file_index.specs.Buckets.{multipliers, hashes, spread, bucket_size, hash_from, hash_of, two_at, bucket_of, is_name, turn_of}
use Rattle.file_index.specs.Buckets.{way_end_from, way_end, Within, number_of, numbers_in, word_of, inserted_at}
use Rattle.file_index.specs.declared.names.Place.{Place}
use Rattle.file_index.specs.declared.names.Place.TheVariants.{Found, Free}

-- ---- the hash

pub product_below : (h m : ℕ) → h < hashes → h * (m % multipliers) ≤ hashes * multipliers
product_below h m l = mul-le-mul {n₁ = h} {m₁ = m % multipliers} {n₂ = hashes} {m₂ = multipliers} (omega arith) (omega arith)

-- a remainder that is multiplied and added to may stand for its number
digit_mod : (x s b k : ℕ) → (x % k * s + b) % k ≡ (x * s + b) % k
digit_mod x s b k =
    let whole : x * s + b ≡ x % k * s + b + k * (x / k * s) =
    ap (λ z. z * s + b) (sym (div-add-mod x k)) ∙ ap (λ z. z + b) (add-mul (k * (x / k)) (x % k) s ∙ ap (λ z. z + x % k * s) (mul_assoc k (x / k) s)) ∙ last (k * (x / k * s)) (x % k * s) b in
    sym (ap (λ z. z % k) whole ∙ add-mul-mod_self_left (x % k * s + b) k (x / k * s))
  where
    last : (u v w : ℕ) → u + v + w ≡ v + w + u
    last u v w = omega arith

-- two digits are one of the multiplier's square
two_digits : (h s a b k : ℕ) → ((h * s + a) % k * s + b) % k ≡ (h * (s * s % k) + (a * s + b)) % k
two_digits h s a b k =
    digit_mod (h * s + a) s b k
    ∙ ap (λ z. z % k) (ap (λ z. z + b) (add-mul (h * s) a s ∙ ap (λ z. z + a * s) (mul_assoc h s s)) ∙ add_assoc (h * (s * s)) (a * s) b)
    ∙ ap (λ z. (z + (a * s + b)) % k) (mul_comm h (s * s))
    ∙ sym (digit_mod (s * s) h (a * s + b) k)
    ∙ ap (λ z. (z + (a * s + b)) % k) (mul_comm (s * s % k) h)

-- four digits are two of the square
four_digits : (h s a b c d k : ℕ)
    → ((((h * s + a) % k * s + b) % k * s + c) % k * s + d) % k
    ≡ (h * (s * s % k * (s * s % k) % k) % k + (a * s + b) * (s * s % k) % k + (c * s + d)) % k
four_digits h s a b c d k =
    two_digits (((h * s + a) % k * s + b) % k) s c d k
    ∙ ap (λ z. (z * (s * s % k) + (c * s + d)) % k) (two_digits h s a b k)
    ∙ two_digits h (s * s % k) (a * s + b) (c * s + d) k
    ∙ sums (h * (s * s % k * (s * s % k) % k)) ((a * s + b) * (s * s % k)) (c * s + d)
  where
    sums : (u v w : ℕ) → (u + (v + w)) % k ≡ (u % k + v % k + w) % k
    sums u v w =
        sym (ap (λ z. z % k) (add_assoc (u % k) (v % k) w) ∙ mod-add-mod u k (v % k + w) ∙ ap (λ z. z % k) (turned u (v % k) w)
        ∙ mod-add-mod v k (u + w) ∙ ap (λ z. z % k) (turned v u w))
      where
        turned : (x y z : ℕ) → x + (y + z) ≡ y + (x + z)
        turned x y z = omega arith

pub product_fits : (a b : ℕ) → a < hashes → b < hashes → Fits w64 (a * b)
product_fits a b l k =
    let most : a * b ≤ 4294967295 * 4294967295 = mul-le-mul {n₁ = a} {m₁ = b} {n₂ = 4294967295} {m₂ = 4294967295} (omega arith) (omega arith) in
    omega (arith, most)

pub hash_below : (x : ℕ) → x % hashes < hashes
hash_below x = omega arith

pub step_below : (m : ℕ) → m % multipliers < hashes
step_below m = omega arith

pub byte_product : (a step : ℕ) → Fits w8 a → step < multipliers → a * step ≤ 255 * 1048576
byte_product a step l k = mul-le-mul {n₁ = a} {m₁ = step} {n₂ = 255} {m₂ = 1048576} (omega arith) (omega arith)

four_opened : (m : ℕ) (name : List ℕ) (h i : ℕ) → i + 4 ≤ length name
    → hash_from m h (drop i name)
    ≡ hash_from m (((((h * (m % multipliers) + get_or name i 0) % hashes * (m % multipliers) + get_or name (i + 1) 0) % hashes * (m % multipliers)
    + get_or name (i + 2) 0) % hashes * (m % multipliers) + get_or name (i + 3) 0) % hashes) (drop (i + 4) name)
unfolding hash_from
four_opened m name h i l =
    let two : i + 1 + 1 ≡ i + 2 = omega arith in
    let three : i + 2 + 1 ≡ i + 3 = omega arith in
    let four : i + 3 + 1 ≡ i + 4 = omega arith in
    rw (
      drop_more name i (omega arith),
      drop_more name (i + 1) (omega arith),
      two,
      drop_more name (i + 2) (omega arith),
      three,
      drop_more name (i + 3) (omega arith),
      four,
    )

module _ (m : ℕ) (name : List ℕ) (h i : ℕ) (inv : hash_from m h (drop i name) ≡ hash_of m name) where
  pub hash_again : i < length name → hash_from m ((h * (m % multipliers) + get_or name i 0) % hashes) (drop (i + 1) name) ≡ hash_of m name
  unfolding hash_from
  hash_again l = rw (← inv, drop_more name i l)

  pub four_more : (x y : ℕ) → i + 4 ≤ length name → x ≡ two_at (m % multipliers) name i → y ≡ two_at (m % multipliers) name (i + 2)
      → hash_from m ((h * (m % multipliers * (m % multipliers) % hashes * (m % multipliers * (m % multipliers) % hashes) % hashes) % hashes
      + x * (m % multipliers * (m % multipliers) % hashes) % hashes + y) % hashes) (drop (i + 4) name) ≡ hash_of m name
  four_more x y l e f =
      let three : i + 2 + 1 ≡ i + 3 = omega arith in
      let last : y ≡ get_or name (i + 2) 0 * (m % multipliers) + get_or name (i + 3) 0 =
      f ∙ ap (λ z. get_or name (i + 2) 0 * (m % multipliers) + get_or name z 0) three in
      let digits : _ ≡ _ =
      four_digits h (m % multipliers) (get_or name i 0) (get_or name (i + 1) 0) (get_or name (i + 2) 0) (get_or name (i + 3) 0) hashes in
      rw (e, last, ← digits, ← four_opened m name h i l) inv

  pub hash_ends : length name ≤ i → h ≡ hash_of m name
  unfolding hash_from
  hash_ends l = rw (drop_of_length-le name l) at inv

-- the bytes behind the last four
module _ (m : ℕ) (name : List ℕ) (h i from : ℕ) (inv : hash_from m h (drop (from + i) name) ≡ hash_of m name) where
  abbrev tail : List ℕ
  tail = take (length name - from) (drop from name)

  tail_long : from ≤ length name → length tail ≡ length name - from
  tail_long l = rw (length-take, length-drop) (omega arith)

  pub tail_again : from ≤ length name → i < length tail
      → hash_from m ((h * (m % multipliers) + get_or tail i 0) % hashes) (drop (from + (i + 1)) name) ≡ hash_of m name
  tail_again l k =
      let here : get_or tail i 0 ≡ get_or name (from + i) 0 = get_or-take (length name - from) (drop from name) i 0 (omega (arith, k, tail_long l)) ∙ get_or-drop from name i 0 in
      let next : from + (i + 1) ≡ from + i + 1 = omega arith in
      rw (here, next) (hash_again m name h (from + i) inv (omega (arith, k, tail_long l)))

  pub tail_ends : from ≤ length name → length tail ≤ i → h ≡ hash_of m name
  tail_ends l k = hash_ends m name h (from + i) inv (omega (arith, k, tail_long l))

pub fours_within : (n : ℕ) → n / 4 * 4 ≤ n
fours_within n = omega arith

pub fours_again : (m : ℕ) (name : List ℕ) (h k x y : ℕ) → hash_from m h (drop (4 * k) name) ≡ hash_of m name → k < length name / 4
    → x ≡ two_at (m % multipliers) name (4 * k) → y ≡ two_at (m % multipliers) name (4 * k + 2)
    → hash_from m ((h * (m % multipliers * (m % multipliers) % hashes * (m % multipliers * (m % multipliers) % hashes) % hashes) % hashes
    + x * (m % multipliers * (m % multipliers) % hashes) % hashes + y) % hashes) (drop (4 * (k + 1)) name) ≡ hash_of m name
fours_again m name h k x y inv l e f =
    let next : 4 * (k + 1) ≡ 4 * k + 4 = omega arith in
    rw next (four_more m name h (4 * k) inv x y (omega arith) e f)

pub bucket_is : (h : ℕ) → h % hashes * spread % hashes / bucket_size ≡ bucket_of h
unfolding bucket_of
bucket_is h = refl

pub bucket_below : (h : ℕ) → bucket_of h < buckets
unfolding bucket_of
bucket_below h = omega arith

-- ---- one name of a bucket

module _ (t ix : List ℕ) (h : ℕ) (x : List ℕ) (k : ℕ) where
  pub other_hash : (hash_in ix k ≡ h → ⊥) → false ≡ is_name t ix h x k
  other_hash d = rw (ne_eqb _ _ d)

  pub same_hash : (s : List ℕ) (r : Bool) → hash_in ix k ≡ h → s ≡ take (end_in ix k - start_in ix k) (drop (start_in ix k) t) → r ≡ same s x → r ≡ is_name t ix h x k
  same_hash s r e f g = rw (eq-eqb _ _ e, ← f) g

-- ---- the way through a bucket

module _ (x : List ℕ) (d : ℕ) where
  pub no_turn : length x ≤ d / 4 → 0 ≡ turn_of x d
  unfolding turn_of
  no_turn l = rw (le-leb _ _ l)

  pub its_turn : d / 4 < length x → get_or x (length x - 1 - d / 4) 0 / 2 ^ (d % 4 * 2) % 4 ≡ turn_of x d
  unfolding turn_of
  its_turn l = rw (lt-leb _ _ l)

pub turn_below : (m : ℕ) → m % 4 < links
turn_below m = omega arith

module _ (t ix : List ℕ) (n h : ℕ) (x : List ℕ) where
  abbrev place : ℕ → ℕ → ℕ → ℕ → Place
  place = way_end_from t ix n h x

  pub at_head : (b : ℕ) → b ≡ bucket_of h → place (n - 0) 0 0 (heads_at + b) ≡ way_end t ix n h x
  at_head b e = let z : n - 0 ≡ n = omega arith in rw (e, z)

  -- where there is no link, the way ends
  way_ends : (fuel d last w : ℕ) → (leb (link_in ix w) last || ltb n (link_in ix w)) ≡ true → place fuel d last w ≡ Free w
  unfolding way_end_from
  way_ends zero d last w e = refl
  way_ends (suc fuel) d last w e = rw e

  pub way_low : (fuel d last w : ℕ) → link_in ix w ≤ last → place fuel d last w ≡ Free w
  way_low fuel d last w l = way_ends fuel d last w (rw (le-leb _ _ l) refl)

  -- one step
  pub way_on : (fuel d last w : ℕ) → last < link_in ix w → link_in ix w ≤ n → place (suc fuel) d last w ≡
      cond (is_name t ix h x (link_in ix w - 1)) (Found (link_in ix w - 1))
      (place fuel (d + 1) (link_in ix w) (name_at (link_in ix w - 1) + links_at + turn_of x d))
  unfolding way_end_from
  way_on fuel d last w l m = rw (lt-leb _ _ l, le-ltb _ _ m)

  module _ (d last w : ℕ) (inv : place (n - d) d last w ≡ way_end t ix n h x) where
    pub free_low : link_in ix w ≤ last → Free w ≡ way_end t ix n h x
    free_low l = sym (way_low (n - d) d last w l) ∙ inv

    pub free_past : n < link_in ix w → Free w ≡ way_end t ix n h x
    free_past l = sym (way_ends (n - d) d last w (either_right (leb (link_in ix w) last) (ltb n (link_in ix w)) (lt-ltb _ _ l))) ∙ inv

    module _ (low : d ≤ last) (l : last < link_in ix w) (m : link_in ix w ≤ n) (r : Bool) (told : r ≡ is_name t ix h x (link_in ix w - 1)) where
      stepped : cond r (Found (link_in ix w - 1))
          (place (n - (d + 1)) (d + 1) (link_in ix w) (name_at (link_in ix w - 1) + links_at + turn_of x d)) ≡ way_end t ix n h x
      stepped =
          let e : suc (n - (d + 1)) ≡ n - d = omega arith in
          rw told (sym (way_on (n - (d + 1)) d last w l m) ∙ (rw e inv))

      pub name_found : r ≡ true → Found (link_in ix w - 1) ≡ way_end t ix n h x
      name_found f = rw f at stepped

      pub name_passed : (turn : ℕ) → r ≡ false → turn ≡ turn_of x d
          → place (n - (d + 1)) (d + 1) (link_in ix w) (name_at (link_in ix w - 1) + links_at + turn) ≡ way_end t ix n h x
      name_passed turn f e = rw e (rw f at stepped)

pub head_within : (b : ℕ) → b < buckets → heads_at + b < name_at 0
head_within b l = omega arith

pub within_free : (n last w : ℕ) → w < name_at last → last ≤ n → Within n (Free w)
unfolding Within
within_free n last w l m = omega arith

pub within_found : (n last i : ℕ) → last < i → i ≤ n → Within n (Found (i - 1))
unfolding Within
within_found n last i l m = omega arith

module _ (t ix : List ℕ) (n h : ℕ) (x : List ℕ) (hashed : h ≡ hash_of (multiplier_in ix) x) where
  its_number : number_of n (way_end t ix n h x) ≡ numbers_in t ix n x
  unfolding numbers_in
  its_number = rw hashed

  module _ (p : Place) (told : p ≡ way_end t ix n h x) where
    pub number_found : (k : ℕ) → p ≡ Found k → k ≡ numbers_in t ix n x
    unfolding number_of
    number_found k e = rw (← told, e) at its_number

    module _ (w : ℕ) (e : p ≡ Free w) where
      pub number_free : n ≡ numbers_in t ix n x
      unfolding number_of
      number_free = rw (← told, e) at its_number

      pub word_free : word_of (way_end t ix n h x) ≡ w
      unfolding word_of
      word_free = rw (← told, e)

    pub found_below : (k : ℕ) → Within n p → p ≡ Found k → k < n
    unfolding Within
    found_below k i e = rw e at i

    pub free_before : (w : ℕ) → Within n p → p ≡ Free w → w < name_at n
    unfolding Within
    free_before w i e = rw e at i

-- ---- a name more

pub inserted_is : (ix : List ℕ) (n w start end h : ℕ)
    → set (set (set (set ix (name_at n + start_at) start) (name_at n + end_at) end) (name_at n + hash_at) h) w (n + 1) ≡ inserted_at ix n w start end h
unfolding inserted_at
inserted_is ix n w start end h = refl
