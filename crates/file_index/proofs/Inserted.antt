-- What the words say once a name more is in: of that name what was put there, of all others what they said before.
use mathlib.Core.Path.{◌≡◌, ◌∙◌}
use mathlib.Core.List.{List}
use Prim.Native.Nat.{ℕ, ◌+◌, ◌<◌, ◌≤◌}
use native.Mathlib.Omega.{arith}
use lib.ListN.{length, get_or, set, length-set}
use lib.Seq.{get_or-set_same, get_or-set_other}
use Rattle.file_index.specs.Words.{start_at, end_at, hash_at, links_at, name_at, multiplier_in, link_in, start_in, end_in, hash_in}
use Rattle.file_index.specs.Buckets.{is_name, inserted_at, LinkOf}
use Rattle.file_index.proofs.Links.{link_before, link_first, link_apart}

module _ (ix : List ℕ) (n w start end h : ℕ) where
  -- the words as the stores follow one another
  abbrev started : List ℕ
  started = set ix (name_at n + start_at) start

  abbrev ended : List ℕ
  ended = set started (name_at n + end_at) end

  abbrev hashed : List ℕ
  hashed = set ended (name_at n + hash_at) h

  but_link : (i : ℕ) → (i ≡ w → ⊥) → get_or (inserted_at ix n w start end h) i 0 ≡ get_or hashed i 0
  unfolding inserted_at
  but_link i d = get_or-set_other hashed w i (n + 1) 0 d

  -- any word but that of the link and those of name n
  kept : (i : ℕ) → (i ≡ w → ⊥) → ((j : ℕ) → j < links_at → i ≡ name_at n + j → ⊥) → get_or (inserted_at ix n w start end h) i 0 ≡ get_or ix i 0
  kept i d f =
      but_link i d
      ∙ get_or-set_other ended (name_at n + hash_at) i h 0 (f hash_at (omega arith))
      ∙ get_or-set_other started (name_at n + end_at) i end 0 (f end_at (omega arith))
      ∙ get_or-set_other ix (name_at n + start_at) i start 0 (f start_at (omega arith))

  pub kept_before : (i : ℕ) → i < name_at n → (i ≡ w → ⊥) → get_or (inserted_at ix n w start end h) i 0 ≡ get_or ix i 0
  kept_before i l d = kept i d (λ j m e. omega arith)

  pub kept_behind : (i : ℕ) → name_at n + links_at ≤ i → (i ≡ w → ⊥) → get_or (inserted_at ix n w start end h) i 0 ≡ get_or ix i 0
  kept_behind i l d = kept i d (λ j m e. omega arith)

  module _ (last : ℕ) (at : LinkOf last w) where
    pub multiplier_kept : multiplier_in (inserted_at ix n w start end h) ≡ multiplier_in ix
    multiplier_kept = kept_before 0 (omega arith) (λ (e : 0 ≡ w). omega (arith, link_first last w at))

    name_kept : (k i : ℕ) → k < n → i < links_at → get_or (inserted_at ix n w start end h) (name_at k + i) 0 ≡ get_or ix (name_at k + i) 0
    name_kept k i l m = kept_before (name_at k + i) (omega arith) (link_apart last w k i at m)

    pub is_name_kept : (t : List ℕ) (g : ℕ) (x : List ℕ) (k : ℕ) → k < n → is_name t (inserted_at ix n w start end h) g x k ≡ is_name t ix g x k
    is_name_kept t g x k l = rw (name_kept k start_at l (omega arith), name_kept k end_at l (omega arith), name_kept k hash_at l (omega arith))

    module _ (room : name_at (n + 1) ≤ length ix) (few : last ≤ n) where
      pub link_put : link_in (inserted_at ix n w start end h) w ≡ n + 1
      unfolding inserted_at
      link_put = get_or-set_same hashed w (n + 1) 0 (simp length-set (omega (arith, link_before last w at)))

      put : (i : ℕ) → i < links_at → get_or (inserted_at ix n w start end h) (name_at n + i) 0 ≡ get_or hashed (name_at n + i) 0
      put i l = but_link (name_at n + i) (link_apart last w n i at l)

      pub hash_put : hash_in (inserted_at ix n w start end h) n ≡ h
      hash_put = put hash_at (omega arith) ∙ get_or-set_same ended (name_at n + hash_at) h 0 (simp length-set (omega arith))

      but_hash : (i : ℕ) → i < hash_at → get_or (inserted_at ix n w start end h) (name_at n + i) 0 ≡ get_or ended (name_at n + i) 0
      but_hash i l =
          put i (omega arith)
          ∙ get_or-set_other ended (name_at n + hash_at) (name_at n + i) h 0 (λ (e : name_at n + i ≡ name_at n + hash_at). omega arith)

      pub end_put : end_in (inserted_at ix n w start end h) n ≡ end
      end_put = but_hash end_at (omega arith) ∙ get_or-set_same started (name_at n + end_at) end 0 (simp length-set (omega arith))

      pub start_put : start_in (inserted_at ix n w start end h) n ≡ start
      start_put =
          but_hash start_at (omega arith)
          ∙ get_or-set_other started (name_at n + end_at) (name_at n + start_at) end 0 (λ (e : name_at n + start_at ≡ name_at n + end_at). omega arith)
          ∙ get_or-set_same ix (name_at n + start_at) start 0 (omega arith)
