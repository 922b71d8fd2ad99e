-- A context and its 20 words, read back both ways.
use mathlib.Core.Path.{◌≡◌, refl, sym, ap, ◌∙◌}
use mathlib.Core.Bool.{Bool, true, false, cond}
use mathlib.Core.List.{List, [], ◌∷◌, map}
use mathlib.Core.Logic.{dite}
use Prim.Native.Nat.{ℕ, zero, suc, ◌+◌, ◌-◌, ◌<◌, ◌≤◌}
use native.Mathlib.Decide.{dec_lt}
use native.Mathlib.Numerals.{add-one}
use native.Mathlib.Omega.{arith}
use borrow.Author.Tests.{eqb-true, ltb-true, ltb-false, leb-true, eq-eqb, lt-ltb, le-ltb, le-leb}
use lib.Dec.{eqb, ltb, leb, leb-zero}
use lib.ListN.{length, get_or, take, drop, length-map, get_or-map}
use Rattle.paper.specs.Limits.{most_elements, most_members}
use Rattle.paper.specs.Common.{all_of}
use Rattle.paper.specs.Scalars.{Sort, anyone, variable, root, user, sort_number}
use Rattle.paper.specs.Policy.{Element, all, fn, any_in, Context}
use Rattle.paper.specs.Table.{context_size, namespace_at, elements_at, first_domain_word, gid_at, gid_sorts, uid_at, uid_sorts}
use Rattle.paper.specs.Table.{padded, element_word, context_words, element_in, sort_in, context_in, element_listed, context_fits, function_count, subject_domain_count}
use Rattle.laws.proofs.Tests.{ltb_shifted, both_true, both_left, both_right, up_to_at, up_to_all}
use Rattle.laws.proofs.Stretches.{Stands, stands_word, stands_right, stands_more, stands_taken, length_taken, taken_stretch, padded_front, padded_zero, padded_stands}
use Rattle.laws.proofs.Stretches.{length_padded}
use Rattle.laws.proofs.Counting.{all_of_at, all_of_each}
use Rattle.laws.proofs.Elements.{word_function, word_domain}
use Rattle.laws_table.specs.Proper.{element_below, is_gid_sort, proper_context}

-- ---- elements and sorts

element_written : (w : ℕ) → element_word (element_in w) ≡ w
unfolding element_word element_in
element_written zero = refl
element_written (suc f) = go (ltb (suc f) first_domain_word) refl
  where
    go : (t : Bool) → ltb (suc f) first_domain_word ≡ t → element_word (cond t (fn f) (any_in (suc f - first_domain_word))) ≡ suc f
    go true e = add-one f
    go false e = let l : first_domain_word ≤ suc f = ltb-false (suc f) first_domain_word e in omega arith

-- among functions within their limit no function has the word of a domain
element_read : (n m : ℕ) → n ≤ most_members → (e : Element) → element_below n m e ≡ true → element_in (element_word e) ≡ e
unfolding element_below element_word
element_read n m few all h = unfold element_in in refl
element_read n m few (fn f) h =
    let l : f < n = ltb-true f n h in word_function (f + 1) (omega arith) (omega arith) ∙ ap fn (omega arith)
element_read n m few (any_in d) h = word_domain (first_domain_word + d) (omega arith) ∙ ap any_in (omega arith)

-- the test of a word, among so many functions and subject domains
abbrev listed : ℕ → ℕ → ℕ → Bool
listed n m w = cond (ltb w first_domain_word) (leb w n) (ltb w (first_domain_word + m))

element_below_lem : (n m w : ℕ) → element_below n m (element_in w) ≡ listed n m w
unfolding element_below element_in
element_below_lem n m zero = sym (leb-zero n)
element_below_lem n m (suc f) = go (ltb (suc f) first_domain_word) refl
  where
    go : (t : Bool) → ltb (suc f) first_domain_word ≡ t →
        element_below n m (cond t (fn f) (any_in (suc f - first_domain_word))) ≡ cond t (leb (suc f) n) (ltb (suc f) (first_domain_word + m))
    go true e = refl
    go false e = ltb_shifted first_domain_word (suc f) m (ltb-false (suc f) first_domain_word e)

maps_back : {A B : Type 0} (f : B → A) (g : A → B) → ((x : A) → f (g x) ≡ x) → (xs : List A) → map f (map g xs) ≡ xs
maps_back f g h [] = refl
maps_back f g h (x ∷ xs) = let p : f (g x) ≡ x = h x in let q : map f (map g xs) ≡ xs = maps_back f g h xs in cc

-- ---- patterns that are read back as they were written
abbrev pub ReadBack : Context → Type 0
ReadBack c = map element_in (map element_word c.pattern) ≡ c.pattern

pub elements_read : (n m : ℕ) → n ≤ most_members → (pattern : List Element) → all_of (element_below n m) pattern ≡ true → map element_in (map element_word pattern) ≡ pattern
unfolding all_of
elements_read n m few [] h = refl
elements_read n m few (e ∷ pattern) h =
    let p : element_in (element_word e) ≡ e = element_read n m few e (both_left (element_below n m e) (all_of (element_below n m) pattern) h) in
    let q : map element_in (map element_word pattern) ≡ pattern = elements_read n m few pattern (both_right (element_below n m e) (all_of (element_below n m) pattern) h) in
    cc

pub proper_read_back : (n m : ℕ) (c : Context) → n ≤ most_members → proper_context n m c ≡ true → ReadBack c
unfolding proper_context
proper_read_back n m c few h = elements_read n m few c.pattern (search (both_left, both_right))

pub words_read_back : (ws : List ℕ) (at : ℕ) → ReadBack (context_in ws at)
unfolding context_in
words_read_back ws at = ap (map element_in) (maps_back element_word element_in element_written (take (get_or ws at 0) (drop (at + elements_at) ws)))

pub sort_read : (s : Sort) → sort_in (sort_number s) ≡ s
unfolding sort_number sort_in
sort_read anyone = refl
sort_read variable = refl
sort_read root = refl
sort_read user = refl

sort_written : (w : ℕ) → w < uid_sorts → sort_number (sort_in w) ≡ w
unfolding sort_number sort_in
sort_written zero h = refl
sort_written (suc zero) h = refl
sort_written (suc (suc zero)) h = refl
sort_written (suc (suc (suc zero))) h = refl
sort_written (suc (suc (suc (suc w)))) h = absurd (omega arith)

gid_sort : (w : ℕ) → w < gid_sorts → is_gid_sort (sort_in w) ≡ true
unfolding is_gid_sort sort_number sort_in
gid_sort zero h = refl
gid_sort (suc zero) h = refl
gid_sort (suc (suc w)) h = absurd (omega arith)

gid_number : (s : Sort) → is_gid_sort s ≡ true → sort_number s < gid_sorts
unfolding is_gid_sort
gid_number s h = ltb-true _ _ h

uid_number : (s : Sort) → sort_number s < uid_sorts
unfolding sort_number
uid_number anyone = omega arith
uid_number variable = omega arith
uid_number root = omega arith
uid_number user = omega arith

pub length_context : (c : Context) → length c.pattern ≤ most_elements → length (context_words c) ≡ context_size
unfolding context_words
length_context c few = omega (arith, length_padded most_elements (map element_word c.pattern) (rw length-map few))

pub context_few : (n m : ℕ) (c : Context) → proper_context n m c ≡ true → length c.pattern ≤ most_elements
unfolding proper_context
context_few n m c h = leb-true _ _ (search (both_left, both_right))

-- what `context_fits` asks
record Fitting (ws : List ℕ) (at : ℕ) : Type 0 where
  some : 1 ≤ get_or ws at 0
  few : get_or ws at 0 ≤ most_elements
  uid : get_or ws (at + uid_at) 0 < uid_sorts
  gid : get_or ws (at + gid_at) 0 < gid_sorts
  namespace : get_or ws (at + namespace_at) 0 < gid_sorts
  used : (i : ℕ) → i < get_or ws at 0 → element_listed ws (get_or ws (at + elements_at + i) 0) ≡ true
  past : (i : ℕ) → get_or ws at 0 ≤ i → i < most_elements → get_or ws (at + elements_at + i) 0 ≡ 0

module _ (ws : List ℕ) (at : ℕ) where
  fitting : context_fits ws at ≡ true → Fitting ws at
  unfolding context_fits
  fitting h =
      let few : get_or ws at 0 ≤ most_elements = leb-true _ _ (search (both_left, both_right) depth 7) in
      let element :
      (i : ℕ) → i < most_elements → cond (ltb i (get_or ws at 0)) (element_listed ws (get_or ws (at + elements_at + i) 0)) (eqb (get_or ws (at + elements_at + i) 0) 0) ≡ true =
      up_to_at _ most_elements (search (both_left, both_right) depth 7) in
      record {
        some = leb-true _ _ (search (both_left, both_right) depth 7);
        few = few;
        uid = ltb-true _ _ (search (both_left, both_right) depth 7);
        gid = ltb-true _ _ (search (both_left, both_right) depth 7);
        namespace = ltb-true _ _ (search (both_left, both_right) depth 7);
        used = λ i l. rw (lt-ltb i (get_or ws at 0) l) at (element i (omega arith));
        past = λ i p q. eqb-true (get_or ws (at + elements_at + i) 0) 0 (rw (le-ltb i (get_or ws at 0) p) at (element i q));
      }

  fitted : Fitting ws at → context_fits ws at ≡ true
  unfolding context_fits
  fitted f =
      let used : (i : ℕ) → i < get_or ws at 0 → element_listed ws (get_or ws (at + elements_at + i) 0) ≡ true = f.used in
      let past : (i : ℕ) → get_or ws at 0 ≤ i → i < most_elements → get_or ws (at + elements_at + i) 0 ≡ 0 = f.past in
      both_true _ _
      (both_true _ _
      (both_true _ _
      (both_true _ _
      (both_true _ _ (le-leb _ _ f.some) (le-leb _ _ f.few))
      (lt-ltb _ _ f.uid))
      (lt-ltb _ _ f.gid))
      (lt-ltb _ _ f.namespace))
      (up_to_all _ most_elements (λ i q. dite (dec_lt i (get_or ws at 0))
      (λ (l : i < get_or ws at 0). rw (lt-ltb i (get_or ws at 0) l) (used i l))
      (λ (l : ¬ (i < get_or ws at 0)). rw (le-ltb i (get_or ws at 0) (omega arith)) (eq-eqb (get_or ws (at + elements_at + i) 0) 0 (past i (omega arith) q)))))

  pub context_read : (c : Context) → at + context_size ≤ length ws → length c.pattern ≤ most_elements → ReadBack c → Stands ws at (context_words c) → context_in ws at ≡ c
  unfolding context_words context_in
  context_read c room few back s =
      let n : get_or ws at 0 ≡ length c.pattern = stands_word ws at 0 at _ s (omega arith) (omega arith) in
      let u : get_or ws (at + uid_at) 0 ≡ sort_number c.uid = s.reads 1 (omega arith) in
      let g : get_or ws (at + gid_at) 0 ≡ sort_number c.gid = s.reads 2 (omega arith) in
      let m : get_or ws (at + namespace_at) 0 ≡ sort_number c.namespace = s.reads 3 (omega arith) in
      let body : Stands ws (at + elements_at) (padded most_elements (map element_word c.pattern)) = stands_right ws at (at + elements_at) (_ ∷ _ ∷ _ ∷ _ ∷ []) _ refl s in
      let t : take (length c.pattern) (drop (at + elements_at) ws) ≡ map element_word c.pattern =
      taken_stretch ws (at + elements_at) _ _ (length-map c.pattern element_word) (omega arith) (padded_front ws (at + elements_at) most_elements _ body) in
      rw (n, u, g, m, t, back, sort_read c.uid, sort_read c.gid, sort_read c.namespace)

  -- the words of the pattern
  abbrev pattern_words : List ℕ
  pattern_words = take (get_or ws at 0) (drop (at + elements_at) ws)

  module _ (room : at + context_size ≤ length ws) where
    pattern_length : get_or ws at 0 ≤ most_elements → length (map element_in pattern_words) ≡ get_or ws at 0
    pattern_length few = length-map pattern_words element_in ∙ length_taken ws (at + elements_at) (get_or ws at 0) (omega arith)

    pattern_word : (i : ℕ) → i < length (map element_in pattern_words)
        → element_below (function_count ws) (subject_domain_count ws) (get_or (map element_in pattern_words) i (element_in 0)) ≡ element_listed ws (get_or ws (at + elements_at + i) 0)
    unfolding element_listed
    pattern_word i l =
        rw (get_or-map element_in pattern_words i 0, element_below_lem (function_count ws) (subject_domain_count ws) (get_or pattern_words i 0))
        (ap (listed (function_count ws) (subject_domain_count ws)) (sym ((stands_taken ws (at + elements_at) (get_or ws at 0)).reads i (rw length-map at l))))

    pub context_stands : context_fits ws at ≡ true → Stands ws at (context_words (context_in ws at))
    unfolding context_words context_in
    context_stands h =
        let f : Fitting ws at = fitting h in
        let n : length (map element_in pattern_words) ≡ get_or ws at 0 = pattern_length f.few in
        let u : sort_number (sort_in (get_or ws (at + uid_at) 0)) ≡ get_or ws (at + uid_at) 0 = sort_written (get_or ws (at + uid_at) 0) f.uid in
        let g : sort_number (sort_in (get_or ws (at + gid_at) 0)) ≡ get_or ws (at + gid_at) 0 = sort_written (get_or ws (at + gid_at) 0) (omega (arith, f.gid)) in
        let m : sort_number (sort_in (get_or ws (at + namespace_at) 0)) ≡ get_or ws (at + namespace_at) 0 = sort_written (get_or ws (at + namespace_at) 0) (omega (arith, f.namespace)) in
        rw (n, u, g, m, maps_back element_word element_in element_written pattern_words)
        (stands_more ws at (at + uid_at) _ _ refl refl
        (stands_more ws (at + uid_at) (at + gid_at) _ _ (omega arith) refl
        (stands_more ws (at + gid_at) (at + namespace_at) _ _ (omega arith) refl
        (stands_more ws (at + namespace_at) (at + elements_at) _ _ (omega arith) refl
        (padded_stands ws (at + elements_at) most_elements pattern_words (stands_taken ws (at + elements_at) (get_or ws at 0))
        (λ i p q. f.past i (omega (arith, length-map pattern_words element_in)) q))))))

    pub context_proper : context_fits ws at ≡ true → proper_context (function_count ws) (subject_domain_count ws) (context_in ws at) ≡ true
    unfolding proper_context context_in
    context_proper h =
        let f : Fitting ws at = fitting h in
        rw (pattern_length f.few)
        (both_true _ _
        (both_true _ _
        (both_true _ _
        (both_true _ _ (le-leb _ _ f.some) (le-leb _ _ f.few))
        (all_of_each _ (element_in 0) (map element_in pattern_words) (λ i l. pattern_word i l ∙ f.used i (omega (arith, pattern_length f.few)))))
        (gid_sort (get_or ws (at + gid_at) 0) f.gid))
        (gid_sort (get_or ws (at + namespace_at) 0) f.namespace))

    pub context_fits_lem : Stands ws at (context_words (context_in ws at)) → proper_context (function_count ws) (subject_domain_count ws) (context_in ws at) ≡ true → context_fits ws at ≡ true
    unfolding proper_context context_in context_words context_fits
    context_fits_lem s h =
        let n : get_or ws at 0 ≡ length (map element_in pattern_words) = stands_word ws at 0 at _ s (omega arith) (omega arith) in
        let some : 1 ≤ length (map element_in pattern_words) = leb-true _ _ (search (both_left, both_right)) in
        let few : length (map element_in pattern_words) ≤ most_elements = leb-true _ _ (search (both_left, both_right)) in
        let below : all_of (element_below (function_count ws) (subject_domain_count ws)) (map element_in pattern_words) ≡ true = search (both_left, both_right) in
        let gid : is_gid_sort (sort_in (get_or ws (at + gid_at) 0)) ≡ true = search (both_left, both_right) in
        let namespace : is_gid_sort (sort_in (get_or ws (at + namespace_at) 0)) ≡ true = search (both_left, both_right) in
        let u : get_or ws (at + uid_at) 0 ≡ sort_number (sort_in (get_or ws (at + uid_at) 0)) = s.reads 1 (omega arith) in
        let g : get_or ws (at + gid_at) 0 ≡ sort_number (sort_in (get_or ws (at + gid_at) 0)) = s.reads 2 (omega arith) in
        let m : get_or ws (at + namespace_at) 0 ≡ sort_number (sort_in (get_or ws (at + namespace_at) 0)) = s.reads 3 (omega arith) in
        let body : Stands ws (at + elements_at) (padded most_elements (map element_word (map element_in pattern_words))) = stands_right ws at (at + elements_at) (_ ∷ _ ∷ _ ∷ _ ∷ []) _ refl s in
        fitted (record {
          some = omega arith;
          few = omega arith;
          uid = omega (arith, uid_number (sort_in (get_or ws (at + uid_at) 0)));
          gid = omega (arith, gid_number (sort_in (get_or ws (at + gid_at) 0)) gid);
          namespace = omega (arith, gid_number (sort_in (get_or ws (at + namespace_at) 0)) namespace);
          used = λ i l. sym (pattern_word i (omega arith)) ∙ all_of_at _ (element_in 0) _ below i (omega arith);
          past = λ i p q. padded_zero ws (at + elements_at) most_elements _ body i (omega (arith, length-map (map element_in pattern_words) element_word)) q;
        })
