-- By the list of an accepted text, the number of a name is the one that the policy has: the names of a kind in the list are those of the map, in its order.
use mathlib.Core.Path.{◌≡◌, refl, sym, ap, subst, ◌∙◌}
use mathlib.Core.Bool.{Bool, true, false, cond, not, ◌||◌, false≢true}
use mathlib.Core.List.{List, [], ◌∷◌, ◌++◌, flat_map, map, append_assoc}
use Prim.Native.Nat.{ℕ, zero, suc, ◌+◌, ◌-◌, ◌*◌, ◌/◌, ◌≤◌}
use native.Mathlib.Omega.{arith}
use lib.Dec.{eqb}
use lib.ListN.{length, get_or, take, drop, length-append}
use lib.Seq.{take_at, drop_at, take-take, drop-drop, get_or-append-add}
use borrow.Author.Tests.{eqb-true, ne_eqb}
use Rattle.paper.specs.Common.{is_empty, all_of, number_in}
use Rattle.paper.specs.Text.{lines, comma, space, open_bracket, close_bracket}
use Rattle.paper.specs.Lists.{bracketed, inside, spaced, elements_in, elements}
use Rattle.paper.specs.Listing.{object_name, object_members, subject_name, subject_members, principal, subject_of_entry, listing, row_at, bare_is_none}
use Rattle.paper.specs.Page.{Field, no_field, fields, before_first, page_of}
use Rattle.paper.specs.Entries.{fields_at, up_to_next, stretches_from, entries_of, meant, value_at}
use Rattle.paper.specs.Rules.{domains_at, identifiers_at}
use Rattle.paper.specs.Promises.{file_of}
use Rattle.laws.proofs.Tests.{both_left, both_right, same_equal}
use Rattle.laws.proofs.Places.{drop_take}
use Rattle.laws_page.specs.Right.{is_right, stands, needs_block, may_follow, in_listing_order}
use Rattle.laws_page.proofs.Right.{fields_right, fields_in_order, fields_stand}
use Rattle.laws_page.proofs.ListText.{text_of, text_behind, list_text}
use Rattle.laws_file.specs.Accepted.{total, is_filled}
use Rattle.laws_file.proofs.Ordered.{fields_filled}
use Rattle.laws_file.proofs.Reader.{accepted_page}
use Rattle.file_fields.specs.Fields.{list_spaced, well_spaced}
use Rattle.file_read.proofs.Spacing.{all_spaced_well}
use Rattle.file_things.specs.declared.Naming.{Naming}
use Rattle.file_things.specs.declared.Naming.TheVariants.{One, Each, Entry, Nothing}
use Rattle.file_things.specs.Things.{thing, name_thing, element_things, each_thing, naming_at, things_as, things_in, things_of, count_as, thing_count}
use Rattle.file_things.proofs.Words.{by_tests, file_long}
use Rattle.file_listing.proofs.Small.{entry_bytes, principal_bare, subject_follows}
use Rattle.file_find.specs.Number.{names_of_kind, number_of}

-- ---- bytes that stand in the text from a place on

module _ (t : List ℕ) where
  abbrev Stood : ℕ → List ℕ → Type 0
  Stood s x = take (length x) (drop s t) ≡ x

  module _ (s : ℕ) (x y : List ℕ) (h : Stood s (x ++ y)) where
    stood_first : Stood s x
    stood_first =
        let l : take (length x) (take (length (x ++ y)) (drop s t)) ≡ take (length x) (drop s t) =
        take-take (length x) (length (x ++ y)) (drop s t) (omega (arith, length-append x y)) in
        sym l ∙ ap (take (length x)) h ∙ take_at x y (length x) refl

    stood_second : Stood (s + length x) y
    stood_second =
        let n : length (x ++ y) - length x ≡ length y = omega (arith, length-append x y) in
        let a : drop (length x) (take (length (x ++ y)) (drop s t)) ≡ take (length y) (drop (s + length x) t) =
        drop_take (length x) (length (x ++ y)) (drop s t) ∙ rw (n, drop-drop (length x) s t) refl in
        sym a ∙ ap (drop (length x)) h ∙ drop_at x y (length x) refl

  -- elements 2 bytes apart
  abbrev Apart : ℕ → List (List ℕ) → Type 0
  Apart s [] = Unit
  Apart s (e ∷ es) = Stood s e × Apart (s + length e + 2) es

  behind_apart : (end : ℕ) (es : List (List ℕ)) → Stood end (text_behind es) → Apart (end + 2) es
  unfolding text_behind
  behind_apart end [] h = tt
  behind_apart end (e ∷ es) h =
      let g : Stood (end + 2) (e ++ text_behind es) = stood_second end (comma ∷ space ∷ []) (e ++ text_behind es) h in
      (stood_first (end + 2) e (text_behind es) g, behind_apart (end + 2 + length e) es (stood_second (end + 2) e (text_behind es) g))

  text_apart : (start : ℕ) (es : List (List ℕ)) → Stood start (text_of es) → Apart start es
  unfolding text_of
  text_apart start [] h = tt
  text_apart start (e ∷ es) h = (stood_first start e (text_behind es) h, behind_apart (start + length e) es (stood_second start e (text_behind es) h))

  field_stood : (f : Field) → stands t f ≡ true → Stood f.start f.value
  unfolding stands
  field_stood f h = sym (same_equal f.value (take (length f.value) (drop f.start t)) h)

  elements_apart : (f : Field) → stands t f ≡ true → well_spaced f ≡ true → Apart (f.start + 1) (elements f.value)
  unfolding elements well_spaced list_spaced
  elements_apart f h w = go (bracketed f.value) refl w
    where
      go : (b : Bool) → bracketed f.value ≡ b → (not b || spaced 0 (inside f.value)) ≡ true
          → Apart (f.start + 1) (cond b (elements_in (inside f.value)) [])
      go true e s =
          let es : elements f.value ≡ elements_in (inside f.value) = rw e refl in
          let text : f.value ≡ open_bracket ∷ (text_of (elements_in (inside f.value)) ++ (close_bracket ∷ [])) = list_text f.value e s ∙ rw es refl in
          let all : Stood f.start (open_bracket ∷ (text_of (elements_in (inside f.value)) ++ (close_bracket ∷ []))) =
          subst (λ (x : List ℕ). Stood f.start x) text (field_stood f h) in
          let behind : Stood (f.start + 1) (text_of (elements_in (inside f.value)) ++ (close_bracket ∷ [])) =
          stood_second f.start (open_bracket ∷ []) (text_of (elements_in (inside f.value)) ++ (close_bracket ∷ [])) all in
          text_apart (f.start + 1) (elements_in (inside f.value))
          (stood_first (f.start + 1) (text_of (elements_in (inside f.value))) (close_bracket ∷ []) behind)
      go false e s = tt

-- ---- the names of a kind, thing by thing

module _ (t : List ℕ) (kind : ℕ) where
  -- of the first k things
  abbrev names : List ℕ → ℕ → List (List ℕ)
  names list k = names_of_kind t list kind 0 k

  -- behind four words it is as if they were not there
  names_behind : (a b d e : ℕ) (list : List ℕ) (i k : ℕ) → names_of_kind t (a ∷ b ∷ d ∷ e ∷ list) kind (i + 1) k ≡ names_of_kind t list kind i k
  unfolding names_of_kind
  names_behind a b d e list i zero = refl
  names_behind a b d e list i (suc k) =
      let at : (j n : ℕ) → n ≡ 4 + j → get_or (a ∷ b ∷ d ∷ e ∷ list) n 0 ≡ get_or list j 0 = λ j n h. rw h (get_or-append-add (a ∷ b ∷ d ∷ e ∷ []) list j 0) in
      rw (
        at (4 * i) (4 * (i + 1)) (omega arith),
        at (4 * i + 2) (4 * (i + 1) + 2) (omega arith),
        at (4 * i + 3) (4 * (i + 1) + 3) (omega arith),
        names_behind a b d e list (i + 1) k,
      ) refl

  -- a name of this kind, or none
  abbrev one_name : ℕ → List ℕ → List (List ℕ)
  one_name k x = cond (eqb k kind) (x ∷ []) []

  thing_named : (k line start size : ℕ) (list : List ℕ) (m : ℕ)
      → names (thing k line start size ++ list) (1 + m) ≡ one_name k (take size (drop start t)) ++ names list m
  unfolding thing names_of_kind
  thing_named k line start size list m = let e : 1 + m ≡ suc m = omega arith in rw (e, names_behind k line start size list 0 m) (go (eqb k kind))
    where
      go : (b : Bool) → cond b (take size (drop start t) ∷ names list m) (names list m) ≡ cond b (take size (drop start t) ∷ []) [] ++ names list m
      go true = refl
      go false = refl

  elements_named : (k line start : ℕ) (es : List (List ℕ)) (list : List ℕ) (m : ℕ) → Apart t start es
      → names (element_things k line start es ++ list) (length es + m) ≡ cond (eqb k kind) es [] ++ names list m
  unfolding element_things
  elements_named k line start [] list m h = let e : 0 + m ≡ m = omega arith in rw e (go (eqb k kind))
    where
      go : (b : Bool) → names list m ≡ cond b [] [] ++ names list m
      go true = refl
      go false = refl
  elements_named k line start (e ∷ es) list m h =
      let n : suc (length es) + m ≡ 1 + (length es + m) = omega arith in
      rw (
        n,
        append_assoc (thing k line start (length e)) (element_things k line (start + length e + 2) es) list,
        thing_named k line start (length e) (element_things k line (start + length e + 2) es ++ list) (length es + m),
        elements_named k line (start + length e + 2) es list m h.1,
        h.0,
      ) (go (eqb k kind))
    where
      go : (b : Bool) → cond b (e ∷ []) [] ++ (cond b es [] ++ names list m) ≡ cond b (e ∷ es) [] ++ names list m
      go true = refl
      go false = refl

  -- ---- field by field

  -- the names of this kind that a field adds
  abbrev adds : Naming → Field → Field → List (List ℕ)
  adds (One k) f g = one_name k f.value
  adds (Each k) f g = cond (eqb k kind) (elements f.value) []
  adds Entry f g = one_name 5 g.value
  adds Nothing f g = []

  field_named : (f g : Field) (list : List ℕ) (m : ℕ) → stands t f ≡ true → well_spaced f ≡ true → Stood t g.start g.value
      → names (things_in f g ++ list) (thing_count f + m) ≡ adds (naming_at f.place) f g ++ names list m
  unfolding things_in thing_count name_thing each_thing
  field_named f g list m h w s = go (naming_at f.place)
    where
      go : (x : Naming) → names (things_as x f g ++ list) (count_as x f + m) ≡ adds x f g ++ names list m
      go (One k) = thing_named k f.line f.start (length f.value) list m ∙ rw (field_stood t f h) refl
      go (Each k) = elements_named k f.line (f.start + 1) (elements f.value) list m (elements_apart t f h w)
      go Entry = thing_named 5 f.line g.start (length g.value) list m ∙ rw s refl
      go Nothing = let e : 0 + m ≡ m = omega arith in rw e refl

  -- those that all fields add
  unfoldable added : List Field → List (List ℕ)
  added [] = []
  added (f ∷ fs) = adds (naming_at f.place) f (get_or fs 0 no_field) ++ added fs

  first_stood : (fs : List Field) → all_of (stands t) fs ≡ true → Stood t (get_or fs 0 no_field).start (get_or fs 0 no_field).value
  unfolding all_of
  first_stood [] h = refl
  first_stood (f ∷ fs) h = field_stood t f (both_left (stands t f) _ h)

  file_named : (fs : List Field) → all_of (stands t) fs ≡ true → all_of well_spaced fs ≡ true → names (things_of fs) (total thing_count fs) ≡ added fs
  unfolding things_of total added all_of names_of_kind
  file_named [] h w = refl
  file_named (f ∷ fs) h w =
      let rest : all_of (stands t) fs ≡ true = both_right (stands t f) _ h in
      field_named f (get_or fs 0 no_field) (things_of fs) (total thing_count fs) (both_left (stands t f) _ h) (both_left (well_spaced f) _ w) (first_stood fs rest)
      ∙ rw (file_named fs rest (both_right (well_spaced f) _ w)) refl

-- ---- the names of a map

things_counted : (fs : List Field) → length (things_of fs) ≡ 4 * total thing_count fs
unfolding things_of total
things_counted [] = refl
things_counted (f ∷ fs) = omega (arith, file_long f fs, things_counted fs)

module _ (t : List ℕ) where
  objects_added : (fs : List Field) → added t 2 fs ≡ identifiers_at object_members fs
  unfolding added identifiers_at fields_at flat_map naming_at
  objects_added [] = refl
  objects_added (f ∷ fs) =
      rw (objects_added fs)
      (go (eqb f.place 2) (eqb f.place 3) (eqb f.place 5) (eqb f.place 6) (eqb f.place 8) refl refl)
    where
      go : (u v w x y : Bool) → eqb f.place 2 ≡ u → eqb f.place 3 ≡ v
          → adds t 2 (by_tests u v w x y) f (get_or fs 0 no_field) ++ identifiers_at object_members fs
          ≡ flat_map (λ f. elements f.value) (cond v (f ∷ fields_at object_members fs) (fields_at object_members fs))
      go true true w x y p q = absurd (omega (arith, eqb-true f.place 2 p, eqb-true f.place 3 q))
      go true false w x y p q = refl
      go false true w x y p q = refl
      go false false true x y p q = refl
      go false false false true y p q = refl
      go false false false false true p q = refl
      go false false false false false p q = refl

  functions_added : (fs : List Field) → added t 4 fs ≡ identifiers_at subject_members fs
  unfolding added identifiers_at fields_at flat_map naming_at
  functions_added [] = refl
  functions_added (f ∷ fs) =
      rw (functions_added fs)
      (go (eqb f.place 2) (eqb f.place 3) (eqb f.place 5) (eqb f.place 6) (eqb f.place 8) refl refl refl refl)
    where
      go : (u v w x y : Bool) → eqb f.place 2 ≡ u → eqb f.place 3 ≡ v → eqb f.place 5 ≡ w → eqb f.place 6 ≡ x
          → adds t 4 (by_tests u v w x y) f (get_or fs 0 no_field) ++ identifiers_at subject_members fs
          ≡ flat_map (λ f. elements f.value) (cond x (f ∷ fields_at subject_members fs) (fields_at subject_members fs))
      go true v w true y p q r s = absurd (omega (arith, eqb-true f.place 2 p, eqb-true f.place 6 s))
      go true v w false y p q r s = refl
      go false true w true y p q r s = absurd (omega (arith, eqb-true f.place 3 q, eqb-true f.place 6 s))
      go false true w false y p q r s = refl
      go false false true true y p q r s = absurd (omega (arith, eqb-true f.place 5 r, eqb-true f.place 6 s))
      go false false true false y p q r s = refl
      go false false false true y p q r s = refl
      go false false false false true p q r s = refl
      go false false false false false p q r s = refl

  object_domains_added : (fs : List Field) → added t 1 fs ≡ domains_at object_name fs
  unfolding added domains_at fields_at naming_at
  object_domains_added [] = refl
  object_domains_added (f ∷ fs) =
      rw (object_domains_added fs) (go (eqb f.place 2) (eqb f.place 3) (eqb f.place 5) (eqb f.place 6) (eqb f.place 8))
    where
      go : (u v w x y : Bool)
          → adds t 1 (by_tests u v w x y) f (get_or fs 0 no_field) ++ domains_at object_name fs
          ≡ map (λ f. f.value) (cond u (f ∷ fields_at object_name fs) (fields_at object_name fs))
      go true v w x y = refl
      go false true w x y = refl
      go false false true x y = refl
      go false false false true y = refl
      go false false false false true = refl
      go false false false false false = refl

  subject_domains_added : (fs : List Field) → added t 3 fs ≡ domains_at subject_name fs
  unfolding added domains_at fields_at naming_at
  subject_domains_added [] = refl
  subject_domains_added (f ∷ fs) =
      rw (subject_domains_added fs)
      (go (eqb f.place 2) (eqb f.place 3) (eqb f.place 5) (eqb f.place 6) (eqb f.place 8) refl refl refl)
    where
      go : (u v w x y : Bool) → eqb f.place 2 ≡ u → eqb f.place 3 ≡ v → eqb f.place 5 ≡ w
          → adds t 3 (by_tests u v w x y) f (get_or fs 0 no_field) ++ domains_at subject_name fs
          ≡ map (λ f. f.value) (cond w (f ∷ fields_at subject_name fs) (fields_at subject_name fs))
      go true v true x y p q r = absurd (omega (arith, eqb-true f.place 2 p, eqb-true f.place 5 r))
      go true v false x y p q r = refl
      go false true true x y p q r = absurd (omega (arith, eqb-true f.place 3 q, eqb-true f.place 5 r))
      go false true false x y p q r = refl
      go false false true x y p q r = refl
      go false false false true y p q r = refl
      go false false false false true p q r = refl
      go false false false false false p q r = refl

  -- the subject of an entry stands behind its `principal`
  subject_said : (fs : List Field) → in_listing_order principal true fs ≡ true → all_of is_filled fs ≡ true
      → value_at subject_of_entry (up_to_next principal fs) ≡ (get_or fs 0 no_field).value
  unfolding in_listing_order needs_block listing row_at bare_is_none all_of up_to_next value_at meant
  subject_said [] o a = absurd (false≢true o)
  subject_said (g ∷ gs) o a =
      let p : g.place ≡ subject_of_entry = subject_follows g (both_left (may_follow principal true g) _ o) in
      let some : 1 ≤ length g.value = entry_bytes g (both_left (is_filled g) _ a) p in
      rw (p, ne_eqb (length g.value) 0 (λ z. omega arith)) refl

  its_subject : (f : Field) (fs : List Field) → is_right f ≡ true → in_listing_order f.place (is_empty f.value) fs ≡ true → all_of is_filled fs ≡ true
      → f.place ≡ principal → value_at subject_of_entry (f ∷ up_to_next principal fs) ≡ (get_or fs 0 no_field).value
  unfolding value_at
  its_subject f fs r o a p = rw p (subject_said fs (rw (p, principal_bare f r p) at o) a)

  entries_added : (place : ℕ) (bare : Bool) (fs : List Field) → in_listing_order place bare fs ≡ true → all_of is_filled fs ≡ true → all_of is_right fs ≡ true
      → added t 5 fs ≡ map (value_at subject_of_entry) (entries_of fs)
  unfolding added entries_of stretches_from naming_at in_listing_order all_of
  entries_added place bare [] o a b = refl
  entries_added place bare (f ∷ fs) o a b =
      rw (entries_added f.place (is_empty f.value) fs rest (both_right (is_filled f) _ a) (both_right (is_right f) _ b))
      (go (eqb f.place 2) (eqb f.place 3) (eqb f.place 5) (eqb f.place 6) (eqb f.place 8) refl refl refl refl refl)
    where
      rest : in_listing_order f.place (is_empty f.value) fs ≡ true
      rest = both_right (may_follow place bare f) _ o

      go : (u v w x y : Bool) → eqb f.place 2 ≡ u → eqb f.place 3 ≡ v → eqb f.place 5 ≡ w → eqb f.place 6 ≡ x → eqb f.place 8 ≡ y
          → adds t 5 (by_tests u v w x y) f (get_or fs 0 no_field) ++ map (value_at subject_of_entry) (stretches_from principal fs)
          ≡ map (value_at subject_of_entry) (cond y ((f ∷ up_to_next principal fs) ∷ stretches_from principal fs) (stretches_from principal fs))
      go true v w x true p q r s z = absurd (omega (arith, eqb-true f.place 2 p, eqb-true f.place 8 z))
      go false true w x true p q r s z = absurd (omega (arith, eqb-true f.place 3 q, eqb-true f.place 8 z))
      go false false true x true p q r s z = absurd (omega (arith, eqb-true f.place 5 r, eqb-true f.place 8 z))
      go false false false true true p q r s z = absurd (omega (arith, eqb-true f.place 6 s, eqb-true f.place 8 z))
      go false false false false true p q r s z =
          ap (λ (v : List ℕ). v ∷ map (value_at subject_of_entry) (stretches_from principal fs))
          (sym (its_subject f fs (both_left (is_right f) _ b) rest (both_right (is_filled f) _ a) (eqb-true f.place 8 z)))
      go true v w x false p q r s z = refl
      go false true w x false p q r s z = refl
      go false false true x false p q r s z = refl
      go false false false true false p q r s z = refl
      go false false false false false p q r s z = refl

  -- ---- an accepted text

  module _ (fs : List Field) (h : file_of t ≡ fields fs) where
    page : page_of t ≡ fields fs
    page = (accepted_page t fs h).0

    right : all_of is_right fs ≡ true
    unfolding page_of
    right = fields_right before_first 1 (lines t) fs page

    -- the names of a kind in the whole list
    listed : (kind : ℕ) → names_of_kind t (things_of fs) kind 0 (length (things_of fs) / 4) ≡ added t kind fs
    unfolding page_of
    listed kind =
        let n : length (things_of fs) / 4 ≡ total thing_count fs = omega (arith, things_counted fs) in
        rw (n, file_named t kind fs (fields_stand t before_first 1 0 fs page) (all_spaced_well fs right)) refl

    -- the entries of the list are those of the policy, each with its subject for a name
    pub entry_names : names_of_kind t (things_of fs) 5 0 (length (things_of fs) / 4) ≡ map (value_at subject_of_entry) (entries_of fs)
    unfolding page_of before_first
    entry_names =
        let order : in_listing_order 0 false fs ≡ true = fields_in_order before_first 1 (lines t) fs page in
        listed 5 ∙ entries_added 0 false fs order (fields_filled 0 false fs order) right

  module _ (fs : List Field) (h : file_of t ≡ fields fs) (name : List ℕ) where
    number_is : (kind : ℕ) → number_of t (things_of fs) kind name ≡ number_in (added t kind fs) name
    unfolding number_of
    number_is kind = rw (listed fs h kind) refl

    -- the number of an object, and of a function, is its place in the policy's lists
    pub object_number : number_of t (things_of fs) 2 name ≡ number_in (identifiers_at object_members fs) name
    object_number = number_is 2 ∙ rw (objects_added fs) refl

    pub function_number : number_of t (things_of fs) 4 name ≡ number_in (identifiers_at subject_members fs) name
    function_number = number_is 4 ∙ rw (functions_added fs) refl

    -- and that of a domain its place in its map
    pub object_domain_number : number_of t (things_of fs) 1 name ≡ number_in (domains_at object_name fs) name
    object_domain_number = number_is 1 ∙ rw (object_domains_added fs) refl

    pub subject_domain_number : number_of t (things_of fs) 3 name ≡ number_in (domains_at subject_name fs) name
    subject_domain_number = number_is 3 ∙ rw (subject_domains_added fs) refl
