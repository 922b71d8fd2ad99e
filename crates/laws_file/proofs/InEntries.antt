-- 10 and 11: entry by entry, its variables and its principal. The text of a pattern says its elements, so that one is the same exactly when the other is.
use mathlib.Core.Path.{◌≡◌, refl, sym, ap, ◌∙◌}
use mathlib.Core.List.{List, [], ◌∷◌, ◌++◌, map}
use mathlib.Core.Bool.{Bool, true, false, cond, not, ◌&&◌, ◌||◌}
use mathlib.Core.Logic.{◌⊎◌, inl, inr, ⊎_elim}
use Prim.Native.Nat.{ℕ}
use native.Mathlib.Omega.{arith}
use lib.Dec.{eqb}
use borrow.Author.Tests.{eqb-true, eq-eqb, not-true}
use Rattle.paper.specs.declared.Scalar.TheVariants.{PatternElement}
use Rattle.paper.specs.Common.{bytes, is_empty, all_of, any_of, same, cut, on_piece}
use Rattle.paper.specs.Scalars.{is_variable, is_scalar, sort_of, sort_number}
use Rattle.paper.specs.Lists.{bracketed, spaced, unspaced, elements_in, elements, list_fault}
use Rattle.paper.specs.Listing.{subject_of_entry, execution_context, call_context_in, uid_in, gid_in, namespace_in, principal, listing, row_at, value_fault}
use Rattle.paper.specs.Page.{Field}
use Rattle.paper.specs.Entries.{is_at, is_at_one, call_contexts, default_at, meant, value_at, up_to_next, stretches_from, entries_of, line_of_entry}
use Rattle.paper.specs.Rules.{earliest, first_with, in_object_contexts, is_unbound_key, is_unbound, unbound_variable, same_sort, same_sort_at, same_principal, twin_after, twin_principal}
use Rattle.paper.specs.Table.{sort_in}
use Rattle.laws.proofs.Tests.{both_true, both_left, both_right, either_of, either_left, either_right, same_refl, same_equal}
use Rattle.laws_table.proofs.Contexts.{sort_read}
use Rattle.laws_page.specs.Right.{Ascending, is_right}
use Rattle.laws_page.proofs.ListText.{same_elements}
use Rattle.laws_file.specs.Rules.{Has, On, OnField, UnboundKey, Unbound, UnboundVariable, HasTwin, TwinPrincipal}
use Rattle.laws_file.specs.Rules as rules
use Rattle.laws_file.proofs.Smallest.{Finds, same_faults, on_same, look_finds, finds_either, finds_none}
use Rattle.laws_file.proofs.Stands.{not_both, has_none, has_first, has_behind, has_one_of, has_left, any_has, has_any, all_has, seen_from, seen_more, has_seen, seen_has}
use Rattle.laws_file.proofs.Counts.{tested, EachAscends, entries_ascend, each_ascends}

-- ---- 10: an entry

module _ (key : ℕ → ℕ) (entry : List Field) (f : Field) where
  key_tells : is_unbound_key key entry f ≡ true → UnboundKey key entry f
  unfolding is_unbound_key
  key_tells e = record {
    place = both_left (is_at_one (in_object_contexts key) f) (is_variable f.value) (both_left _ _ e);
    holds_variable = both_right (is_at_one (in_object_contexts key) f) (is_variable f.value) (both_left _ _ e);
    another = λ q.
        not_both (rw (← q) (same_refl f.value))
        (not-true (same f.value (value_at (key execution_context) entry)) (both_right (is_at_one (in_object_contexts key) f && is_variable f.value) _ e));
  }

  key_told : UnboundKey key entry f → is_unbound_key key entry f ≡ true
  unfolding is_unbound_key
  key_told u =
      both_true (is_at_one (in_object_contexts key) f && is_variable f.value) (not (same f.value (value_at (key execution_context) entry)))
      (both_true (is_at_one (in_object_contexts key) f) (is_variable f.value) u.place u.holds_variable)
      (go (same f.value (value_at (key execution_context) entry)) refl)
    where
      go : (t : Bool) → same f.value (value_at (key execution_context) entry) ≡ t → not t ≡ true
      go true e = absurd (u.another (same_equal f.value (value_at (key execution_context) entry) e))
      go false e = refl

unbound_tells : (entry before : List Field) (f : Field) → is_unbound entry f ≡ true → Unbound entry before f
unfolding is_unbound
unbound_tells entry before f e =
    ⊎_elim
    (λ (p : (is_unbound_key uid_in entry f || is_unbound_key gid_in entry f) ≡ true).
    ⊎_elim
    (λ (q : is_unbound_key uid_in entry f ≡ true). rules.Unbound.uid (key_tells uid_in entry f q))
    (λ (q : is_unbound_key gid_in entry f ≡ true). rules.Unbound.gid (key_tells gid_in entry f q))
    (either_of (is_unbound_key uid_in entry f) (is_unbound_key gid_in entry f) p))
    (λ (p : is_unbound_key namespace_in entry f ≡ true). rules.Unbound.namespace (key_tells namespace_in entry f p))
    (either_of (is_unbound_key uid_in entry f || is_unbound_key gid_in entry f) (is_unbound_key namespace_in entry f) e)

unbound_told : (entry before : List Field) (f : Field) → Unbound entry before f → is_unbound entry f ≡ true
unfolding is_unbound
unbound_told entry before f (rules.Unbound.uid u) =
    either_left (is_unbound_key uid_in entry f || is_unbound_key gid_in entry f) (is_unbound_key namespace_in entry f)
    (either_left (is_unbound_key uid_in entry f) (is_unbound_key gid_in entry f) (key_told uid_in entry f u))
unbound_told entry before f (rules.Unbound.gid u) =
    either_left (is_unbound_key uid_in entry f || is_unbound_key gid_in entry f) (is_unbound_key namespace_in entry f)
    (either_right (is_unbound_key uid_in entry f) (is_unbound_key gid_in entry f) (key_told gid_in entry f u))
unbound_told entry before f (rules.Unbound.namespace u) =
    either_right (is_unbound_key uid_in entry f || is_unbound_key gid_in entry f) (is_unbound_key namespace_in entry f) (key_told namespace_in entry f u)

-- ---- 10: all of them

-- a line at fault of one of these entries
abbrev InOne : List (List Field) → ℕ → Type 0
InOne es m = (entry : List Field) × Has es entry × OnField (Unbound entry) entry m

one_more : (e : List Field) (es : List (List Field)) (m : ℕ) → OnField (Unbound e) e m ⊎ InOne es m → InOne (e ∷ es) m
one_more e es m (inl o) = (e, has_first e es, o)
one_more e es m (inr r) = (r.0, has_behind e r.1, r.2)

one_of : (e : List Field) (es : List (List Field)) (m : ℕ) → InOne (e ∷ es) m → OnField (Unbound e) e m ⊎ InOne es m
one_of e es m r =
    ⊎_elim
    (λ (p : e ≡ r.0). inl (rw (← p) at r.2))
    (λ (h : Has es r.0). inr (r.0, h, r.2))
    (has_one_of e es r.1)

in_entries : (es : List (List Field)) → EachAscends es → Finds (InOne es) (earliest (map (λ entry. first_with (is_unbound entry) entry) es))
unfolding earliest
in_entries [] a = same_faults 0 (λ m z. absurd z) (λ m r. absurd (has_none r.1)) finds_none
in_entries (e ∷ es) a =
    same_faults _ (one_more e es) (one_of e es)
    (finds_either _ _ (tested (Unbound e) (is_unbound e) (unbound_tells e) (unbound_told e) e a.0) (in_entries es a.1))

pub unbound_variable_lem : (fs : List Field) → Ascending (λ f. f.line) 1 fs → Finds (UnboundVariable fs) (unbound_variable fs)
unfolding unbound_variable
unbound_variable_lem fs a =
    same_faults _ (λ m r. record { entry = r.0; stands = r.1; unbound = r.2 }) (λ m u. (u.entry, u.stands, u.unbound))
    (in_entries (entries_of fs) (each_ascends fs a))

-- ---- 11: two principals

-- as the paper compares them: the text of the pattern
pub record SameWords (a b : List Field) : Type 0 where
  pub subject : value_at subject_of_entry a ≡ value_at subject_of_entry b
  pub pattern : value_at (call_context_in execution_context) a ≡ value_at (call_context_in execution_context) b
  pub uid : sort_of (value_at (uid_in execution_context) a) ≡ sort_of (value_at (uid_in execution_context) b)
  pub gid : sort_of (value_at (gid_in execution_context) a) ≡ sort_of (value_at (gid_in execution_context) b)
  pub namespace : sort_of (value_at (namespace_in execution_context) a) ≡ sort_of (value_at (namespace_in execution_context) b)

sort_tells : (v w : List ℕ) → same_sort v w ≡ true → sort_of v ≡ sort_of w
unfolding same_sort
sort_tells v w e = sym (sort_read (sort_of v)) ∙ ap sort_in (eqb-true (sort_number (sort_of v)) (sort_number (sort_of w)) e) ∙ sort_read (sort_of w)

sort_told : (v w : List ℕ) → sort_of v ≡ sort_of w → same_sort v w ≡ true
unfolding same_sort
sort_told v w e = eq-eqb (sort_number (sort_of v)) (sort_number (sort_of w)) (ap sort_number e)

same_text : (v w : List ℕ) → v ≡ w → same v w ≡ true
same_text v w e = rw e (same_refl w)

words_tell : (a b : List Field) → same_principal a b ≡ true → SameWords a b
unfolding same_principal same_sort_at
words_tell a b e =
    record {
      subject = same_equal _ _ (search (both_left, both_right) depth 7);
      pattern = same_equal _ _ (search (both_left, both_right) depth 7);
      uid = sort_tells _ _ (search (both_left, both_right) depth 7);
      gid = sort_tells _ _ (search (both_left, both_right) depth 7);
      namespace = sort_tells _ _ (search (both_left, both_right) depth 7);
    }

words_told : (a b : List Field) → SameWords a b → same_principal a b ≡ true
unfolding same_principal same_sort_at
words_told a b s =
    both_true _ _
    (both_true _ _
    (both_true _ _ (both_true _ _ (same_text _ _ s.subject) (same_text _ _ s.pattern)) (sort_told _ _ s.uid))
    (sort_told _ _ s.gid))
    (sort_told _ _ s.namespace)

-- ---- 11: an entry before has the same words

pub record TwinWords (before : List (List Field)) (entry : List Field) : Type 0 where
  pub twin : List Field
  pub stands : Has before twin
  pub alike : SameWords entry twin

-- each entry that was passed was seen
abbrev itself : List Field → List (List Field)
itself e = e ∷ []

twin_tells : (before : List (List Field)) (e : List Field) → Unit {0} → any_of (same_principal e) (seen_from itself [] before) ≡ true → TwinWords before e
twin_tells before e u h =
    let r = any_has (same_principal e) (seen_from itself [] before) h in
    ⊎_elim
    (λ (n : Has [] r.0). absurd (has_none n))
    (λ (g : (x : List Field) × Has before x × Has (itself x) r.0).
    record {
      twin = r.0;
      stands = ⊎_elim (λ (p : g.0 ≡ r.0). rw p at g.1) (λ (n : Has [] r.0). absurd (has_none n)) (has_one_of g.0 [] g.2);
      alike = words_tell e r.0 r.2;
    })
    (has_seen itself r.0 [] before r.1)

twin_told : (before : List (List Field)) (e : List Field) → TwinWords before e → any_of (same_principal e) (seen_from itself [] before) ≡ true
twin_told before e t =
    has_any (same_principal e) t.twin (seen_from itself [] before) (seen_has itself t.twin [] before t.twin t.stands (has_first t.twin [])) (words_told e t.twin t.alike)

twin_ends : (before : List (List Field)) → twin_after (seen_from itself [] before) [] ≡ 0
unfolding twin_after
twin_ends before = refl

twin_more : (before : List (List Field)) (e : List Field) (es : List (List Field))
    → twin_after (seen_from itself [] before) (e ∷ es) ≡ cond (any_of (same_principal e) (seen_from itself [] before)) (line_of_entry e) (twin_after (seen_from itself [] (before ++ (e ∷ []))) es)
unfolding twin_after
twin_more before e es = rw (seen_more itself [] before e) refl

twin_words : (es : List (List Field)) → Ascending line_of_entry 1 es → Finds (On line_of_entry TwinWords es) (twin_after [] es)
unfolding seen_from
twin_words es a =
    look_finds line_of_entry TwinWords (λ before e. any_of (same_principal e) (seen_from itself [] before)) (λ before. Unit {0}) (λ before e s h. tt)
    twin_tells twin_told (λ before ds. twin_after (seen_from itself [] before) ds) twin_ends twin_more es a tt

-- ---- 11: the elements of the pattern

-- where every field is right, so is the pattern of each entry
pattern_none : list_fault PatternElement (value_at (call_context_in execution_context) []) ≡ 0
unfolding value_at default_at call_contexts any_of list_fault bracketed spaced elements elements_in unspaced cut on_piece all_of is_scalar same
pattern_none = refl

pattern_bare : list_fault PatternElement (bytes "[]") ≡ 0
unfolding list_fault bracketed spaced elements elements_in all_of
pattern_bare = refl

some_fault : (v : List ℕ) → value_fault (row_at (call_context_in execution_context)).value v ≡ 0 → list_fault PatternElement v ≡ 0
unfolding value_fault row_at listing
some_fault v e = go (same (bytes "[]") v) e
  where
    go : (t : Bool) → cond t 9 (list_fault PatternElement v) ≡ 0 → list_fault PatternElement v ≡ 0
    go true q = absurd (let z : ◌≡◌ {A = ℕ} 9 0 = q in omega arith)
    go false q = q

pattern_meant : (f : Field) → f.place ≡ call_context_in execution_context → is_right f ≡ true → list_fault PatternElement (meant f) ≡ 0
unfolding is_right meant
pattern_meant f p h = go (is_empty f.value) h
  where
    go : (t : Bool) → (t || eqb (value_fault (row_at f.place).value f.value) 0) ≡ true → list_fault PatternElement (cond t (bytes "[]") f.value) ≡ 0
    go true q = pattern_bare
    go false q = some_fault f.value (rw p at (eqb-true (value_fault (row_at f.place).value f.value) 0 q))

pattern_right : (e : List Field) → all_of is_right e ≡ true → list_fault PatternElement (value_at (call_context_in execution_context) e) ≡ 0
unfolding all_of value_at
pattern_right [] h = pattern_none
pattern_right (f ∷ fs) h = go (is_at (call_context_in execution_context) f) refl (pattern_right fs (both_right (is_right f) (all_of is_right fs) h))
  where
    go : (t : Bool) → is_at (call_context_in execution_context) f ≡ t → list_fault PatternElement (value_at (call_context_in execution_context) fs) ≡ 0
        → list_fault PatternElement (cond t (meant f) (value_at (call_context_in execution_context) fs)) ≡ 0
    go true p ih = pattern_meant f (eqb-true f.place (call_context_in execution_context) p) (both_left (is_right f) (all_of is_right fs) h)
    go false p ih = ih

front_right : (place : ℕ) (fs : List Field) → all_of is_right fs ≡ true → all_of is_right (up_to_next place fs) ≡ true
unfolding all_of up_to_next
front_right place [] h = refl
front_right place (f ∷ fs) h = go (is_at place f) (front_right place fs (both_right (is_right f) (all_of is_right fs) h))
  where
    go : (t : Bool) → all_of is_right (up_to_next place fs) ≡ true → all_of is_right (cond t [] (f ∷ up_to_next place fs)) ≡ true
    go true ih = refl
    go false ih = both_true (is_right f) (all_of is_right (up_to_next place fs)) (both_left (is_right f) (all_of is_right fs) h) ih

stretches_right : (place : ℕ) (fs : List Field) → all_of is_right fs ≡ true → all_of (all_of is_right) (stretches_from place fs) ≡ true
unfolding all_of stretches_from
stretches_right place [] h = refl
stretches_right place (f ∷ fs) h = go (is_at place f) (stretches_right place fs (both_right (is_right f) (all_of is_right fs) h))
  where
    own : all_of is_right (f ∷ up_to_next place fs) ≡ true
    own = both_true (is_right f) (all_of is_right (up_to_next place fs)) (both_left (is_right f) (all_of is_right fs) h) (front_right place fs (both_right (is_right f) (all_of is_right fs) h))

    go : (t : Bool) → all_of (all_of is_right) (stretches_from place fs) ≡ true → all_of (all_of is_right) (cond t ((f ∷ up_to_next place fs) ∷ stretches_from place fs) (stretches_from place fs)) ≡ true
    go true ih = both_true (all_of is_right (f ∷ up_to_next place fs)) (all_of (all_of is_right) (stretches_from place fs)) own ih
    go false ih = ih

module _ (fs : List Field) (a : Ascending (λ f. f.line) 1 fs) (right : all_of is_right fs ≡ true) where
  entry_right : (e : List Field) → Has (entries_of fs) e → list_fault PatternElement (value_at (call_context_in execution_context) e) ≡ 0
  unfolding entries_of
  entry_right e h = pattern_right e (all_has (all_of is_right) e (entries_of fs) (stretches_right principal fs right) h)

  to : (before : List (List Field)) (e : List Field) (behind : List (List Field)) → entries_of fs ≡ before ++ (e ∷ behind) → TwinWords before e → HasTwin before e
  to before e behind splits w =
      let s = w.alike in
      record { twin = w.twin; stands = w.stands; alike = record { subject = s.subject; pattern = ap elements s.pattern; uid = s.uid; gid = s.gid; namespace = s.namespace } }

  from : (before : List (List Field)) (e : List Field) (behind : List (List Field)) → entries_of fs ≡ before ++ (e ∷ behind) → HasTwin before e → TwinWords before e
  from before e behind splits w =
      let s = w.alike in
      let own : Has (entries_of fs) e = record { front = before; behind = behind; splits = splits } in
      let other : Has (entries_of fs) w.twin = rw splits (has_left (e ∷ behind) {xs = before} w.stands) in
      let text = same_elements PatternElement PatternElement _ _ (entry_right e own) (entry_right w.twin other) s.pattern in
      record { twin = w.twin; stands = w.stands; alike = record { subject = s.subject; pattern = text; uid = s.uid; gid = s.gid; namespace = s.namespace } }

  pub twin_principal_lem : Finds (TwinPrincipal fs) (twin_principal fs)
  unfolding twin_principal
  twin_principal_lem =
      same_faults _ (λ m o. on_same line_of_entry (entries_of fs) m to o) (λ m o. on_same line_of_entry (entries_of fs) m from o)
      (twin_words (entries_of fs) (entries_ascend fs a))
