-- 7, 8 and 10 of the filled text: the maps name what they named, and what is put in names nothing that is unknown and no variable.
use mathlib.Core.Path.{◌≡◌, refl, sym, ap, ◌∙◌}
use mathlib.Core.List.{List, [], ◌∷◌, ◌++◌, map, flat_map, append-nil}
use mathlib.Core.Bool.{Bool, true, false, cond, not, ◌&&◌}
use Prim.Native.Nat.{ℕ, ◌≤◌}
use native.Mathlib.Omega.{arith}
use lib.Dec.{eqb, leb}
use borrow.Author.Tests.{eqb-true, ne_eqb, leb-true, not-true}
use Rattle.paper.proofs.Computing.{computing}
use Rattle.paper.specs.Common.{bytes, is_empty, all_of, any_of, same}
use Rattle.paper.specs.Scalars.{is_variable}
use Rattle.paper.specs.Listing.{principal, object_name, subject_name, subject_members, subject_of_entry, execution_context, uid_in, gid_in, namespace_in}
use Rattle.paper.specs.Page.{Field}
use Rattle.paper.specs.Entries.{is_at, is_at_one, value_at, up_to_next, stretches_from, entries_of}
use Rattle.paper.specs.Rules.{earlier, earliest, first_with, repeats, repeated, domain_named, members_named, domains_at, identifiers_at, element_names, names_unknown}
use Rattle.paper.specs.Rules.{unknown_name, in_object_contexts, is_unbound_key, is_unbound, unbound_variable}
use Rattle.laws.proofs.Tests.{both_left, both_right}
use Rattle.laws.proofs.Counting.{all_of_weaker}
use Rattle.laws_page.specs.Right.{is_right, is_numbered, may_follow, in_listing_order}
use Rattle.laws_file.specs.Accepted.{is_filled}
use Rattle.laws_file.proofs.Stretched.{all_of_map, all_of_both, stretches_all}
use Rattle.laws_file.proofs.Ordered.{fields_filled, subjects_said}
use Rattle.laws_filled.specs.Fields.{unwritten, entry_fields, written, filled_fields}
use Rattle.laws_filled.proofs.Says.{says, filled_same, value_says, domains_say, identifiers_say, stretches_say}
use Rattle.laws_filled.proofs.Past.{next_past, none_before}
use Rattle.laws_filled.proofs.SamePolicy.{front_values, next_none, entries_written}
use Rattle.laws_filled.proofs.Rows.{stays_late}
use Rattle.laws_filled.proofs.WrittenOrder.{written_order}
use Rattle.laws_filled.proofs.FilledPolicy.{domains_written, identifiers_written}
use Rattle.laws_filled.proofs.EveryField.{both, Passes, entry_passes, filled_passes}
use Rattle.laws_filled.proofs.FilledRules.{first_silent, default_either, names_pass}

-- ---- 7: names of the maps

-- no field names again what was named
unfoldable unrepeated : (Field → List (List ℕ)) → List (List ℕ) → List Field → Bool
unrepeated named seen [] = true
unrepeated named seen (f ∷ fs) = not (repeats seen (named f)) && unrepeated named (named f ++ seen) fs

pub next_written : (fs : List Field) → up_to_next principal (written fs) ≡ up_to_next principal fs
unfolding written
next_written fs =
    next_past principal (up_to_next principal fs) (flat_map entry_fields (entries_of fs)) (none_before principal fs)
    ∙ rw (next_none (entries_of fs)) (append-nil (up_to_next principal fs))

module _ (named : Field → List (List ℕ)) (said : (f : Field) → named (says f) ≡ named f) (quiet : (f : Field) → 8 ≤ f.place → named f ≡ []) where
  names_silent : (seen : List (List ℕ)) (fs : List Field) → unrepeated named seen fs ≡ true → repeated named seen fs ≡ 0
  unfolding unrepeated repeated
  names_silent seen [] h = refl
  names_silent seen (f ∷ fs) h =
      rw (not-true (repeats seen (named f)) (both_left (not (repeats seen (named f))) _ h))
      (names_silent (named f ++ seen) fs (both_right (not (repeats seen (named f))) _ h))

  silent_names : (seen : List (List ℕ)) (fs : List Field) → all_of is_numbered fs ≡ true → repeated named seen fs ≡ 0 → unrepeated named seen fs ≡ true
  unfolding unrepeated repeated all_of is_numbered
  silent_names seen [] n h = refl
  silent_names seen (f ∷ fs) n h = go (repeats seen (named f)) h (silent_names (named f ++ seen) fs (both_right (leb 1 f.line) _ n))
    where
      go : (t : Bool) → cond t f.line (repeated named (named f ++ seen) fs) ≡ 0
          → (repeated named (named f ++ seen) fs ≡ 0 → unrepeated named (named f ++ seen) fs ≡ true)
          → (not t && unrepeated named (named f ++ seen) fs) ≡ true
      go true k ih = absurd (let l : 1 ≤ f.line = leb-true 1 f.line (both_left (leb 1 f.line) _ n) in omega arith)
      go false k ih = ih k

  quiet_rest : (seen : List (List ℕ)) (q : ℕ) (bare : Bool) (fs : List Field) → 8 ≤ q → in_listing_order q bare fs ≡ true
      → unrepeated named seen fs ≡ true
  unfolding unrepeated in_listing_order repeats
  quiet_rest seen q bare [] l o = refl
  quiet_rest seen q bare (f ∷ fs) l o =
      let k : 8 ≤ f.place = stays_late q bare f l (both_left (may_follow q bare f) _ o) in
      rw (quiet f k) (quiet_rest seen f.place (is_empty f.value) fs k (both_right (may_follow q bare f) _ o))

  maps_only : (seen : List (List ℕ)) (q : ℕ) (bare : Bool) (fs : List Field) → in_listing_order q bare fs ≡ true
      → unrepeated named seen (up_to_next principal fs) ≡ unrepeated named seen fs
  unfolding unrepeated in_listing_order up_to_next repeats
  maps_only seen q bare [] o = refl
  maps_only seen q bare (f ∷ fs) o = go (is_at principal f) refl (maps_only (named f ++ seen) f.place (is_empty f.value) fs rest)
    where
      rest : in_listing_order f.place (is_empty f.value) fs ≡ true
      rest = both_right (may_follow q bare f) _ o

      go : (t : Bool) → is_at principal f ≡ t → unrepeated named (named f ++ seen) (up_to_next principal fs) ≡ unrepeated named (named f ++ seen) fs
          → unrepeated named seen (cond t [] (f ∷ up_to_next principal fs)) ≡ (not (repeats seen (named f)) && unrepeated named (named f ++ seen) fs)
      go true e ih =
          let s : f.place ≡ principal = eqb-true f.place principal e in
          sym (rw (quiet f (omega arith)) (quiet_rest seen f.place (is_empty f.value) fs (omega arith) rest))
      go false e ih = rw ih refl

  said_names : (seen : List (List ℕ)) (fs : List Field) → unrepeated named seen (map says fs) ≡ unrepeated named seen fs
  unfolding unrepeated
  said_names seen [] = refl
  said_names seen (f ∷ fs) = rw (said f, said_names (named f ++ seen) fs) refl

  pub names_filled : (fs : List Field) → in_listing_order 0 false fs ≡ true → all_of is_numbered fs ≡ true → repeated named [] fs ≡ 0
      → repeated named [] (filled_fields fs) ≡ 0
  names_filled fs o n h =
      names_silent [] (filled_fields fs)
      (filled_same (unrepeated named []) (said_names []) fs
      ∙ sym (maps_only [] 0 false (written fs) (written_order 0 false fs o))
      ∙ ap (unrepeated named []) (next_written fs)
      ∙ maps_only [] 0 false fs o
      ∙ silent_names [] fs n h)

pub domains_quiet : (f : Field) → 8 ≤ f.place → domain_named f ≡ []
unfolding domain_named is_at_one any_of
domains_quiet f h = rw (ne_eqb f.place 2 (λ (z : f.place ≡ 2). omega arith), ne_eqb f.place 5 (λ (z : f.place ≡ 5). omega arith)) refl

pub members_quiet : (p : ℕ) → p ≤ 7 → (f : Field) → 8 ≤ f.place → members_named p f ≡ []
unfolding members_named
members_quiet p l f h = rw (ne_eqb f.place p (λ (z : f.place ≡ p). omega arith)) refl

pub domains_said : (f : Field) → domain_named (says f) ≡ domain_named f
unfolding domain_named is_at_one says unwritten
domains_said f = refl

pub members_said : (p : ℕ) (f : Field) → members_named p (says f) ≡ members_named p f
unfolding members_named says unwritten
members_said p f = refl

-- ---- 8

module _ (fs : List Field) (o : in_listing_order 0 false fs ≡ true) where
  pub domains_filled : (p : ℕ) → p ≤ 7 → domains_at p (filled_fields fs) ≡ domains_at p fs
  domains_filled p l = filled_same (domains_at p) (domains_say p) fs ∙ domains_written fs o p (omega arith)

  pub identifiers_filled : (p : ℕ) → p ≤ 7 → identifiers_at p (filled_fields fs) ≡ identifiers_at p fs
  identifiers_filled p l = filled_same (identifiers_at p) (identifiers_say p) fs ∙ identifiers_written fs o p (omega arith)

  unknown_same : (f : Field) → names_unknown (filled_fields fs) f ≡ names_unknown fs f
  unfolding names_unknown element_names
  unknown_same f =
      rw (domains_filled subject_name (omega arith), domains_filled object_name (omega arith), identifiers_filled subject_members (omega arith)) refl

  pub known_filled : all_of is_right fs ≡ true → all_of (λ f. not (names_unknown fs f)) fs ≡ true → unknown_name (filled_fields fs) ≡ 0
  unfolding unknown_name
  known_filled r h =
      first_silent (names_unknown (filled_fields fs)) (filled_fields fs)
      (all_of_weaker (λ f. not (names_unknown fs f)) (λ f. not (names_unknown (filled_fields fs) f)) (λ f k. ap not (unknown_same f) ∙ k)
      (filled_fields fs) (filled_passes (λ f. not (names_unknown fs f)) (names_pass fs) fs o r h))

-- ---- 10

no_variable : (a b : Bool) → (a && false && b) ≡ false
no_variable true b = refl
no_variable false b = refl

-- all variables of an entry are bound
unfoldable all_bound : List Field → Bool
all_bound e = all_of (λ f. not (is_unbound e f)) e

module _ (entry : List Field) where
  key_bound : (key : ℕ → ℕ) (p : ℕ) (v : List ℕ) → is_variable v ≡ false → is_unbound_key key entry (unwritten p v) ≡ false
  unfolding is_unbound_key is_at_one unwritten
  key_bound key p v e =
      rw e (no_variable (any_of (eqb p) (in_object_contexts key)) (not (same v (value_at (key execution_context) entry))))

  nothing_bound : (p : ℕ) (v : List ℕ) → is_variable v ≡ false → not (is_unbound entry (unwritten p v)) ≡ true
  unfolding is_unbound
  nothing_bound p v e = rw (key_bound uid_in p v e, key_bound gid_in p v e, key_bound namespace_in p v e) refl

  bound_passes : Passes (λ f. not (is_unbound entry f))
  unfolding computing says unwritten
  bound_passes = record {
    said = λ f. refl;
    bare = λ p n. nothing_bound p [] refl;
    none = λ p n. nothing_bound p (bytes "[]") refl;
    default =
        λ p n. default_either p (λ v. not (is_unbound entry (unwritten p v)) ≡ true) (λ k. nothing_bound p (bytes "[all]") refl)
        (nothing_bound p (bytes "all") refl);
  }

  unbound_same : (f : Field) → is_unbound (entry_fields entry) f ≡ is_unbound entry f
  unfolding is_unbound is_unbound_key
  unbound_same f = let v = front_values entry in rw (v.uid, v.gid, v.namespace) refl

  entry_bound_lem : (all_bound entry && all_of is_filled entry && any_of (is_at subject_of_entry) entry) ≡ true → all_bound (entry_fields entry) ≡ true
  unfolding all_bound both
  entry_bound_lem h =
      let p : (all_bound entry && all_of is_filled entry) ≡ true = both_left (all_bound entry && all_of is_filled entry) _ h in
      all_of_weaker (λ f. not (is_unbound entry f)) (λ f. not (is_unbound (entry_fields entry) f)) (λ f k. ap not (unbound_same f) ∙ k)
      (entry_fields entry)
      (entry_passes (λ f. not (is_unbound entry f)) bound_passes entry
      (all_of_both (λ f. not (is_unbound entry f)) is_filled entry (both_left (all_bound entry) _ p) (both_right (all_bound entry) _ p))
      (both_right (all_bound entry && all_of is_filled entry) _ h))

unbound_said : (e : List Field) (f : Field) → is_unbound (map says e) (says f) ≡ is_unbound e f
unfolding is_unbound is_unbound_key is_at_one says unwritten
unbound_said e f =
    rw (value_says (uid_in execution_context) e, value_says (gid_in execution_context) e, value_says (namespace_in execution_context) e) refl

bound_said : (e gs : List Field) → all_of (λ f. not (is_unbound (map says e) f)) (map says gs) ≡ all_of (λ f. not (is_unbound e f)) gs
unfolding all_of
bound_said e [] = refl
bound_said e (g ∷ gs) = rw (unbound_said e g, bound_said e gs) refl

all_bound_said : (es : List (List Field)) → all_of all_bound (map (map says) es) ≡ all_of all_bound es
unfolding all_of all_bound
all_bound_said [] = refl
all_bound_said (e ∷ es) = rw (bound_said e e, all_bound_said es) refl

entries_said : (fs : List Field) → all_of all_bound (entries_of (map says fs)) ≡ all_of all_bound (entries_of fs)
unfolding entries_of
entries_said fs = rw (stretches_say principal fs) (all_bound_said (stretches_from principal fs))

bound_silent : (es : List (List Field)) → all_of all_bound es ≡ true → earliest (map (λ entry. first_with (is_unbound entry) entry) es) ≡ 0
unfolding all_of all_bound earliest earlier
bound_silent [] h = refl
bound_silent (e ∷ es) h =
    rw (
      first_silent (is_unbound e) e (both_left (all_of (λ f. not (is_unbound e f)) e) _ h),
      bound_silent es (both_right (all_of (λ f. not (is_unbound e f)) e) _ h),
    ) refl

sound_entries : (fs : List Field) → in_listing_order 0 false fs ≡ true → all_of is_right fs ≡ true → all_of all_bound (entries_of fs) ≡ true
    → all_of (λ e. all_bound e && all_of is_filled e && any_of (is_at subject_of_entry) e) (entries_of fs) ≡ true
unfolding entries_of
sound_entries fs o r h =
    all_of_both (λ e. all_bound e && all_of is_filled e) (λ e. any_of (is_at subject_of_entry) e) (stretches_from principal fs)
    (all_of_both all_bound (all_of is_filled) (stretches_from principal fs) h (stretches_all principal is_filled fs (fields_filled 0 false fs o)))
    (subjects_said 0 false fs o r)

pub bound_filled : (fs : List Field) → in_listing_order 0 false fs ≡ true → all_of is_right fs ≡ true
    → all_of (λ e. all_of (λ f. not (is_unbound e f)) e) (entries_of fs) ≡ true → unbound_variable (filled_fields fs) ≡ 0
unfolding unbound_variable all_bound
bound_filled fs o r h =
    bound_silent (entries_of (filled_fields fs))
    (filled_same (λ gs. all_of all_bound (entries_of gs)) entries_said fs
    ∙ ap (all_of all_bound) (entries_written fs)
    ∙ all_of_map entry_fields all_bound (entries_of fs)
    (all_of_weaker (λ e. all_bound e && all_of is_filled e && any_of (is_at subject_of_entry) e) (λ e. all_bound (entry_fields e)) entry_bound_lem (entries_of fs)
    (sound_entries fs o r h)))
