-- The policy looks at places and values only: lines and starts aside, the same fields give the same policy.
use mathlib.Core.Path.{◌≡◌, refl, sym, ap, ◌∙◌}
use mathlib.Core.List.{List, [], ◌∷◌, map, flat_map}
use mathlib.Core.Bool.{Bool, true, false, cond}
use Prim.Native.Nat.{ℕ, ◌+◌}
use lib.Dec.{eqb}
use Rattle.paper.specs.Common.{is}
use Rattle.paper.specs.Lists.{elements}
use Rattle.paper.specs.Listing.{object_name, object_members, subject_name, subject_members, subject_of_entry, execution_context, can_call, can_return, can_read}
use Rattle.paper.specs.Listing.{can_write, call_context_in, uid_in, gid_in, namespace_in, objects_in, object_context_in}
use Rattle.paper.specs.Page.{Field}
use Rattle.paper.specs.Entries.{is_at, meant, value_at, fields_at, up_to_next, stretches_from, entries_of, items_of}
use Rattle.paper.specs.Rules.{domains_at, identifiers_at}
use Rattle.paper.specs.Policy.{Descriptor, context_of, descriptor_of, access_of, entry_of, member_domains, policy_of}
use Rattle.laws_filled.specs.Fields.{unwritten, numbered, written, filled_fields}

-- a field without its line and start
unfoldable pub says : Field → Field
says f = unwritten f.place f.value

numbered_says : (n at : ℕ) (fs : List Field) → map says (numbered n at fs) ≡ map says fs
unfolding numbered says unwritten
numbered_says n at [] = refl
numbered_says n at (f ∷ fs) = rw (numbered_says (n + 1) _ fs) refl

-- what does not look at lines and starts is the same of the fields of the filled text and of those that are written
pub filled_same : {B : Type 0} (asked : List Field → B) → ((fs : List Field) → asked (map says fs) ≡ asked fs)
    → (fs : List Field) → asked (filled_fields fs) ≡ asked (written fs)
unfolding filled_fields
filled_same asked said fs = sym (said (numbered _ _ (written fs))) ∙ ap asked (numbered_says _ _ (written fs)) ∙ said (written fs)

pub map_same : {A B C : Type 0} (h : A → B) (g : B → C) (f : A → C) → ((x : A) → g (h x) ≡ f x) → (xs : List A) → map g (map h xs) ≡ map f xs
map_same h g f e [] = refl
map_same h g f e (x ∷ xs) = rw (e x, map_same h g f e xs) refl

-- ---- where fields stand does not change with what else is changed of them

module _ (g : Field → Field) (stays : (f : Field) → (g f).place ≡ f.place) (p : ℕ) where
  still : (f : Field) → is_at p (g f) ≡ is_at p f
  still f = ap (λ place. eqb place p) (stays f)

  pub fields_kept : (fs : List Field) → fields_at p (map g fs) ≡ map g (fields_at p fs)
  unfolding fields_at
  fields_kept [] = refl
  fields_kept (f ∷ fs) = go (is_at p (g f)) (is_at p f) (still f) (fields_kept fs)
    where
      go : (s t : Bool) → s ≡ t → fields_at p (map g fs) ≡ map g (fields_at p fs)
          → cond s (g f ∷ fields_at p (map g fs)) (fields_at p (map g fs)) ≡ map g (cond t (f ∷ fields_at p fs) (fields_at p fs))
      go s true h e = rw (h, e) refl
      go s false h e = rw h e

  pub next_kept : (fs : List Field) → up_to_next p (map g fs) ≡ map g (up_to_next p fs)
  unfolding up_to_next
  next_kept [] = refl
  next_kept (f ∷ fs) = go (is_at p (g f)) (is_at p f) (still f) (next_kept fs)
    where
      go : (s t : Bool) → s ≡ t → up_to_next p (map g fs) ≡ map g (up_to_next p fs)
          → cond s [] (g f ∷ up_to_next p (map g fs)) ≡ map g (cond t [] (f ∷ up_to_next p fs))
      go s true h e = rw h refl
      go s false h e = rw (h, e) refl

  pub stretches_kept : (fs : List Field) → stretches_from p (map g fs) ≡ map (map g) (stretches_from p fs)
  unfolding stretches_from
  stretches_kept [] = refl
  stretches_kept (f ∷ fs) = go (is_at p (g f)) (is_at p f) (still f) (next_kept fs) (stretches_kept fs)
    where
      go : (s t : Bool) → s ≡ t → up_to_next p (map g fs) ≡ map g (up_to_next p fs) → stretches_from p (map g fs) ≡ map (map g) (stretches_from p fs)
          → cond s ((g f ∷ up_to_next p (map g fs)) ∷ stretches_from p (map g fs)) (stretches_from p (map g fs))
          ≡ map (map g) (cond t ((f ∷ up_to_next p fs) ∷ stretches_from p fs) (stretches_from p fs))
      go s true h d e = rw (h, d, e) refl
      go s false h d e = rw h e

says_there : (f : Field) → (says f).place ≡ f.place
unfolding says unwritten
says_there f = refl

-- ---- what the definitions look at

module _ (p : ℕ) where
  pub value_says : (fs : List Field) → value_at p (map says fs) ≡ value_at p fs
  unfolding value_at meant says unwritten
  value_says [] = refl
  value_says (f ∷ fs) = rw (value_says fs) refl

  fields_say : (fs : List Field) → fields_at p (map says fs) ≡ map says (fields_at p fs)
  fields_say = fields_kept says says_there p

  pub next_says : (fs : List Field) → up_to_next p (map says fs) ≡ map says (up_to_next p fs)
  next_says = next_kept says says_there p

  pub stretches_say : (fs : List Field) → stretches_from p (map says fs) ≡ map (map says) (stretches_from p fs)
  stretches_say = stretches_kept says says_there p

  pub domains_say : (fs : List Field) → domains_at p (map says fs) ≡ domains_at p fs
  unfolding domains_at says unwritten
  domains_say fs = rw (fields_say fs) (map_same says (λ f. f.value) (λ f. f.value) (λ f. refl) (fields_at p fs))

  members_say : (d : ℕ) (fs : List Field) → member_domains d (map says fs) ≡ member_domains d fs
  unfolding member_domains says unwritten
  members_say d [] = refl
  members_say d (f ∷ fs) = rw (members_say (d + 1) fs) refl

  member_domains_say : (fs : List Field) → member_domains 0 (fields_at p (map says fs)) ≡ member_domains 0 (fields_at p fs)
  member_domains_say fs = rw (fields_say fs) (members_say 0 (fields_at p fs))

  flat_says : (fs : List Field) → flat_map (λ f. elements f.value) (map says fs) ≡ flat_map (λ f. elements f.value) fs
  unfolding flat_map says unwritten
  flat_says [] = refl
  flat_says (f ∷ fs) = rw (flat_says fs) refl

  pub identifiers_say : (fs : List Field) → identifiers_at p (map says fs) ≡ identifiers_at p fs
  unfolding identifiers_at
  identifiers_say fs = rw (fields_say fs) (flat_says (fields_at p fs))

-- ---- the policy

context_says : (functions domains : List (List ℕ)) (place : ℕ) (fs : List Field) → context_of functions domains place (map says fs) ≡ context_of functions domains place fs
unfolding context_of
context_says functions domains place fs =
    rw (
      value_says (call_context_in place) fs,
      value_says (uid_in place) fs,
      value_says (gid_in place) fs,
      value_says (namespace_in place) fs,
    ) refl

module _ (file : List Field) where
  descriptor_says : (a : ℕ) (item : List Field) → descriptor_of (map says file) a (map says item) ≡ descriptor_of file a item
  unfolding descriptor_of
  descriptor_says a item =
      rw (
        identifiers_say subject_members file,
        domains_say subject_name file,
        domains_say object_name file,
        context_says (identifiers_at subject_members file) (domains_at subject_name file) (object_context_in a) item,
        value_says (objects_in a) item,
      ) refl

  access_says : (a : ℕ) (e : List Field) → access_of (map says file) a (map says e) ≡ access_of file a e
  unfolding access_of items_of
  access_says a e =
      rw (
        value_says a e,
        stretches_say (objects_in a) e,
        map_same (map says) (descriptor_of (map says file) a) (descriptor_of file a) (descriptor_says a) (stretches_from (objects_in a) e),
      )
      (ap (λ (d : Descriptor). cond (is "all" (value_at a e)) (d ∷ []) (map (descriptor_of file a) (stretches_from (objects_in a) e)))
      (descriptor_says a []))

  entry_says : (e : List Field) → entry_of (map says file) (map says e) ≡ entry_of file e
  unfolding entry_of
  entry_says e =
      rw (
        identifiers_say subject_members file,
        domains_say subject_name file,
        context_says (identifiers_at subject_members file) (domains_at subject_name file) execution_context e,
        value_says subject_of_entry e,
        value_says can_call e,
        value_says can_return e,
        access_says can_read e,
        access_says can_write e,
      ) refl

  pub policy_says : policy_of (map says file) ≡ policy_of file
  unfolding policy_of entries_of
  policy_says =
      rw (
        domains_say object_name file,
        domains_say subject_name file,
        member_domains_say object_members file,
        member_domains_say subject_members file,
        stretches_say 8 file,
        map_same (map says) (entry_of (map says file)) (entry_of file) entry_says (stretches_from 8 file),
      ) refl
