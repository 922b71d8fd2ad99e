-- "all else keeps its order": the filled text has the names and identifiers of the maps as the file has them, so their numbers stay.
use mathlib.Core.Path.{◌≡◌, refl, sym, ap, ◌∙◌}
use mathlib.Core.List.{List, [], map}
use mathlib.Core.Bool.{Bool, true, false, cond}
use Prim.Native.Nat.{ℕ, ◌≤◌}
use native.Mathlib.Omega.{arith}
use lib.Dec.{ltb}
use lib.ListN.{length, get_or, take, get_or-map, get_or-eq_default, length-map}
use borrow.Author.Tests.{ltb-false}
use Rattle.paper.specs.declared.Map.{Map}
use Rattle.paper.specs.declared.Map.TheVariants.{Objects, Subjects}
use Rattle.paper.specs.declared.Filling.TheVariants.{Written}
use Rattle.paper.specs.Limits.{text_bytes}
use Rattle.paper.specs.Listing.{object_name, object_members, subject_name, subject_members}
use Rattle.paper.specs.Page.{Field, no_field, fields}
use Rattle.paper.specs.Entries.{fields_at}
use Rattle.paper.specs.Rules.{domains_at}
use Rattle.paper.specs.Filled.{filled_text}
use Rattle.paper.specs.Lookup.{front, stretch_of, names_of, name_among}
use Rattle.paper.specs.Promises.{file_of, fill_answer, fill_leaves, lookup_answer}
use Rattle.laws_file.proofs.EachRule.{page_in_order}
use Rattle.laws_file.proofs.Reader.{accepted_page}
use Rattle.laws_filled.specs.Fields.{filled_fields}
use Rattle.laws_filled.specs.Clean.{SameNames}
use Rattle.laws_filled.proofs.FilledNames.{domains_filled, identifiers_filled}
use Rattle.laws_filled.proofs.Filler.{Filled, was_filled, left_text}
use Rattle.laws_filled.proofs.RoundTrip.{filled_file}

-- the bytes of the name of domain d, whatever its place in the text
name_bytes_lem : (d : ℕ) (fs : List Field) → (name_among fs d).bytes ≡ get_or (map (λ f. f.value) fs) d []
unfolding name_among stretch_of front
name_bytes_lem d fs = go (ltb d (length fs)) refl
  where
    go : (b : Bool) → ltb d (length fs) ≡ b → (cond b (stretch_of (get_or fs d no_field)) front).bytes ≡ get_or (map (λ f. f.value) fs) d []
    go true e = sym (get_or-map (λ (f : Field). f.value) fs d no_field)
    go false e =
        let few : length (map (λ (f : Field). f.value) fs) ≤ d = rw length-map (ltb-false d (length fs) e) in
        sym (get_or-eq_default (map (λ (f : Field). f.value) fs) [] {n = d} few)

domain_bytes : (p d : ℕ) (fs : List Field) → (name_among (fields_at p fs) d).bytes ≡ get_or (domains_at p fs) d []
unfolding domains_at
domain_bytes p d fs = name_bytes_lem d (fields_at p fs)

same_bytes : (which : Map) (d : ℕ) (fs gs : List Field) → SameNames fs gs
    → (name_among (fields_at (names_of which) gs) d).bytes ≡ (name_among (fields_at (names_of which) fs) d).bytes
same_bytes Objects d fs gs s =
    domain_bytes object_name d gs ∙ ap (λ (names : List (List ℕ)). get_or names d []) s.object_domains ∙ sym (domain_bytes object_name d fs)
same_bytes Subjects d fs gs s =
    domain_bytes subject_name d gs ∙ ap (λ (names : List (List ℕ)). get_or names d []) s.subject_domains ∙ sym (domain_bytes subject_name d fs)

-- ---- the filled text of a file

module _ (t : List ℕ) (fs : List Field) (accepted : file_of t ≡ fields fs) where
  names_filled : SameNames fs (filled_fields fs)
  names_filled =
      let o = page_in_order t fs (accepted_page t fs accepted).0 in
      record {
        object_domains = domains_filled fs o object_name (omega arith);
        subject_domains = domains_filled fs o subject_name (omega arith);
        objects = identifiers_filled fs o object_members (omega arith);
        functions = identifiers_filled fs o subject_members (omega arith);
      }

  module _ (short : length (filled_text fs) ≤ text_bytes) where
    -- of every text that the reader accepts and whose filled text is not too long: what the reader finds in the filled text
    pub names_stay : (gs : List Field) → file_of (filled_text fs) ≡ fields gs → SameNames fs gs
    names_stay gs again =
        let e : fields (filled_fields fs) ≡ fields gs = sym (filled_file t fs accepted short) ∙ again in
        let s : filled_fields fs ≡ gs = cc in
        rw s at names_filled

-- ---- the same of what the filler wrote

module _ (t out : List ℕ) (size : ℕ) (h : fill_answer t out ≡ Written size) where
  abbrev filled : Filled t out size
  filled = was_filled t out size h

  again : file_of (take size (fill_leaves t out)) ≡ fields (filled_fields filled.fs)
  again = rw (left_text t out size h) (filled_file t filled.fs filled.accepted filled.short)

  -- what the reader finds in both
  pub names_written : (fs gs : List Field) → file_of t ≡ fields fs → file_of (take size (fill_leaves t out)) ≡ fields gs → SameNames fs gs
  names_written fs gs accepted read =
      let d : fields filled.fs ≡ fields fs = sym filled.accepted ∙ accepted in
      let e : fields (filled_fields filled.fs) ≡ fields gs = sym again ∙ read in
      let p : fs ≡ filled.fs = cc in
      let q : gs ≡ filled_fields filled.fs = cc in
      rw (p, q) (names_filled t filled.fs filled.accepted)

  -- the numbers of domains stay: each has the same name in both texts, byte for byte; where there is none, both are empty
  pub name_stays : (which : Map) (d : ℕ) → (lookup_answer (take size (fill_leaves t out)) which d).bytes ≡ (lookup_answer t which d).bytes
  unfolding lookup_answer
  name_stays which d =
      rw (again, filled.accepted) (same_bytes which d filled.fs (filled_fields filled.fs) (names_filled t filled.fs filled.accepted))
