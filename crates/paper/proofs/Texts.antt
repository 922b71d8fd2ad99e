-- Texts with the number and line that each gets, 0 and 0 where it is accepted: what the claims on refusals are written in.
use Prim.Native.Nat.{ℕ}
use Prim.Native.String.{String}
use mathlib.Core.List.{List, ◌++◌, map, flat_map}
use Rattle.paper.specs.Common.{bytes, count_up}
use Rattle.paper.specs.Page.{Field, Outcome, fields, fault}
use Rattle.paper.specs.Promises.{file_of}

pub record Told : Type 0 where
  pub number : ℕ
  pub line : ℕ

pub record Trial : Type 0 where
  pub given : List ℕ
  pub told : Told

abbrev pub tell : Outcome → Told
tell (fields fs) = record { number = 0; line = 0 }
tell (fault n l) = record { number = n; line = l }

-- what the definitions give, and what is claimed of it
abbrev pub computed : List Trial → List Told
computed trials = map (λ (t : Trial). tell (file_of t.given)) trials

abbrev pub claimed : List Trial → List Told
claimed trials = map (λ (t : Trial). t.told) trials

abbrev pub given : List ℕ → ℕ → ℕ → Trial
given t n l = record { given = t; told = record { number = n; line = l } }

-- a text as it stands
abbrev pub text : String → ℕ → ℕ → Trial
text s n l = given (bytes s) n l

-- lines 1 to 7: object domain A, and subject domain B with the function f|g
abbrev pub maps : List ℕ
maps = bytes "object_map:\n- name: A\n  objects: []\nsubject_map:\n- name: B\n  subjects: [f|g]\nprivileges:\n"

-- what stands from line 8 on
abbrev pub privileges : List ℕ → ℕ → ℕ → Trial
privileges s n l = given (maps ++ s) n l

-- what stands from line 10 on, in an entry for B
abbrev pub entry_of : List ℕ → ℕ → ℕ → Trial
entry_of s n l = privileges (bytes "- principal:\n    subject: B\n" ++ s) n l

abbrev pub entry : String → ℕ → ℕ → Trial
entry s n l = entry_of (bytes s) n l

-- what stands from line 11 on, in that entry's execution context
abbrev pub context_of : List ℕ → ℕ → ℕ → Trial
context_of s n l = entry_of (bytes "    execution_context:\n" ++ s) n l

abbrev pub context : String → ℕ → ℕ → Trial
context s n l = context_of (bytes s) n l

-- a read or a write of A with keys in its object context, the first of them on the fourth line
abbrev pub reading : String → List ℕ
reading keys = bytes "  can_read:\n  - objects: [A]\n    object_context:\n" ++ bytes keys

abbrev pub writing : String → List ℕ
writing keys = bytes "  can_write:\n  - objects: [A]\n    object_context:\n" ++ bytes keys

-- a pattern of 17 elements
abbrev pub seventeen : String
seventeen = "      call_context: [all, all, all, all, all, all, all, all, all, all, all, all, all, all, all, all, all]\n"

-- one object identifier on line 3
abbrev pub objects : String → ℕ → ℕ → Trial
objects s n l = given (bytes "object_map:\n- name: A\n  objects: [" ++ (bytes s ++ bytes "]\nsubject_map: []\nprivileges: []\n")) n l

-- one subject identifier on line 4
abbrev pub subjects : String → ℕ → ℕ → Trial
subjects s n l = given (bytes "object_map: []\nsubject_map:\n- name: B\n  subjects: [" ++ (bytes s ++ bytes "]\nprivileges: []\n")) n l

-- a stretch so many times
abbrev pub times : ℕ → List ℕ → List ℕ
times k s = flat_map (λ i. s) (count_up 0 k)

-- a field with this value
abbrev pub at : ℕ → List ℕ → ℕ → Field
at place value line = record { line = line; place = place; start = 0; value = value }
