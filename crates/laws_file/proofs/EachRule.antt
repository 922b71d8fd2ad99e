-- Each rule over the whole file answers the smallest line at fault of it, and no line exactly where none is: of any fields whose lines ascend, as a page's do.
use mathlib.Core.Path.{◌≡◌}
use mathlib.Core.Bool.{true, false}
use mathlib.Core.List.{List}
use Prim.Native.Nat.{ℕ}
use native.Mathlib.Omega.{arith}
use Rattle.paper.specs.Common.{all_of}
use Rattle.paper.specs.Text.{lines}
use Rattle.paper.specs.Page.{Field, fields, before_first, page_of}
use Rattle.paper.specs.Rules.{over_limit, named_twice, unknown_name, unbound_variable, twin_principal}
use Rattle.laws_page.specs.Right.{Ascending, is_right, is_numbered, in_listing_order}
use Rattle.laws_page.proofs.Right.{fields_ascend, fields_right, fields_numbered, fields_in_order}
use Rattle.laws_file.specs.Rules.{Answers, OverLimit, NamedTwice, UnknownName, UnboundVariable, TwinPrincipal}
use Rattle.laws_file.proofs.Smallest.{answers}
use Rattle.laws_file.proofs.Counts.{over_limit_lem}
use Rattle.laws_file.proofs.Repeats.{named_twice_lem}
use Rattle.laws_file.proofs.Unknown.{unknown_name_lem}
use Rattle.laws_file.proofs.InEntries.{unbound_variable_lem, twin_principal_lem}

-- ---- the fields of a page

-- "numbered, from 1"
pub page_ascends : (t : List ℕ) (fs : List Field) → page_of t ≡ fields fs → Ascending (λ f. f.line) 1 fs
unfolding page_of
page_ascends t fs page = fields_ascend before_first 1 (lines t) fs page

pub page_right : (t : List ℕ) (fs : List Field) → page_of t ≡ fields fs → all_of is_right fs ≡ true
unfolding page_of
page_right t fs page = fields_right before_first 1 (lines t) fs page

pub page_numbered : (t : List ℕ) (fs : List Field) → page_of t ≡ fields fs → all_of is_numbered fs ≡ true
unfolding page_of
page_numbered t fs page = fields_numbered before_first 1 (lines t) fs (omega arith) page

pub page_in_order : (t : List ℕ) (fs : List Field) → page_of t ≡ fields fs → in_listing_order 0 false fs ≡ true
unfolding page_of before_first
page_in_order t fs page = fields_in_order before_first 1 (lines t) fs page

-- ---- the rules

module _ (fs : List Field) (a : Ascending (λ f. f.line) 1 fs) where
  -- 6
  pub over_limit_answers : Answers (OverLimit fs) (over_limit fs)
  over_limit_answers = answers (over_limit fs) (over_limit_lem fs a)

  -- 7
  pub named_twice_answers : Answers (NamedTwice fs) (named_twice fs)
  named_twice_answers = answers (named_twice fs) (named_twice_lem fs a)

  -- 8
  pub unknown_name_answers : Answers (UnknownName fs) (unknown_name fs)
  unknown_name_answers = answers (unknown_name fs) (unknown_name_lem fs a)

  -- 10
  pub unbound_variable_answers : Answers (UnboundVariable fs) (unbound_variable fs)
  unbound_variable_answers = answers (unbound_variable fs) (unbound_variable_lem fs a)

  -- 11: "pattern elements are equal" where their texts are, since these are right
  pub twin_principal_answers : all_of is_right fs ≡ true → Answers (TwinPrincipal fs) (twin_principal fs)
  twin_principal_answers right = answers (twin_principal fs) (twin_principal_lem fs a right)
