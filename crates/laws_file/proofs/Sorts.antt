-- The sort that a value of `uid` or `gid` says: a gid is `all` or a variable, and what says a variable is one.
use mathlib.Core.Path.{◌≡◌, refl}
use mathlib.Core.Bool.{Bool, true, false, cond, not, ◌&&◌, ◌||◌, false≢true}
use mathlib.Core.List.{List}
use Prim.Native.Nat.{ℕ}
use Rattle.paper.specs.Common.{is, any_of, is_one}
use Rattle.paper.specs.declared.Scalar.TheVariants.{UidValue, GidValue}
use Rattle.paper.specs.Scalars.{is_name, is_variable, is_uid, is_gid, is_scalar, anyone, variable, root, user, sort_number, sort_of}
use Rattle.laws_table.specs.Proper.{is_gid_sort, is_binding}

module _ (v : List ℕ) where
  pub gid_sort : is_scalar GidValue v ≡ true → is_gid_sort (sort_of v) ≡ true
  unfolding is_scalar is_gid is_variable is_one any_of sort_of is_gid_sort sort_number
  gid_sort h = go (is "all" v) (is "root" v) (is "user" v) (is_name v) h
    where
      go : (a r u n : Bool) → (a || (n && not (a || (r || (u || false))))) ≡ true → is_gid_sort (cond a anyone (cond r root (cond u user variable))) ≡ true
      go true r u n k = refl
      go false false false n k = refl
      go false true u true k = absurd (false≢true k)
      go false true u false k = absurd (false≢true k)
      go false false true true k = absurd (false≢true k)
      go false false true false k = absurd (false≢true k)

  pub uid_variable : is_scalar UidValue v ≡ true → is_binding (sort_of v) ≡ true → is_variable v ≡ true
  unfolding is_scalar is_uid is_one any_of sort_of is_binding sort_number
  uid_variable h b = go (is "all" v) (is "root" v) (is "user" v) (is_variable v) h b
    where
      go : (a r u w : Bool) → ((r || (u || (a || false))) || w) ≡ true → is_binding (cond a anyone (cond r root (cond u user variable))) ≡ true → w ≡ true
      go a r u true k s = refl
      go true r u false k s = absurd (false≢true s)
      go false true u false k s = absurd (false≢true s)
      go false false true false k s = absurd (false≢true s)
      go false false false false k s = k

  pub gid_variable : is_scalar GidValue v ≡ true → is_binding (sort_of v) ≡ true → is_variable v ≡ true
  unfolding is_scalar is_gid sort_of is_binding sort_number
  gid_variable h b = go (is "all" v) (is_variable v) h b
    where
      go : (a w : Bool) → (a || w) ≡ true → is_binding (cond a anyone (cond (is "root" v) root (cond (is "user" v) user variable))) ≡ true → w ≡ true
      go true w k s = absurd (false≢true s)
      go false w k s = k
