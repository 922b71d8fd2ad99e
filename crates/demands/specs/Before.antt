-- The verdicts of document 01 as they were before document 02 g: its own sentences over uid and gid, in which a moment's namespace plays no part.
use Rattle.std.specs.Prelude.{ℕ, ◌+◌, List, [], ◌∷◌, Bool, true, false, cond, not, ◌&&◌, ltb, length, get_or}
use Rattle.paper.specs.declared.Access.{Access}
use Rattle.paper.specs.declared.Access.TheVariants.{Read, Write, Call, Return}
use Rattle.paper.specs.declared.Verdict.{Verdict}
use Rattle.paper.specs.declared.Verdict.TheVariants.{Inside, Granted, Violation, Unjudged}
use Rattle.paper.specs.Common.{within, is_empty, all_of, any_of}
use Rattle.paper.specs.Limits.{most_frames}
use Rattle.paper.specs.Listing.{execution_context, namespace_in}
use Rattle.paper.specs.Page.{Field}
use Rattle.paper.specs.Entries.{is_at_one}
use Rattle.paper.specs.Rules.{in_object_contexts}
use Rattle.paper.specs.Policy.{Context, Descriptor, Entry, Policy}
use Rattle.paper.specs.Match.{Moment, top, is_listed, matches, top_lies_in, sort_fits, allocated_sort_fits, is_all, is_anyone, grants}
use Rattle.paper.specs.Verdict.{target_listed, target_domain, inside_one_domain}
use Rattle.paper.specs.Promises.{access_for}

-- a file without the key: no field of it stands at a `namespace`
unfoldable pub without_namespace : List Field → Bool
without_namespace file = all_of (λ f. not (is_at_one (namespace_in execution_context ∷ in_object_contexts namespace_in) f)) file

-- "An entry matches when the top frame's domain is its subject, the pattern matches the whole stack, and uid fits"; gid likewise
unfoldable pub matches_before : Policy → Entry → Moment → Bool
matches_before p e m =
    top_lies_in p e.subject m.stack
    && matches p.functions e.context.pattern m.stack
    && (sort_fits e.context.uid m.uid && sort_fits e.context.gid m.gid)

-- "An object context fits an allocated object likewise, a variable there needing the bound number. It fits a static object only with every pattern
-- element `all` and uid and gid `all`."
unfoldable pub fits_before : Policy → Context → Moment → Moment → Bool
fits_before p c m allocation =
    cond (is_empty allocation.stack)
    (all_of is_all c.pattern && (is_anyone c.uid && is_anyone c.gid))
    (matches p.functions c.pattern allocation.stack
    && (allocated_sort_fits c.uid m.uid allocation.uid && allocated_sort_fits c.gid m.gid allocation.gid))

-- "A read or write is granted by one descriptor that lists the domain and whose context fits."
unfoldable pub descriptor_grants_before : Policy → ℕ → Moment → Moment → Descriptor → Bool
descriptor_grants_before p d m allocation a = grants a.objects d && fits_before p a.context m allocation

-- an entry grants the access
unfoldable pub grants_before : Policy → Entry → Access → Moment → Moment → Bool
grants_before p e (Read o) m allocation = any_of (descriptor_grants_before p (target_domain p (Read o)) m allocation) e.reads
grants_before p e (Write o) m allocation = any_of (descriptor_grants_before p (target_domain p (Write o)) m allocation) e.writes
grants_before p e (Call f) m allocation = grants e.calls (target_domain p (Call f))
grants_before p e (Return f) m allocation = grants e.returns (target_domain p (Return f))

-- "allowed, with the lowest matching entry that grants; violation 3, no entry matches; violation 4, none that match grants it"
unfoldable pub by_entries_before : Policy → Access → Moment → Moment → ℕ → Bool → List Entry → Verdict
by_entries_before p a m allocation k matched [] = Violation (cond matched 4 3)
by_entries_before p a m allocation k matched (e ∷ es) =
    cond (matches_before p e m && grants_before p e a m allocation)
    (Granted k)
    (by_entries_before p a m allocation (k + 1) (cond (matches_before p e m) true matched) es)

-- "Verdict, in order"
unfoldable pub verdict_before : Policy → Access → Moment → Moment → Verdict
verdict_before p a m allocation =
    cond (not (is_listed p.functions (top m.stack))) (Violation 1)
    (cond (not (target_listed p a)) (Violation 2)
    (cond (inside_one_domain p a (get_or p.functions (top m.stack) 0)) Inside
    (by_entries_before p a m allocation 0 false p.entries)))

-- 21, 22 and 23 go before it
unfoldable pub judged_before : Policy → ℕ → ℕ → Moment → Moment → Verdict
judged_before p operation target m allocation =
    cond (not (within 1 most_frames (length m.stack))) (Unjudged 21)
    (cond (ltb most_frames (length allocation.stack)) (Unjudged 22)
    (cond (not (within 1 4 operation)) (Unjudged 23)
    (verdict_before p (access_for operation target) m allocation)))
