-- The fields that stand there, one after the other.
use Rattle.std.proofs.Common.{rules, refl}
use Rattle.std.proofs.lemmas.Iterator.{YieldsList-from_slice}
use Rattle.std.proofs.lemmas.Iterator.Consumers.{nth_from_yields_List, YieldsList-from_filter, YieldsList-from_copied}
use Rattle.file_fields.specs.Fields.{stands_at}
use Rattle.file_lookup.proofs.Placed.{as_it_is}
use Rattle.file_lookup.proofs.field_among.Goals as goal

pub returns : goal.returns
returns c =
    as_it_is _ _
    (nth_from_yields_List c.nth.result _ c.args.d c.nth.ensures.ran
    (YieldsList-from_copied (YieldsList-from_filter _ (stands_at c.args.place) (YieldsList-from_slice c.args.file.fields.now (search rules)) refl (λ x b q k. search rules))))
