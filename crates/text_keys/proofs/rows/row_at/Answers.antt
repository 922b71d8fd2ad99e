-- Each arm by computing its row of the listing; past the last, the listing has none.
use Rattle.std.proofs.Common.{refl}
use Rattle.paper.specs.Listing.{row_at, listing}
use Rattle.text_keys.proofs.Listed.{row_is, row_past, none_of}
use Rattle.text_keys.proofs.rows.row_at.Goals as goal

pub returns-in-0 : goal.returns-in-0
unfolding row_at listing
returns-in-0 c = row_is _ 0 _ _ c.in-0.is c.required.ensures refl

pub returns-in-1 : goal.returns-in-1
unfolding row_at listing
returns-in-1 c = row_is _ 1 _ _ c.in-1.is c.items.ensures refl

pub returns-in-2 : goal.returns-in-2
unfolding row_at listing
returns-in-2 c = row_is _ 2 _ _ c.in-2.is c.required-in-2.ensures refl

pub returns-in-3 : goal.returns-in-3
unfolding row_at listing
returns-in-3 c = row_is _ 3 _ _ c.in-3.is c.required-in-3.ensures refl

pub returns-in-4 : goal.returns-in-4
unfolding row_at listing
returns-in-4 c = row_is _ 4 _ _ c.in-4.is c.items-in-4.ensures refl

pub returns-in-5 : goal.returns-in-5
unfolding row_at listing
returns-in-5 c = row_is _ 5 _ _ c.in-5.is c.required-in-5.ensures refl

pub returns-in-6 : goal.returns-in-6
unfolding row_at listing
returns-in-6 c = row_is _ 6 _ _ c.in-6.is c.required-in-6.ensures refl

pub returns-in-7 : goal.returns-in-7
unfolding row_at listing
returns-in-7 c = row_is _ 7 _ _ c.in-7.is c.items-in-7.ensures refl

pub returns-in-8 : goal.returns-in-8
unfolding row_at listing
returns-in-8 c = row_is _ 8 _ _ c.in-8.is c.block.ensures refl

pub returns-in-9 : goal.returns-in-9
unfolding row_at listing
returns-in-9 c = row_is _ 9 _ _ c.in-9.is c.field.ensures refl

pub returns-in-10 : goal.returns-in-10
unfolding row_at listing
returns-in-10 c = row_is _ 10 _ _ c.in-10.is c.context.ensures refl

pub returns-in-11 : goal.returns-in-11
unfolding row_at listing
returns-in-11 c = row_is _ 11 _ _ c.in-11.is c.field-in-11.ensures refl

pub returns-in-12 : goal.returns-in-12
unfolding row_at listing
returns-in-12 c = row_is _ 12 _ _ c.in-12.is c.field-in-12.ensures refl

pub returns-in-13 : goal.returns-in-13
unfolding row_at listing
returns-in-13 c = row_is _ 13 _ _ c.in-13.is c.field-in-13.ensures refl

pub returns-in-14 : goal.returns-in-14
unfolding row_at listing
returns-in-14 c = row_is _ 14 _ _ c.in-14.is c.field-in-14.ensures refl

pub returns-in-15 : goal.returns-in-15
unfolding row_at listing
returns-in-15 c = row_is _ 15 _ _ c.in-15.is c.field-in-15.ensures refl

pub returns-in-16 : goal.returns-in-16
unfolding row_at listing
returns-in-16 c = row_is _ 16 _ _ c.in-16.is c.field-in-16.ensures refl

pub returns-in-17 : goal.returns-in-17
unfolding row_at listing
returns-in-17 c = row_is _ 17 _ _ c.in-17.is c.access.ensures refl

pub returns-in-18 : goal.returns-in-18
unfolding row_at listing
returns-in-18 c = row_is _ 18 _ _ c.in-18.is c.field-in-18.ensures refl

pub returns-in-19 : goal.returns-in-19
unfolding row_at listing
returns-in-19 c = row_is _ 19 _ _ c.in-19.is c.context-in-19.ensures refl

pub returns-in-20 : goal.returns-in-20
unfolding row_at listing
returns-in-20 c = row_is _ 20 _ _ c.in-20.is c.field-in-20.ensures refl

pub returns-in-21 : goal.returns-in-21
unfolding row_at listing
returns-in-21 c = row_is _ 21 _ _ c.in-21.is c.field-in-21.ensures refl

pub returns-in-22 : goal.returns-in-22
unfolding row_at listing
returns-in-22 c = row_is _ 22 _ _ c.in-22.is c.field-in-22.ensures refl

pub returns-in-23 : goal.returns-in-23
unfolding row_at listing
returns-in-23 c = row_is _ 23 _ _ c.in-23.is c.field-in-23.ensures refl

pub returns-in-24 : goal.returns-in-24
unfolding row_at listing
returns-in-24 c = row_is _ 24 _ _ c.in-24.is c.access-in-24.ensures refl

pub returns-in-25 : goal.returns-in-25
unfolding row_at listing
returns-in-25 c = row_is _ 25 _ _ c.in-25.is c.field-in-25.ensures refl

pub returns-in-26 : goal.returns-in-26
unfolding row_at listing
returns-in-26 c = row_is _ 26 _ _ c.in-26.is c.context-in-26.ensures refl

pub returns-in-27 : goal.returns-in-27
unfolding row_at listing
returns-in-27 c = row_is _ 27 _ _ c.in-27.is c.field-in-27.ensures refl

pub returns-in-28 : goal.returns-in-28
unfolding row_at listing
returns-in-28 c = row_is _ 28 _ _ c.in-28.is c.field-in-28.ensures refl

pub returns-in-29 : goal.returns-in-29
unfolding row_at listing
returns-in-29 c = row_is _ 29 _ _ c.in-29.is c.field-in-29.ensures refl

pub returns-in-30 : goal.returns-in-30
unfolding row_at listing
returns-in-30 c = row_is _ 30 _ _ c.in-30.is c.field-in-30.ensures refl

pub returns-in_default : goal.returns-in_default
returns-in_default c = row_past _ _ (none_of 31 _ c.in_default.in_default-own.rest) c.required-in_default.ensures
