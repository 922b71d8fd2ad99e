-- The loop: the things of the fields before number i are written.
use Rattle.std.proofs.Common.{rules}
use Rattle.file_names.proofs.Entering.{its_spacing}
use Rattle.file_listing.proofs.Fields.{things_begin, things_start, things_bytes, things_length, things_done}
use Rattle.file_listing.proofs.Fields.{field_asked, field_fits, field_more}
use Rattle.file_listing.proofs.put_things.Goals as goal

pub loop-i-init : goal.loop-i-init
loop-i-init c = search (rules, things_begin)

pub offset_bounds-out-end : goal.offset_bounds-out-end
offset_bounds-out-end c = search (rules, things_bytes)

pub slice_bounds-put_field-count : goal.slice_bounds-put_field-count
slice_bounds-put_field-count c = search (rules, things_start)

pub slice_bounds-put_field-start : goal.slice_bounds-put_field-start
slice_bounds-put_field-start c = search (rules, things_start)

pub put_field-end-requires-clause-i_value : goal.put_field-end-requires-clause-i_value
put_field-end-requires-clause-i_value c = search (rules, its_spacing)

pub put_field-end-requires-clause-writable : goal.put_field-end-requires-clause-writable
put_field-end-requires-clause-writable c = search (rules, field_asked)

pub overflow_add-end : goal.overflow_add-end
overflow_add-end c = search (rules, field_fits)

pub loop-i-preserved : goal.loop-i-preserved
loop-i-preserved c = search (rules, field_more)

pub shape_of-out : goal.shape_of-out
shape_of-out c = search (rules, things_length)

pub returns : goal.returns
returns c = search (rules, things_done)
