-- Every definition of the paper opened at once, so that a claim can be computed: a proof says `unfolding computing`.
use mathlib.Core.List.{flat_map}
use Rattle.paper.specs.Common.{all_of, any_of, up_to, count_up, same, is_front_of, is_one, among, number_in, on_piece, cut}
use Rattle.paper.specs.Text.{return_before_feed, may_stand, bad_byte_line, on_line, with_byte, lines_from, column, skipped}
use Rattle.paper.specs.Scalars.{is_letter, is_digit, name_byte, is_name, is_domain_name, is_variable, is_uid, is_gid, sort_number, sort_of, identifier_byte, identifier_first}
use Rattle.paper.specs.Scalars.{is_line_number, meets, object_sorts, is_of_sort, parts_fit, is_identifier, is_scalar}
use Rattle.paper.specs.Lists.{bracketed, spaced, unspaced, elements_in, elements, list_fault}
use Rattle.paper.specs.Listing.{bare_is_none, value_fault, listing, row_at, key_at, dashed, alongside, begins_block, at_block}
use Rattle.paper.specs.Page.{before_first, is_left_empty, places_for, place_of, one_space_and_value, field_step, after_key, place_step, unless_empty, line_step, at_end, page_from, page_of}
use Rattle.paper.specs.Entries.{is_at_one, call_contexts, default_at, meant, value_at, fields_at, up_to_next, stretches_from, entries_of, items_of, line_of_entry}
use Rattle.paper.specs.Rules.{earlier, earliest, first_with, passing, one_at, members_at, descriptors_of, descriptors_in, long_pattern, over_limit, repeats, repeated, domain_named}
use Rattle.paper.specs.Rules.{members_named, subject_lists, object_lists, repeats_in_list, named_twice, domains_at, identifiers_at, element_names, all_known, names_unknown, unknown_name}
use Rattle.paper.specs.Rules.{in_object_contexts, is_unbound_key, is_unbound, unbound_variable, same_sort, same_sort_at, same_principal, twin_after, twin_principal, unless_line, ruled}
use Rattle.paper.specs.Policy.{element_of, context_of, grant_of, descriptor_of, access_of, entry_of, member_domains, policy_of}
use Rattle.paper.specs.Table.{padded, element_word, context_words, bits_word, set_words, grant_words, entry_words, descriptor_words, words_of, element_in, sort_in, context_in, is_in}
use Rattle.paper.specs.Table.{with_domain, grant_in, descriptor_in, first_descriptor, entry_in, policy_in, zeros, counts_fit, members_fit, element_listed, context_fits, grant_fits, entry_fits}
use Rattle.paper.specs.Table.{descriptor_fits, entries_fit, descriptors_fit, one_principal, principals_differ, bound_at, bound_by, variables_bound, well_formed}
use Rattle.paper.specs.Match.{lies_in, swallowing, first_meets, matches, top_lies_in, sort_fits, sorts_fit, entry_matches, allocated_sort_fits, allocated_sorts_fit}
use Rattle.paper.specs.Match.{fits_allocated, is_all, is_anyone, sorts_anyone, fits_static, context_fits_object, grants, descriptor_grants, some_descriptor_grants}
use Rattle.paper.specs.Verdict.{is_code, targets_of, target_number, target_listed, target_domain, inside_one_domain, entry_grants, by_entries, verdict_of}
use Rattle.paper.specs.Overlap.{entry_of_policy, is_user, witness_uid, witness_left, NotAbove, NotAfter}
use Rattle.paper.specs.Filled.{key_line, bare_line, written_line, value_line, context_text, item_text, access_text, entry_text, filled_text}
use Rattle.paper.specs.Lookup.{front, stretch_of, name_among}
use Rattle.paper.specs.Promises.{text_page, file_of, read_answer, read_leaves, written_in, fill_answer, fill_leaves, access_for, judge_event, judge_answer}
use Rattle.paper.specs.Promises.{report_refusal, Reported, lookup_answer, lookup_numbered}
use Rattle.paper.specs.Program.{last_digits, decimal, refusal_line, program_writes, program_size, program_leaves}

unfoldable pub computing : Unit {0}
unfolding flat_map all_of any_of up_to count_up same is_front_of is_one among number_in on_piece cut return_before_feed may_stand bad_byte_line on_line with_byte lines_from column skipped
    is_letter is_digit name_byte is_name is_domain_name is_variable is_uid is_gid sort_of identifier_byte identifier_first is_line_number meets object_sorts is_of_sort parts_fit
    is_identifier is_scalar bracketed spaced unspaced elements_in elements list_fault bare_is_none value_fault listing row_at key_at dashed alongside begins_block at_block
    before_first is_left_empty places_for place_of one_space_and_value field_step after_key place_step unless_empty line_step at_end page_from page_of is_at_one call_contexts
    default_at meant value_at fields_at up_to_next stretches_from entries_of items_of line_of_entry earlier earliest first_with passing one_at members_at descriptors_of
    descriptors_in long_pattern over_limit repeats repeated domain_named members_named subject_lists object_lists repeats_in_list named_twice domains_at identifiers_at
    element_names all_known names_unknown unknown_name in_object_contexts is_unbound_key is_unbound unbound_variable sort_number same_sort same_sort_at same_principal twin_after twin_principal
    unless_line ruled element_of context_of grant_of descriptor_of access_of entry_of member_domains policy_of padded element_word context_words bits_word set_words
    grant_words entry_words descriptor_words words_of element_in sort_in context_in is_in with_domain grant_in descriptor_in first_descriptor entry_in policy_in zeros
    counts_fit members_fit element_listed context_fits grant_fits entry_fits descriptor_fits entries_fit descriptors_fit one_principal principals_differ bound_at bound_by variables_bound
    well_formed lies_in swallowing first_meets matches top_lies_in sort_fits sorts_fit entry_matches allocated_sort_fits allocated_sorts_fit fits_allocated
    is_all is_anyone sorts_anyone fits_static context_fits_object grants
    descriptor_grants some_descriptor_grants is_code targets_of target_number target_listed target_domain inside_one_domain entry_grants by_entries verdict_of entry_of_policy
    is_user witness_uid witness_left NotAbove NotAfter key_line bare_line written_line value_line context_text item_text access_text entry_text filled_text front stretch_of name_among text_page
    file_of read_answer read_leaves written_in fill_answer fill_leaves access_for judge_event judge_answer report_refusal Reported lookup_answer lookup_numbered
    last_digits decimal refusal_line program_writes program_size program_leaves
computing = tt
