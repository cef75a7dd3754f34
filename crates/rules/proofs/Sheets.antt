-- K1 to K12, a while, lists of entries and askings of two solvers: the definitions give, word for word, what documents 01 and 02 say. The one place where every definition is opened.
-- Assumes nothing.
use mathlib.Core.Path.{◌≡◌, refl}
use Rattle.words.specs.Words.{number_at, word_of, copied}
use Rattle.tables.specs.Sizes.{count_word, label_word, field_word, field_location}
use Rattle.tables.specs.Cells.{location_word, cell_at, put_cell, zeros}
use Rattle.fit.specs.Fit.{sized, cell_fits, environment_fits, label_fits, field_fits, place_fits, record_fits, number_fits, heap_fits, position_fits, room_fits, sort_fits, constraints_fit, cells_fit}
use Rattle.tables.specs.Kept.{kept_word, first_kept, kept_number, kept_count, position_at, blank_position, is_kept, with_position, without_position}
use Rattle.tables.specs.Records.{record_count, count_at, field_count, label_at, field_at, blank_place, blank_record, place_with, field_with, with_record, without_record}
use Rattle.tables.specs.Search.{every, first}
use Rattle.tables.specs.Values.{cell_of, slot_of}
use Rattle.program.specs.Forms.{form_of, verb_of}
use Rattle.program.specs.Reading.{number, any_word, read_labels, read_path, read_paths, read_form, read_expression, read_part, read_parts, read_constraint, among, read_fields, read_new, read_assign, read_verb, read_with, read_statements, read_block, read_statement, ends, place_in, read_program, after}
use Rattle.program.specs.Where.{spot_inside, spot_statement, spot_statements, spot_block, statement_at, is_always, positions_stand, constraints_stand}
use Rattle.rules.specs.Constraints.{satisfies, part_at, parts_at, constraint_at, kept_at, kept_parts, own_parts, counted, all_hold, required_hold}
use Rattle.rules.specs.Evaluation.{op_of, comparable, takes, gives, same, ranged, made, apply, evaluate_form, evaluate, kind_form, kind}
use Rattle.rules.specs.Identities.{is_node, same_now, tie_at, ties_of, ties, member, frozen_by, grown, grown_by, class_of, names, clash_free, put_all, identity_phase}
use Rattle.rules.specs.Paths.{follow, way_at, value_at}
use Rattle.rules.specs.Proposals.{entries, proposal, may_take, entry_fits, entries_fit, put_entry, applied, settle}
use Rattle.rules.specs.Running.{paid, taken, test, tested, turns, do_verb, do_statement, do_statements, do_block}
use Rattle.rules.specs.Entries.{read_entry, do_entry, onwards, judged, next_entry, do_entries, assigns}
use Rattle.rules.specs.Sheets.{given, wanted, sheets, given_lists, wanted_lists, listings, given_askings, wanted_askings, askings}
use Rattle.rules.specs.Solvers.{is_named, has_more, whole, alone, turns_down, then_second, tries, ask}
use Rattle.rules.specs.Start.{budget_fits, values_hold, identities_hold, early, starts, ended, run}
use Rattle.rules.specs.State.{fresh_state, slot_at, listed, positions}
use Rattle.rules.specs.Statements.{has_room, keep, value_phase, do_assign, field_words, do_new, do_constraint, do_identity, do_simple}

pub sheets-hold : given sheets ≡ wanted sheets
unfolding number_at word_of copied count_word label_word field_word field_location location_word cell_at put_cell sized cell_fits environment_fits label_fits field_fits zeros place_fits record_fits number_fits heap_fits position_fits room_fits sort_fits constraints_fit cells_fit kept_word first_kept kept_number kept_count position_at blank_position is_kept with_position without_position record_count count_at field_count label_at field_at blank_place blank_record place_with field_with with_record without_record every first cell_of slot_of form_of verb_of number any_word read_labels read_path read_paths read_form read_expression read_part read_parts read_constraint among read_fields read_new read_assign read_verb read_with read_statements read_block read_statement ends place_in read_program after spot_inside spot_statement spot_statements spot_block statement_at is_always positions_stand constraints_stand satisfies part_at parts_at constraint_at kept_at kept_parts own_parts counted all_hold required_hold op_of comparable takes gives same ranged made apply evaluate_form evaluate kind_form kind is_node same_now tie_at ties_of ties member frozen_by grown grown_by class_of names clash_free put_all identity_phase follow way_at value_at entries proposal may_take entry_fits entries_fit put_entry applied settle paid taken test tested turns do_verb do_statement do_statements do_block given wanted budget_fits values_hold identities_hold early starts ended run fresh_state slot_at listed positions has_room keep value_phase do_assign field_words do_new do_constraint do_identity do_simple
sheets-hold = refl

pub lists-hold : given_lists listings ≡ wanted_lists listings
unfolding number_at word_of copied count_word label_word field_word field_location location_word cell_at put_cell sized cell_fits environment_fits label_fits field_fits zeros place_fits record_fits number_fits heap_fits position_fits room_fits sort_fits constraints_fit cells_fit kept_word first_kept kept_number kept_count position_at blank_position is_kept with_position without_position record_count count_at field_count label_at field_at blank_place blank_record place_with field_with with_record without_record every first cell_of slot_of form_of verb_of number any_word read_labels read_path read_paths read_form read_expression read_part read_parts read_constraint among read_fields read_new read_assign read_verb read_with read_statements read_block read_statement ends place_in read_program after spot_inside spot_statement spot_statements spot_block statement_at is_always positions_stand constraints_stand satisfies part_at parts_at constraint_at kept_at kept_parts own_parts counted all_hold required_hold op_of comparable takes gives same ranged made apply evaluate_form evaluate kind_form kind is_node same_now tie_at ties_of ties member frozen_by grown grown_by class_of names clash_free put_all identity_phase follow way_at value_at entries proposal may_take entry_fits entries_fit put_entry applied settle paid taken test tested turns do_verb do_statement do_statements do_block given_lists wanted_lists read_entry do_entry onwards judged next_entry do_entries assigns budget_fits values_hold identities_hold early starts ended run fresh_state slot_at listed positions has_room keep value_phase do_assign field_words do_new do_constraint do_identity do_simple
lists-hold = refl

pub askings-hold : given_askings askings ≡ wanted_askings askings
unfolding number_at word_of copied count_word label_word field_word field_location location_word cell_at put_cell sized cell_fits environment_fits label_fits field_fits zeros place_fits record_fits number_fits heap_fits position_fits room_fits sort_fits constraints_fit cells_fit kept_word first_kept kept_number kept_count position_at blank_position is_kept with_position without_position record_count count_at field_count label_at field_at blank_place blank_record place_with field_with with_record without_record every first cell_of slot_of form_of verb_of number any_word read_labels read_path read_paths read_form read_expression read_part read_parts read_constraint among read_fields read_new read_assign read_verb read_with read_statements read_block read_statement ends place_in read_program after spot_inside spot_statement spot_statements spot_block statement_at is_always positions_stand constraints_stand satisfies part_at parts_at constraint_at kept_at kept_parts own_parts counted all_hold required_hold op_of comparable takes gives same ranged made apply evaluate_form evaluate kind_form kind is_node same_now tie_at ties_of ties member frozen_by grown grown_by class_of names clash_free put_all identity_phase follow way_at value_at entries proposal may_take entry_fits entries_fit put_entry applied settle given_askings wanted_askings is_named has_more whole alone turns_down then_second tries ask values_hold identities_hold early slot_at listed positions has_room keep value_phase do_assign field_words do_new do_constraint do_identity do_simple
askings-hold = refl
