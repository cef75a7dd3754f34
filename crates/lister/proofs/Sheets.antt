-- Document 01's input gives its numbers, and its tables give its output; unfit texts give their line. Every definition is opened here.
-- Assumes nothing.
use mathlib.Core.Path.{◌≡◌, refl}
use Rattle.words.specs.Words.{number_at}
use Rattle.tables.specs.Sizes.{count_word, label_word, field_word}
use Rattle.tables.specs.Cells.{cell_at}
use Rattle.tables.specs.Records.{record_count, count_at, field_count, label_at, field_at}
use Rattle.tables.specs.Kept.{kept_word, first_kept, kept_number, kept_count, position_at}
use Rattle.tables.specs.Values.{slot_of}
use Rattle.lister.specs.Bytes.{up_to, past, pieces, begins}
use Rattle.lister.specs.Numerals.{digit_of, value_from, natural_in, positive_of, negative_of, numeral_in, digits_by, digits, numeral}
use Rattle.lister.specs.Reading.{numbers_in, row_in, list_in, line_in, budget_line, budget_in, lines_in, input_in}
use Rattle.lister.specs.Listing.{value_text, given_text, named_line, counted_line, each_below, variable_text, variables_text, field_text, fields_text, record_text, shown_records, records_text, positions_text, tables_text, answer_text, listing}
use Rattle.lister.specs.Sheets.{input_text, input_given, cut_text, cut_given, unfit_texts, unfit_lines, answers, unfit, output_text, output_cells, output_constraints, values_text, values_cells, values_constraints}

pub input-sheet : input_in input_text ≡ input_given
unfolding up_to past pieces begins digit_of value_from natural_in positive_of negative_of numeral_in numbers_in row_in list_in line_in budget_line budget_in lines_in input_in
input-sheet = refl

pub cut-sheet : input_in cut_text ≡ cut_given
unfolding up_to past pieces begins digit_of value_from natural_in positive_of negative_of numeral_in numbers_in row_in list_in line_in budget_line budget_in lines_in input_in
cut-sheet = refl

pub unfit-sheet : answers unfit_texts ≡ unfit unfit_lines
unfolding up_to past pieces begins digit_of value_from natural_in positive_of negative_of numeral_in numbers_in row_in list_in line_in budget_line budget_in lines_in input_in answers unfit
unfit-sheet = refl

pub output-sheet : listing 0 33 3 3 output_cells output_constraints ≡ output_text
unfolding number_at count_word label_word field_word cell_at record_count count_at field_count label_at field_at kept_word first_kept kept_number kept_count position_at slot_of digits_by digits numeral value_text given_text named_line counted_line each_below variable_text variables_text field_text fields_text record_text shown_records records_text positions_text tables_text answer_text listing
output-sheet = refl

pub values-sheet : listing 12 7 1000000 20 values_cells values_constraints ≡ values_text
unfolding number_at count_word label_word field_word cell_at record_count count_at field_count label_at field_at kept_word first_kept kept_number kept_count position_at slot_of digits_by digits numeral value_text given_text named_line counted_line each_below variable_text variables_text field_text fields_text record_text shown_records records_text positions_text tables_text answer_text listing
values-sheet = refl
