-- Where a region's row and exits stand (rules 7.2, 7.3). Assumes nothing.
use Rattle.std.specs.Prelude.{List, ℕ, ◌+◌, ◌*◌, get_or}
use Rattle.table.specs.declared.Field.{Field}
use Rattle.table.specs.declared.Field.TheVariants.{Colour, Size, FirstRow, FirstColumn, Mark}

-- the five cells of a row, in their order (rule 7.2); the mark is 1 for a node, else 0
abbrev pub colour_field : ℕ
colour_field = 0

abbrev pub size_field : ℕ
size_field = 1

abbrev pub row_field : ℕ
row_field = 2

abbrev pub column_field : ℕ
column_field = 3

abbrev pub mark_field : ℕ
mark_field = 4

-- the fields as the code has them
abbrev pub field_number : Field → ℕ
field_number Colour = colour_field
field_number Size = size_field
field_number FirstRow = row_field
field_number FirstColumn = column_field
field_number Mark = mark_field

abbrev pub row_cell : ℕ → ℕ → ℕ
row_cell region field = region * 5 + field

-- a region's eight exits stand by state (rule 7.3)
abbrev pub exit_cell : ℕ → ℕ → ℕ
exit_cell region state = 8 * region + state

-- the cells of n regions
abbrev pub rows_room : ℕ → ℕ
rows_room n = n * 5

abbrev pub exits_room : ℕ → ℕ
exits_room n = 8 * n

-- what stands there: a field of a region's row, and a region's exit in a state
abbrev pub field_at : List ℕ → ℕ → ℕ → ℕ
field_at rows region field = get_or rows (row_cell region field) 0

abbrev pub exit_at : List ℕ → ℕ → ℕ → ℕ
exit_at exits region state = get_or exits (exit_cell region state) 0

-- a region's size, and its node mark
abbrev pub size_of : List ℕ → ℕ → ℕ
size_of rows region = field_at rows region size_field

abbrev pub mark_of : List ℕ → ℕ → ℕ
mark_of rows region = field_at rows region mark_field

-- the numbers of a row, apart from where they stand
pub record RowNumbers : Type 0 where
  pub colour : ℕ
  pub size : ℕ
  pub row : ℕ
  pub column : ℕ
  pub mark : ℕ

-- a region's row
abbrev pub row_at : List ℕ → ℕ → RowNumbers
row_at rows region = record {
  colour = field_at rows region colour_field;
  size = size_of rows region;
  row = field_at rows region row_field;
  column = field_at rows region column_field;
  mark = mark_of rows region;
}

-- a row of zeros
abbrev pub blank : RowNumbers
blank = record { colour = 0; size = 0; row = 0; column = 0; mark = 0 }
