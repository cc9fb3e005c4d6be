-- Inner: what the helpers of `answer` promise, and when a region of a table has a label. Assumes nothing.
use Rattle.std.specs.Prelude.{◌≡◌, List, ℕ, ◌≤◌, ◌<◌, ℤ, length, take}
use Rattle.colour.specs.Label.{label_of}
use Rattle.table.specs.Layout.{row_cell, colour_field, row_field, column_field, field_at}
use Rattle.stack.specs.Stack.{stack_of}
use Rattle.machine.specs.Output.{outs_of}
use Rattle.machine.specs.Machine.{status_of}
use Rattle.interpreter.specs.declared.Ended.{Ended}
use Rattle.report.specs.Text.{result_text}
use Rattle.report.specs.Fits.{Fits}

-- a text stands at the start of a list
pub record Starts (d : List ℕ) (n : ℕ) (text : List ℕ) : Type 0 where
  pub within : n ≤ length d
  pub is : take n d ≡ text

-- no refusal 12
pub record Legal (colour row column : ℕ) : Type 0 where
  pub colour_in : colour ≤ 19
  pub row_in : row ≤ 1023
  pub column_in : column ≤ 1023

-- the rows have region r's, and it can be labelled
pub record HasLabel (rows : List ℕ) (r : ℕ) : Type 0 where
  pub few : r ≤ 65536
  pub there : row_cell r column_field < length rows
  pub legal : Legal (field_at rows r colour_field) (field_at rows r row_field) (field_at rows r column_field)

-- the label by region r's row
abbrev pub label_in : List ℕ → ℕ → List ℕ
label_in rows r = label_of (field_at rows r colour_field) (field_at rows r row_field) (field_at rows r column_field)

-- the lines of where a run ended, by the rows and the three lent slices
abbrev pub lines_of : Ended → List ℕ → List ℤ → List ℕ → List ℤ → List ℕ
lines_of e rows stack kinds values =
    result_text (status_of e.stop) e.at.steps (label_in rows e.at.region) e.at.core.pointers.dp e.at.core.pointers.cc
    (stack_of stack e.at.core.depth)
    (outs_of kinds values e.at.core.outputs)

-- they can be written
pub record Printable (room : ℕ) (e : Ended) (rows : List ℕ) (stack : List ℤ) (kinds : List ℕ) (values : List ℤ) : Type 0 where
  pub labelled : HasLabel rows e.at.region
  pub fits : Fits room 22 e.at.core.depth (length stack) e.at.core.outputs (length kinds) (length values)
