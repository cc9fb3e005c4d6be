-- Which steps skip a number line, and for which reason (rules 10.8, 10.9): what the counts of a run are counted over.
-- Assumes nothing.
use Rattle.std.specs.Prelude.{cond, List, [], ◌∷◌}
use Rattle.text.specs.declared.number.Reason.{Reason}
use Rattle.text.specs.declared.input.Taken.{Taken}
use Rattle.text.specs.declared.input.Taken.TheVariants as Line
use Rattle.text.specs.Input.{int_of, whole_line}
use Rattle.text.specs.Reading.{take_of}
use Rattle.machine.specs.declared.Op.{Op}
use Rattle.machine.specs.declared.Op.TheVariants.{Nothing, Push, Pop, Pair, Not, Ptr, Swi, Dup, Roll, CharIn, CharOut, IntIn, IntOut}
use Rattle.machine.specs.Machine.{Given, Store}

-- the reason for which a line is skipped, if it is
unfoldable pub reason_in : Taken → List Reason
reason_in (Line.Push v n) = []
reason_in (Line.Skip n why) = why ∷ []
reason_in Line.BadInput = []

-- the reason for which an instruction skips a number line, if it does. Only IntIn reads a number, and in abstract mode nothing
-- is read
unfoldable pub skipped : Given → Op → Store → List Reason
skipped g IntIn m = cond g.terms.abstract_mode [] (reason_in (take_of int_of whole_line g.input m.reading.used))
skipped g Nothing m = []
skipped g Push m = []
skipped g Pop m = []
skipped g (Pair p) m = []
skipped g Not m = []
skipped g Ptr m = []
skipped g Swi m = []
skipped g Dup m = []
skipped g Roll m = []
skipped g CharIn m = []
skipped g CharOut m = []
skipped g IntOut m = []
