-- What the code holds of a store: numbers in a `Core`, the stack and the outputs in three lent slices. Assumes nothing.
use Rattle.std.specs.Prelude.{◌≡◌, List, ℕ, min, length, ℤ, Option, Some, None, Result, Ok, Err}
use Rattle.flow.specs.declared.PointerState.{PointerState}
use Rattle.flow.specs.Pointer.{Valid}
use Rattle.stack.specs.Stack.{stack_of, Lies}
use Rattle.machine.specs.declared.Core.{Core}
use Rattle.machine.specs.declared.Reading.{Reading}
use Rattle.machine.specs.declared.Skips.{Skips}
use Rattle.machine.specs.declared.Stop.{Stop}
use Rattle.machine.specs.declared.Stop.TheVariants.{StackFull, OutputFull}
use Rattle.machine.specs.Output.{outs_of, Holds}
use Rattle.machine.specs.Machine.{RunRoom, used_to, waits_for, skips_to, Store, Effect, Out, keeps, stops, fitting}

-- the three lent slices
pub record Slices : Type 0 where
  pub stack : List ℤ
  pub kinds : List ℕ
  pub values : List ℤ

abbrev pub slices : List ℤ → List ℕ → List ℤ → Slices
slices stack kinds values = record { stack = stack; kinds = kinds; values = values }

-- their room; that of the outputs is the shorter slice's (rule 8.6)
abbrev pub room_of : Slices → RunRoom
room_of l = record { stack = length l.stack; outs = min (length l.kinds) (length l.values) }

-- the store that is held
abbrev pub store_of : Slices → Core → Store
store_of l at = record {
  pointers = at.pointers;
  stack = stack_of l.stack at.depth;
  outs = outs_of l.kinds l.values at.outputs;
  reading = at.reading;
}

-- the cells past the depth and the count of outputs are 0 (rule 8.6), and the pointers are a state
pub record Stands (l : Slices) (at : Core) : Type 0 where
  pub lies : Lies l.stack at.depth
  pub holds : Holds l.kinds l.values at.outputs
  pub valid : Valid at.pointers

-- what an answer with the slices after it says
unfoldable pub out_of : Slices → Result Core Stop → Out
out_of l (Ok at) = keeps (store_of l at)
out_of l (Err s) = stops s

-- a step that can't be kept leaves everything as it was (rule 11.8)
unfoldable pub After : Slices → Slices → Result Core Stop → Type 0
After l l' (Ok at) = Stands l' at
After l l' (Err s) = l' ≡ l

-- the slices and the answer after e is done to what is held
pub record Execs (e : Store → Effect) (l : Slices) (at : Core) (l' : Slices) (r : Result Core Stop) : Type 0 where
  pub is : out_of l' r ≡ fitting (room_of l) (e (store_of l at))
  pub leaves : After l l' r

-- the same of a function that sees the stack alone, whatever the outputs are
abbrev pub StackExecs : (Store → Effect) → List ℤ → Core → List ℤ → Result Core Stop → Type 0
StackExecs e stack at stack' r =
    (kinds : List ℕ) (values : List ℤ) → Holds kinds values at.outputs
    → Execs e (slices stack kinds values) at (slices stack' kinds values) r

-- what a call may give of pointers and a number is what f gives, which leaves valid pointers valid
abbrev pub TurnsBy : (PointerState → ℤ → PointerState) → PointerState → (ℤ → PointerState → Type 0) → Type 0
TurnsBy f pointers gives =
    ((p : PointerState) (z : ℤ) → Valid p → Valid (f p z)) × ((z : ℤ) (p : PointerState) → gives z p → p ≡ f pointers z)

abbrev pub at_depth : ℕ → Core → Core
at_depth d at = record { pointers = at.pointers; depth = d; outputs = at.outputs; reading = at.reading }

abbrev pub at_outputs : ℕ → Core → Core
at_outputs n at = record { pointers = at.pointers; depth = at.depth; outputs = n; reading = at.reading }

abbrev pub at_pointers : PointerState → Core → Core
at_pointers p at = record { pointers = p; depth = at.depth; outputs = at.outputs; reading = at.reading }

abbrev pub at_reading : Reading → Core → Core
at_reading r at = record { pointers = at.pointers; depth = at.depth; outputs = at.outputs; reading = r }

abbrev pub at_used : ℕ → Core → Core
at_used n at = at_reading (used_to n at.reading) at

abbrev pub at_wait : Core → Core
at_wait at = at_reading (waits_for at.reading) at

abbrev pub at_skips : Skips → Core → Core
at_skips s at = at_reading (skips_to s at.reading) at

-- the answer of an instruction that may need a cell more, and of one that may emit
unfoldable pub grown_of : Core → Option ℕ → Result Core Stop
grown_of at (Some d) = Ok (at_depth d at)
grown_of at None = Err StackFull

unfoldable pub wrote_of : Core → Option (ℕ × ℕ) → Result Core Stop
wrote_of at (Some (d, n)) = Ok (at_outputs n (at_depth d at))
wrote_of at None = Err OutputFull
