-- What an instruction works on, and what each of the seventeen does to it (rules 9, 10, 11). Assumes nothing.
use Rattle.std.specs.Prelude.{Bool, true, cond, List, [], ◌∷◌, ◌++◌, ℕ, ltb, length, get_or, ℤ, pos}
use Rattle.base.specs.Edition.{edition_of}
use Rattle.flow.specs.declared.PointerState.{PointerState}
use Rattle.flow.specs.Pointer.{rotated, switched}
use Rattle.text.specs.Number.{Number}
use Rattle.text.specs.declared.input.Taken.{Taken}
use Rattle.text.specs.declared.input.Taken.TheVariants as Line
use Rattle.text.specs.Input.{char_of, int_of, Next, whole_line, char_next, Judged}
use Rattle.text.specs.Reading.{take_of}
use Rattle.stack.specs.declared.Pairing.TheVariants.{Add, Sub, Mul, Div, Mod, Gt}
use Rattle.stack.specs.Instr as Instr
use Rattle.machine.specs.declared.Op.{Op}
use Rattle.machine.specs.declared.Op.TheVariants.{Nothing, Push, Pop, Pair, Not, Ptr, Swi, Dup, Roll, CharIn, CharOut, IntIn, IntOut}
use Rattle.machine.specs.declared.Terms.{Terms}
use Rattle.machine.specs.declared.Reading.{Reading}
use Rattle.machine.specs.declared.Skips.{Skips}
use Rattle.machine.specs.declared.Stop.{Stop}
use Rattle.machine.specs.declared.Stop.TheVariants.{Completed, MaxSteps, NeedsInput, StackFull, OutputFull, BadInput}
use Rattle.machine.specs.Output.{Emit, of_top, char_out, int_out}
use Rattle.machine.specs.Counts.{counted}

-- the instructions by number (rule 1.5)
abbrev pub ops : List Op
ops =
    Nothing ∷ Push ∷ Pop ∷ Pair Add ∷ Pair Sub ∷ Pair Mul ∷ Pair Div ∷ Pair Mod ∷ Not ∷ Pair Gt ∷ Ptr ∷ Swi ∷ Dup ∷ Roll ∷ CharIn ∷ CharOut ∷ IntIn ∷ IntOut
    ∷ []

abbrev pub op_numbered : ℕ → Op
op_numbered n = get_or ops n Nothing

-- the status of a run that stops (rules 11.1 to 11.6)
unfoldable pub status_of : Stop → ℕ
status_of Completed = 1
status_of MaxSteps = 2
status_of NeedsInput = 3
status_of StackFull = 4
status_of OutputFull = 5
status_of BadInput = 6

-- what a run is given besides its table and its room: its terms (the edition, the limit, and whether it is in abstract mode),
-- and the input's bytes
pub record Given : Type 0 where
  pub terms : Terms
  pub input : List ℕ

abbrev pub given : Terms → List ℕ → Given
given terms input = record { terms = terms; input = input }

-- the same under another limit
abbrev pub under_limit : ℕ → Given → Given
under_limit k g = record {
  terms = record { edition = g.terms.edition; limit = k; abstract_mode = g.terms.abstract_mode };
  input = g.input;
}

-- what a call asks for: the same, with the edition by its number (rule 16.1)
pub record Asks : Type 0 where
  pub edition : ℕ
  pub limit : ℕ
  pub mode : Bool
  pub input : List ℕ

abbrev pub asks : ℕ → ℕ → Bool → List ℕ → Asks
asks edition limit mode input = record { edition = edition; limit = limit; mode = mode; input = input }

abbrev pub given_of : Asks → Given
given_of a = given (record { edition = edition_of a.edition; limit = a.limit; abstract_mode = a.mode }) a.input

-- the room of a run: how many values the stack holds, and how many outputs there may be
pub record RunRoom : Type 0 where
  pub stack : ℕ
  pub outs : ℕ

-- the reading of the input: so many bytes used; an input instruction met in abstract mode; number lines skipped
abbrev pub used_to : ℕ → Reading → Reading
used_to n r = record { used = n; awaiting = r.awaiting; skips = r.skips }

abbrev pub waits_for : Reading → Reading
waits_for r = record { used = r.used; awaiting = true; skips = r.skips }

abbrev pub skips_to : Skips → Reading → Reading
skips_to s r = record { used = r.used; awaiting = r.awaiting; skips = s }

-- reading stands where a run that is given g may come to stand (rule 16.4)
abbrev pub JudgedIn : Given → Reading → Type 0
JudgedIn g r = Judged g.terms.edition g.input r.used

-- what an instruction works on: the stack, top first; the outputs, in order; what was read of the input
pub record Store : Type 0 where
  pub pointers : PointerState
  pub stack : List ℤ
  pub outs : List Emit
  pub reading : Reading

abbrev pub with_pointers : PointerState → Store → Store
with_pointers p m = record { pointers = p; stack = m.stack; outs = m.outs; reading = m.reading }

abbrev pub with_stack : List ℤ → Store → Store
with_stack s m = record { pointers = m.pointers; stack = s; outs = m.outs; reading = m.reading }

abbrev pub with_outs : List Emit → Store → Store
with_outs es m = record { pointers = m.pointers; stack = m.stack; outs = es; reading = m.reading }

abbrev pub with_reading : Reading → Store → Store
with_reading r m = record { pointers = m.pointers; stack = m.stack; outs = m.outs; reading = r }

abbrev pub with_used : ℕ → Store → Store
with_used n m = with_reading (used_to n m.reading) m

abbrev pub waiting : Store → Store
waiting m = with_reading (waits_for m.reading) m

abbrev pub with_skips : Skips → Store → Store
with_skips s m = with_reading (skips_to s m.reading) m

-- what an instruction comes to; `bad_input` where its line is not UTF-8 (rule 11.6)
pub data Effect : Type 0 where
  does : Store → Effect
  bad_input : Effect

-- an instruction on the stack alone
abbrev pub on_stack : (List ℤ → List ℤ) → Store → Effect
on_stack f m = does (with_stack (f m.stack) m)

-- Ptr, Swi: the pointers turn by the top, which goes (rule 9.7)
unfoldable pub by_top : (PointerState → ℤ → PointerState) → List ℤ → PointerState → PointerState
by_top f [] p = p
by_top f (a ∷ s) p = f p a

unfoldable pub turn : (PointerState → ℤ → PointerState) → Store → Effect
turn f m = does (with_stack (Instr.pop m.stack) (with_pointers (by_top f m.stack m.pointers) m))

-- CharOut, IntOut: what the top gives is emitted, and the top goes (rule 9.9)
unfoldable pub write : (ℤ → List Emit) → Store → Effect
write f m = does (with_stack (Instr.pop m.stack) (with_outs (m.outs ++ of_top f m.stack) m))

-- CharIn, IntIn: what is taken is gone, and what it gives, if anything, is pushed (rule 10.4)
unfoldable pub take : Taken → Store → Effect
take (Line.Push v n) m = does (with_used n (with_stack (v ∷ m.stack) m))
take (Line.Skip n why) m = does (with_used n m)
take Line.BadInput m = bad_input

-- IntIn: a line that it skips is counted besides, by the reason (rule 10.9)
abbrev pub take_number : Taken → Store → Effect
take_number t m = take t (with_skips (counted t m.reading.skips) m)

-- in abstract mode nothing is read, and input is awaited (rule 10.7); else a line is read, and taken as far as `next` says
-- (rules 10.1, 16.4)
unfoldable pub read : Given → (List ℕ → Number) → Next → (Taken → Store → Effect) → Store → Effect
read g f next takes m = cond g.terms.abstract_mode (does (waiting m)) (takes (take_of f next g.input m.reading.used) m)

-- one instruction; size is that of the block just left (rule 8.3). What differs by the edition is the definition of the three
-- that take it: `pair`, `roll` and `char_next`
unfoldable pub exec : Given → ℕ → Op → Store → Effect
exec g size Nothing m = does m
exec g size Push m = on_stack (Instr.push (pos size)) m
exec g size Pop m = on_stack Instr.pop m
exec g size (Pair p) m = on_stack (Instr.pair g.terms.edition p) m
exec g size Not m = on_stack Instr.not m
exec g size Ptr m = turn rotated m
exec g size Swi m = turn switched m
exec g size Dup m = on_stack Instr.dup m
exec g size Roll m = on_stack (Instr.roll g.terms.edition) m
exec g size CharIn m = read g char_of (char_next g.terms.edition) take m
exec g size CharOut m = write char_out m
exec g size IntIn m = read g int_of whole_line take_number m
exec g size IntOut m = write int_out m

-- what a step comes to: it is kept, or it is not taken and the run stops
pub data Out : Type 0 where
  keeps : Store → Out
  stops : Stop → Out

-- whether a step can be kept: BadInput is tested first, then the stack's room, then the outputs' (rules 11.4 to 11.7)
unfoldable pub fitting : RunRoom → Effect → Out
fitting room bad_input = stops BadInput
fitting room (does m) =
    cond (ltb room.stack (length m.stack)) (stops StackFull)
    (cond (ltb room.outs (length m.outs)) (stops OutputFull) (keeps m))
