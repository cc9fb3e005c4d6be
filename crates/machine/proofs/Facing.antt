-- An instruction keeps the pointers a state. Assumes nothing.
use mathlib.Core.Path.{◌≡◌, subst}
use mathlib.Core.Bool.{Bool, true, false, cond}
use mathlib.Core.List.{List, [], ◌∷◌}
use Prim.Native.Nat.{ℕ}
use lib.IntN.{ℤ}
use Rattle.flow.specs.declared.PointerState.{PointerState}
use Rattle.flow.specs.Pointer.{Valid, rotated, switched}
use Rattle.flow.proofs.Order.{valid_rotated, valid_switched}
use Rattle.text.specs.Number.{Number}
use Rattle.text.specs.declared.input.Taken.{Taken}
use Rattle.text.specs.declared.input.Taken.TheVariants as Line
use Rattle.text.specs.Input.{char_of, int_of, Next, whole_line, char_next}
use Rattle.text.specs.Reading.{take_of}
use Rattle.machine.specs.declared.Op.{Op}
use Rattle.machine.specs.declared.Op.TheVariants.{Nothing, Push, Pop, Pair, Not, Ptr, Swi, Dup, Roll, CharIn, CharOut, IntIn, IntOut}
use Rattle.machine.specs.Machine.{Given, Store, Effect, does, bad_input, exec, by_top, turn, write, take, take_number, read}

abbrev Faces : Effect → Type 0
Faces (does m) = Valid m.pointers
Faces bad_input = Unit {0}

by-top : (f : PointerState → ℤ → PointerState) → ((q : PointerState) (z : ℤ) → Valid q → Valid (f q z)) → (s : List ℤ) (q : PointerState) → Valid q → Valid (by_top f s q)
unfolding by_top
by-top f g [] q v = v
by-top f g (z ∷ s) q v = g q z v

taking : (t : Taken) (m : Store) → Valid m.pointers → Faces (take t m)
unfolding take
taking (Line.Push v n) m h = h
taking (Line.Skip n why) m h = h
taking Line.BadInput m h = tt

either : (t : Bool) (d e : Effect) → Faces d → Faces e → Faces (cond t d e)
either true d e h k = h
either false d e h k = k

reading : (g : Given) (f : List ℕ → Number) (next : Next) (takes : Taken → Store → Effect) (m : Store) → ((t : Taken) → Faces (takes t m))
    → Valid m.pointers → Faces (read g f next takes m)
unfolding read
reading g f next takes m k h = either g.terms.abstract_mode _ _ h (k (take_of f next g.input m.reading.used))

executing : (g : Given) (size : ℕ) (op : Op) (m : Store) → Valid m.pointers → Faces (exec g size op m)
unfolding exec turn write
executing g size Nothing m h = h
executing g size Push m h = h
executing g size Pop m h = h
executing g size (Pair o) m h = h
executing g size Not m h = h
executing g size Ptr m h = by-top rotated valid_rotated m.stack m.pointers h
executing g size Swi m h = by-top switched valid_switched m.stack m.pointers h
executing g size Dup m h = h
executing g size Roll m h = h
executing g size CharIn m h = reading g char_of (char_next g.terms.edition) take m (λ t. taking t m h) h
executing g size CharOut m h = h
executing g size IntIn m h = reading g int_of whole_line take_number m (λ t. taking t _ h) h
executing g size IntOut m h = h

pub exec_facing : (g : Given) (size : ℕ) (op : Op) (m : Store) {m' : Store} → Valid m.pointers → exec g size op m ≡ does m' → Valid m'.pointers
exec_facing g size op m v e = subst Faces e (executing g size op m v)
