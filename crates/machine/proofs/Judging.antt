-- Where reading stands after an instruction (rule 16.4).
--     exec_judged       where it may
--     exec_bad_first    a line that is not UTF-8 is met at its first read
-- Assumes nothing.
use mathlib.Core.Path.{◌≡◌, subst}
use mathlib.Core.Bool.{Bool, true, false, cond}
use Prim.Native.Nat.{ℕ}
use Rattle.text.specs.declared.input.Taken.{Taken}
use Rattle.text.specs.declared.input.Taken.TheVariants as Line
use Rattle.text.specs.Input.{char_of, int_of, whole_line, char_next, within_line}
use Rattle.text.specs.Reading.{take_of}
use Rattle.text.proofs.Judging.{LeavesOff, int_judged, char_judged}
use Rattle.machine.specs.declared.Op.{Op}
use Rattle.machine.specs.declared.Op.TheVariants.{Nothing, Push, Pop, Pair, Not, Ptr, Swi, Dup, Roll, CharIn, CharOut, IntIn, IntOut}
use Rattle.machine.specs.Machine.{Given, JudgedIn, Store, Effect, does, bad_input, turn, write, take, take_number, read, exec, waiting}

module _ (g : Given) where
  abbrev Leaves : Store → Effect → Type 0
  Leaves m (does m') = JudgedIn g m'.reading
  Leaves m bad_input = within_line g.input m.reading.used ≡ false

  taking : (t : Taken) (m : Store) → LeavesOff g.terms.edition g.input m.reading.used t → Leaves m (take t m)
  unfolding take
  taking (Line.Push v n) m j = j
  taking (Line.Skip n why) m j = j
  taking Line.BadInput m j = j

  taking_number : (t : Taken) (m : Store) → LeavesOff g.terms.edition g.input m.reading.used t → Leaves m (take_number t m)
  unfolding take
  taking_number (Line.Push v n) m j = j
  taking_number (Line.Skip n why) m j = j
  taking_number Line.BadInput m j = j

  executing : (size : ℕ) (op : Op) (m : Store) → JudgedIn g m.reading → Leaves m (exec g size op m)
  unfolding exec turn write read
  executing size Nothing m j = j
  executing size Push m j = j
  executing size Pop m j = j
  executing size (Pair p) m j = j
  executing size Not m j = j
  executing size Ptr m j = j
  executing size Swi m j = j
  executing size Dup m j = j
  executing size Roll m j = j
  executing size CharIn m j = go g.terms.abstract_mode
    where
      line : Taken
      line = take_of char_of (char_next g.terms.edition) g.input m.reading.used

      go : (t : Bool) → Leaves m (cond t (does (waiting m)) (take line m))
      go true = j
      go false = taking line m (char_judged g.terms.edition g.input m.reading.used j)
  executing size CharOut m j = j
  executing size IntIn m j = go g.terms.abstract_mode
    where
      line : Taken
      line = take_of int_of whole_line g.input m.reading.used

      go : (t : Bool) → Leaves m (cond t (does (waiting m)) (take_number line m))
      go true = j
      go false = taking_number line m (int_judged g.terms.edition g.input m.reading.used j)
  executing size IntOut m j = j

  module _ (size : ℕ) (op : Op) (m : Store) (j : JudgedIn g m.reading) where
    pub exec_judged : {m' : Store} → exec g size op m ≡ does m' → JudgedIn g m'.reading
    exec_judged e = subst (Leaves m) e (executing size op m j)

    pub exec_bad_first : exec g size op m ≡ bad_input → within_line g.input m.reading.used ≡ false
    exec_bad_first e = subst (Leaves m) e (executing size op m j)
