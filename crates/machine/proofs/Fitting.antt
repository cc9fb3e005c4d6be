-- What a step comes to that is made to fit its room.
--     fit_cases     it is kept, or it stops as bad input or for room, and for no other reason;
--     fit_kept      a step that is kept did what its instruction does;
--     fit_stops     the stops of one that is not
--     fit_bad       BadInput comes of its line alone
--     exec_limit    an instruction does not look at the limit
-- Assumes nothing.
use mathlib.Core.Path.{◌≡◌, refl, subst}
use mathlib.Core.Bool.{Bool, true, false, cond}
use Prim.Native.Nat.{ℕ}
use lib.Dec.{ltb}
use lib.ListN.{length}
use Rattle.base.proofs.Clash.{clash}
use Rattle.machine.specs.declared.Op.{Op}
use Rattle.machine.specs.declared.Op.TheVariants.{Nothing, Push, Pop, Pair, Not, Ptr, Swi, Dup, Roll, CharIn, CharOut, IntIn, IntOut}
use Rattle.machine.specs.declared.Stop.{Stop}
use Rattle.machine.specs.declared.Stop.TheVariants.{Completed, MaxSteps, NeedsInput, StackFull, OutputFull, BadInput}
use Rattle.machine.specs.Machine.{Given, under_limit, RunRoom, Store, Effect, does, bad_input, Out, keeps, stops, read, exec, fitting}

-- the stops of a step that is not kept
pub data Unkept : Stop → Type 0 where
  bad : Unkept BadInput
  stack : Unkept StackFull
  output : Unkept OutputFull

pub data Fits (e : Effect) : Out → Type 0 where
  kept : {m : Store} → e ≡ does m → Fits e (keeps m)
  unkept : {s : Stop} → Unkept s → Fits e (stops s)

pub fit_cases : (room : RunRoom) (e : Effect) → Fits e (fitting room e)
unfolding fitting
fit_cases room bad_input = unkept bad
fit_cases room (does m) = go (ltb room.stack (length m.stack)) (ltb room.outs (length m.outs))
  where
    go : (t u : Bool) → Fits (does m) (cond t (stops StackFull) (cond u (stops OutputFull) (keeps m)))
    go true u = unkept stack
    go false true = unkept output
    go false false = kept refl

pub fit_kept : (room : RunRoom) (e : Effect) {m : Store} → fitting room e ≡ keeps m → e ≡ does m
fit_kept room e {m} h = go (fitting room e) (fit_cases room e) h
  where
    go : (o : Out) → Fits e o → o ≡ keeps m → e ≡ does m
    go (keeps n) (kept q) h = cc
    go (stops s) (unkept q) h = clash cc

pub fit_stops : (room : RunRoom) (e : Effect) {s : Stop} → fitting room e ≡ stops s → Unkept s
fit_stops room e {s} h = go (fitting room e) (fit_cases room e) h
  where
    go : (o : Out) → Fits e o → o ≡ stops s → Unkept s
    go (keeps n) (kept q) h = clash cc
    go (stops t) (unkept q) h = let z : t ≡ s = cc in subst Unkept z q

pub fit_bad : (room : RunRoom) (e : Effect) → fitting room e ≡ stops BadInput → e ≡ bad_input
unfolding fitting
fit_bad room bad_input h = refl
fit_bad room (does m) h = go (ltb room.stack (length m.stack)) (ltb room.outs (length m.outs)) h
  where
    go : (t u : Bool) → cond t (stops StackFull) (cond u (stops OutputFull) (keeps m)) ≡ stops BadInput → does m ≡ bad_input
    go true u h = clash cc
    go false true h = clash cc
    go false false h = clash cc

pub not_completed : {s : Stop} → Unkept s → s ≡ Completed → ⊥
not_completed bad h = clash cc
not_completed stack h = clash cc
not_completed output h = clash cc

pub not_limit : {s : Stop} → Unkept s → s ≡ MaxSteps → ⊥
not_limit bad h = clash cc
not_limit stack h = clash cc
not_limit output h = clash cc

pub not_wait : {s : Stop} → Unkept s → s ≡ NeedsInput → ⊥
not_wait bad h = clash cc
not_wait stack h = clash cc
not_wait output h = clash cc

pub exec_limit : (k : ℕ) (g : Given) (size : ℕ) (op : Op) (m : Store) → exec (under_limit k g) size op m ≡ exec g size op m
unfolding read exec
exec_limit k g size Nothing m = refl
exec_limit k g size Push m = refl
exec_limit k g size Pop m = refl
exec_limit k g size (Pair p) m = refl
exec_limit k g size Not m = refl
exec_limit k g size Ptr m = refl
exec_limit k g size Swi m = refl
exec_limit k g size Dup m = refl
exec_limit k g size Roll m = refl
exec_limit k g size CharIn m = refl
exec_limit k g size CharOut m = refl
exec_limit k g size IntIn m = refl
exec_limit k g size IntOut m = refl
