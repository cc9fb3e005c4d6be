-- Two outcomes that a contract allows for one input are equal, answer and cells, for each public function:
--     exec                     execs_only
--     int_out, char_out        puts_only
--     `Op::from`, at_pointers  `equation_only` of base's proofs/Only.antt
-- A call leaves the length of a lent slice as it is. Assumes nothing.
use mathlib.Core.Path.{◌≡◌, ◌∙◌, sym, ap, refl}
use mathlib.Core.List.{List, [], ◌∷◌, ◌++◌}
use Prim.Native.Nat.{ℕ}
use native.Mathlib.Omega.{arith}
use lib.ListN.{length, get_or}
use lib.IntN.{ℤ}
use Rattle.stack.specs.Stack.{stack_of}
use Rattle.stack.proofs.Unique.{unique}
use Rattle.machine.specs.declared.Core.{Core}
use Rattle.std.specs.Prelude.{Result, Ok, Err}
use Rattle.machine.specs.declared.Stop.{Stop}
use Rattle.machine.specs.declared.Stop.{Stop}
use Rattle.machine.specs.declared.Stop.TheVariants.{Completed, MaxSteps, NeedsInput, StackFull, OutputFull, BadInput}
use Rattle.std.specs.Prelude.{Option, Some, None}
use Rattle.machine.specs.Output.{Emit, outs_of, of_top, Keeps, Refuses, Puts}
use Rattle.machine.specs.Machine.{Store, Effect, keeps, status_of}
use Rattle.machine.specs.Held.{Slices, slices, store_of, Stands, out_of, After, Execs}
use Rattle.machine.proofs.Emitting.{outs_length}
use Rattle.machine.proofs.Unique.{unique_outs}

-- the slices after a call are as long as those before it
pub record AsLong (l' l : Slices) : Type 0 where
  pub stack : length l'.stack ≡ length l.stack
  pub kinds : length l'.kinds ≡ length l.kinds
  pub values : length l'.values ≡ length l.values

-- a store settles the numbers and the cells that hold it
same_held : (l l' : Slices) (at at' : Core) → AsLong l l' → Stands l at → Stands l' at' → store_of l at ≡ store_of l' at'
    → (at ≡ at') × (l ≡ l')
same_held l l' at at' n s s' e =
    let u = unique l.stack l'.stack at.depth at'.depth s.lies s'.lies n.stack (ap (λ (m : Store). m.stack) e) in
    let o =
    unique_outs l.kinds l'.kinds l.values l'.values at.outputs at'.outputs s.holds s'.holds (ap (λ (m : Store). m.outs) e)
    n.kinds n.values in (
      λ i. record {
        pointers = (e i).pointers;
        depth = u.0 i;
        outputs = o.0 i;
        reading = (e i).reading;
      },
      λ i. slices (u.1 i) (o.1 i) (o.2 i),
    )

module _ (e : Store → Effect) (l : Slices) (at : Core) (l' l'' : Slices) (n : AsLong l' l) (m : AsLong l'' l) where
  as_long : AsLong l' l''
  as_long = record { stack = n.stack ∙ sym m.stack; kinds = n.kinds ∙ sym m.kinds; values = n.values ∙ sym m.values }

  settled : (r r' : Result Core Stop) → out_of l' r ≡ out_of l'' r' → After l l' r → After l l'' r' → (r ≡ r') × (l' ≡ l'')
  unfolding out_of After
  settled (Ok a) (Ok b) q s t = let h = same_held l' l'' a b as_long s t (kept q) in (ap Ok h.0, h.1)
    where
      kept : {x y : Store} → keeps x ≡ keeps y → x ≡ y
      kept q = cc
  settled (Ok a) (Err s) q x y = let z : ◌≡◌ {A = ℕ} 0 1 = cc in absurd (omega arith)
  settled (Err s) (Ok a) q x y = let z : ◌≡◌ {A = ℕ} 0 1 = cc in absurd (omega arith)
  settled (Err s) (Err t) q x y = (cc, x ∙ sym y)

  pub execs_only : (r r' : Result Core Stop) → Execs e l at l' r → Execs e l at l'' r' → (r ≡ r') × (l' ≡ l'')
  execs_only r r' p q = settled r r' (p.is ∙ sym q.is) p.leaves q.leaves

module _ (f : ℤ → List Emit) (l : Slices) (d n : ℕ) (l' l'' : Slices) (long : AsLong l' l) (long' : AsLong l'' l) where
  -- outputs that stand in the slices have room in them
  fits : (k : Slices) (d' n' : ℕ) → AsLong k l
      → Keeps f l.stack d l.kinds l.values n k.stack k.kinds k.values d' n'
      → (k' : Slices) → Refuses f l.stack d l.kinds l.values n k'.stack k'.kinds k'.values → ⊥
  fits k d' n' a p k' q =
      let w = p.writes in
      let e : length (outs_of l.kinds l.values n ++ of_top f (stack_of l.stack d)) ≡ n' = sym (ap length w.is) ∙ outs_length k.kinds k.values n' in
      omega (arith, w.holds.kinds_room, w.holds.values_room, a.kinds, a.values, q.full)

  pub puts_only : (r r' : Option (ℕ × ℕ)) → Puts f l.stack d l.kinds l.values n l'.stack l'.kinds l'.values r
      → Puts f l.stack d l.kinds l.values n l''.stack l''.kinds l''.values r' → (r ≡ r') × (l' ≡ l'')
  unfolding Puts
  puts_only (Some (a, b)) (Some (a', b')) p q =
      let u = unique l'.stack l''.stack a a' p.lies q.lies (long.stack ∙ sym long'.stack) (p.pops ∙ sym q.pops) in
      let o =
      unique_outs l'.kinds l''.kinds l'.values l''.values b b' p.writes.holds q.writes.holds (p.writes.is ∙ sym q.writes.is)
      (long.kinds ∙ sym long'.kinds) (long.values ∙ sym long'.values) in
      (λ i. Some (u.0 i, o.0 i), λ i. slices (u.1 i) (o.1 i) (o.2 i))
  puts_only (Some (a, b)) None p q = absurd (fits l' a b long p l'' q)
  puts_only None (Some (a, b)) p q = absurd (fits l'' a b long' q l' p)
  puts_only None None p q = (
    refl,
    λ i. slices ((p.same_stack ∙ sym q.same_stack) i) ((p.same_kinds ∙ sym q.same_kinds) i) ((p.same_values ∙ sym q.same_values) i),
  )

-- a status names one stop
abbrev stop_of : ℕ → Stop
stop_of n = get_or (Completed ∷ Completed ∷ MaxSteps ∷ NeedsInput ∷ StackFull ∷ OutputFull ∷ []) n BadInput

named : (s : Stop) → stop_of (status_of s) ≡ s
unfolding status_of
named Completed = refl
named MaxSteps = refl
named NeedsInput = refl
named StackFull = refl
named OutputFull = refl
named BadInput = refl

pub status_only : (s t : Stop) → status_of s ≡ status_of t → s ≡ t
status_only s t e = sym (named s) ∙ ap stop_of e ∙ named t
