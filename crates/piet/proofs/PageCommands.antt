-- The definitions meet the public page's commands (rules 14.9 to 14.15); a is the top of the stack and b the second value. Where ours differ (docs/DIFFERENCES.md), a theorem says what is equal. Assumes nothing.
use mathlib.Core.Path.{◌≡◌, refl, sym, ap, ◌∙◌}
use mathlib.Core.Bool.{Bool, true, false, not, ◌&&◌}
use mathlib.Core.List.{List, [], ◌∷◌, ◌++◌, append-nil}
use Prim.Native.Nat.{ℕ, zero, suc, ◌+◌, ◌-◌, ◌*◌, ◌/◌, ◌%◌, ◌^◌, ◌<◌}
use native.Mathlib.Nat.{mod-eq_of_lt, mod-lt, div-add-mod', suc-mul}
use native.Mathlib.Omega.{arith}
use borrow.Author.Tests.{lt-ltb, ltb-true}
use lib.Dec.{ltb}
use lib.ListN.{length}
use lib.IntN.{ℤ, pos, negsuc, nat_abs, neg_ℤ, ◌+ℤ◌, ◌-ℤ◌, ◌*ℤ◌}
use lib.Signed.{lt_z, quot_z}
use Rattle.base.specs.declared.edition.Edition.{Edition}
use Rattle.word.specs.Word.{residue, wrap, is_zero, quotient}
use Rattle.word.proofs.Wrapping.{wrap_fits, quot_fits, residue_lt}
use Rattle.word.proofs.Signed.{is_not_zero}
use Rattle.word.proofs.FloorLaws.{remainder_pos}
use Rattle.colour.specs.Instruction as instruction
use Rattle.picture.specs.Picture.{Picture, codels}
use Rattle.region.specs.Tally.{tally}
use Rattle.flow.specs.declared.PointerState.{PointerState}
use Rattle.flow.specs.Pointer.{Valid, rotated, switched, clockwise, flipped}
use Rattle.flow.proofs.Order.{same_state}
use Rattle.text.specs.Utf8.{scalar}
use Rattle.text.specs.Range.{within}
use Rattle.text.specs.declared.input.Taken.TheVariants as Line
use Rattle.text.specs.Reading.{take_of}
use Rattle.text.specs.declared.number.Reason.{Reason}
use Rattle.text.specs.Input.{char_of, int_of, whole_line, char_next}
use Rattle.stack.specs.declared.Pairing.{Pairing}
use Rattle.stack.specs.declared.Pairing.TheVariants.{Add, Sub, Mul, Div, Mod, Gt}
use Rattle.stack.specs.Instr as Instr
use Rattle.machine.specs.declared.Op.{Op}
use Rattle.machine.specs.declared.Op.TheVariants.{Nothing, Push, Pop, Pair, Not, Ptr, Swi, Dup, Roll, CharIn, CharOut, IntIn, IntOut}
use Rattle.machine.specs.Output.{Emit, of_top, char}
use Rattle.machine.specs.Counts.{one_more, counted}
use Rattle.machine.specs.Machine.{Given, RunRoom, Store, does, exec, fitting, turn, write, by_top, read, take, with_stack, with_pointers, with_outs, with_used, with_skips}
use Rattle.base.proofs.Clash.{clash}
use Rattle.piet.specs.Follows.{doing}
use Rattle.piet.specs.Page.{takes, Changes, InRange, times, anticlockwise}

-- ---- what turning n times comes to

clockwise_times : (n : ℕ) (q : PointerState) → Valid q → times n clockwise q ≡ rotated q (pos n)
unfolding times residue
clockwise_times zero q v = same_state _ _ (omega arith) refl
clockwise_times (suc n) q v = ap clockwise (clockwise_times n q v) ∙ same_state _ _ (omega arith) refl

anticlockwise_times : (n : ℕ) (q : PointerState) → Valid q → times (suc n) anticlockwise q ≡ rotated q (negsuc n)
unfolding times residue
anticlockwise_times zero q v = same_state _ _ (omega arith) refl
anticlockwise_times (suc n) q v = ap anticlockwise (anticlockwise_times n q v) ∙ same_state _ _ (omega arith) refl

flips : (n : ℕ) (q : PointerState) → Valid q → times n flipped q ≡ record { dp = q.dp; cc = (q.cc + n % 2) % 2 }
unfolding times
flips zero q v = same_state _ _ refl (omega arith)
flips (suc n) q v = ap flipped (flips n q v) ∙ same_state _ _ refl (omega arith)

flipped_times : (z : ℤ) (q : PointerState) → Valid q → times (nat_abs z) flipped q ≡ switched q z
unfolding residue
flipped_times (pos n) q v = flips n q v
flipped_times (negsuc n) q v = flips (suc n) q v ∙ same_state _ _ refl (omega arith)

-- ---- the commands

scalar_small : (u : ℕ) → scalar u ≡ true → u < 0x110000
unfolding scalar
scalar_small u h = go (ltb u 0x110000) refl h
  where
    go : (t : Bool) → ltb u 0x110000 ≡ t → t && not (within 0xD800 0xDFFF u) ≡ true → u < 0x110000
    go true e h = ltb-true u 0x110000 e
    go false e h = clash (cc)

-- with too few values a command is ignored, and the stack stays as it is (rule 14.9)
pub too_few : (o : Op) (s : List ℤ) → length s < takes o → Changes o s s
unfolding exec turn write by_top of_top Instr.pop Instr.binary Instr.not Instr.dup Instr.roll
too_few Nothing s h = absurd (omega arith)
too_few Push s h = absurd (omega arith)
too_few CharIn s h = absurd (omega arith)
too_few IntIn s h = absurd (omega arith)
too_few Pop [] h = λ g size m. refl
too_few (Pair o) [] h = λ g size m. refl
too_few (Pair o) (a ∷ []) h = λ g size m. refl
too_few Not [] h = λ g size m. refl
too_few Ptr [] h = λ g size m. refl
too_few Swi [] h = λ g size m. refl
too_few Dup [] h = λ g size m. refl
too_few Roll [] h = λ g size m. refl
too_few Roll (a ∷ []) h = λ g size m. refl
too_few CharOut [] h = λ g size m. ap (λ (es : List Emit). does (with_stack [] (with_outs es m))) (append-nil m.outs)
too_few IntOut [] h = λ g size m. ap (λ (es : List Emit). does (with_stack [] (with_outs es m))) (append-nil m.outs)
too_few Pop (a ∷ s) h = absurd (omega arith)
too_few (Pair o) (a ∷ b ∷ s) h = absurd (omega arith)
too_few Not (a ∷ s) h = absurd (omega arith)
too_few Ptr (a ∷ s) h = absurd (omega arith)
too_few Swi (a ∷ s) h = absurd (omega arith)
too_few Dup (a ∷ s) h = absurd (omega arith)
too_few Roll (a ∷ b ∷ s) h = absurd (omega arith)
too_few CharOut (a ∷ s) h = absurd (omega arith)
too_few IntOut (a ∷ s) h = absurd (omega arith)

-- push: the number of codels of the block just left; pop: the top goes (rule 14.10)
pub push : (g : Given) (size : ℕ) (s : List ℤ) (m : Store) → exec g size Push (with_stack s m) ≡ does (with_stack (pos size ∷ s) m)
unfolding exec
push g size s m = refl

pub push_block : (p : Picture) (map : List ℕ) (g : Given) (room : RunRoom) (r : ℕ) (u : PointerState) (m : Store)
    → doing p map g room r u instruction.push m
    ≡ fitting room (does (with_stack (pos (tally r (codels p) map) ∷ m.stack) (with_pointers u m)))
unfolding exec
push_block p map g room r u m = refl

pub pop : (a : ℤ) (s : List ℤ) → Changes Pop (a ∷ s) s
unfolding exec Instr.pop
pop a s g size m = refl

-- a value that takes the place of two
combines : (o : Pairing) (a b z : ℤ) (s : List ℤ) → ((e : Edition) → Instr.combined e o b a ≡ z ∷ []) → Changes (Pair o) (a ∷ b ∷ s) (z ∷ s)
unfolding exec Instr.in_place Instr.binary
combines o a b z s h g size m =
    let e = g.terms.edition in
    ap (λ (l : List ℤ). does (with_stack (Instr.in_place e l (a ∷ b ∷ s)) m)) (h e)

fits : (z : ℤ) → InRange z → wrap z ∷ [] ≡ z ∷ []
fits z h = ap (λ (y : ℤ). y ∷ []) (wrap_fits z (record { sfits = h }))

neg_range : (n : ℕ) → n < 2 ^ 63 → InRange (neg_ℤ (pos n))
neg_range zero h = omega arith
neg_range (suc n) h = omega arith

quot_range : (b a : ℤ) → InRange b → (a ≡ negsuc 0 → b ≡ negsuc (2 ^ 63 - 1) → ⊥) → InRange (quot_z b a)
quot_range b (pos a) r h = (quot_fits b (pos a) (record { sfits = r }) (λ e. clash (cc))).sfits
quot_range b (negsuc (suc a)) r h = (quot_fits b (negsuc (suc a)) (record { sfits = r }) other).sfits
  where
    other : negsuc (suc a) ≡ negsuc 0 → ⊥
    other e = let z : suc a ≡ 0 = cc in omega arith
quot_range (pos b) (negsuc zero) r h = neg_range (b / 1) (omega arith)
quot_range (negsuc b) (negsuc zero) r h =
    let z : b ≡ 2 ^ 63 - 1 → ⊥ = λ e. h refl (ap negsuc e) in
    omega arith

residue_differs : (a : ℕ) (b : ℤ) → 0 < a → (q : ℤ) × (b ≡ q *ℤ pos a +ℤ pos (residue b a))
unfolding residue
residue_differs a (pos n) h = (pos (n / a), ap pos (sym (div-add-mod' n a)))
residue_differs a (negsuc n) h =
    (negsuc (n / a), neg_plus (suc (n / a) * a) (a - suc (n % a)) n (omega (arith, div-add-mod' n a, suc-mul (n / a) a, mod-lt n h)))
  where
    neg_plus : (t c n : ℕ) → t ≡ c + suc n → negsuc n ≡ neg_ℤ (pos t) +ℤ pos c
    neg_plus zero c n e = absurd (omega arith)
    neg_plus (suc t) c n e = rw (lt-ltb c (suc t) (omega arith)) (ap negsuc (omega arith))

module _ (a b : ℤ) (s : List ℤ) where
  -- add, subtract, multiply: the result of b and a takes the place of both (rule 14.11)
  pub add : InRange (b +ℤ a) → Changes (Pair Add) (a ∷ b ∷ s) ((b +ℤ a) ∷ s)
  unfolding Instr.combined
  add h = combines Add a b (b +ℤ a) s (λ e. fits (b +ℤ a) h)

  pub subtract : InRange (b -ℤ a) → Changes (Pair Sub) (a ∷ b ∷ s) ((b -ℤ a) ∷ s)
  unfolding Instr.combined
  subtract h = combines Sub a b (b -ℤ a) s (λ e. fits (b -ℤ a) h)

  pub multiply : InRange (b *ℤ a) → Changes (Pair Mul) (a ∷ b ∷ s) ((b *ℤ a) ∷ s)
  unfolding Instr.combined
  multiply h = combines Mul a b (b *ℤ a) s (λ e. fits (b *ℤ a) h)

  -- divide, in whole numbers, but by 0, and but -2^63 by -1; `quot_z` rounds toward zero
  pub divide : InRange b → (a ≡ pos 0 → ⊥) → (a ≡ negsuc 0 → b ≡ negsuc (2 ^ 63 - 1) → ⊥) → Changes (Pair Div) (a ∷ b ∷ s) (quot_z b a ∷ s)
  unfolding Instr.combined quotient
  divide r z h = combines Div a b (quot_z b a) s (λ e. rw (is_not_zero a z) (fits (quot_z b a) (quot_range b a r h)))

  -- greater: 1 where b is greater than a, else 0 (rule 14.12)
  pub greater : lt_z a b ≡ true → Changes (Pair Gt) (a ∷ b ∷ s) (pos 1 ∷ s)
  unfolding Instr.combined
  greater h = combines Gt a b (pos 1) s (λ e. rw h)

  pub not_greater : lt_z a b ≡ false → Changes (Pair Gt) (a ∷ b ∷ s) (pos 0 ∷ s)
  unfolding Instr.combined
  not_greater h = combines Gt a b (pos 0) s (λ e. rw h)

-- mod has the sign of a: for a positive top a it is r from 0 to a - 1, where b is a multiple of a and r
pub modulo : (a : ℕ) (b : ℤ) (s : List ℤ) → 0 < a → InRange (pos a)
    → (r : ℕ) × Changes (Pair Mod) (pos a ∷ b ∷ s) (pos r ∷ s) × (r < a) × ((q : ℤ) × (b ≡ q *ℤ pos a +ℤ pos r))
unfolding Instr.combined
modulo a b s h r = (
  residue b a,
  combines Mod (pos a) b (pos (residue b a)) s (remainder_pos a b h r),
  residue_lt b a h,
  residue_differs a b h,
)

-- not: 0 becomes 1, all else 0 (rule 14.12)
pub not_zero : (s : List ℤ) → Changes Not (pos 0 ∷ s) (pos 1 ∷ s)
unfolding exec Instr.not is_zero
not_zero s g size m = refl

pub not_else : (a : ℤ) (s : List ℤ) → (a ≡ pos 0 → ⊥) → Changes Not (a ∷ s) (pos 0 ∷ s)
unfolding exec Instr.not
not_else a s h g size m = ap (λ (t : Bool). does (with_stack (Instr.bit t ∷ s) m)) (is_not_zero a h)

-- pointer: dp turns clockwise so many times, anticlockwise for a negative number (rule 14.13)
pub pointer : (g : Given) (size n : ℕ) (s : List ℤ) (m : Store) → Valid m.pointers
    → exec g size Ptr (with_stack (pos n ∷ s) m) ≡ does (with_stack s (with_pointers (times n clockwise m.pointers) m))
unfolding exec turn by_top Instr.pop
pointer g size n s m v = ap (λ (q : PointerState). does (with_stack s (with_pointers q m))) (sym (clockwise_times n m.pointers v))

pub pointer_back : (g : Given) (size n : ℕ) (s : List ℤ) (m : Store) → Valid m.pointers
    → exec g size Ptr (with_stack (negsuc n ∷ s) m) ≡ does (with_stack s (with_pointers (times (suc n) anticlockwise m.pointers) m))
unfolding exec turn by_top Instr.pop
pointer_back g size n s m v = ap (λ (q : PointerState). does (with_stack s (with_pointers q m))) (sym (anticlockwise_times n m.pointers v))

-- switch: cc flips |n| times
pub switch : (g : Given) (size : ℕ) (n : ℤ) (s : List ℤ) (m : Store) → Valid m.pointers
    → exec g size Swi (with_stack (n ∷ s) m) ≡ does (with_stack s (with_pointers (times (nat_abs n) flipped m.pointers) m))
unfolding exec turn by_top Instr.pop
switch g size n s m v = ap (λ (q : PointerState). does (with_stack s (with_pointers q m))) (sym (flipped_times n m.pointers v))

-- duplicate: the top twice (rule 14.10)
pub duplicate : (a : ℤ) (s : List ℤ) → Changes Dup (a ∷ s) (a ∷ a ∷ s)
unfolding exec Instr.dup
duplicate a s g size m = refl

-- out: the top goes and is written as a number or as a character (rule 14.15)
pub out_number : (g : Given) (size : ℕ) (a : ℤ) (s : List ℤ) (m : Store)
    → exec g size IntOut (with_stack (a ∷ s) m) ≡ does (with_stack s (with_outs (m.outs ++ (record { kind = 2; value = a } ∷ [])) m))
unfolding exec write of_top Instr.pop
out_number g size a s m = refl

pub out_character : (g : Given) (size u : ℕ) (s : List ℤ) (m : Store) → scalar u ≡ true
    → exec g size CharOut (with_stack (pos u ∷ s) m) ≡ does (with_stack s (with_outs (m.outs ++ (record { kind = 1; value = pos u } ∷ [])) m))
unfolding exec write of_top Instr.pop char residue
out_character g size u s m h = rw (mod-eq_of_lt {n = u} {m = 2 ^ 32} (omega (arith, scalar_small u h)), h)

-- in: a number or a character is read and pushed, and the command is ignored where there is none: ours reads a line, of which
-- CharIn takes one character in edition 2 (docs/DIFFERENCES.md), and pushes what it gives or leaves the stack; a skipped number
-- line is counted
module _ (g : Given) (reads : g.terms.abstract_mode ≡ false) (size : ℕ) (m : Store) where
  pub in_number : (v : ℤ) (n : ℕ) → take_of int_of whole_line g.input m.reading.used ≡ Line.Push v n
      → exec g size IntIn m ≡ does (with_used n (with_stack (v ∷ m.stack) m))
  unfolding exec read take counted
  in_number v n h = rw (reads, h)

  pub in_character : (v : ℤ) (n : ℕ) → take_of char_of (char_next g.terms.edition) g.input m.reading.used ≡ Line.Push v n
      → exec g size CharIn m ≡ does (with_used n (with_stack (v ∷ m.stack) m))
  unfolding exec read take
  in_character v n h = rw (reads, h)

  pub no_number : (n : ℕ) (why : Reason) → take_of int_of whole_line g.input m.reading.used ≡ Line.Skip n why
      → exec g size IntIn m ≡ does (with_used n (with_skips (one_more why m.reading.skips) m))
  unfolding exec read take counted
  no_number n why h = rw (reads, h)

  pub no_character : (n : ℕ) (why : Reason) → take_of char_of (char_next g.terms.edition) g.input m.reading.used ≡ Line.Skip n why
      → exec g size CharIn m ≡ does (with_used n m)
  unfolding exec read take
  no_character n why h = rw (reads, h)
