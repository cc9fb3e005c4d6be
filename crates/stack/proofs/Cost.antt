-- What one Roll costs (rule 9.11): its exchanges write each of the cells that turn at most twice and no other cell, whatever a is, and what
-- `roll` leaves in the cells is what its exchanges make of them once those of a and n are cleared; at a bad depth the cells are in
-- edition 2 as they were.
--     roll_twice, roll_elsewhere    how often a cell is written
--     roll_few                      how many writes there are in all
--     unwritten                     what is not counted as written keeps its value
--     roll_exchanged                what the contract of `roll` settles is what they make
--     roll_untouched                at a bad depth in edition 2 it is what was there
-- Assumes nothing.
use mathlib.Core.Path.{◌≡◌, refl, ap, ◌∙◌}
use mathlib.Core.List.{List, [], ◌∷◌, ◌++◌}
use mathlib.Core.Bool.{Bool, true, false, cond}
use mathlib.Core.Logic.{◌⊎◌, inl, inr}
use Prim.Native.Nat.{ℕ, zero, suc, ◌+◌, ◌-◌, ◌*◌, ◌/◌, ◌<◌, ◌≤◌}
use native.Mathlib.Decide.{dec_lt}
use native.Mathlib.Omega.{arith}
use borrow.Author.Tests.{eqb-true, eqb-false, ne_eqb}
use lib.Dec.{eqb}
use lib.ListN.{length, get_or, set, drop, length-append, length-set}
use lib.Seq.{get_or-set_other}
use lib.IntN.{ℤ, pos}
use Rattle.base.specs.declared.edition.Edition.{Edition}
use Rattle.base.specs.declared.edition.Edition.TheVariants.{Rust, Page}
use Rattle.word.specs.Word.{residue}
use Rattle.word.proofs.Wrapping.{residue_lt}
use Rattle.stack.specs.Stack.{stack_of, Lies, Does}
use Rattle.stack.specs.Instr as Instr
use Rattle.stack.specs.Instr.{undone, bad_depth, places}
use Rattle.stack.specs.Exchange.{Exchanges, exchange, exchanged, inward, reversal, three_reversals, roll_exchanges, writes_to}
use Rattle.stack.proofs.Cells.{pops_at, pop_pop, then, two, stack_of_length}
use Rattle.stack.proofs.Rolling.{bad_at, some, places_bad, places_le, roll_bad, roll_none, roll_some}
use Rattle.stack.proofs.Exchanging.{turns, length_exchanged}
use Rattle.stack.proofs.Only.{does_only}

joined : (i : ℕ) (ps qs : Exchanges) → writes_to i (ps ++ qs) ≡ writes_to i ps + writes_to i qs
unfolding writes_to
joined i [] qs = omega arith
joined i (p ∷ ps) qs = omega (arith, joined i ps qs)

-- an exchange of two other cells
apart : (i lo hi w : ℕ) → (i ≡ lo → ⊥) → (i ≡ hi → ⊥) → cond (eqb i lo) 1 0 + cond (eqb i hi) 1 0 + w ≡ w
apart i lo hi w a b = rw (ne_eqb i lo a, ne_eqb i hi b) (omega arith)

-- pairs from both ends inward that do not meet write no cell outside their part ..
below : (m lo hi i : ℕ) → lo + 2 * m ≤ hi → i < lo → writes_to i (inward m lo hi) ≡ 0
unfolding inward writes_to
below zero lo hi i h b = refl
below (suc m) lo hi i h b =
    apart i lo (hi - 1) _ (λ e. omega arith) (λ e. omega arith) ∙ below m (suc lo) (hi - 1) i (omega arith) (omega arith)

above : (m lo hi i : ℕ) → lo + 2 * m ≤ hi → hi ≤ i → writes_to i (inward m lo hi) ≡ 0
unfolding inward writes_to
above zero lo hi i h b = refl
above (suc m) lo hi i h b =
    apart i lo (hi - 1) _ (λ e. omega arith) (λ e. omega arith) ∙ above m (suc lo) (hi - 1) i (omega arith) (omega arith)

-- .. and none in it more than once
once : (m lo hi i : ℕ) → lo + 2 * m ≤ hi → writes_to i (inward m lo hi) ≤ 1
unfolding inward writes_to
once zero lo hi i h = omega arith
once (suc m) lo hi i h = go (eqb i lo) (eqb i (hi - 1)) refl refl (writes_to i (inward m (suc lo) (hi - 1)))
    (below m (suc lo) (hi - 1) i (omega arith)) (above m (suc lo) (hi - 1) i (omega arith)) (once m (suc lo) (hi - 1) i (omega arith))
  where
    go : (s t : Bool) → eqb i lo ≡ s → eqb i (hi - 1) ≡ t → (w : ℕ) → (i < suc lo → w ≡ 0) → (hi - 1 ≤ i → w ≡ 0) → w ≤ 1
        → cond s 1 0 + cond t 1 0 + w ≤ 1
    go true true e f w b a r = absurd (omega (arith, eqb-true i lo e, eqb-true i (hi - 1) f))
    go true false e f w b a r =
        let q = eqb-true i lo e in
        omega (arith, b (omega arith))
    go false true e f w b a r =
        let q = eqb-true i (hi - 1) f in
        omega (arith, a (omega arith))
    go false false e f w b a r = omega arith

-- the pairs of a reversal do not meet, so that the same holds of it
half : (lo hi : ℕ) → lo ≤ hi → lo + 2 * ((hi - lo) / 2) ≤ hi
half lo hi h = omega arith

module _ (lo hi i : ℕ) (h : lo ≤ hi) where
  reversal_below : i < lo → writes_to i (reversal lo hi) ≡ 0
  reversal_below = below ((hi - lo) / 2) lo hi i (half lo hi h)

  reversal_above : hi ≤ i → writes_to i (reversal lo hi) ≡ 0
  reversal_above = above ((hi - lo) / 2) lo hi i (half lo hi h)

  reversal_once : writes_to i (reversal lo hi) ≤ 1
  reversal_once = once ((hi - lo) / 2) lo hi i (half lo hi h)

inward_length : (m lo hi : ℕ) → length (inward m lo hi) ≡ m
unfolding inward
inward_length zero lo hi = refl
inward_length (suc m) lo hi = ap suc (inward_length m (suc lo) (hi - 1))

module _ (d n k : ℕ) (kn : k ≤ n) (nd : n ≤ d) where
  each : (i : ℕ)
      → writes_to i (three_reversals d n k)
      ≡ writes_to i (reversal (d - n) (d - k)) + writes_to i (reversal (d - k) d) + writes_to i (reversal (d - n) d)
  unfolding three_reversals
  each i =
      joined i (reversal (d - n) (d - k) ++ reversal (d - k) d) (reversal (d - n) d)
      ∙ ap (λ (w : ℕ). w + writes_to i (reversal (d - n) d)) (joined i (reversal (d - n) (d - k)) (reversal (d - k) d))

  -- a cell is in the lower part or in the upper one, and in the whole
  turn_twice : (i : ℕ) → writes_to i (three_reversals d n k) ≤ 2
  turn_twice i = go (dec_lt i (d - k))
    where
      go : Dec (i < d - k) → writes_to i (three_reversals d n k) ≤ 2
      go (yes b) =
          omega
          (arith, each i, reversal_once (d - n) (d - k) i (omega arith), reversal_below (d - k) d i (omega arith) b, reversal_once (d - n) d i (omega arith))
      go (no a) =
          omega
          (arith, each i, reversal_above (d - n) (d - k) i (omega arith) (omega arith), reversal_once (d - k) d i (omega arith), reversal_once (d - n) d i (omega arith))

  turn_elsewhere : (i : ℕ) → (i < d - n) ⊎ (d ≤ i) → writes_to i (three_reversals d n k) ≡ 0
  turn_elsewhere i (inl b) =
      each i
      ∙ rw (reversal_below (d - n) (d - k) i (omega arith) b, reversal_below (d - k) d i (omega arith) (omega arith), reversal_below (d - n) d i (omega arith) b)
      refl
  turn_elsewhere i (inr a) =
      each i
      ∙ rw (reversal_above (d - n) (d - k) i (omega arith) (omega arith), reversal_above (d - k) d i (omega arith) a, reversal_above (d - n) d i (omega arith) a)
      refl

  turn_few : length (three_reversals d n k) ≤ n
  unfolding three_reversals
  turn_few = simp (length-append, inward_length) (omega arith)

-- a Roll of a and n over the values s
module _ (a n : ℤ) (s : List ℤ) where
  abbrev turned : ℕ
  turned = places n (length s)

  -- what holds of the empty list of exchanges, and of three reversals by any count of places, holds of its exchanges
  by_reversals : (P : Exchanges → Type 0) → P [] → ((k : ℕ) → k ≤ turned → P (three_reversals (length s) turned k)) → P (roll_exchanges (a ∷ (n ∷ s)))
  unfolding roll_exchanges
  by_reversals P none reversed = go (eqb turned 0) refl
    where
      go : (t : Bool) → eqb turned 0 ≡ t → P (cond t [] (three_reversals (length s) turned (residue a turned)))
      go true e = none
      go false e = reversed (residue a turned) (omega (arith, residue_lt a turned (some turned (eqb-false turned 0 e))))

  -- each cell is written at most twice ..
  pub roll_twice : (i : ℕ) → writes_to i (roll_exchanges (a ∷ (n ∷ s))) ≤ 2
  unfolding writes_to
  roll_twice i = by_reversals (λ ps. writes_to i ps ≤ 2) (omega arith) (λ k h. turn_twice (length s) turned k h (places_le n (length s)) i)

  -- .. those below the values that turn, and from the place of n on, not at all
  pub roll_elsewhere : (i : ℕ) → (i < length s - turned) ⊎ (length s ≤ i) → writes_to i (roll_exchanges (a ∷ (n ∷ s))) ≡ 0
  unfolding writes_to
  roll_elsewhere i o = by_reversals (λ ps. writes_to i ps ≡ 0) refl (λ k h. turn_elsewhere (length s) turned k h (places_le n (length s)) i o)

  -- an exchange is two writes, and there are at most two writes for each value that turns
  pub roll_few : 2 * length (roll_exchanges (a ∷ (n ∷ s))) ≤ 2 * turned
  roll_few = by_reversals (λ ps. 2 * length ps ≤ 2 * turned) (omega arith) (λ k h. omega (arith, turn_few (length s) turned k h (places_le n (length s))))

-- three values by 1: the two lower ones change places, then the lowest and the uppermost, so that cell 0 is written twice
pub example : (roll_exchanges (pos 1 ∷ pos 3 ∷ pos 6 ∷ pos 5 ∷ pos 4 ∷ []) ≡ (0, 1) ∷ (0, 2) ∷ [])
    × (writes_to 0 ((0, 1) ∷ (0, 2) ∷ []) ≡ 2)
    × (writes_to 1 ((0, 1) ∷ (0, 2) ∷ []) ≡ 1)
    × (writes_to 2 ((0, 1) ∷ (0, 2) ∷ []) ≡ 1)
    × (writes_to 3 ((0, 1) ∷ (0, 2) ∷ []) ≡ 0)
unfolding roll_exchanges three_reversals inward bad_depth places residue writes_to
example = (refl, refl, refl, refl, refl)

-- a cell that is not written keeps its value
pub unwritten : (i : ℕ) (ps : Exchanges) (c : List ℤ) → writes_to i ps ≡ 0 → get_or (exchanged ps c) i (pos 0) ≡ get_or c i (pos 0)
unfolding writes_to exchanged exchange
unwritten i [] c e = refl
unwritten i (p ∷ ps) c e = go (eqb i p.0) (eqb i p.1) refl refl e (unwritten i ps (exchange p.0 p.1 c))
  where
    go : (s t : Bool) → eqb i p.0 ≡ s → eqb i p.1 ≡ t → cond s 1 0 + cond t 1 0 + writes_to i ps ≡ 0
        → (writes_to i ps ≡ 0 → get_or (exchanged ps (exchange p.0 p.1 c)) i (pos 0) ≡ get_or (exchange p.0 p.1 c) i (pos 0))
        → get_or (exchanged ps (exchange p.0 p.1 c)) i (pos 0) ≡ get_or c i (pos 0)
    go true true f g e rest = absurd (omega arith)
    go true false f g e rest = absurd (omega arith)
    go false true f g e rest = absurd (omega arith)
    go false false f g e rest =
        rest (omega arith)
        ∙ get_or-set_other (set c p.0 (get_or c p.1 (pos 0))) p.1 i (get_or c p.0 (pos 0)) (pos 0) (eqb-false i p.1 g)
        ∙ get_or-set_other c p.0 i (get_or c p.1 (pos 0)) (pos 0) (eqb-false i p.0 f)

-- the cells after a Roll: those of a and n are cleared, one write each, and then the exchanges are made
module _ (c : List ℤ) (d : ℕ) (h : 2 ≤ d) (l : Lies c d) where
  abbrev cleared : List ℤ
  cleared = set (set c (d - 1) (pos 0)) (d - 2) (pos 0)

  clears : Does (drop 2) c d cleared (d - 2)
  clears =
      let p = pops_at c d (omega arith) l in
      rw (less d) at (then p (pops_at (set c (d - 1) (pos 0)) (d - 1) (omega arith) p.lies) pop_pop)
    where
      less : (d : ℕ) → d - 1 - 1 ≡ d - 2
      less d = omega arith

  abbrev made : List ℤ
  made = exchanged (roll_exchanges (stack_of c d)) cleared

  does_good : (e : Edition) → bad_at c d ≡ false → Does (Instr.roll e) c d made (d - 2)
  unfolding roll_exchanges exchanged
  does_good e b = rw (two c d h, stack_of_length c (d - 2)) (go (eqb m 0) refl)
    where
      a : ℤ
      a = get_or c (d - 1) (pos 0)

      m : ℕ
      m = places (get_or c (d - 2) (pos 0)) (d - 2)

      go : (t : Bool) → eqb m 0 ≡ t → Does (Instr.roll e) c d (exchanged (cond t [] (three_reversals (d - 2) m (residue a m))) cleared) (d - 2)
      go true f = roll_none e h b clears (eqb-true m 0 f)
      go false f =
          let g = some m (eqb-false m 0 f) in
          roll_some e h b clears m (residue a m) refl g refl
          (turns cleared (d - 2) m (residue a m) (omega (arith, residue_lt a m g)) (places_le (get_or c (d - 2) (pos 0)) (d - 2)) clears.lies)

  does_bad : bad_at c d ≡ true → Does (Instr.roll Rust) c d made (d - 2)
  unfolding roll_exchanges exchanged undone
  does_bad b =
      rw (two c d h, stack_of_length c (d - 2), places_bad (get_or c (d - 2) (pos 0)) (d - 2) b) (roll_bad Rust h b clears)

  does_roll : (e : Edition) → (e ≡ Rust) ⊎ (bad_at c d ≡ false) → Does (Instr.roll e) c d made (d - 2)
  does_roll e (inr b) = does_good e b
  does_roll e (inl r) = rw r (go (bad_at c d) refl)
    where
      go : (t : Bool) → bad_at c d ≡ t → Does (Instr.roll Rust) c d made (d - 2)
      go true b = does_bad b
      go false b = does_good Rust b

  pub roll_exchanged : (e : Edition) → (e ≡ Rust) ⊎ (bad_at c d ≡ false)
      → (c' : List ℤ) (d' : ℕ) → length c' ≡ length c → Does (Instr.roll e) c d c' d'
      → c' ≡ exchanged (roll_exchanges (stack_of c d)) cleared
  roll_exchanged e o c' d' n p =
      (does_only (Instr.roll e) c d c' made n (length_exchanged (roll_exchanges (stack_of c d)) cleared ∙ simp length-set) d' (d - 2) p
      (does_roll e o)).1

  -- at a bad depth the cells are in edition 2 as they were (rule 16.2)
  pub roll_untouched : bad_at c d ≡ true
      → (c' : List ℤ) (d' : ℕ) → length c' ≡ length c → Does (Instr.roll Page) c d c' d' → c' ≡ c
  unfolding undone
  roll_untouched b c' d' n p =
      (does_only (Instr.roll Page) c d c' c n refl d' d p (roll_bad Page h b (record { lies = l; is = refl }))).1
