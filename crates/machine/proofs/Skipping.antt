-- The counts of skipped number lines after an instruction.
--     exec_counts      each is what it was, and one more where the instruction skipped a line for its reason
--     exec_total       their sum grows by at most one
--     times_append     reasons counted over two lists
--     skipped_means    a line that is skipped for a reason means it
--     range_same       the range of a number line is that of the values (rule 9.10)
--     skipped_same     which line is skipped does not depend on the pointers
-- Assumes nothing.
use mathlib.Core.Path.{◌≡◌, refl, ap, subst, ◌∙◌}
use mathlib.Core.Bool.{Bool, true, false, cond}
use mathlib.Core.Logic.{◌↔◌}
use mathlib.Core.List.{List, [], ◌∷◌, ◌++◌}
use Prim.Native.Nat.{ℕ, ◌+◌, ◌^◌, ◌<◌, ◌≤◌}
use native.Mathlib.Omega.{arith}
use borrow.Author.Tests.{lt-ltb, ltb-true}
use lib.IntN.{ℤ, pos, negsuc}
use lib.Signed.{mag}
use Rattle.base.proofs.Clash.{clash}
use Rattle.word.specs.Word.{wrap}
use Rattle.word.proofs.Wrapping.{wrap_fits, wrap_range}
use Rattle.flow.specs.declared.PointerState.{PointerState}
use Rattle.std.specs.Prelude.{Err}
use Rattle.text.specs.declared.number.Reason.{Reason}
use Rattle.text.specs.declared.number.Reason.TheVariants.{Ended, Blank, NotNumber, OutOfRange}
use Rattle.text.specs.declared.input.Taken.{Taken}
use Rattle.text.specs.declared.input.Taken.TheVariants as Line
use Rattle.text.specs.Utf8.{Utf8}
use Rattle.text.specs.Line.{line_at}
use Rattle.text.specs.Number.{in_range}
use Rattle.text.specs.Means.{Means}
use Rattle.text.specs.Input.{char_of, int_of, whole_line, char_next}
use Rattle.text.specs.Reading.{take_of}
use Rattle.text.proofs.Meaning.{skip_means}
use Rattle.machine.specs.declared.Op.{Op}
use Rattle.machine.specs.declared.Op.TheVariants.{Nothing, Push, Pop, Pair, Not, Ptr, Swi, Dup, Roll, CharIn, CharOut, IntIn, IntOut}
use Rattle.machine.specs.declared.Skips.{Skips}
use Rattle.machine.specs.Counts.{index_of, count_of, total, one, one_more, counted, times}
use Rattle.machine.specs.Machine.{Given, Store, Effect, does, bad_input, turn, write, take, take_number, read, exec, with_pointers, waiting}
use Rattle.machine.specs.Skipped.{reason_in, skipped}

-- one more of a reason, as each count shows it, and in all
more_counts : (w why : Reason) (s : Skips) → count_of why (one_more w s) ≡ count_of why s + one w why
unfolding index_of one_more
more_counts w Ended s = refl
more_counts w Blank s = refl
more_counts w NotNumber s = refl
more_counts w OutOfRange s = refl

more_total : (w : Reason) (s : Skips) → total (one_more w s) ≡ total s + 1
unfolding index_of one one_more
more_total Ended s = omega arith
more_total Blank s = omega arith
more_total NotNumber s = omega arith
more_total OutOfRange s = omega arith

-- the counts s' are s and the reasons
record Adds (ws : List Reason) (s s' : Skips) : Type 0 where
  pub each : (why : Reason) → count_of why s' ≡ count_of why s + times why ws
  pub few : total s' ≤ total s + 1

adds_none : (s : Skips) → Adds [] s s
unfolding times
adds_none s = record { each = λ why. omega arith; few = omega arith }

adds_one : (w : Reason) (s : Skips) → Adds (w ∷ []) s (one_more w s)
unfolding times
adds_one w s = record { each = λ why. omega (arith, more_counts w why s); few = omega (arith, more_total w s) }

abbrev Counts : List Reason → Store → Effect → Type 0
Counts ws m (does m') = Adds ws m.reading.skips m'.reading.skips
Counts ws m bad_input = Unit {0}

-- a line that is taken counts nothing by itself
taking : (t : Taken) (m : Store) → Counts [] m (take t m)
unfolding take
taking (Line.Push v n) m = adds_none m.reading.skips
taking (Line.Skip n why) m = adds_none m.reading.skips
taking Line.BadInput m = tt

taking_number : (t : Taken) (m : Store) → Counts (reason_in t) m (take_number t m)
unfolding take counted reason_in
taking_number (Line.Push v n) m = adds_none m.reading.skips
taking_number (Line.Skip n why) m = adds_one why m.reading.skips
taking_number Line.BadInput m = tt

executing : (g : Given) (size : ℕ) (op : Op) (m : Store) → Counts (skipped g op m) m (exec g size op m)
unfolding exec turn write read skipped
executing g size Nothing m = adds_none m.reading.skips
executing g size Push m = adds_none m.reading.skips
executing g size Pop m = adds_none m.reading.skips
executing g size (Pair p) m = adds_none m.reading.skips
executing g size Not m = adds_none m.reading.skips
executing g size Ptr m = adds_none m.reading.skips
executing g size Swi m = adds_none m.reading.skips
executing g size Dup m = adds_none m.reading.skips
executing g size Roll m = adds_none m.reading.skips
executing g size CharIn m = go g.terms.abstract_mode
  where
    go : (t : Bool) → Counts [] m (cond t (does (waiting m)) (take (take_of char_of (char_next g.terms.edition) g.input m.reading.used) m))
    go true = adds_none m.reading.skips
    go false = taking (take_of char_of (char_next g.terms.edition) g.input m.reading.used) m
executing g size CharOut m = adds_none m.reading.skips
executing g size IntIn m = go g.terms.abstract_mode
  where
    line : Taken
    line = take_of int_of whole_line g.input m.reading.used

    go : (t : Bool) → Counts (cond t [] (reason_in line)) m (cond t (does (waiting m)) (take_number line m))
    go true = adds_none m.reading.skips
    go false = taking_number line m
executing g size IntOut m = adds_none m.reading.skips

module _ (g : Given) (size : ℕ) (op : Op) (m : Store) {m' : Store} (e : exec g size op m ≡ does m') where
  pub exec_counts : (why : Reason) → count_of why m'.reading.skips ≡ count_of why m.reading.skips + times why (skipped g op m)
  exec_counts = (subst (Counts (skipped g op m) m) e (executing g size op m)).each

  pub exec_total : total m'.reading.skips ≤ total m.reading.skips + 1
  exec_total = (subst (Counts (skipped g op m) m) e (executing g size op m)).few

pub times_append : (why : Reason) (ws vs : List Reason) → times why (ws ++ vs) ≡ times why ws + times why vs
unfolding times
times_append why [] vs = omega arith
times_append why (w ∷ ws) vs = omega (arith, times_append why ws vs)

pub skipped_means : (g : Given) (m : Store) (why : Reason) → skipped g IntIn m ≡ why ∷ []
    → (cs : List ℕ) × Utf8 (line_at g.input m.reading.used) cs × Means cs (Err why)
unfolding skipped reason_in
skipped_means g m why = go g.terms.abstract_mode
  where
    line : Taken
    line = take_of int_of whole_line g.input m.reading.used

    by_line : (t : Taken) → line ≡ t → reason_in t ≡ why ∷ []
        → (cs : List ℕ) × Utf8 (line_at g.input m.reading.used) cs × Means cs (Err why)
    by_line (Line.Push v n) q e = clash cc
    by_line (Line.Skip n w) q e =
        let z : w ≡ why = cc in
        skip_means g.input m.reading.used n why (q ∙ ap (Line.Skip n) z)
    by_line Line.BadInput q e = clash cc

    go : (t : Bool) → cond t [] (reason_in line) ≡ why ∷ []
        → (cs : List ℕ) × Utf8 (line_at g.input m.reading.used) cs × Means cs (Err why)
    go true e = clash cc
    go false e = by_line line refl e

pub range_same : (z : ℤ) → (in_range z ≡ true) ↔ (wrap z ≡ z)
unfolding in_range
range_same (pos n) = (λ h. wrap_fits (pos n) (record { sfits = ltb-true n (2 ^ 63) h }), λ e. lt-ltb n (2 ^ 63) (subst (λ (y : ℤ). mag y < 2 ^ 63) e (wrap_range (pos n))))
range_same (negsuc n) = (λ h. wrap_fits (negsuc n) (record { sfits = ltb-true n (2 ^ 63) h }), λ e. lt-ltb n (2 ^ 63) (subst (λ (y : ℤ). mag y < 2 ^ 63) e (wrap_range (negsuc n))))

pub skipped_same : (g : Given) (op : Op) (u : PointerState) (m : Store) → skipped g op (with_pointers u m) ≡ skipped g op m
unfolding skipped
skipped_same g Nothing u m = refl
skipped_same g Push u m = refl
skipped_same g Pop u m = refl
skipped_same g (Pair p) u m = refl
skipped_same g Not u m = refl
skipped_same g Ptr u m = refl
skipped_same g Swi u m = refl
skipped_same g Dup u m = refl
skipped_same g Roll u m = refl
skipped_same g CharIn u m = refl
skipped_same g CharOut u m = refl
skipped_same g IntIn u m = refl
skipped_same g IntOut u m = refl
