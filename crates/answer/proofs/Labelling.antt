-- What `label` answers and leaves where it is not refused. Assumes nothing.
use mathlib.Core.Path.{◌≡◌, refl, sym, ap, ◌∙◌}
use mathlib.Core.List.{List, [], ◌∷◌, ◌++◌, append_assoc}
use Prim.Native.Nat.{ℕ, ◌-◌, ◌≤◌}
use native.Mathlib.Omega.{arith}
use borrow.Author.Tests.{le-ltb}
use lib.ListN.{length, take, drop, replicate, length-append}
use lib.Seq.{take_at, length-take-le}
use Rattle.base.specs.Lent.{lent}
use Rattle.base.specs.Numbers.{numbers, first}
use Rattle.std.specs.Prelude.{Result, Ok, Err, IsOk}
use Rattle.base.specs.declared.refusal.Refusal.{Refusal}
use Rattle.base.proofs.RefusalLaws.{never_done}
use Rattle.colour.specs.Label.{label_of, padded, answer, Outcome}
use Rattle.colour.proofs.LabelLaws.{label_length}
use Rattle.report.specs.Fits.{Fits}
use Rattle.answer.specs.Printing.{Starts, Legal}

module _ (colour r c : ℕ) (before : List ℕ) (h : Legal colour r c) (room : 22 ≤ length before) where
  not_refused : answer colour r c (length before) ≡ numbers 0 (length (label_of colour r c) ∷ [])
  unfolding answer first
  not_refused =
      rw (le-ltb 19 colour h.colour_in, le-ltb 1023 r h.row_in, le-ltb 1023 c h.column_in, le-ltb (length before) 22 room)

  pub label_given : (given : Result ℕ Refusal) {after : List ℕ} → Outcome colour r c before given after → IsOk given
  label_given (Ok n) o = refl
  label_given (Err k) o = absurd (never_done _ _ _ (o.answers ∙ not_refused))

  pub label_starts : {after : List ℕ} {n : ℕ} → Outcome colour r c before (Ok n) after
      → Starts after n (label_of colour r c) × (n ≤ 22) × (after ≡ lent (padded (label_of colour r c)) before)
  unfolding lent padded
  label_starts {after} {n} o =
      let text = label_of colour r c in
      let zeros : List ℕ = replicate (22 - length text) 0 in
      let rest = drop (length (text ++ zeros)) before in
      let e = o.answers ∙ not_refused in
      let size : n ≡ length text = cc in
      let is : after ≡ text ++ (zeros ++ rest) = o.leaves ∙ append_assoc text zeros rest in
      let long = ap length is ∙ length-append text (zeros ++ rest) in
      let few = label_length colour r c h.row_in h.column_in in (
        record { within = omega arith; is = ap (take n) is ∙ take_at text (zeros ++ rest) n (sym size) },
        omega arith,
        o.leaves,
      )

-- the part that the label takes is no longer than 22 bytes
pub part_fits : {d text : List ℕ} {n room depth cells count kinds numbers : ℕ} → Starts d n text → n ≤ 22
    → Fits room 22 depth cells count kinds numbers → Fits room (length (take n d)) depth cells count kinds numbers
part_fits {d} {n = n} s k f =
    let l : length (take n d) ≡ n = length-take-le n d s.within in
    record {
      roomy = f.roomy;
      brief = omega arith;
      shallow = f.shallow;
      held = f.held;
      few = f.few;
      told = f.told;
      given = f.given;
    }
