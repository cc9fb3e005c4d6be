-- An input and its first 8,193 bytes, one more than the longest job has, have the same answer. Assumes nothing.
use mathlib.Core.Path.{◌≡◌, refl, subst}
use mathlib.Core.Bool.{Bool, true, false}
use mathlib.Core.List.{List}
use Prim.Native.Nat.{ℕ, ◌<◌}
use native.Mathlib.Omega.{arith}
use borrow.Author.Tests.{ltb-true, ltb-false}
use lib.Dec.{ltb}
use lib.ListN.{length, take}
use lib.Seq.{length-take-le, take_all}
use Rattle.job.specs.Encoding.{Content}
use Rattle.answer.specs.Program.{Answers, no_job, refused, ran, Printed, short, printed}

module _ {Shows : Content → List ℕ → Type 0} where
  -- too long for a job
  long_answers : {cut input text : List ℕ} → 8192 < length cut → 8192 < length input → Answers Shows cut text → Answers Shows input text
  long_answers {cut} {input} h k (no_job none) = no_job (λ c j. omega (arith, j.few))
  long_answers {cut} {input} h k (refused c j n v e) = absurd (omega (arith, j.few))
  long_answers {cut} {input} h k (ran c j e shown) = absurd (omega (arith, j.few))

  cut_answers : (input : List ℕ) {text : List ℕ} → Answers Shows (take 8193 input) text → Answers Shows input text
  cut_answers input {text} = by (ltb 8193 (length input)) refl
    where
      by : (b : Bool) → ltb 8193 (length input) ≡ b → Answers Shows (take 8193 input) text → Answers Shows input text
      by true e a =
          let h = ltb-true 8193 (length input) e in
          long_answers (omega (arith, length-take-le 8193 input (omega arith))) (omega arith) a
      by false e a = subst (λ (l : List ℕ). Answers Shows l text) (take_all 8193 input (ltb-false 8193 (length input) e)) a

  pub cut_printed : (input : List ℕ) {room r : ℕ} {before after : List ℕ} → Printed Shows room (take 8193 input) before r after → Printed Shows room input before r after
  cut_printed input (short h e f) = short h e f
  cut_printed input (printed h p) = printed h (record { text = p.text; answers = cut_answers input p.answers; size = p.size; list = p.list })
