-- Two outcomes that a contract allows for one input are equal, for each public function:
--     decode             reads_only
--     trim               trims_only
--     int_in, char_in    takes_only
--     is_utf8            `decides_only` of base's proofs/Only.antt
--     is_white, is_scalar, parse, line_end      `equation_only` there
-- No public function but `char_in` has a `requires`, and none changes a lent byte. Assumes nothing.
use Prim.Native.Nat.{ℕ}
use mathlib.Core.Path.{◌≡◌, sym, ap, ◌∙◌}
use mathlib.Core.List.{List, List-discrete}
use native.Mathlib.Decide.{ℕ_discrete}
use native.Mathlib.Omega.{arith}
use Rattle.text.specs.Line.{line_at}
use Rattle.text.specs.Utf8.{Valid, Reads, char, bad, past}
use Rattle.text.specs.Trim.{Trims}
use Rattle.text.specs.Input.{push_or_skip, Next, Takes, reads, bad as bad-line}
use Rattle.text.specs.declared.utf8.Decoded.{Decoded}
use Rattle.text.specs.Number.{Number}
use Rattle.text.specs.declared.input.Taken.{Taken}
use Rattle.text.proofs.Utf8Laws.{prefix_char, utf8_unique}
use Rattle.text.proofs.ValidLaws.{read_on, read_within}

-- what stands at a place is one thing
module _ (s : List ℕ) (at : ℕ) (x y : Decoded) where
  pub reads_only : Reads s at x → Reads s at y → x ≡ y
  reads_only (char c n k e) (char d m l f) =
      let z : c ≡ d = prefix_char c d _ _ (sym k.bytes ∙ l.bytes) in
      cc (k.next, l.next)
  reads_only (char c n k e) (bad h f g) = absurd (f c n k)
  reads_only (char c n k e) (past h f) = absurd (omega (arith, read_on s at c n k, read_within s at c n k))
  reads_only (bad h f g) (char c n k e) = absurd (f c n k)
  reads_only (bad h f g) (bad l p q) = g ∙ sym q
  reads_only (bad h f g) (past l e) = absurd (omega arith)
  reads_only (past h f) (char c n k e) = absurd (omega (arith, read_on s at c n k, read_within s at c n k))
  reads_only (past l e) (bad h f g) = absurd (omega arith)
  reads_only (past h f) (past l e) = f ∙ sym e

-- a line is trimmed in one way
pub trims_only : (s t t' : List ℕ) → Trims s t → Trims s t' → t ≡ t'
trims_only s t t' p q = go (List-discrete ℕ_discrete t t')
  where
    valid : Valid s → t ≡ t'
    valid v = (p.text v.0 v.1).same ∙ sym (q.text v.0 v.1).same

    go : Dec (t ≡ t') → t ≡ t'
    go (yes e) = e
    go (no f) = absurd (f (p.other (λ v. f (valid v)) ∙ sym (q.other (λ v. f (valid v)))))

-- an input instruction takes one thing
module _ (f : List ℕ → Number) (next : Next) (s : List ℕ) (at : ℕ) (x y : Taken) where
  pub takes_only : Takes f next s at x → Takes f next s at y → x ≡ y
  takes_only (reads cs u e) (reads ds v g) =
      e ∙ ap (λ (l : List ℕ). push_or_skip (f l) (next s at l)) (utf8_unique (line_at s at) cs ds u v) ∙ sym g
  takes_only (reads cs u e) (bad-line n g) = absurd (n (cs, u))
  takes_only (bad-line n e) (reads ds v g) = absurd (n (ds, v))
  takes_only (bad-line n e) (bad-line m g) = e ∙ sym g
