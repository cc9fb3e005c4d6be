-- Outputs in two slices: one more of them, and the first of the new ones. Assumes nothing.
use mathlib.Core.Path.{◌≡◌, refl, sym, ◌∙◌}
use mathlib.Core.List.{List, [], ◌∷◌, ◌++◌, append_assoc, append-nil}
use Prim.Native.Nat.{ℕ, zero, suc, ◌+◌, ◌<◌, ◌≤◌}
use native.Mathlib.Numerals.{add-one}
use native.Mathlib.Omega.{arith}
use lib.IntN.{ℤ, pos}
use lib.ListN.{get_or, drop, drop_of_length-le, get_or-append}
use lib.Seq.{drop-cons, get_or_at}
use Rattle.base.specs.Text.{ascii}
use Rattle.base.proofs.Tests.{by_size}
use Rattle.machine.specs.Output.{Emit, outs_of}
use Rattle.machine.proofs.Emitting.{outs_length}
use Rattle.telling.specs.Outputs.{emit_text, output_text, shown, out_text}

output_append : (es fs : List Emit) → output_text (es ++ fs) ≡ output_text es ++ output_text fs
unfolding output_text
output_append [] fs = refl
output_append (e ∷ es) fs =
    rw (output_append es fs) (sym (append_assoc (emit_text e.kind e.value) (output_text es) (output_text fs)))

-- what a place past the outputs holds, and what the two cells at a place are
abbrev none : Emit
none = record { kind = 0; value = pos 0 }

abbrev cells : List ℕ → List ℤ → ℕ → Emit
cells kinds values i = record { kind = get_or kinds i 0; value = get_or values i (pos 0) }

module _ (kinds : List ℕ) (values : List ℤ) where
  -- one output more
  pub output_turn : (i : ℕ)
      → output_text (outs_of kinds values i) ++ emit_text (get_or kinds i 0) (get_or values i (pos 0)) ≡ output_text (outs_of kinds values (i + 1))
  unfolding output_text outs_of
  output_turn i = rw (add-one i, output_append (outs_of kinds values i) (cells kinds values i ∷ []), append-nil)

  outs_at : (n i : ℕ) → i < n → get_or (outs_of kinds values n) i none ≡ cells kinds values i
  unfolding outs_of
  outs_at zero i h = absurd (omega arith)
  outs_at (suc n) i h =
      let l = outs_length kinds values n in
      by_size i n
      (λ q. get_or-append (outs_of kinds values n) (cells kinds values n ∷ []) none i (omega arith) ∙ outs_at n i q)
      (λ q. let e : i ≡ n = omega arith in rw e (get_or_at (outs_of kinds values n) (cells kinds values n) [] none n l))

  -- the first of the outputs from an index on
  pub first_new : (from to : ℕ) → from < to
      → out_text (drop from (outs_of kinds values to)) ≡ ascii "; out" ++ shown (get_or kinds from 0) (get_or values from (pos 0))
  unfolding out_text
  first_new from to h =
      let l = outs_length kinds values to in
      rw (drop-cons (outs_of kinds values to) from none (omega arith), outs_at to from h)

  pub no_new : (from to : ℕ) → to ≤ from → out_text (drop from (outs_of kinds values to)) ≡ []
  unfolding out_text
  no_new from to h =
      let l = outs_length kinds values to in
      rw (drop_of_length-le (outs_of kinds values to) {i = from} (omega arith))
