-- A value as a character, and the texts of an output by what it is. Assumes nothing.
use mathlib.Core.Path.{◌≡◌, refl, sym, ap, ◌∙◌}
use mathlib.Core.Bool.{true, false}
use mathlib.Core.List.{[]}
use Prim.Native.Nat.{ℕ, ◌<◌, ◌≤◌}
use native.Mathlib.Omega.{arith}
use borrow.Author.Tests.{lt-ltb, le-ltb, le-leb, eq-eqb, ne_eqb}
use lib.Dec.{leb}
use lib.IntN.{ℤ, pos, negsuc, nat_abs}
use Rattle.word.proofs.Signed.{Neg, neg, NonNeg, nonneg}
use Rattle.text.specs.Utf8.{scalar, encode}
use Rattle.text.specs.Range.{within}
use Rattle.text.proofs.RangeLaws.{below}
use Rattle.text.proofs.Utf8Laws.{scalar_bounds, scalar_high}
use Rattle.report.specs.Text.{int, value, item}
use Rattle.std.specs.Prelude.{Some, None}
use Rattle.telling.specs.Outputs.{control, is_char, is_shown, emit_text, quoted, shown}
use Rattle.telling.specs.Bounds.{Names}

-- which character a value is
pub no_char_below : {v : ℤ} → Neg v → Names v None
unfolding Names
no_char_below (neg n h) = refl

pub no_char_above : {v : ℤ} {n : ℕ} → NonNeg v → n ≡ nat_abs v → 0x10FFFF < n → Names v None
unfolding Names
no_char_above (nonneg m h) e k = scalar_high m (omega arith) ∙ le-ltb m 0x110000 (omega arith)

pub no_scalar : {v : ℤ} {n : ℕ} → NonNeg v → n ≡ nat_abs v → scalar n ≡ false → Names v None
unfolding Names
no_scalar (nonneg m h) e k = ap scalar (sym e) ∙ k

pub a_scalar : {v : ℤ} {n : ℕ} → NonNeg v → n ≡ nat_abs v → scalar n ≡ true → Names v (Some n)
unfolding Names
a_scalar (nonneg m h) e k = (ap pos (sym e), k)

-- a scalar is below 0x110000
pub named_small : (v : ℤ) (c : ℕ) → Names v (Some c) → c < 0x110000
unfolding Names
named_small v c h = (scalar_bounds c h.1).0

-- control characters, by the three tests
pub control_low : (c : ℕ) → c < 32 → control c ≡ true
control_low c h = rw (lt-ltb c 32 h)

pub control_none : (c : ℕ) → 32 ≤ c → c < 127 → control c ≡ false
control_none c h k = rw (le-ltb c 32 h, below 127 159 c k)

pub control_rest : (c : ℕ) → 127 ≤ c → control c ≡ leb c 159
unfolding within
control_rest c h = rw (le-ltb c 32 (omega arith), le-leb 127 c h)

-- an output, by its kind and the character that it is
module _ (kind : ℕ) (v : ℤ) where
  pub emit_number : (kind ≡ 1 → ⊥) → emit_text kind v ≡ int v
  unfolding emit_text
  emit_number h = rw (ne_eqb kind 1 h)

  pub emit_none : kind ≡ 1 → Names v None → emit_text kind v ≡ []
  unfolding emit_text Names
  emit_none e h = rw (eq-eqb kind 1 e, h)

  pub emit_char : (c : ℕ) → kind ≡ 1 → Names v (Some c) → emit_text kind v ≡ encode c
  unfolding emit_text Names
  emit_char c e h = rw (eq-eqb kind 1 e, h.0, h.1)

  pub shown_number : (kind ≡ 1 → ⊥) → shown kind v ≡ value v
  unfolding shown
  shown_number h = rw (ne_eqb kind 1 h)

  pub shown_char : (c : ℕ) → kind ≡ 1 → Names v (Some c) → control c ≡ false → shown kind v ≡ quoted (encode c)
  unfolding shown Names
  shown_char c e h k = rw (eq-eqb kind 1 e, h.0, h.1, k)

  pub shown_control : (c : ℕ) → kind ≡ 1 → Names v (Some c) → control c ≡ true → shown kind v ≡ item 1 v
  unfolding shown Names
  shown_control c e h k = rw (eq-eqb kind 1 e, h.0, h.1, k)

hidden_other : (v : ℤ) → is_char v ≡ false → is_shown v ≡ false
hidden_other (pos c) e = rw e
hidden_other (negsuc n) e = refl

pub shown_other : (kind : ℕ) (v : ℤ) → kind ≡ 1 → Names v None → shown kind v ≡ item 1 v
unfolding shown Names
shown_other kind v e h = rw (eq-eqb kind 1 e, hidden_other v h)
