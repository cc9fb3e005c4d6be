-- Two outcomes that a contract of this crate allows are equal. The contracts of `bits`, `from_bits`, `wrapping_add`,
-- `wrapping_sub`, `wrapping_mul`, `abs`, `residue`, `modulo_2`, `modulo_4` and `low32` are equations of the result
-- (`equation_only` of base); those of `div` and `modulo` are equations of the answer's values. Assumes nothing.
use Rattle.std.proofs.Common.{◌≡◌, Option, Some, None, List, [], ◌∷◌, ℤ, sym, refl, ap, ◌∙◌}
use Rattle.word.specs.Word.{values}

-- the values name one case
abbrev option_of : List ℤ → Option ℤ
option_of [] = None
option_of (v ∷ vs) = Some v

named : (r : Option ℤ) → option_of (values r) ≡ r
named (Some v) = refl
named None = refl

pub divided_only : {value : List ℤ} (r r' : Option ℤ) → values r ≡ value → values r' ≡ value → r ≡ r'
divided_only r r' p q = sym (named r) ∙ ap option_of (p ∙ sym q) ∙ named r'
