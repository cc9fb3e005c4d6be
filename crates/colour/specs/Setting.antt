-- The settings for unknown pixels, those that are none of the twenty colours (rule 1.2): the one place that says what each
-- does. Assumes nothing.
use Rattle.std.specs.Prelude.{Bool, cond, ℕ, eqb, ltb}
use Rattle.colour.specs.Palette.{black, white}

-- the setting that refuses an unknown pixel
abbrev pub refusing : ℕ
refusing = 1

-- the setting that makes it black; the others, 2 and the default 0, make it white
abbrev pub blackening : ℕ
blackening = 3

-- a number that is no setting: refusal 3 (rule 12.2)
abbrev pub no_setting : ℕ → Bool
no_setting s = ltb 3 s

-- whether an unknown pixel is refused: refusal 5
abbrev pub refuses : ℕ → Bool
refuses s = eqb s refusing

-- the colour of an unknown pixel that is not refused
abbrev pub substitute : ℕ → ℕ
substitute s = cond (eqb s blackening) black white
