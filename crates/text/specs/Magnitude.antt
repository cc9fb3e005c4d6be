-- Inner: the value of digits up to a limit, as a helper of `parse` makes it. No public contract cites it. Assumes nothing.
use Rattle.std.specs.Prelude.{ℕ, cond, List, leb, Result, Ok, Err}
use Rattle.base.specs.Text.{numeral, value_after}
use Rattle.text.specs.declared.number.Reason.{Reason}
use Rattle.text.specs.declared.number.Reason.TheVariants.{NotNumber, OutOfRange}

-- the value of digits, where it is no more than the limit
unfoldable pub magnitude_of : ℕ → List ℕ → Result ℕ Reason
magnitude_of limit bs =
    cond (numeral bs) (cond (leb (value_after 0 bs) limit) (Ok (value_after 0 bs)) (Err OutOfRange)) (Err NotNumber)
