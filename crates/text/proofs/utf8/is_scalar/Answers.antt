-- `text::utf8::is_scalar` meets its contract: below the surrogates, among them, above them.
-- Assumes nothing.
use mathlib.Core.Path.{sym}
use native.Mathlib.Omega.{arith}
use mathlib.Core.Logic.{inl}
use Rattle.text.proofs.Utf8Laws.{bounds_scalar, scalar_gap, scalar_high}
use Rattle.text.proofs.utf8.is_scalar.Goals as goal

pub returns-then-n-lt55296 : goal.returns-then-n-lt55296
returns-then-n-lt55296 c = sym (bounds_scalar c.args.n (omega arith) (inl c.if-n-lt55296.true))

pub returns-then-n-lt57344 : goal.returns-then-n-lt57344
returns-then-n-lt57344 c = sym (scalar_gap c.args.n (omega arith) (omega arith))

pub returns : goal.returns
returns c = sym (scalar_high c.args.n (omega arith))
