-- `machine::Skips::one_more` meets its contract: the sum of the counts bounds each. Assumes nothing.
use mathlib.Core.Path.{◌≡◌}
use Prim.Native.Nat.{◌+◌}
use native.Mathlib.Omega.{arith}
use Rattle.text.specs.declared.number.Reason.{Reason}
use Rattle.text.specs.declared.number.Reason.TheVariants.{Ended, Blank, NotNumber, OutOfRange}
use Rattle.machine.specs.declared.Skips.{Skips}
use Rattle.machine.specs.Counts.{index_of, one, one_more}
use Rattle.machine.proofs.Skips.one_more.Goals as goal

-- count by count
each : (why : Reason) (s s' : Skips) → s'.ended ≡ s.ended + one why Ended → s'.blank ≡ s.blank + one why Blank
    → s'.not_number ≡ s.not_number + one why NotNumber → s'.out_of_range ≡ s.out_of_range + one why OutOfRange → s' ≡ one_more why s
unfolding one_more
each why s s' a b c d = λ i. record { ended = a i; blank = b i; not_number = c i; out_of_range = d i }

pub returns-in-Ended : goal.returns-in-Ended
unfolding index_of one
returns-in-Ended c = rw c.in-Ended.is (each Ended c.args.self _ (omega arith) (omega arith) (omega arith) (omega arith))

pub returns-in-Blank : goal.returns-in-Blank
unfolding index_of one
returns-in-Blank c = rw c.in-Blank.is (each Blank c.args.self _ (omega arith) (omega arith) (omega arith) (omega arith))

pub returns-in-NotNumber : goal.returns-in-NotNumber
unfolding index_of one
returns-in-NotNumber c = rw c.in-NotNumber.is (each NotNumber c.args.self _ (omega arith) (omega arith) (omega arith) (omega arith))

pub returns-in-OutOfRange : goal.returns-in-OutOfRange
unfolding index_of one
returns-in-OutOfRange c = rw c.in-OutOfRange.is (each OutOfRange c.args.self _ (omega arith) (omega arith) (omega arith) (omega arith))
