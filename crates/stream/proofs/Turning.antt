-- The loop of calls ends: each turn moves a byte, is one more in vain, or is the last. Assumes nothing.
use mathlib.Core.Path.{◌≡◌}
use mathlib.Core.Bool.{true}
use Prim.Native.Nat.{ℕ, ◌+◌, ◌-◌, ◌≤◌, ◌<◌}
use native.Mathlib.Omega.{arith}
use Rattle.base.proofs.Clash.{clash}
use Rattle.stream.specs.declared.Step.{Step}
use Rattle.stream.specs.declared.Step.TheVariants.{Moved, End, Again, Failed}
use Rattle.stream.specs.Calls.{moved_of, vain_of, goes_on, Makes}

-- 1 while another call is to come
abbrev pub going : Step → ℕ
going (Moved n) = 1
going End = 0
going Again = 1
going Failed = 0

-- what is left: bytes, tries, and whether another call is to come
abbrev pub left : ℕ → ℕ → ℕ → ℕ → Step → ℕ
left room patience done tries last = going last + ((room - done) + (patience - tries))

vain_one : (s : Step) → vain_of s ≤ 1
vain_one (Moved n) = omega arith
vain_one End = omega arith
vain_one Again = omega arith
vain_one Failed = omega arith

pub vain_few : {k : ℕ} (s : Step) → k ≡ vain_of s → k ≤ 1
vain_few s e = omega (arith, vain_one s)

is_going : (s : Step) → goes_on s ≡ true → going s ≡ 1
is_going (Moved n) t = omega arith
is_going End t = clash (cc)
is_going Again t = omega arith
is_going Failed t = clash (cc)

module _ {room patience done tries : ℕ} (h : done ≤ room) (k : tries < patience) where
  one_less : (next : Step) → Makes (room - done) next → left room patience (done + moved_of next) (tries + vain_of next) next < 1 + ((room - done) + (patience - tries))
  one_less (Moved n) m = omega (arith, m.fits, m.gains (cc))
  one_less End m = omega arith
  one_less Again m = omega arith
  one_less Failed m = omega arith

  pub less : (last next : Step) {b v : ℕ} → goes_on last ≡ true → Makes (room - done) next → b ≡ moved_of next → v ≡ vain_of next
      → left room patience (done + b) (tries + v) next < left room patience done tries last
  less last next t m p q = rw (p, q, is_going last t) (one_less next m)
