-- A pointer state (rule 4.1) and what turns it (rules 4.5, 5.2, 9.7).
-- dp right, down, left, up is 0 to 3; cc left, right is 0, 1. Assumes nothing.
use Rattle.std.specs.Prelude.{cond, ℕ, zero, suc, ◌+◌, ◌-◌, ◌*◌, ◌/◌, ◌%◌, ◌<◌, eqb, ℤ}
use Rattle.word.specs.Word.{residue}
use Rattle.flow.specs.declared.PointerState.{PointerState}

pub record Valid (p : PointerState) : Type 0 where
  pub dp : p.dp < 4
  pub cc : p.cc < 2

-- the number of a state (rule 4.1)
abbrev pub state_number : PointerState → ℕ
state_number p = 2 * p.dp + p.cc

abbrev pub of_number : ℕ → PointerState
of_number s = record { dp = s / 2; cc = s % 2 }

-- dp right, cc left (rules 8.1, 14.4)
abbrev pub start_state : PointerState
start_state = record { dp = 0; cc = 0 }

-- Ptr: dp turns clockwise n times, anticlockwise where n is negative. Swi: cc flips n times (rule 9.7)
abbrev pub rotated : PointerState → ℤ → PointerState
rotated p n = record { dp = (p.dp + residue n 4) % 4; cc = p.cc }

abbrev pub switched : PointerState → ℤ → PointerState
switched p n = record { dp = p.dp; cc = (p.cc + residue n 2) % 2 }

-- dp one quarter clockwise; cc to the other side; both, as a slide turns where it is shut (rule 5.2)
abbrev pub clockwise : PointerState → PointerState
clockwise p = record { dp = (p.dp + 1) % 4; cc = p.cc }

abbrev pub flipped : PointerState → PointerState
flipped p = record { dp = p.dp; cc = 1 - p.cc }

abbrev pub turned_once : PointerState → PointerState
turned_once p = clockwise (flipped p)

-- the page's order of attempts: cc flips after a failed one, dp turns clockwise after the next, alternately (rules 4.5, 14.7)
abbrev pub after_failed : ℕ → PointerState → PointerState
after_failed k p = cond (eqb (k % 2) 0) (flipped p) (clockwise p)

-- the k-th attempt from a state; the state itself is attempt 0
unfoldable pub attempt_of : PointerState → ℕ → PointerState
attempt_of p zero = p
attempt_of p (suc k) = after_failed k (attempt_of p k)

-- the Rust's number of an attempt, `find_offset` (rule 4.5); the exclusive or of two bits is their sum's remainder
abbrev pub xor : ℕ → ℕ → ℕ
xor a b = (a + b) % 2

abbrev pub quarters : PointerState → PointerState → ℕ
quarters p t = (t.dp + 4 - p.dp) % 4

abbrev pub offset_of : PointerState → PointerState → ℕ
offset_of p t = 2 * quarters p t + xor (xor p.cc t.cc) (quarters p t % 2)
