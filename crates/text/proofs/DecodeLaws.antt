-- A character at a place of the bytes, by the numbers that stand there.
--     One, Two, Three, Four    a character of so many bytes stands at a place: the bounds of the code point and the bytes there
--     stands                   each character that stands at a place is one of them
--     never1, is2, is3, is4    the first byte says which
--     read1 .. read4, no_char_at       what `Reads` asks, from the numbers
--     carries, no_tail         what `TailAt` says, by the answer
--     Gathers                  the bits of the first byte and of some continuation bytes are a number
--     tail_needed, same_number, reads_long, no_scalar      a character of more bytes than one, by what `FirstByte` says of its first
-- Assumes nothing.
use Prim.Native.Nat.{ℕ, zero, suc, ◌+◌, ◌-◌, ◌*◌, ◌/◌, ◌<◌, ◌≤◌}
use mathlib.Core.Path.{◌≡◌, refl, sym, ap, ◌∙◌, subst}
use mathlib.Core.Bool.{true, false, true≢false}
use mathlib.Core.Logic.{◌⊎◌, inl, inr}
use mathlib.Core.List.{List, ◌∷◌, ◌++◌}
use native.Mathlib.Nat.{add-zero, div-div-eq-div-mul}
use native.Mathlib.Numerals.{add-one}
use native.Mathlib.Omega.{arith}
use lib.ListN.{length, get_or, drop, length-drop}
use lib.Seq.{get_or-drop}
use Rattle.text.specs.Utf8.{scalar, encode, bytes1, bytes2, bytes3, bytes4, tail_byte, IsTail, IsChar, Reads, char, bad}
use Rattle.text.specs.LongChar.{Carries, TailAt, tail, other, FirstByte, of_two, of_three, of_four}
use Rattle.text.specs.declared.utf8.Decoded.TheVariants.{Char, Bad}
use Rattle.std.specs.Prelude.{Option, Some, None}
use Rattle.text.proofs.Parts.{from1}
use Rattle.text.proofs.Utf8Laws.{scalar_bounds, bounds_scalar, Form, form, form1, form2, form3, form4, encode1, encode2, encode3, encode4}

-- ---- a continuation byte, by the answer
module _ (s : List ℕ) (i : ℕ) (r : Option ℕ) where
  pub carries : TailAt s i r → (x : ℕ) → r ≡ Some x → Carries s i x
  carries (tail y h e) x q = let p : y ≡ x = cc in subst (λ (z : ℕ). Carries s i z) p h
  carries (other f e) x q = let z : ◌≡◌ {A = ℕ} 0 1 = cc in absurd (omega arith)

  pub no_tail : TailAt s i r → r ≡ None → i < length s → IsTail (get_or s i 0) → ⊥
  no_tail (tail y h e) q = let z : ◌≡◌ {A = ℕ} 0 1 = cc in absurd (omega arith)
  no_tail (other f e) q = f

-- ---- a character of so many bytes
pub record One (s : List ℕ) (at c : ℕ) : Type 0 where
  pub long : at < length s
  pub hi : c < 0x80
  pub b₀ : get_or s at 0 ≡ c

pub record Two (s : List ℕ) (at c : ℕ) : Type 0 where
  pub long : at + 1 < length s
  pub lo : 0x80 ≤ c
  pub hi : c < 0x800
  pub b₀ : get_or s at 0 ≡ 0xC0 + c / 64
  pub b₁ : get_or s (at + 1) 0 ≡ tail_byte c

pub record Three (s : List ℕ) (at c : ℕ) : Type 0 where
  pub long : at + 2 < length s
  pub lo : 0x800 ≤ c
  pub hi : c < 0x10000
  pub gap : (c < 0xD800) ⊎ (0xE000 ≤ c)
  pub b₀ : get_or s at 0 ≡ 0xE0 + c / 4096
  pub b₁ : get_or s (at + 1) 0 ≡ tail_byte (c / 64)
  pub b₂ : get_or s (at + 2) 0 ≡ tail_byte c

pub record Four (s : List ℕ) (at c : ℕ) : Type 0 where
  pub long : at + 3 < length s
  pub lo : 0x10000 ≤ c
  pub hi : c < 0x110000
  pub b₀ : get_or s at 0 ≡ 0xF0 + c / 262144
  pub b₁ : get_or s (at + 1) 0 ≡ tail_byte (c / 4096)
  pub b₂ : get_or s (at + 2) 0 ≡ tail_byte (c / 64)
  pub b₃ : get_or s (at + 3) 0 ≡ tail_byte c

pub data Stands (s : List ℕ) (at c : ℕ) : Type 0 where
  one : One s at c → Stands s at c
  two : Two s at c → Stands s at c
  three : Three s at c → Stands s at c
  four : Four s at c → Stands s at c

-- the first byte says how many there are
module _ (s : List ℕ) (at c : ℕ) where
  pub never1 : Stands s at c → 0x80 ≤ get_or s at 0 → get_or s at 0 < 0xC0 → ⊥
  never1 (one r) l h = omega arith
  never1 (two r) l h = omega arith
  never1 (three r) l h = omega arith
  never1 (four r) l h = omega arith

  is2 : Stands s at c → 0xC0 ≤ get_or s at 0 → get_or s at 0 < 0xE0 → Two s at c
  is2 (one r) l h = absurd (omega arith)
  is2 (two r) l h = r
  is2 (three r) l h = absurd (omega arith)
  is2 (four r) l h = absurd (omega arith)

  is3 : Stands s at c → 0xE0 ≤ get_or s at 0 → get_or s at 0 < 0xF0 → Three s at c
  is3 (one r) l h = absurd (omega arith)
  is3 (two r) l h = absurd (omega arith)
  is3 (three r) l h = r
  is3 (four r) l h = absurd (omega arith)

  is4 : Stands s at c → 0xF0 ≤ get_or s at 0 → Four s at c
  is4 (one r) l = absurd (omega arith)
  is4 (two r) l = absurd (omega arith)
  is4 (three r) l = absurd (omega arith)
  is4 (four r) l = r

-- ---- from the list to the numbers
module _ (s : List ℕ) (at : ℕ) (l : List ℕ) (e : drop at s ≡ l) where
  number : (k : ℕ) → get_or s (at + k) 0 ≡ get_or l k 0
  number k = sym (get_or-drop at s k 0) ∙ ap (λ (x : List ℕ). get_or x k 0) e

  first : get_or s at 0 ≡ get_or l 0 0
  first = rw add-zero at (number 0)

  long : length s - at ≡ length l
  long = rw length-drop at (ap length e)

stands_form : (s : List ℕ) (at c : ℕ) (l t : List ℕ) → (c < 0x110000) × ((c < 0xD800) ⊎ (0xE000 ≤ c)) → Form c l → drop at s ≡ l ++ t
    → Stands s at c
stands_form s at c l t h (form1 a f) e =
    let q : drop at s ≡ bytes1 c ++ t = e ∙ ap (λ (x : List ℕ). x ++ t) f in
    one (record { long = omega (arith, long s at _ q); hi = a; b₀ = first s at _ q })
stands_form s at c l t h (form2 a b f) e =
    let q : drop at s ≡ bytes2 c ++ t = e ∙ ap (λ (x : List ℕ). x ++ t) f in
    two (record { long = omega (arith, long s at _ q); lo = a; hi = b; b₀ = first s at _ q; b₁ = number s at _ q 1 })
stands_form s at c l t h (form3 a b f) e =
    let q : drop at s ≡ bytes3 c ++ t = e ∙ ap (λ (x : List ℕ). x ++ t) f in
    three
    (record {
      long = omega (arith, long s at _ q);
      lo = a;
      hi = b;
      gap = h.1;
      b₀ = first s at _ q;
      b₁ = number s at _ q 1;
      b₂ = number s at _ q 2;
    })
stands_form s at c l t h (form4 a f) e =
    let q : drop at s ≡ bytes4 c ++ t = e ∙ ap (λ (x : List ℕ). x ++ t) f in
    four
    (record {
      long = omega (arith, long s at _ q);
      lo = a;
      hi = h.0;
      b₀ = first s at _ q;
      b₁ = number s at _ q 1;
      b₂ = number s at _ q 2;
      b₃ = number s at _ q 3;
    })

stands : (s : List ℕ) (at c n : ℕ) → IsChar s at c n → Stands s at c
stands s at c n k = stands_form s at c (encode c) (drop n s) (scalar_bounds c k.scalar) (form c) k.bytes

-- ---- from the numbers to the list
from2 : (s : List ℕ) (at : ℕ) → at + 1 < length s → drop at s ≡ get_or s at 0 ∷ get_or s (at + 1) 0 ∷ drop (at + 2) s
from2 s at h =
    let e : at + 1 + 1 ≡ at + 2 = omega arith in
    from1 s at (omega arith) ∙ ap (λ (l : List ℕ). get_or s at 0 ∷ l) (rw e at (from1 s (at + 1) h))

from3 : (s : List ℕ) (at : ℕ) → at + 2 < length s → drop at s ≡ get_or s at 0 ∷ get_or s (at + 1) 0 ∷ get_or s (at + 2) 0 ∷ drop (at + 3) s
from3 s at h =
    let e : at + 2 + 1 ≡ at + 3 = omega arith in
    from2 s at (omega arith) ∙ ap (λ (l : List ℕ). get_or s at 0 ∷ get_or s (at + 1) 0 ∷ l) (rw e at (from1 s (at + 2) h))

from4 : (s : List ℕ) (at : ℕ) → at + 3 < length s
    → drop at s ≡ get_or s at 0 ∷ get_or s (at + 1) 0 ∷ get_or s (at + 2) 0 ∷ get_or s (at + 3) 0 ∷ drop (at + 4) s
from4 s at h =
    let e : at + 3 + 1 ≡ at + 4 = omega arith in
    from3 s at (omega arith) ∙ ap (λ (l : List ℕ). get_or s at 0 ∷ get_or s (at + 1) 0 ∷ get_or s (at + 2) 0 ∷ l) (rw e at (from1 s (at + 3) h))

-- no number makes a character of what stands at the place
pub no_char_at : (s : List ℕ) (at : ℕ) → at < length s → ((c : ℕ) → Stands s at c → ⊥) → Reads s at Bad
no_char_at s at h f = bad h (λ c n k. f c (stands s at c n k)) refl

module _ (s : List ℕ) (at c : ℕ) where
  pub read1 : One s at c → Reads s at (Char c (at + 1))
  read1 r =
      let e : encode c ≡ bytes1 c = encode1 c r.hi in
      char c (at + 1)
      (record { scalar = bounds_scalar c (omega arith) (inl (omega arith)); next = rw e; bytes = rw e (cc (from1 s at r.long)) })
      refl

  read2 : Two s at c → Reads s at (Char c (at + 2))
  read2 r =
      let e : encode c ≡ bytes2 c = encode2 c r.lo r.hi in
      char c (at + 2)
      (record { scalar = bounds_scalar c (omega arith) (inl (omega arith)); next = rw e; bytes = rw e (cc (from2 s at r.long)) })
      refl

  read3 : Three s at c → Reads s at (Char c (at + 3))
  read3 r =
      let e : encode c ≡ bytes3 c = encode3 c r.lo r.hi in
      char c (at + 3)
      (record { scalar = bounds_scalar c (omega arith) r.gap; next = rw e; bytes = rw e (cc (from3 s at r.long)) })
      refl

  read4 : Four s at c → Reads s at (Char c (at + 4))
  read4 r =
      let e : encode c ≡ bytes4 c = encode4 c r.lo in
      char c (at + 4)
      (record { scalar = bounds_scalar c r.hi (inr (omega arith)); next = rw e; bytes = rw e (cc (from4 s at r.long)) })
      refl

-- ---- the bits of the first byte and of continuation bytes after it
abbrev pub bits : List ℕ → ℕ → ℕ → ℕ → ℕ
bits s at high zero = high
bits s at high (suc i) = bits s at high i * 64 + (get_or s (at + suc i) 0 - 0x80)

abbrev pub Tails : List ℕ → ℕ → ℕ → Type 0
Tails s at zero = Unit {0}
Tails s at (suc i) = Tails s at i × ((at + suc i < length s) × IsTail (get_or s (at + suc i) 0))

-- i continuation bytes stand after the first, and the bits up to there are the number cp
pub record Gathers (s : List ℕ) (at high i cp : ℕ) : Type 0 where
  pub tails : Tails s at i
  pub is : cp ≡ bits s at high i

module _ (s : List ℕ) (at high : ℕ) where
  -- the number stays small while a byte is to come
  bits_small : (i cp : ℕ) → i ≤ 2 → high < 32 → Gathers s at high i cp → cp < 0x20000
  bits_small zero cp l h g = omega arith
  bits_small (suc zero) cp l h g = omega arith
  bits_small (suc (suc zero)) cp l h g = omega arith
  bits_small (suc (suc (suc i))) cp l h g = absurd (omega arith)

  pub all_of : (cp m n : ℕ) → m ≡ n → Gathers s at high m cp → Gathers s at high n cp
  all_of cp m n e g = subst (λ (k : ℕ). Gathers s at high k cp) e g

module _ (s : List ℕ) (at high : ℕ) {more least : ℕ} where
  pub number_small : FirstByte (get_or s at 0) high more least → (i cp : ℕ) → i < more → Gathers s at high i cp → cp < 0x20000
  number_small (of_two b h m l) i cp k g = bits_small s at high i cp (omega arith) (omega arith) g
  number_small (of_three b h m l) i cp k g = bits_small s at high i cp (omega arith) (omega arith) g
  number_small (of_four b h m l) i cp k g = bits_small s at high i cp (omega arith) (omega arith) g

  -- a character that stands there has all the continuation bytes
  needs_tail : FirstByte (get_or s at 0) high more least → (c : ℕ) → Stands s at c → (k : ℕ) → k < more
      → (at + suc k < length s) × IsTail (get_or s (at + suc k) 0)
  needs_tail (of_two b h m l) c st zero lt = let t = is2 s at c st (omega arith) (omega arith) in (omega arith, (omega arith, omega arith))
  needs_tail (of_two b h m l) c st (suc k) lt = absurd (omega arith)
  needs_tail (of_three b h m l) c st zero lt = let t = is3 s at c st (omega arith) (omega arith) in (omega arith, (omega arith, omega arith))
  needs_tail (of_three b h m l) c st (suc zero) lt = let t = is3 s at c st (omega arith) (omega arith) in (omega arith, (omega arith, omega arith))
  needs_tail (of_three b h m l) c st (suc (suc k)) lt = absurd (omega arith)
  needs_tail (of_four b h m l) c st zero lt = let t = is4 s at c st (omega arith) in (omega arith, (omega arith, omega arith))
  needs_tail (of_four b h m l) c st (suc zero) lt = let t = is4 s at c st (omega arith) in (omega arith, (omega arith, omega arith))
  needs_tail (of_four b h m l) c st (suc (suc zero)) lt = let t = is4 s at c st (omega arith) in (omega arith, (omega arith, omega arith))
  needs_tail (of_four b h m l) c st (suc (suc (suc k))) lt = absurd (omega arith)

  pub tail_needed : FirstByte (get_or s at 0) high more least → (c : ℕ) → Stands s at c → (k : ℕ) → k < more
      → (at + (k + 1) < length s) × IsTail (get_or s (at + (k + 1)) 0)
  tail_needed L c st k lt = rw (add-one k) (needs_tail L c st k lt)

  module _ (cp : ℕ) where
    -- it has that number, which needs so many bytes
    pub same_number : FirstByte (get_or s at 0) high more least → Gathers s at high more cp → (c : ℕ) → Stands s at c → (c ≡ cp) × (least ≤ c)
    same_number (of_two b h m l) g c st =
        let t = is2 s at c st (omega arith) (omega arith) in
        let f = all_of s at high cp more 1 m g in
        (omega arith, omega arith)
    same_number (of_three b h m l) g c st =
        let t = is3 s at c st (omega arith) (omega arith) in
        let f = all_of s at high cp more 2 m g in
        (omega (arith, div-div-eq-div-mul c 64 64), omega arith)
    same_number (of_four b h m l) g c st =
        let t = is4 s at c st (omega arith) in
        let f = all_of s at high cp more 3 m g in
        (omega (arith, div-div-eq-div-mul c 64 64, div-div-eq-div-mul c 4096 64), omega arith)

    -- a scalar that needs so many bytes stands there
    pub reads_long : FirstByte (get_or s at 0) high more least → Gathers s at high more cp → least ≤ cp → scalar cp ≡ true → Reads s at (Char cp (at + more + 1))
    reads_long (of_two b h m l) g k e =
        let f = all_of s at high cp more 1 m g in
        let n : at + 2 ≡ at + more + 1 = omega arith in
        rw n at (read2 s at cp (record { long = omega arith; lo = omega arith; hi = omega arith; b₀ = omega arith; b₁ = omega arith }))
    reads_long (of_three b h m l) g k e =
        let f = all_of s at high cp more 2 m g in
        let n : at + 3 ≡ at + more + 1 = omega arith in
        rw n at
        (read3 s at cp
        (record {
          long = omega arith;
          lo = omega arith;
          hi = omega arith;
          gap = (scalar_bounds cp e).1;
          b₀ = omega arith;
          b₁ = omega arith;
          b₂ = omega arith;
        }))
    reads_long (of_four b h m l) g k e =
        let f = all_of s at high cp more 3 m g in
        let u = (scalar_bounds cp e).0 in
        let n : at + 4 ≡ at + more + 1 = omega arith in
        rw n at
        (read4 s at cp
        (record {
          long = omega arith;
          lo = omega arith;
          hi = omega arith;
          b₀ = omega arith;
          b₁ = omega arith;
          b₂ = omega arith;
          b₃ = omega arith;
        }))

    pub no_scalar : at < length s → FirstByte (get_or s at 0) high more least → Gathers s at high more cp → scalar cp ≡ false → Reads s at Bad
    no_scalar h L g e =
        bad h (λ c n k. true≢false (sym k.scalar ∙ ap scalar (same_number L g c (stands s at c n k)).0 ∙ e)) refl
