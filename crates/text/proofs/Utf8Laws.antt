-- What UTF-8 says of the numbers: the bytes of a code point are read back in one way.
--     scalar_bounds, bounds_scalar    a scalar by its bounds
--     Form, form                      which of the four forms the bytes of a code point have
--     back_encode, rest_encode        `back` and `rest` take the bytes of a code point back to it and to what follows
--     prefix_char, prefix_rest        two texts with the same bytes begin with the same character and go on with the same bytes
--     encodes_unique, utf8-unique     two texts with the same bytes are the same
--     head_is                         the first character of a text
-- Assumes nothing.
use Prim.Native.Nat.{ℕ, ◌+◌, ◌/◌, ◌<◌, ◌≤◌}
use mathlib.Core.Path.{◌≡◌, refl, sym, ap, ap₂, ◌∙◌}
use mathlib.Core.Bool.{true, false, not, and-true, and-false}
use mathlib.Core.Logic.{◌⊎◌, ⊎_elim}
use mathlib.Core.List.{List, [], ◌∷◌, ◌++◌}
use native.Mathlib.Nat.{div-div-eq-div-mul}
use native.Mathlib.Omega.{arith}
use borrow.Author.Tests.{lt-ltb, le-ltb, ltb-true, not-true}
use lib.Dec.{ltb}
use lib.ListN.{length, length-append}
use Rattle.base.proofs.Tests.{by_size, and_both}
use Rattle.text.specs.Range.{within}
use Rattle.text.specs.Reading.{back, rest}
use Rattle.text.specs.Utf8.{scalar, scalars, Scalar, Scalars, encode, encodes, bytes1, bytes2, bytes3, bytes4, Utf8}
use Rattle.text.proofs.RangeLaws.{inside, below, above, outside}

-- ---- scalars
pub scalar_bounds : (c : ℕ) → Scalar c → (c < 0x110000) × ((c < 0xD800) ⊎ (0xE000 ≤ c))
unfolding scalar
scalar_bounds c e =
    let p = and_both (ltb c 0x110000) (not (within 0xD800 0xDFFF c)) e in
    (ltb-true c 0x110000 p.0, outside 0xD800 0xDFFF c (not-true (within 0xD800 0xDFFF c) p.1))

pub bounds_scalar : (c : ℕ) → c < 0x110000 → (c < 0xD800) ⊎ (0xE000 ≤ c) → Scalar c
unfolding scalar
bounds_scalar c h gap =
    ⊎_elim (λ l. rw (lt-ltb c 0x110000 h, below 0xD800 0xDFFF c l)) (λ g. rw (lt-ltb c 0x110000 h, above 0xD800 0xDFFF c g)) gap

-- among the surrogates, and above them
pub scalar_gap : (c : ℕ) → 0xD800 ≤ c → c < 0xE000 → scalar c ≡ false
unfolding scalar
scalar_gap c l h = rw (inside 0xD800 0xDFFF c l (omega arith), and-false)

pub scalar_high : (c : ℕ) → 0xE000 ≤ c → scalar c ≡ ltb c 0x110000
unfolding scalar
scalar_high c l = rw (above 0xD800 0xDFFF c l, and-true)

pub scalars_none : Scalars []
unfolding scalars
scalars_none = refl

pub scalars_more : (c : ℕ) (cs : List ℕ) → Scalar c → Scalars cs → Scalars (c ∷ cs)
unfolding scalars
scalars_more c cs h k = rw (h, k)

pub scalars_both : (c : ℕ) (cs : List ℕ) → Scalars (c ∷ cs) → Scalar c × Scalars cs
unfolding scalars
scalars_both c cs e = and_both (scalar c) (scalars cs) e

-- ---- the bytes of a text
pub utf8_none : (s : List ℕ) → s ≡ [] → Utf8 s []
unfolding encodes
utf8_none s e = record { scalars = scalars_none; same = e }

pub utf8_more : (s t : List ℕ) (c : ℕ) (cs : List ℕ) → Scalar c → s ≡ encode c ++ t → Utf8 t cs → Utf8 s (c ∷ cs)
unfolding encodes
utf8_more s t c cs h e u =
    record { scalars = scalars_more c cs h u.scalars; same = e ∙ ap (λ (l : List ℕ). encode c ++ l) u.same }

-- ---- the four forms
pub data Form (c : ℕ) (l : List ℕ) : Type 0 where
  form1 : c < 0x80 → l ≡ bytes1 c → Form c l
  form2 : 0x80 ≤ c → c < 0x800 → l ≡ bytes2 c → Form c l
  form3 : 0x800 ≤ c → c < 0x10000 → l ≡ bytes3 c → Form c l
  form4 : 0x10000 ≤ c → l ≡ bytes4 c → Form c l

pub encode1 : (c : ℕ) → c < 0x80 → encode c ≡ bytes1 c
unfolding encode
encode1 c h = rw (lt-ltb c 0x80 h)

pub encode2 : (c : ℕ) → 0x80 ≤ c → c < 0x800 → encode c ≡ bytes2 c
unfolding encode
encode2 c l h = rw (le-ltb c 0x80 l, lt-ltb c 0x800 h)

pub encode3 : (c : ℕ) → 0x800 ≤ c → c < 0x10000 → encode c ≡ bytes3 c
unfolding encode
encode3 c l h = rw (le-ltb c 0x80 (omega arith), le-ltb c 0x800 l, lt-ltb c 0x10000 h)

pub encode4 : (c : ℕ) → 0x10000 ≤ c → encode c ≡ bytes4 c
unfolding encode
encode4 c l = rw (le-ltb c 0x80 (omega arith), le-ltb c 0x800 (omega arith), le-ltb c 0x10000 l)

pub form : (c : ℕ) → Form c (encode c)
form c =
    by_size c 0x80 (λ h. form1 h (encode1 c h))
    (λ a. by_size c 0x800 (λ h. form2 a h (encode2 c a h))
    (λ b. by_size c 0x10000 (λ h. form3 b h (encode3 c b h)) (λ h. form4 h (encode4 c h))))

pub encode_some : (c : ℕ) → 1 ≤ length (encode c)
encode_some c = go (form c)
  where
    go : Form c (encode c) → 1 ≤ length (encode c)
    go (form1 a f) = rw f (omega arith)
    go (form2 a b f) = rw f (omega arith)
    go (form3 a b f) = rw f (omega arith)
    go (form4 a f) = rw f (omega arith)

pub encode_more : (c : ℕ) (t : List ℕ) → encode c ++ t ≡ [] → ⊥
encode_more c t e = omega (arith, encode_some c, simp length-append at (ap length e))

-- ---- the way back, by the first byte
first2 : (c : ℕ) → c < 0x800 → (ltb (0xC0 + c / 64) 0x80 ≡ false) × (ltb (0xC0 + c / 64) 0xE0 ≡ true)
first2 c h = (le-ltb (0xC0 + c / 64) 0x80 (omega arith), lt-ltb (0xC0 + c / 64) 0xE0 (omega arith))

first3 : (c : ℕ) → c < 0x10000
    → (ltb (0xE0 + c / 4096) 0x80 ≡ false) × (ltb (0xE0 + c / 4096) 0xE0 ≡ false) × (ltb (0xE0 + c / 4096) 0xF0 ≡ true)
first3 c h = (
  le-ltb (0xE0 + c / 4096) 0x80 (omega arith),
  le-ltb (0xE0 + c / 4096) 0xE0 (omega arith),
  lt-ltb (0xE0 + c / 4096) 0xF0 (omega arith),
)

first4 : (c : ℕ) → (ltb (0xF0 + c / 262144) 0x80 ≡ false) × (ltb (0xF0 + c / 262144) 0xE0 ≡ false) × (ltb (0xF0 + c / 262144) 0xF0 ≡ false)
first4 c = (
  le-ltb (0xF0 + c / 262144) 0x80 (omega arith),
  le-ltb (0xF0 + c / 262144) 0xE0 (omega arith),
  le-ltb (0xF0 + c / 262144) 0xF0 (omega arith),
)

back_form : (c : ℕ) (l t : List ℕ) → Form c l → back (l ++ t) ≡ c
unfolding back
back_form c l t (form1 a e) = rw (e, lt-ltb c 0x80 a)
back_form c l t (form2 a b e) = let f = first2 c b in rw (e, f.0, f.1) (omega arith)
back_form c l t (form3 a b e) = let f = first3 c b in rw (e, f.0, f.1, f.2) (omega arith)
back_form c l t (form4 a e) =
    let f = first4 c in
    rw (e, f.0, f.1, f.2) (omega (arith, div-div-eq-div-mul c 64 64, div-div-eq-div-mul c 4096 64))

rest_form : (c : ℕ) (l t : List ℕ) → Form c l → rest (l ++ t) ≡ t
unfolding rest
rest_form c l t (form1 a e) = rw (e, lt-ltb c 0x80 a)
rest_form c l t (form2 a b e) = let f = first2 c b in rw (e, f.0, f.1)
rest_form c l t (form3 a b e) = let f = first3 c b in rw (e, f.0, f.1, f.2)
rest_form c l t (form4 a e) = let f = first4 c in rw (e, f.0, f.1, f.2)

pub back_encode : (c : ℕ) (t : List ℕ) → back (encode c ++ t) ≡ c
back_encode c t = back_form c (encode c) t (form c)

pub rest_encode : (c : ℕ) (t : List ℕ) → rest (encode c ++ t) ≡ t
rest_encode c t = rest_form c (encode c) t (form c)

module _ (c d : ℕ) (s t : List ℕ) (e : encode c ++ s ≡ encode d ++ t) where
  pub prefix_char : c ≡ d
  prefix_char = sym (back_encode c s) ∙ ap back e ∙ back_encode d t

  pub prefix_rest : s ≡ t
  prefix_rest = sym (rest_encode c s) ∙ ap rest e ∙ rest_encode d t

-- ---- two texts with the same bytes
pub encodes_unique : (cs ds : List ℕ) → encodes cs ≡ encodes ds → cs ≡ ds
unfolding encodes
encodes_unique [] [] e = refl
encodes_unique [] (d ∷ ds) e = absurd (encode_more d (encodes ds) (sym e))
encodes_unique (c ∷ cs) [] e = absurd (encode_more c (encodes cs) e)
encodes_unique (c ∷ cs) (d ∷ ds) e =
    ap₂ ◌∷◌ (prefix_char c d (encodes cs) (encodes ds) e)
    (encodes_unique cs ds (prefix_rest c d (encodes cs) (encodes ds) e))

pub utf8_unique : (s cs ds : List ℕ) → Utf8 s cs → Utf8 s ds → cs ≡ ds
utf8_unique s cs ds p q = encodes_unique cs ds (sym p.same ∙ q.same)

-- the first character of a text that begins with its bytes, and the text after it
module _ (c : ℕ) (s t : List ℕ) (e : s ≡ encode c ++ t) where
  pub head_is : (cs : List ℕ) → Utf8 s cs → (ds : List ℕ) × (cs ≡ c ∷ ds) × Utf8 t ds
  unfolding encodes
  head_is [] u = absurd (encode_more c t (sym e ∙ u.same))
  head_is (d ∷ ds) u =
      let q : encode c ++ t ≡ encode d ++ encodes ds = sym e ∙ u.same in
      let x : c ≡ d = prefix_char c d t (encodes ds) q in (
        ds,
        ap (λ (y : ℕ). y ∷ ds) (sym x),
        record { scalars = (scalars_both d ds u.scalars).1; same = prefix_rest c d t (encodes ds) q },
      )
