-- UTF-8 is read exactly as it is written, over the code point and over a text.
--     char_complete, char_sound    where the bytes of a scalar stand it is read; what is read are the bytes of a scalar
--     text_complete, text_sound    the bytes of scalars are read as them; what is read has those bytes
--     text_unique                  two texts with the same bytes are the same
-- Assumes nothing.
use Prim.Native.Nat.{ℕ, ◌+◌, ◌-◌}
use mathlib.Core.Path.{◌≡◌, refl, ap, ◌∙◌}
use mathlib.Core.Bool.{true}
use mathlib.Core.List.{List, ◌++◌}
use native.Mathlib.Omega.{arith}
use lib.ListN.{length, take, drop}
use lib.Seq.{take_at}
use Rattle.text.specs.Utf8.{Scalar, Scalars, encode, encodes, Utf8, Reads, char}
use Rattle.text.specs.Reading.{reading, valid}
use Rattle.text.specs.declared.utf8.Decoded.{Decoded}
use Rattle.text.specs.declared.utf8.Decoded.TheVariants.{Char}
use Rattle.text.proofs.Utf8Laws.{encodes_unique}
use Rattle.text.proofs.ValidLaws.{char_at, is-char}
use Rattle.text.proofs.ReadingLaws.{reading_is, utf8_valid, valid_utf8}
use Rattle.text.proofs.Only.{reads_only}

pub char_complete : (s : List ℕ) (at c : ℕ) (t : List ℕ) → Scalar c → drop at s ≡ encode c ++ t → (r : Decoded) → Reads s at r
    → r ≡ Char c (at + length (encode c))
char_complete s at c t h e r p =
    let n = at + length (encode c) in
    reads_only s at r (Char c n) p (char c n (char_at s at c t h e) refl)

pub char_sound : (s : List ℕ) (at c n : ℕ) → Reads s at (Char c n) → Scalar c × (take (n - at) (drop at s) ≡ encode c)
char_sound s at c n p =
    let k = is-char s at (Char c n) p c n refl in
    let l : length (encode c) ≡ n - at = omega (arith, k.next) in
    (k.scalar, ap (take (n - at)) k.bytes ∙ take_at (encode c) (drop n s) (n - at) l)

pub text_complete : (cs : List ℕ) → Scalars cs → (valid (encodes cs) ≡ true) × (reading (encodes cs) ≡ cs)
text_complete cs h =
    let u : Utf8 (encodes cs) cs = record { scalars = h; same = refl } in
    (utf8_valid (encodes cs) cs u, reading_is (encodes cs) cs u)

pub text_sound : (s : List ℕ) → valid s ≡ true → Scalars (reading s) × (s ≡ encodes (reading s))
text_sound s e = let u = valid_utf8 s e in (u.scalars, u.same)

pub text_unique : (cs ds : List ℕ) → encodes cs ≡ encodes ds → cs ≡ ds
text_unique cs ds e = encodes_unique cs ds e
