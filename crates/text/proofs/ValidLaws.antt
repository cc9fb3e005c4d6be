-- UTF-8, character by character, as `Reads` finds it.
--     is-char, else_tag, no_char   what `Reads` says of a character, by the answer
--     read_on, read_within     a character that was read ends after its beginning, and within the bytes
--     valid_more, valid_rest   bytes that begin with a character are UTF-8 exactly when the bytes after it are
--     valid_none, bad_never    no bytes are UTF-8; bytes that begin no character are not
-- Assumes nothing.
use Prim.Native.Nat.{ℕ, ◌+◌, ◌-◌, ◌<◌, ◌≤◌}
use mathlib.Core.Path.{◌≡◌, refl, sym, ap, ◌∙◌, subst}
use mathlib.Core.List.{List, [], ◌∷◌, ◌++◌}
use mathlib.Core.Logic.{◌⊎◌, inl, inr, ⊎_elim}
use native.Mathlib.Omega.{arith}
use denote.Enum.Declared.{tag_of}
use lib.ListN.{length, drop, length-append, length-drop, drop_of_length-le}
use lib.Seq.{drop-drop, drop-append_seam}
use Rattle.text.specs.Utf8.{Scalar, encode, encodes, Utf8, Valid, IsChar, Reads, char, bad, past}
use Rattle.text.specs.declared.utf8.Decoded.{Decoded}
use Rattle.text.specs.declared.utf8.Decoded.TheVariants.{Char}
use Rattle.text.specs.contracts.utf8.Decoded.{the_type}
use Rattle.text.proofs.Utf8Laws.{scalars_both, encode_some, utf8_none, utf8_more, head_is}

module _ (s : List ℕ) (at : ℕ) (r : Decoded) where
  pub is-char : Reads s at r → (c n : ℕ) → r ≡ Char c n → IsChar s at c n
  is-char (char d m k e) c n q =
      let p : d ≡ c = cc in
      let o : m ≡ n = cc in
      subst (λ (x : ℕ). IsChar s at c x) o (subst (λ (x : ℕ). IsChar s at x m) p k)
  is-char (bad h f e) c n q = let z : ◌≡◌ {A = ℕ} 0 1 = cc in absurd (omega arith)
  is-char (past h e) c n q = let z : ◌≡◌ {A = ℕ} 0 1 = cc in absurd (omega arith)

  -- what is no character's answer is one of the other two
  pub else_tag : Reads s at r → ((c n : ℕ) → r ≡ Char c n → ⊥) → (tag_of the_type r ≡ 1) ⊎ (tag_of the_type r ≡ 2)
  else_tag (char d m k e) f = absurd (f d m e)
  else_tag (bad l f e) g = inl (ap (tag_of the_type) e)
  else_tag (past l e) g = inr (ap (tag_of the_type) e)

  -- what the `else` of a `let` on a character knows, within the bytes
  pub no_char : Reads s at r → (tag_of the_type r ≡ 1) ⊎ (tag_of the_type r ≡ 2) → at < length s → (c n : ℕ) → IsChar s at c n → ⊥
  no_char (char d m k e) t h =
      let z = ap (tag_of the_type) e in
      absurd (⊎_elim (λ p. omega arith) (λ p. omega arith) t)
  no_char (bad l f e) t h = f
  no_char (past l e) t h = absurd (omega arith)

-- a character stands where its bytes do
pub char_at : (s : List ℕ) (at c : ℕ) (t : List ℕ) → Scalar c → drop at s ≡ encode c ++ t → IsChar s at c (at + length (encode c))
char_at s at c t h e =
    let q : drop (at + length (encode c)) s ≡ t =
    sym (drop-drop (length (encode c)) at s) ∙ ap (drop (length (encode c))) e ∙ drop-append_seam (encode c) t in
    record { scalar = h; next = refl; bytes = e ∙ ap (λ (l : List ℕ). encode c ++ l) (sym q) }

module _ (s : List ℕ) (at c n : ℕ) (k : IsChar s at c n) where
  split_length : length s - at ≡ length (encode c) + (length s - n)
  split_length = simp (length-append, length-drop) at (ap length k.bytes)

  pub read_on : at < n
  read_on = omega (arith, encode_some c, k.next)

  pub read_within : n ≤ length s
  read_within = omega (arith, split_length, encode_some c, k.next)

  pub valid_more : Valid (drop n s) → Valid (drop at s)
  valid_more v = (c ∷ v.0, utf8_more (drop at s) (drop n s) c v.0 k.scalar k.bytes v.1)

  pub valid_rest : Valid (drop at s) → Valid (drop n s)
  valid_rest v = let h = head_is c (drop at s) (drop n s) k.bytes v.0 v.1 in (h.0, h.2)

pub valid_none : (s : List ℕ) (i : ℕ) → length s ≤ i → Valid (drop i s)
valid_none s i h = ([], utf8_none (drop i s) (drop_of_length-le s h))

module _ (s : List ℕ) (at : ℕ) (h : at < length s) (f : (c n : ℕ) → IsChar s at c n → ⊥) where
  never : (cs : List ℕ) → Utf8 (drop at s) cs → ⊥
  unfolding encodes
  never [] u = omega (arith, rw length-drop at (ap length u.same))
  never (d ∷ ds) u =
      f d (at + length (encode d)) (char_at s at d (encodes ds) (scalars_both d ds u.scalars).0 u.same)

  pub bad_never : Valid (drop at s) → ⊥
  bad_never v = never v.0 v.1
