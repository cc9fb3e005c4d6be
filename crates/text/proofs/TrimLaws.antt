-- White space at the ends of a text, character by character.
--     FrontInv                 the white space before a place is at the front
--     front_more, front_stop, front_bad, front_end      a step of the walk from the front, and its ends
--     last_is                  the last character of a text begins at the last byte that is no continuation byte
--     back_more, back_stop, back_bad, back_end          a step of the walk from the back, and its ends
-- Assumes nothing.
use Prim.Native.Nat.{ℕ, zero, suc, ◌+◌, ◌-◌, ◌<◌, ◌≤◌}
use mathlib.Core.Path.{◌≡◌, refl, sym, ap, ◌∙◌, subst}
use mathlib.Core.Bool.{true, false}
use mathlib.Core.Logic.{⊎_elim}
use mathlib.Core.List.{List, [], ◌∷◌, ◌++◌, reverse, append-nil, append_assoc, reverse-append, reverse-reverse}
use native.Mathlib.Nat.{eq-or-lt_of_le, add-zero}
use native.Mathlib.Omega.{arith}
use lib.ListN.{length, get_or, take, drop, length-append, drop_of_length-le, take-append-drop}
use lib.Seq.{length-take-le, take-take, take_at, drop_at, get_or-take, get_or-append-add}
use Rattle.base.proofs.Tests.{by_size}
use Rattle.text.specs.Utf8.{Scalar, Scalars, encode, encodes, bytes2, bytes3, bytes4, IsTail, Utf8, IsChar}
use Rattle.text.specs.White.{white_space, trim_start, trim_end}
use Rattle.text.specs.Ends.{LastStart}
use Rattle.text.proofs.Utf8Laws.{scalars_none, scalars_more, scalars_both, prefix_char, utf8_unique, utf8_none, head_is, Form, form, form1, form2, form3, form4, encode_some}
use Rattle.text.proofs.ValidLaws.{char_at, bad_never}

abbrev pub FrontInv : List ℕ → ℕ → Type 0
FrontInv s i = (cs : List ℕ) → Utf8 s cs → (ds : List ℕ) × Utf8 (drop i s) ds × (trim_start cs ≡ trim_start ds)

abbrev pub FrontIs : List ℕ → ℕ → Type 0
FrontIs s i = (cs : List ℕ) → Utf8 s cs → Utf8 (drop i s) (trim_start cs)

module _ (s : List ℕ) (at : ℕ) (inv : FrontInv s at) where
  pub front_more : (c n : ℕ) → IsChar s at c n → white_space c ≡ true → FrontInv s n
  unfolding trim_start
  front_more c n r w cs u =
      let v = inv cs u in
      let k = head_is c (drop at s) (drop n s) r.bytes v.0 v.1 in
      let f : trim_start (c ∷ k.0) ≡ trim_start k.0 = rw w in
      (k.0, k.2, v.2 ∙ ap trim_start k.1 ∙ f)

  pub front_stop : (c n : ℕ) → IsChar s at c n → white_space c ≡ false → FrontIs s at
  unfolding trim_start
  front_stop c n r w cs u =
      let v = inv cs u in
      let k = head_is c (drop at s) (drop n s) r.bytes v.0 v.1 in
      let f : trim_start (c ∷ k.0) ≡ c ∷ k.0 = rw w in
      subst (λ (ds : List ℕ). Utf8 (drop at s) ds) (sym (v.2 ∙ ap trim_start k.1 ∙ f ∙ sym k.1)) v.1

  pub front_bad : at < length s → ((c n : ℕ) → IsChar s at c n → ⊥) → FrontIs s at
  front_bad h f cs u = let v = inv cs u in absurd (bad_never s at h f (v.0, v.1))

  pub front_end : length s ≤ at → FrontIs s at
  unfolding trim_start
  front_end h cs u =
      let v = inv cs u in
      let none : Utf8 (drop at s) [] = utf8_none (drop at s) (drop_of_length-le s h) in
      let e : v.0 ≡ [] = utf8_unique (drop at s) v.0 [] v.1 none in
      subst (λ (ds : List ℕ). Utf8 (drop at s) ds) (sym (v.2 ∙ ap trim_start e)) none

-- ---- from the back
-- of the bytes of a code point the first is no continuation byte, and the others are
tails2 : (c j : ℕ) → 0 < j → j < 2 → IsTail (get_or (bytes2 c) j 0)
tails2 c zero a b = absurd (omega arith)
tails2 c (suc zero) a b = omega arith
tails2 c (suc (suc j)) a b = absurd (omega arith)

tails3 : (c j : ℕ) → 0 < j → j < 3 → IsTail (get_or (bytes3 c) j 0)
tails3 c zero a b = absurd (omega arith)
tails3 c (suc zero) a b = omega arith
tails3 c (suc (suc zero)) a b = omega arith
tails3 c (suc (suc (suc j))) a b = absurd (omega arith)

tails4 : (c j : ℕ) → 0 < j → j < 4 → IsTail (get_or (bytes4 c) j 0)
tails4 c zero a b = absurd (omega arith)
tails4 c (suc zero) a b = omega arith
tails4 c (suc (suc zero)) a b = omega arith
tails4 c (suc (suc (suc zero))) a b = omega arith
tails4 c (suc (suc (suc (suc j)))) a b = absurd (omega arith)

tails_form : (c j : ℕ) (l : List ℕ) → Form c l → 0 < j → j < length l → IsTail (get_or l j 0)
tails_form c j l (form1 a e) p q = absurd (omega (arith, ap length e))
tails_form c j l (form2 a b e) p q = rw e (tails2 c j p (omega (arith, ap length e)))
tails_form c j l (form3 a b e) p q = rw e (tails3 c j p (omega (arith, ap length e)))
tails_form c j l (form4 a e) p q = rw e (tails4 c j p (omega (arith, ap length e)))

first_form : (c : ℕ) (l : List ℕ) → Form c l → IsTail (get_or l 0 0) → ⊥
first_form c l (form1 a e) t = omega (arith, ap (λ (x : List ℕ). get_or x 0 0) e)
first_form c l (form2 a b e) t = omega (arith, ap (λ (x : List ℕ). get_or x 0 0) e)
first_form c l (form3 a b e) t = omega (arith, ap (λ (x : List ℕ). get_or x 0 0) e)
first_form c l (form4 a e) t = omega (arith, ap (λ (x : List ℕ). get_or x 0 0) e)

-- the bytes p and then those of a code point, q, end at `end`: the last start is where q begins
module _ (s : List ℕ) (end k : ℕ) (within : end ≤ length s) (st : LastStart s end k) (p : List ℕ) (d : ℕ)
    (e : take end s ≡ p ++ encode d) where
  end_is : end ≡ length p + length (encode d)
  end_is = sym (length-take-le end s within) ∙ ap length e ∙ length-append p (encode d)

  byte : (j : ℕ) → j < length (encode d) → get_or s (length p + j) 0 ≡ get_or (encode d) j 0
  byte j h =
      sym (get_or-take end s (length p + j) 0 (omega (arith, end_is)))
      ∙ ap (λ (l : List ℕ). get_or l (length p + j) 0) e
      ∙ get_or-append-add p (encode d) j 0

  not_before : k < length p → ⊥
  not_before h =
      first_form d (encode d) (form d)
      (subst IsTail (byte 0 (encode_some d)) (rw add-zero (st.tails (length p) h (omega (arith, end_is, encode_some d)))))

  not_after : length p < k → ⊥
  not_after h =
      let at : length p + (k - length p) ≡ k = omega arith in
      let j : k - length p < length (encode d) = omega (arith, end_is, st.before) in
      st.lead (omega arith)
      (rw (← at) (rw (byte (k - length p) j) (tails_form d (k - length p) (encode d) (form d) (omega arith) j)))

  start_is : length p ≡ k
  start_is =
      by_size k (length p) (λ h. absurd (not_before h)) (λ h. ⊎_elim (λ q. q) (λ l. absurd (not_after l)) (eq-or-lt_of_le h))

  take_is : take k s ≡ p
  take_is = sym (take-take k end s (omega (arith, st.before))) ∙ ap (take k) e ∙ take_at p (encode d) k start_is

  drop_is : drop k s ≡ encode d ++ drop end s
  drop_is =
      ap (drop k) (sym (take-append-drop end s) ∙ ap (λ (l : List ℕ). l ++ drop end s) e ∙ append_assoc p (encode d) (drop end s))
      ∙ drop_at p (encode d ++ drop end s) k start_is

-- ---- texts by their last character
abbrev Snoc : List ℕ → Type 0
Snoc cs = (bs : List ℕ) × (d : ℕ) × (cs ≡ bs ++ (d ∷ []))

snoc : (c : ℕ) (cs : List ℕ) → Snoc (c ∷ cs)
snoc c [] = ([], c, refl)
snoc c (d ∷ ds) = let r = snoc d ds in (c ∷ r.0, r.1, ap (λ (l : List ℕ). c ∷ l) r.2)

encodes_append : (bs ds : List ℕ) → encodes (bs ++ ds) ≡ encodes bs ++ encodes ds
unfolding encodes
encodes_append [] ds = refl
encodes_append (b ∷ bs) ds = rw (encodes_append bs ds, append_assoc)

scalars_front : (bs : List ℕ) (d : ℕ) → Scalars (bs ++ (d ∷ [])) → Scalars bs
scalars_front [] d h = scalars_none
scalars_front (b ∷ bs) d h =
    let k = scalars_both b (bs ++ (d ∷ [])) h in
    scalars_more b bs k.0 (scalars_front bs d k.1)

scalars_last : (bs : List ℕ) (d : ℕ) → Scalars (bs ++ (d ∷ [])) → Scalar d
scalars_last [] d h = (scalars_both d [] h).0
scalars_last (b ∷ bs) d h = scalars_last bs d (scalars_both b (bs ++ (d ∷ [])) h).1

pub record Last (s : List ℕ) (end k : ℕ) (cs : List ℕ) : Type 0 where
  pub front : List ℕ
  pub last : ℕ
  pub text : cs ≡ front ++ (last ∷ [])
  pub utf8 : Utf8 (take k s) front
  pub scalar : Scalar last
  pub bytes : drop k s ≡ encode last ++ drop end s

last_of : (s : List ℕ) (end k : ℕ) → end ≤ length s → LastStart s end k → (cs : List ℕ) → Utf8 (take end s) cs → Snoc cs → Last s end k cs
unfolding encodes
last_of s end k h st cs u n =
    let bs = n.0 in
    let d = n.1 in
    let q : take end s ≡ encodes bs ++ encode d =
    u.same ∙ ap encodes n.2 ∙ encodes_append bs (d ∷ []) ∙ ap (λ (l : List ℕ). encodes bs ++ l) (append-nil (encode d)) in
    let sc : Scalars (bs ++ (d ∷ [])) = subst Scalars n.2 u.scalars in
    record {
      front = bs;
      last = d;
      text = n.2;
      utf8 = record { scalars = scalars_front bs d sc; same = take_is s end k h st (encodes bs) d q };
      scalar = scalars_last bs d sc;
      bytes = drop_is s end k h st (encodes bs) d q;
    }

pub last_is : (s : List ℕ) (end k : ℕ) → end ≤ length s → LastStart s end k → (cs : List ℕ) → Utf8 (take end s) cs → Last s end k cs
unfolding encodes
last_is s end k h st [] u = absurd (omega (arith, st.before, length-take-le end s h, ap length u.same))
last_is s end k h st (c ∷ cs) u = last_of s end k h st (c ∷ cs) u (snoc c cs)

trim_end_white : (bs : List ℕ) (d : ℕ) → white_space d ≡ true → trim_end (bs ++ (d ∷ [])) ≡ trim_end bs
unfolding trim_start
trim_end_white bs d w = rw (reverse-append, w)

trim_end_other : (bs : List ℕ) (d : ℕ) → white_space d ≡ false → trim_end (bs ++ (d ∷ [])) ≡ bs ++ (d ∷ [])
unfolding trim_start
trim_end_other bs d w =
    let e : trim_start (reverse (bs ++ (d ∷ []))) ≡ reverse (bs ++ (d ∷ [])) = rw (reverse-append, w) in
    ap reverse e ∙ reverse-reverse (bs ++ (d ∷ []))

abbrev pub BackInv : List ℕ → ℕ → Type 0
BackInv s end = (cs : List ℕ) → Utf8 s cs → (ds : List ℕ) × Utf8 (take end s) ds × (trim_end cs ≡ trim_end ds)

abbrev pub BackIs : List ℕ → ℕ → Type 0
BackIs s end = (cs : List ℕ) → Utf8 s cs → Utf8 (take end s) (trim_end cs)

module _ (s : List ℕ) (end k : ℕ) (h : end ≤ length s) (st : LastStart s end k) (inv : BackInv s end) where
  pub back_more : (c n : ℕ) → IsChar s k c n → white_space c ≡ true → BackInv s k
  back_more c n r w cs u =
      let v = inv cs u in
      let x = last_is s end k h st v.0 v.1 in
      let e : c ≡ x.last = prefix_char c x.last (drop n s) (drop end s) (sym r.bytes ∙ x.bytes) in
      (x.front, x.utf8, v.2 ∙ ap trim_end x.text ∙ trim_end_white x.front x.last (ap white_space (sym e) ∙ w))

  pub back_stop : (c n : ℕ) → IsChar s k c n → white_space c ≡ false → BackIs s end
  back_stop c n r w cs u =
      let v = inv cs u in
      let x = last_is s end k h st v.0 v.1 in
      let e : c ≡ x.last = prefix_char c x.last (drop n s) (drop end s) (sym r.bytes ∙ x.bytes) in
      let q : trim_end cs ≡ v.0 = v.2 ∙ ap trim_end x.text ∙ trim_end_other x.front x.last (ap white_space (sym e) ∙ w) ∙ sym x.text in
      subst (λ (ds : List ℕ). Utf8 (take end s) ds) (sym q) v.1

  pub back_bad : ((c n : ℕ) → IsChar s k c n → ⊥) → BackIs s end
  back_bad f cs u =
      let v = inv cs u in
      let x = last_is s end k h st v.0 v.1 in
      absurd (f x.last (k + length (encode x.last)) (char_at s k x.last (drop end s) x.scalar x.bytes))

pub back_end : (s : List ℕ) (end : ℕ) → end ≤ 0 → BackInv s end → BackIs s end
unfolding trim_start
back_end s end h inv cs u =
    let v = inv cs u in
    let z : end ≡ 0 = omega arith in
    let none : Utf8 (take end s) [] = utf8_none (take end s) (rw z) in
    let e : v.0 ≡ [] = utf8_unique (take end s) v.0 [] v.1 none in
    subst (λ (ds : List ℕ). Utf8 (take end s) ds) (sym (v.2 ∙ ap trim_end e)) none
