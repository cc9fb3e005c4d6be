-- What an input instruction takes of a line.
--     take_none                        at the end of the input
--     line_stays, char_stays           there reading goes on where it is, of IntIn and of CharIn
--     take_skip, take_push             a line that is skipped for a reason; that gives a number
--     some_char                        a line that has a byte has a character
--     int-of, char_of_lem                  what IntIn and CharIn read
--     char-next                        where CharIn goes on
-- Assumes nothing.
use Prim.Native.Nat.{ℕ, ◌+◌, ◌-◌, ◌<◌, ◌≤◌}
use mathlib.Core.Path.{◌≡◌, refl, sym, ap, ap₂, ◌∙◌, subst}
use mathlib.Core.List.{List, [], ◌∷◌, append-nil}
use native.Mathlib.Omega.{arith}
use lib.IntN.{ℤ, pos}
use lib.ListN.{length, take, drop}
use Rattle.base.specs.declared.edition.Edition.{Edition}
use Rattle.base.specs.declared.edition.Edition.TheVariants.{Rust, Page}
use Rattle.base.proofs.Clash.{clash}
use Rattle.text.specs.Line.{line_at, line_end}
use Rattle.text.specs.Utf8.{encode, encodes, Utf8, IsChar}
use Rattle.text.specs.Trim.{Trims}
use Rattle.text.specs.Number.{parsed}
use Rattle.text.specs.Input.{char_of, remains, int_of, push_or_skip, Next, whole_line, after_char, char_next, Takes, reads}
use Rattle.text.specs.Number.{Number}
use Rattle.std.specs.Prelude.{Ok, Err}
use Rattle.text.specs.declared.number.Reason.{Reason}
use Rattle.text.specs.declared.number.Reason.TheVariants.{Ended}
use Rattle.text.specs.declared.input.Taken.TheVariants.{Push, Skip}
use Rattle.text.proofs.Utf8Laws.{utf8_none, head_is}
use Rattle.text.proofs.LineLaws.{line_none, line_part}

-- where both editions say the same, that is what is chosen
agreed : (e : Edition) (x y n : ℕ) → x ≡ n → y ≡ n → after_char e x y ≡ n
agreed Rust x y n h k = h
agreed Page x y n h k = k

-- ---- the end of the input, of which nothing is left
module _ (s : List ℕ) (at : ℕ) (h : length s ≤ at) where
  pub take_none : (f : List ℕ → Number) (next : Next) → f [] ≡ Err Ended → next s at [] ≡ at → Takes f next s at (Skip at Ended)
  unfolding push_or_skip
  take_none f next e stays = reads [] (utf8_none (line_at s at) (rw (line_none s at h))) (rw (e, stays))

  pub line_stays : whole_line s at [] ≡ at
  line_stays = omega (arith, line_none s at h)

  pub char_stays : (e : Edition) → char_next e s at [] ≡ at
  unfolding char_next encodes
  char_stays e = agreed e (line_end s at) (at + 0) at line_stays (omega arith)

-- ---- the part of the input up to e, where the line ends
module _ (f : List ℕ → Number) (next : Next) (s : List ℕ) (at e : ℕ) (is : e ≡ line_end s at) where
  module _ (cs : List ℕ) (u : Utf8 (take (e - at) (drop at s)) cs) where
    line_utf8 : Utf8 (line_at s at) cs
    line_utf8 = subst (λ (l : List ℕ). Utf8 l cs) (line_part s at e is) u

    pub take_skip : (n : ℕ) (why : Reason) → f cs ≡ Err why → n ≡ next s at cs → Takes f next s at (Skip n why)
    unfolding push_or_skip
    take_skip n why q g = reads cs line_utf8 (rw (q, ← g))

    pub take_push : (n : ℕ) (v : ℤ) → f cs ≡ Ok v → n ≡ next s at cs → Takes f next s at (Push v n)
    unfolding push_or_skip
    take_push n v q g = reads cs line_utf8 (rw (q, ← g))

-- bytes are characters: some of the one, some of the other
pub some_char : (l cs : List ℕ) → Utf8 l cs → 0 < length l → cs ≡ [] → ⊥
unfolding encodes
some_char l [] u h e = omega (arith, ap length u.same)
some_char l (c ∷ cs) u h e = clash cc

int_some : (cs : List ℕ) → (cs ≡ [] → ⊥) → int_of cs ≡ parsed (remains cs)
unfolding int_of
int_some [] h = absurd (h refl)
int_some (c ∷ cs) h = refl

-- ---- the characters cs of a line l
module _ (l cs : List ℕ) (u : Utf8 l cs) where
  pub int-of : 0 < length l → (t : List ℕ) → Trims l t → (r : Number) → r ≡ parsed t → int_of cs ≡ r
  int-of h t p r q = int_some cs (some_char l cs u h) ∙ ap parsed (sym (p.text cs u).same) ∙ sym q

  module _ (c n : ℕ) (k : IsChar l 0 c n) where
    pub char_of_lem : char_of cs ≡ Ok (pos c)
    unfolding char_of
    char_of_lem = ap char_of (head_is c l (drop n l) k.bytes cs u).1

    first_size : n ≡ length (encodes (take 1 cs))
    unfolding encodes
    first_size = rw ((head_is c l (drop n l) k.bytes cs u).1, append-nil (encode c)) (omega (arith, k.next))

    pub char-next : (e : Edition) (s : List ℕ) (at end : ℕ) → end ≡ line_end s at → after_char e end (at + n) ≡ char_next e s at cs
    unfolding char_next
    char-next e s at end is = ap₂ (after_char e) is (ap (λ (x : ℕ). at + x) first_size)
