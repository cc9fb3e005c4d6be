-- What each instruction does to a stack, written top first (rules 9.1 to 9.6, 9.8, 16.2, 16.3). Assumes nothing.
use Rattle.std.specs.Prelude.{Bool, true, cond, List, [], ◌∷◌, ◌++◌, ℕ, ltb, eqb, length, take, drop, ℤ, pos, negsuc, ◌+ℤ◌, ◌-ℤ◌, ◌*ℤ◌, nat_abs}
use Rattle.std.specs.Int.Signed.{lt_z}
use Rattle.base.specs.Edition.{by_edition}
use Rattle.base.specs.declared.edition.Edition.{Edition}
use Rattle.word.specs.Word.{residue, wrap, is_zero, quotient, remainder}
use Rattle.stack.specs.declared.Pairing.{Pairing}
use Rattle.stack.specs.declared.Pairing.TheVariants.{Add, Sub, Mul, Div, Mod, Gt}

abbrev pub push : ℤ → List ℤ → List ℤ
push v s = v ∷ s

-- of an empty stack nothing goes (rule 9.1)
unfoldable pub pop : List ℤ → List ℤ
pop [] = []
pop (a ∷ s) = s

-- the stack after a Div, Mod or Roll that cannot be done: its two operands are gone (rules 9.4, 9.5, 9.8); in edition 2 they
-- stay (rule 16.2)
unfoldable pub undone : Edition → List ℤ → List ℤ
undone e s = by_edition e (drop 2 s) s

-- what comes stands in the place of the two uppermost; where nothing comes the edition decides
unfoldable pub in_place : Edition → List ℤ → List ℤ → List ℤ
in_place e [] s = undone e s
in_place e (v ∷ vs) s = (v ∷ vs) ++ drop 2 s

-- a is on top, b below it, and what f gives of b and a comes in their place; one value is too few, and stays (rule 9.1)
unfoldable pub binary : Edition → (ℤ → ℤ → List ℤ) → List ℤ → List ℤ
binary e f [] = []
binary e f (a ∷ []) = a ∷ []
binary e f (a ∷ (b ∷ s)) = in_place e (f b a) (a ∷ (b ∷ s))

abbrev pub bit : Bool → ℤ
bit t = cond t (pos 1) (pos 0)

-- what comes for b and a (rules 9.3 to 9.6, 16.3); Div and Mod may give nothing
unfoldable pub combined : Edition → Pairing → ℤ → ℤ → List ℤ
combined e Add b a = wrap (b +ℤ a) ∷ []
combined e Sub b a = wrap (b -ℤ a) ∷ []
combined e Mul b a = wrap (b *ℤ a) ∷ []
combined e Div b a = quotient b a
combined e Mod b a = remainder e b a
combined e Gt b a = bit (lt_z a b) ∷ []

abbrev pub pair : Edition → Pairing → List ℤ → List ℤ
pair e op = binary e (combined e op)

-- a 0 on top becomes 1, all else 0 (rule 9.6)
unfoldable pub not : List ℤ → List ℤ
not [] = []
not (a ∷ s) = bit (is_zero a) ∷ s

unfoldable pub dup : List ℤ → List ℤ
dup [] = []
dup (a ∷ s) = a ∷ a ∷ s

-- the top n values turned by k places: the k uppermost go below the others (rule 9.8)
unfoldable pub turn : ℕ → ℕ → List ℤ → List ℤ
turn n k s = drop k (take n s) ++ take k s ++ drop n s

-- the depth n is negative, or above the d values that there are (rule 9.8)
unfoldable pub bad_depth : ℤ → ℕ → Bool
bad_depth (pos n) d = ltb d n
bad_depth (negsuc n) d = true

-- how many of d values turn: none at a bad depth (rule 9.8)
unfoldable pub places : ℤ → ℕ → ℕ
places n d = cond (bad_depth n d) 0 (nat_abs n)

-- m values rolled a times, a taken modulo m; of no values nothing rolls (rule 9.8)
unfoldable pub rolled : ℕ → ℤ → List ℤ → List ℤ
rolled m a s = cond (eqb m 0) s (turn m (residue a m) s)

-- a is on top, the depth n below it (rule 9.8); at a bad depth the edition decides (rule 16.2)
unfoldable pub roll : Edition → List ℤ → List ℤ
roll e [] = []
roll e (a ∷ []) = a ∷ []
roll e (a ∷ (n ∷ s)) = cond (bad_depth n (length s)) (undone e (a ∷ (n ∷ s))) (rolled (nat_abs n) a s)
