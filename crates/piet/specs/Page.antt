-- The public page's tables and commands as it has them (rule 14): what proofs Page, PageCommands, PageRoll and PageEdition
-- compare our definitions with. Assumes nothing.
use Rattle.std.specs.Prelude.{◌≡◌, List, [], ◌∷◌, ◌++◌, ℕ, zero, suc, ◌+◌, ◌-◌, ◌/◌, ◌%◌, ◌^◌, ◌<◌, take, drop, ℤ, pos, negsuc, neg_ℤ}
use Rattle.std.specs.Int.Signed.{mag}
use Rattle.base.specs.declared.edition.Edition.{Edition}
use Rattle.colour.specs.Palette.{Rgb, rgb}
use Rattle.flow.specs.declared.PointerState.{PointerState}
use Rattle.stack.specs.declared.Pairing.TheVariants.{Add, Sub, Mul, Div, Mod, Gt}
use Rattle.machine.specs.declared.Op.{Op}
use Rattle.machine.specs.declared.Op.TheVariants.{Nothing, Push, Pop, Pair, Not, Ptr, Swi, Dup, Roll, CharIn, CharOut, IntIn, IntOut}
use Rattle.machine.specs.Machine.{Given, Store, does, exec, with_stack}

-- ---- colours

-- red, yellow, green, cyan, blue, magenta
abbrev pub light : List Rgb
light = rgb 0xFF 0xC0 0xC0 ∷ rgb 0xFF 0xFF 0xC0 ∷ rgb 0xC0 0xFF 0xC0 ∷ rgb 0xC0 0xFF 0xFF ∷ rgb 0xC0 0xC0 0xFF ∷ rgb 0xFF 0xC0 0xFF ∷ []

abbrev pub normal : List Rgb
normal = rgb 0xFF 0x00 0x00 ∷ rgb 0xFF 0xFF 0x00 ∷ rgb 0x00 0xFF 0x00 ∷ rgb 0x00 0xFF 0xFF ∷ rgb 0x00 0x00 0xFF ∷ rgb 0xFF 0x00 0xFF ∷ []

abbrev pub dark : List Rgb
dark = rgb 0xC0 0x00 0x00 ∷ rgb 0xC0 0xC0 0x00 ∷ rgb 0x00 0xC0 0x00 ∷ rgb 0x00 0xC0 0xC0 ∷ rgb 0x00 0x00 0xC0 ∷ rgb 0xC0 0x00 0xC0 ∷ []

-- the page's table of colours; one line further down is one step darker, one column further is one step of hue
abbrev pub colours : List (List Rgb)
colours = light ∷ normal ∷ dark ∷ []

-- the line and the column of that table in which the colour with our number c stands
abbrev pub line : ℕ → ℕ
line c = 2 - c / 6

abbrev pub column : ℕ → ℕ
column c = c % 6

-- ---- commands

-- a row for each number of hue steps; in it same lightness, 1 darker, 2 darker
abbrev pub commands : List (List Op)
commands =
    (Nothing ∷ Push ∷ Pop ∷ [])
    ∷ (Pair Add ∷ Pair Sub ∷ Pair Mul ∷ [])
    ∷ (Pair Div ∷ Pair Mod ∷ Not ∷ [])
    ∷ (Pair Gt ∷ Ptr ∷ Swi ∷ [])
    ∷ (Dup ∷ Roll ∷ IntIn ∷ [])
    ∷ (CharIn ∷ IntOut ∷ CharOut ∷ [])
    ∷ []

-- how many values a command takes from the stack
abbrev pub takes : Op → ℕ
takes Nothing = 0
takes Push = 0
takes Pop = 1
takes (Pair o) = 2
takes Not = 1
takes Ptr = 1
takes Swi = 1
takes Dup = 1
takes Roll = 2
takes CharIn = 0
takes CharOut = 1
takes IntIn = 0
takes IntOut = 1

-- a command makes the stack s' of the stack s, top first, and changes nothing else
abbrev pub Changes : Op → List ℤ → List ℤ → Type 0
Changes o s s' = (g : Given) (size : ℕ) (m : Store) → exec g size o (with_stack s m) ≡ does (with_stack s' m)

-- the same of a run of one edition
abbrev pub ChangesIn : Edition → Op → List ℤ → List ℤ → Type 0
ChangesIn e o s s' = (g : Given) → g.terms.edition ≡ e → (size : ℕ) (m : Store) → exec g size o (with_stack s m) ≡ does (with_stack s' m)

-- 0, or of a's sign and nearer to 0 than a
abbrev pub OfSign : ℤ → ℤ → Type 0
OfSign (pos m) r = (k : ℕ) × (k < m) × (r ≡ pos k)
OfSign (negsuc n) r = (k : ℕ) × (k < suc n) × (r ≡ neg_ℤ (pos k))

-- the page allows a largest number: here those of 64 bits, -2^63 to 2^63 - 1
abbrev pub InRange : ℤ → Type 0
InRange z = mag z < 2 ^ 63

-- one roll to depth n: the top goes n deep, and the values above that place move up by one
unfoldable pub bury : ℕ → List ℤ → List ℤ
bury n [] = []
bury n (x ∷ s) = take (n - 1) s ++ (x ∷ drop (n - 1) s)

-- ---- pointers

-- DP right, down, left, up
abbrev pub right : ℕ
right = 0

abbrev pub down : ℕ
down = 1

abbrev pub left : ℕ
left = 2

abbrev pub up : ℕ
up = 3

-- CC left
abbrev pub to_left : ℕ
to_left = 0

abbrev pub anticlockwise : PointerState → PointerState
anticlockwise q = record { dp = (q.dp + 3) % 4; cc = q.cc }

-- something done n times
unfoldable pub times : {A : Type 0} → ℕ → (A → A) → A → A
times zero f x = x
times (suc n) f x = f (times n f x)
