-- Laws of refusals: a number and a place name one refusal (rule 12.2), and none has the number 0 (rule 12.1). Assumes nothing.
use mathlib.Core.Path.{◌≡◌, ◌∙◌, refl, sym, ap, subst}
use mathlib.Core.List.{List, [], ◌∷◌}
use native.Mathlib.Omega.{arith}
use Prim.Native.Nat.{ℕ, zero, suc, ◌-◌, ◌<◌}
use Rattle.std.proofs.Common.{get_or}
use Rattle.std.specs.Prelude.{Result, Ok, Err}
use Rattle.base.specs.declared.refusal.Refusal.{Refusal}
use Rattle.base.specs.declared.refusal.Refusal.TheVariants.{
  Size,
  Bytes,
  Setting,
  Room,
  Pixel,
  Codel,
  Grid,
  Colour,
  White,
  Table,
  Job,
  Label,
  Header,
  Length,
  Edition,
  Limit,
}
use Rattle.base.specs.Numbers.{numbers, number_of, values_of, unless_refused}
use Rattle.base.specs.Refusal.{number_of_refusal, place_of, place_cells, answered}

-- the refusal of a number and a place
abbrev named : ℕ → ℕ × ℕ → Refusal
named n p =
    get_or (Size ∷ Bytes ∷ Setting ∷ Room ∷ Pixel p.0 p.1 ∷ Codel ∷ Grid ∷ Colour p.1 ∷ White ∷ Table ∷ Job ∷ Label ∷ Header ∷ Length ∷ Edition ∷ Limit ∷ [])
    (n - 1) Limit

named_is : (r : Refusal) → named (number_of_refusal r) (place_of r) ≡ r
named_is Size = refl
named_is Bytes = refl
named_is Setting = refl
named_is Room = refl
named_is (Pixel r c) = refl
named_is Codel = refl
named_is Grid = refl
named_is (Colour i) = refl
named_is White = refl
named_is Table = refl
named_is Job = refl
named_is Label = refl
named_is Header = refl
named_is Length = refl
named_is Edition = refl
named_is Limit = refl

-- two refusals of the same number and place are one
pub refusal_only : (r s : Refusal) → number_of_refusal r ≡ number_of_refusal s → place_of r ≡ place_of s → r ≡ s
refusal_only r s n p = sym (named_is r) ∙ ap (λ k. named k (place_of r)) n ∙ ap (named (number_of_refusal s)) p ∙ named_is s

-- or of the same numbers
pub same_refusal : (r s : Refusal) → numbers (number_of_refusal r) (place_cells r) ≡ numbers (number_of_refusal s) (place_cells s) → r ≡ s
same_refusal r s e = refusal_only r s (ap number_of e) (ap (λ a. (get_or (values_of a) 0 0, get_or (values_of a) 1 0)) e)

-- what is lent stays as it was, whatever the refusal
pub kept : {A : Type 0} (r : Refusal) (v : List ℕ) (new old : A) → unless_refused (numbers (number_of_refusal r) v) new old ≡ old
kept Size v new old = refl
kept Bytes v new old = refl
kept Setting v new old = refl
kept Room v new old = refl
kept (Pixel r c) v new old = refl
kept Codel v new old = refl
kept Grid v new old = refl
kept (Colour i) v new old = refl
kept White v new old = refl
kept Table v new old = refl
kept Job v new old = refl
kept Label v new old = refl
kept Header v new old = refl
kept Length v new old = refl
kept Edition v new old = refl
kept Limit v new old = refl

-- no refusal has the number 0 (rule 12.1)
pub never_done : (r : Refusal) (v w : List ℕ) → numbers (number_of_refusal r) v ≡ numbers 0 w → ⊥
never_done r v w e = omega (arith, zero_one)
  where
    zero_one : zero ≡ suc zero
    zero_one = sym (kept r v 1 0) ∙ ap (λ a. unless_refused a 1 0) e

pub number_some : (r : Refusal) → number_of_refusal r ≡ 0 → ⊥
number_some r e = never_done r [] [] (ap (λ (k : ℕ). numbers k []) e)

pub number_suc : (r : Refusal) → (k : ℕ) × (number_of_refusal r ≡ suc k)
number_suc r = go (number_of_refusal r) refl
  where
    go : (n : ℕ) → number_of_refusal r ≡ n → (k : ℕ) × (number_of_refusal r ≡ suc k)
    go zero e = absurd (number_some r e)
    go (suc k) e = (k, e)

-- the number of a refusal that names no place
abbrev pub Placeless : ℕ → Type 0
Placeless n = (n ≡ 5 → ⊥) × (n ≡ 8 → ⊥)

-- both names of a place have small numbers
pub past_places : {n : ℕ} → 8 < n → Placeless n
past_places h = (λ e. omega arith, λ e. omega arith)

no_place : (r : Refusal) → Placeless (number_of_refusal r) → place_of r ≡ (0, 0)
no_place Size h = refl
no_place Bytes h = refl
no_place Setting h = refl
no_place Room h = refl
no_place (Pixel r c) h = absurd (h.0 refl)
no_place Codel h = refl
no_place Grid h = refl
no_place (Colour i) h = absurd (h.1 refl)
no_place White h = refl
no_place Table h = refl
no_place Job h = refl
no_place Label h = refl
no_place Header h = refl
no_place Length h = refl
no_place Edition h = refl
no_place Limit h = refl

-- what has the number of a refusal that names no place is that refusal
pub refused_only : {T : Type 0} (given : T → List ℕ) (cells : Refusal → List ℕ) (s : Refusal) (v : List ℕ) → Placeless (number_of_refusal s)
    → (r : Result T Refusal) → answered given cells r ≡ numbers (number_of_refusal s) v → r ≡ Err s
refused_only given cells s v h (Ok t) e = absurd (never_done s v (given t) (sym e))
refused_only given cells s v h (Err r) e =
    ap Err (refusal_only r s (ap number_of e) (no_place r (subst Placeless (sym (ap number_of e)) h) ∙ sym (no_place s h)))

-- two answers of the same numbers are one, where what is given is settled by its values
module _ {T : Type 0} (given : T → List ℕ) (settled : (t u : T) → given t ≡ given u → t ≡ u) where
  -- if the number names no place
  pub answered_only : (cells : Refusal → List ℕ) (r r' : Result T Refusal) → Placeless (number_of (answered given cells r))
      → answered given cells r ≡ answered given cells r' → r ≡ r'
  answered_only cells (Ok t) (Ok u) h e = ap Ok (settled t u (ap values_of e))
  answered_only cells (Ok t) (Err s) h e = absurd (never_done s (cells s) (given t) (sym e))
  answered_only cells (Err r) r' h e = sym (refused_only given cells r (cells r) h r' (sym e))

  -- or the values have the place
  pub placed_only : (r r' : Result T Refusal) → answered given place_cells r ≡ answered given place_cells r' → r ≡ r'
  placed_only (Ok t) (Ok u) e = ap Ok (settled t u (ap values_of e))
  placed_only (Ok t) (Err s) e = absurd (never_done s (place_cells s) (given t) (sym e))
  placed_only (Err r) (Ok t) e = absurd (never_done r (place_cells r) (given t) e)
  placed_only (Err r) (Err s) e = ap Err (same_refusal r s e)
