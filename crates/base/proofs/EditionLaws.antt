-- What the test of an edition's number tells (rule 16.1). Assumes nothing.
use mathlib.Core.Path.{◌≡◌, refl}
use mathlib.Core.Bool.{Bool, true, false, cond}
use Prim.Native.Nat.{ℕ}
use Rattle.std.specs.Prelude.{Ok, Err}
use Rattle.base.specs.Edition.{unknown_edition, edition_of, edition_numbered}
use Rattle.base.specs.declared.edition.Edition.{Edition}
use Rattle.base.specs.declared.refusal.Refusal.{Refusal}
use Rattle.base.specs.declared.refusal.Refusal.TheVariants.{Edition as no_edition}

by_test : (b : Bool) (x e : Edition) → Ok e ≡ cond b (Err no_edition) (Ok x) → (b ≡ false) × (e ≡ x)
by_test true x e h = absurd (no h)
  where
    no : Ok e ≡ Err no_edition → ⊥
    no h = cc
by_test false x e h = (refl, cc)

by_refusal : (b : Bool) (x : Edition) (r : Refusal) → Err r ≡ cond b (Err no_edition) (Ok x) → (b ≡ true) × (r ≡ no_edition)
by_refusal true x r h = (refl, cc)
by_refusal false x r h = absurd (no h)
  where
    no : Err r ≡ Ok x → ⊥
    no h = cc

pub edition_known : (n : ℕ) {e : Edition} → Ok e ≡ edition_numbered n → (unknown_edition n ≡ false) × (e ≡ edition_of n)
edition_known n {e} h = by_test (unknown_edition n) (edition_of n) e h

pub edition_refused : (n : ℕ) {r : Refusal} → Err r ≡ edition_numbered n → (unknown_edition n ≡ true) × (r ≡ no_edition)
edition_refused n {r} h = by_refusal (unknown_edition n) (edition_of n) r h
