-- Mod at the corners of its two definitions (rules 9.5, 16.3). `negsuc n` is -(n + 1). Assumes nothing.
use Rattle.std.proofs.Common.{◌≡◌, [], ◌∷◌, ℤ, pos, negsuc, refl}
use Rattle.base.specs.declared.edition.Edition.TheVariants.{Rust, Page}
use Rattle.word.specs.Word.{residue, is_zero, floor_by, floor_quotient, rust_remainder, page_remainder, remainder}

-- -2^63 and 2^63 - 1
abbrev least : ℤ
least = negsuc 9223372036854775807

abbrev most : ℤ
most = pos 9223372036854775807

pub rust : (remainder Rust (pos 7) (negsuc 2) ≡ pos 1 ∷ [])
    × (remainder Rust (negsuc 6) (negsuc 2) ≡ pos 2 ∷ [])
    × (remainder Rust (negsuc 6) (pos 3) ≡ pos 2 ∷ [])
    × (remainder Rust (pos 6) (negsuc 2) ≡ pos 0 ∷ [])
    × (remainder Rust (pos 5) least ≡ [])
    × (remainder Rust (negsuc 4) least ≡ [])
    × (remainder Rust least least ≡ [])
    × (remainder Rust most least ≡ [])
unfolding residue rust_remainder remainder
rust = (refl, refl, refl, refl, refl, refl, refl, refl)

pub page : (remainder Page (pos 7) (negsuc 2) ≡ negsuc 1 ∷ [])
    × (remainder Page (negsuc 6) (negsuc 2) ≡ negsuc 0 ∷ [])
    × (remainder Page (negsuc 6) (pos 3) ≡ pos 2 ∷ [])
    × (remainder Page (pos 6) (negsuc 2) ≡ pos 0 ∷ [])
    × (remainder Page (pos 5) least ≡ negsuc 9223372036854775802 ∷ [])
    × (remainder Page (negsuc 4) least ≡ negsuc 4 ∷ [])
    × (remainder Page least least ≡ pos 0 ∷ [])
    × (remainder Page most least ≡ negsuc 0 ∷ [])
    × (remainder Page least (negsuc 0) ≡ pos 0 ∷ [])
    × (remainder Page (pos 5) (pos 0) ≡ [])
unfolding is_zero floor_by floor_quotient page_remainder remainder
page = (refl, refl, refl, refl, refl, refl, refl, refl, refl, refl)
