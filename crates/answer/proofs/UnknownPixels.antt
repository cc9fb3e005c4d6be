-- A job with an unknown pixel is not run (rule 13.4). Assumes nothing.
use mathlib.Core.Path.{◌≡◌, ◌∙◌, sym, refl}
use mathlib.Core.Bool.{false}
use mathlib.Core.List.{[], ◌∷◌}
use Prim.Native.Nat.{ℕ, ◌*◌, ◌<◌}
use lib.ListN.{get_or}
use Rattle.std.specs.Prelude.{Some, None}
use Rattle.base.specs.Numbers.{numbers, first}
use Rattle.colour.specs.Palette.{number_in, colour_of, pixels_of}
use Rattle.colour.specs.Classify as classifying
use Rattle.colour.proofs.SettingLaws.{all_known}
use Rattle.piet.specs.RunPicture.{refusals, refusal}
use Rattle.piet.proofs.Refusing.{accepted}
use Rattle.job.specs.Encoding.{Content}
use Rattle.answer.specs.Program.{asked_of, refusal_of}
use Rattle.answer.proofs.Ending.{fresh, fresh_sized, same_refusal}

-- every pixel of a job that is not refused is known
pub all_known_run : (c : Content) → refusal_of c ≡ numbers 0 (0 ∷ 0 ∷ [])
    → (i : ℕ) → i < c.height * c.width → (k : ℕ) × (get_or (classifying.found c.pixels) i None ≡ Some k)
all_known_run c h =
    all_known c.pixels c.height c.width 512 (0 ∷ 0 ∷ [])
    (sym (accepted (asked_of c) fresh (0 ∷ 0 ∷ []) (sym (same_refusal c fresh_sized ∙ h))).classifies)

-- by number: red and 010203, 1 x 2
abbrev strange : Content
strange =
    record {
      height = 1;
      width = 2;
      codel = 1;
      pixels = 0xFF ∷ 0 ∷ 0 ∷ 1 ∷ 2 ∷ 3 ∷ [];
      limit = 3;
      abstracted = false;
      input = [];
    }

pub unknown_refused : refusal_of strange ≡ numbers 5 (0 ∷ 1 ∷ [])
unfolding refusal refusals first classifying.refusals classifying.unknown_pixel classifying.known_first classifying.found pixels_of colour_of number_in
unknown_refused = refl
