-- What a program prints that is given a job, whatever it shows of the run (rules 13.3, 13.4, 13.6). Assumes nothing.
use Rattle.std.specs.Prelude.{◌≡◌, List, [], ◌∷◌, ℕ, suc, ◌*◌, ◌/◌, ◌%◌, ◌<◌, ◌≤◌, length}
use Rattle.base.specs.declared.refusal.Refusal.TheVariants as refusal
use Rattle.base.specs.Edition.{rust_number}
use Rattle.base.specs.Lent.{lent}
use Rattle.base.specs.Numbers.{Numbers, numbers}
use Rattle.base.specs.Refusal.{number_of_refusal}
use Rattle.colour.specs.Label.{label_of}
use Rattle.colour.specs.Setting.{refusing}
use Rattle.picture.specs.Picture.{Picture, cols_of, codels, codel_colour}
use Rattle.region.specs.Grid.{grid_of}
use Rattle.region.specs.Region.{IsMap}
use Rattle.region.specs.Rows.{First}
use Rattle.machine.specs.Machine.{asks, given_of, RunRoom}
use Rattle.machine.specs.Place.{End}
use Rattle.piet.specs.Follows.{Follows}
use Rattle.piet.specs.RunPicture.{Asked, asked, asked_picture, refusal}
use Rattle.job.specs.Encoding.{Content, IsJob}
use Rattle.job.specs.Outcome.{NoJob}
use Rattle.report.specs.Text.{refusal_text}

-- what a job asks of a run: unknown pixels refused, in edition 1 (rules 13.4, 16.7)
abbrev pub asked_of : Content → Asked
asked_of c =
    asked c.pixels c.height c.width refusing c.codel (asks rust_number c.limit c.abstracted c.input)

-- the refusals of running a picture (rule 12.5), with room for 512 pixels, and so for the table of 512 codels (rule 13.4)
abbrev pub refusal_of : Content → Numbers
refusal_of c = refusal (asked_of c) 512 512 2560 4096 512

-- the room of the stack and of the outputs (rule 13.4)
abbrev pub run_room : RunRoom
run_room = record { stack = 256; outs = 256 }

-- a run of the job's picture ends in e; its regions are numbered in the map by their first codels
pub record Ran (c : Content) (map : List ℕ) (e : End) : Type 0 where
  pub regions : ℕ
  pub long : length map ≡ codels (asked_picture (asked_of c))
  pub numbered : IsMap (grid_of (asked_picture (asked_of c))) map regions
  pub follows : Follows (asked_picture (asked_of c)) map (given_of (asked_of c).asks) run_room e

-- the label of region r: that of its first codel, whose top left pixel is the region's first pixel
pub record Labels (p : Picture) (map : List ℕ) (r : ℕ) (label : List ℕ) : Type 0 where
  pub first : ℕ
  pub is_first : First map (codels p) r first
  pub is : label ≡ label_of (codel_colour p first) (first / cols_of p * p.codel) (first % cols_of p * p.codel)

-- `Shows c text`: this text is shown for a job that is not refused
module _ (Shows : Content → List ℕ → Type 0) where
  -- the text that is printed for a list of bytes
  pub data Answers (job : List ℕ) : List ℕ → Type 0 where
    -- no job: 11, before all other refusals (rule 13.3)
    no_job : NoJob job → Answers job (refusal_text (number_of_refusal refusal.Job))
    -- a refused job (rule 13.6)
    refused : (c : Content) → IsJob job c → (k : ℕ) (v : List ℕ) → refusal_of c ≡ numbers (suc k) v → Answers job (refusal_text (suc k))
    ran : (c : Content) → IsJob job c → refusal_of c ≡ numbers 0 (0 ∷ 0 ∷ []) → {text : List ℕ} → Shows c text → Answers job text

  -- the text stands at the start of what is lent, the rest is as it was, and r is the text's length
  pub record Prints (job before : List ℕ) (r : ℕ) (after : List ℕ) : Type 0 where
    pub text : List ℕ
    pub answers : Answers job text
    pub size : r ≡ length text
    pub list : after ≡ lent text before

  -- what a call answers and leaves: nothing where there is less room than is asked for
  pub data Printed (room : ℕ) (job before : List ℕ) (r : ℕ) (after : List ℕ) : Type 0 where
    short : length before < room → r ≡ 0 → after ≡ before → Printed room job before r after
    printed : room ≤ length before → Prints job before r after → Printed room job before r after
