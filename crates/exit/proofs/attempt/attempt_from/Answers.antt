-- `exit::attempt::attempt_from` meets its contract: a constructor of `Attempt` for each arm. Assumes nothing.
use mathlib.Core.Path.{◌≡◌, sym, subst, ◌∙◌}
use Rattle.picture.specs.Codels.{picture_in}
use Rattle.picture.specs.Picture.{Picture}
use Rattle.exit.specs.declared.slide.Sight.TheVariants.{White}
use Rattle.exit.specs.Trail.{lost_by}
use Rattle.exit.specs.Slide.{look_of, Ends}
use Rattle.exit.specs.Attempt.{shut, step, glide, lost}
use Rattle.exit.proofs.SlideLaws.{white_inside}
use Rattle.exit.proofs.attempt.attempt_from.Goals as goal

pub slide-requires : goal.slide-requires
slide-requires c =
    let pic : Picture = picture_in c.args.grid in
    let white : look_of pic c.args.row c.args.col c.args.from.dp ≡ White c.in-White.r c.in-White.c = sym c.look.ensures ∙ c.in-White.is in
    (white_inside _ _ _ _ c.requires.0 white, c.requires.1)

pub returns-in-Shut : goal.returns-in-Shut
returns-in-Shut c = shut (sym c.look.ensures ∙ c.in-Shut.is)

pub returns-in-Coloured : goal.returns-in-Coloured
returns-in-Coloured c = step (sym c.look.ensures ∙ c.in-Coloured.is)

pub returns-in-Some : goal.returns-in-Some
returns-in-Some c =
    let pic : Picture = picture_in c.args.grid in
    let white : look_of pic c.args.row c.args.col c.args.from.dp ≡ White c.in-White.r c.in-White.c = sym c.look.ensures ∙ c.in-White.is in
    glide white (subst (Ends pic (lost_by c.args.edition) _ _ c.args.from) c.in-Some.is c.slide.ensures)

pub returns-in-None : goal.returns-in-None
returns-in-None c =
    let pic : Picture = picture_in c.args.grid in
    let white : look_of pic c.args.row c.args.col c.args.from.dp ≡ White c.in-White.r c.in-White.c = sym c.look.ensures ∙ c.in-White.is in
    lost white (subst (Ends pic (lost_by c.args.edition) _ _ c.args.from) c.in-None.is c.slide.ensures)
