-- The rules of the public page that edition 1 breaks and edition 2 keeps (docs/DIFFERENCES.md), beside those that hold in both.
--     page_divide_by_zero    divide and mod by zero are ignored (rule 14.11)
--     page_mod_sign          mod is what division rounded down leaves, and has the sign of the top (rule 14.11)
--     page_roll_bad_depth    a roll to a negative depth, or to one above the values there are, is ignored (rule 14.14)
--     page_char_in           in (char) reads one character, and the next read goes on behind it (rule 14.15)
--     page_lost_slide        a slide without a way out ends the program (rule 14.8)
--     page_none_past         and no move is made past it
-- Assumes nothing.
use mathlib.Core.Path.{◌≡◌, refl, sym, ap, subst, ◌∙◌}
use mathlib.Core.Bool.{false}
use mathlib.Core.List.{List, [], ◌∷◌}
use Prim.Native.Nat.{ℕ, ◌+◌, ◌<◌}
use borrow.Author.Tests.{lt-ltb}
use lib.ListN.{length}
use lib.IntN.{ℤ, pos, negsuc, neg_ℤ, ◌-ℤ◌, ◌*ℤ◌}
use Rattle.base.specs.declared.edition.Edition.{Edition}
use Rattle.base.specs.declared.edition.Edition.TheVariants.{Page}
use Rattle.word.specs.Word.{residue, is_zero, quotient, floor_quotient, page_remainder, remainder}
use Rattle.word.proofs.Signed.{is_not_zero}
use Rattle.word.proofs.FloorLaws.{left_pos, left_neg}
use Rattle.flow.specs.declared.PointerState.{PointerState}
use Rattle.flow.specs.Pointer.{Valid, attempt_of}
use Rattle.text.specs.Line.{line_at, line_end}
use Rattle.text.specs.Utf8.{Utf8, encode}
use Rattle.text.specs.Input.{char_of, char_next}
use Rattle.text.specs.Reading.{take_of}
use Rattle.text.specs.declared.input.Taken.TheVariants as Line
use Rattle.text.proofs.ReadingLaws.{takes_of}
use Rattle.text.proofs.OneChar.{one_char, rest_left, line_taken}
use Rattle.stack.specs.declared.Pairing.TheVariants.{Div, Mod}
use Rattle.stack.specs.Instr as Instr
use Rattle.picture.specs.Picture.{Picture, codels, Sound}
use Rattle.exit.specs.declared.attempt.Way.TheVariants.{Astray}
use Rattle.exit.specs.Opens.{Tried, lost}
use Rattle.machine.specs.declared.Op.TheVariants.{Pair, Roll, CharIn}
use Rattle.machine.specs.declared.Stop.TheVariants.{Completed}
use Rattle.machine.specs.Machine.{Given, RunRoom, Store, does, exec, with_stack, with_used}
use Rattle.machine.specs.Place.{End}
use Rattle.piet.specs.Moves.{ShutBefore, FirstOpen, NoMove, lost_first}
use Rattle.piet.specs.Follows.{Follows}
use Rattle.piet.specs.Page.{ChangesIn, OfSign}
use Rattle.piet.proofs.MoveLaws.{not_both}
use Rattle.piet.proofs.PageCommands.{in_character}

-- ---- instructions on the stack

pub page_divide_by_zero : (b : ℤ) (s : List ℤ)
    → ChangesIn Page (Pair Div) (pos 0 ∷ b ∷ s) (pos 0 ∷ b ∷ s) × ChangesIn Page (Pair Mod) (pos 0 ∷ b ∷ s) (pos 0 ∷ b ∷ s)
unfolding exec Instr.undone Instr.in_place Instr.binary Instr.combined is_zero quotient page_remainder remainder
page_divide_by_zero b s = (λ g h size m. rw h refl, λ g h size m. rw h refl)

-- what is left of b by division rounded down has the sign of a
of_sign : (b a : ℤ) → (a ≡ pos 0 → ⊥) → OfSign a (b -ℤ a *ℤ floor_quotient b a)
of_sign b (pos m) h = let l = left_pos b m h in (residue b m, l.1, l.0)
of_sign b (negsuc k) h = let l = left_neg b k in (residue (neg_ℤ b) _, l.1, l.0)

pub page_mod_sign : (a b : ℤ) (s : List ℤ) → (a ≡ pos 0 → ⊥)
    → ChangesIn Page (Pair Mod) (a ∷ b ∷ s) ((b -ℤ a *ℤ floor_quotient b a) ∷ s) × OfSign a (b -ℤ a *ℤ floor_quotient b a)
unfolding exec Instr.in_place Instr.binary Instr.combined page_remainder remainder
page_mod_sign a b s h = (λ g e size m. rw (e, is_not_zero a h) refl, of_sign b a h)

pub page_roll_bad_depth : (a : ℤ) (n : ℕ) (s : List ℤ)
    → ChangesIn Page Roll (a ∷ negsuc n ∷ s) (a ∷ negsuc n ∷ s) × (length s < n → ChangesIn Page Roll (a ∷ pos n ∷ s) (a ∷ pos n ∷ s))
unfolding exec Instr.roll Instr.bad_depth Instr.undone
page_roll_bad_depth a n s = (λ g e size m. rw e refl, λ l g e size m. rw (lt-ltb (length s) n l, e) refl)

-- ---- in (char)

-- what is left of the line at the place of reading has the characters c ∷ cs: c is read, and the next read sees cs, or the next
-- line where there are none
pub page_char_in : (g : Given) → g.terms.edition ≡ Page → g.terms.abstract_mode ≡ false → (size : ℕ) (m : Store) (c : ℕ) (cs : List ℕ)
    → Utf8 (line_at g.input m.reading.used) (c ∷ cs)
    → let next = m.reading.used + length (encode c) in
    (exec g size CharIn m ≡ does (with_used next (with_stack (pos c ∷ m.stack) m)))
    × ((cs ≡ [] → ⊥) → Utf8 (line_at g.input next) cs)
    × (cs ≡ [] → next ≡ line_end g.input m.reading.used)
page_char_in g e reads size m c cs u = (
  in_character g reads size m (pos c) (m.reading.used + length (encode c)) taken,
  rest_left g.input m.reading.used c cs u,
  line_taken g.input m.reading.used c cs u,
)
  where
    taken : take_of char_of (char_next g.terms.edition) g.input m.reading.used ≡ Line.Push (pos c) (m.reading.used + length (encode c))
    taken =
        ap (λ (x : Edition). take_of char_of (char_next x) g.input m.reading.used) e
        ∙ one_char g.input m.reading.used c cs u _ (takes_of char_of (char_next Page) g.input m.reading.used)

-- ---- slides

-- while steps are left and no input is awaited: where a lost slide comes before any open attempt the program ends
pub page_lost_slide : {p : Picture} {map : List ℕ} {g : Given} {room : RunRoom} {e : End} → g.terms.edition ≡ Page → Follows p map g room e
    → e.at.steps < g.terms.limit → e.at.store.reading.awaiting ≡ false
    → (k a b : ℕ) → k < 8 → Tried Page p map e.at.region (attempt_of e.at.store.pointers k) (Astray a b)
    → ShutBefore Page p map e.at.region e.at.store.pointers k → e.stop ≡ Completed
page_lost_slide {p} {map} {g} {e = e} h F l w k a b few t before = F.completed.1 (l, w, over)
  where
    over : NoMove g.terms.edition p map e.at.region e.at.store.pointers
    over = subst (λ (x : Edition). NoMove x p map e.at.region e.at.store.pointers) (sym h) (lost_first k few (lost t) before)

-- and there is no move from such a place, however a run comes there
pub page_none_past : {p : Picture} {map : List ℕ} {r t i : ℕ} {q u : PointerState} → Sound p → length map ≡ codels p → Valid q
    → (k a b : ℕ) → k < 8 → Tried Page p map r (attempt_of q k) (Astray a b) → ShutBefore Page p map r q k → FirstOpen Page p map r q t u i → ⊥
page_none_past S L v k a b few t before F = not_both S L v (lost_first k few (lost t) before) F
