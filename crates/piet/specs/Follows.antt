-- Demand 3: the history of moves that a run of a picture makes, and what its result says of it. Nothing here speaks of
-- rows, exits or an exit number (rules 8.1 to 8.4). Assumes nothing.
use Rattle.std.specs.Prelude.{◌≡◌, true, false, List, [], ◌∷◌, ◌++◌, map, reverse, ◌↔◌, ℕ, ◌<◌, ◌≤◌, length}
use Rattle.base.specs.declared.edition.Edition.{Edition}
use Rattle.flow.specs.declared.PointerState.{PointerState}
use Rattle.text.specs.declared.number.Reason.{Reason}
use Rattle.machine.specs.declared.Stop.{Stop}
use Rattle.machine.specs.declared.Stop.TheVariants.{Completed, MaxSteps, NeedsInput}
use Rattle.machine.specs.Machine.{Given, RunRoom, Store, Out, keeps, stops, op_numbered, exec, with_pointers, fitting}
use Rattle.machine.specs.Counts.{count_of, times}
use Rattle.machine.specs.Skipped.{skipped}
use Rattle.machine.specs.Place.{start, End}
use Rattle.piet.specs.Moves.{FirstOpen, NoMove}
use Rattle.picture.specs.Picture.{Picture, codels}
use Rattle.region.specs.Tally.{tally}

-- one move: the region left, the region reached, the pointers that the way gives, and the instruction
pub record Move : Type 0 where
  pub from : ℕ
  pub to : ℕ
  pub pointers : PointerState
  pub instruction : ℕ

-- the regions that moves enter, in their order: region 0, where a run starts, and then what each move reaches. The latest move
-- stands first in a history
abbrev pub entered_by : List Move → List ℕ
entered_by history = 0 ∷ reverse (map (λ v. v.to) history)

module _ (p : Picture) (map : List ℕ) (g : Given) (room : RunRoom) where
  -- the edition of the run: it says how the attempts are judged and what the instructions do
  abbrev edition : Edition
  edition = g.terms.edition

  -- what the instruction of a move from region r comes to: it is executed with the size of the block just left
  -- (rule 8.3), and kept where there is room (rules 11.4 to 11.7)
  abbrev pub doing : ℕ → PointerState → ℕ → Store → Out
  doing r u i m = fitting room (exec g (tally r (codels p) map) (op_numbered i) (with_pointers u m))

  -- `Walk history r m`: after these moves, the latest first, the run stands at region r with the store m. It starts at
  -- region 0 with dp right and cc left and nothing else; each move is the first open one of the eight attempts from the
  -- pointers then held, made while no input is awaited, and its instruction is kept.
  pub data Walk : List Move → ℕ → Store → Type 0 where
    starts : Walk [] 0 start.store
    moves : {history : List Move} {r target i : ℕ} {m m' : Store} {u : PointerState} → Walk history r m
        → m.reading.awaiting ≡ false
        → FirstOpen edition p map r m.pointers target u i
        → doing r u i m ≡ keeps m'
        → Walk (record { from = r; to = target; pointers = u; instruction = i } ∷ history) target m'

  -- the reasons for which the moves of a walk skipped number lines (rule 10.9), the latest first
  unfoldable pub reasons_on : {history : List Move} {r : ℕ} {m : Store} → Walk history r m → List Reason
  reasons_on starts = []
  reasons_on (moves {i = i} {m = m} walk unawaited first kept) = skipped g (op_numbered i) m ++ reasons_on walk

  -- the first open move is not taken: its instruction can't be kept in the room that is lent, and the run stops for s
  pub record Barred (r : ℕ) (m : Store) (s : Stop) : Type 0 where
    pub target : ℕ
    pub pointers : PointerState
    pub instruction : ℕ
    pub next : FirstOpen edition p map r m.pointers target pointers instruction
    pub unkept : doing r pointers instruction m ≡ stops s

  abbrev limit : ℕ
  limit = g.terms.limit

  -- A run of a picture under its limit ends in e: there is a history that leads to the region and the store reported, its
  -- pointers included; its length is the steps reported; of each reason to skip a line as many are reported as its moves
  -- skipped for it; and it stops as is reported and not otherwise: the limit is reached (rule 11.2); below it input is awaited
  -- (11.3); or no move is left (11.1, 16.6); else the next move can't be kept.
  pub record Follows (e : End) : Type 0 where
    pub history : List Move
    pub walk : Walk history e.at.region e.at.store
    pub counted : e.at.steps ≡ length history
    pub skips : (why : Reason) → count_of why e.at.store.reading.skips ≡ times why (reasons_on walk)
    pub within : e.at.steps ≤ limit
    pub limited : (e.stop ≡ MaxSteps) ↔ (e.at.steps ≡ limit)
    pub awaited : (e.stop ≡ NeedsInput) ↔ ((e.at.steps < limit) × (e.at.store.reading.awaiting ≡ true))
    pub completed : (e.stop ≡ Completed)
        ↔ ((e.at.steps < limit) × (e.at.store.reading.awaiting ≡ false) × NoMove edition p map e.at.region e.at.store.pointers)
    pub barred : (e.stop ≡ MaxSteps → ⊥) → (e.stop ≡ NeedsInput → ⊥) → (e.stop ≡ Completed → ⊥)
        → Barred e.at.region e.at.store e.stop
