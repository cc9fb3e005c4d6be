-- Where a run stands, where it starts (rule 8.1), and where it ends; nothing here speaks of a table. Assumes nothing.
use Rattle.std.specs.Prelude.{false, [], ℕ}
use Rattle.flow.specs.Pointer.{start_state}
use Rattle.machine.specs.declared.Stop.{Stop}
use Rattle.machine.specs.Counts.{no_skips}
use Rattle.machine.specs.Machine.{Store}

-- the region, the steps made, and what the instructions work on
pub record Machine : Type 0 where
  pub region : ℕ
  pub steps : ℕ
  pub store : Store

-- the start: region 0, and nothing done yet (rule 8.1)
abbrev pub start : Machine
start = record {
  region = 0;
  steps = 0;
  store = record { pointers = start_state; stack = []; outs = []; reading = record { used = 0; awaiting = false; skips = no_skips } };
}

-- where a run ends: why, and where it stands, which is as before a step that isn't taken
pub record End : Type 0 where
  pub stop : Stop
  pub at : Machine
