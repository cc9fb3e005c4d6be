use mathlib.Core.Path.{◌≡◌, ◌∙◌}
use native.Mathlib.Omega.{arith}
use Rattle.cfg.proofs.Trying.{several_none, several_more}
use Rattle.cfg.proofs.search.try_states.Goals as goal

pub loop-state-init : goal.loop-state-init
loop-state-init c =
    let the-args = c.args in
    let the-pre = c.requires in
    several_none the-args.r the-args.exits.now the-pre.queue

pub try_state-end-requires : goal.try_state-end-requires
try_state-end-requires c =
    let T = c.requires.taken in
    let W = c.loop-state.invariant in
    let h = c.loop-state-test.true in
    record {
      grounds = T.grounds;
      found = T.found;
      queue = W.onward.queue;
      leaves_by = rw (W.same c.args.r c.loop-state.state h (λ e. omega arith)) (T.leaving c.loop-state.state h);
      work_len = W.onward.work_length ∙ T.work_long;
      r_in_bounds = omega (arith, W.exits_length, T.exits_long);
      r_bound = T.few;
      state_bound = h;
    }

pub loop-state-preserved : goal.loop-state-preserved
loop-state-preserved c =
    let the-loop-test = c.loop-state-test in
    let the-loop = c.loop-state in
    let the-try-state = c.try_state-end in
    let the-pre = c.requires in
    several_more the-loop.invariant the-try-state.ensures the-loop-test.true (omega (arith, the-loop.invariant.exits_length, the-pre.taken.exits_long, the-loop-test.true))

pub shape_of-rows : goal.shape_of-rows
shape_of-rows c = c.loop-state.invariant.onward.rows_length

pub shape_of-exits : goal.shape_of-exits
shape_of-exits c = c.loop-state.invariant.exits_length

pub shape_of-work : goal.shape_of-work
shape_of-work c = c.loop-state.invariant.onward.work_length

pub returns : goal.returns
returns c =
    let l = c.loop-state in
    let all : l.state ≡ 8 = omega (arith, l.auto.state-end, c.loop-state-test.false) in
    rw all at l.invariant
