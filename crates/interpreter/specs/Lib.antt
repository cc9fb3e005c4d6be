-- The run: the lent table and refusal 10, one step, steps until a stop, the exits taken, what a call answers, and with the exits recorded, where a
-- run may be taken up again, how the code holds a step, and what observes a run.
pub mod Table
pub mod Forever
pub mod Run
pub mod History
pub mod Outcome
pub mod Recorded
pub mod Resume
pub mod Moving
pub mod Observed
