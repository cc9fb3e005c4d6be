-- What a program prints that is given a job, and what the run program shows of a run.
pub mod Program
pub mod Answer
pub mod Printing
