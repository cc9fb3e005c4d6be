-- The pointer pair, the order of attempts, and the codel ahead.
pub mod Pointer
pub mod Neighbour
