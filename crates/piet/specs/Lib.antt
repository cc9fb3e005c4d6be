-- The public face: demand 3, the call from pixels to a run's result, and the public page's tables and commands.
pub mod Moves
pub mod Follows
pub mod Decoded
pub mod RunPicture
pub mod Drawn
pub mod Page
