-- What every layer's contracts cite.
pub mod Refusal
pub mod Numbers
pub mod Lent
pub mod Counting
pub mod Text
pub mod Decides
pub mod Limits
pub mod Edition
