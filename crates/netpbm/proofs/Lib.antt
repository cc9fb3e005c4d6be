-- Laws that belong to no one function.
pub mod Bytes
pub mod Gaps
pub mod Digits
pub mod Caps
pub mod Fields
pub mod Headers
pub mod ReadLaws
pub mod WriteLaws
pub mod Only
pub mod Shortest
pub mod RoundTrip
pub mod Scanned
pub mod Examples
