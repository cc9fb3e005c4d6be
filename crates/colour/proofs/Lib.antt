-- Laws that belong to no one function.
pub mod LookupLaws
pub mod ClassifyLaws
pub mod StretchLaws
pub mod SettingLaws
pub mod DecodeLaws
pub mod LabelLaws
pub mod Only
pub mod Examples
pub mod FirstUnknown
