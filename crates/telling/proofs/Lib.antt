-- Laws that belong to no one function.
pub mod CountLaws
pub mod StackLaws
pub mod CharLaws
pub mod OutputLaws
pub mod PartLaws
pub mod Examples
