-- Laws that belong to no one function, and that the layers above cite.
pub mod Only
pub mod Clash
pub mod Refusals
pub mod RefusalLaws
pub mod EditionLaws
pub mod Tests
pub mod CountingLaws
pub mod Pigeonhole
pub mod Sides
pub mod Table
pub mod Over
pub mod LentLaws
pub mod Digits
pub mod Decimal
