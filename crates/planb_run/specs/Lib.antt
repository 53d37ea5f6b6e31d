pub mod Command
pub mod Words
pub mod Report
pub mod Causes
pub mod Headline
pub mod Stages
