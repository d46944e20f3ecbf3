-- The laws of behaviour's definitions.
pub mod BankLaws
pub mod MapLaws
pub mod Settled
pub mod LoopTest
pub mod Runs
