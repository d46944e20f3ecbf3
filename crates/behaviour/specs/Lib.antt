-- The specs of behaviour: definitions first, then theorems, then computed rows.
pub mod Banks
pub mod WireMap
pub mod Behaviour
pub mod LoopTest
pub mod Checking
pub mod Netlists
pub mod Cases
pub mod TickChecks
pub mod MapChecks
pub mod LoopChecks
pub mod YosysRows
