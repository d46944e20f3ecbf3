-- The specs of fusing.
pub mod Form
pub mod Join
pub mod Finding
