-- The specs of forms.
pub mod Groups
pub mod Acts
pub mod Lowered
pub mod Typed
pub mod Suits
pub mod Dependent
