-- The specs of model_check.
pub mod Works
