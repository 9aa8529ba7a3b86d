pub mod Runs
pub mod AddTheorem
pub mod CutTheorem
pub mod EdgeTheorem
pub mod GlueTheorem
pub mod SpaceTheorem
