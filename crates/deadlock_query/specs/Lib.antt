pub mod StuckConfigurations
pub mod SystemSteps
