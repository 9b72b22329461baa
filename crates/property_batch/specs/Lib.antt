pub mod PropertyVerdicts
