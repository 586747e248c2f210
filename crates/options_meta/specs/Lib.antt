pub mod MetaOptions
pub mod MetaLaws
pub mod MetaChecks
pub mod Stages
pub mod MetaViews
