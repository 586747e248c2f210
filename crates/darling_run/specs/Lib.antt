pub mod Ended
pub mod Input
pub mod Report
pub mod Status
pub mod Types
pub use Rattle.body_core.specs as ast
pub use Rattle.body_usage.specs as usage
pub use Rattle.codegen_core.specs as codegen
pub use Rattle.error_core.specs as error
pub use Rattle.options_core.specs as options
pub use Rattle.util_core.specs as util
pub use Rattle.run_source.specs.Accepted
pub use Rattle.run_source.specs.Claims
pub use Rattle.run_source.specs.HostSays
pub use Rattle.run_source.specs.Meaning
pub use Rattle.run_source.specs.Parts
pub use Rattle.run_source.specs.Places
pub use Rattle.run_source.specs.Receiver
pub use Rattle.run_source.specs.Source
pub use Rattle.run_source.specs.Table
pub use Rattle.run_source.specs.Unbuilt
pub use Rattle.run_source.specs.Values
pub use Rattle.run_text.specs.ValueText
