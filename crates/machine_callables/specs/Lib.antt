pub mod Callables
pub use Rattle.machine_forms.specs.Asks
pub use Rattle.machine_forms.specs.HostSays
pub use Rattle.machine_forms.specs.Reading
pub use Rattle.machine_forms.specs.Setting
pub use Rattle.machine_forms.specs.Units
pub use Rattle.machine_forms.specs.Use
