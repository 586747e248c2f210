-- The types of hosts, and of what they are handed and give, for definitions over them.
pub use Rattle.node_expr.specs.declared.path.Path.{Path}
pub use Rattle.node_expr.specs.declared.ty.«Type».{«Type» as Ty}
pub use Rattle.node_core.specs.declared.derive.DeriveInput.{DeriveInput}
pub use Rattle.machine_value.specs.declared.value.Value.{Value}
pub use Rattle.machine_value.specs.declared.value.Value.TheVariants as value
pub use Rattle.machine_rows.specs.declared.leaf.Leaf.{Leaf}
pub use Rattle.machine_rows.specs.declared.leaf.Leaf.TheVariants as leaf
pub use Rattle.codegen_program.specs.declared.callable.Callable.{Callable}
pub use Rattle.machine_host.specs.declared.place.Place.{Place}
pub use Rattle.machine_host.specs.declared.place.Use.{Use}
pub use Rattle.machine_host.specs.declared.place.Use.TheVariants as use_at
pub use Rattle.machine_host.specs.declared.said.Said.{Said}
pub use Rattle.machine_host.specs.declared.said.Said.TheVariants as said
