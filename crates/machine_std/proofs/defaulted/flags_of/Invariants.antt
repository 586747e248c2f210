use Rattle.std.proofs.Common.{◌≡◌, length}
use Rattle.machine_std.specs.Defaulted.{AreFlags}
use Rattle.machine_std.specs.Defaults.{default_below}
use Rattle.machine_std.proofs.defaulted.flags_of.Given as goal

abbrev pub invariant-loop-decl : goal.invariant-loop-decl
invariant-loop-decl l = record {
  count : length l.flags ≡ l.decl-index;
  are : AreFlags l.flags (default_below l.decls l.decl-index);
}
