use Rattle.std.proofs.Common.{◌≡◌, ◌++◌, drop, map}
use Rattle.node_core.specs.declared.derive.DeriveInput.{DeriveInput}
use Rattle.law_spans.specs.Erased.{erased_type}
use Rattle.machine_host.specs.HostSays.{erased_decls}
use Rattle.machine_host.specs.Made.{named_type}
use Rattle.machine_host.proofs.host.Host.defaulted.Given as goal

abbrev pub invariant-loop-decl : goal.invariant-loop-decl
invariant-loop-decl g l =
    let flag = λ (decl : DeriveInput). (g.Self.Host.says l.self).has_default (erased_decls l.decls) (erased_type (named_type decl.ident.text)) in
    l.flags ++ map flag (drop l.decl-index l.decls) ≡ map flag l.decls
