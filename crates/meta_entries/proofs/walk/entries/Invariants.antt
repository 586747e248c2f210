use Rattle.std.proofs.Common.{◌≡◌, ◌++◌, drop}
use Rattle.meta_entries.specs.Entries as spec
use Rattle.meta_entries.proofs.walk.entries.Given as goal

abbrev pub invariant-loop-attr : goal.invariant-loop-attr
invariant-loop-attr g l =
    let entries = spec.entries (g.K.AttributeKind.reads l.kind) (g.K.AttributeKind.list l.kind) in
    l.entries ++ entries (drop l.attr-index l.attrs) ≡ entries l.attrs
