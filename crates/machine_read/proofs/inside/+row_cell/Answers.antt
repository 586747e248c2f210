use Rattle.machine_read.specs.Scopes.{setting_in}
use Rattle.machine_read.specs.declared.layer.Layer.TheVariants as layer
use Rattle.machine_steps.specs.Reads.{metas}
use Rattle.machine_read.proofs.Layers.{by_layer}
use Rattle.machine_read.proofs.inside.+row_cell.Goals as goal

pub returns-in-Unit : goal.returns-in-Unit
returns-in-Unit g t c =
    let setting = setting_in g.H.Host.says c.args.scope.now.setting in
    let earlier = metas (g.D.Declared.earlier c.args.scope.now.declared.now) in
    by_layer setting earlier c.args.row.now c.layer_of.result c.layer_of.ensures layer.Unit c.in-Unit.is
    c.unit_cell.result c.args.call c.unit_cell.ensures

pub returns-in-Leaf : goal.returns-in-Leaf
returns-in-Leaf g t c =
    let setting = setting_in g.H.Host.says c.args.scope.now.setting in
    let earlier = metas (g.D.Declared.earlier c.args.scope.now.declared.now) in
    by_layer setting earlier c.args.row.now c.layer_of.result c.layer_of.ensures (layer.Leaf c.in-Leaf.leaf) c.in-Leaf.is
    c.leaf_cell.result c.args.call c.leaf_cell.ensures

pub returns-in-Around : goal.returns-in-Around
returns-in-Around g t c =
    let setting = setting_in g.H.Host.says c.args.scope.now.setting in
    let earlier = metas (g.D.Declared.earlier c.args.scope.now.declared.now) in
    by_layer setting earlier c.args.row.now c.layer_of.result c.layer_of.ensures (layer.Around c.in-Around.wrapper c.in-Around.inner) c.in-Around.is
    c.wrapper_cell.result c.args.call c.wrapper_cell.ensures

pub returns-in-Declared : goal.returns-in-Declared
returns-in-Declared g t c =
    let setting = setting_in g.H.Host.says c.args.scope.now.setting in
    let earlier = metas (g.D.Declared.earlier c.args.scope.now.declared.now) in
    by_layer setting earlier c.args.row.now c.layer_of.result c.layer_of.ensures (layer.Declared c.in-Declared.number) c.in-Declared.is
    c.read.result c.args.call c.read.ensures

pub returns-in-Host : goal.returns-in-Host
returns-in-Host g t c =
    let setting = setting_in g.H.Host.says c.args.scope.now.setting in
    let earlier = metas (g.D.Declared.earlier c.args.scope.now.declared.now) in
    by_layer setting earlier c.args.row.now c.layer_of.result c.layer_of.ensures (layer.Host c.in-Host.ty) c.in-Host.is
    c.host_cell.result c.args.call c.host_cell.ensures
