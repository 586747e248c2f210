use Rattle.std.proofs.Common.{◌≡◌, ◌++◌, List, OnOk, map, sym, subst}
use Rattle.std.specs.Borrow.{Bor}
use Rattle.tok_types.specs.declared.span.Span.{Span}
use Rattle.node_core.specs.declared.data.Field.{Field}
use Rattle.node_core.specs.declared.data.Variant.{Variant}
use Rattle.machine_forms.specs.Asks.{seen}
use Rattle.machine_forms.specs.declared.ask.Ask.{Ask as Held}
use Rattle.machine_callables.specs.Callables.{unoffered_ask, unoffered_call}
use Rattle.machine_callables.proofs.callables.Callables.push_ask_of.Goals as goal

pub returns-in-Called : goal.returns-in-Called
returns-in-Called g c =
    let fields : List Field = map (λ (field : Bor Field). field.now) c.args.asker.fields.now in
    let places : Held → List Span = λ ask.
    unoffered_ask (g.H.Host.says c.args.self.now.host.now) c.args.self.now.program.now c.args.asker.derive c.args.asker.ty.now c.args.asker.body.now fields (seen ask) in
    let Q : List Variant → Type 0 = λ variants.
    OnOk c.push_called.result
    (c.push_called.new.places
    ≡ c.args.places.now
    ++ unoffered_call (g.H.Host.says c.args.self.now.host.now) c.args.self.now.program.now c.args.asker.ty.now variants c.in-Called.callable.now c.in-Called.at) in
    let P : Held → Type 0 = λ ask. OnOk c.push_called.result (c.push_called.new.places ≡ c.args.places.now ++ places ask) in
    subst P (sym c.in-Called.is) (subst Q c.variants_of.ensures c.push_called.ensures)
