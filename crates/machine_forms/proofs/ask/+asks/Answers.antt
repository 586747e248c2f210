use Rattle.std.proofs.Common.{◌≡◌, ◌∙◌, List, [], ◌∷◌, ◌++◌, OnOk, map, ap, subst, sym}
use Rattle.std.proofs.lemmas.List.{map-append}
use Rattle.std.proofs.lemmas.Result.{on_ok_weaker}
use Rattle.machine_forms.specs.Asks.{Ask, Called, asks_in, asks_of_arms, seen}
use Rattle.machine_forms.proofs.Variants.{call_asks, variants_ask}
use Rattle.machine_forms.proofs.ask.+asks.Goals as goal

pub push_stmt-returns-in-Variants : goal.push_stmt-returns-in-Variants
push_stmt-returns-in-Variants t c =
    let P : List Ask → Type 0 = λ asks. OnOk c.push_variants.result (map seen c.push_variants.new.asks ≡ map seen c.args.asks.now ++ asks) in
    subst P (ap asks_of_arms c.as_slice-in-Variants.ensures ∙ sym (variants_ask c.in-Variants.arms c.in-Variants.names) ∙ ap asks_in (sym c.in-Variants.is)) c.push_variants.ensures

pub push_stmt-returns-in-Call : goal.push_stmt-returns-in-Call
push_stmt-returns-in-Call t c =
    let old = c.args.asks.now in
    let asks : Called c.in-Call.callable c.in-Call.at ∷ [] ≡ asks_in c.args.stmt.now = sym (call_asks c.in-Call.callable c.in-Call.at) ∙ ap asks_in (sym c.in-Call.is) in
    on_ok_weaker c.push-in-Call.result (λ pushed. ap (map seen) pushed ∙ map-append seen old _ ∙ ap (λ more. map seen old ++ more) asks) c.push-in-Call.ensures.ok
