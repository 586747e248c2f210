use Rattle.std.proofs.Common.{◌∙◌, sym, inl, inr}
use Rattle.run_accepted.specs.Accepted.{IsSound}
use Rattle.run_accepted.proofs.RefusalLemmas.{unfit_refuses}
use Rattle.run_accepted.proofs.acceptance.program_of.Goals as goal

pub returns-in-Some-2 : goal.returns-in-Some-2
returns-in-Some-2 g c =
    inr
    (inl
    (record {
      single = sym c.in_ok-span.ensures ∙ c.in_default.is;
      options = c.in_ok-program.ensures.0;
      first = sym c.in_ok-form.ensures ∙ c.in-Some-2.is;
    }))

pub returns-in-Some-3 : goal.returns-in-Some-3
returns-in-Some-3 g c =
    let host = g.H.Host.says c.args.host.now in
    let rules = c.args.table.now in
    let decls = c.args.decls.now in
    let program = c.in_ok-program.program in
    let sound : IsSound rules decls program = record {
      single = sym c.in_ok-span.ensures ∙ c.in_default.is;
      options = c.in_ok-program.ensures.0;
      supported = sym c.in_ok-form.ensures ∙ c.in_default-2.is;
      compiled = c.in_ok-program.ensures.1;
    } in
    rw (c.from.ensures) (unfit_refuses host rules decls program c.in-Some-3.unfit sound (sym c.in_ok-unfit.ensures ∙ c.in-Some-3.is))
