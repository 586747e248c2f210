use Rattle.std.proofs.Common.{◌∙◌, ap, rules}
use Rattle.std.proofs.lemmas.List.Sorted.{answers_always}
use Rattle.machine_cells.specs.Texts.{by_text}
use Rattle.machine_leaf.proofs.Sorting.{before_ranks, by_text-sorted, is_before}
use Rattle.machine_leaf.proofs.order.in_order.Goals as goal

pub returns : goal.returns
returns g c =
    let sorted = c.in_ok-sort_by.ensures.sorted is_before before_ranks (answers_always _ _ _ (λ f a r next called. search rules)) in
    let stable = c.in_ok-sort_by.ensures.stable is_before before_ranks (answers_always _ _ _ (λ f a r next called. search rules)) in
    c.from_vec.ensures ∙ by_text-sorted _ _ sorted stable ∙ ap by_text c.into_vec-sorted.ensures
