-- Attributes that are read, each by its kind.
use Rattle.std.proofs.Common.{◌≡◌, List, Result, Err, IfOk, refl, subst}
use Rattle.std.specs.declared.alloc.AllocError.{AllocError}
use Rattle.error_core.specs.Answers.{Answers, Fails}
use Rattle.error_core.specs.declared.fail.Fail.{Fail}
use Rattle.error_fault.specs.Outcome.{Outcome}
use Rattle.meta_entries.specs.Attributes.{attribute_items}
use Rattle.machine_read.specs.NestedMeta.{NestedMeta}
use Rattle.node_expr.specs.declared.path.Path.{Path}
use Rattle.node_core.specs.declared.attr.Meta.{Meta}
use Rattle.node_core.specs.declared.attr.Meta.TheVariants as meta
use Rattle.machine_read.specs.Progress.{Progress}
use Rattle.machine_read.specs.Attributes.{on_items, on_meta}
use Rattle.machine_state.specs.declared.progress.Progress.{Progress as Come}
use Rattle.machine_run.specs.declared.standing.Standing.{Standing}
use Rattle.machine_run.specs.Steps.{reached}

module _ (read : List NestedMeta → Progress → Progress) (before : Progress) (after : Standing) (it : Meta) (result : Result Come AllocError) where
  -- the run comes to what the attribute makes of it by its items
  abbrev ByItems : Meta → Type 0
  ByItems m = IfOk result (λ come. reached after come ≡ on_items read (attribute_items m) before)

  -- and to what it makes of it as an attribute
  abbrev ByMeta : Meta → Type 0
  ByMeta m = IfOk result (λ come. reached after come ≡ on_meta read m before)

  -- what has no items
  pub unlisted : (fail : Fail) (answer : Result (List NestedMeta) Fail) → answer ≡ Err fail → Answers (λ items. items) answer (attribute_items it)
      → ((read : List NestedMeta → Progress → Progress) (outcome : Outcome (List NestedMeta)) → Fails fail outcome → IfOk result (λ come. reached after come ≡ on_items read outcome before))
      → ByItems it
  unlisted fail answer err answers known =
      known read (attribute_items it) (subst (λ (a : Result (List NestedMeta) Fail). Answers (λ items. items) a (attribute_items it)) err answers)

-- an attribute that is no word
pub itemed : (read : List NestedMeta → Progress → Progress) (before : Progress) (after : Standing) (it : Meta) (result : Result Come AllocError)
    → ((word : Path) → it ≡ meta.Path word → ⊥) → ByItems read before after it result it → ByMeta read before after it result it
itemed read before after (meta.Path word) result other known = absurd (other word refl)
itemed read before after (meta.«List» list) result other known = known
itemed read before after (meta.NameValue pair) result other known = known
