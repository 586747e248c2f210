-- What is chosen of an item.
use Rattle.std.proofs.Common.{◌≡◌, ◌∙◌, List, Result, Ok, Err, ap, sym}
use denote.Ref.{Bor}
use Rattle.codegen_program.specs.declared.stmt.Stmt.{Stmt}
use Rattle.machine_read.specs.NestedMeta.{NestedMeta}
use Rattle.machine_read.specs.Progress.{Aside, Progress}
use Rattle.machine_read.specs.State.{State}
use Rattle.machine_state.specs.Chosen.{Inside, chosen_by, chosen_of}
use Rattle.machine_state.specs.Seen.{progress_of}
use Rattle.machine_state.specs.declared.progress.Progress.{Progress as Come}
use Rattle.machine_state.specs.declared.chosen.Chosen.{Chosen}

module _ (inside : Inside) (state : State) (aside : Aside) (it : Chosen) (parts : Result Come (Bor (List Stmt) × List NestedMeta)) (progress : Progress)
    (is : it ≡ chosen_of parts) (known : chosen_by inside state aside it ≡ progress) where
  -- what is read or refused is what the item comes to
  pub over_is : (come : Come) → parts ≡ Ok come → progress_of state aside come ≡ progress
  over_is come ok = ap (chosen_by inside state aside) (sym (is ∙ ap chosen_of ok)) ∙ known

  -- and so is what statements make of items
  pub runs_is : (stmts : Bor (List Stmt)) (items : List NestedMeta) → parts ≡ Err (stmts, items) → inside stmts.now items ≡ progress
  runs_is stmts items err = ap (chosen_by inside state aside) (sym (is ∙ ap chosen_of err)) ∙ known
