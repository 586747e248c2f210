-- What an item comes to that is to be a variant of an enum.
use Rattle.std.specs.Prelude.{◌≡◌, List, Result, Ok, Err, IfOk}
use denote.Ref.{Bor}
use Rattle.std.specs.declared.alloc.AllocError.{AllocError}
use Rattle.codegen_program.specs.declared.stmt.Stmt.{Stmt}
use Rattle.machine_read.specs.NestedMeta.{NestedMeta}
use Rattle.machine_read.specs.Progress.{Aside, Progress}
use Rattle.machine_read.specs.State.{State}
use Rattle.machine_state.specs.Seen.{progress_of}
use Rattle.machine_state.specs.declared.progress.Progress.{Progress as Come}
use Rattle.machine_state.specs.declared.chosen.Chosen.{Chosen}
use Rattle.machine_state.specs.declared.chosen.Chosen.TheVariants as chosen

-- what statements make of the items of a list
abbrev pub Inside : Type 0
Inside = List Stmt → List NestedMeta → Progress

-- what gives how far the run has come, or the statements and the items
abbrev pub chosen_of : Result Come (Bor (List Stmt) × List NestedMeta) → Chosen
chosen_of (Ok over) = chosen.Over over
chosen_of (Err runs) = chosen.Runs runs.0 runs.1

-- it is read or refused, whatever the state is and what stands beside it, or statements read it
abbrev pub chosen_by : Inside → State → Aside → Chosen → Progress
chosen_by inside state aside (chosen.Over over) = progress_of state aside over
chosen_by inside state aside (chosen.Runs stmts items) = inside stmts.now items

-- the item comes to this, whatever statements make of items
abbrev pub Chooses : (Inside → Progress) → Result Chosen AllocError → Type 0
Chooses by result = (inside : Inside) (state : State) (aside : Aside) → IfOk result (λ it. chosen_by inside state aside it ≡ by inside)
