-- What the statements of attributes that are kept do, from their steps.
use Rattle.std.proofs.Common.{◌≡◌, Option, ap, sym, ◌∙◌}
use Rattle.tok_types.specs.declared.ident.Ident.{Ident}
use Rattle.codegen_program.specs.declared.callable.Callable.{Callable}
use Rattle.codegen_program.specs.declared.stmt.Stmt.{Stmt, roll-Stmt, fold-roll-Stmt}
use Rattle.codegen_program.specs.declared.stmt.Stmt.TheOpen.{Stmt-F}
use Rattle.codegen_program.specs.declared.stmt.Stmt.TheVariants as stmt
use Rattle.machine_read.specs.Asked.{Asked}
use Rattle.machine_read.specs.Progress.{Progress}
use Rattle.machine_read.specs.Reads.{Before}
use Rattle.machine_read.specs.Receivers.{Receiver}
use Rattle.machine_read.specs.Setting.{Setting}
use Rattle.machine_read.specs.Statements.{Doing, does, stmt_step}

module _ (setting : Setting) (before : Before) (receiver : Receiver) where
  abbrev Steps : Stmt → Doing → Type 0
  Steps it step = (asked : Asked) (progress : Progress) → does setting before receiver it asked progress ≡ step asked progress

  stepped : (it : Stmt) (layer : Stmt-F Stmt) (step : Doing) → roll-Stmt layer ≡ it → does setting before receiver (roll-Stmt layer) ≡ step → Steps it step
  stepped it layer step rolled folded asked progress =
      ap (λ s. does setting before receiver s asked progress) (sym rolled) ∙ ap (λ (f : Doing). f asked progress) folded

  pub declare_forward : (ident : Ident) → Steps (stmt.DeclareForward ident) (stmt_step setting before receiver (Stmt-F.DeclareForward ident))
  declare_forward ident =
      stepped (stmt.DeclareForward ident) (Stmt-F.DeclareForward ident) (stmt_step setting before receiver (Stmt-F.DeclareForward ident))
      (stmt.rolls-DeclareForward ident) (fold-roll-Stmt Doing (stmt_step setting before receiver) (Stmt-F.DeclareForward ident))

  pub forward_done : (ident : Ident) (with : Option Callable)
      → Steps (stmt.ForwardDone ident with) (stmt_step setting before receiver (Stmt-F.ForwardDone ident with))
  forward_done ident with =
      stepped (stmt.ForwardDone ident with) (Stmt-F.ForwardDone ident with) (stmt_step setting before receiver (Stmt-F.ForwardDone ident with))
      (stmt.rolls-ForwardDone ident with) (fold-roll-Stmt Doing (stmt_step setting before receiver) (Stmt-F.ForwardDone ident with))
