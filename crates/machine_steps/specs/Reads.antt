-- What declarations read.
use Rattle.std.specs.Prelude.{ℕ, codes}
use Rattle.error_fault.specs.Outcome.{Outcome, refused}
use Rattle.error_fault.specs.declared.kind.FaultKind.TheVariants.{Custom}
use Rattle.meta_nested.specs.Cells.{Cells, no_cells}
use Rattle.machine_value.specs.declared.value.Value.{Value as Datum}
use Rattle.machine_steps.specs.Elements.{Element}

-- what one declaration reads: a meta by its cells under `FromMeta`, an element under the derive of its kind
pub record Reads : Type 0 where
  pub cells : Cells Datum
  pub outer : Element → Outcome Datum

-- what the declarations of lower numbers read
abbrev pub Before : Type 0
Before = ℕ → Reads

-- what they read of metas, on which alone it rests how items are read
abbrev pub Earlier : Type 0
Earlier = ℕ → Cells Datum

abbrev pub metas : Before → Earlier
metas before number = (before number).cells

-- no declaration of this number is read from the element, or from the list
abbrev pub unread : Outcome Datum
unread = refused (Custom (codes "no declaration"))

-- what a number reads that has no declaration
abbrev pub no_reads : Reads
no_reads = record { cells = no_cells; outer = λ element. unread }
