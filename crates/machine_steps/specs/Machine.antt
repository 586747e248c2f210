-- The machine: the outcome of a unit of a program.
use Rattle.std.specs.Prelude.{ℕ, ◌==◌, Bool, ◌&&◌, List, [], ◌∷◌, Option, Some, None, option_and_then, option_map, if◌then◌else◌}
use Rattle.node_core.specs.declared.derive.DeriveInput.{DeriveInput}
use Rattle.error_fault.specs.Outcome.{Outcome, value_of}
use Rattle.meta_nested.specs.Cells.{Cells, no_cells}
use Rattle.machine_host.specs.Dispatch.{by_nested_meta}
use Rattle.machine_host.specs.HostSays.{HostSays}
use Rattle.machine_value.specs.declared.value.Value.{Value as Datum}
pub use Rattle.codegen_program.specs.Traits.{is_from_meta}
use Rattle.codegen_program.specs.Traits.{same_derive}
use Rattle.codegen_program.specs.declared.program.Derive.{Derive}
use Rattle.codegen_program.specs.declared.program.Derive.TheVariants as derives
use Rattle.codegen_program.specs.declared.program.Func.{Func}
use Rattle.codegen_program.specs.declared.program.FuncName.{FuncName}
use Rattle.codegen_program.specs.declared.program.FuncName.TheVariants as func
use Rattle.codegen_program.specs.declared.program.Program.{Program}
use Rattle.codegen_program.specs.declared.program.«Unit».{«Unit» as Unit'}
use Rattle.codegen_program.specs.declared.stmt.Stmt.{Stmt}
use Rattle.machine_steps.specs.Asked.{Asked, Word, Items, Characters, Expression, WholeMeta, NoItem, OnElement}
use Rattle.machine_steps.specs.Below.{below}
use Rattle.machine_steps.specs.Elements.{Element, OnNested, OnInput, derive_of}
use Rattle.machine_steps.specs.Progress.{outcome}
use Rattle.machine_steps.specs.Reads.{Before, Reads, no_reads, unread}
pub use Rattle.machine_steps.specs.Receivers.{unit_type}
use Rattle.machine_steps.specs.Receivers.{receiver_of}
use Rattle.machine_steps.specs.Setting.{Setting}
use Rattle.machine_steps.specs.Statements.{run}

-- ---- functions of a unit

-- the function's number among all
abbrev pub func_index : FuncName → ℕ
func_index func.FromMeta = 0
func_index func.FromWord = 1
func_index func.FromList = 2
func_index func.FromString = 3
func_index func.FromNone = 4
func_index func.FromExpr = 5
func_index func.FromAttributes = 6
func_index func.FromDeriveInput = 7
func_index func.FromField = 8
func_index func.FromTypeParam = 9
func_index func.FromVariant = 10

abbrev pub is_func : FuncName → FuncName → Bool
is_func one other = func_index one == func_index other

abbrev pub is_from_list : FuncName → Bool
is_from_list = is_func func.FromList

abbrev pub is_from_derive_input : FuncName → Bool
is_from_derive_input = is_func func.FromDeriveInput

-- the statements of the first function whose name is such
abbrev pub stmts_named : (FuncName → Bool) → List Func → Option (List Stmt)
stmts_named is_such [] = None
stmts_named is_such (func ∷ funcs) = if is_such func.name then Some func.stmts else stmts_named is_such funcs

-- the function by which elements of a kind are read
abbrev pub func_of : Derive → FuncName
func_of derives.FromMeta = func.FromMeta
func_of derives.FromAttributes = func.FromAttributes
func_of derives.FromDeriveInput = func.FromDeriveInput
func_of derives.FromField = func.FromField
func_of derives.FromTypeParam = func.FromTypeParam
func_of derives.FromVariant = func.FromVariant

-- what has no outcome reads as a declaration that is not there
abbrev pub or_unread : Option (Outcome Datum) → Outcome Datum
or_unread None = unread
or_unread (Some it) = it

module _ (setting : Setting) (before : Before) where
  -- the function of a unit whose name is such
  abbrev pub run_func : (FuncName → Bool) → Unit' → Asked → Option (Outcome Datum)
  run_func is_such unit asked =
      option_and_then (λ stmts. outcome (run setting before (receiver_of setting unit) stmts asked)) (stmts_named is_such unit.funcs)

  -- the same as a cell, which is there where the unit has the function
  abbrev pub func_cell : FuncName → Unit' → Asked → Option (Outcome Datum)
  func_cell name unit asked =
      option_map (λ stmts. or_unread (outcome (run setting before (receiver_of setting unit) stmts asked))) (stmts_named (is_func name) unit.funcs)

  -- what a unit reads under `FromMeta`: each function is the cell of its name
  abbrev pub unit_cells : Unit' → Cells Datum
  unit_cells unit =
      record no_cells {
        word = func_cell func.FromWord unit Word;
        list = λ items. func_cell func.FromList unit (Items items);
        string = λ text span. func_cell func.FromString unit (Characters text span);
        expr = λ it. func_cell func.FromExpr unit (Expression it);
        meta = λ it. func_cell func.FromMeta unit (WholeMeta it);
        none = option_and_then value_of (func_cell func.FromNone unit NoItem);
      }

  -- what a unit makes of an element of its derive's kind, where it makes something
  abbrev pub unit_element : Unit' → Element → Option (Outcome Datum)
  unit_element unit (OnNested item) = Some (by_nested_meta (unit_cells unit) item)
  unit_element unit element = run_func (is_func (func_of (derive_of element))) unit (OnElement element)

  abbrev pub cells_by : Option Unit' → Cells Datum
  cells_by None = no_cells
  cells_by (Some unit) = unit_cells unit

  abbrev pub outer_by : Option Unit' → Element → Outcome Datum
  outer_by None element = unread
  outer_by (Some unit) element = or_unread (unit_element unit element)

-- ---- programs

-- the first unit of the number under the derive
abbrev pub unit_under : List Unit' → ℕ → Derive → Option Unit'
unit_under [] number derive = None
unit_under (unit ∷ units) number derive =
    if (unit.decl == number) && same_derive unit.derive derive then Some unit else unit_under units number derive

-- what the declaration of a number reads, by its units
abbrev pub unit_reads : Setting → List Unit' → Before → ℕ → Reads
unit_reads setting units before number =
    record {
      cells = cells_by setting before (unit_under units number derives.FromMeta);
      outer = λ element. outer_by setting before (unit_under units number (derive_of element)) element;
    }

-- what the declarations below a number read, each by its units
abbrev pub earlier_units : Setting → List Unit' → ℕ → Before
earlier_units setting units = below no_reads (unit_reads setting units)

-- what a host and a program's declarations are to a run
abbrev pub setting_of : HostSays → Program → Setting
setting_of host program = record { host = host; decls = program.decls }

module _ (host : HostSays) (program : Program) where
  -- what the declarations below a unit's read
  abbrev pub units_before : Unit' → Before
  units_before unit = earlier_units (setting_of host program) program.units unit.decl

  -- an item of a text by a unit of the program; none where the machine has no outcome
  abbrev pub machine : Unit' → DeriveInput → Option (Outcome Datum)
  machine unit input = run_func (setting_of host program) (units_before unit) is_from_derive_input unit (OnElement (OnInput input))
