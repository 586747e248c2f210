-- What a unit asks of types and of the host, in the order in which its statements print.
use Rattle.std.specs.Prelude.{ℕ, Bool, true, false, ◌==◌, ◌&&◌, List, [], ◌∷◌, ◌++◌, map, Option, Some, None, is_none, if◌then◌else◌}
use Rattle.std.specs.List.{list_any}
use Rattle.tok_types.specs.declared.ident.Ident.{Ident}
use Rattle.codegen_program.specs.declared.arm.Arm.{Arm}
use Rattle.codegen_program.specs.declared.arm.PostfixTransform.{PostfixTransform}
use Rattle.codegen_program.specs.declared.callable.Callable.{Callable}
use Rattle.codegen_program.specs.declared.forwarded.Forwarded.{Forwarded}
use Rattle.codegen_program.specs.declared.init.DefaultSource.{DefaultSource}
use Rattle.codegen_program.specs.declared.init.DefaultSource.TheVariants as sources
use Rattle.codegen_program.specs.declared.init.Fallback.{Fallback}
use Rattle.codegen_program.specs.declared.init.Fallback.TheVariants as fallbacks
use Rattle.codegen_program.specs.declared.init.Init.{Init}
use Rattle.codegen_program.specs.declared.program.Func.{Func}
use Rattle.codegen_program.specs.declared.program.FuncName.{FuncName}
use Rattle.codegen_program.specs.declared.program.«Unit».{«Unit» as Unit'}
use Rattle.codegen_program.specs.declared.stmt.Stmt.{Stmt, fold-Stmt}
use Rattle.codegen_program.specs.declared.stmt.Stmt.TheOpen.{Stmt-F}
use Rattle.codegen_program.specs.declared.variant.VariantArm.{VariantArm}
use Rattle.codegen_program.specs.declared.variant.VariantForm.{VariantForm}
use Rattle.codegen_program.specs.declared.variant.VariantForm.TheVariants as form
use Rattle.machine_forms.specs.declared.ask.Ask.{Ask as Held}
use Rattle.machine_forms.specs.declared.ask.Ask.TheVariants as held
use Rattle.machine_forms.specs.declared.ask.Asked.{Asked}
use Rattle.machine_forms.specs.declared.ask.Asked.TheVariants as asked

-- how the fields of a variant are read: to slots, the one as the variant is, or none is
pub data Way : Type 0 where
  ToSlots : Way
  AsOne : Way
  NoField : Way

abbrev pub way_of : {S : Type 0} → VariantForm S → Way
way_of form.«Unit» = NoField
way_of (form.Transparent member type) = AsOne
way_of (form.Struct stmts) = ToSlots

-- a variant that is read, and how
pub record VariantRead : Type 0 where
  pub ident : Ident
  pub way : Way

abbrev pub variant_read : {S : Type 0} → VariantArm S → VariantRead
variant_read arm = record { ident = arm.ident; way = way_of arm.form }

-- a slot takes a list of values; items are read to a slot; the items that were kept are; the default of the whole is
-- made; a member takes a part of the element; a member is filled; what was built is handed on; the receiver is read as its
-- one field is; a variant is read; a callable answers in the place of a function
pub data Ask : Type 0 where
  Many : ℕ → Ask
  Read : Arm → Ask
  Flatten : ℕ → Ask
  Whole : DefaultSource → Ask
  Part : Forwarded → Ask
  Member : Init → Ask
  Transform : PostfixTransform → Ask
  Alone : Ask
  Variant : VariantRead → Ask
  Called : Callable → FuncName → Ask

-- an ask as it is seen behind references
abbrev pub seen : Held → Ask
seen (held.Many slot) = Many slot
seen (held.Read arm) = Read arm.now
seen (held.Flatten slot) = Flatten slot
seen (held.Whole source) = Whole source.now
seen (held.Part it) = Part it.now
seen (held.Member init) = Member init.now
seen (held.Transform post) = Transform post.now
seen held.Alone = Alone
seen (held.Variant arm) = Variant (variant_read arm.now)
seen (held.Called callable at) = Called callable.now at

-- one list after another
abbrev pub joined : List (List Ask) → List Ask
joined [] = []
joined (asks ∷ more) = asks ++ joined more

-- what the statements of a variant ask, from what each asks
abbrev pub form_asks : VariantForm (List Ask) → List Ask
form_asks form.«Unit» = []
form_asks (form.Transparent member type) = []
form_asks (form.Struct asks) = joined asks

abbrev pub arm_asks : VariantArm (List Ask) → List Ask
arm_asks arm = Variant (variant_read arm) ∷ form_asks arm.form

-- What a statement asks, from what the statements in it ask. What reads a part of the element asks nothing: what is built of
-- it asks the part, with its callable and its type.
abbrev pub stmt_asks : Stmt-F (List Ask) → List Ask
stmt_asks (Stmt-F.DeclareMany slot ident ty) = Many slot ∷ []
stmt_asks (Stmt-F.ForAttributes names items forward) = joined items
stmt_asks (Stmt-F.ForItems arms rest) = map Read arms
stmt_asks (Stmt-F.ReadFlatten slot names) = Flatten slot ∷ []
stmt_asks (Stmt-F.SetDefault source) = Whole source ∷ []
stmt_asks (Stmt-F.Build name variant forwarded inits) = map Part forwarded ++ map Member inits
stmt_asks (Stmt-F.Transform post) = Transform post ∷ []
stmt_asks (Stmt-F.Delegate name member type) = Alone ∷ []
stmt_asks (Stmt-F.Variants arms names) = joined (map arm_asks arms)
stmt_asks (Stmt-F.Call callable at) = Called callable at ∷ []
stmt_asks _ = []

abbrev pub asks_in : Stmt → List Ask
asks_in = fold-Stmt (List Ask) stmt_asks

-- what these statements ask
abbrev pub all_asks : List Stmt → List Ask
all_asks stmts = joined (map asks_in stmts)

-- what these forms of variants ask, and their arms
abbrev pub asks_of_form : VariantForm Stmt → List Ask
asks_of_form form.«Unit» = []
asks_of_form (form.Transparent member type) = []
asks_of_form (form.Struct stmts) = all_asks stmts

abbrev pub asks_of_arm : VariantArm Stmt → List Ask
asks_of_arm arm = Variant (variant_read arm) ∷ asks_of_form arm.form

abbrev pub asks_of_arms : List (VariantArm Stmt) → List Ask
asks_of_arms arms = joined (map asks_of_arm arms)

abbrev pub func_asks : Func → List Ask
func_asks func = all_asks func.stmts

-- what a unit asks
abbrev pub unit_asks : Unit' → List Ask
unit_asks unit = joined (map func_asks unit.funcs)

-- ---- what is asked of a slot

abbrev pub is_trait : Option Fallback → Bool
is_trait (Some fallbacks.Trait) = true
is_trait _ = false

-- the slot of which this is asked. The one field as which a receiver is read counts as the first slot
abbrev pub asked_slot : Asked → Ask → Option ℕ
asked_slot asked.Many (Many slot) = Some slot
asked_slot asked.Read (Read arm) = if is_none arm.with && is_none arm.post then Some arm.slot else None
asked_slot asked.Read (Flatten slot) = Some slot
asked_slot asked.Read Alone = Some 0
asked_slot asked.Default (Member init) = if is_trait init.fallback then Some init.slot else None
asked_slot _ _ = None

abbrev pub is_slot : ℕ → Option ℕ → Bool
is_slot slot None = false
is_slot slot (Some number) = number == slot

-- this is asked of the slot
abbrev pub is_asked : Asked → List Ask → ℕ → Bool
is_asked what asks slot = list_any (λ ask. is_slot slot (asked_slot what ask)) asks

-- what is asked of slots: that they take a list of values, that items are read at their own types, that the defaults of
-- their types may stand for their values
pub record SlotAsks : Type 0 where
  pub many : ℕ → Bool
  pub read : ℕ → Bool
  pub default : ℕ → Bool

abbrev pub slot_asks : List Ask → SlotAsks
slot_asks asks = record { many = is_asked asked.Many asks; read = is_asked asked.Read asks; default = is_asked asked.Default asks }

-- ---- what is asked of the receiver

-- the default of its type
abbrev pub is_whole_default : Ask → Bool
is_whole_default (Whole sources.Trait) = true
is_whole_default _ = false

-- what an identifier makes
abbrev pub is_from_ident : Ask → Bool
is_from_ident (Whole sources.FromIdent) = true
is_from_ident _ = false
