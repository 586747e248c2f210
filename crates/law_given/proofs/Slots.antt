-- The slots that the statements of a unit declare.
use Rattle.std.proofs.Common.{◌≡◌, ◌∙◌, ◌+◌, ℕ, Bool, true, false, if◌then◌else◌, List, [], ◌∷◌, ◌++◌, map, Option, Some, None, refl, ap, ap₂, append_assoc}
use Rattle.std.specs.List.{AllByRecursion, cons_option, enumerate_from, filter_map}
use Rattle.std.specs.Option.{option_copied}
use Rattle.base_core.specs.declared.text.Text.{Text}
use Rattle.tok_types.specs.declared.ident.Ident.{Ident}
use Rattle.node_expr.specs.declared.ty.«Type».{«Type» as Type'}
use Rattle.node_make.specs.PathText.{path_text}
use Rattle.codegen_program.specs.declared.arm.PostfixTransform.{PostfixTransform}
use Rattle.codegen_program.specs.declared.forward.Forward.TheVariants as forward
use Rattle.codegen_program.specs.declared.init.DefaultSource.{DefaultSource}
use Rattle.codegen_program.specs.declared.shape.ShapeSpec.TheVariants as shapes
use Rattle.codegen_program.specs.declared.stmt.Stmt.{Stmt}
use Rattle.codegen_program.specs.declared.stmt.Stmt.TheVariants as stmt
use Rattle.codegen_core.specs.Compiled.{closing, default_of, fields_of, for_items, list_stmts, set_default, transform}
use Rattle.codegen_core.specs.Fields.{arms, at_slots, check, check_without, checks, declaration, declarations, flatten, flattens, inits, names, rest}
use Rattle.codegen_core.specs.declared.default_expression.DefaultExpression.{DefaultExpression}
use Rattle.codegen_core.specs.declared.field.Field.{Field}
use Rattle.codegen_core.specs.declared.trait_impl.TraitImpl.{TraitImpl}
use Rattle.codegen_outer.specs.Bare.{bare_stmts, over_read}
use Rattle.codegen_outer.specs.declared.from_derive_impl.FromDeriveInputImpl.{FromDeriveInputImpl}
use Rattle.law_options.proofs.Owns.{all-append}
use Rattle.law_given.specs.Owned.{Member, layer_slot, numbered, stmt_slot}

-- ---- statements that declare no slot

abbrev DeclaresNone : Stmt → Type 0
DeclaresNone it = stmt_slot it ≡ None

abbrev DeclareNone : List Stmt → Type 0
DeclareNone = AllByRecursion DeclaresNone

no_slots : (stmts : List Stmt) → DeclareNone stmts → filter_map stmt_slot stmts ≡ []
no_slots [] none = refl
no_slots (it ∷ stmts) none = ap₂ cons_option none.0 (no_slots stmts none.1)

module _ (give : ℕ → Field → List Stmt) (none : (number : ℕ) (field : Field) → DeclareNone (give number field)) where
  none_at_slots : (number : ℕ) (fields : List Field) → DeclareNone (at_slots give number fields)
  none_at_slots number [] = tt
  none_at_slots number (field ∷ fields) =
      all-append DeclaresNone (give number field) (at_slots give (number + 1) fields) (none number field) (none_at_slots (number + 1) fields)

no_errors : DeclaresNone stmt.DeclareErrors
no_errors = ap layer_slot stmt.outs-DeclareErrors

flatten_none : (siblings : List Text) (number : ℕ) (field : Field) → DeclareNone (flatten siblings number field)
flatten_none siblings number field = by_flat field.flatten
  where
    by_flat : (flat : Bool) → DeclareNone (if flat then stmt.ReadFlatten number siblings ∷ [] else [])
    by_flat true = (ap layer_slot (stmt.outs-ReadFlatten number siblings), tt)
    by_flat false = tt

check_none : (number : ℕ) (field : Field) → DeclareNone (check number field)
check_none number field = by_many field.multiple
  where
    without : (default : Option DefaultExpression) → DeclareNone (check_without default number field)
    without None = (ap layer_slot (stmt.outs-CheckMissing number field.ty.now field.name_in_attr.now), tt)
    without (Some it) = tt

    by_many : (many : Bool) → DeclareNone (if many then [] else check_without field.default_expression number field)
    by_many true = tt
    by_many false = without field.default_expression

default_none : (source : Option DefaultSource) → DeclareNone (set_default source)
default_none None = tt
default_none (Some it) = (ap layer_slot (stmt.outs-SetDefault it), tt)

transform_none : (post : Option PostfixTransform) → DeclareNone (transform post)
transform_none None = tt
transform_none (Some it) = (ap layer_slot (stmt.outs-Transform it), tt)

closing_none : (from_ident : Bool) (base : TraitImpl) → DeclareNone (closing from_ident base)
closing_none from_ident base =
    let fields = fields_of base in
    let default = set_default (default_of from_ident base) in
    let last = transform (option_copied base.post_transform) in
    let built : DeclareNone (stmt.Build base.ident.now None [] (inits fields) ∷ last) =
    (ap layer_slot (stmt.outs-Build base.ident.now None [] (inits fields)), transform_none (option_copied base.post_transform)) in
    let from_errors : DeclareNone (stmt.CheckErrors None ∷ (default ++ (stmt.Build base.ident.now None [] (inits fields) ∷ last))) =
    (ap layer_slot (stmt.outs-CheckErrors None), all-append DeclaresNone default _ (default_none (default_of from_ident base)) built) in
    all-append DeclaresNone (flattens fields) _ (none_at_slots (flatten (names fields)) (flatten_none (names fields)) 0 fields)
    (all-append DeclaresNone (checks fields) _ (none_at_slots check check_none 0 fields) from_errors)

items_none : (base : TraitImpl) → DeclaresNone (for_items base)
items_none base = ap layer_slot (stmt.outs-ForItems (arms (fields_of base)) (rest base.allow_unknown_fields (fields_of base)))

attributes_none : (paths : List Text) (base : TraitImpl) → DeclareNone (over_read paths base)
attributes_none [] base = tt
attributes_none (path ∷ paths) base = (ap layer_slot (stmt.outs-ForAttributes (path ∷ paths) (for_items base ∷ []) forward.Nothing), tt)

-- ---- the slots of fields

-- the identifier and the type that options leave of a field
abbrev pub left_member : Field → Member
left_member field = (field.ident.now, field.ty.now)

declared_slot : (number : ℕ) (ident : Ident) (type : Type') (many : Bool)
    → stmt_slot (if many then stmt.DeclareMany number ident type else stmt.DeclareOne number ident type) ≡ Some (number, (ident, type))
declared_slot number ident type true = ap layer_slot (stmt.outs-DeclareMany number ident type)
declared_slot number ident type false = ap layer_slot (stmt.outs-DeclareOne number ident type)

behind_slot : (flat : Bool) (more : List Stmt)
    → filter_map stmt_slot ((if flat then stmt.DeclareBuffer ∷ [] else []) ++ more) ≡ filter_map stmt_slot more
behind_slot true more = ap (λ slot. cons_option slot (filter_map stmt_slot more)) (ap layer_slot stmt.outs-DeclareBuffer)
behind_slot false more = refl

-- the declarations of fields, and statements behind them that declare none
declared : (number : ℕ) (fields : List Field) (more : List Stmt) → DeclareNone more
    → filter_map stmt_slot (at_slots declaration number fields ++ more) ≡ enumerate_from number (map left_member fields)
declared number [] more none = no_slots more none
declared number (field ∷ fields) more none =
    let later = at_slots declaration (number + 1) fields in
    let buffer : List Stmt = if field.flatten then stmt.DeclareBuffer ∷ [] else [] in
    ap₂ cons_option (declared_slot number field.ident.now field.ty.now field.multiple)
    (ap (filter_map stmt_slot) (append_assoc buffer later more) ∙ behind_slot field.flatten (later ++ more) ∙ declared (number + 1) fields more none)

-- `from_list` declares a slot for each field
pub list_slots : (base : TraitImpl) → filter_map stmt_slot (list_stmts base) ≡ numbered (map left_member (fields_of base))
list_slots base = declared 0 (fields_of base) _ (no_errors, (items_none base, closing_none false base))

-- so does `from_derive_input` that reads attributes alone
pub input_slots : (it : FromDeriveInputImpl) → filter_map stmt_slot (bare_stmts it) ≡ numbered (map left_member (fields_of it.outer.base))
input_slots it =
    let shape : DeclaresNone (stmt.CheckShape shapes.Any) = ap layer_slot (stmt.outs-CheckShape shapes.Any) in
    let body : DeclaresNone (stmt.ReadBody None None) = ap layer_slot (stmt.outs-ReadBody None None) in
    let names = map path_text it.outer.attr_names.now.0 in
    let over = over_read names it.outer.base in
    let later = over ++ (stmt.CheckShape shapes.Any ∷ (stmt.ReadBody None None ∷ closing it.outer.from_ident it.outer.base)) in
    ap (λ slot. cons_option slot (filter_map stmt_slot (declarations (fields_of it.outer.base) ++ later))) no_errors
    ∙ declared 0 (fields_of it.outer.base) later
    (all-append DeclaresNone over _ (attributes_none names it.outer.base)
    (shape, (body, closing_none it.outer.from_ident it.outer.base)))
