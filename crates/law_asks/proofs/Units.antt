-- What the unit of a declaration asks.
use Rattle.std.proofs.Common.{◌≡◌, ◌∙◌, ℕ, ◌+◌, Bool, true, false, List, [], ◌∷◌, ◌++◌, map, zero, Option, Some, None, Contains, if◌then◌else◌, refl, ap, ap₂, sym, subst, suc, arith, append-nil}
use Rattle.std.proofs.lemmas.List.Elements.{Contains-append_left, Contains-append_right}
use Rattle.std.specs.Option.{option_copied}
use Rattle.base_core.specs.declared.text.Text.{Text}
use Rattle.node_make.specs.PathText.{path_text}
use Rattle.codegen_program.specs.declared.arm.Arm.{Arm}
use Rattle.codegen_program.specs.declared.arm.PostfixTransform.{PostfixTransform}
use Rattle.codegen_program.specs.declared.forward.Forward.TheVariants as forward
use Rattle.codegen_program.specs.declared.init.DefaultSource.{DefaultSource}
use Rattle.codegen_program.specs.declared.init.Init.{Init}
use Rattle.codegen_program.specs.declared.shape.ShapeSpec.TheVariants as shapes
use Rattle.codegen_program.specs.declared.stmt.Stmt.{Stmt}
use Rattle.codegen_program.specs.declared.stmt.Stmt.TheVariants as stmt
use Rattle.codegen_core.specs.Compiled.{closing, compiled_list, default_of, fields_of, for_items, list_stmts, set_default, transform}
use Rattle.codegen_core.specs.Fields.{at_slots, check, check_without, checks, declarations, flattens, inits}
use Rattle.codegen_core.specs.declared.default_expression.DefaultExpression.{DefaultExpression}
use Rattle.codegen_core.specs.declared.field.Field.{Field}
use Rattle.codegen_core.specs.declared.from_meta_impl.FromMetaImpl.{FromMetaImpl}
use Rattle.codegen_core.specs.declared.trait_impl.TraitImpl.{TraitImpl}
use Rattle.codegen_outer.specs.Bare.{bare_stmts, over_read}
use Rattle.codegen_outer.specs.BareLaws.{bare_unit}
use Rattle.codegen_outer.specs.CompiledOuter.{compiled_derive_input}
use Rattle.codegen_outer.specs.declared.from_derive_impl.FromDeriveInputImpl.{FromDeriveInputImpl}
use Rattle.machine_forms.specs.Asks.{Ask, Read, Whole, Member, Transform, all_asks, asks_in, unit_asks}
use Rattle.law_fits.specs.Decl.{Decl}
use Rattle.law_fits.specs.EntrySteps.{arms, rest}
use Rattle.law_machine.specs.Compiles.{IsDecl, IsInputDecl}
use Rattle.law_machine.proofs.Arms.{for_items_is}
use Rattle.law_fits.specs.Claims.{has_names}
use Rattle.law_asks.proofs.Stmts as asked
use Rattle.law_asks.proofs.Stmts.{all_asks-append}

-- the default of the whole
abbrev pub whole_asks : Option DefaultSource → List Ask
whole_asks None = []
whole_asks (Some it) = Whole it ∷ []

-- the transform of what was built
abbrev pub post_asks : Option PostfixTransform → List Ask
post_asks None = []
post_asks (Some it) = Transform it ∷ []

-- the arms of items, where items are read
abbrev pub read_asks : Bool → Decl → List Ask
read_asks reads decl = if reads then map Read (arms decl.body) else []

-- what follows once the items are read
abbrev pub closing_asks : TraitImpl → List Ask
closing_asks base =
    all_asks (flattens (fields_of base)) ++ (whole_asks (default_of false base) ++ (map Member (inits (fields_of base)) ++ post_asks (option_copied base.post_transform)))

-- what a unit asks, where options leave this of the declaration
abbrev pub base_asks : Bool → Decl → TraitImpl → List Ask
base_asks reads decl base = all_asks (declarations (fields_of base)) ++ (read_asks reads decl ++ closing_asks base)

-- ---- its statements, one after another

check_asks : (many : Bool) (it : Option DefaultExpression) (slot : ℕ) (field : Field) → all_asks (if many then [] else check_without it slot field) ≡ []
check_asks true it slot field = refl
check_asks false None slot field = ap (λ asks. asks ++ []) (asked.check_missing slot field.ty.now field.name_in_attr.now)
check_asks false (Some it) slot field = refl

checks_ask : (slot : ℕ) (fields : List Field) → all_asks (at_slots check slot fields) ≡ []
checks_ask slot [] = refl
checks_ask slot (field ∷ fields) =
    all_asks-append (check slot field) (at_slots check (slot + 1) fields)
    ∙ ap₂ (λ asks more. asks ++ more) (check_asks field.multiple field.default_expression slot field) (checks_ask (slot + 1) fields)

default_asks : (source : Option DefaultSource) → all_asks (set_default source) ≡ whole_asks source
default_asks None = refl
default_asks (Some it) = ap (λ asks. asks ++ []) (asked.set_default it)

transform_asks : (post : Option PostfixTransform) → all_asks (transform post) ≡ post_asks post
transform_asks None = refl
transform_asks (Some it) = ap (λ asks. asks ++ []) (asked.transform it)

closing_is : (base : TraitImpl) → all_asks (closing false base) ≡ closing_asks base
closing_is base =
    let fields = fields_of base in
    let post = option_copied base.post_transform in
    let building : List Stmt = stmt.Build base.ident.now None [] (inits fields) ∷ transform post in
    let making : List Stmt = set_default (default_of false base) ++ building in
    let checking : List Stmt = stmt.CheckErrors None ∷ making in
    all_asks-append (flattens fields) (checks fields ++ checking)
    ∙ ap (λ asks. all_asks (flattens fields) ++ asks)
    (all_asks-append (checks fields) checking
    ∙ ap₂ (λ asks more. asks ++ (more ++ all_asks making)) (checks_ask 0 fields) (asked.check_errors None)
    ∙ all_asks-append (set_default (default_of false base)) building
    ∙ ap₂ (λ asks more. asks ++ more) (default_asks (default_of false base))
    (ap₂ (λ asks more. asks ++ more) (asked.build base.ident.now (inits fields)) (transform_asks post)))

module _ (decl : Decl) (base : TraitImpl) (is : IsDecl base decl) where
  items_ask : asks_in (for_items base) ≡ map Read (arms decl.body)
  items_ask = ap asks_in (for_items_is base decl is) ∙ asked.for_items (arms decl.body) (rest decl.body)

  list_asks : all_asks (list_stmts base) ≡ base_asks true decl base
  list_asks =
      all_asks-append (declarations (fields_of base)) (stmt.DeclareErrors ∷ (for_items base ∷ closing false base))
      ∙ ap (λ asks. all_asks (declarations (fields_of base)) ++ (asks ++ (asks_in (for_items base) ++ all_asks (closing false base)))) asked.declare_errors
      ∙ ap₂ (λ asks more. all_asks (declarations (fields_of base)) ++ (asks ++ more)) items_ask (closing_is base)

  over_asks : (names : List Text) → all_asks (over_read names base) ≡ read_asks (has_names names) decl
  over_asks [] = refl
  over_asks (name ∷ names) =
      ap (λ asks. asks ++ []) (asked.for_attributes (name ∷ names) (for_items base ∷ []) forward.Nothing)
      ∙ append-nil (asks_in (for_items base) ++ [])
      ∙ append-nil (asks_in (for_items base))
      ∙ items_ask

input_asks : (decl : Decl) (left : FromDeriveInputImpl) → IsInputDecl left decl → all_asks (bare_stmts left) ≡ base_asks (has_names decl.attributes) decl left.outer.base
input_asks decl left is =
    let base = left.outer.base in
    let declared : List Stmt = declarations (fields_of base) in
    let over : List Text → List Stmt = λ names. over_read names base in
    let ending : List Stmt = closing left.outer.from_ident base in
    let rest : List Stmt = stmt.CheckShape shapes.Any ∷ (stmt.ReadBody None None ∷ ending) in
    let names : List Text = map path_text left.outer.attr_names.now.0 in
    ap (λ asks. asks ++ all_asks (declared ++ (over names ++ rest))) asked.declare_errors
    ∙ all_asks-append declared (over names ++ rest)
    ∙ ap (λ asks. all_asks declared ++ asks)
    (all_asks-append (over names) rest
    ∙ ap₂ (λ asks more. asks ++ more) (ap (λ names. all_asks (over names)) is.attributes ∙ over_asks decl base is.base decl.attributes)
    (ap₂ (λ asks more. asks ++ (more ++ all_asks ending)) asked.check_shape asked.read_body
    ∙ ap (λ from_ident. all_asks (closing from_ident base)) is.no_ident
    ∙ closing_is base))

pub meta_unit_asks : (decl : Decl) (left : FromMetaImpl) (number : ℕ) → IsDecl left.base decl → unit_asks (compiled_list left number) ≡ base_asks true decl left.base
meta_unit_asks decl left number is = append-nil (all_asks (list_stmts left.base)) ∙ list_asks decl left.base is

pub input_unit_asks : (decl : Decl) (left : FromDeriveInputImpl) (number : ℕ) → IsInputDecl left decl
    → unit_asks (compiled_derive_input left number) ≡ base_asks (has_names decl.attributes) decl left.outer.base
input_unit_asks decl left number is =
    ap unit_asks (bare_unit left number is.bare) ∙ append-nil (all_asks (bare_stmts left)) ∙ input_asks decl left is

-- ---- what is among them

module _ {A : Type 0} where
  pub contains-head : (it : A) (items : List A) → Contains (it ∷ items) it
  contains-head it items = (0, omega arith, refl)

  pub contains-tail : (first : A) (items : List A) (it : A) → Contains items it → Contains (first ∷ items) it
  contains-tail first items it (at, lt, is) = (suc at, omega (arith, lt), is)

module _ {A B : Type 0} (make : A → B) where
  pub contains-map : (items : List A) (it : A) → Contains items it → Contains (map make items) (make it)
  contains-map [] it (at, lt, is) = absurd (omega (arith, lt))
  contains-map (first ∷ items) it (zero, lt, is) = (0, omega arith, ap make is)
  contains-map (first ∷ items) it (suc at, lt, is) = contains-tail (make first) (map make items) (make it) (contains-map items it (at, omega (arith, lt), is))

module _ (reads : Bool) (decl : Decl) (base : TraitImpl) where
  abbrev declaring : List Ask
  declaring = all_asks (declarations (fields_of base))

  abbrev flattening : List Ask
  flattening = all_asks (flattens (fields_of base))

  abbrev building : List Ask
  building = map Member (inits (fields_of base))

  abbrev posting : List Ask
  posting = post_asks (option_copied base.post_transform)

  closes : (ask : Ask) → Contains (whole_asks (default_of false base) ++ (building ++ posting)) ask → Contains (base_asks reads decl base) ask
  closes ask among =
      Contains-append_right declaring (read_asks reads decl ++ closing_asks base) ask
      (Contains-append_right (read_asks reads decl) (closing_asks base) ask
      (Contains-append_right flattening (whole_asks (default_of false base) ++ (building ++ posting)) ask among))

  pub asks-Read : reads ≡ true → (it : Arm) → Contains (arms decl.body) it → Contains (base_asks reads decl base) (Read it)
  asks-Read e it among =
      Contains-append_right declaring (read_asks reads decl ++ closing_asks base) (Read it)
      (Contains-append_left (read_asks reads decl) (closing_asks base) (Read it)
      (subst (λ it_reads. Contains (read_asks it_reads decl) (Read it)) (sym e) (contains-map Read (arms decl.body) it among)))

  pub asks-Whole : (it : DefaultSource) → default_of false base ≡ Some it → Contains (base_asks reads decl base) (Whole it)
  asks-Whole it e =
      closes (Whole it)
      (Contains-append_left (whole_asks (default_of false base)) (building ++ posting) (Whole it)
      (subst (λ source. Contains (whole_asks source) (Whole it)) (sym e) (contains-head (Whole it) [])))

  pub asks-Member : (it : Init) → Contains (inits (fields_of base)) it → Contains (base_asks reads decl base) (Member it)
  asks-Member it among =
      closes (Member it)
      (Contains-append_right (whole_asks (default_of false base)) (building ++ posting) (Member it)
      (Contains-append_left building posting (Member it) (contains-map Member (inits (fields_of base)) it among)))

  pub asks-Transform : (it : PostfixTransform) → option_copied base.post_transform ≡ Some it → Contains (base_asks reads decl base) (Transform it)
  asks-Transform it e =
      closes (Transform it)
      (Contains-append_right (whole_asks (default_of false base)) (building ++ posting) (Transform it)
      (Contains-append_right building posting (Transform it)
      (subst (λ post. Contains (post_asks post) (Transform it)) (sym e) (contains-head (Transform it) []))))
