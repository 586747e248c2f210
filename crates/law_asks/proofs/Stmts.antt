-- What each statement asks.
use Rattle.std.proofs.Common.{◌≡◌, ◌∙◌, ℕ, List, [], ◌∷◌, ◌++◌, map, Option, None, refl, ap, sym, append_assoc}
use Rattle.base_core.specs.declared.text.Text.{Text}
use Rattle.tok_types.specs.declared.ident.Ident.{Ident}
use Rattle.node_expr.specs.declared.ty.«Type».{«Type» as Type'}
use Rattle.codegen_program.specs.declared.arm.Arm.{Arm}
use Rattle.codegen_program.specs.declared.arm.PostfixTransform.{PostfixTransform}
use Rattle.codegen_program.specs.declared.arm.Rest.{Rest}
use Rattle.codegen_program.specs.declared.forward.Forward.{Forward}
use Rattle.codegen_program.specs.declared.init.DefaultSource.{DefaultSource}
use Rattle.codegen_program.specs.declared.init.Init.{Init}
use Rattle.codegen_program.specs.declared.shape.ShapeSpec.TheVariants as shapes
use Rattle.codegen_program.specs.declared.stmt.Stmt.{Stmt, roll-Stmt, fold-roll-Stmt}
use Rattle.codegen_program.specs.declared.stmt.Stmt.TheOpen.{Stmt-F}
use Rattle.codegen_program.specs.declared.stmt.Stmt.TheVariants as stmt
use Rattle.machine_forms.specs.Asks.{Ask, Many, Read, Flatten, Whole, Member, Transform, all_asks, asks_in, stmt_asks}

-- a statement of this layer asks what the layer asks
layered : (it : Stmt) (layer : Stmt-F Stmt) (asks : List Ask) → roll-Stmt layer ≡ it → asks_in (roll-Stmt layer) ≡ asks → asks_in it ≡ asks
layered it layer asks rolled folded = ap asks_in (sym rolled) ∙ folded

pub declare_errors : asks_in stmt.DeclareErrors ≡ []
declare_errors = layered stmt.DeclareErrors Stmt-F.DeclareErrors [] stmt.rolls-DeclareErrors (fold-roll-Stmt (List Ask) stmt_asks Stmt-F.DeclareErrors)

pub declare_one : (slot : ℕ) (ident : Ident) (ty : Type') → asks_in (stmt.DeclareOne slot ident ty) ≡ []
declare_one slot ident ty =
    layered (stmt.DeclareOne slot ident ty) (Stmt-F.DeclareOne slot ident ty) [] (stmt.rolls-DeclareOne slot ident ty)
    (fold-roll-Stmt (List Ask) stmt_asks (Stmt-F.DeclareOne slot ident ty))

pub declare_many : (slot : ℕ) (ident : Ident) (ty : Type') → asks_in (stmt.DeclareMany slot ident ty) ≡ Many slot ∷ []
declare_many slot ident ty =
    layered (stmt.DeclareMany slot ident ty) (Stmt-F.DeclareMany slot ident ty) (Many slot ∷ []) (stmt.rolls-DeclareMany slot ident ty)
    (fold-roll-Stmt (List Ask) stmt_asks (Stmt-F.DeclareMany slot ident ty))

pub declare_buffer : asks_in stmt.DeclareBuffer ≡ []
declare_buffer = layered stmt.DeclareBuffer Stmt-F.DeclareBuffer [] stmt.rolls-DeclareBuffer (fold-roll-Stmt (List Ask) stmt_asks Stmt-F.DeclareBuffer)

pub for_attributes : (names : List Text) (items : List Stmt) (forward : Forward) → asks_in (stmt.ForAttributes names items forward) ≡ all_asks items
for_attributes names items forward =
    layered (stmt.ForAttributes names items forward) (Stmt-F.ForAttributes names items forward) (all_asks items) (stmt.rolls-ForAttributes names items forward)
    (fold-roll-Stmt (List Ask) stmt_asks (Stmt-F.ForAttributes names items forward))

pub for_items : (arms : List Arm) (rest : Rest) → asks_in (stmt.ForItems arms rest) ≡ map Read arms
for_items arms rest =
    layered (stmt.ForItems arms rest) (Stmt-F.ForItems arms rest) (map Read arms) (stmt.rolls-ForItems arms rest)
    (fold-roll-Stmt (List Ask) stmt_asks (Stmt-F.ForItems arms rest))

pub read_flatten : (slot : ℕ) (names : List Text) → asks_in (stmt.ReadFlatten slot names) ≡ Flatten slot ∷ []
read_flatten slot names =
    layered (stmt.ReadFlatten slot names) (Stmt-F.ReadFlatten slot names) (Flatten slot ∷ []) (stmt.rolls-ReadFlatten slot names)
    (fold-roll-Stmt (List Ask) stmt_asks (Stmt-F.ReadFlatten slot names))

pub check_missing : (slot : ℕ) (ty : Type') (name : Text) → asks_in (stmt.CheckMissing slot ty name) ≡ []
check_missing slot ty name =
    layered (stmt.CheckMissing slot ty name) (Stmt-F.CheckMissing slot ty name) [] (stmt.rolls-CheckMissing slot ty name)
    (fold-roll-Stmt (List Ask) stmt_asks (Stmt-F.CheckMissing slot ty name))

pub check_errors : (location : Option Text) → asks_in (stmt.CheckErrors location) ≡ []
check_errors location =
    layered (stmt.CheckErrors location) (Stmt-F.CheckErrors location) [] (stmt.rolls-CheckErrors location)
    (fold-roll-Stmt (List Ask) stmt_asks (Stmt-F.CheckErrors location))

pub set_default : (source : DefaultSource) → asks_in (stmt.SetDefault source) ≡ Whole source ∷ []
set_default source =
    layered (stmt.SetDefault source) (Stmt-F.SetDefault source) (Whole source ∷ []) (stmt.rolls-SetDefault source)
    (fold-roll-Stmt (List Ask) stmt_asks (Stmt-F.SetDefault source))

pub build : (name : Ident) (inits : List Init) → asks_in (stmt.Build name None [] inits) ≡ map Member inits
build name inits =
    layered (stmt.Build name None [] inits) (Stmt-F.Build name None [] inits) (map Member inits) (stmt.rolls-Build name None [] inits)
    (fold-roll-Stmt (List Ask) stmt_asks (Stmt-F.Build name None [] inits))

pub transform : (post : PostfixTransform) → asks_in (stmt.Transform post) ≡ Transform post ∷ []
transform post =
    layered (stmt.Transform post) (Stmt-F.Transform post) (Transform post ∷ []) (stmt.rolls-Transform post)
    (fold-roll-Stmt (List Ask) stmt_asks (Stmt-F.Transform post))

pub check_shape : asks_in (stmt.CheckShape shapes.Any) ≡ []
check_shape = layered (stmt.CheckShape shapes.Any) (Stmt-F.CheckShape shapes.Any) [] (stmt.rolls-CheckShape shapes.Any) (fold-roll-Stmt (List Ask) stmt_asks (Stmt-F.CheckShape shapes.Any))

pub read_body : asks_in (stmt.ReadBody None None) ≡ []
read_body = layered (stmt.ReadBody None None) (Stmt-F.ReadBody None None) [] (stmt.rolls-ReadBody None None) (fold-roll-Stmt (List Ask) stmt_asks (Stmt-F.ReadBody None None))

-- one list of statements behind another
pub all_asks-append : (stmts more : List Stmt) → all_asks (stmts ++ more) ≡ all_asks stmts ++ all_asks more
all_asks-append [] more = refl
all_asks-append (it ∷ stmts) more =
    ap (λ asks. asks_in it ++ asks) (all_asks-append stmts more) ∙ sym (append_assoc (asks_in it) (all_asks stmts) (all_asks more))
