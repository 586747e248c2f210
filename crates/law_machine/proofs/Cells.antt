-- The functions of a unit of `FromMeta` are the cells of its declaration.
use Rattle.std.proofs.Common.{◌≡◌, true, false, List, [], ◌∷◌, ◌++◌, map, Option, Some, None, option_map, refl, ap, ap₂, ◌∙◌, sym, append_assoc, if◌then◌else◌}
use Rattle.std.specs.Prelude.{option_and_then}
use Rattle.std.specs.List.{AllZip}
use Rattle.std.specs.Option.{option_copied}
use mathlib.Core.Path.{fun_ext}
use Rattle.base_core.specs.declared.text.Text.{Text}
use Rattle.tok_types.specs.Ident.{ident_text}
use Rattle.tok_types.specs.declared.ident.Ident.{Ident}
use Rattle.tok_types.specs.declared.span.Span.{Span}
use Rattle.node_expr.specs.declared.expr.Expr.{Expr}
use Rattle.node_expr.specs.declared.ty.«Type».{«Type» as Type'}
use Rattle.node_core.specs.declared.attr.Meta.{Meta}
use Rattle.node_core.specs.declared.data.Variant.{Variant as Declared}
use Rattle.node_core.specs.declared.style.Style.{Style}
use Rattle.node_core.specs.declared.style.Style.TheVariants as style
use Rattle.body_core.specs.declared.ast.data.«Data».{«Data»}
use Rattle.body_core.specs.declared.ast.data.«Data».TheVariants as body
use Rattle.body_core.specs.declared.ast.fields.Fields.{Fields}
use Rattle.meta_nested.specs.Cells.{Cells, no_cells}
use Rattle.meta_nested.specs.Dispatch.{from_meta}
use Rattle.meta_nested.specs.declared.nested.NestedMeta.{NestedMeta}
use Rattle.error_fault.specs.Outcome.{Outcome, Value, on_value, value_of}
use Rattle.machine_value.specs.declared.value.Value.{Value as Datum}
use Rattle.machine_value.specs.declared.value.Value.TheVariants as value
use Rattle.codegen_program.specs.declared.callable.Callable.{Callable}
use Rattle.codegen_program.specs.declared.program.Func.{Func}
use Rattle.codegen_program.specs.declared.program.FuncName.{FuncName}
use Rattle.codegen_program.specs.declared.program.FuncName.TheVariants as func
use Rattle.codegen_program.specs.declared.stmt.Stmt.{Stmt}
use Rattle.codegen_program.specs.declared.stmt.Stmt.TheVariants as stmt
use Rattle.codegen_core.specs.Compiled.{build, call_func, call_funcs, compiled_meta, enum_funcs, fields_of, funcs_by, funcs_in, list_funcs, list_stmts, own_funcs, struct_fields, unit_funcs, whole_funcs}
use Rattle.codegen_core.specs.Fields.{inits}
use Rattle.codegen_core.specs.Variants.{member_name, transparent_field, unit_arms, variant_arms, variant_names}
use Rattle.codegen_core.specs.declared.field.Field.{Field}
use Rattle.codegen_core.specs.declared.from_meta_impl.FromMetaImpl.{FromMetaImpl}
use Rattle.codegen_core.specs.declared.variant.Variant.{Variant}
use Rattle.machine_steps.specs.Asked.{Asked, Characters, Expression, Items, NoItem, WholeMeta, Word}
use Rattle.machine_steps.specs.Building.{alone}
use Rattle.machine_steps.specs.Convert.{Earlier, cells}
use Rattle.machine_execute.specs.Machine.{is_func, or_unread, stmts_named, unit_cells, unit_type}
use Rattle.machine_steps.specs.Progress.{Going, Built, no_aside, outcome, start}
use Rattle.machine_steps.specs.Reads.{Before, metas}
use Rattle.machine_steps.specs.Receivers.{Receiver, declared_variants, receiver_of}
use Rattle.machine_steps.specs.Setting.{Setting, answer, ask, without_places}
use Rattle.machine_steps.specs.Statements.{inside, run}
use Rattle.machine_steps.proofs.Building.{plain_built}
use Rattle.machine_steps.proofs.Statements as statement
use Rattle.machine_steps.proofs.Statements.{does_arm}
use Rattle.machine_steps.specs.Calls.{none_said, word_outcome, word_variant}
use Rattle.machine_steps.specs.Seen.{ExprSeen, NothingSeen}
use Rattle.machine_steps.specs.Use.TheVariants as use_at
use Rattle.machine_steps.specs.Variants.{bare, unit_names, variants}
use Rattle.meaning_core.specs.Decl.{BodyDecl}
use Rattle.meaning_core.specs.MetaCells.{expr_cell, none_cell, overriding, own_cells, word_cell}
use Rattle.meaning_core.specs.Receivers.{Bare, ByFields, EnumOf, Form, MetaBody, MetaDecl, StructOf, VariantDecl, Whole, struct_decl}
use Rattle.meaning_core.specs.Variants.{text_meaning, variants_meaning}
use Rattle.law_machine.specs.Claims.{CellsAreMeant}
use Rattle.law_machine.specs.Compiles.{HasNoCalls, IsCalled, IsDecl, IsMember, IsMetaBody, IsOwnStruct, IsStructForm, IsVariantDecl, meant_word, read_variants, word_by}
use Rattle.law_machine.proofs.Enums.{names_are, texts_are, variants_are}
use Rattle.law_machine.proofs.Units.{list_is_meaning}

-- ---- the functions by their names

-- the statements of a function that answers what a callable gives
abbrev call_of : FuncName → Option Callable → Option (List Stmt)
call_of name callable = option_map (λ it. stmt.Call it name ∷ []) callable

-- the first that is there
abbrev first : Option (List Stmt) → Option (List Stmt) → Option (List Stmt)
first (Some it) other = Some it
first None other = other

abbrev named : FuncName → List Func → Option (List Stmt)
named name funcs = stmts_named (is_func name) funcs

named_append : (name : FuncName) (xs ys : List Func) → named name (xs ++ ys) ≡ first (named name xs) (named name ys)
named_append name [] ys = refl
named_append name (x ∷ xs) ys =
    elim (is_func name x.name) as (λ b. (if b then Some x.stmts else named name (xs ++ ys)) ≡ first (if b then Some x.stmts else named name xs) (named name ys))
    [ true ↦ refl | false ↦ named_append name xs ys ]

-- a function of another name is passed by
passed : (name other : FuncName) (callable : Option Callable) (more : List Func) → is_func name other ≡ false → named name (call_func other callable ++ more) ≡ named name more
passed name other None more e = refl
passed name other (Some it) more e = ap (λ b. if b then Some (stmt.Call it other ∷ []) else named name more) e

passed_last : (name other : FuncName) (callable : Option Callable) → is_func name other ≡ false → named name (call_func other callable) ≡ None
passed_last name other None e = refl
passed_last name other (Some it) e = ap (λ b. if b then Some (stmt.Call it other ∷ []) else None) e

abbrev calls : Option Callable → Option Callable → Option Callable → List Func
calls word without expr = call_func func.FromWord word ++ call_func func.FromNone without ++ call_func func.FromExpr expr

in_turn : (name : FuncName) (word without expr : Option Callable)
    → named name (calls word without expr) ≡ named name (call_func func.FromWord word ++ (call_func func.FromNone without ++ call_func func.FromExpr expr))
in_turn name word without expr = ap (named name) (append_assoc (call_func func.FromWord word) (call_func func.FromNone without) (call_func func.FromExpr expr))

word_named : (word without expr : Option Callable) → named func.FromWord (calls word without expr) ≡ call_of func.FromWord word
word_named None without expr = passed func.FromWord func.FromNone without (call_func func.FromExpr expr) refl ∙ passed_last func.FromWord func.FromExpr expr refl
word_named (Some it) without expr = refl

none_first : (without expr : Option Callable) → named func.FromNone (call_func func.FromNone without ++ call_func func.FromExpr expr) ≡ call_of func.FromNone without
none_first None expr = passed_last func.FromNone func.FromExpr expr refl
none_first (Some it) expr = refl

none_named : (word without expr : Option Callable) → named func.FromNone (calls word without expr) ≡ call_of func.FromNone without
none_named word without expr = in_turn func.FromNone word without expr ∙ passed func.FromNone func.FromWord word (call_func func.FromNone without ++ call_func func.FromExpr expr) refl ∙ none_first without expr

expr_first : (expr : Option Callable) → named func.FromExpr (call_func func.FromExpr expr) ≡ call_of func.FromExpr expr
expr_first None = refl
expr_first (Some it) = refl

expr_named : (word without expr : Option Callable) → named func.FromExpr (calls word without expr) ≡ call_of func.FromExpr expr
expr_named word without expr =
    in_turn func.FromExpr word without expr
    ∙ passed func.FromExpr func.FromWord word (call_func func.FromNone without ++ call_func func.FromExpr expr) refl
    ∙ passed func.FromExpr func.FromNone without (call_func func.FromExpr expr) refl
    ∙ expr_first expr

other_named : (name : FuncName) (word without expr : Option Callable) → is_func name func.FromWord ≡ false → is_func name func.FromNone ≡ false → is_func name func.FromExpr ≡ false → named name (calls word without expr) ≡ None
other_named name word without expr no_word no_none no_expr =
    in_turn name word without expr
    ∙ passed name func.FromWord word (call_func func.FromNone without ++ call_func func.FromExpr expr) no_word
    ∙ passed name func.FromNone without (call_func func.FromExpr expr) no_none
    ∙ passed_last name func.FromExpr expr no_expr

first_none : (it : Option (List Stmt)) → first it None ≡ it
first_none None = refl
first_none (Some it) = refl

-- ---- cells

-- cells of which others are not there are the same where each is
cells_same : {word word' : Option (Outcome Datum)} {list list' : List NestedMeta → Option (Outcome Datum)} {string string' : Text → Span → Option (Outcome Datum)}
    {expr expr' : Expr → Option (Outcome Datum)} {meta meta' : Meta → Option (Outcome Datum)} {none other : Option Datum}
    → word ≡ word' → ((items : List NestedMeta) → list items ≡ list' items) → ((text : Text) (span : Span) → string text span ≡ string' text span) → ((it : Expr) → expr it ≡ expr' it)
    → ((it : Meta) → meta it ≡ meta' it) → none ≡ other
    → (let it : Cells Datum = record no_cells { word = word; list = list; string = string; expr = expr; meta = meta; none = none } in it)
    ≡ (let it : Cells Datum = record no_cells { word = word'; list = list'; string = string'; expr = expr'; meta = meta'; none = other } in it)
cells_same {word} {word'} {list} {list'} {string} {string'} {expr} {expr'} {meta} {meta'} {none} {other} w l s e m n =
    ap (λ x. let it : Cells Datum = record no_cells { word = x; list = list; string = string; expr = expr; meta = meta; none = none } in it) w
    ∙ ap (λ x. let it : Cells Datum = record no_cells { word = word'; list = x; string = string; expr = expr; meta = meta; none = none } in it) (fun_ext l)
    ∙ ap (λ x. let it : Cells Datum = record no_cells { word = word'; list = list'; string = x; expr = expr; meta = meta; none = none } in it) (fun_ext (λ text. fun_ext (s text)))
    ∙ ap (λ x. let it : Cells Datum = record no_cells { word = word'; list = list'; string = string'; expr = x; meta = meta; none = none } in it) (fun_ext e)
    ∙ ap (λ x. let it : Cells Datum = record no_cells { word = word'; list = list'; string = string'; expr = expr'; meta = x; none = none } in it) (fun_ext m)
    ∙ ap (λ x. let it : Cells Datum = record no_cells { word = word'; list = list'; string = string'; expr = expr'; meta = meta'; none = x } in it) n

module _ (setting : Setting) (before : Before) (receiver : Receiver) (it : MetaDecl) (name_is : receiver.name ≡ it.name) (type_is : receiver.type ≡ it.type) where
  abbrev earlier : Earlier
  earlier = metas before

  abbrev some : Outcome Datum → Option (Outcome Datum)
  some outcome = Some outcome

  abbrev reads : List Stmt → Asked → Outcome Datum
  reads stmts asked = or_unread (outcome (run setting before receiver stmts asked))

  abbrev read_by : Option (List Stmt) → Asked → Option (Outcome Datum)
  read_by stmts asked = option_map (λ stmts. reads stmts asked) stmts

  abbrev func_cells : List Func → Cells Datum
  func_cells funcs =
      record no_cells {
        word = read_by (named func.FromWord funcs) Word;
        list = λ items. read_by (named func.FromList funcs) (Items items);
        string = λ text span. read_by (named func.FromString funcs) (Characters text span);
        expr = λ expr. read_by (named func.FromExpr funcs) (Expression expr);
        meta = λ meta. read_by (named func.FromMeta funcs) (WholeMeta meta);
        none = option_and_then value_of (read_by (named func.FromNone funcs) NoItem);
      }

  -- ---- what callables give

  abbrev declared : List Declared
  declared = declared_variants receiver.decl

  word_is : (callable : Callable) (found : Option Ident) → word_variant callable declared ≡ found
      → some (word_outcome setting receiver callable (word_variant callable declared)) ≡ word_cell setting earlier it (Some (word_by callable found)) None
  word_is callable (Some ident) e = ap (λ o. some (word_outcome setting receiver callable o)) e ∙ ap (λ n. some (Value (bare n (ident_text ident)))) name_is
  word_is callable None e = ap (λ o. some (word_outcome setting receiver callable o)) e ∙ ap (λ t. some (ask setting callable use_at.FromWord t NothingSeen)) type_is

  word_read : (callable : Option Callable) → read_by (call_of func.FromWord callable) Word ≡ word_cell setting earlier it (option_map (meant_word declared) callable) None
  word_read None = refl
  word_read (Some callable) =
      ap (λ p. some (or_unread (outcome p))) (statement.call setting before receiver callable func.FromWord Word (Going start no_aside))
      ∙ word_is callable (word_variant callable declared) refl

  none_read : (callable : Option Callable) → option_and_then value_of (read_by (call_of func.FromNone callable) NoItem) ≡ none_cell setting earlier it callable None
  none_read None = refl
  none_read (Some callable) =
      ap (λ p. value_of (or_unread (outcome p))) (statement.call setting before receiver callable func.FromNone NoItem (Going start no_aside))
      ∙ ap (λ t. value_of (none_said (answer setting (Some (without_places callable)) use_at.FromNone t NothingSeen))) type_is

  expr_read : (callable : Option Callable) (expr : Expr) → read_by (call_of func.FromExpr callable) (Expression expr) ≡ expr_cell setting earlier it callable (λ expr. None) expr
  expr_read None expr = refl
  expr_read (Some callable) expr =
      ap (λ p. some (or_unread (outcome p))) (statement.call setting before receiver callable func.FromExpr (Expression expr) (Going start no_aside))
      ∙ ap (λ t. some (ask setting callable use_at.FromExpr t (ExprSeen expr))) type_is

  -- ---- without callables

  abbrev uncalled : Cells Datum → Cells Datum
  uncalled own = record own { word = word_cell setting earlier it None own.word; none = none_cell setting earlier it None own.none; expr = expr_cell setting earlier it None own.expr }

  no_calls : (own : Cells Datum) → HasNoCalls it → uncalled own ≡ overriding setting earlier it own
  no_calls own has =
      ap₂ (λ w n. let c : Cells Datum = record own { word = word_cell setting earlier it w own.word; none = none_cell setting earlier it n own.none; expr = expr_cell setting earlier it None own.expr } in c) (sym has.word) (sym has.none)
      ∙ ap (λ e. let c : Cells Datum = record own { word = word_cell setting earlier it it.word own.word; none = none_cell setting earlier it it.none own.none; expr = expr_cell setting earlier it e own.expr } in c) (sym has.expr)

  -- ---- the forms

  module _ (left : FromMetaImpl) (named_so : ident_text left.base.ident.now ≡ it.name) where
    whole_read : (style : Style) (field : Field) (member : Text) (type : Type') (item : Meta) → IsMember style field member type
        → reads (stmt.Delegate left.base.ident.now (member_name style field) field.ty.now ∷ []) (WholeMeta item) ≡ on_value (alone it.name member) (from_meta (cells setting earlier type) item)
    whole_read style field member type item is =
        ap (λ p. or_unread (outcome p)) (statement.delegate setting before receiver left.base.ident.now (member_name style field) field.ty.now (WholeMeta item) (Going start no_aside))
        ∙ ap₂ (λ m t. on_value (alone (ident_text left.base.ident.now) m) (from_meta (cells setting earlier t) item)) is.0 is.1
        ∙ ap (λ n. on_value (alone n member) (from_meta (cells setting earlier type) item)) named_so

    whole_is : (style : Style) (field : Field) (member : Text) (type : Type') → IsMember style field member type → HasNoCalls it
        → func_cells (whole_funcs left.base style field) ≡ overriding setting earlier it (own_cells setting earlier it (StructOf (Whole member type)))
    whole_is style field member type is has =
        cells_same refl (λ items. refl) (λ text span. refl) (λ expr. refl) (λ item. ap some (whole_read style field member type item is)) refl
        ∙ no_calls (own_cells setting earlier it (StructOf (Whole member type))) has

    unit_read : fields_of left.base ≡ [] → reads (build left.base ∷ []) Word ≡ Value (value.Struct it.name style.Unit [])
    unit_read none =
        ap (λ fields. reads (stmt.Build left.base.ident.now None [] (inits fields) ∷ []) Word) none
        ∙ ap (λ p. or_unread (outcome p)) (statement.build setting before receiver left.base.ident.now None [] [] Word (Going start no_aside))
        ∙ ap (λ o. or_unread (outcome (Built o))) (plain_built setting receiver Word no_aside left.base.ident.now [] (Value []))
        ∙ ap (λ n. Value (value.Struct n style.Unit [])) named_so

    unit_is : fields_of left.base ≡ [] → HasNoCalls it → func_cells (unit_funcs left.base) ≡ overriding setting earlier it (own_cells setting earlier it (StructOf Bare))
    unit_is none has =
        cells_same (ap some (unit_read none)) (λ items. refl) (λ text span. refl) (λ expr. refl) (λ item. refl) refl
        ∙ no_calls (own_cells setting earlier it (StructOf Bare)) has

    -- ---- with callables

    abbrev word' : Option Callable
    word' = left.from_word

    abbrev none' : Option Callable
    none' = option_copied left.from_none

    abbrev expr' : Option Callable
    expr' = option_copied left.from_expr

    called_word : (stmts : Option (List Stmt)) → IsCalled declared left it → stmts ≡ call_of func.FromWord word' → read_by stmts Word ≡ word_cell setting earlier it it.word None
    called_word stmts is e = ap (λ s. read_by s Word) e ∙ word_read word' ∙ ap (λ w. word_cell setting earlier it w None) is.word

    called_none : (stmts : Option (List Stmt)) → IsCalled declared left it → stmts ≡ call_of func.FromNone none' → option_and_then value_of (read_by stmts NoItem) ≡ none_cell setting earlier it it.none None
    called_none stmts is e = ap (λ s. option_and_then value_of (read_by s NoItem)) e ∙ none_read none' ∙ ap (λ c. none_cell setting earlier it c None) is.none

    called_expr : (stmts : Option (List Stmt)) (expr : Expr) → IsCalled declared left it → stmts ≡ call_of func.FromExpr expr' → read_by stmts (Expression expr) ≡ expr_cell setting earlier it it.expr (λ expr. None) expr
    called_expr stmts expr is e = ap (λ s. read_by s (Expression expr)) e ∙ expr_read expr' expr ∙ ap (λ c. expr_cell setting earlier it c (λ expr. None) expr) is.expr

    abbrev list_func : List Func
    list_func = record { name = func.FromList; stmts = list_stmts left.base } ∷ []

    -- a function that callables do not answer stands behind theirs
    behind_calls : (name : FuncName) → is_func name func.FromWord ≡ false → is_func name func.FromNone ≡ false → is_func name func.FromExpr ≡ false → named name (list_funcs left) ≡ named name list_func
    behind_calls name no_word no_none no_expr =
        named_append name (call_funcs left) list_func ∙ ap (λ x. first x (named name list_func)) (other_named name word' none' expr' no_word no_none no_expr)

    call_in_list : (name : FuncName) (callable : Option Callable) → named name list_func ≡ None → named name (call_funcs left) ≡ call_of name callable → named name (list_funcs left) ≡ call_of name callable
    call_in_list name callable none found = named_append name (call_funcs left) list_func ∙ ap₂ first found none ∙ first_none (call_of name callable)

    list_is : (fields : BodyDecl) → IsDecl left.base (struct_decl it fields) → IsCalled declared left it
        → func_cells (list_funcs left) ≡ overriding setting earlier it (own_cells setting earlier it (StructOf (ByFields fields)))
    list_is fields is called =
        cells_same
        (called_word (named func.FromWord (list_funcs left)) called (call_in_list func.FromWord word' refl (word_named word' none' expr')))
        (λ items. ap (λ s. read_by s (Items items)) (behind_calls func.FromList refl refl refl)
        ∙ ap (λ o. some (or_unread o)) (list_is_meaning setting before receiver left.base (struct_decl it fields) items is type_is))
        (λ text span. ap (λ s. read_by s (Characters text span)) (behind_calls func.FromString refl refl refl))
        (λ expr. called_expr (named func.FromExpr (list_funcs left)) expr called (call_in_list func.FromExpr expr' refl (expr_named word' none' expr')))
        (λ item. ap (λ s. read_by s (WholeMeta item)) (behind_calls func.FromMeta refl refl refl))
        (called_none (named func.FromNone (list_funcs left)) called (call_in_list func.FromNone none' refl (none_named word' none' expr')))

    -- ---- enums

    enum_reads : (lefts : List Variant) (decls : List VariantDecl) (items : List NestedMeta) → AllZip (IsVariantDecl it.name) (read_variants lefts) decls
        → reads (stmt.Variants (variant_arms 0 lefts) (variant_names lefts) ∷ []) (Items items) ≡ variants_meaning setting earlier it.name decls items
    enum_reads lefts decls items zip =
        ap (λ p. or_unread (outcome p)) (statement.variants setting before receiver (variant_arms 0 lefts) (variant_names lefts) (Items items) (Going start no_aside))
        ∙ ap (λ n. or_unread (outcome (variants setting earlier n inside (variant_names lefts) (map (does_arm setting before receiver) (variant_arms 0 lefts)) items))) name_is
        ∙ ap or_unread (variants_are setting before receiver it.name (variant_names lefts) lefts decls items (names_are setting before receiver it.name lefts decls zip) zip)

    texts_read : (lefts : List Variant) (decls : List VariantDecl) (text : Text) (span : Span) → AllZip (IsVariantDecl it.name) (read_variants lefts) decls
        → reads (stmt.UnitNames (unit_arms lefts) (variant_names lefts) ∷ []) (Characters text span) ≡ text_meaning setting earlier it.name decls text
    texts_read lefts decls text span zip =
        ap (λ p. or_unread (outcome p)) (statement.unit_names setting before receiver (unit_arms lefts) (variant_names lefts) (Characters text span) (Going start no_aside))
        ∙ ap (λ n. unit_names setting earlier n (variant_names lefts) (unit_arms lefts) text) name_is
        ∙ texts_are setting before receiver it.name lefts decls text zip

    enum_is : (lefts : List Variant) (decls : List VariantDecl) → AllZip (IsVariantDecl it.name) (read_variants lefts) decls → IsCalled declared left it
        → func_cells (enum_funcs left lefts) ≡ overriding setting earlier it (own_cells setting earlier it (EnumOf decls))
    enum_is lefts decls zip called =
        cells_same
        (called_word (named func.FromWord (enum_funcs left lefts)) called (word_named word' none' expr'))
        (λ items. ap some (enum_reads lefts decls items zip))
        (λ text span. ap some (texts_read lefts decls text span zip))
        (λ expr. called_expr (named func.FromExpr (enum_funcs left lefts)) expr called (expr_named word' none' expr'))
        (λ item. ap (λ s. read_by s (WholeMeta item)) (other_named func.FromMeta word' none' expr' refl refl refl))
        (called_none (named func.FromNone (enum_funcs left lefts)) called (none_named word' none' expr'))

    -- ---- the declaration

    own_struct_is : (fields : Fields Field) → fields_of left.base ≡ fields.fields → (s : Style) (f : Form) → IsOwnStruct declared left fields it s f
        → func_cells (own_funcs s left) ≡ overriding setting earlier it (own_cells setting earlier it (StructOf f))
    own_struct_is fields same style.Unit Bare is = unit_is (same ∙ is.0) is.1
    own_struct_is fields same style.Struct (ByFields it_fields) is = list_is it_fields is.0 is.1
    own_struct_is fields same style.Unit (Whole member type) is = absurd is
    own_struct_is fields same style.Unit (ByFields it_fields) is = absurd is
    own_struct_is fields same style.Struct Bare is = absurd is
    own_struct_is fields same style.Struct (Whole member type) is = absurd is
    own_struct_is fields same style.Tuple Bare is = absurd is
    own_struct_is fields same style.Tuple (Whole member type) is = absurd is
    own_struct_is fields same style.Tuple (ByFields it_fields) is = absurd is

    struct_is : (fields : Fields Field) → fields_of left.base ≡ fields.fields → (p : Option Field) (f : Form) → IsStructForm declared left fields it p f
        → func_cells (funcs_by p fields.style left) ≡ overriding setting earlier it (own_cells setting earlier it (StructOf f))
    struct_is fields same (Some field) (Whole member type) is = whole_is fields.style field member type is.0 is.1
    struct_is fields same (Some field) Bare is = absurd is
    struct_is fields same (Some field) (ByFields it_fields) is = absurd is
    struct_is fields same None f is = own_struct_is fields same fields.style f is

    body_is : (b : «Data» Variant Field) (m : MetaBody) → left.base.body ≡ b → IsMetaBody declared left it b m
        → func_cells (funcs_in left b) ≡ overriding setting earlier it (own_cells setting earlier it m)
    body_is (body.Struct fields) (StructOf f) same is = struct_is fields (ap struct_fields same) (transparent_field left.base.transparent fields.style fields.fields) f is
    body_is (body.Struct fields) (EnumOf decls) same is = absurd is
    body_is (body.Enum lefts) (StructOf f) same is = absurd is
    body_is (body.Enum lefts) (EnumOf decls) same is = enum_is lefts decls is.0 is.1

pub cells_are_meant : CellsAreMeant
cells_are_meant setting before unit it (left, compiled, is, type_is) =
    let receiver = receiver_of setting (compiled_meta left unit.decl) in
    ap (unit_cells setting before) compiled
    ∙ body_is setting before receiver it is.name (sym (ap unit_type compiled) ∙ type_is) left is.name left.base.body it.body refl is.body
