-- Of expressions, level by level.
use Rattle.std.proofs.Common.{◌≡◌, ℕ, Bool, List, map, Option, Some, None, option_map, refl, sym, ap, ◌∙◌}
use Rattle.std.specs.Bool.{Decides}
use Rattle.tok_types.specs.declared.span.Span.TheVariants.{CallSite}
use Rattle.tok_types.specs.declared.span.Span.{Span}
use Rattle.tok_types.specs.declared.ident.Ident.{Ident}
use Rattle.tok_types.specs.declared.tree.TokenStream.{TokenStream}
use Rattle.node_expr.specs.declared.expr.BinOp.{BinOp}
use Rattle.node_expr.specs.declared.expr.UnOp.{UnOp}
use Rattle.node_expr.specs.declared.expr.Member.{Member}
use Rattle.node_expr.specs.declared.lit.Lit.{Lit}
use Rattle.node_expr.specs.Layers.{ExprLayer}
use Rattle.node_expr.specs.contracts.expr.ExprPartialEq.TheImpl as expr_eq
use Rattle.node_expr.specs.contracts.expr.ExprPartialEq.TheImpl.Laws as expr_laws
use Rattle.node_expr.specs.contracts.path.GenericArgumentPartialEq.TheImpl as argument_eq
use Rattle.node_expr.specs.declared.expr.Expr.TheOpen.{Expr-F}
use Rattle.node_expr.specs.declared.expr.Expr.{Expr, roll-Expr, out-Expr, roll-out-Expr, out-roll-Expr}
use Rattle.node_expr.specs.declared.expr.Expr.TheVariants as expr
use Rattle.node_expr.specs.declared.path.GenericArgument.{GenericArgument}
use Rattle.node_expr.specs.declared.expr.ExprPath.{ExprPath}
use Rattle.node_expr.specs.declared.expr.ExprArray.{ExprArray}
use Rattle.node_expr.specs.declared.expr.ExprRange.{ExprRange}
use Rattle.node_expr.specs.declared.expr.ExprClosure.{ExprClosure}
use Rattle.law_spans.specs.Erased.{erased_ident, erased_lit, erased_member, erased_stream, erased_expr, erased_argument, erased_expr_path}
use Rattle.law_spans.proofs.Made.{bare_expr-Array, bare_expr-Binary, bare_expr-Block, bare_expr-Call, bare_expr-Closure, bare_expr-Field, bare_expr-Group, bare_expr-Index, bare_expr-Infer, bare_expr-Lit, bare_expr-MethodCall, bare_expr-Paren, bare_expr-Path, bare_expr-Range, bare_expr-Reference, bare_expr-Repeat, bare_expr-Try, bare_expr-Tuple, bare_expr-Unary, bare_expr-Verbatim}
use Rattle.law_equality.proofs.Deciding.{told, both, always, neither, clash, Told, lists, options, layered}
use Rattle.law_equality.proofs.Leaves.{bool_told, un_op_told, bin_op_told, ident_told, lit_told, member_told}
use Rattle.law_equality.proofs.Tokens.{stream_told}
use Rattle.law_equality.proofs.Sures.{SureExpr, SureExprLayer, forget_expr, SureGenericArgument, SureExprPath}

-- the layer without its places
abbrev pub bare_expr : ExprLayer → ExprLayer
bare_expr (Expr-F.Lit it) = Expr-F.Lit (erased_lit it)
bare_expr (Expr-F.Expr::Path it) = Expr-F.Expr::Path (erased_expr_path it)
bare_expr (Expr-F.Expr::Array it) = Expr-F.Expr::Array (record { elems = map erased_expr it.elems; span = CallSite })
bare_expr (Expr-F.Repeat elem len span) = Expr-F.Repeat (erased_expr elem) (erased_expr len) CallSite
bare_expr (Expr-F.Expr::Tuple elems span) = Expr-F.Expr::Tuple (map erased_expr elems) CallSite
bare_expr (Expr-F.Expr::Paren inner span) = Expr-F.Expr::Paren (erased_expr inner) CallSite
bare_expr (Expr-F.Expr::Group inner span) = Expr-F.Expr::Group (erased_expr inner) CallSite
bare_expr (Expr-F.Unary op operand span) = Expr-F.Unary op (erased_expr operand) CallSite
bare_expr (Expr-F.Expr::Reference mutable operand span) = Expr-F.Expr::Reference mutable (erased_expr operand) CallSite
bare_expr (Expr-F.Binary left op right span) = Expr-F.Binary (erased_expr left) op (erased_expr right) CallSite
bare_expr (Expr-F.Call func args span) = Expr-F.Call (erased_expr func) (map erased_expr args) CallSite
bare_expr (Expr-F.MethodCall receiver method turbofish args span) = Expr-F.MethodCall (erased_expr receiver) (erased_ident method) (map erased_argument turbofish) (map erased_expr args) CallSite
bare_expr (Expr-F.Field base member span) = Expr-F.Field (erased_expr base) (erased_member member) CallSite
bare_expr (Expr-F.Index base at span) = Expr-F.Index (erased_expr base) (erased_expr at) CallSite
bare_expr (Expr-F.Try inner span) = Expr-F.Try (erased_expr inner) CallSite
bare_expr (Expr-F.Range it) = Expr-F.Range (record { start = option_map erased_expr it.start; end = option_map erased_expr it.end; closed = it.closed; span = CallSite })
bare_expr (Expr-F.Closure it) = Expr-F.Closure (record { tokens = erased_stream it.tokens; body = erased_expr it.body; span = CallSite })
bare_expr (Expr-F.Block stmts last span) = Expr-F.Block (map erased_expr stmts) (option_map erased_expr last) CallSite
bare_expr (Expr-F.Expr::Infer span) = Expr-F.Expr::Infer CallSite
bare_expr (Expr-F.Verbatim it) = Expr-F.Verbatim (erased_stream it)

pub expr-bare : (x : ExprLayer) → erased_expr (roll-Expr x) ≡ roll-Expr (bare_expr x)
expr-bare (Expr-F.Lit it) = ap erased_expr (expr.rolls-Lit it) ∙ bare_expr-Lit it ∙ sym (expr.rolls-Lit (erased_lit it))
expr-bare (Expr-F.Expr::Path it) = ap erased_expr (expr.rolls-Path it) ∙ bare_expr-Path it ∙ sym (expr.rolls-Path (erased_expr_path it))
expr-bare (Expr-F.Expr::Array it) = ap erased_expr (expr.rolls-Array it) ∙ bare_expr-Array it.elems it.span ∙ sym (expr.rolls-Array (record { elems = map erased_expr it.elems; span = CallSite }))
expr-bare (Expr-F.Repeat elem len span) = ap erased_expr (expr.rolls-Repeat elem len span) ∙ bare_expr-Repeat elem len span ∙ sym (expr.rolls-Repeat (erased_expr elem) (erased_expr len) CallSite)
expr-bare (Expr-F.Expr::Tuple elems span) = ap erased_expr (expr.rolls-Tuple elems span) ∙ bare_expr-Tuple elems span ∙ sym (expr.rolls-Tuple (map erased_expr elems) CallSite)
expr-bare (Expr-F.Expr::Paren inner span) = ap erased_expr (expr.rolls-Paren inner span) ∙ bare_expr-Paren inner span ∙ sym (expr.rolls-Paren (erased_expr inner) CallSite)
expr-bare (Expr-F.Expr::Group inner span) = ap erased_expr (expr.rolls-Group inner span) ∙ bare_expr-Group inner span ∙ sym (expr.rolls-Group (erased_expr inner) CallSite)
expr-bare (Expr-F.Unary op operand span) = ap erased_expr (expr.rolls-Unary op operand span) ∙ bare_expr-Unary op operand span ∙ sym (expr.rolls-Unary op (erased_expr operand) CallSite)
expr-bare (Expr-F.Expr::Reference mutable operand span) = ap erased_expr (expr.rolls-Reference mutable operand span) ∙ bare_expr-Reference mutable operand span ∙ sym (expr.rolls-Reference mutable (erased_expr operand) CallSite)
expr-bare (Expr-F.Binary left op right span) = ap erased_expr (expr.rolls-Binary left op right span) ∙ bare_expr-Binary left op right span ∙ sym (expr.rolls-Binary (erased_expr left) op (erased_expr right) CallSite)
expr-bare (Expr-F.Call func args span) = ap erased_expr (expr.rolls-Call func args span) ∙ bare_expr-Call func args span ∙ sym (expr.rolls-Call (erased_expr func) (map erased_expr args) CallSite)
expr-bare (Expr-F.MethodCall receiver method turbofish args span) = ap erased_expr (expr.rolls-MethodCall receiver method turbofish args span) ∙ bare_expr-MethodCall receiver method turbofish args span ∙ sym (expr.rolls-MethodCall (erased_expr receiver) (erased_ident method) (map erased_argument turbofish) (map erased_expr args) CallSite)
expr-bare (Expr-F.Field base member span) = ap erased_expr (expr.rolls-Field base member span) ∙ bare_expr-Field base member span ∙ sym (expr.rolls-Field (erased_expr base) (erased_member member) CallSite)
expr-bare (Expr-F.Index base at span) = ap erased_expr (expr.rolls-Index base at span) ∙ bare_expr-Index base at span ∙ sym (expr.rolls-Index (erased_expr base) (erased_expr at) CallSite)
expr-bare (Expr-F.Try inner span) = ap erased_expr (expr.rolls-Try inner span) ∙ bare_expr-Try inner span ∙ sym (expr.rolls-Try (erased_expr inner) CallSite)
expr-bare (Expr-F.Range it) = ap erased_expr (expr.rolls-Range it) ∙ bare_expr-Range it.start it.end it.closed it.span ∙ sym (expr.rolls-Range (record { start = option_map erased_expr it.start; end = option_map erased_expr it.end; closed = it.closed; span = CallSite }))
expr-bare (Expr-F.Closure it) = ap erased_expr (expr.rolls-Closure it) ∙ bare_expr-Closure it.tokens it.body it.span ∙ sym (expr.rolls-Closure (record { tokens = erased_stream it.tokens; body = erased_expr it.body; span = CallSite }))
expr-bare (Expr-F.Block stmts last span) = ap erased_expr (expr.rolls-Block stmts last span) ∙ bare_expr-Block stmts last span ∙ sym (expr.rolls-Block (map erased_expr stmts) (option_map erased_expr last) CallSite)
expr-bare (Expr-F.Expr::Infer span) = ap erased_expr (expr.rolls-Infer span) ∙ bare_expr-Infer span ∙ sym (expr.rolls-Infer CallSite)
expr-bare (Expr-F.Verbatim it) = ap erased_expr (expr.rolls-Verbatim it) ∙ bare_expr-Verbatim it ∙ sym (expr.rolls-Verbatim (erased_stream it))

-- the number of the variant
abbrev tag : ExprLayer → ℕ
tag (Expr-F.Lit _) = 0
tag (Expr-F.Expr::Path _) = 1
tag (Expr-F.Expr::Array _) = 2
tag (Expr-F.Repeat _ _ _) = 3
tag (Expr-F.Expr::Tuple _ _) = 4
tag (Expr-F.Expr::Paren _ _) = 5
tag (Expr-F.Expr::Group _ _) = 6
tag (Expr-F.Unary _ _ _) = 7
tag (Expr-F.Expr::Reference _ _ _) = 8
tag (Expr-F.Binary _ _ _ _) = 9
tag (Expr-F.Call _ _ _) = 10
tag (Expr-F.MethodCall _ _ _ _ _) = 11
tag (Expr-F.Field _ _ _) = 12
tag (Expr-F.Index _ _ _) = 13
tag (Expr-F.Try _ _) = 14
tag (Expr-F.Range _) = 15
tag (Expr-F.Closure _) = 16
tag (Expr-F.Block _ _ _) = 17
tag (Expr-F.Expr::Infer _) = 18
tag (Expr-F.Verbatim _) = 19

same_Lit : {it it' : Lit} → ◌≡◌ {A = ExprLayer} (Expr-F.Lit it) (Expr-F.Lit it') → it ≡ it'
same_Lit e = cc

same_Path : {it it' : ExprPath} → ◌≡◌ {A = ExprLayer} (Expr-F.Expr::Path it) (Expr-F.Expr::Path it') → it ≡ it'
same_Path e = cc

same_Array : {a b : ExprArray Expr} → ◌≡◌ {A = ExprLayer} (Expr-F.Expr::Array a) (Expr-F.Expr::Array b) → a ≡ b
same_Array e = cc

same_Repeat : {elem elem' : Expr} {len len' : Expr} {span span' : Span} → ◌≡◌ {A = ExprLayer} (Expr-F.Repeat elem len span) (Expr-F.Repeat elem' len' span') → (elem ≡ elem') × (len ≡ len')
same_Repeat e = (cc, cc)

same_Tuple : {elems elems' : List Expr} {span span' : Span} → ◌≡◌ {A = ExprLayer} (Expr-F.Expr::Tuple elems span) (Expr-F.Expr::Tuple elems' span') → elems ≡ elems'
same_Tuple e = cc

same_Paren : {inner inner' : Expr} {span span' : Span} → ◌≡◌ {A = ExprLayer} (Expr-F.Expr::Paren inner span) (Expr-F.Expr::Paren inner' span') → inner ≡ inner'
same_Paren e = cc

same_Group : {inner inner' : Expr} {span span' : Span} → ◌≡◌ {A = ExprLayer} (Expr-F.Expr::Group inner span) (Expr-F.Expr::Group inner' span') → inner ≡ inner'
same_Group e = cc

same_Unary : {op op' : UnOp} {operand operand' : Expr} {span span' : Span} → ◌≡◌ {A = ExprLayer} (Expr-F.Unary op operand span) (Expr-F.Unary op' operand' span') → (op ≡ op') × (operand ≡ operand')
same_Unary e = (cc, cc)

same_Reference : {mutable mutable' : Bool} {operand operand' : Expr} {span span' : Span} → ◌≡◌ {A = ExprLayer} (Expr-F.Expr::Reference mutable operand span) (Expr-F.Expr::Reference mutable' operand' span') → (mutable ≡ mutable') × (operand ≡ operand')
same_Reference e = (cc, cc)

same_Binary : {left left' : Expr} {op op' : BinOp} {right right' : Expr} {span span' : Span} → ◌≡◌ {A = ExprLayer} (Expr-F.Binary left op right span) (Expr-F.Binary left' op' right' span') → (left ≡ left') × ((op ≡ op') × (right ≡ right'))
same_Binary e = (cc, (cc, cc))

same_Call : {func func' : Expr} {args args' : List Expr} {span span' : Span} → ◌≡◌ {A = ExprLayer} (Expr-F.Call func args span) (Expr-F.Call func' args' span') → (func ≡ func') × (args ≡ args')
same_Call e = (cc, cc)

same_MethodCall : {receiver receiver' : Expr} {method method' : Ident} {turbofish turbofish' : List GenericArgument} {args args' : List Expr} {span span' : Span} → ◌≡◌ {A = ExprLayer} (Expr-F.MethodCall receiver method turbofish args span) (Expr-F.MethodCall receiver' method' turbofish' args' span') → (receiver ≡ receiver') × ((method ≡ method') × ((turbofish ≡ turbofish') × (args ≡ args')))
same_MethodCall e = (cc, (cc, (cc, cc)))

same_Field : {base base' : Expr} {member member' : Member} {span span' : Span} → ◌≡◌ {A = ExprLayer} (Expr-F.Field base member span) (Expr-F.Field base' member' span') → (base ≡ base') × (member ≡ member')
same_Field e = (cc, cc)

same_Index : {base base' : Expr} {at at' : Expr} {span span' : Span} → ◌≡◌ {A = ExprLayer} (Expr-F.Index base at span) (Expr-F.Index base' at' span') → (base ≡ base') × (at ≡ at')
same_Index e = (cc, cc)

same_Try : {inner inner' : Expr} {span span' : Span} → ◌≡◌ {A = ExprLayer} (Expr-F.Try inner span) (Expr-F.Try inner' span') → inner ≡ inner'
same_Try e = cc

same_Range : {a b : ExprRange Expr} → ◌≡◌ {A = ExprLayer} (Expr-F.Range a) (Expr-F.Range b) → a ≡ b
same_Range e = cc

same_Closure : {a b : ExprClosure Expr} → ◌≡◌ {A = ExprLayer} (Expr-F.Closure a) (Expr-F.Closure b) → a ≡ b
same_Closure e = cc

same_Block : {stmts stmts' : List Expr} {last last' : Option Expr} {span span' : Span} → ◌≡◌ {A = ExprLayer} (Expr-F.Block stmts last span) (Expr-F.Block stmts' last' span') → (stmts ≡ stmts') × (last ≡ last')
same_Block e = (cc, cc)

same_Verbatim : {it it' : TokenStream} → ◌≡◌ {A = ExprLayer} (Expr-F.Verbatim it) (Expr-F.Verbatim it') → it ≡ it'
same_Verbatim e = cc

pair-Lit : (it : Lit) (z : ExprLayer) (a b : Expr) → out-Expr a ≡ forget_expr (Expr-F.Lit it) → out-Expr b ≡ z → Decides (expr_eq.ghosts.eq a b) (bare_expr (forget_expr (Expr-F.Lit it)) ≡ bare_expr z)
pair-Lit it (Expr-F.Lit it') a b ha hb = told (rw (ha, hb) at (expr_laws.is a b)) (lit_told it it') (λ p. λ i. Expr-F.Lit (p i)) (λ e. same_Lit e)
pair-Lit it z a b ha hb = neither (rw (ha, hb) at (expr_laws.is a b)) (λ e. clash (ap tag e) refl)

pair-Path : (it : SureExprPath) (z : ExprLayer) (a b : Expr) → out-Expr a ≡ forget_expr (Expr-F.Expr::Path it) → out-Expr b ≡ z → Decides (expr_eq.ghosts.eq a b) (bare_expr (forget_expr (Expr-F.Expr::Path it)) ≡ bare_expr z)
pair-Path it (Expr-F.Expr::Path it') a b ha hb = told (rw (ha, hb) at (expr_laws.is a b)) (it.1 it') (λ p. λ i. Expr-F.Expr::Path (p i)) (λ e. same_Path e)
pair-Path it z a b ha hb = neither (rw (ha, hb) at (expr_laws.is a b)) (λ e. clash (ap tag e) refl)

pair-Array : (x : ExprArray SureExpr) (z : ExprLayer) (a b : Expr) → out-Expr a ≡ forget_expr (Expr-F.Expr::Array x) → out-Expr b ≡ z → Decides (expr_eq.ghosts.eq a b) (bare_expr (forget_expr (Expr-F.Expr::Array x)) ≡ bare_expr z)
pair-Array x (Expr-F.Expr::Array z) a b ha hb = told (rw (ha, hb) at (expr_laws.is a b)) (lists expr_eq.ghosts.eq erased_expr x.elems z.elems) (λ p. λ i. Expr-F.Expr::Array (record { elems = p i; span = CallSite })) (λ e. ap (λ (it : ExprArray Expr). it.elems) (same_Array e))
pair-Array x z a b ha hb = neither (rw (ha, hb) at (expr_laws.is a b)) (λ e. clash (ap tag e) refl)

pair-Repeat : (elem : SureExpr) (len : SureExpr) (span : Span) (z : ExprLayer) (a b : Expr) → out-Expr a ≡ forget_expr (Expr-F.Repeat elem len span) → out-Expr b ≡ z → Decides (expr_eq.ghosts.eq a b) (bare_expr (forget_expr (Expr-F.Repeat elem len span)) ≡ bare_expr z)
pair-Repeat elem len span (Expr-F.Repeat elem' len' span') a b ha hb = told (rw (ha, hb) at (expr_laws.is a b)) (both (elem.1 elem') (len.1 len')) (λ p. λ i. Expr-F.Repeat (p.0 i) (p.1 i) CallSite) (λ e. same_Repeat e)
pair-Repeat elem len span z a b ha hb = neither (rw (ha, hb) at (expr_laws.is a b)) (λ e. clash (ap tag e) refl)

pair-Tuple : (elems : List SureExpr) (span : Span) (z : ExprLayer) (a b : Expr) → out-Expr a ≡ forget_expr (Expr-F.Expr::Tuple elems span) → out-Expr b ≡ z → Decides (expr_eq.ghosts.eq a b) (bare_expr (forget_expr (Expr-F.Expr::Tuple elems span)) ≡ bare_expr z)
pair-Tuple elems span (Expr-F.Expr::Tuple elems' span') a b ha hb = told (rw (ha, hb) at (expr_laws.is a b)) (lists expr_eq.ghosts.eq erased_expr elems elems') (λ p. λ i. Expr-F.Expr::Tuple (p i) CallSite) (λ e. same_Tuple e)
pair-Tuple elems span z a b ha hb = neither (rw (ha, hb) at (expr_laws.is a b)) (λ e. clash (ap tag e) refl)

pair-Paren : (inner : SureExpr) (span : Span) (z : ExprLayer) (a b : Expr) → out-Expr a ≡ forget_expr (Expr-F.Expr::Paren inner span) → out-Expr b ≡ z → Decides (expr_eq.ghosts.eq a b) (bare_expr (forget_expr (Expr-F.Expr::Paren inner span)) ≡ bare_expr z)
pair-Paren inner span (Expr-F.Expr::Paren inner' span') a b ha hb = told (rw (ha, hb) at (expr_laws.is a b)) (inner.1 inner') (λ p. λ i. Expr-F.Expr::Paren (p i) CallSite) (λ e. same_Paren e)
pair-Paren inner span z a b ha hb = neither (rw (ha, hb) at (expr_laws.is a b)) (λ e. clash (ap tag e) refl)

pair-Group : (inner : SureExpr) (span : Span) (z : ExprLayer) (a b : Expr) → out-Expr a ≡ forget_expr (Expr-F.Expr::Group inner span) → out-Expr b ≡ z → Decides (expr_eq.ghosts.eq a b) (bare_expr (forget_expr (Expr-F.Expr::Group inner span)) ≡ bare_expr z)
pair-Group inner span (Expr-F.Expr::Group inner' span') a b ha hb = told (rw (ha, hb) at (expr_laws.is a b)) (inner.1 inner') (λ p. λ i. Expr-F.Expr::Group (p i) CallSite) (λ e. same_Group e)
pair-Group inner span z a b ha hb = neither (rw (ha, hb) at (expr_laws.is a b)) (λ e. clash (ap tag e) refl)

pair-Unary : (op : UnOp) (operand : SureExpr) (span : Span) (z : ExprLayer) (a b : Expr) → out-Expr a ≡ forget_expr (Expr-F.Unary op operand span) → out-Expr b ≡ z → Decides (expr_eq.ghosts.eq a b) (bare_expr (forget_expr (Expr-F.Unary op operand span)) ≡ bare_expr z)
pair-Unary op operand span (Expr-F.Unary op' operand' span') a b ha hb = told (rw (ha, hb) at (expr_laws.is a b)) (both (un_op_told op op') (operand.1 operand')) (λ p. λ i. Expr-F.Unary (p.0 i) (p.1 i) CallSite) (λ e. same_Unary e)
pair-Unary op operand span z a b ha hb = neither (rw (ha, hb) at (expr_laws.is a b)) (λ e. clash (ap tag e) refl)

pair-Reference : (mutable : Bool) (operand : SureExpr) (span : Span) (z : ExprLayer) (a b : Expr) → out-Expr a ≡ forget_expr (Expr-F.Expr::Reference mutable operand span) → out-Expr b ≡ z → Decides (expr_eq.ghosts.eq a b) (bare_expr (forget_expr (Expr-F.Expr::Reference mutable operand span)) ≡ bare_expr z)
pair-Reference mutable operand span (Expr-F.Expr::Reference mutable' operand' span') a b ha hb = told (rw (ha, hb) at (expr_laws.is a b)) (both (bool_told mutable mutable') (operand.1 operand')) (λ p. λ i. Expr-F.Expr::Reference (p.0 i) (p.1 i) CallSite) (λ e. same_Reference e)
pair-Reference mutable operand span z a b ha hb = neither (rw (ha, hb) at (expr_laws.is a b)) (λ e. clash (ap tag e) refl)

pair-Binary : (left : SureExpr) (op : BinOp) (right : SureExpr) (span : Span) (z : ExprLayer) (a b : Expr) → out-Expr a ≡ forget_expr (Expr-F.Binary left op right span) → out-Expr b ≡ z → Decides (expr_eq.ghosts.eq a b) (bare_expr (forget_expr (Expr-F.Binary left op right span)) ≡ bare_expr z)
pair-Binary left op right span (Expr-F.Binary left' op' right' span') a b ha hb = told (rw (ha, hb) at (expr_laws.is a b)) (both (left.1 left') (both (bin_op_told op op') (right.1 right'))) (λ p. λ i. Expr-F.Binary (p.0 i) (p.1.0 i) (p.1.1 i) CallSite) (λ e. same_Binary e)
pair-Binary left op right span z a b ha hb = neither (rw (ha, hb) at (expr_laws.is a b)) (λ e. clash (ap tag e) refl)

pair-Call : (func : SureExpr) (args : List SureExpr) (span : Span) (z : ExprLayer) (a b : Expr) → out-Expr a ≡ forget_expr (Expr-F.Call func args span) → out-Expr b ≡ z → Decides (expr_eq.ghosts.eq a b) (bare_expr (forget_expr (Expr-F.Call func args span)) ≡ bare_expr z)
pair-Call func args span (Expr-F.Call func' args' span') a b ha hb = told (rw (ha, hb) at (expr_laws.is a b)) (both (func.1 func') (lists expr_eq.ghosts.eq erased_expr args args')) (λ p. λ i. Expr-F.Call (p.0 i) (p.1 i) CallSite) (λ e. same_Call e)
pair-Call func args span z a b ha hb = neither (rw (ha, hb) at (expr_laws.is a b)) (λ e. clash (ap tag e) refl)

pair-MethodCall : (receiver : SureExpr) (method : Ident) (turbofish : List SureGenericArgument) (args : List SureExpr) (span : Span) (z : ExprLayer) (a b : Expr) → out-Expr a ≡ forget_expr (Expr-F.MethodCall receiver method turbofish args span) → out-Expr b ≡ z → Decides (expr_eq.ghosts.eq a b) (bare_expr (forget_expr (Expr-F.MethodCall receiver method turbofish args span)) ≡ bare_expr z)
pair-MethodCall receiver method turbofish args span (Expr-F.MethodCall receiver' method' turbofish' args' span') a b ha hb = told (rw (ha, hb) at (expr_laws.is a b)) (both (receiver.1 receiver') (both (ident_told method method') (both (lists argument_eq.ghosts.eq erased_argument turbofish turbofish') (lists expr_eq.ghosts.eq erased_expr args args')))) (λ p. λ i. Expr-F.MethodCall (p.0 i) (p.1.0 i) (p.1.1.0 i) (p.1.1.1 i) CallSite) (λ e. same_MethodCall e)
pair-MethodCall receiver method turbofish args span z a b ha hb = neither (rw (ha, hb) at (expr_laws.is a b)) (λ e. clash (ap tag e) refl)

pair-Field : (base : SureExpr) (member : Member) (span : Span) (z : ExprLayer) (a b : Expr) → out-Expr a ≡ forget_expr (Expr-F.Field base member span) → out-Expr b ≡ z → Decides (expr_eq.ghosts.eq a b) (bare_expr (forget_expr (Expr-F.Field base member span)) ≡ bare_expr z)
pair-Field base member span (Expr-F.Field base' member' span') a b ha hb = told (rw (ha, hb) at (expr_laws.is a b)) (both (base.1 base') (member_told member member')) (λ p. λ i. Expr-F.Field (p.0 i) (p.1 i) CallSite) (λ e. same_Field e)
pair-Field base member span z a b ha hb = neither (rw (ha, hb) at (expr_laws.is a b)) (λ e. clash (ap tag e) refl)

pair-Index : (base : SureExpr) (at : SureExpr) (span : Span) (z : ExprLayer) (a b : Expr) → out-Expr a ≡ forget_expr (Expr-F.Index base at span) → out-Expr b ≡ z → Decides (expr_eq.ghosts.eq a b) (bare_expr (forget_expr (Expr-F.Index base at span)) ≡ bare_expr z)
pair-Index base at span (Expr-F.Index base' at' span') a b ha hb = told (rw (ha, hb) at (expr_laws.is a b)) (both (base.1 base') (at.1 at')) (λ p. λ i. Expr-F.Index (p.0 i) (p.1 i) CallSite) (λ e. same_Index e)
pair-Index base at span z a b ha hb = neither (rw (ha, hb) at (expr_laws.is a b)) (λ e. clash (ap tag e) refl)

pair-Try : (inner : SureExpr) (span : Span) (z : ExprLayer) (a b : Expr) → out-Expr a ≡ forget_expr (Expr-F.Try inner span) → out-Expr b ≡ z → Decides (expr_eq.ghosts.eq a b) (bare_expr (forget_expr (Expr-F.Try inner span)) ≡ bare_expr z)
pair-Try inner span (Expr-F.Try inner' span') a b ha hb = told (rw (ha, hb) at (expr_laws.is a b)) (inner.1 inner') (λ p. λ i. Expr-F.Try (p i) CallSite) (λ e. same_Try e)
pair-Try inner span z a b ha hb = neither (rw (ha, hb) at (expr_laws.is a b)) (λ e. clash (ap tag e) refl)

abbrev range : Option SureExpr → Option SureExpr → Bool → Span → SureExprLayer
range start end closed span = Expr-F.Range (record { start = start; end = end; closed = closed; span = span })

range_pair : (start end : Option SureExpr) (closed : Bool) (span : Span) (z : ExprRange Expr) (a b : Expr) → out-Expr a ≡ forget_expr (range start end closed span) → out-Expr b ≡ Expr-F.Range z → Decides (expr_eq.ghosts.eq a b) (bare_expr (forget_expr (range start end closed span)) ≡ bare_expr (Expr-F.Range z))
range_pair None None closed span z a b ha hb =
    told (rw (ha, hb) at (expr_laws.is a b)) (both (options expr_eq.ghosts.eq erased_expr None z.start) (both (options expr_eq.ghosts.eq erased_expr None z.end) (bool_told closed z.closed)))
    (λ p. λ i. Expr-F.Range (record { start = p.0 i; end = p.1.0 i; closed = p.1.1 i; span = CallSite })) (λ e. (ap (λ (it : ExprRange Expr). it.start) (same_Range e), (ap (λ (it : ExprRange Expr). it.end) (same_Range e), ap (λ (it : ExprRange Expr). it.closed) (same_Range e))))
range_pair None (Some end) closed span z a b ha hb =
    told (rw (ha, hb) at (expr_laws.is a b)) (both (options expr_eq.ghosts.eq erased_expr None z.start) (both (options expr_eq.ghosts.eq erased_expr (Some end) z.end) (bool_told closed z.closed)))
    (λ p. λ i. Expr-F.Range (record { start = p.0 i; end = p.1.0 i; closed = p.1.1 i; span = CallSite })) (λ e. (ap (λ (it : ExprRange Expr). it.start) (same_Range e), (ap (λ (it : ExprRange Expr). it.end) (same_Range e), ap (λ (it : ExprRange Expr). it.closed) (same_Range e))))
range_pair (Some start) None closed span z a b ha hb =
    told (rw (ha, hb) at (expr_laws.is a b)) (both (options expr_eq.ghosts.eq erased_expr (Some start) z.start) (both (options expr_eq.ghosts.eq erased_expr None z.end) (bool_told closed z.closed)))
    (λ p. λ i. Expr-F.Range (record { start = p.0 i; end = p.1.0 i; closed = p.1.1 i; span = CallSite })) (λ e. (ap (λ (it : ExprRange Expr). it.start) (same_Range e), (ap (λ (it : ExprRange Expr). it.end) (same_Range e), ap (λ (it : ExprRange Expr). it.closed) (same_Range e))))
range_pair (Some start) (Some end) closed span z a b ha hb =
    told (rw (ha, hb) at (expr_laws.is a b)) (both (options expr_eq.ghosts.eq erased_expr (Some start) z.start) (both (options expr_eq.ghosts.eq erased_expr (Some end) z.end) (bool_told closed z.closed)))
    (λ p. λ i. Expr-F.Range (record { start = p.0 i; end = p.1.0 i; closed = p.1.1 i; span = CallSite })) (λ e. (ap (λ (it : ExprRange Expr). it.start) (same_Range e), (ap (λ (it : ExprRange Expr). it.end) (same_Range e), ap (λ (it : ExprRange Expr). it.closed) (same_Range e))))

pair-Range : (x : ExprRange SureExpr) (z : ExprLayer) (a b : Expr) → out-Expr a ≡ forget_expr (Expr-F.Range x) → out-Expr b ≡ z → Decides (expr_eq.ghosts.eq a b) (bare_expr (forget_expr (Expr-F.Range x)) ≡ bare_expr z)
pair-Range x (Expr-F.Range z) a b ha hb = range_pair x.start x.end x.closed x.span z a b ha hb
pair-Range x z a b ha hb = neither (rw (ha, hb) at (expr_laws.is a b)) (λ e. clash (ap tag e) refl)

pair-Closure : (x : ExprClosure SureExpr) (z : ExprLayer) (a b : Expr) → out-Expr a ≡ forget_expr (Expr-F.Closure x) → out-Expr b ≡ z → Decides (expr_eq.ghosts.eq a b) (bare_expr (forget_expr (Expr-F.Closure x)) ≡ bare_expr z)
pair-Closure x (Expr-F.Closure z) a b ha hb = told (rw (ha, hb) at (expr_laws.is a b)) (both (stream_told x.tokens z.tokens) (x.body.1 z.body)) (λ p. λ i. Expr-F.Closure (record { tokens = p.0 i; body = p.1 i; span = CallSite })) (λ e. (ap (λ (it : ExprClosure Expr). it.tokens) (same_Closure e), ap (λ (it : ExprClosure Expr). it.body) (same_Closure e)))
pair-Closure x z a b ha hb = neither (rw (ha, hb) at (expr_laws.is a b)) (λ e. clash (ap tag e) refl)

block_pair : (stmts : List SureExpr) (last : Option SureExpr) (span : Span) (stmts' : List Expr) (last' : Option Expr) (span' : Span) (a b : Expr) → out-Expr a ≡ forget_expr (Expr-F.Block stmts last span) → out-Expr b ≡ Expr-F.Block stmts' last' span' → Decides (expr_eq.ghosts.eq a b) (bare_expr (forget_expr (Expr-F.Block stmts last span)) ≡ bare_expr (Expr-F.Block stmts' last' span'))
block_pair stmts None span stmts' last' span' a b ha hb =
    told (rw (ha, hb) at (expr_laws.is a b)) (both (lists expr_eq.ghosts.eq erased_expr stmts stmts') (options expr_eq.ghosts.eq erased_expr None last')) (λ p. λ i. Expr-F.Block (p.0 i) (p.1 i) CallSite) (λ e. same_Block e)
block_pair stmts (Some last) span stmts' last' span' a b ha hb =
    told (rw (ha, hb) at (expr_laws.is a b)) (both (lists expr_eq.ghosts.eq erased_expr stmts stmts') (options expr_eq.ghosts.eq erased_expr (Some last) last')) (λ p. λ i. Expr-F.Block (p.0 i) (p.1 i) CallSite) (λ e. same_Block e)

pair-Block : (stmts : List SureExpr) (last : Option SureExpr) (span : Span) (z : ExprLayer) (a b : Expr) → out-Expr a ≡ forget_expr (Expr-F.Block stmts last span) → out-Expr b ≡ z → Decides (expr_eq.ghosts.eq a b) (bare_expr (forget_expr (Expr-F.Block stmts last span)) ≡ bare_expr z)
pair-Block stmts last span (Expr-F.Block stmts' last' span') a b ha hb = block_pair stmts last span stmts' last' span' a b ha hb
pair-Block stmts last span z a b ha hb = neither (rw (ha, hb) at (expr_laws.is a b)) (λ e. clash (ap tag e) refl)

pair-Infer : (span : Span) (z : ExprLayer) (a b : Expr) → out-Expr a ≡ forget_expr (Expr-F.Expr::Infer span) → out-Expr b ≡ z → Decides (expr_eq.ghosts.eq a b) (bare_expr (forget_expr (Expr-F.Expr::Infer span)) ≡ bare_expr z)
pair-Infer span (Expr-F.Expr::Infer span') a b ha hb = told (rw (ha, hb) at (expr_laws.is a b)) always (λ p. refl) (λ e. tt)
pair-Infer span z a b ha hb = neither (rw (ha, hb) at (expr_laws.is a b)) (λ e. clash (ap tag e) refl)

pair-Verbatim : (it : TokenStream) (z : ExprLayer) (a b : Expr) → out-Expr a ≡ forget_expr (Expr-F.Verbatim it) → out-Expr b ≡ z → Decides (expr_eq.ghosts.eq a b) (bare_expr (forget_expr (Expr-F.Verbatim it)) ≡ bare_expr z)
pair-Verbatim it (Expr-F.Verbatim it') a b ha hb = told (rw (ha, hb) at (expr_laws.is a b)) (stream_told it it') (λ p. λ i. Expr-F.Verbatim (p i)) (λ e. same_Verbatim e)
pair-Verbatim it z a b ha hb = neither (rw (ha, hb) at (expr_laws.is a b)) (λ e. clash (ap tag e) refl)

pair : (y : SureExprLayer) (z : ExprLayer) (a b : Expr) → out-Expr a ≡ forget_expr (y) → out-Expr b ≡ z → Decides (expr_eq.ghosts.eq a b) (bare_expr (forget_expr (y)) ≡ bare_expr z)
pair (Expr-F.Lit it) = pair-Lit it
pair (Expr-F.Expr::Path it) = pair-Path it
pair (Expr-F.Expr::Array x) = pair-Array x
pair (Expr-F.Repeat elem len span) = pair-Repeat elem len span
pair (Expr-F.Expr::Tuple elems span) = pair-Tuple elems span
pair (Expr-F.Expr::Paren inner span) = pair-Paren inner span
pair (Expr-F.Expr::Group inner span) = pair-Group inner span
pair (Expr-F.Unary op operand span) = pair-Unary op operand span
pair (Expr-F.Expr::Reference mutable operand span) = pair-Reference mutable operand span
pair (Expr-F.Binary left op right span) = pair-Binary left op right span
pair (Expr-F.Call func args span) = pair-Call func args span
pair (Expr-F.MethodCall receiver method turbofish args span) = pair-MethodCall receiver method turbofish args span
pair (Expr-F.Field base member span) = pair-Field base member span
pair (Expr-F.Index base at span) = pair-Index base at span
pair (Expr-F.Try inner span) = pair-Try inner span
pair (Expr-F.Range x) = pair-Range x
pair (Expr-F.Closure x) = pair-Closure x
pair (Expr-F.Block stmts last span) = pair-Block stmts last span
pair (Expr-F.Expr::Infer span) = pair-Infer span
pair (Expr-F.Verbatim it) = pair-Verbatim it

pub expr_at : (y : SureExprLayer) → Told expr_eq.ghosts.eq erased_expr (roll-Expr (forget_expr y))
expr_at y = layered roll-Expr out-Expr roll-out-Expr out-roll-Expr expr_eq.ghosts.eq erased_expr bare_expr expr-bare (forget_expr y) (pair y)
