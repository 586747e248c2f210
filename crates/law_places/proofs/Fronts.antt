-- The fronts that take a token stand where their tokens do.
use Rattle.std.proofs.Common.{ℕ, Bool}
use Rattle.tok_types.specs.declared.ident.Ident.{Ident}
use Rattle.node_expr.specs.declared.ty.«Type».{«Type» as Ty}
use Rattle.node_expr.specs.declared.ty.FnArg.{FnArg}
use Rattle.node_expr.specs.declared.ty.NamedArg.{NamedArg}
use Rattle.node_expr.specs.declared.lit.LitInt.{LitInt}
use Rattle.node_span.specs.Spanned.{argument_span, arguments_span, bound_span, expr_span, lifetime_span, path_span, segment_span, type_span}
use Rattle.syn_grammar.specs.Arguments.{fn_arg}
use Rattle.syn_grammar.specs.Expressions.{literal}
use Rattle.syn_grammar.specs.Grammar.{within}
use Rattle.syn_grammar.specs.Input.{take_as}
use Rattle.syn_grammar.specs.Literals.{index_of}
use Rattle.syn_grammar.specs.Paths.{generic_argument, one_bound, parenthesized, path, segment}
use Rattle.syn_grammar.specs.Token.{lifetime_of}
use Rattle.syn_grammar.specs.Types.{named_arg}
use Rattle.syn_grammar.specs.Words.{name_of}
use Rattle.law_prefix.proofs.Paths.{generic_argument-front, one_bound-front, parenthesized-front, path-front, segment-front}
use Rattle.law_prefix.proofs.Atoms.{literal_expr-front}
use Rattle.law_prefix.proofs.Types.{named_arg-front}
use Rattle.law_prefix.proofs.Within.{front-of, within-fronts}
use Rattle.law_prefix.proofs.Words.{index-front, lifetime-front, name-front}
use Rattle.law_places.specs.Stands.{Stands}
use Rattle.law_places.proofs.Arguments.{fn_arg-stood}
use Rattle.law_places.proofs.Atoms.{literal-here}
use Rattle.law_places.proofs.Onward.{stood-of}
use Rattle.law_places.proofs.Paths.{generic_argument-here, one_bound-here, parenthesized-here, path-here, segment-here}
use Rattle.law_places.proofs.Tokens.{index-here, lifetime-here, name-here}
use Rattle.law_places.proofs.Types.{named_arg-here}
use Rattle.law_places.proofs.Wholes.{stands-of}
use Rattle.law_places.proofs.Within.{within-stand}

pub type-stands : (depth : ℕ) (allow_plus : Bool) → Stands type_span ((within depth).ty allow_plus)
type-stands depth allow_plus = stands-of (stood-of ((within-stand depth).ty allow_plus) (front-of ((within-fronts depth).ty allow_plus)))

pub expr-stands : (depth level : ℕ) → Stands expr_span ((within depth).expr level)
expr-stands depth level = stands-of (stood-of ((within-stand depth).expr level) (front-of ((within-fronts depth).expr level)))

pub path-stands : (depth : ℕ) (in_type : Bool) → Stands path_span (path (within depth) in_type)
path-stands depth in_type = stands-of (stood-of (path-here (within depth) (within-stand depth) in_type) (front-of (path-front (within depth) (within-fronts depth) in_type)))

pub segment-stands : (depth : ℕ) (in_type : Bool) → Stands segment_span (segment (within depth) in_type)
segment-stands depth in_type = stands-of (stood-of (segment-here (within depth) (within-stand depth) in_type) (front-of (segment-front (within depth) (within-fronts depth) in_type)))

pub argument-stands : (depth : ℕ) → Stands argument_span (generic_argument (within depth))
argument-stands depth = stands-of (stood-of (generic_argument-here (within depth) (within-stand depth)) (front-of (generic_argument-front (within depth) (within-fronts depth))))

pub bound-stands : (depth : ℕ) → Stands bound_span (one_bound (within depth))
bound-stands depth = stands-of (stood-of (one_bound-here (within depth) (within-stand depth)) (front-of (one_bound-front (within depth) (within-fronts depth))))

pub named_arg-stands : (depth : ℕ) → Stands (λ (it : NamedArg Ty). it.span) (named_arg (within depth))
named_arg-stands depth = stands-of (stood-of (named_arg-here (within depth) (within-stand depth)) (front-of (named_arg-front (within depth) (within-fronts depth))))

pub fn_arg-stands : (depth : ℕ) → Stands (λ (it : FnArg). it.span) (fn_arg (within depth))
fn_arg-stands depth = stands-of (fn_arg-stood (within depth) (within-stand depth))

pub name-stands : Stands (λ (it : Ident). it.span) (take_as name_of)
name-stands = stands-of (stood-of name-here (front-of name-front))

pub lifetime-stands : Stands lifetime_span (take_as lifetime_of)
lifetime-stands = stands-of (stood-of lifetime-here (front-of lifetime-front))

pub literal-stands : Stands expr_span literal
literal-stands = stands-of (stood-of literal-here (front-of literal_expr-front))

pub index-stands : Stands (λ (it : LitInt). it.span) (take_as index_of)
index-stands = stands-of (stood-of index-here (front-of index-front))

pub inputs-stand : (depth : ℕ) → Stands arguments_span (parenthesized (within depth))
inputs-stand depth = stands-of (stood-of (parenthesized-here (within depth) (within-stand depth)) (front-of (parenthesized-front (within depth) (within-fronts depth))))
