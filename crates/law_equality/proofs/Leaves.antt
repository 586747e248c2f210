-- Of what has no tokens or nodes in it but one.
use Rattle.std.proofs.Common.{◌≡◌, ℕ, Bool, List, map, Option, option_map, nat_eq, rules}
use Rattle.std.specs.Bool.{Decides}
use Rattle.std.specs.Cmp.Lexicographic.{pointwise}
use Rattle.std.specs.Option.{option_eq}
use mathlib.Core.Bool.{beq}
use Rattle.tok_types.specs.contracts.ident.IdentPartialEq.TheImpl as ident_eq
use Rattle.tok_types.specs.contracts.ident.LifetimePartialEq.TheImpl as lifetime_eq
use Rattle.tok_types.specs.contracts.tree.DelimiterPartialEq.TheImpl as delimiter_eq
use Rattle.tok_types.specs.contracts.tree.LiteralPartialEq.TheImpl as literal_eq
use Rattle.tok_types.specs.contracts.tree.PunctPartialEq.TheImpl as punct_eq
use Rattle.tok_types.specs.declared.ident.Ident.{Ident}
use Rattle.tok_types.specs.declared.ident.Lifetime.{Lifetime}
use Rattle.tok_types.specs.declared.tree.Delimiter.{Delimiter}
use Rattle.tok_types.specs.declared.tree.Literal.{Literal}
use Rattle.tok_types.specs.declared.tree.Punct.{Punct}
use Rattle.node_expr.specs.contracts.expr.BinOpPartialEq.TheImpl as bin_op_eq
use Rattle.node_expr.specs.contracts.expr.MemberPartialEq.TheImpl as member_eq
use Rattle.node_expr.specs.contracts.expr.UnOpPartialEq.TheImpl as un_op_eq
use Rattle.node_expr.specs.contracts.lit.LitPartialEq.TheImpl as lit_eq
use Rattle.node_expr.specs.declared.expr.BinOp.{BinOp}
use Rattle.node_expr.specs.declared.expr.Member.{Member}
use Rattle.node_expr.specs.declared.expr.UnOp.{UnOp}
use Rattle.node_expr.specs.declared.lit.Lit.{Lit}
use Rattle.node_expr.specs.declared.ty.ReturnType.{ReturnType}
use Rattle.node_expr.specs.declared.ty.ReturnType.TheVariants as output
use Rattle.law_spans.specs.Erased.{erased_ident, erased_lifetime, erased_lit, erased_literal, erased_member}
use Rattle.law_equality.specs.Erased.{erased_punct}
use Rattle.law_equality.proofs.Deciding.{Told, list_told, option_told}

pub bool_told : (a b : Bool) → Decides (beq a b) (a ≡ b)
bool_told a b = search rules

pub position_told : (a b : ℕ) → Decides (nat_eq a b) (a ≡ b)
position_told a b = search rules

pub delimiter_told : (a b : Delimiter) → Decides (delimiter_eq.ghosts.eq a b) (a ≡ b)
delimiter_told a b = search rules

pub un_op_told : (a b : UnOp) → Decides (un_op_eq.ghosts.eq a b) (a ≡ b)
un_op_told a b = search rules

pub bin_op_told : (a b : BinOp) → Decides (bin_op_eq.ghosts.eq a b) (a ≡ b)
bin_op_told a b = search rules

pub ident_told : (a : Ident) → Told ident_eq.ghosts.eq erased_ident a
ident_told a b = search rules

pub lifetime_told : (a : Lifetime) → Told lifetime_eq.ghosts.eq erased_lifetime a
lifetime_told a b = search rules

pub punct_told : (a : Punct) → Told punct_eq.ghosts.eq erased_punct a
punct_told a b = search rules

pub literal_told : (a : Literal) → Told literal_eq.ghosts.eq erased_literal a
literal_told a b = search rules

pub lit_told : (a : Lit) → Told lit_eq.ghosts.eq erased_lit a
lit_told a b = search rules

pub member_told : (a : Member) → Told member_eq.ghosts.eq erased_member a
member_told a b = search rules

pub option_ident_told : (a b : Option Ident) → Decides (option_eq ident_eq.ghosts.eq a b) (option_map erased_ident a ≡ option_map erased_ident b)
option_ident_told = option_told ident_eq.ghosts.eq erased_ident ident_told

pub option_lifetime_told : (a b : Option Lifetime) → Decides (option_eq lifetime_eq.ghosts.eq a b) (option_map erased_lifetime a ≡ option_map erased_lifetime b)
option_lifetime_told = option_told lifetime_eq.ghosts.eq erased_lifetime lifetime_told

pub lifetimes_told : (a b : List Lifetime) → Decides (pointwise lifetime_eq.ghosts.eq a b) (map erased_lifetime a ≡ map erased_lifetime b)
lifetimes_told = list_told lifetime_eq.ghosts.eq erased_lifetime lifetime_told

-- two results of functions
pub same_output : {A : Type 0} {a b : A} → ◌≡◌ {A = ReturnType A} (output.Ty a) (output.Ty b) → a ≡ b
same_output e = cc

pub apart_outputs : {A : Type 0} {a : A} → ◌≡◌ {A = ReturnType A} (output.Ty a) output.Default → ⊥
apart_outputs e = cc
