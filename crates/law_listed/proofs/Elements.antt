-- The literals in a value are items of some list.
use Rattle.std.proofs.Common.{◌≡◌, Option, Some, None, refl, subst}
use Rattle.std.proofs.lemmas.List.Elements.{All-contains}
use Rattle.tok_types.specs.declared.tree.TokenStream.{TokenStream, out-TokenStream}
use Rattle.node_expr.specs.Kinds.{array_in}
use Rattle.node_expr.specs.declared.expr.Expr.{Expr, out-Expr}
use Rattle.node_expr.specs.declared.expr.ExprArray.{ExprArray}
use Rattle.node_expr.specs.declared.lit.Lit.{Lit}
use Rattle.node_core.specs.declared.attr.Meta.TheVariants as meta
use Rattle.node_core.specs.declared.attr.MetaNameValue.{MetaNameValue}
use Rattle.syn_grammar.specs.Grammar.{max_depth}
use Rattle.syn_grammar.specs.Input.{start_of}
use Rattle.syn_grammar.specs.Readers.{any_level}
use Rattle.syn_grammar.specs.Trees.{expr_of, expr_array_of, of_kind}
use Rattle.meta_nested.specs.declared.nested.NestedMeta.TheVariants as nested
use Rattle.meta_nested.specs.Groups.{without_groups}
use Rattle.law_listed.specs.Listed.{IsListed, IsListedLit, HasListed}
use Rattle.law_listed.proofs.Exprs.{OnTokens, within-lits}
use Rattle.law_listed.proofs.Finds.{all-finds}
use Rattle.law_listed.proofs.Items.{token-listed, truth-listed, number-listed}
use Rattle.law_listed.proofs.Literals.{OnBareLits, OnLits, array-bare}
use Rattle.law_listed.proofs.Values.{OnPair, nested_of-said, value_in-lits}

-- the literal is an item of some list
abbrev pub IsItem : Lit → Type 0
IsItem literal = IsListed (nested.Lit literal)

pub tokens-listed : OnTokens IsItem
tokens-listed = record { tokens = token-listed; truths = truth-listed }

-- of the value of an item
pub value-lits : (pair : MetaNameValue) → IsListed (nested.Meta (meta.NameValue pair)) → OnBareLits IsItem pair.value
value-lits pair listed = All-contains (OnPair (OnBareLits IsItem)) listed.items (nested.Meta (meta.NameValue pair))
    (nested_of-said (value_in-lits tokens-listed number-listed) listed.tokens listed.items listed.are_items) listed.is_among

-- of the expression that all of some tokens are
pub expr-lits : (tokens : TokenStream) (it : Expr) → expr_of tokens ≡ Some it → OnBareLits IsItem it
unfolding expr_of
expr-lits tokens it e = all-finds (within-lits tokens-listed max_depth any_level) (start_of (out-TokenStream tokens).trees) it e

-- the literal that is the value of an item
pub value_literal : (pair : MetaNameValue) → IsListed (nested.Meta (meta.NameValue pair)) → IsListedLit pair.value
value_literal pair listed = (value-lits pair listed).alone

-- the elements of an array that is the value of an item
pub value_elements : (pair : MetaNameValue) → IsListed (nested.Meta (meta.NameValue pair)) → (array : ExprArray Expr) → array_in (out-Expr (without_groups pair.value)) ≡ Some array → HasListed array
value_elements pair listed = (value-lits pair listed).elements

-- the elements of an array, of which the literals have been told
elements-of : (it : Expr) → OnBareLits IsItem it → (array : ExprArray Expr) → array_in (out-Expr it) ≡ Some array → HasListed array
elements-of it said array e = (subst (OnLits IsItem) (array-bare it array e) said).elements array e

-- the elements of an array that all of some tokens are
pub array_elements : (tokens : TokenStream) (array : ExprArray Expr) → expr_array_of tokens ≡ Some array → HasListed array
unfolding expr_array_of
array_elements tokens array e = by (expr_of tokens) (expr-lits tokens) e
  where
    by : (o : Option Expr) → ((it : Expr) → o ≡ Some it → OnBareLits IsItem it) → of_kind array_in o ≡ Some array → HasListed array
    by None h e = absurd cc
    by (Some it) h e = elements-of it (h it refl) array e
