-- Which names occur for a purpose.
use Rattle.std.specs.Prelude.{Bool, true, false, not, ◌&&◌, List}
use Rattle.std.specs.List.{list_any}
use Rattle.std.specs.HashSet.{HashSet}
use Rattle.tok_types.specs.declared.ident.Ident.{Ident}
use Rattle.tok_types.specs.declared.ident.Lifetime.{Lifetime}
use Rattle.tok_types.specs.contracts.ident.IdentPartialEq.TheImpl as ident_eq
use Rattle.tok_types.specs.contracts.ident.LifetimePartialEq.TheImpl as lifetime_eq
use Rattle.body_usage.specs.declared.options.Purpose.{Purpose}
use Rattle.body_usage.specs.declared.options.Purpose.TheVariants.{BoundImpl, Declare}
use Rattle.body_usage.specs.Mentions.{Mention, type_param, lifetime}
use Rattle.body_usage.specs.Selected.{IsSelected}

-- a qualified self counts only for `Declare`
abbrev pub counts : Purpose → Bool → Bool
counts Declare in_qself = true
counts BoundImpl in_qself = not in_qself

abbrev pub is_type_param : Purpose → Ident → Mention → Bool
is_type_param purpose name (type_param ident in_qself) = counts purpose in_qself && ident_eq.ghosts.eq name ident
is_type_param purpose name (lifetime it in_qself) = false

abbrev pub is_lifetime : Purpose → Lifetime → Mention → Bool
is_lifetime purpose name (type_param ident in_qself) = false
is_lifetime purpose name (lifetime it in_qself) = counts purpose in_qself && lifetime_eq.ghosts.eq name it

-- a type parameter occurs where it is mentioned
abbrev pub type_param_occurs : Purpose → List Mention → Ident → Bool
type_param_occurs purpose mentions name = list_any (is_type_param purpose name) mentions

-- a lifetime occurs where it is mentioned
abbrev pub lifetime_occurs : Purpose → List Mention → Lifetime → Bool
lifetime_occurs purpose mentions name = list_any (is_lifetime purpose name) mentions

-- the answer has exactly the type parameters of the set that occur
abbrev pub AreUsedTypeParams : {S : Type 0} → Purpose → HashSet Ident S → List Mention → List Ident → Type 0
AreUsedTypeParams purpose set mentions answer = IsSelected ident_eq.ghosts.eq set (type_param_occurs purpose mentions) answer

-- the answer has exactly the lifetimes of the set that occur
abbrev pub AreUsedLifetimes : {S : Type 0} → Purpose → HashSet Lifetime S → List Mention → List Lifetime → Type 0
AreUsedLifetimes purpose set mentions answer = IsSelected lifetime_eq.ghosts.eq set (lifetime_occurs purpose mentions) answer
