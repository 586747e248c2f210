-- What is compiled from options under `FromMeta`, beside the options.
use Rattle.std.specs.Prelude.{◌≡◌, false, cond, List, [], ◌∷◌, Option, Some, None, unwrap_or}
use Rattle.std.specs.Option.{option_copied, option_or}
use Rattle.body_core.specs.declared.ast.data.«Data».TheVariants as body
use Rattle.codegen_word.specs.WordClosure.{word_closure}
use Rattle.codegen_core.specs.declared.from_meta_impl.FromMetaImpl.{FromMetaImpl}
use Rattle.codegen_program.specs.declared.callable.Callable.{Callable}
use Rattle.options_meta.specs.declared.from_meta.FromMetaOptions.{FromMetaOptions}
use Rattle.options_members.specs.declared.input_variant.InputVariant.{InputVariant}
use Rattle.options_members.specs.Body.{Body}
use Rattle.options_members.specs.Views.{IsImpl, has_word}

-- the closure of the first variant that a word stands for
abbrev pub worded : List InputVariant → Option Callable
worded [] = None
worded (variant ∷ variants) = cond (has_word variant) (Some (word_closure variant.ident)) (worded variants)

abbrev pub body_word : Body → Option Callable
body_word (body.Struct it) = None
body_word (body.Enum variants) = worded variants

-- what a word alone is read by: what `from_word` names, else the closure of the variant whose word it is
abbrev pub from_word_of : FromMetaOptions → Option Callable
from_word_of it = option_or it.from_word (body_word it.base.body)

-- what is compiled is what the options say
pub record IsMetaImpl (left : FromMetaImpl) (it : FromMetaOptions) : Type 0 where
  pub base : IsImpl left.base it.base
  pub word : left.from_word ≡ from_word_of it
  pub none : option_copied left.from_none ≡ it.from_none
  pub expr : option_copied left.from_expr ≡ it.from_expr
  pub parse : left.derive_syn_parse ≡ unwrap_or it.derive_syn_parse false
