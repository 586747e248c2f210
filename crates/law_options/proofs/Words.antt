-- The variant that a word gives does not rest on attributes.
use Rattle.std.proofs.Common.{◌≡◌, ℕ, ◌&&◌, cond, List, [], ◌∷◌, map, Option, Some, None, option_map, refl, ap, ap₂}
use Rattle.node_core.specs.declared.data.Fields.{Fields}
use Rattle.node_core.specs.declared.data.Fields.TheVariants as fields
use Rattle.node_core.specs.declared.data.Variant.{Variant}
use Rattle.node_core.specs.declared.data.«Data».{«Data»}
use Rattle.node_core.specs.declared.data.«Data».TheVariants as body
use Rattle.codegen_program.specs.declared.callable.Callable.{Callable}
use Rattle.machine_steps.specs.Calls.{are_none, is_written, word_closure, word_variant}
use Rattle.run_accepted.specs.Attributes.{body_without, fields_without, variant_without}
use Rattle.options_core.specs.FromMetaOptions.{FromMetaOptions}
use Rattle.machine_steps.specs.Receivers.{variants_of}
use Rattle.options_core.specs.MetaViews.{from_word_of}
use Rattle.law_machine.specs.Compiles.{meant_word, word_by}
use Rattle.law_machine.specs.Receivers.{MetaDecl, Word}
use Rattle.law_options.specs.Meant.{meant_meta}

none_same : (it : Fields) → are_none (fields_without it) ≡ are_none it
none_same (fields.Named it) = refl
none_same (fields.Unnamed it) = refl
none_same fields.Unit = refl

words_same : (callable : Callable) (variants : List Variant) → word_variant callable (map variant_without variants) ≡ word_variant callable variants
words_same callable [] = refl
words_same callable (variant ∷ variants) =
    ap₂ (λ bare found. cond (bare && is_written callable (word_closure variant.ident)) (Some variant.ident) found) (none_same variant.fields) (words_same callable variants)

body_same : (callable : Callable) (it : «Data») → word_variant callable (variants_of (body_without it)) ≡ word_variant callable (variants_of it)
body_same callable (body.Struct it) = refl
body_same callable (body.Enum it) = words_same callable it.variants
body_same callable (body.Union it) = refl

word_same : (it : «Data») (callable : Option Callable) → option_map (meant_word (variants_of (body_without it))) callable ≡ option_map (meant_word (variants_of it)) callable
word_same it None = refl
word_same it (Some callable) = ap (λ found. let word : Option Word = Some (word_by callable found) in word) (body_same callable it)

-- so the declaration that options mean does not either
pub meta_same : (number : ℕ) (it : «Data») (options : FromMetaOptions) → meant_meta number (variants_of (body_without it)) options ≡ meant_meta number (variants_of it) options
meta_same number it options =
    ap (λ word. let meant : MetaDecl = record (meant_meta number (variants_of it) options) { word = word } in meant) (word_same it (from_word_of options))
