-- The values of each form.
use Rattle.std.proofs.Common.{refl, sym, subst, ℕ, Bool, List, Option, All, IfSome, map}
use Rattle.base_core.specs.declared.text.Text.{Text}
use Rattle.tok_types.specs.declared.span.Span.{Span}
use Rattle.tok_types.specs.declared.tree.TokenStream.{TokenStream}
use Rattle.error_fault.specs.declared.fault.Fault.{Fault}
use Rattle.node_core.specs.declared.style.Style.{Style}
use Rattle.machine_value.specs.declared.value.Value.{Value}
use Rattle.machine_value.specs.declared.value.Value.TheVariants as value
use Rattle.machine_host.specs.Forms.{Form, IsAny, IsBool, IsChar, IsFaults, IsHostOf, IsInt, IsListOf, IsMapOf, IsOptOf, IsSpan, IsStructOf, IsSyntaxOf, IsText, IsUnit, IsVariantOf, Keys, Members, bool_layer, char_layer, faults_layer, host_layer, int_layer, list_layer, map_layer, opt_layer, span_layer, struct_layer, syntax_layer, text_layer, unit_layer, variant_layer}

pub is_unit : IsUnit value.Unit
is_unit = subst unit_layer (sym value.outs-Unit) tt

pub is_bool : (b : Bool) → IsBool (value.Bool b)
is_bool b = subst bool_layer (sym (value.outs-Bool b)) tt

pub is_char : (c : ℕ) → IsChar (value.Char c)
is_char c = subst char_layer (sym (value.outs-Char c)) tt

pub is_text : (text : Text) → IsText (value.Text text)
is_text text = subst text_layer (sym (value.outs-Text text)) tt

pub is_int : (InRange : Bool → ℕ → Type 0) (negative : Bool) (digits : ℕ) → InRange negative digits → IsInt InRange (value.Int negative digits)
is_int InRange negative digits h = subst (int_layer InRange) (sym (value.outs-Int negative digits)) h

pub is_span : (span : Option Span) → IsSpan (value.Span span)
is_span span = subst span_layer (sym (value.outs-Span span)) tt

pub is_syntax : (IsNode : TokenStream → Type 0) (tokens : TokenStream) → IsNode tokens → IsSyntaxOf IsNode (value.Syntax tokens)
is_syntax IsNode tokens h = subst (syntax_layer IsNode) (sym (value.outs-Syntax tokens)) h

pub are_faults : (faults : List Fault) → IsAny faults → IsFaults (value.Faults faults)
are_faults faults some = subst faults_layer (sym (value.outs-Faults faults)) some

pub is_host : (name text : Text) → IsHostOf name (value.Host name text)
is_host name text = subst (host_layer name) (sym (value.outs-Host name text)) refl

pub is_opt : (Fits : Form) (inner : Option Value) → IfSome inner Fits → IsOptOf Fits (value.Opt inner)
is_opt Fits inner fits = subst (opt_layer Fits) (sym (value.outs-Opt inner)) fits

pub is_list : (Fits : Form) (values : List Value) → All Fits values → IsListOf Fits (value.List values)
is_list Fits values fit = subst (list_layer Fits) (sym (value.outs-List values)) fit

pub is_map : (AreKeys : Keys) (Fits : Form) (entries : List (Text × Value)) → AreKeys (map (λ entry. entry.0) entries) → All (λ entry. Fits entry.1) entries
    → IsMapOf AreKeys Fits (value.Map entries)
is_map AreKeys Fits entries keys fit = subst (map_layer AreKeys Fits) (sym (value.outs-Map entries)) (keys, fit)

pub is_struct : (name : Text) (style : Style) (HasMembers : Members) (members : List (Text × Value)) → HasMembers members
    → IsStructOf name style HasMembers (value.Struct name style members)
is_struct name style HasMembers members has = subst (struct_layer name style HasMembers) (sym (value.outs-Struct name style members)) (refl, refl, has)

pub is_variant : (enum name : Text) (style : Style) (HasMembers : Members) (members : List (Text × Value)) → HasMembers members
    → IsVariantOf enum name style HasMembers (value.Variant enum name style members)
is_variant enum name style HasMembers members has =
    subst (variant_layer enum name style HasMembers) (sym (value.outs-Variant enum name style members)) (refl, refl, refl, has)
