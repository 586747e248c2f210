-- A declaration that items of a text are read as by their attributes alone takes no part of them, and says nothing of their shape.
use Rattle.std.proofs.Common.{◌≡◌, ◌∙◌, cond, List, [], ◌∷◌, ◌++◌, map, None, is_none, refl, ap, ap₂}
use Rattle.std.specs.Prelude.{flat_map}
use Rattle.std.specs.List.{AllByRecursion}
use Rattle.std.proofs.lemmas.List.Elements.{recursion_from_All}
use Rattle.node_core.specs.declared.data.Field.{Field}
use Rattle.node_core.specs.declared.derive.DeriveInput.{DeriveInput}
use Rattle.codegen_program.specs.MagicFields.{magic_of}
use Rattle.codegen_program.specs.declared.forwarded.Magic.{Magic}
use Rattle.codegen_program.specs.declared.forwarded.Magic.TheVariants as magic
use Rattle.codegen_program.specs.declared.program.Derive.TheVariants as derive
use Rattle.codegen_outer.specs.Bare.{IsBare}
use Rattle.codegen_outer.specs.BareLaws.{plain_own}
use Rattle.codegen_outer.specs.declared.from_derive_impl.FromDeriveInputImpl.{FromDeriveInputImpl}
use Rattle.options_core.specs.Parts.{faults_as, forwarded_in, given_in, is_part, member_faults, own_fields, part_fields, parts_said}
use Rattle.options_core.specs.Views.{IsInputImpl}
use Rattle.run_accepted.specs.Core.{Core}
use Rattle.run_accepted.specs.Members.{body_fields}
use Rattle.run_accepted.specs.Readers.{fdi_reader}
use Rattle.run_accepted.specs.Rows.{last_of}
use Rattle.run_accepted.specs.Stages.{field_faults, options_of}
use Rattle.run_accepted.specs.Values.{Rules}
use Rattle.run_accepted.specs.Plain.{IsPlainInput}
use Rattle.run_accepted.proofs.PlainLemmas.{input_is_plain, left_is_plain}
use Rattle.law_options.proofs.Idents.{no_supports}

-- ---- fields

-- the field takes no part
abbrev pub IsOwnField : Field → Type 0
IsOwnField field = magic_of derive.FromDeriveInput field ≡ None

pub all_own : (decl : DeriveInput) → IsPlainInput decl → AllByRecursion IsOwnField (body_fields decl.body)
all_own decl plain = recursion_from_All IsOwnField (body_fields decl.body) plain.own

all_kept : (fields : List Field) → AllByRecursion IsOwnField fields → own_fields derive.FromDeriveInput fields ≡ fields
all_kept [] own = refl
all_kept (field ∷ fields) own = ap₂ (λ part rest. cond (is_none part) (field ∷ rest) rest) own.0 (all_kept fields own.1)

none_take : (what : Magic) (fields : List Field) → AllByRecursion IsOwnField fields → part_fields derive.FromDeriveInput what fields ≡ []
none_take what [] own = refl
none_take what (field ∷ fields) own = ap₂ (λ part rest. cond (is_part what part) (field ∷ rest) rest) own.0 (none_take what fields own.1)

module _ (rules : Rules) (core : Core) where
  same_faults : (fields : List Field) → AllByRecursion IsOwnField fields
      → flat_map (member_faults rules derive.FromDeriveInput core) fields ≡ flat_map (field_faults rules core) fields
  same_faults [] own = refl
  same_faults (field ∷ fields) own = ap₂ (λ part more. faults_as rules core part field ++ more) own.0 (same_faults fields own.1)

module _ (decl : DeriveInput) (plain : IsPlainInput decl) where
  abbrev fields : List Field
  fields = body_fields decl.body

  -- each field is read from items
  pub own_same : own_fields derive.FromDeriveInput (body_fields decl.body) ≡ body_fields decl.body
  own_same = all_kept fields (all_own decl plain)

  pub no_forwarded : (what : Magic) → forwarded_in derive.FromDeriveInput what None fields ≡ None
  no_forwarded what = ap (λ its. last_of None (parts_said its)) (none_take what fields (all_own decl plain))

  no_given : (what : Magic) → given_in derive.FromDeriveInput what None fields ≡ None
  no_given what = ap (λ its. last_of None (map (λ (field : Field). field.ident) its)) (none_take what fields (all_own decl plain))

-- what is wrong with the fields is what is wrong with fields that are read from items
pub own_faults : (rules : Rules) (core : Core) (decl : DeriveInput) → IsPlainInput decl
    → flat_map (member_faults rules derive.FromDeriveInput core) (body_fields decl.body) ≡ flat_map (field_faults rules core) (body_fields decl.body)
own_faults rules core decl plain = same_faults rules core (body_fields decl.body) (all_own decl plain)

-- ---- declarations

-- what is compiled from its options reads attributes alone
pub is_bare : (rules : Rules) (decl : DeriveInput) → IsPlainInput decl → (left : FromDeriveInputImpl)
    → IsInputImpl left (options_of (fdi_reader rules decl) decl) → IsBare left
is_bare rules decl plain left is =
    record {
      ident = is.outer.ident ∙ no_forwarded decl plain magic.Ident;
      vis = is.vis ∙ no_given decl plain magic.Vis;
      generics = is.generics ∙ no_forwarded decl plain magic.Generics;
      body = is.body ∙ no_forwarded decl plain magic.Body;
      attrs = is.outer.forward.field ∙ no_forwarded decl plain magic.Attrs;
      supports = is.supports ∙ no_supports rules decl plain.built;
      own = plain_own left.outer.base (left_is_plain left.outer.base _ is.outer.base (input_is_plain rules decl plain.built));
    }
