-- Units, and the declarations and derives that they are made of.
use Rattle.std.proofs.Common.{◌≡◌, ◌∙◌, ◌+◌, ℕ, suc, true, List, [], ◌∷◌, slice_get, Some, All, refl, sym, ap, arith}
use Rattle.std.proofs.lemmas.List.Elements.{All-append, All-map, All-nil}
use Rattle.node_core.specs.declared.derive.DeriveInput.{DeriveInput}
use Rattle.codegen_program.specs.declared.program.Derive.{Derive}
use Rattle.codegen_program.specs.declared.program.Derive.TheVariants as derive
use Rattle.codegen_program.specs.declared.program.«Unit».{«Unit» as Unit'}
use Rattle.run_accepted.specs.Compiled.{IsUnitUnder}
use Rattle.run_accepted.specs.Derives.{derives_of}
use Rattle.run_accepted.specs.Pairs.{Pair, pair, pairs_from, pairs_of}
use Rattle.options_rows.specs.Values.{Rules}
use Rattle.codegen_program.specs.Traits.{is_input}

-- the declaration of a pair stands at its number
abbrev pub Stands : List DeriveInput → Pair → Type 0
Stands decls it = slice_get decls it.number ≡ Some it.decl

pairs_stand : (all : List DeriveInput) (number : ℕ) (decls : List DeriveInput)
    → ((place at : ℕ) → at ≡ number + place → slice_get all at ≡ slice_get decls place) → All (Stands all) (pairs_from number decls)
pairs_stand all number [] rest = All-nil (Stands all)
pairs_stand all number (decl ∷ decls) rest =
    All-append (Stands all) (pairs_of number decl) (pairs_from (suc number) decls)
    (All-map (Stands all) (λ it. pair number decl it.derive) (derives_of decl.attrs) (λ k other lt. rest 0 number (omega arith)))
    (pairs_stand all (suc number) decls (λ place at is. rest (suc place) at (omega arith)))

pub all_stand : (decls : List DeriveInput) → All (Stands decls) (pairs_from 0 decls)
all_stand decls = pairs_stand decls 0 decls (λ place at is. let same : at ≡ place = omega arith in ap (slice_get decls) same)

-- items of a text are read under one derive
input_is : (it : Derive) → is_input it ≡ true → it ≡ derive.FromDeriveInput
input_is derive.FromMeta reads = absurd cc
input_is derive.FromAttributes reads = absurd cc
input_is derive.FromDeriveInput reads = refl
input_is derive.FromField reads = absurd cc
input_is derive.FromTypeParam reads = absurd cc
input_is derive.FromVariant reads = absurd cc

module _ (rules : Rules) where
  -- a unit has the number of its declaration
  pub number_is : (number : ℕ) (decl : DeriveInput) (it : Derive) (unit : Unit') → IsUnitUnder rules number decl it unit → unit.decl ≡ number
  number_is number decl derive.FromMeta unit (left, is, compiled) = ap (λ (it : Unit'). it.decl) compiled
  number_is number decl derive.FromAttributes unit (left, is, compiled) = ap (λ (it : Unit'). it.decl) compiled
  number_is number decl derive.FromDeriveInput unit (left, is, compiled) = ap (λ (it : Unit'). it.decl) compiled
  number_is number decl derive.FromField unit (left, is, compiled) = ap (λ (it : Unit'). it.decl) compiled
  number_is number decl derive.FromTypeParam unit (left, is, compiled) = ap (λ (it : Unit'). it.decl) compiled
  number_is number decl derive.FromVariant unit (left, is, compiled) = ap (λ (it : Unit'). it.decl) compiled

  -- and the derive that it is made under
  pub under_is : (number : ℕ) (decl : DeriveInput) (it : Derive) (unit : Unit') → IsUnitUnder rules number decl it unit → unit.derive ≡ it
  under_is number decl derive.FromMeta unit (left, is, compiled) = ap (λ (it : Unit'). it.derive) compiled
  under_is number decl derive.FromAttributes unit (left, is, compiled) = ap (λ (it : Unit'). it.derive) compiled
  under_is number decl derive.FromDeriveInput unit (left, is, compiled) = ap (λ (it : Unit'). it.derive) compiled
  under_is number decl derive.FromField unit (left, is, compiled) = ap (λ (it : Unit'). it.derive) compiled
  under_is number decl derive.FromTypeParam unit (left, is, compiled) = ap (λ (it : Unit'). it.derive) compiled
  under_is number decl derive.FromVariant unit (left, is, compiled) = ap (λ (it : Unit'). it.derive) compiled

  -- a unit by which items of a text are read is made under `FromDeriveInput`
  pub derive_is : (number : ℕ) (decl : DeriveInput) (it : Derive) (unit : Unit') → IsUnitUnder rules number decl it unit → is_input unit.derive ≡ true → it ≡ derive.FromDeriveInput
  derive_is number decl it unit is reads = input_is it (ap is_input (sym (under_is number decl it unit is)) ∙ reads)
