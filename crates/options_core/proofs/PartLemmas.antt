-- What a field does to options, by the part that it takes.
use Rattle.std.proofs.Common.{◌≡◌, ◌∙◌, List, [], ◌∷◌, ◌++◌, refl, ap, Some, None, Option}
use Rattle.std.specs.Prelude.{Bool, true, false, cond, if◌then◌else◌, is_none}
use Rattle.std.specs.Str.{bytes_eq}
use Rattle.base_core.specs.declared.text.Text.{Text}
use Rattle.tok_types.specs.declared.ident.Ident.{Ident}
use Rattle.node_core.specs.declared.data.Field.{Field}
use Rattle.error_fault.specs.Outcome.{Outcome, Value, Faults, faults_of, value_of, on_value}
use Rattle.codegen_program.specs.MagicFields.{magic_at, magic_named, magic_of, own_parts, part_in, shared_parts}
use Rattle.codegen_program.specs.declared.forwarded.Magic.{Magic}
use Rattle.codegen_program.specs.declared.forwarded.Magic.TheVariants as magic
use Rattle.codegen_program.specs.declared.program.Derive.{Derive}
use Rattle.codegen_program.specs.declared.program.Derive.TheVariants as derives
use Rattle.options_rows.specs.Forwarded.{forwarded_meaning}
use Rattle.options_rows.specs.ForwardedField.{ForwardedField}
use Rattle.options_rows.specs.Members.{after_outcome}
use Rattle.options_rows.specs.Rows.{last_of, list_of}
use Rattle.options_rows.specs.Values.{Rules}
use Rattle.options_members.specs.Body.{core_with, field_meaning}
use Rattle.options_members.specs.declared.container.Core.{Core}
use Rattle.options_members.specs.declared.input_field.InputField.{InputField}
use Rattle.options_meta.proofs.StageLemmas.{same_field, with_more_fields}
use Rattle.options_meta.specs.Stages.{good_fields}
use Rattle.options_core.specs.declared.outer_from.OuterFrom.{OuterFrom}
use Rattle.options_core.specs.Parts.{faults_as, is_part, part_said, parts_said}
use Rattle.options_core.specs.Receivers.{outer_takes}

-- the part of a field is one of those of the derive

abbrev pub EachPart : (Option Magic → Type 0) → List (Text × Magic) → Type 0
EachPart P [] = Unit {0}
EachPart P (row ∷ rows) = P (Some row.1) × EachPart P rows

module _ (P : Option Magic → Type 0) (none : P None) where
  either_is : (test : Bool) (x y : Option Magic) → P x → P y → P (cond test x y)
  either_is true x y p q = p
  either_is false x y p q = q

  part_in-is : (rows : List (Text × Magic)) → EachPart P rows → (name : Text) → P (part_in rows name)
  part_in-is [] each name = none
  part_in-is (row ∷ rows) each name =
      either_is (bytes_eq name row.0) (Some row.1) (part_in rows name) each.0 (part_in-is rows each.1 name)

  named-is : (derive : Derive) → EachPart P (shared_parts ++ own_parts derive) → (name : Text) → P (magic_named derive name)
  named-is derives.FromMeta each name = none
  named-is derives.FromAttributes each name = part_in-is (shared_parts ++ own_parts derives.FromAttributes) each name
  named-is derives.FromDeriveInput each name = part_in-is (shared_parts ++ own_parts derives.FromDeriveInput) each name
  named-is derives.FromField each name = part_in-is (shared_parts ++ own_parts derives.FromField) each name
  named-is derives.FromTypeParam each name = part_in-is (shared_parts ++ own_parts derives.FromTypeParam) each name
  named-is derives.FromVariant each name = part_in-is (shared_parts ++ own_parts derives.FromVariant) each name

  raw-is : (raw : Bool) (named : Option Magic) → P named → P (if raw then None else named)
  raw-is true named is = none
  raw-is false named is = is

  at-is : (derive : Derive) → EachPart P (shared_parts ++ own_parts derive) → (ident : Option Ident) → P (magic_at derive ident)
  at-is derive each None = none
  at-is derive each (Some ident) = raw-is ident.raw (magic_named derive ident.text) (named-is derive each ident.text)

  -- what holds of no part, and of each part of the derive
  pub magic-is : (derive : Derive) → EachPart P (shared_parts ++ own_parts derive) → (field : Field) → P (magic_of derive field)
  magic-is derive each field = at-is derive each field.ident

-- the list with the field, where the test has its part
abbrev pub first : (Option Magic → Bool) → Option Magic → Field → List Field → List Field
first test part field rest = cond (test part) (field ∷ rest) rest

-- what stands behind fields of no part, and behind those of each part
abbrev pub Whole : Type 0 → Type 0
Whole S = S → List Field → (Magic → List Field) → S

-- a field of this part does to options what the whole says of it, has its faults, and leaves those of other fields
module _ {S : Type 0} (rules : Rules) (core_of : S → Core) (whole : Whole S) (field : Field) (part : Option Magic) where
  abbrev pub Takes : (S → Outcome S) → Type 0
  Takes taken =
      ((set : S) (own : List Field) (parts : Magic → List Field)
      → whole (after_outcome (taken set) set) own parts
      ≡ whole set (first is_none part field own) (λ what. first (is_part what) part field (parts what)))
      × (((set : S) → faults_of (taken set) ≡ faults_as rules (core_of set) part field)
      × ((set : S) (other : Option Magic) (next : Field)
      → faults_as rules (core_of (after_outcome (taken set) set)) other next ≡ faults_as rules (core_of set) other next))

faults_of-on_value : {A B : Type 0} (f : A → B) (o : Outcome A) → faults_of (on_value f o) ≡ faults_of o
faults_of-on_value f (Value x) = refl
faults_of-on_value f (Faults fault more) = refl

-- a part whose field has options
module _ {S : Type 0} (rules : Rules) (core_of : S → Core) (whole : Whole S) (field : Field) (what : Magic)
    (slot : S → Option ForwardedField) (fill : S → Option ForwardedField → S)
    (filled : (s : S) (part : Option ForwardedField) (own : List Field) (parts : Magic → List Field)
    → whole (fill s part) own parts ≡ fill (whole s own parts) (last_of part (parts_said (parts what))))
    (kept : (s : S) (own : List Field) (parts : Magic → List Field)
    → whole s own parts ≡ fill (whole s own parts) (last_of (slot s) (parts_said (parts what))))
    (grown : (s : S) (own : List Field) (parts : Magic → List Field)
    → fill (whole s own parts) (last_of (slot s) (list_of (value_of (part_said field)) ++ parts_said (parts what)))
    ≡ whole s own (λ it. first (is_part it) (Some what) field (parts it)))
    (same : (s : S) (part : Option ForwardedField) → core_of (fill s part) ≡ core_of s)
    (read : (core : Core) → faults_of (forwarded_meaning field) ≡ faults_as rules core (Some what) field) where
  said_state : (o : Outcome (Option ForwardedField)) (s : S) (own : List Field) (parts : Magic → List Field)
      → whole (after_outcome (on_value (fill s) o) s) own parts
      ≡ fill (whole s own parts) (last_of (slot s) (list_of (value_of o) ++ parts_said (parts what)))
  said_state (Value part) s own parts = filled s part own parts
  said_state (Faults fault more) s own parts = kept s own parts

  said_core : (o : Outcome (Option ForwardedField)) (s : S) → core_of (after_outcome (on_value (fill s) o) s) ≡ core_of s
  said_core (Value part) s = same s part
  said_core (Faults fault more) s = refl

  pub said_part : Takes rules core_of whole field (Some what) (λ s. on_value (fill s) (part_said field))
  said_part = (
    λ s own parts. said_state (part_said field) s own parts ∙ grown s own parts,
    (
      λ s.
          faults_of-on_value (fill s) (part_said field)
          ∙ (faults_of-on_value Some (forwarded_meaning field) ∙ read (core_of s)),
      λ s other next. ap (λ core. faults_as rules core other next) (said_core (part_said field) s),
    ),
  )

-- every receiver of elements
abbrev pub outer_at : Rules → Whole OuterFrom
outer_at rules set own parts = record set {
  container = core_with set.container (good_fields rules set.container own);
  ident = last_of set.ident (parts_said (parts magic.Ident));
  attrs = last_of set.attrs (parts_said (parts magic.Attrs));
}

abbrev pub container_of : OuterFrom → Core
container_of set = set.container

module _ (rules : Rules) where
  same_goods : (core : Core) (x : InputField) (fields : List Field)
      → good_fields rules (core_with core (x ∷ [])) fields ≡ good_fields rules core fields
  same_goods core x [] = refl
  same_goods core x (field ∷ fields) =
      ap (λ o. list_of (value_of o) ++ good_fields rules (core_with core (x ∷ [])) fields) (same_field rules core x field)
      ∙ ap (λ xs. list_of (value_of (field_meaning rules (Some core) field)) ++ xs) (same_goods core x fields)

  same_faults : (core : Core) (x : InputField) (other : Option Magic) (next : Field)
      → faults_as rules (core_with core (x ∷ [])) other next ≡ faults_as rules core other next
  same_faults core x None next = ap faults_of (same_field rules core x next)
  same_faults core x (Some what) next = refl

  container_next : (core : Core) (x : InputField) (own : List Field)
      → core_with (core_with core (x ∷ [])) (good_fields rules (core_with core (x ∷ [])) own) ≡ core_with core (x ∷ good_fields rules core own)
  container_next core x own =
      ap (core_with (core_with core (x ∷ []))) (same_goods core x own)
      ∙ ap (λ body. record core { body = body }) (with_more_fields core.body (x ∷ []) (good_fields rules core own))

  abbrev own_taken : OuterFrom → Outcome InputField → Outcome OuterFrom
  own_taken set o = on_value (λ core. record set { container = core }) (on_value (λ it. core_with set.container (it ∷ [])) o)

  own_state : (o : Outcome InputField) (set : OuterFrom) (own : List Field) (parts : Magic → List Field)
      → outer_at rules (after_outcome (own_taken set o) set) own parts
      ≡ record (outer_at rules set own parts) { container = core_with set.container (list_of (value_of o) ++ good_fields rules set.container own) }
  own_state (Value x) set own parts =
      ap (λ core. record (outer_at rules set own parts) { container = core }) (container_next set.container x own)
  own_state (Faults fault more) set own parts = refl

  own_same : (o : Outcome InputField) (set : OuterFrom) (other : Option Magic) (next : Field)
      → faults_as rules (after_outcome (own_taken set o) set).container other next ≡ faults_as rules set.container other next
  own_same (Value x) set other next = same_faults set.container x other next
  own_same (Faults fault more) set other next = refl

  module _ (field : Field) where
    pub takes_own : Takes rules container_of (outer_at rules) field None (λ set. outer_takes rules None set field)
    takes_own = (
      λ set own parts. own_state (field_meaning rules (Some set.container) field) set own parts,
      (
        λ set.
            faults_of-on_value (λ core. record set { container = core })
            (on_value (λ it. core_with set.container (it ∷ [])) (field_meaning rules (Some set.container) field))
            ∙ faults_of-on_value (λ it. core_with set.container (it ∷ [])) (field_meaning rules (Some set.container) field),
        λ set other next. own_same (field_meaning rules (Some set.container) field) set other next,
      ),
    )

    pub takes_ident : Takes rules container_of (outer_at rules) field (Some magic.Ident) (λ set. outer_takes rules (Some magic.Ident) set field)
    takes_ident =
        said_part rules container_of (outer_at rules) field magic.Ident (λ set. set.ident) (λ set part. record set { ident = part })
        (λ s part own parts. refl) (λ s own parts. refl) (λ s own parts. refl) (λ s part. refl) (λ core. refl)

    pub takes_attrs : Takes rules container_of (outer_at rules) field (Some magic.Attrs) (λ set. outer_takes rules (Some magic.Attrs) set field)
    takes_attrs =
        said_part rules container_of (outer_at rules) field magic.Attrs (λ set. set.attrs) (λ set part. record set { attrs = part })
        (λ s part own parts. refl) (λ s own parts. refl) (λ s own parts. refl) (λ s part. refl) (λ core. refl)

-- what a kind of options hands on to its base
module _ {S : Type 0} (rules : Rules) (get : S → OuterFrom) (put : S → OuterFrom → S) (mine : S → (Magic → List Field) → S)
    (same : (s : S) → s ≡ put s (get s)) (got : (s : S) (base : OuterFrom) → get (put s base) ≡ base)
    (over : (s : S) (base end : OuterFrom) (parts : Magic → List Field) → put (mine (put s base) parts) end ≡ put (mine s parts) end)
    (field : Field) (part : Option Magic)
    (away : (s : S) (parts : Magic → List Field) → mine s parts ≡ mine s (λ what. first (is_part what) part field (parts what))) where
  abbrev whole : Whole S
  whole s own parts = put (mine s parts) (outer_at rules (get s) own parts)

  through : (s : S) (o : Outcome OuterFrom) → after_outcome (on_value (put s) o) s ≡ put s (after_outcome o (get s))
  through s (Value base) = refl
  through s (Faults fault more) = same s

  pub handed_on : Takes rules container_of (outer_at rules) field part (λ base. outer_takes rules part base field)
      → Takes rules (λ s. (get s).container) whole field part (λ s. on_value (put s) (outer_takes rules part (get s) field))
  handed_on takes =
      let taken : S → Outcome OuterFrom = λ s. outer_takes rules part (get s) field in
      let left : S → OuterFrom = λ s. after_outcome (taken s) (get s) in (
        λ s own parts.
            ap (λ x. whole x own parts) (through s (taken s))
            ∙ (over s (left s) (outer_at rules (get (put s (left s))) own parts) parts
            ∙ (ap (λ base. put (mine s parts) (outer_at rules base own parts)) (got s (left s))
            ∙ (ap (put (mine s parts)) (takes.0 (get s) own parts)
            ∙ ap
            (λ x. put x (outer_at rules (get s) (first is_none part field own) (λ what. first (is_part what) part field (parts what))))
            (away s parts)))),
        (
          λ s. faults_of-on_value (put s) (taken s) ∙ takes.1.0 (get s),
          λ s other next.
              ap (λ x. faults_as rules (get x).container other next) (through s (taken s))
              ∙ (ap (λ base. faults_as rules base.container other next) (got s (left s)) ∙ takes.1.1 (get s) other next),
        ),
      )
