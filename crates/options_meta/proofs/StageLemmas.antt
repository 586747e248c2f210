-- Options that are read one stage behind another are those of the declaration.
use Rattle.std.proofs.Common.{◌≡◌, ◌∙◌, List, [], ◌∷◌, ◌++◌, refl, sym, ap, append_assoc, append-nil, Some}
use Rattle.std.specs.Prelude.{flat_map}
use Rattle.node_core.specs.declared.data.Field.{Field}
use Rattle.node_core.specs.declared.data.Variant.{Variant}
use Rattle.node_core.specs.declared.data.«Data».{«Data»}
use Rattle.node_core.specs.declared.data.«Data».TheVariants as node
use Rattle.node_core.specs.declared.derive.DeriveInput.{DeriveInput}
use Rattle.error_fault.specs.Outcome.{Outcome, Value, Faults, bind, faults_of, value_of, on_value, settle}
use Rattle.error_fault.specs.declared.fault.Fault.{Fault}
use Rattle.body_core.specs.Data.{with_members}
use Rattle.body_core.specs.declared.ast.data.«Data».TheVariants as container
use Rattle.options_rows.specs.Entries.{option_entries}
use Rattle.options_rows.specs.Members.{after_body, after_members, after_outcome, body_faults, body_fields, members_faults, no_variant, read_body, variants_of, variant_or}
use Rattle.node_core.specs.Bodies.{field_list, is_union}
use Rattle.options_rows.specs.Rows.{else_faults, list_of}
use Rattle.options_rows.specs.Values.{Rules}
use Rattle.options_rows.specs.Walk.{all_faults, read_options}
use Rattle.options_members.specs.declared.container.Core.{Core}
use Rattle.options_members.specs.declared.input_field.InputField.{InputField}
use Rattle.options_members.specs.declared.input_variant.InputVariant.{InputVariant}
use Rattle.options_meta.specs.declared.from_meta.FromMetaOptions.{FromMetaOptions}
use Rattle.options_meta.specs.Stages as spec
use Rattle.options_meta.specs.Stages.{Reader, container_options, core_with_body, field_faults, good_fields, good_variants, meta_reader, meta_staged, new_outcome, no_variants, options_of, staged, staged_whole, variant_faults}
use Rattle.options_members.specs.Body.{Body, core_takes, core_takes_variant, core_with, core_with_variants, field_meaning, union_faults, variant_meaning, with_fields, with_variants}
use Rattle.options_meta.specs.MetaChecks.{meta_takes, meta_takes_variant}

-- members that are put behind one another, where what one means does not depend on those before it
module _ {S M N : Type 0} (meaning : S → M → Outcome N) (add : S → List N → S) (none : (s : S) → s ≡ add s [])
    (more : (s : S) (xs ys : List N) → add (add s xs) ys ≡ add s (xs ++ ys))
    (same : (s : S) (x : N) (m : M) → meaning (add s (x ∷ [])) m ≡ meaning s m) where
  abbrev taken : S → M → Outcome S
  taken s m = on_value (λ it. add s (it ∷ [])) (meaning s m)

  abbrev goods : S → List M → List N
  goods s members = flat_map (λ m. list_of (value_of (meaning s m))) members

  abbrev wrong : S → List M → List Fault
  wrong s members = flat_map (λ m. faults_of (meaning s m)) members

  pub same_goods : (s : S) (x : N) (members : List M) → goods (add s (x ∷ [])) members ≡ goods s members
  same_goods s x [] = refl
  same_goods s x (m ∷ members) =
      ap (λ o. list_of (value_of o) ++ goods (add s (x ∷ [])) members) (same s x m)
      ∙ ap (λ xs. list_of (value_of (meaning s m)) ++ xs) (same_goods s x members)

  same_wrong : (s : S) (x : N) (members : List M) → wrong (add s (x ∷ [])) members ≡ wrong s members
  same_wrong s x [] = refl
  same_wrong s x (m ∷ members) =
      ap (λ o. faults_of o ++ wrong (add s (x ∷ [])) members) (same s x m)
      ∙ ap (λ xs. faults_of (meaning s m) ++ xs) (same_wrong s x members)

  taken_step : (s : S) (o : Outcome N) (members : List M)
      → ((next : S) → after_members taken next members ≡ add next (goods next members))
      → after_members taken (after_outcome (on_value (λ it. add s (it ∷ [])) o) s) members ≡ add s (list_of (value_of o) ++ goods s members)
  taken_step s (Value x) members later =
      later (add s (x ∷ [])) ∙ ap (add (add s (x ∷ []))) (same_goods s x members) ∙ more s (x ∷ []) (goods s members)
  taken_step s (Faults fault others) members later = later s

  taken_state : (s : S) (members : List M) → after_members taken s members ≡ add s (goods s members)
  taken_state s [] = none s
  taken_state s (m ∷ members) = taken_step s (meaning s m) members (λ next. taken_state next members)

  taken_faults_step : (s : S) (o : Outcome N) (members : List M)
      → ((next : S) → members_faults taken next members ≡ wrong next members)
      → faults_of (on_value (λ it. add s (it ∷ [])) o)
      ++ members_faults taken (after_outcome (on_value (λ it. add s (it ∷ [])) o) s) members
      ≡ faults_of o ++ wrong s members
  taken_faults_step s (Value x) members later = later (add s (x ∷ [])) ∙ same_wrong s x members
  taken_faults_step s (Faults fault others) members later = ap (λ xs. (fault ∷ others) ++ xs) (later s)

  taken_faults : (s : S) (members : List M) → members_faults taken s members ≡ wrong s members
  taken_faults s [] = refl
  taken_faults s (m ∷ members) = taken_faults_step s (meaning s m) members (λ next. taken_faults next members)

-- members whose whole effect is known: each does what the whole says of it
module _ {S M : Type 0} (takes : S → M → Outcome S) (with_all : S → List M → S) (wrong : S → M → List Fault)
    (none : (s : S) → s ≡ with_all s [])
    (step : (s : S) (m : M) (members : List M) → with_all (after_outcome (takes s m) s) members ≡ with_all s (m ∷ members))
    (told : (s : S) (m : M) → faults_of (takes s m) ≡ wrong s m)
    (same : (s : S) (m next : M) → wrong (after_outcome (takes s m) s) next ≡ wrong s next) where
  pub all_state : (s : S) (members : List M) → after_members takes s members ≡ with_all s members
  all_state s [] = none s
  all_state s (m ∷ members) = all_state (after_outcome (takes s m) s) members ∙ step s m members

  same_all : (s : S) (m : M) (members : List M)
      → flat_map (wrong (after_outcome (takes s m) s)) members ≡ flat_map (wrong s) members
  same_all s m [] = refl
  same_all s m (next ∷ members) =
      ap (λ xs. xs ++ flat_map (wrong (after_outcome (takes s m) s)) members) (same s m next)
      ∙ ap (λ xs. wrong s next ++ xs) (same_all s m members)

  pub all_told : (s : S) (members : List M) → members_faults takes s members ≡ flat_map (wrong s) members
  all_told s [] = refl
  all_told s (m ∷ members) =
      ap (λ xs. faults_of (takes s m) ++ xs) (all_told (after_outcome (takes s m) s) members ∙ same_all s m members)
      ∙ ap (λ xs. xs ++ flat_map (wrong s) members) (told s m)

-- every container

pub with_no_field : (body : Body) → body ≡ with_fields body []
with_no_field (container.Enum variants) = refl
with_no_field (container.Struct it) = ap (λ fields. container.Struct (with_members it fields)) (sym (append-nil it.fields))

pub with_more_fields : (body : Body) (first more : List InputField) → with_fields (with_fields body first) more ≡ with_fields body (first ++ more)
with_more_fields (container.Enum variants) first more = refl
with_more_fields (container.Struct it) first more =
    ap (λ fields. container.Struct (with_members it fields)) (append_assoc it.fields first more)

with_no_variant : (body : Body) → body ≡ with_variants body []
with_no_variant (container.Enum variants) = ap container.Enum (sym (append-nil variants))
with_no_variant (container.Struct it) = refl

with_more_variants : (body : Body) (first more : List InputVariant)
    → with_variants (with_variants body first) more ≡ with_variants body (first ++ more)
with_more_variants (container.Enum variants) first more = ap container.Enum (append_assoc variants first more)
with_more_variants (container.Struct it) first more = refl

abbrev put_body : Core → Body → Core
put_body core body = record core { body = body }

module _ (rules : Rules) where
  pub same_field : (core : Core) (x : InputField) (field : Field)
      → field_meaning rules (Some (core_with core (x ∷ []))) field ≡ field_meaning rules (Some core) field
  unfolding field_meaning
  same_field core x field = refl

  same_variant : (core : Core) (x : InputVariant) (variant : Variant)
      → variant_meaning rules (Some (core_with_variants core (x ∷ []))) variant ≡ variant_meaning rules (Some core) variant
  unfolding field_meaning variant_meaning
  same_variant core x variant = refl

  fields_state : (core : Core) (fields : List Field) → after_members (core_takes rules) core fields ≡ core_with core (good_fields rules core fields)
  fields_state core fields =
      taken_state (λ it. field_meaning rules (Some it)) core_with (λ it. ap (put_body it) (with_no_field it.body))
      (λ it xs ys. ap (put_body it) (with_more_fields it.body xs ys)) same_field core fields

  fields_faults : (core : Core) (fields : List Field) → members_faults (core_takes rules) core fields ≡ flat_map (field_faults rules core) fields
  fields_faults core fields =
      taken_faults (λ it. field_meaning rules (Some it)) core_with (λ it. ap (put_body it) (with_no_field it.body))
      (λ it xs ys. ap (put_body it) (with_more_fields it.body xs ys)) same_field core fields

  variants_state : (core : Core) (variants : List Variant)
      → after_members (core_takes_variant rules) core variants ≡ core_with_variants core (good_variants rules core variants)
  variants_state core variants =
      taken_state (λ it. variant_meaning rules (Some it)) core_with_variants (λ it. ap (put_body it) (with_no_variant it.body))
      (λ it xs ys. ap (put_body it) (with_more_variants it.body xs ys)) same_variant core variants

  variants_faults : (core : Core) (variants : List Variant)
      → members_faults (core_takes_variant rules) core variants ≡ flat_map (variant_faults rules core) variants
  variants_faults core variants =
      taken_faults (λ it. variant_meaning rules (Some it)) core_with_variants (λ it. ap (put_body it) (with_no_variant it.body))
      (λ it xs ys. ap (put_body it) (with_more_variants it.body xs ys)) same_variant core variants

  -- a body has fields or variants
  core_state : (core : Core) (it : «Data»)
      → after_body (core_takes rules) (core_takes_variant rules) core it ≡ core_with_body rules core it
  core_state core (node.Struct it) = fields_state core (field_list it.fields)
  core_state core (node.Enum it) = variants_state core it.variants
  core_state core (node.Union it) = refl

  core_faults : (core : Core) (it : «Data»)
      → body_faults (core_takes rules) (core_takes_variant rules) core it
      ≡ flat_map (field_faults rules core) (body_fields it) ++ flat_map (variant_faults rules core) (variants_of it)
  core_faults core (node.Struct it) = ap (λ xs. xs ++ []) (fields_faults core (field_list it.fields))
  core_faults core (node.Enum it) = variants_faults core it.variants
  core_faults core (node.Union it) = refl

-- what hands its members on to a part
module _ {S T M : Type 0} (get : S → T) (put : S → T → S) (same : (s : S) → s ≡ put s (get s)) (got : (s : S) (t : T) → get (put s t) ≡ t)
    (twice : (s : S) (t u : T) → put (put s t) u ≡ put s u) (takes : T → M → Outcome T) where
  abbrev handed : S → M → Outcome S
  handed s member = on_value (put s) (takes (get s) member)

  handed_step : (s : S) (o : Outcome T) (members : List M)
      → ((next : S) → after_members handed next members ≡ put next (after_members takes (get next) members))
      → after_members handed (after_outcome (on_value (put s) o) s) members ≡ put s (after_members takes (after_outcome o (get s)) members)
  handed_step s (Value t) members later =
      later (put s t) ∙ twice s t _ ∙ ap (λ x. put s (after_members takes x members)) (got s t)
  handed_step s (Faults fault more) members later = later s

  handed_state : (s : S) (members : List M) → after_members handed s members ≡ put s (after_members takes (get s) members)
  handed_state s [] = same s
  handed_state s (member ∷ members) = handed_step s (takes (get s) member) members (λ next. handed_state next members)

  handed_faults_step : (s : S) (o : Outcome T) (members : List M)
      → ((next : S) → members_faults handed next members ≡ members_faults takes (get next) members)
      → faults_of (on_value (put s) o) ++ members_faults handed (after_outcome (on_value (put s) o) s) members
      ≡ faults_of o ++ members_faults takes (after_outcome o (get s)) members
  handed_faults_step s (Value t) members later = later (put s t) ∙ ap (λ x. members_faults takes x members) (got s t)
  handed_faults_step s (Faults fault more) members later = ap (λ xs. (fault ∷ more) ++ xs) (later s)

  handed_faults : (s : S) (members : List M) → members_faults handed s members ≡ members_faults takes (get s) members
  handed_faults s [] = refl
  handed_faults s (member ∷ members) = handed_faults_step s (takes (get s) member) members (λ next. handed_faults next members)

-- no variant is taken
module _ {S : Type 0} (rules : Rules) where
  pub no_variants_state : (set : S) (variants : List Variant) → after_members (variant_or {S = S} no_variants rules) set variants ≡ set
  no_variants_state set [] = refl
  no_variants_state set (variant ∷ variants) = no_variants_state set variants

  pub no_variants_faults : (set : S) (variants : List Variant)
      → members_faults (variant_or {S = S} no_variants rules) set variants ≡ flat_map (λ variant. no_variant variant ∷ []) variants
  no_variants_faults set [] = refl
  no_variants_faults set (variant ∷ variants) = ap (λ xs. no_variant variant ∷ xs) (no_variants_faults set variants)

-- the stages
settle-bind : {A B : Type 0} (faults : List Fault) (x : A) (next : A → Outcome B) → bind (settle faults (Value x)) next ≡ settle faults (next x)
settle-bind [] x next = refl
settle-bind (fault ∷ more) x next = refl

else-assoc : (a b c : List Fault) → else_faults (else_faults a b) c ≡ else_faults a (else_faults b c)
else-assoc [] b c = refl
else-assoc (fault ∷ more) b c = refl

else-none : (a : List Fault) → else_faults a [] ≡ a
else-none [] = refl
else-none (fault ∷ more) = refl

settle-settle : {A : Type 0} (first later : List Fault) (o : Outcome A) → settle first (settle later o) ≡ settle (else_faults first later) o
settle-settle [] later o = refl
settle-settle (fault ∷ more) later o = refl

module _ {S : Type 0} (reader : Reader S) (takes_field : S → Field → Outcome S) (takes_variant : S → Variant → Outcome S)
    (state : (set : S) (it : «Data») → after_body takes_field takes_variant set it ≡ reader.with_body set it)
    (faults : (set : S) (it : «Data») → body_faults takes_field takes_variant set it
    ≡ flat_map (reader.field_faults set) (body_fields it) ++ flat_map (reader.variant_faults set) (variants_of it))
    (input : DeriveInput) where
  abbrev unions : List Fault
  unions = union_faults (is_union input.body)

  abbrev nested : List Fault
  nested = all_faults reader.options reader.item_faults reader.start [] (option_entries input.attrs)

  abbrev members : List Fault
  members = spec.body_faults reader input

  members_staged : staged reader takes_field takes_variant input
      ≡ settle (else_faults unions (else_faults nested members)) (Value (options_of reader input))
  members_staged =
      let set = container_options reader input in
      let whole = options_of reader input in
      let body : S → Outcome S = λ s. read_body takes_field takes_variant reader.checks s input.body in
      settle-bind unions reader.start (λ s. bind (read_options reader.options reader.item_faults s (option_entries input.attrs)) body)
      ∙ ap (settle unions) (settle-bind nested set body)
      ∙ ap (λ end. settle unions (settle nested (settle (body_faults takes_field takes_variant set input.body ++ reader.checks end) (Value end))))
      (state set input.body)
      ∙ ap (λ xs. settle unions (settle nested (settle (xs ++ reader.checks whole) (Value whole)))) (faults set input.body)
      ∙ ap (settle unions) (settle-settle nested members (Value whole))
      ∙ settle-settle unions (else_faults nested members) (Value whole)

  -- with what is checked last
  pub whole-is : staged_whole reader takes_field takes_variant input ≡ new_outcome reader input
  whole-is =
      let whole = options_of reader input in
      let told = else_faults unions (else_faults nested members) in
      let last : S → Outcome S = λ s. settle (reader.last s) (Value s) in
      ap (λ o. bind o last) members_staged
      ∙ settle-bind told whole last
      ∙ settle-settle told (reader.last whole) (Value whole)
      ∙ ap (λ xs. settle xs (Value whole))
      (else-assoc unions (else_faults nested members) (reader.last whole)
      ∙ ap (else_faults unions) (else-assoc nested members (reader.last whole)))

  -- where nothing is checked last
  pub staged-is : reader.last (options_of reader input) ≡ [] → staged reader takes_field takes_variant input ≡ new_outcome reader input
  staged-is none =
      let whole = options_of reader input in
      members_staged
      ∙ ap (λ xs. settle (else_faults unions (else_faults nested xs)) (Value whole))
      (sym (else-none members) ∙ ap (else_faults members) (sym none))

-- the derives
abbrev put_base : FromMetaOptions → Core → FromMetaOptions
put_base set base = record set { base = base }

module _ (rules : Rules) where
  meta_fields : (set : FromMetaOptions) (fields : List Field)
      → after_members (meta_takes rules) set fields ≡ put_base set (after_members (core_takes rules) set.base fields)
  meta_fields set fields =
      handed_state (λ s. s.base) put_base (λ s. refl) (λ s t. refl) (λ s t u. refl) (core_takes rules) set fields

  meta_state : (set : FromMetaOptions) (it : «Data»)
      → after_body (meta_takes rules) (meta_takes_variant rules) set it ≡ put_base set (core_with_body rules set.base it)
  meta_state set it =
      let between = after_members (core_takes rules) set.base (body_fields it) in
      ap (λ s. after_members (meta_takes_variant rules) s (variants_of it)) (meta_fields set (body_fields it))
      ∙ handed_state (λ s. s.base) put_base (λ s. refl) (λ s t. refl) (λ s t u. refl) (core_takes_variant rules) (put_base set between) (variants_of it)
      ∙ ap (put_base set) (core_state rules set.base it)

  meta_faults : (set : FromMetaOptions) (it : «Data»)
      → body_faults (meta_takes rules) (meta_takes_variant rules) set it
      ≡ flat_map (field_faults rules set.base) (body_fields it) ++ flat_map (variant_faults rules set.base) (variants_of it)
  meta_faults set it =
      let between = after_members (core_takes rules) set.base (body_fields it) in
      ap (λ s. members_faults (meta_takes rules) set (body_fields it) ++ members_faults (meta_takes_variant rules) s (variants_of it))
      (meta_fields set (body_fields it))
      ∙ ap (λ xs. members_faults (meta_takes rules) set (body_fields it) ++ xs)
      (handed_faults (λ s. s.base) put_base (λ s. refl) (λ s t. refl) (λ s t u. refl) (core_takes_variant rules) (put_base set between) (variants_of it))
      ∙ ap (λ xs. xs ++ members_faults (core_takes_variant rules) between (variants_of it))
      (handed_faults (λ s. s.base) put_base (λ s. refl) (λ s t. refl) (λ s t u. refl) (core_takes rules) set (body_fields it))
      ∙ core_faults rules set.base it

  pub meta_staged-is : (input : DeriveInput) → meta_staged rules input ≡ new_outcome (meta_reader rules input) input
  meta_staged-is input =
      staged-is (meta_reader rules input) (meta_takes rules) (meta_takes_variant rules) meta_state meta_faults input refl
