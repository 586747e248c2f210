-- What a run makes of attributes: the items of those that are read are entries, and others are kept.
use Rattle.std.proofs.Common.{◌≡◌, Bool, true, false, ◌&&◌, not, cond, List, [], ◌∷◌, ◌++◌, map, filter, fold, refl, ap, ◌∙◌, sym, append_assoc, append-nil, if◌then◌else◌}
use Rattle.std.proofs.lemmas.List.Sums.{fold-append}
use Rattle.base_core.specs.declared.text.Text.{Text}
use Rattle.node_core.specs.Meta.{path_of_meta}
use Rattle.node_core.specs.declared.attr.Attribute.{Attribute}
use Rattle.node_core.specs.declared.attr.Meta.{Meta}
use Rattle.node_core.specs.declared.attr.Meta.TheVariants as meta
use Rattle.meta_nested.specs.declared.nested.NestedMeta.{NestedMeta}
use Rattle.meta_nested.specs.Dispatch.{items_of}
use Rattle.error_fault.specs.declared.fault.Fault.{Fault}
use Rattle.error_fault.specs.Outcome.{Outcome, Value, Faults}
use Rattle.codegen_program.specs.declared.forward.Forward.{Forward}
use Rattle.codegen_program.specs.declared.forward.Forward.TheVariants as forward
use Rattle.codegen_core.specs.Compiled.{for_items}
use Rattle.codegen_core.specs.declared.trait_impl.TraitImpl.{TraitImpl}
use Rattle.codegen_outer.specs.CompiledOuter.{over_attributes}
use Rattle.meaning_core.specs.Decl.{Decl}
use Rattle.meaning_core.specs.EntrySteps.{arms, entry_step, rest}
use Rattle.meta_entries.specs.Attributes.{attribute_items, is_named}
use Rattle.meta_entries.specs.Entries.{list_entries, named_entries}
use Rattle.meta_entries.specs.declared.entry.Entry.{Entry}
use Rattle.meta_entries.specs.declared.entry.Entry.TheVariants as entry
use Rattle.meta_entries.proofs.ItemLemmas.{entries-unnamed}
use Rattle.machine_steps.specs.Asked.{Asked, Items, attributes_asked, items_asked}
use Rattle.machine_steps.specs.Attributes.{keep, on_attribute, on_items, on_meta, passes}
use Rattle.machine_steps.specs.Convert.{Earlier}
use Rattle.machine_steps.specs.Progress.{Aside, Progress, Going}
use Rattle.machine_steps.specs.Reads.{Before, metas}
use Rattle.machine_steps.specs.Receivers.{Receiver}
use Rattle.machine_steps.specs.Setting.{Setting}
use Rattle.machine_steps.specs.State.{State, with_faults}
use Rattle.machine_steps.specs.Statements.{all_do, does, run_from}
use Rattle.machine_steps.proofs.Statements as statement
use Rattle.law_machine.specs.Compiles.{IsDecl}
use Rattle.law_machine.proofs.Arms.{for_items_is, items_fold}

-- an attribute that is not read and passes
abbrev pub is_kept : List Text → Forward → Attribute → Bool
is_kept names which one = not (is_named names (path_of_meta one.meta)) && passes which (path_of_meta one.meta)

abbrev pub kept_of : List Text → Forward → List Attribute → List Attribute
kept_of names which attributes = filter (is_kept names which) attributes

-- these attributes are kept as well
abbrev pub keeping : List Attribute → Aside → Aside
keeping more aside = record aside { kept = aside.kept ++ more }

none_kept : (b : Bool) → (not b && false) ≡ false
none_kept true = refl
none_kept false = refl

pub nothing_kept_of : (names : List Text) (attributes : List Attribute) → kept_of names forward.Nothing attributes ≡ []
nothing_kept_of names [] = refl
nothing_kept_of names (a ∷ more) =
    ap (λ b. cond b (a ∷ kept_of names forward.Nothing more) (kept_of names forward.Nothing more)) (none_kept (is_named names (path_of_meta a.meta)))
    ∙ nothing_kept_of names more

-- where no attribute is read, it is the same what would be read
unread_same : (first second : List NestedMeta → Progress → Progress) (which : Forward) (progress : Progress) (attributes : List Attribute)
    → fold (on_attribute first [] which) progress attributes ≡ fold (on_attribute second [] which) progress attributes
unread_same first second which progress [] = refl
unread_same first second which progress (a ∷ more) = unread_same first second which (keep (passes which (path_of_meta a.meta)) a progress) more

module _ (setting : Setting) (before : Before) (receiver : Receiver) (decl : Decl) where
  abbrev earlier : Earlier
  earlier = metas before

  -- the state behind these entries
  abbrev read : State → List Entry → State
  read s es = fold (entry_step setting earlier decl.body) s es

  faults_fold : (s : State) (fs : List Fault) → read s (map entry.Fault fs) ≡ with_faults fs s
  faults_fold s [] = ap (λ x. let t : State = record s { faults = x } in t) (sym (append-nil s.faults))
  faults_fold s (f ∷ fs) = faults_fold (with_faults (f ∷ []) s) fs ∙ ap (λ x. let t : State = record s { faults = x } in t) (append_assoc s.faults (f ∷ []) fs)

  module _ (left : TraitImpl) (is_decl : IsDecl left decl) where
    abbrev inner : List NestedMeta → Progress → Progress
    inner list = all_do (map (does setting before receiver) (for_items left ∷ [])) (Items list)

    pub for_items_fold : (s : State) (aside : Aside) (asked : Asked) → does setting before receiver (for_items left) asked (Going s aside) ≡ Going (read s (map entry.Item (items_asked asked))) aside
    for_items_fold s aside asked =
        ap (λ it. does setting before receiver it asked (Going s aside)) (for_items_is left decl is_decl)
        ∙ statement.for_items setting before receiver (arms decl.body) (rest decl.body) asked (Going s aside)
        ∙ ap (λ s. Going s aside) (items_fold setting earlier decl.body s (items_asked asked))

    on_items_fold : (s : State) (aside : Aside) (o : Outcome (List NestedMeta)) → on_items inner o (Going s aside) ≡ Going (read s (list_entries o)) aside
    on_items_fold s aside (Value is) = for_items_fold s aside (Items is)
    on_items_fold s aside (Faults f fs) = ap (λ s. Going s aside) (sym (faults_fold s (f ∷ fs)))

    on_meta_fold : (s : State) (aside : Aside) (it : Meta) → on_meta inner it (Going s aside) ≡ Going (read s (list_entries (attribute_items it))) aside
    on_meta_fold s aside (meta.Path path) = refl
    on_meta_fold s aside (meta.«List» list) = on_items_fold s aside (items_of list.tokens)
    on_meta_fold s aside (meta.NameValue pair) = refl

    module _ (which : Forward) where
      abbrev over : List Text → Progress → List Attribute → Progress
      over names progress attributes = fold (on_attribute inner names which) progress attributes

      -- one attribute, that is read or passes, in front of others
      one_attribute : (is_read passing : Bool) (names : List Text) (a : Attribute) (more : List Attribute) (s : State) (aside : Aside)
          → ((s : State) (aside : Aside) → over names (Going s aside) more ≡ Going (read s (named_entries names more)) (keeping (kept_of names which more) aside))
          → over names (if is_read then on_meta inner a.meta (Going s aside) else keep passing a (Going s aside)) more
          ≡ Going (read s ((if is_read then list_entries (attribute_items a.meta) else []) ++ named_entries names more))
          (keeping (cond (not is_read && passing) (a ∷ kept_of names which more) (kept_of names which more)) aside)
      one_attribute true passing names a more s aside others =
          ap (λ p. over names p more) (on_meta_fold s aside a.meta)
          ∙ others (read s (list_entries (attribute_items a.meta))) aside
          ∙ ap (λ s. Going s (keeping (kept_of names which more) aside)) (sym (fold-append (entry_step setting earlier decl.body) s (list_entries (attribute_items a.meta)) (named_entries names more)))
      one_attribute false true names a more s aside others =
          others s (keeping (a ∷ []) aside)
          ∙ ap (λ them. let it : Aside = record aside { kept = them } in Going (read s (named_entries names more)) it) (append_assoc aside.kept (a ∷ []) (kept_of names which more))
      one_attribute false false names a more s aside others = others s aside

      pub attributes_fold : (names : List Text) (attributes : List Attribute) (s : State) (aside : Aside)
          → over names (Going s aside) attributes ≡ Going (read s (named_entries names attributes)) (keeping (kept_of names which attributes) aside)
      attributes_fold names [] s aside = ap (λ them. let it : Aside = record aside { kept = them } in Going s it) (sym (append-nil aside.kept))
      attributes_fold names (a ∷ more) s aside =
          one_attribute (is_named names (path_of_meta a.meta)) (passes which (path_of_meta a.meta)) names a more s aside (attributes_fold names more)

    -- where no attribute is read, some may be kept
    over_kept_is : (which : Forward) (s : State) (aside : Aside) (asked : Asked)
        → run_from setting before receiver (over_attributes [] which left) asked (Going s aside)
        ≡ fold (on_attribute inner [] which) (Going s aside) (attributes_asked asked)
    over_kept_is forward.Nothing s aside asked =
        ap (λ them. let it : Aside = record aside { kept = them } in Going s it) (sym (append-nil aside.kept))
        ∙ ap (λ them. Going s (keeping them aside)) (sym (nothing_kept_of [] (attributes_asked asked)))
        ∙ ap (λ es. Going (read s es) (keeping (kept_of [] forward.Nothing (attributes_asked asked)) aside)) (sym (entries-unnamed (attributes_asked asked)))
        ∙ sym (attributes_fold forward.Nothing [] (attributes_asked asked) s aside)
    over_kept_is forward.All s aside asked =
        statement.for_attributes setting before receiver [] [] forward.All asked (Going s aside)
        ∙ unread_same (λ list progress. progress) inner forward.All (Going s aside) (attributes_asked asked)
    over_kept_is (forward.Only names) s aside asked =
        statement.for_attributes setting before receiver [] [] (forward.Only names) asked (Going s aside)
        ∙ unread_same (λ list progress. progress) inner (forward.Only names) (Going s aside) (attributes_asked asked)

    pub over_is : (names : List Text) (which : Forward) (s : State) (aside : Aside) (asked : Asked)
        → run_from setting before receiver (over_attributes names which left) asked (Going s aside)
        ≡ Going (read s (named_entries names (attributes_asked asked))) (keeping (kept_of names which (attributes_asked asked)) aside)
    over_is [] which s aside asked = over_kept_is which s aside asked ∙ attributes_fold which [] (attributes_asked asked) s aside
    over_is (name ∷ names) which s aside asked =
        statement.for_attributes setting before receiver (name ∷ names) (for_items left ∷ []) which asked (Going s aside)
        ∙ attributes_fold which (name ∷ names) (attributes_asked asked) s aside

    -- where none is to be kept, what stands beside the state stays
    pub over_read_is : (names : List Text) (s : State) (aside : Aside) (asked : Asked)
        → run_from setting before receiver (over_attributes names forward.Nothing left) asked (Going s aside)
        ≡ Going (read s (named_entries names (attributes_asked asked))) aside
    over_read_is names s aside asked =
        over_is names forward.Nothing s aside asked
        ∙ ap (λ them. Going (read s (named_entries names (attributes_asked asked))) (keeping them aside)) (nothing_kept_of names (attributes_asked asked))
        ∙ ap (λ them. let it : Aside = record aside { kept = them } in Going (read s (named_entries names (attributes_asked asked))) it) (append-nil aside.kept)
