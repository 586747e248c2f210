-- A value of what an item means under accepted declarations fits the last of them.
use Rattle.std.proofs.Common.{◌≡◌, ◌∙◌, ◌-◌, List, length, map, nat_lt, slice_get, Some, All, IsTrue, refl, sym, ap, subst}
use Rattle.std.proofs.lemmas.Bool.{and_parts}
use Rattle.std.proofs.lemmas.List.{length-map}
use Rattle.node_core.specs.declared.derive.DeriveInput.{DeriveInput}
use Rattle.codegen_program.specs.declared.program.Program.{Program}
use Rattle.meaning_core.specs.Decls.{FitsAmong}
use Rattle.meaning_core.specs.HostSays.{HostSays}
use Rattle.machine_steps.specs.Setting.{Setting}
use Rattle.law_asks.specs.Units.{is_receiver}
use Rattle.law_asks.specs.Unfitness.{refusals}
use Rattle.meaning_core.specs.Declarations.{declared_meaning}
use Rattle.run_accepted.specs.Attributes.{without_attributes}
use Rattle.run_source.specs.Values.{Rules}
use Rattle.run_accepted.specs.Accepted.{IsAccepted}
use Rattle.run_accepted.specs.Plain.{IsPlainDecl}
use Rattle.run_accepted.proofs.FitLemmas.{has_receiver}
use Rattle.run_accepted.proofs.ListLemmas.{at_place}
use Rattle.run_accepted.proofs.PlainLemmas.{plain_input}
use Rattle.law_options.specs.Texts.{input_decl, meta_decls, text_meaning, text_setting}
use Rattle.law_options.proofs.PlainMeaning.{plain_meaning}
use Rattle.law_asks.specs.Reads.{OnValue}
use Rattle.law_asks.proofs.Declared.{declared_fits}
use Rattle.law_accepted.specs.Claims.{AcceptedFits}
use Rattle.law_accepted.proofs.Accepted.{accepted_is_sound}
use Rattle.law_accepted.proofs.Lists.{two_at}
use Rattle.law_accepted.proofs.Pairs.{input_made}

-- the last of accepted declarations is one that items of a text are read as
last_receives : (host : HostSays) (rules : Rules) (decls : List DeriveInput) (program : Program) → IsAccepted host rules decls program
    → IsTrue (is_receiver program.units (length decls - 1))
last_receives host rules decls program is =
    let has = and_parts (nat_lt 0 (length program.decls)) (is_receiver program.units (length program.decls - 1)) (has_receiver (refusals host program) is.fits) in
    let count : length program.decls ≡ length decls = ap length is.sound.compiled.bare ∙ length-map decls without_attributes in
    subst (λ n. IsTrue (is_receiver program.units (n - 1))) count has.1

-- an item means under the last declaration what its attributes mean
last_means : (host : HostSays) (rules : Rules) (decls : List DeriveInput) (program : Program) (subject : DeriveInput) → All IsPlainDecl decls
    → IsAccepted host rules decls program → (last : DeriveInput) → slice_get decls (length decls - 1) ≡ Some last
    → text_meaning host rules decls (length decls - 1) last subject
    ≡ declared_meaning (text_setting host decls) (meta_decls rules decls) (input_decl rules (length decls - 1) last) subject
last_means host rules decls program subject plain is last stands =
    let here = length decls - 1 in
    let made = input_made rules decls program.units is.sound.options is.sound.compiled.units here (last_receives host rules decls program is) in
    let own = made.decl in
    let P : DeriveInput → Type 0 = λ some.
    text_meaning host rules decls here some subject ≡ declared_meaning (text_setting host decls) (meta_decls rules decls) (input_decl rules here some) subject in
    subst P (two_at decls here own last made.stands stands)
    (plain_meaning host rules decls here own subject (plain_input own (at_place IsPlainDecl decls here own plain made.stands) (made.derives refl)) made.faultless)

pub accepted_fits : AcceptedFits
accepted_fits host rules decls program last subject lawful plain idents is stands =
    let here = length decls - 1 in
    let meant = input_decl rules here last in
    let items = meta_decls rules decls in
    let (named, items_sound, inputs_sound) = accepted_is_sound host rules decls program plain idents is in
    let fits = declared_fits host program items meant subject lawful named items_sound (inputs_sound here last stands (last_receives host rules decls program is)) in
    let P : List DeriveInput → Type 0 = λ bare.
    OnValue (FitsAmong bare here) (let setting : Setting = record { host = host; decls = bare } in declared_meaning setting items meant subject) in
    subst (OnValue (FitsAmong (map without_attributes decls) here)) (sym (last_means host rules decls program subject plain is last stands)) (subst P is.sound.compiled.bare fits)
