-- The items of entries one after another.
use Rattle.std.proofs.Common.{◌≡◌, ◌∙◌, ℕ, suc, ◌+◌, ◌<◌, List, [], ◌∷◌, ◌++◌, length, get_or, drop, drop-cons, add-one, flat_map, map, refl, sym, ap, append_assoc, append-nil}
use Rattle.tok_types.specs.declared.span.Span.{Span}
use Rattle.node_core.specs.declared.attr.Meta.{Meta}
use Rattle.error_fault.specs.Outcome.{Outcome, Value, Faults}
use Rattle.meta_entries.specs.declared.entry.Entry.{Entry}
use Rattle.options_rows.specs.Entries.{items, option_item}
use Rattle.run_accepted.specs.Unbuilt.{option_places}

abbrev places : List (Outcome Meta) → List Span
places entries = flat_map option_places (items entries)

places-cons : (first : Outcome Meta) (rest : List (Outcome Meta)) → places (first ∷ rest) ≡ places (first ∷ []) ++ places rest
places-cons (Faults fault more) rest = refl
places-cons (Value item) rest = ap (λ here. here ++ places rest) (sym (append-nil (option_places item)))

-- one turn of the loop over entries
pub next_places : (old new : List Span) (entries : List Entry) (i : ℕ) (it : Entry) → i < length entries → it ≡ get_or entries i it
    → new ≡ old ++ places (option_item it ∷ [])
    → new ++ places (map option_item (drop (i + 1) entries)) ≡ old ++ places (map option_item (drop i entries))
next_places old new entries i it lt is made =
    let rest = map option_item (drop (i + 1) entries) in
    ap (λ xs. xs ++ places rest) made
    ∙ append_assoc old (places (option_item it ∷ [])) (places rest)
    ∙ ap (λ xs. old ++ xs) (sym (places-cons (option_item it) rest))
    ∙ ap (λ xs. old ++ places (map option_item xs))
    (sym (drop-cons entries i it lt ∙ ap (λ x. x ∷ drop (suc i) entries) (sym is) ∙ ap (λ n. it ∷ drop n entries) (sym (add-one i))))
