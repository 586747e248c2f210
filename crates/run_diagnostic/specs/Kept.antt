-- What a source keeps of the bytes that it hands on.
use Rattle.std.specs.Prelude.{◌≡◌, ◌⊎◌, ℕ, List, [], ◌++◌, Option, None, option_map, unwrap_or}
use Rattle.run_diagnostic.specs.declared.keep.KeepingSource.{KeepingSource}

-- the bytes that a source has kept, where it keeps them
abbrev pub kept_bytes : {S : Type 0} → KeepingSource S → Option (List ℕ)
kept_bytes source = option_map (λ bytes. bytes.items) source.kept

-- The bytes that were given stand behind those that were kept, or nothing is kept any more.
abbrev pub Keeps : Option (List ℕ) → Option (List ℕ) → Option (List ℕ) → Type 0
Keeps before given after =
    (after ≡ None) ⊎ (after ≡ option_map (λ bytes. bytes ++ unwrap_or given []) before)
