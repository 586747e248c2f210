-- What bodies mention whose members are of any type.
use Rattle.std.specs.Prelude.{map}
use Rattle.body_core.specs.declared.ast.data.«Data».{«Data»}
use Rattle.body_core.specs.declared.ast.data.«Data».TheVariants as body
use Rattle.body_core.specs.declared.ast.fields.Fields.{Fields}
use Rattle.body_usage.specs.Mentions.{Mentioned, all_of}

-- what the members mention
abbrev pub members_mention : {A : Type 0} → (A → Mentioned) → Fields A → Mentioned
members_mention of it = all_of (map of it.fields)

-- what the variants mention, or the members
abbrev pub body_mentions : {V A : Type 0} → (V → Mentioned) → (A → Mentioned) → «Data» V A → Mentioned
body_mentions of_variant of_member (body.Enum variants) = all_of (map of_variant variants)
body_mentions of_variant of_member (body.Struct it) = members_mention of_member it
