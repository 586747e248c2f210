-- The host that refuses.
use Rattle.std.specs.Prelude.{Bool, true, false, codes, Some, None}
use Rattle.machine_value.specs.declared.value.Value.TheVariants as value
use Rattle.machine_host.specs.declared.place.Use.{Use}
use Rattle.machine_host.specs.declared.place.Use.TheVariants as use_at
use Rattle.machine_host.specs.HostSays.{HostSays}
use Rattle.machine_host.specs.Made.{custom, named_type}

-- where a function is asked that is refused; elsewhere none is offered
abbrev pub is_refused : Use → Bool
is_refused use_at.Default = false
is_refused use_at.FromWord = false
is_refused use_at.FromNone = false
is_refused _ = true

-- Functions are offered and refuse, each path takes a `String`, and there is no type and no default.
abbrev pub refusing : HostSays
refusing =
    record {
      offers = λ decls call place. is_refused place.at;
      takes = λ path. Some (named_type (codes "String"));
      knows = λ ty. false;
      answer = λ decls call place arg. custom (codes "refused");
      has_default = λ decls ty. false;
      default_of = λ decls ty. value.Unit;
      convert = λ ty item. custom (codes "refused");
      none_of = λ ty. None;
    }
