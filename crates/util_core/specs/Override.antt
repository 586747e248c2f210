-- A value that is given, or is to come from elsewhere.
use Rattle.std.specs.Prelude.{ℕ, List, ◌++◌, Option, Some, None, option_map, codes}
use Rattle.node_core.specs.declared.attr.Meta.{Meta}
use Rattle.node_core.specs.declared.attr.Meta.TheVariants as meta
use Rattle.error_fault.specs.Outcome.{Outcome, Value, on_value}
use Rattle.meta_core.specs.Cells.{Cells, no_cells}
use Rattle.meta_core.specs.Dispatch.{from_bool, from_char, from_expr, from_list, from_meta, from_text, from_value}
use Rattle.util_core.specs.declared.over_ride.Override.{Override}
use Rattle.util_core.specs.declared.over_ride.Override.TheVariants.{Inherit, Explicit}

-- the value that is given
abbrev pub explicit : {A : Type 0} → Override A → Option A
explicit Inherit = None
explicit (Explicit x) = Some x

-- the override of the value, if there is one
abbrev pub of_option : {A : Type 0} → Option A → Override A
of_option None = Inherit
of_option (Some x) = Explicit x

-- a function of the value
abbrev pub on_explicit : {A B : Type 0} → (A → B) → Override A → Override B
on_explicit f Inherit = Inherit
on_explicit f (Explicit x) = Explicit (f x)

-- the text of an override, by that of its value where this has one
abbrev pub shown : {A : Type 0} → (A → Option (List ℕ)) → Override A → Option (List ℕ)
shown text Inherit = Some (codes "Inherit")
shown text (Explicit x) = option_map (λ of_x. codes "Explicit `" ++ of_x ++ codes "`") (text x)

module _ {A : Type 0} (cells : Cells A) where
  -- every meta but a word, as the type reads it
  abbrev pub explicit_meta : Meta → Option (Outcome (Override A))
  explicit_meta (meta.Path path) = None
  explicit_meta it = Some (on_value Explicit (from_meta cells it))

  -- a word inherits; what else is asked is given, as the type reads it
  abbrev pub override_cells : Cells (Override A)
  override_cells =
      record no_cells {
        word = Some (Value Inherit);
        list = λ items. Some (on_value Explicit (from_list cells items));
        string = λ text span. Some (on_value Explicit (from_text cells text span));
        char = λ c. Some (on_value Explicit (from_char cells c));
        bool = λ b. Some (on_value Explicit (from_bool cells b));
        value = λ it. Some (on_value Explicit (from_value cells it));
        expr = λ it. Some (on_value Explicit (from_expr cells it));
        meta = explicit_meta;
      }
