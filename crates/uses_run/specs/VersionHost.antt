-- The host of the tool with one more function, `version`.
use Rattle.std.proofs.Common.{◌≡◌, ℕ, Bool, true, false, ◌&&◌, ◌||◌, List, codes, Option, Some, None, IsTrue, refl}
use Rattle.std.proofs.lemmas.Bool.{false≢true}
use Rattle.machine_core.specs.StdFunctions.{is_function, leaf_in}
use Rattle.machine_core.specs.StdLaws.{leaf_fits_type, std_lawful}
use Rattle.machine_core.specs.StdSays.{std_says}
use Rattle.machine_core.specs.Types.{Callable, DeriveInput, Leaf, Place, Said, Use}
use Rattle.machine_core.specs.Types.leaf
use Rattle.machine_core.specs.Types.said
use Rattle.machine_core.specs.Types.use_at
use Rattle.machine_core.specs.Types.value
use Rattle.machine_core.specs.ValueLemmas.{is_text}
use Rattle.machine_core.specs.host.Decls.{Fits}
use Rattle.machine_core.specs.host.HostSays.{HostSays}
use Rattle.machine_core.specs.host.Lawful.{IsLawful, IsProper}
use Rattle.machine_core.specs.host.Seen.{SeenArg}

abbrev pub is_default : Use → Bool
is_default use_at.Default = true
is_default _ = false

abbrev pub is_string : Option Leaf → Bool
is_string (Some leaf.String) = true
is_string _ = false

-- the function `version` is asked for the default of a `String`
abbrev pub is_version : List DeriveInput → Option Callable → Place → Bool
is_version decls call place = is_function (codes "version") call && is_default place.at && is_string (leaf_in decls place.ty)

-- this text, where the test holds, and else what the tool's host answers
abbrev pub version_or : Bool → List ℕ → Said → Said
version_or true version otherwise = said.Given (value.Text version)
version_or false version otherwise = otherwise

-- what the tool's host says, and of `version` this text
abbrev pub versioned : List ℕ → HostSays
versioned version =
    record std_says {
      offers = λ decls call place. is_version decls call place || std_says.offers decls call place;
      answer = λ decls call place arg. version_or (is_version decls call place) version (std_says.answer decls call place arg);
    }

-- ---- what it gives fits

string_is : (found : Option Leaf) → is_string found ≡ true → found ≡ Some leaf.String
string_is (Some leaf.String) e = refl
string_is (Some _) e = absurd (false≢true e)
string_is None e = absurd (false≢true e)

third : (a b c : Bool) → a && b && c ≡ true → c ≡ true
third true true c e = e
third true false c e = absurd (false≢true e)
third false b c e = absurd (false≢true e)

version_fits : (version : List ℕ) (decls : List DeriveInput) (call : Option Callable) (place : Place) → is_version decls call place ≡ true
    → Fits decls place.ty (value.Text version)
version_fits version decls call place e =
    let gives : is_string (leaf_in decls place.ty) ≡ true
    = third (is_function (codes "version") call) (is_default place.at) (is_string (leaf_in decls place.ty)) e in
    leaf_fits_type decls place.ty leaf.String (string_is (leaf_in decls place.ty) gives) (value.Text version) (is_text version)

answer_fits : (version : List ℕ) (decls : List DeriveInput) (call : Option Callable) (place : Place) (arg : SeenArg) (test : Bool)
    → is_version decls call place ≡ test
    → IsTrue (test || std_says.offers decls call place)
    → IsProper (Fits decls place.ty) (place.at ≡ use_at.FromNone) (version_or test version (std_says.answer decls call place arg))
answer_fits version decls call place arg true e offered = version_fits version decls call place e
answer_fits version decls call place arg false e offered = std_lawful.answer decls call place arg offered

pub versioned_is_lawful : (version : List ℕ) → IsLawful (versioned version)
versioned_is_lawful version =
    record {
      answer = λ decls call place arg offered. answer_fits version decls call place arg (is_version decls call place) refl offered;
      default_of = std_lawful.default_of;
      convert = std_lawful.convert;
      none_of = std_lawful.none_of;
    }
