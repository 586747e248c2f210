-- Entries that are put in the order of their texts: how the texts lie.
use Rattle.std.proofs.Common.{◌≡◌, ◌∙◌, refl, sym, ap, ℕ, zero, suc, ◌<◌, false, true, List, [], ◌∷◌, length, get_or, map, fold, is_eq, is_gt, is_lt, arith, add-one}
use Rattle.std.specs.Cmp.{IsTotalOrder}
use Rattle.std.specs.Cmp.Lexicographic.{nat_list_cmp_total}
use Rattle.std.specs.List.{AllByRecursion}
use Rattle.std.specs.List.Sorted.{IsStrictlySortedBy}
use Rattle.std.specs.Ordering.{ordering_reverse}
use Rattle.std.specs.Str.{bytes_eq}
use Rattle.std.specs.declared.cmp.Ordering.{Ordering}
use Rattle.std.specs.declared.cmp.Ordering.TheVariants.{Less, Equal, Greater}
use Rattle.std.proofs.lemmas.Cmp.{upto}
use Rattle.std.proofs.lemmas.Map.Text.{is_eq-slice_cmp}
use Rattle.base_core.specs.declared.text.Text.{Text}
use Rattle.machine_host.specs.Maps.{text_order}
use Rattle.machine_cells.specs.Texts.{by_text, put, put_by}
use Rattle.machine_host.specs.Forms.{DontFall, Rise}

order : IsTotalOrder text_order
order = nat_list_cmp_total

-- each text may stand before those behind it
abbrev pub Lie : (Text → Text → Type 0) → List Text → Type 0
Lie Before [] = Unit {0}
Lie Before (text ∷ texts) = AllByRecursion (Before text) texts × Lie Before texts

-- A text stands before another that is greater, or behind it where it is not less and the two are such.
pub record Places (Apart Before : Text → Text → Type 0) : Type 0 where
  pub less : (one other : Text) → text_order one other ≡ Less → Before one other
  pub behind : (one other : Text) → is_lt (text_order one other) ≡ false → Apart one other → Before other one
  pub chain : (one other third : Text) → Before one other → Before other third → Before one third

-- ---- texts that don't fall

abbrev pub IsAny : Text → Text → Type 0
IsAny one other = Unit {0}

abbrev pub IsUpto : Text → Text → Type 0
IsUpto one other = is_gt (text_order one other) ≡ false

is_gt-reverse : (it : Ordering) → is_gt (ordering_reverse it) ≡ is_lt it
is_gt-reverse Less = refl
is_gt-reverse Equal = refl
is_gt-reverse Greater = refl

turned : (one other : Text) → is_gt (text_order one other) ≡ is_lt (text_order other one)
turned one other = ap is_gt (order.antisymm one other) ∙ is_gt-reverse (text_order other one)

pub in_order : Places IsAny IsUpto
in_order = record {
  less = λ one other less. ap is_gt less;
  behind = λ one other behind apart. turned other one ∙ behind;
  chain = upto order;
}

next : (texts : List Text) → Lie IsUpto texts → (k : ℕ) (d : Text) → suc k < length texts → is_lt (text_order (get_or texts (suc k) d) (get_or texts k d)) ≡ false
next [] lie k d lt = let never : ⊥ = omega (arith, lt) in absurd never
next (text ∷ []) lie zero d lt = let never : ⊥ = omega (arith, lt) in absurd never
next (text ∷ other ∷ texts) lie zero d lt = sym (turned text other) ∙ lie.0.0
next (text ∷ texts) lie (suc k) d lt = next texts lie.1 k d (omega (arith, lt))

pub dont_fall : (texts : List Text) → Lie IsUpto texts → DontFall texts
dont_fall texts lie k d from lt = rw (add-one) (next texts lie k d (omega (arith, lt)))

-- ---- texts that rise

abbrev pub Differs : Text → Text → Type 0
Differs one other = bytes_eq other one ≡ false

abbrev pub IsBelow : Text → Text → Type 0
IsBelow one other = text_order one other ≡ Less

below_by : (one other : Text) (it : Ordering) → text_order other one ≡ it → is_lt (text_order one other) ≡ false → bytes_eq other one ≡ false → it ≡ Less
below_by one other Less is behind apart = refl
below_by one other Equal is behind apart =
    let same : bytes_eq other one ≡ true = sym (is_eq-slice_cmp other one) ∙ ap is_eq is in cc
below_by one other Greater is behind apart =
    let greater : is_gt (text_order other one) ≡ true = ap is_gt is in
    let level = turned other one in cc

pub rising : Places Differs IsBelow
rising = record {
  less = λ one other less. less;
  behind = λ one other behind apart. below_by one other _ refl behind apart;
  chain = order.trans;
}

pub rise : (texts : List Text) → Lie IsBelow texts → Rise texts
unfolding IsStrictlySortedBy
rise [] lie = tt
rise (text ∷ texts) lie = (lie.0, rise texts lie.1)

-- ---- entries

module _ {A : Type 0} where
  -- what is said of each entry, once one more is put in
  pub each_put : (Says : Text × A → Type 0) (entry : Text × A) (all : List (Text × A)) → Says entry → AllByRecursion Says all → AllByRecursion Says (put entry all)
  each_put Says entry [] one each = (one, tt)
  each_put Says entry (other ∷ more) one each =
      let put_there = each_put Says entry more one each.1 in
      elim (text_order entry.0 other.0) as (λ it. AllByRecursion Says (put_by it entry other (put entry more) (other ∷ more))) [
        | Less ↦ (one, each)
        | Equal ↦ (each.0, put_there)
        | Greater ↦ (each.0, put_there)
      ]

  each_fold : (Says : Text × A → Type 0) (all entries : List (Text × A)) → AllByRecursion Says all → AllByRecursion Says entries → AllByRecursion Says (fold (λ before entry. put entry before) all entries)
  each_fold Says all [] each more = each
  each_fold Says all (entry ∷ entries) each more = each_fold Says (put entry all) entries (each_put Says entry all more.0 each) more.1

  pub each_by_text : (Says : Text × A → Type 0) (entries : List (Text × A)) → AllByRecursion Says entries → AllByRecursion Says (by_text entries)
  each_by_text Says entries each = each_fold Says [] entries tt each

  each_weaker : (Says Others : Text × A → Type 0) → ((entry : Text × A) → Says entry → Others entry) → (all : List (Text × A)) → AllByRecursion Says all → AllByRecursion Others all
  each_weaker Says Others weaker [] each = tt
  each_weaker Says Others weaker (entry ∷ all) each = (weaker entry each.0, each_weaker Says Others weaker all each.1)

  each_text : (Says : Text → Type 0) (all : List (Text × A)) → AllByRecursion (λ entry. Says entry.0) all → AllByRecursion Says (map (λ entry. entry.0) all)
  each_text Says [] each = tt
  each_text Says (entry ∷ all) each = (each.0, each_text Says all each.1)

  module _ (Apart Before : Text → Text → Type 0) (places : Places Apart Before) where
    -- the text of an entry may stand before those of others
    abbrev Leads : Text × A → List (Text × A) → Type 0
    Leads entry all = AllByRecursion (λ other. Before entry.0 other.0) all

    abbrev Rises : List (Text × A) → Type 0
    Rises [] = Unit {0}
    Rises (entry ∷ all) = Leads entry all × Rises all

    -- each text is such beside those before it
    abbrev pub Fresh : List Text → List (Text × A) → Type 0
    Fresh before [] = Unit {0}
    Fresh before (entry ∷ entries) = AllByRecursion (Apart entry.0) before × Fresh (entry.0 ∷ before) entries

    rises_by : (entry other : Text × A) (more : List (Text × A)) → Apart entry.0 other.0 → Rises (other ∷ more) → Rises (put entry more) → (it : Ordering) → text_order entry.0 other.0 ≡ it
        → Rises (put_by it entry other (put entry more) (other ∷ more))
    rises_by entry other more apart up put_up Less is =
        let first = places.less entry.0 other.0 is in
        ((first, each_weaker (λ third. Before other.0 third.0) (λ third. Before entry.0 third.0) (λ third. places.chain entry.0 other.0 third.0 first) more up.0), up)
    rises_by entry other more apart up put_up Equal is =
        (each_put (λ third. Before other.0 third.0) entry more (places.behind entry.0 other.0 (ap is_lt is) apart) up.0, put_up)
    rises_by entry other more apart up put_up Greater is =
        (each_put (λ third. Before other.0 third.0) entry more (places.behind entry.0 other.0 (ap is_lt is) apart) up.0, put_up)

    rises_put : (entry : Text × A) (all : List (Text × A)) → AllByRecursion (λ other. Apart entry.0 other.0) all → Rises all → Rises (put entry all)
    rises_put entry [] apart up = (tt, tt)
    rises_put entry (other ∷ more) apart up = rises_by entry other more apart.0 up (rises_put entry more apart.1 up.1) (text_order entry.0 other.0) refl

    rises_fold : (before : List Text) (all entries : List (Text × A)) → ((text : Text) → AllByRecursion (Apart text) before → AllByRecursion (λ other. Apart text other.0) all)
        → Rises all → Fresh before entries → Rises (fold (λ before entry. put entry before) all entries)
    rises_fold before all [] covers up fresh = up
    rises_fold before all (entry ∷ entries) covers up fresh =
        rises_fold (entry.0 ∷ before) (put entry all) entries
        (λ text apart. each_put (λ other. Apart text other.0) entry all apart.0 (covers text apart.1))
        (rises_put entry all (covers entry.0 fresh.0) up) fresh.1

    lie : (all : List (Text × A)) → Rises all → Lie Before (map (λ entry. entry.0) all)
    lie [] up = tt
    lie (entry ∷ all) up = (each_text (Before entry.0) all up.0, lie all up.1)

    pub lie_by_text : (entries : List (Text × A)) → Fresh [] entries → Lie Before (map (λ entry. entry.0) (by_text entries))
    lie_by_text entries fresh = lie (by_text entries) (rises_fold [] [] entries (λ text apart. tt) tt fresh)
