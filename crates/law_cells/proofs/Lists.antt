-- Lists and sets: each element that they read fits.
use Rattle.std.proofs.Common.{◌≡◌, refl, Bool, List, [], ◌∷◌, map, fold, All, Option, Some, None, IfSome, Ordering, Less, Equal, Greater, option_and_then}
use Rattle.std.specs.List.{filter_map}
use Rattle.std.proofs.lemmas.List.Elements.{All-cons, All-head, All-map, All-nil, All-tail, All-weaker}
use Rattle.base_core.specs.declared.text.Text.{Text}
use Rattle.tok_types.specs.declared.span.Span.{Span}
use Rattle.tok_types.specs.declared.tree.TokenStream.{TokenStream}
use Rattle.node_expr.specs.Kinds.{array_in, string_in}
use Rattle.node_expr.specs.Layers.{ExprLayer}
use Rattle.node_expr.specs.declared.expr.Expr.{Expr, out-Expr}
use Rattle.node_expr.specs.declared.expr.Expr.TheOpen.{Expr-F}
use Rattle.node_expr.specs.declared.expr.ExprArray.{ExprArray}
use Rattle.node_expr.specs.declared.lit.LitStr.{LitStr}
use Rattle.syn_grammar.specs.Trees.{expr_array_of}
use Rattle.print_core.specs.Marks.{Trees}
use Rattle.error_core.specs.Each.{each, every}
use Rattle.error_fault.specs.Outcome.{Outcome, Value, bind, settle, value_of}
use Rattle.meta_nested.specs.Groups.{in_group, without_groups}
use Rattle.meta_nested.specs.Cells.{Cells, no_cells}
use Rattle.meta_nested.specs.Dispatch.{from_expr, from_nested_meta, known}
use Rattle.machine_host.specs.Lists.{array_cells, by_element, elements, integer_element, integers_cells, literals_cells, names_cells, quoted_elements}
use Rattle.machine_cells.specs.Maps as maps
use Rattle.machine_host.specs.Maps.{text_order}
use Rattle.meta_nested.specs.declared.nested.NestedMeta.{NestedMeta}
use Rattle.machine_host.specs.Sets.{set_faults}
use Rattle.machine_cells.specs.Shown.{shown_cells}
use Rattle.machine_cells.specs.Texts.{by_text, put, put_by}
use Rattle.machine_cells.specs.Values.{syntax, syntax_list}
use Rattle.machine_value.specs.declared.value.Value.{Value as Datum, out-Value}
use Rattle.machine_value.specs.declared.value.Value.TheOpen.{Value-F}
use Rattle.machine_value.specs.declared.value.Value.TheVariants as value
use Rattle.machine_host.specs.Forms.{Form, IsListOf, list_layer}
use Rattle.machine_host.specs.Nodes.{IsOf, IsRead, IsReadAs}
use Rattle.law_listed.specs.Listed.{IsListed, HasListed, IsListedLit}
use Rattle.law_cells.specs.Reads.{OnValue, Reads}
use Rattle.law_cells.proofs.Calls.{Gives, list_reads, only, reads, shown_reads, value_says, weaker_reads}
use Rattle.law_listed.proofs.Elements.{array_elements, value_elements}
use Rattle.law_cells.proofs.Forms.{fits_shown}
use Rattle.law_cells.proofs.Nodes.{expr_read, fits_node, item_read, literal}
use Rattle.law_cells.proofs.Outcomes.{bound, each_says, every_says, found_says, is_known, of_found, settled, values_say}

-- a list of what fits, where more does
pub weaker_lists : (Fits Other : Form) → ((it : Datum) → Fits it → Other it) → (cells : Cells Datum) → Reads (IsListOf Fits) cells → Reads (IsListOf Other) cells
weaker_lists Fits Other more cells h = weaker_reads (IsListOf Fits) (IsListOf Other) cells (λ it. by (out-Value it)) h
  where
    by : (layer : Value-F Datum) → list_layer Fits layer → list_layer Other layer
    by (Value-F.List values) all = All-weaker Fits Other more values all
    by _ none = none

-- ---- arrays

module _ {A : Type 0} (Says : A → Type 0) (read : Expr → Outcome A) (says : (it : Expr) → IsListedLit it → OnValue Says (read it)) where
  elements_say : (array : ExprArray Expr) → HasListed array → OnValue (All Says) (elements read array)
  elements_say array listed = each_says Says read array.elems (All-weaker IsListedLit (λ it. OnValue Says (read it)) says array.elems listed)

  -- the array that a string is, by the tokens in it
  tokens_say : (text : Text) (tokens : Option TokenStream) → OnValue (All Says) (bind (known text (option_and_then expr_array_of tokens)) (elements read))
  tokens_say text None = tt
  tokens_say text (Some tokens) =
      bound (All Says) HasListed (elements read) elements_say (known text (expr_array_of tokens)) (is_known HasListed text (expr_array_of tokens) (found_says HasListed (expr_array_of tokens) (array_elements tokens)))

  quoted_say : (it : LitStr) → OnValue (All Says) (quoted_elements read it)
  quoted_say it = tokens_say it.value _

  -- a type that reads arrays, and lists by such a cell
  pub arrays_read : (list : List NestedMeta → Option (Outcome (List A))) → ((items : List NestedMeta) → All IsListed items → IfSome (list items) (OnValue (All Says))) → Reads (All Says) (record (array_cells read) { list = list })
  arrays_read list lists_say =
      reads (All Says) (record (array_cells read) { list = list }) (record {
        list = lists_say;
        string = λ text span. tt;
        value = λ it. of_found (All Says) (quoted_elements read) (string_in it) (λ text e. quoted_say text);
        expr = λ pair is. of_found (All Says) (elements read) (array_in (out-Expr (without_groups pair.value))) (λ array e. elements_say array (value_elements pair is array e));
      })

-- ---- literals

-- the items of a list, each by itself
items_say : {A : Type 0} (read : NestedMeta → Outcome A) (items : List NestedMeta) → All IsListed items → All (λ item. OnValue (IsRead read) (read item)) items
items_say read items all = All-weaker IsListed (λ item. OnValue (IsRead read) (read item)) (item_read read) items all

pub literals_read : {A : Type 0} (cells : Cells A) (tokens_of printed : A → Trees) → ((it : A) → printed it ≡ tokens_of it) → Reads (IsListOf (IsOf (literal cells) tokens_of)) (shown_cells (syntax_list printed) (literals_cells (literal cells)))
literals_read cells tokens_of printed same =
    let read = from_nested_meta (literal cells) in
    let Says = IsRead read in
    shown_reads (All Says) (IsListOf (IsReadAs read tokens_of)) (syntax_list printed) (literals_cells (literal cells))
    (fits_shown Says (IsReadAs read tokens_of) (syntax printed) (fits_node read tokens_of printed same))
    (arrays_read Says (from_expr (literal cells)) (expr_read cells) (λ items. Some (each read items)) (λ items all. each_says Says read items (items_say read items all)))

-- ---- integers

pub integer_list_reads : {N : Type 0} (Says : N → Type 0) (Fits : Form) (show : N → Datum) (cells : Cells N) → Gives Says cells → ((number : N) → Says number → Fits (show number)) → Reads (IsListOf Fits) (shown_cells (λ numbers. value.List (map show numbers)) (integers_cells (only cells)))
integer_list_reads Says Fits show cells gives fits =
    shown_reads (All Says) (IsListOf Fits) (λ numbers. value.List (map show numbers)) (integers_cells (only cells)) (fits_shown Says Fits show fits)
    (arrays_read Says (integer_element (only cells)) (λ it is. element it (out-Expr (in_group it (out-Expr it)))) (λ items. None) (λ items all. tt))
  where
    element : (it : Expr) (layer : ExprLayer) → OnValue Says (by_element (only cells) it layer)
    element it (Expr-F.Lit found) = value_says Says cells gives found
    element it _ = tt

-- ---- names

-- a list whose items are read one by one
pub each_reads : {A : Type 0} (read : NestedMeta → Outcome A) (tokens_of : A → Trees) → Reads (IsListOf (IsReadAs read tokens_of)) (shown_cells (syntax_list tokens_of) (record no_cells { list = λ items. Some (each read items) }))
each_reads read tokens_of =
    shown_reads (All (IsRead read)) (IsListOf (IsReadAs read tokens_of)) (syntax_list tokens_of) (record no_cells { list = λ items. Some (each read items) })
    (fits_shown (IsRead read) (IsReadAs read tokens_of) (syntax tokens_of) (fits_node read tokens_of tokens_of (λ it. refl)))
    (list_reads (All (IsRead read)) (each read) (λ items all. each_says (IsRead read) read items (items_say read items all)))

pub names_read : {A : Type 0} (read : NestedMeta → Outcome A) (tokens_of : A → Trees) → Reads (IsListOf (IsReadAs read tokens_of)) (shown_cells (syntax_list tokens_of) (names_cells read))
names_read read tokens_of =
    shown_reads (All (IsRead read)) (IsListOf (IsReadAs read tokens_of)) (syntax_list tokens_of) (names_cells read)
    (fits_shown (IsRead read) (IsReadAs read tokens_of) (syntax tokens_of) (fits_node read tokens_of tokens_of (λ it. refl)))
    (list_reads (All (IsRead read)) (every read) (λ items all. every_says (IsRead read) read items (items_say read items all)))

-- ---- entries in the order of their texts

module _ {A : Type 0} (Says : Text × A → Type 0) where
  put_by_says : (order : Ordering) (entry other : Text × A) (behind all : List (Text × A)) → Says entry → Says other → All Says behind → All Says all → All Says (put_by order entry other behind all)
  put_by_says Less entry other behind all here there rest whole = All-cons Says entry all here whole
  put_by_says Equal entry other behind all here there rest whole = All-cons Says other behind there rest
  put_by_says Greater entry other behind all here there rest whole = All-cons Says other behind there rest

  put_says : (entry : Text × A) (entries : List (Text × A)) → Says entry → All Says entries → All Says (put entry entries)
  put_says entry [] h all = All-cons Says entry [] h (All-nil Says)
  put_says entry (other ∷ more) h all =
      put_by_says (text_order entry.0 other.0) entry other (put entry more) (other ∷ more) h (All-head Says other more all) (put_says entry more h (All-tail Says other more all)) all

  fold_says : (before entries : List (Text × A)) → All Says before → All Says entries → All Says (fold (λ before entry. put entry before) before entries)
  fold_says before [] all h = all
  fold_says before (entry ∷ entries) all h = fold_says (put entry before) entries (put_says entry before (All-head Says entry entries h) all) (All-tail Says entry entries h)

  pub by_text_says : (entries : List (Text × A)) → All Says entries → All Says (by_text entries)
  by_text_says entries all = fold_says [] entries (All-nil Says) all

module _ {A : Type 0} (text : A → Text) (read : NestedMeta → Outcome A) (tokens_of : A → Trees) where
  abbrev Fits : Form
  Fits = IsReadAs read tokens_of

  abbrev shown : A → Text × Datum
  shown name = (text name, syntax tokens_of name)

  abbrev FitsEntry : Text × Datum → Type 0
  FitsEntry entry = Fits entry.1

  names_fit : (names : List A) → All (IsRead read) names → IsListOf Fits (maps.names_value text tokens_of names)
  names_fit names all =
      fits_shown FitsEntry Fits (λ entry. entry.1) (λ entry h. h) (by_text (map shown names))
      (by_text_says FitsEntry (map shown names) (All-map FitsEntry shown names (All-weaker (IsRead read) (λ name. Fits (syntax tokens_of name)) (fits_node read tokens_of tokens_of (λ it. refl)) names all)))

  pub sets_read : (same : A → A → Bool) (span_of : A → Span) → Reads (IsListOf Fits) (maps.names_cells same text span_of read tokens_of)
  sets_read same span_of =
      list_reads (IsListOf Fits) (λ items. settle (set_faults same text span_of read [] items) (Value (maps.names_value text tokens_of (filter_map (λ item. value_of (read item)) items))))
      (λ items all. settled (IsListOf Fits) (set_faults same text span_of read [] items) (Value (maps.names_value text tokens_of (filter_map (λ item. value_of (read item)) items)))
      (names_fit (filter_map (λ item. value_of (read item)) items) (values_say (IsRead read) read items (items_say read items all))))
