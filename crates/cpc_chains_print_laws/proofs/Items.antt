-- What a print of items needs: that they can be printed, that their tokens can be spelled, and how deep they nest.
use Rattle.std.proofs.Common.{ℕ, ◌≤◌, Bool, true, List, [], ◌∷◌, ◌++◌, map, arith}
use Rattle.std.proofs.lemmas.List.{map-append}
use Rattle.cpc_base.specs.declared.stop.Dialect.{Dialect}
use Rattle.cpc_base.specs.declared.stop.Dialect.TheVariants as D
use Rattle.cpc_tree.specs.Syntax.{Stmts, Function, Item, Program}
use Rattle.cpc_tree.specs.StmtPrint.{block_row, block_depth, PrintableBlock}
use Rattle.cpc_tree.specs.ItemPrint.{item_row, item_depth, program_row, program_depth, PrintableItem, Printable}
use Rattle.cpc_printer_laws.proofs.Fitting.{Spelled, spelled_both, spelled_parts}
use Rattle.cpc_convert_common.specs.Converted.{function_item, prototype}

-- statements between braces that nest no deeper than h
pub record PrintsBlock (d : Dialect) (tight : Bool) (h : ℕ) (ss : Stmts) : Type 0 where
  pub printable : PrintableBlock ss
  pub spelled : Spelled d (block_row tight ss)
  pub deep : block_depth true ss ≤ h

-- an item
pub record PrintsItem (d : Dialect) (tight : Bool) (h : ℕ) (x : Item) : Type 0 where
  pub printable : PrintableItem x
  pub spelled : Spelled d (item_row tight x)
  pub deep : item_depth true x ≤ h

-- a program
pub record Prints (d : Dialect) (tight : Bool) (h : ℕ) (q : Program) : Type 0 where
  pub printable : Printable q
  pub spelled : Spelled d (program_row tight q)
  pub deep : program_depth true q ≤ h

module _ (d : Dialect) (tight : Bool) (h : ℕ) where
  -- no items
  pub no_items : Prints d tight h []
  unfolding Printable program_row program_depth
  no_items = record { printable = tt; spelled = tt; deep = omega arith }

  -- one more item
  pub and_item : (x : Item) (q : Program) → PrintsItem d tight h x → Prints d tight h q → Prints d tight h (x ∷ q)
  unfolding Printable program_row program_depth
  and_item x q a b = record { printable = (a.printable, b.printable); spelled = spelled_both d (item_row tight x) (program_row tight q) a.spelled b.spelled; deep = omega (arith, a.deep, b.deep) }

  -- the first of them
  pub first_item : (x : Item) (q : Program) → Prints d tight h (x ∷ q) → PrintsItem d tight h x
  unfolding Printable program_row program_depth
  first_item x q a = let deep = a.deep in record { printable = a.printable.0; spelled = (spelled_parts d (item_row tight x) (program_row tight q) a.spelled).0; deep = omega (arith, deep) }

  -- those behind the first
  pub later_items : (x : Item) (q : Program) → Prints d tight h (x ∷ q) → Prints d tight h q
  unfolding Printable program_row program_depth
  later_items x q a = let deep = a.deep in record { printable = a.printable.1; spelled = (spelled_parts d (item_row tight x) (program_row tight q) a.spelled).1; deep = omega (arith, deep) }

  -- one row of items behind another
  pub both_items : (q r : Program) → Prints d tight h q → Prints d tight h r → Prints d tight h (q ++ r)
  both_items [] r a b = b
  both_items (x ∷ q) r a b = and_item x (q ++ r) (first_item x q a) (both_items q r (later_items x q a) b)

-- ---- functions with their prototypes

-- functions, as prototypes and with their bodies
pub record PrintsFunctions (tight : Bool) (h : ℕ) (fs : List Function) : Type 0 where
  pub prototypes : Prints D.Event tight h (map prototype fs)
  pub functions : Prints D.Event tight h (map function_item fs)

-- one function
pub record PrintsFunction (tight : Bool) (h : ℕ) (f : Function) : Type 0 where
  pub prototypes : PrintsItem D.Event tight h (prototype f)
  pub functions : PrintsItem D.Event tight h (function_item f)

module _ (tight : Bool) (h : ℕ) where
  -- no functions
  pub no_functions : PrintsFunctions tight h []
  no_functions = record { prototypes = no_items D.Event tight h; functions = no_items D.Event tight h }

  -- one more function
  pub and_function : (f : Function) (fs : List Function) → PrintsFunction tight h f → PrintsFunctions tight h fs → PrintsFunctions tight h (f ∷ fs)
  and_function f fs a b = record { prototypes = and_item D.Event tight h (prototype f) (map prototype fs) a.prototypes b.prototypes; functions = and_item D.Event tight h (function_item f) (map function_item fs) a.functions b.functions }

  -- one row of functions behind another
  pub both_functions : (fs gs : List Function) → PrintsFunctions tight h fs → PrintsFunctions tight h gs → PrintsFunctions tight h (fs ++ gs)
  both_functions fs gs a b = record {
    prototypes = rw (map-append prototype fs gs) (both_items D.Event tight h (map prototype fs) (map prototype gs) a.prototypes b.prototypes);
    functions = rw (map-append function_item fs gs) (both_items D.Event tight h (map function_item fs) (map function_item gs) a.functions b.functions);
  }
