-- What is known of a cps function that can be printed, and that its variables can be under the names of their locals.
use Rattle.std.proofs.Common.{◌≡◌, ℕ, zero, suc, ◌≤◌, ◌<◌, ◌^◌, Bool, true, false, List, [], ◌∷◌, Option, Some, None, length, slice_get, refl, arith}
use Rattle.cpc_base.specs.Bytes.{Text}
use Rattle.cpc_base.specs.declared.stop.Dialect.TheVariants as D
use Rattle.cpc_tree.specs.Spelling.{IsName}
use Rattle.cpc_tree.specs.Points.{Path, Point, Here, Arrival, End, found}
use Rattle.cpc_tree.specs.Syntax.{TyPointer, TyStruct, Variable, Function, FunctionItem, Program}
use Rattle.cpc_tree.specs.Registers.{variables}
use Rattle.cpc_tree.specs.TypePrint.{base_row, star_count, declarator_row, declarator_depth, IsStarred, PrintableVariable}
use Rattle.cpc_printer_laws.proofs.Fitting.{Spelled}
use Rattle.cpc_convert_common.specs.Members.{Has}
use Rattle.cpc_meaning.specs.Act.{Stood, AtStatement, AtArrival, AtEnd}
use Rattle.cpc_meaning.specs.Trees.{stood_at}
use Rattle.cpc_convert_image_laws.specs.Locals.{local_type}
use Rattle.cpc_convert_routines.specs.Names.{box_tag, variable_name}
use Rattle.cpc_convert_routines.specs.Routines.{Routine, routine_of, is_plain, variable_or, stood_variable, variable_of, local_of}
use Rattle.cpc_chains_print_laws.proofs.Names.{variable_is_name, box_is_name}
use Rattle.cpc_chains_print_laws.proofs.Images.{row_widened}
use Rattle.cpc_chains_print_laws.proofs.Source.{FoundPrints}
use Rattle.cpc_chains_print_laws.proofs.Types.{TypeSpelled}

module _ (tight : Bool) (h : ℕ) where
  -- a variable, as the source declares it
  pub record VariablePrints (x : Variable) : Type 0 where
    pub name : IsName D.Cpc x.called
    pub printable : PrintableVariable x.type
    pub typed : TypeSpelled D.Cpc tight x.type
    pub deep : declarator_depth true x.type ≤ h

  -- a function
  pub record FunctionReads (f : Function) : Type 0 where
    pub name : IsName D.Cpc f.called
    pub variables : (k : ℕ) (x : Variable) → slice_get (variables f) k ≡ Some x → VariablePrints x
    pub result : IsStarred f.result
    pub base : Spelled D.Cpc (base_row f.result)
    pub stars : star_count f.result ≤ h
    pub body : (path : Path) → FoundPrints tight h (found f.body path)

  -- all functions of a program
  abbrev pub ProgramReads : Program → Type 0
  ProgramReads p = (f : Function) → Has (FunctionItem f) p → FunctionReads f

  -- what stands at a point
  abbrev pub StoodPrints : Stood → Type 0
  StoodPrints AtEnd = Unit {0}
  StoodPrints (AtStatement x) = FoundPrints tight h x
  StoodPrints (AtArrival x) = FoundPrints tight h x

  pub stood_prints : (f : Function) → FunctionReads f → (point : Point) → StoodPrints (stood_at (Some f) point)
  stood_prints f reads (Here path) = reads.body path
  stood_prints f reads (Arrival path) = reads.body path
  stood_prints f reads End = tt

-- a number of a list has an element
some_there : (k : ℕ) (xs : List Variable) → k < length xs → ¬ (slice_get xs k ≡ None)
some_there k [] less e = omega (arith, less)
some_there zero (x ∷ xs) less e = absurd cc
some_there (suc k) (x ∷ xs) less e = some_there k xs (omega (arith, less)) e

module _ (tight : Bool) (H : ℕ) (room : 8 ≤ H) where
  -- a variable that is made
  pub record VariableMade (x : Variable) : Type 0 where
    pub name : IsName D.Event x.called
    pub printable : PrintableVariable x.type
    pub typed : TypeSpelled D.Event tight x.type
    pub deep : declarator_depth true x.type ≤ H

  -- a pointer to a struct
  pub pointer_typed : (tag : Text) → IsName D.Event tag → TypeSpelled D.Event tight (TyPointer (TyStruct tag))
  unfolding declarator_row
  pointer_typed tag n = record { base = (tt, (n, tt)); rest = (tt, tt) }

  pub pointer_deep : (tag : Text) → declarator_depth true (TyPointer (TyStruct tag)) ≤ H
  unfolding declarator_depth
  pointer_deep tag = omega (arith, room)

  pub pointer_made : (x tag : Text) → IsName D.Event x → IsName D.Event tag → VariableMade (record { called = x; type = TyPointer (TyStruct tag) })
  unfolding PrintableVariable
  pointer_made x tag n m = record { name = n; printable = tt; typed = pointer_typed tag m; deep = pointer_deep tag }

  module _ (h : ℕ) (below : h ≤ H) where
    -- a variable of the source under another name
    pub renamed : (y : Text) (x : Variable) → IsName D.Event y → VariablePrints tight h x → VariableMade (record { called = y; type = x.type })
    renamed y x n a = record {
      name = n;
      printable = a.printable;
      typed = record { base = row_widened (base_row x.type) a.typed.base; rest = row_widened (declarator_row tight None x.type) a.typed.rest };
      deep = let d = a.deep in omega (arith, d, below);
    }

    -- one in its local
    pub stood_made : (r : Routine) (k : ℕ) (x : Variable) → IsName D.Cpc r.function.called → k < 2 ^ 64 → VariablePrints tight h x → VariableMade (stood_variable r k x)
    stood_made r k x f small a = go (is_plain r k)
      where
        go : (b : Bool) → VariableMade (record { called = variable_name k x.called; type = local_type b x.type (box_tag r.function.called k) })
        go true = renamed (variable_name k x.called) x (variable_is_name k x.called a.name small) a
        go false = pointer_made (variable_name k x.called) (box_tag r.function.called k) (variable_is_name k x.called a.name small) (box_is_name r.function.called k f small)

    -- the variable of a number
    pub numbered_prints : (p : Program) (f : Function) → FunctionReads tight h f → (k : ℕ) → k < length (variables f) → VariablePrints tight h (variable_of (routine_of p f) k)
    numbered_prints p f reads k less = go (slice_get (variables f) k) refl
      where
        go : (o : Option Variable) → slice_get (variables f) k ≡ o → VariablePrints tight h (variable_or o)
        go (Some x) e = reads.variables k x e
        go None e = absurd (some_there k (variables f) less e)

    pub local_made : (p : Program) (f : Function) → FunctionReads tight h f → (k : ℕ) → k < length (variables f) → k < 2 ^ 64 → VariableMade (local_of (routine_of p f) k)
    local_made p f reads k less small = stood_made (routine_of p f) k (variable_of (routine_of p f) k) reads.name small (numbered_prints p f reads k less)
