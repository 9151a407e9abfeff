-- What is known of each lifted function of a program, gathered.
use Rattle.std.proofs.Common.{◌≡◌, ℕ, suc, Bool, true, false, List, [], ◌∷◌, map, slice_get, Some, refl, sym, subst}
use Rattle.std.specs.List.{All}
use Rattle.std.proofs.lemmas.List.Elements.{All-nil, All-cons, All-head, All-tail}
use Rattle.std.proofs.Math.Logic.{∥∥₁_elim, ∥∥₁_map}
use Rattle.std.proofs.Props.{props}
use Rattle.cpc_tree.specs.declared.program.Function as GFunction
use Rattle.cpc_tree.specs.declared.program.Item as GItem
use Rattle.cpc_tree.specs.declared.program.Item.TheVariants as I
use Rattle.cpc_tree.specs.declared.program.Program as GProgram
use Rattle.cpc_meaning.specs.Threads.{is_cps_mode}
use Rattle.cpc_forms_code.specs.Points.{IsBoxed}
use Rattle.cpc_forms_code.specs.Graphs.{IsGraph}
use Rattle.cpc_forms_code.specs.Splits.{IsSplit}
use Rattle.cpc_forms_code.specs.Lifts.{IsLifted}
use Rattle.cpc_forms_code.specs.Programs.{function_if, cps_functions}
use Rattle.cpc_forms_code.specs.declared.lifted.LiftedFunction.{LiftedFunction}
use Rattle.cpc_forms_code.specs.declared.lifted.LiftedProgram.{LiftedProgram}
use Rattle.cpc_convert_names.specs.Called.{function_in, variables_in, nodes_in}
use Rattle.cpc_convert_needs_laws.specs.Laws.{AreOf}

-- the program of a lifted function
abbrev pub source_in : LiftedFunction → GProgram.Program
source_in l = l.split.now.graph.now.boxed.now.source.now

-- what its forms say of it
pub record Formed (l : LiftedFunction) : Type 0 where
  pub boxed : IsBoxed (source_in l) (function_in l) (variables_in l) l.split.now.graph.now.boxed.now.points.items
  pub graph : IsGraph l.split.now.graph.now.boxed.now (nodes_in l)
  pub split : IsSplit l.split.now.graph.now l.split.now.owners.items l.split.now.leaders.items
  pub lifted : IsLifted l.split.now (map (λ row. row.items) l.closures.items)

formed : (l : LiftedFunction) → ∥ Formed l ∥₁
formed l =
    ∥∥₁_elim l.formed (hlevel props) (λ lifted. ∥∥₁_elim l.split.now.formed (hlevel props) (λ split.
    ∥∥₁_elim l.split.now.graph.now.formed (hlevel props) (λ graph. ∥∥₁_map l.split.now.graph.now.boxed.now.formed (λ boxed.
    record { boxed = boxed; graph = graph; split = split; lifted = lifted }))))

-- a cps function is one of these items
pub record There (items : List GItem.Item) (f : GFunction.Function) : Type 0 where
  pub number : ℕ
  pub item : slice_get items number ≡ Some (I.Function f)
  pub cps : is_cps_mode f.mode ≡ true

later : (i : GItem.Item) (items : List GItem.Item) (f : GFunction.Function) → There items f → There (i ∷ items) f
later i items f h = record { number = suc h.number; item = h.item; cps = h.cps }

all_later : (i : GItem.Item) (items : List GItem.Item) (fs : List GFunction.Function) → All (There items) fs → All (There (i ∷ items)) fs
all_later i items [] all = All-nil (There (i ∷ items))
all_later i items (f ∷ fs) all = All-cons (There (i ∷ items)) f fs (later i items f (All-head (There items) f fs all)) (all_later i items fs (All-tail (There items) f fs all))

pub all_there : (items : List GItem.Item) → All (There items) (cps_functions items)
all_there [] = All-nil (There [])
all_there (I.Struct tag fields ∷ items) = all_later (I.Struct tag fields) items (cps_functions items) (all_there items)
all_there (I.Global w t start ∷ items) = all_later (I.Global w t start) items (cps_functions items) (all_there items)
all_there (I.Prototype p mode w result ps ∷ items) = all_later (I.Prototype p mode w result ps) items (cps_functions items) (all_there items)
all_there (I.Function f ∷ items) = go (is_cps_mode f.mode) refl (all_later (I.Function f) items (cps_functions items) (all_there items))
  where
    go : (b : Bool) → is_cps_mode f.mode ≡ b → All (There (I.Function f ∷ items)) (cps_functions items) → All (There (I.Function f ∷ items)) (function_if b f (cps_functions items))
    go true e rest = All-cons (There (I.Function f ∷ items)) f (cps_functions items) (record { number = 0; item = refl; cps = e }) rest
    go false e rest = rest

pub unmapped : {A B : Type 0} (g : A → B) (P : B → Type 0) (xs : List A) → All P (map g xs) → All (λ x. P (g x)) xs
unmapped g P [] all = All-nil (λ x. P (g x))
unmapped g P (x ∷ xs) all = All-cons (λ x. P (g x)) x xs (All-head P (g x) (map g xs) all) (unmapped g P xs (All-tail P (g x) (map g xs) all))

-- what a lifted function is in a program
pub record Known (source : GProgram.Program) (l : LiftedFunction) : Type 0 where
  pub formed : Formed l
  pub of : source_in l ≡ source
  pub there : There source.items.items (function_in l)

module _ (source : GProgram.Program) where
  all_known : (ls : List LiftedFunction) → All (λ (l : LiftedFunction). source_in l ≡ source) ls → All (λ l. There source.items.items (function_in l)) ls → ∥ All (Known source) ls ∥₁
  all_known [] of there = ∣ All-nil (Known source) ∣₁
  all_known (l ∷ ls) of there =
      ∥∥₁_elim (formed l) (hlevel props) (λ f. ∥∥₁_map (all_known ls (All-tail (λ (l : LiftedFunction). source_in l ≡ source) l ls of) (All-tail (λ l. There source.items.items (function_in l)) l ls there)) (λ rest.
      All-cons (Known source) l ls
      (record { formed = f; of = All-head (λ (l : LiftedFunction). source_in l ≡ source) l ls of; there = All-head (λ l. There source.items.items (function_in l)) l ls there })
      rest))

-- what is known of a lifted program
pub record Gathered (l : LiftedProgram) : Type 0 where
  pub whole : map function_in l.functions.items ≡ cps_functions l.source.now.items.items
  pub each : All (Known l.source.now) l.functions.items

pub gathered : (l : LiftedProgram) → AreOf l → ∥ Gathered l ∥₁
gathered l of =
    ∥∥₁_elim l.whole (hlevel props) (λ whole.
    ∥∥₁_map (all_known l.source.now l.functions.items of
    (unmapped function_in (There l.source.now.items.items) l.functions.items (subst (All (There l.source.now.items.items)) (sym whole) (all_there l.source.now.items.items)))) (λ each.
    record { whole = whole; each = each }))

-- what each of them gives
pub of_each : (P Q : LiftedFunction → Type 0) → ((l : LiftedFunction) → P l → Q l) → (ls : List LiftedFunction) → All P ls → All Q ls
of_each P Q f [] all = All-nil Q
of_each P Q f (l ∷ ls) all = All-cons Q l ls (f l (All-head P l ls all)) (of_each P Q f ls (All-tail P l ls all))
