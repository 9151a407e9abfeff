-- What waits calls a name that stands for a cps function, which is found among those of the book, or for no function.
use Rattle.std.proofs.Common.{◌≡◌, ℕ, zero, suc, Bool, true, false, cond, List, [], ◌∷◌, map, slice_get, Option, Some, None, option_map, is_some, bytes_eq, refl, sym, ap, subst, ◌∙◌}
use Rattle.std.specs.List.{All}
use Rattle.std.proofs.lemmas.List.Elements.{All-nil, All-cons, All-head, All-tail}
use Rattle.cpc_base.specs.Bytes.{Text}
use Rattle.cpc_base.proofs.Truth.{false_unless_true}
use Rattle.cpc_tree.specs.Erase.{Names, function_of, item_of}
use Rattle.cpc_tree.specs.Points.{Path, Point, Here, Arrival, End, Simple, found}
use Rattle.cpc_tree.specs.Syntax.{Ty, Expr, ENamed, Exprs, Call, Function, FunctionItem, Program}
use Rattle.cpc_tree.specs.Registers.{scope_in_function}
use Rattle.cpc_tree.specs.Typing.{Scope, Meant, ALocal, AGlobal, AFunction, NotMeant, named, item_named, function_named, parameter_type}
use Rattle.cpc_tree.specs.Primitives.{Primitive, primitive_named}
use Rattle.cpc_tree.specs.declared.program.Function as GFunction
use Rattle.cpc_tree.specs.declared.program.Item as GItem
use Rattle.cpc_tree.specs.declared.program.Item.TheVariants as I
use Rattle.cpc_tree.specs.declared.program.Mode.TheVariants.{Extern, Native, Cps, Detached}
use Rattle.cpc_tree.specs.declared.program.Program as GProgram
use Rattle.cpc_meaning.specs.Act.{AtStatement, AtArrival}
use Rattle.cpc_meaning.specs.Threads.{is_cps, is_cps_mode}
use Rattle.cpc_meaning.specs.Trees.{stood_at}
use Rattle.cpc_meaning.specs.Ways as W
use Rattle.cpc_meaning.specs.Ways.{meant_manner, manner_of, manner_at}
use Rattle.cpc_meaning.proofs.Functions.{same_text}
use Rattle.cpc_convert_common.specs.Members.{Has, OnTop, Below}
use Rattle.cpc_lifted_laws.specs.Accepted.Names.{HasNames}
use Rattle.cpc_forms.specs.Graph.{manner_from}
use Rattle.cpc_forms_code.specs.Programs.{program_by, function_if, cps_functions}
use Rattle.cpc_convert_names.specs.Called.{function_in, name_in}
use Rattle.cpc_convert_names.specs.Book.{find}
use Rattle.cpc_convert_names.specs.declared.called.Called.{Called}
use Rattle.cpc_convert_needs.specs.Known.{MeansFound}
use Rattle.cpc_convert_needs_laws.proofs.Gathered.{There}

-- ---- the functions of the book

-- an item that is there is one of the program
pub item_has : (from : Names) (items : List GItem.Item) (k : ℕ) (f : GFunction.Function) → slice_get items k ≡ Some (I.Function f) → Has (FunctionItem (function_of from f)) (map (item_of from) items)
item_has from [] k f e = absurd (cc)
item_has from (i ∷ items) zero f e = let h : i ≡ I.Function f = cc in subst (λ j. Has (FunctionItem (function_of from f)) (item_of from j ∷ map (item_of from) items)) (sym h) (OnTop _ _)
item_has from (i ∷ items) (suc k) f e = Below _ _ _ (item_has from items k f e)

-- what is found is the first function, or one behind it
pick : {A : Type 0} (P : A → Type 0) (b : Bool) (d c : A) (rest : Option A) → cond b (Some d) rest ≡ Some c → (b ≡ true → P d) → (rest ≡ Some c → P c) → P c
pick P true d c rest e this more = let h : d ≡ c = cc in subst P h (this refl)
pick P false d c rest e this more = more e

-- what all are, it is
found_all : (P : Called → Type 0) (from : Names) (cs : List Called) → All P cs → (x : Text) (c : Called) → find from cs x ≡ Some c → P c
found_all P from [] all x c e = absurd (cc)
found_all P from (d ∷ cs) all x c e = pick P (bytes_eq (name_in from d.lifted.now) x) d c (find from cs x) e (λ t. All-head P d cs all) (found_all P from cs (All-tail P d cs all) x c)

-- and it has the name
found_name : (from : Names) (cs : List Called) (x : Text) (c : Called) → find from cs x ≡ Some c → name_in from c.lifted.now ≡ x
found_name from [] x c e = absurd (cc)
found_name from (d ∷ cs) x c e = pick (λ (k : Called). name_in from k.lifted.now ≡ x) (bytes_eq (name_in from d.lifted.now) x) d c (find from cs x) e (λ t. same_text (name_in from d.lifted.now) x t) (found_name from cs x c)

-- a function of another name
abbrev Other : Names → Text → GFunction.Function → Type 0
Other from x f = bytes_eq (from f.word.name) x ≡ false

-- where none is found, none has the name
none_named : (from : Names) (cs : List Called) (x : Text) → find from cs x ≡ None → All (Other from x) (map (λ (c : Called). function_in c.lifted.now) cs)
none_named from [] x e = All-nil (Other from x)
none_named from (d ∷ cs) x e = go (bytes_eq (name_in from d.lifted.now) x) refl e (none_named from cs x)
  where
    go : (b : Bool) → bytes_eq (name_in from d.lifted.now) x ≡ b → cond b (Some d) (find from cs x) ≡ None → (find from cs x ≡ None → All (Other from x) (map (λ (c : Called). function_in c.lifted.now) cs))
        → All (Other from x) (function_in d.lifted.now ∷ map (λ (c : Called). function_in c.lifted.now) cs)
    go true i e rest = absurd (cc)
    go false i e rest = All-cons (Other from x) (function_in d.lifted.now) (map (λ (c : Called). function_in c.lifted.now) cs) i (rest e)

-- then no cps function of the program has
no_cps : (from : Names) (items : List GItem.Item) (x : Text) → All (Other from x) (cps_functions items) → (h : Function) → function_named (map (item_of from) items) x ≡ Some h → is_cps_mode h.mode ≡ true → ⊥
no_cps from [] x all h e c = absurd (cc)
no_cps from (I.Struct tag fields ∷ items) x all h e c = no_cps from items x all h e c
no_cps from (I.Global w t start ∷ items) x all h e c = no_cps from items x all h e c
no_cps from (I.Prototype p mode w result ps ∷ items) x all h e c = no_cps from items x all h e c
no_cps from (I.Function f ∷ items) x all h e c = go (bytes_eq (from f.word.name) x) (is_cps_mode f.mode) refl refl all e (λ rest. no_cps from items x rest h)
  where
    go : (b cps : Bool) → bytes_eq (from f.word.name) x ≡ b → is_cps_mode f.mode ≡ cps → All (Other from x) (function_if cps f (cps_functions items)) → cond b (Some (function_of from f)) (function_named (map (item_of from) items) x) ≡ Some h
        → (All (Other from x) (cps_functions items) → function_named (map (item_of from) items) x ≡ Some h → is_cps_mode h.mode ≡ true → ⊥) → ⊥
    go true true i m all e rest = absurd (let z : bytes_eq (from f.word.name) x ≡ false = All-head (Other from x) f (cps_functions items) all in let w : true ≡ false = sym i ∙ z in cc)
    go true false i m all e rest = absurd (let z : function_of from f ≡ h = cc in let w : is_cps_mode f.mode ≡ true = ap (λ (g : Function). is_cps_mode g.mode) z ∙ c in let v : false ≡ true = sym m ∙ w in cc)
    go false true i m all e rest = rest (All-tail (Other from x) f (cps_functions items) all) e c
    go false false i m all e rest = rest all e c

module _ (source : GProgram.Program) (from : Names) (names : HasNames (program_by from source)) (cs : List Called) (all : All (λ (c : Called). There source.items.items (function_in c.lifted.now)) cs)
    (whole : map (λ (c : Called). function_in c.lifted.now) cs ≡ cps_functions source.items.items) where
  abbrev p : Program
  p = program_by from source

  -- a name that stands for a cps function, or for none
  abbrev pub MeansCps : Text → Type 0
  MeansCps x = (h : Function) → function_named p x ≡ Some h → is_cps_mode h.mode ≡ true

  pub means_found : (x : Text) → MeansCps x → MeansFound from p cs x
  means_found x means = go (find from cs x) refl
    where
      nothing : find from cs x ≡ None → (o : Option Function) → function_named p x ≡ o → o ≡ None
      nothing e None i = refl
      nothing e (Some h) i = absurd (no_cps from source.items.items x (subst (All (Other from x)) whole (none_named from cs x e)) h i (means h i))

      go : (o : Option Called) → find from cs x ≡ o → function_named p x ≡ option_map (λ (c : Called). function_of from (function_in c.lifted.now)) o
      go (Some c) e =
          let h = found_all (λ (c : Called). There source.items.items (function_in c.lifted.now)) from cs all x c e in
          ap (function_named p) (sym (found_name from cs x c e)) ∙ (names.functions (function_of from (function_in c.lifted.now)) (item_has from source.items.items h.number (function_in c.lifted.now) h.item)).found
      go None e = nothing e (function_named p x) refl

  -- a name stands for a cps function just where one is found
  pub entry_found : (x : Text) → is_cps (function_named p x) ≡ is_some (find from cs x)
  entry_found x = go (find from cs x) refl
    where
      none_is : find from cs x ≡ None → (o : Option Function) → function_named p x ≡ o → is_cps o ≡ false
      none_is e None i = refl
      none_is e (Some h) i = false_unless_true (is_cps_mode h.mode) (no_cps from source.items.items x (subst (All (Other from x)) whole (none_named from cs x e)) h i)

      go : (o : Option Called) → find from cs x ≡ o → is_cps (function_named p x) ≡ is_some o
      go (Some c) e =
          let h = found_all (λ (c : Called). There source.items.items (function_in c.lifted.now)) from cs all x c e in
          ap is_cps (ap (function_named p) (sym (found_name from cs x c e)) ∙ (names.functions (function_of from (function_in c.lifted.now)) (item_has from source.items.items h.number (function_in c.lifted.now) h.item)).found) ∙ h.cps
      go None e = none_is e (function_named p x) refl

  -- ---- what waits

  -- an item, where no variable is meant
  abbrev IsNoLocal : Meant → Type 0
  IsNoLocal m = (k : ℕ) (t : Ty) → m ≡ ALocal k t → ⊥

  item_is : (scope : Scope) (x : Text) (m : Meant) → IsNoLocal m → named p scope x ≡ m → item_named 0 p x ≡ m
  item_is [] x m unless e = e
  item_is (l ∷ scope) x m unless e = go (bytes_eq l.called x) e (item_is scope x m unless)
    where
      go : (b : Bool) → cond b (ALocal l.slot l.type) (named p scope x) ≡ m → (named p scope x ≡ m → item_named 0 p x ≡ m) → item_named 0 p x ≡ m
      go true e rest = absurd (unless l.slot l.type (sym e))
      go false e rest = rest e

  -- a function of the name is what the name means
  is_meant : (x : Text) (h : Function) → function_named p x ≡ Some h → item_named 0 p x ≡ AFunction h.mode h.result (map parameter_type h.parameters)
  is_meant x h e = let t = names.there x h e in ap (item_named 0 p) (sym t.1) ∙ (names.functions h t.0).meant

  of_mode : (x : Text) (r : Ty) (ps : List Ty) → item_named 0 p x ≡ AFunction Cps r ps → MeansCps x
  of_mode x r ps i h e = let z : AFunction h.mode h.result (map parameter_type h.parameters) ≡ AFunction Cps r ps = sym (is_meant x h e) ∙ i in let w : h.mode ≡ Cps = cc in ap is_cps_mode w

  of_none : (x : Text) → item_named 0 p x ≡ NotMeant → MeansCps x
  of_none x i h e = absurd (let z : AFunction h.mode h.result (map parameter_type h.parameters) ≡ NotMeant = sym (is_meant x h e) ∙ i in cc)

  by_meant : (scope : Scope) (x : Text) (m : Meant) → named p scope x ≡ m → (prim : Option Primitive) → meant_manner m prim ≡ W.AsCps → MeansCps x
  by_meant scope x (ALocal k t) i prim e = absurd (cc)
  by_meant scope x (AGlobal k t) i prim e = absurd (cc)
  by_meant scope x (AFunction Extern r ps) i prim e = absurd (cc)
  by_meant scope x (AFunction Native r ps) i prim e = absurd (cc)
  by_meant scope x (AFunction Detached r ps) i prim e = absurd (cc)
  by_meant scope x (AFunction Cps r ps) i prim e = of_mode x r ps (item_is scope x (AFunction Cps r ps) (λ k t h. absurd (cc)) i)
  by_meant scope x NotMeant i prim e = of_none x (item_is scope x NotMeant (λ k t h. absurd (cc)) i)

  -- a call that is a cps statement
  at_path : (f : Function) (path : Path) (o : Option Expr) (x : Text) (es : Exprs) → found f.body path ≡ Simple (Call o (ENamed x) es) → manner_at p f path ≡ W.AsCps → MeansCps x
  at_path f path o x es e m = by_meant (scope_in_function f path) x (named p (scope_in_function f path) x) refl (primitive_named x) (sym (ap (manner_of p (scope_in_function f path)) e) ∙ m)

  pub statement_means : (f : Function) (point : Point) (o : Option Expr) (x : Text) (es : Exprs) → stood_at (Some f) point ≡ AtStatement (Simple (Call o (ENamed x) es)) → manner_from p f point ≡ W.AsCps → MeansCps x
  statement_means f (Here path) o x es e m = let i : found f.body path ≡ Simple (Call o (ENamed x) es) = cc in at_path f path o x es i m
  statement_means f (Arrival path) o x es e m = absurd (cc)
  statement_means f End o x es e m = absurd (cc)

  pub arrival_means : (f : Function) (point : Point) (o : Option Expr) (x : Text) (es : Exprs) → stood_at (Some f) point ≡ AtArrival (Simple (Call o (ENamed x) es)) → manner_from p f point ≡ W.AsCps → MeansCps x
  arrival_means f (Here path) o x es e m = absurd (cc)
  arrival_means f (Arrival path) o x es e m = let i : found f.body path ≡ Simple (Call o (ENamed x) es) = cc in at_path f path o x es i m
  arrival_means f End o x es e m = absurd (cc)
