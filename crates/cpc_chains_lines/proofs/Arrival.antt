-- Values that arrive: their types, and how they are loaded.
use Rattle.std.proofs.Common.{◌≡◌, ℕ, Bool, true, false, if◌then◌else◌, List, [], ◌∷◌, map, length, slice_get, Option, Some, None, option_map, All, arith, refl, sym, ap, subst, ◌∙◌}
use Rattle.std.specs.Borrow.{Bor}
use Rattle.std.proofs.lemmas.List.{get_or-map, length-map}
use Rattle.cpc_base.specs.Bytes.{Text}
use Rattle.cpc_tree.specs.Erase.{Names, stmt_of, function_of}
use Rattle.cpc_tree.specs.Points.{Simple}
use Rattle.cpc_tree.specs.Syntax as S
use Rattle.cpc_tree.specs.declared.program.Statement.{Statement}
use Rattle.cpc_tree.specs.Typing.{is_scalar}
use Rattle.cpc_meaning.specs.Act as A
use Rattle.cpc_forms.specs.Flow.{At}
use Rattle.cpc_forms.specs.Graph as G
use Rattle.cpc_forms_code.specs.Seen.{manner_seen, stood_seen}
use Rattle.cpc_forms_code.specs.declared.boxed.Manner.{Manner}
use Rattle.cpc_forms_code.specs.declared.boxed.Manner.TheVariants as M
use Rattle.cpc_forms_code.specs.declared.boxed.Stood.{Stood}
use Rattle.cpc_forms_code.specs.declared.boxed.Stood.TheVariants as F
use Rattle.cpc_chains_store_laws.specs.Driver.{value_field}
use Rattle.cpc_convert_flat_laws.specs.Locals.{Load, loads_one}
use Rattle.cpc_convert_routines.specs.Arriving.{arriving_if, arriving_from, arriving_found, arriving_stood, arriving_type}
use Rattle.cpc_convert_routines.specs.Names.{frame_name, value_name}
use Rattle.cpc_convert_routines.specs.Taken.{has_place, takes_stood}
use Rattle.cpc_chains_event.specs.Pieces.{value_load}
use Rattle.cpc_convert_routines.specs.Routines.{Routine}
use Rattle.cpc_convert_names.specs.Book.{find}
use Rattle.cpc_convert_names.specs.Called.{function_in}
use Rattle.cpc_convert_names.specs.declared.called.Called.{Called}
use Rattle.cpc_convert_needs.specs.Known.{IsAlike, MeansFound}
use Rattle.cpc_chains_lines.specs.Puts.{place_in, loads_if}
use Rattle.cpc_chains_lines.specs.Written.{Written, puts}
use Rattle.cpc_chains_lines.proofs.Within.{found}

-- what holds of the images holds of what they are images of
pub unmapped : {X Y : Type 0} (P : Y → Type 0) (f : X → Y) (xs : List X) → All P (map f xs) → All (λ x. P (f x)) xs
unmapped P f xs all i d lt =
    let long : length (map f xs) ≡ length xs = length-map xs f in
    subst P (get_or-map f xs i d (f d) lt) (all i (f d) (omega (arith, long, lt)))

-- the type of the values that arrive from the function that is found
pub arrives : (from to : Names) (p : S.Program) (cs : List Called) (x : S.Stmt) (o : Option S.Expr) (f : Text) (es : S.Exprs) (c : Called) (t : S.Ty) → All (IsAlike from to) (map (λ c. c.lifted.now) cs)
    → x ≡ S.Call o (S.ENamed f) es → (x ≡ S.Call o (S.ENamed f) es → MeansFound from p cs f) → find from cs f ≡ Some c
    → (IsAlike from to c.lifted.now → t ≡ arriving_if (is_scalar (function_of from (function_in c.lifted.now)).result) (function_of from (function_in c.lifted.now)).result)
    → t ≡ arriving_found p (Simple x)
arrives from to p cs x o f es c t all is means at so =
    so (found (λ d. IsAlike from to d.lifted.now) from cs f c (unmapped (IsAlike from to) (λ (d : Called). d.lifted.now) cs all) at)
    ∙ (ap arriving_from (sym (means is ∙ ap (option_map (λ (d : Called). function_of from (function_in d.lifted.now))) at))
    ∙ ap (λ (y : S.Stmt). arriving_found p (Simple y)) (sym is))

-- ---- the node of a leader

abbrev pub type_at : S.Program → Option G.Node → S.Ty
type_at p o = G.at_node (arriving_from None) (λ (node : G.Node). arriving_stood p node.manner node.stood) o

pub arrives_at : (p : S.Program) (r : Routine) (k : ℕ) (o : Option G.Node) (t : S.Ty) → slice_get r.split.graph.nodes k ≡ o → t ≡ type_at p o → t ≡ arriving_type p r (At k)
arrives_at p r k o t at so = so ∙ ap (type_at p) (sym at)

-- the type of the value that arrives at a node, where one arrives
abbrev pub type_stood : Names → S.Program → Manner → Stood → S.Ty
type_stood from p m s = arriving_stood p (manner_seen m) (stood_seen from s)

pub type_arrived : (from : Names) (p : S.Program) (m : Manner) (stood : Stood) (s : Bor Statement) (t : S.Ty) → m ≡ M.AsCps → stood ≡ F.Arrival s → t ≡ arriving_found p (Simple (stmt_of from s.now)) → t ≡ type_stood from p m stood
type_arrived from p m stood s t is_m is_stood e = e ∙ (ap (λ (x : Stood). type_stood from p M.AsCps x) (sym is_stood) ∙ ap (λ (x : Manner). type_stood from p x stood) (sym is_m))

-- ---- loads

-- a value that is put somewhere
pub has_one : (o : Option (Option S.Expr)) (e : S.Expr) → place_in o ≡ Some e → has_place o ≡ true
has_one (Some (Some x)) e is = refl
has_one (Some None) e is = cc
has_one None e is = cc

-- what is loaded of a value
abbrev pub load_where : (is_put : Bool) → S.Ty → List Load
load_where b t = if b then record { variable = value_name; type = t; field = value_field } ∷ [] else []

pub loads_where : (b : Bool) (t : S.Ty) → loads_if b t ≡ map (loads_one frame_name) (load_where b t)
loads_where true t = refl
loads_where false t = refl

abbrev pub loads_at : S.Program → Option G.Node → List S.Stmt
loads_at p o = map (loads_one frame_name) (load_where (G.at_node false (λ (node : G.Node). takes_stood node.manner node.stood) o) (type_at p o))

-- the value that arrives at the node of a number
pub value_loads : (p : S.Program) (r : Routine) (k : ℕ) (node : G.Node) → slice_get r.split.graph.nodes k ≡ Some node
    → loads_if (takes_stood node.manner node.stood) (arriving_stood p node.manner node.stood) ≡ map (loads_one frame_name) (value_load p r (At k))
value_loads p r k node at = loads_where (takes_stood node.manner node.stood) (arriving_stood p node.manner node.stood) ∙ ap (loads_at p) (sym at)

-- none arrives where there is no node
pub no_loads : (p : S.Program) (r : Routine) (k : ℕ) → slice_get r.split.graph.nodes k ≡ None → [] ≡ map (loads_one frame_name) (value_load p r (At k))
no_loads p r k at = ap (loads_at p) (sym at)

-- the value that arrives at a node, where one arrives
abbrev pub loads_stood : Names → S.Program → Manner → Stood → List S.Stmt
loads_stood from p m s = loads_if (takes_stood (manner_seen m) (stood_seen from s)) (arriving_stood p (manner_seen m) (stood_seen from s))

pub loads_arrived : (from : Names) (p : S.Program) (m : Manner) (stood : Stood) (s : Bor Statement) (u w : Written) → m ≡ M.AsCps → stood ≡ F.Arrival s
    → w ≡ puts u (loads_if (has_place (A.target_of (Simple (stmt_of from s.now)))) (arriving_found p (Simple (stmt_of from s.now)))) → w ≡ puts u (loads_stood from p m stood)
loads_arrived from p m stood s u w is_m is_stood e = e ∙ (ap (λ (x : Stood). puts u (loads_stood from p M.AsCps x)) (sym is_stood) ∙ ap (λ (x : Manner). puts u (loads_stood from p x stood)) (sym is_m))
