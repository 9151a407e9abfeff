-- Paths that have room for where control goes.
use Rattle.std.proofs.Common.{◌≡◌, ℕ, ◌+◌, ◌≤◌, List, ◌∷◌, ◌++◌, length, Option, Some, None, sym, ap, subst, ◌∙◌, length-append, Vec, Box, Global, arith}
use Rattle.std.proofs.lemmas.List.{length-map}
use Rattle.cpc_tree.specs.Syntax.{Stmt, Present}
use Rattle.cpc_tree.specs.Erase.{stmt_of, list_of}
use Rattle.cpc_tree.specs.declared.program.Expr as GExpr
use Rattle.cpc_tree.specs.declared.program.Statement.{Statement}
use Rattle.cpc_tree.specs.declared.program.Statement.TheVariants as T
use Rattle.cpc_tree.specs.Points as P
use Rattle.cpc_tree.specs.Points.{Path, enter}
use Rattle.cpc_tree.proofs.Nodes.{block_seen, for_seen}
use Rattle.cpc_native_points.specs.Depth.{numbers}
use Rattle.cpc_native_points.specs.Leads.{Leads, HasRoom, begun}
use Rattle.cpc_native_points.specs.Seen.{part_of, path_of}
use Rattle.cpc_native_points.specs.Tabled.{IsLed}
use Rattle.cpc_native_points.specs.declared.parts.Part as G
use Rattle.cpc_native_points.specs.declared.moves.Move.{Move}
use Rattle.cpc_native_points.specs.declared.moves.Move.TheVariants as M
use Rattle.cpc_native_points.specs.declared.table.Node.{Node}
use Rattle.cpc_native_points.specs.Parts.{entered, statement_at}
use Rattle.cpc_native_points.specs.declared.parts.Part.TheVariants as V
use Rattle.cpc_base.specs.declared.stop.Place as Stop
use Rattle.cpc_native_points.proofs.Rows.{begun_block, begun_for}
use Rattle.cpc_native_points.proofs.Within.{Fits, FitsIf}

-- a move of the code to a path that is not too long
pub led_fits : (d : ℕ) (path : List G.Part) (m : Move) (w : P.Move) → Leads numbers (path_of path) m w → Fits d w → HasRoom d (length path) m
led_fits d path (M.Into dropped part target) w g f =
    let to : Path = part_of part ∷ begun numbers target in
    let there : Fits d (P.Into (g.front ++ to)) = subst (Fits d) g.is f in
    let all = length-append g.front to in
    let long : length path ≡ length g.front + length g.back = sym (length-map path part_of) ∙ ap length g.whole ∙ length-append g.front g.back in
    let so_many = g.so_many in
    omega (arith, there, all, long, so_many)
led_fits d path M.Out w g f = tt
led_fits d path (M.ToLabel l) w g f = tt
led_fits d path M.Broken w g f = tt
led_fits d path M.Continued w g f = tt
led_fits d path M.Nowhere w g f = tt

-- a label leads to a path that is not too long
pub led_within : (body : Stmt) (nodes : List Node) (number : ℕ) (o : Option Path) (d : ℕ) → FitsIf d o → (l : IsLed body nodes number o) → length l.way + length (enter l.inner) ≤ d
led_within body nodes number o d f l =
    let s = enter l.inner in
    let there : length (path_of l.way ++ s) ≤ d = subst (FitsIf d) l.whole f in
    let all = length-append (path_of l.way) s in
    let long = length-map l.way part_of in
    omega (arith, there, all, long)

same_there : (s t : Stmt) → Present s ≡ Present t → s ≡ t
same_there s t h = cc

-- nor is the path to where the statement begins that stands at the end of the way
pub led_room : (body : Stmt) (nodes : List Node) (number : ℕ) (o : Option Path) (d : ℕ) (path : List G.Part) (s : Stmt) → FitsIf d o → (l : IsLed body nodes number o) → path ≡ l.way → statement_at body (path_of path) ≡ Present s
    → length path + length (enter s) ≤ d
led_room body nodes number o d path s f l put there =
    let same = same_there s l.inner (sym there ∙ ap (λ p. statement_at body (path_of p)) put ∙ l.there) in
    let all = led_within body nodes number o d f l in
    let long = ap length put in
    let more = ap (λ t. length (enter t)) same in
    omega (arith, all, long, more)

-- a row has as many parts to put as its statement
pub block_long : (e : Statement) (place : Stop.Place) (inner : Vec Statement Global) (xs : List Statement) → e ≡ T.Block place inner → xs ≡ inner.items
    → length (enter (stmt_of numbers e)) ≡ length (entered (list_of numbers xs) None)
block_long e place inner xs h v =
    ap (λ s. length (enter s)) (block_seen numbers e place inner h) ∙ ap length (begun_block (list_of numbers inner.items)) ∙ ap (λ ys. length (entered (list_of numbers ys) None)) (sym v)

pub for_long : (e : Statement) (place : Stop.Place) (first : Vec Statement Global) (test : Option GExpr.Expr) (step : Option (Box Statement Global)) (body : Box Statement Global) (xs : List Statement)
    → e ≡ T.For place first test step body → xs ≡ first.items → length (enter (stmt_of numbers e)) ≡ length (entered (list_of numbers xs) (Some V.Test))
for_long e place first test step body xs h v =
    ap (λ s. length (enter s)) (for_seen numbers e place first test step body h) ∙ ap length (begun_for (list_of numbers first.items) _ _ _) ∙ ap (λ ys. length (entered (list_of numbers ys) (Some V.Test))) (sym v)
