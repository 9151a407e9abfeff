-- What is read alike, of a node and what stands there.
use Rattle.std.proofs.Common.{◌≡◌, ℕ, List, [], ◌∷◌, Option, Some, None, option_map, refl, sym, ap, ◌∙◌}
use Rattle.std.specs.Borrow.{Bor}
use Rattle.cpc_tree.specs.Erase.{Names, expr_of, stmt_of}
use Rattle.cpc_tree.specs.Points as P
use Rattle.cpc_tree.specs.Syntax as S
use Rattle.cpc_tree.specs.declared.program.Expr.{Expr}
use Rattle.cpc_tree.specs.declared.program.Statement.{Statement}
use Rattle.cpc_meaning.specs.Act as A
use Rattle.cpc_meaning.specs.Ways as W
use Rattle.cpc_base.specs.Bytes.{Text}
use Rattle.cpc_num.specs.declared.kinds.Op.{Op}
use Rattle.cpc_convert_image_laws.specs.Images.{Readings, image}
use Rattle.cpc_convert_routines.specs.Names.{value_name}
use Rattle.cpc_forms_code.specs.declared.boxed.Stood.TheVariants as F
use Rattle.cpc_forms_code.specs.declared.graph.Node.{Node}
use Rattle.cpc_forms_code.specs.Seen.{stood_seen}
use Rattle.cpc_convert_routines.specs.Routines.{Routine}
use Rattle.cpc_chains_event.specs.Lines as L
use Rattle.cpc_chains_lines.specs.Written.{Written, puts}
use Rattle.cpc_chains_lines.specs.Puts.{statements_before, place_in}
use Rattle.cpc_chains_lines.proofs.Puts.{all_done, behind}

-- lines that are all statements
pub told : (o : Option ℕ) (u w : Written) (ss : List S.Stmt) → w ≡ puts u ss → w ≡ puts u (statements_before o (L.all_do ss))
told o u w ss e = e ∙ ap (puts u) (sym (all_done o ss))

-- a statement, and the lines behind it
pub line_put : (o : Option ℕ) (u v w : Written) (x : S.Stmt) (ls : List L.Line) → v ≡ puts u (x ∷ []) → w ≡ puts v (statements_before o ls) → w ≡ puts u (statements_before o (L.Does x ∷ ls))
line_put o u v w x ls e f = behind u v w (x ∷ []) (statements_before o ls) e f

-- a statement is written, whose parts are these
pub assign_put : (u v : Written) (a b x y : S.Expr) (op : Option Op) → v ≡ puts u (S.Assign a op b ∷ []) → a ≡ x → b ≡ y → v ≡ puts u (S.Assign x op y ∷ [])
assign_put u v a b x y op e f g = e ∙ (ap (λ (z : S.Expr). puts u (S.Assign z op b ∷ [])) f ∙ ap (λ (z : S.Expr). puts u (S.Assign x op z ∷ [])) g)

pub call_put : (u v : Written) (o x : Option S.Expr) (f g : S.Expr) (es fs : S.Exprs) → v ≡ puts u (S.Call o f es ∷ []) → o ≡ x → f ≡ g → es ≡ fs → v ≡ puts u (S.Call x g fs ∷ [])
call_put u v o x f g es fs e a b d =
    e ∙ (ap (λ (z : Option S.Expr). puts u (S.Call z f es ∷ [])) a ∙ (ap (λ (z : S.Expr). puts u (S.Call x z es ∷ [])) b ∙ ap (λ (z : S.Exprs). puts u (S.Call x g z ∷ [])) d))

-- ---- parts of what is alike

pub some_alike : (a b : S.Expr) → Some a ≡ Some b → a ≡ b
some_alike a b e = cc

pub call_alike : (o x : Option S.Expr) (f g : S.Expr) (es fs : S.Exprs) → S.Call o f es ≡ S.Call x g fs → (o ≡ x) × ((f ≡ g) × (es ≡ fs))
call_alike o x f g es fs e = let a : o ≡ x = cc in let b : f ≡ g = cc in let d : es ≡ fs = cc in (a, (b, d))

pub detach_alike : (o x : Option S.Expr) (f g : Text) (es fs : S.Exprs) → S.Detach o f es ≡ S.Detach x g fs → (f ≡ g) × (es ≡ fs)
detach_alike o x f g es fs e = let b : f ≡ g = cc in let d : es ≡ fs = cc in (b, d)

pub spawn_alike : (f g : Text) (es fs : S.Exprs) → S.Spawn f es ≡ S.Spawn g fs → (f ≡ g) × (es ≡ fs)
spawn_alike f g es fs e = let b : f ≡ g = cc in let d : es ≡ fs = cc in (b, d)

pub declare_alike : (x y : Text) (t u : S.Ty) (o q : Option S.Expr) → S.Declare x t o ≡ S.Declare y u q → (x ≡ y) × (o ≡ q)
declare_alike x y t u o q e = let b : x ≡ y = cc in let d : o ≡ q = cc in (b, d)

pub assign_alike : (a x : S.Expr) (op oq : Option Op) (b y : S.Expr) → S.Assign a op b ≡ S.Assign x oq y → (a ≡ x) × (b ≡ y)
assign_alike a x op oq b y e = let f : a ≡ x = cc in let g : b ≡ y = cc in (f, g)

pub return_alike : (o x : Option S.Expr) → S.Return o ≡ S.Return x → o ≡ x
return_alike o x e = cc

-- ---- lines by what stands at a node

pub at_test : (p : S.Program) (r : Routine) (names : Readings) (w : W.Manner) (t : Option S.Expr) (n m a : Option ℕ) → L.stood_lines p r names w (A.AtStatement (P.Test t)) n m a ≡ L.test_lines names t n m
at_test p r names W.InPlace t n m a = refl
at_test p r names W.ByFrame t n m a = refl
at_test p r names W.AsCps t n m a = refl

pub at_arrival : (p : S.Program) (r : Routine) (names : Readings) (w : W.Manner) (x : P.Found) (n m a : Option ℕ) → L.stood_lines p r names w (A.AtArrival x) n m a ≡ L.arrival_lines names (A.target_of x) n
at_arrival p r names W.InPlace x n m a = refl
at_arrival p r names W.ByFrame x n m a = refl
at_arrival p r names W.AsCps x n m a = refl

pub at_end : (p : S.Program) (r : Routine) (names : Readings) (w : W.Manner) (n m a : Option ℕ) → L.stood_lines p r names w A.AtEnd n m a ≡ L.all_do (L.leave_lines r names None)
at_end p r names W.InPlace n m a = refl
at_end p r names W.ByFrame n m a = refl
at_end p r names W.AsCps n m a = refl

-- a test that leads nowhere is passed
pub never_tests : (names : Readings) (t : Option S.Expr) (n m : Option ℕ) → n ≡ None → L.test_lines names t n m ≡ L.passes n ∷ []
never_tests names None n m is = refl
never_tests names (Some e) None m is = refl
never_tests names (Some e) (Some k) m is = cc

-- the value that arrives is put in its place, or nowhere
pub arrival_some : (names : Readings) (t : Option (Option S.Expr)) (e : S.Expr) (n : Option ℕ) → Some e ≡ place_in t
    → L.arrival_lines names t n ≡ L.Does (S.Assign (image names e) None (S.ENamed value_name)) ∷ L.goes n
arrival_some names None e n is = cc
arrival_some names (Some None) e n is = cc
arrival_some names (Some (Some x)) e n is = let same : x ≡ e = cc in ap (λ (y : S.Expr). L.Does (S.Assign (image names y) None (S.ENamed value_name)) ∷ L.goes n) same

pub arrival_none : (names : Readings) (t : Option (Option S.Expr)) (n : Option ℕ) → None ≡ place_in t → L.arrival_lines names t n ≡ L.passes n ∷ []
arrival_none names None n is = refl
arrival_none names (Some None) n is = refl
arrival_none names (Some (Some x)) n is = cc

-- ---- statements

pub simple_read : (from to : Names) (n : Node) (s : Bor Statement) → stood_seen from n.stood ≡ stood_seen to n.stood → n.stood ≡ F.Simple s → stmt_of from s.now ≡ stmt_of to s.now
simple_read from to n s same is =
    let e : A.AtStatement (P.Simple (stmt_of from s.now)) ≡ A.AtStatement (P.Simple (stmt_of to s.now)) = ap (stood_seen from) (sym is) ∙ (same ∙ ap (stood_seen to) is) in
    cc

pub arrival_read : (from to : Names) (n : Node) (s : Bor Statement) → stood_seen from n.stood ≡ stood_seen to n.stood → n.stood ≡ F.Arrival s → stmt_of from s.now ≡ stmt_of to s.now
arrival_read from to n s same is =
    let e : A.AtArrival (P.Simple (stmt_of from s.now)) ≡ A.AtArrival (P.Simple (stmt_of to s.now)) = ap (stood_seen from) (sym is) ∙ (same ∙ ap (stood_seen to) is) in
    cc

pub test_read : (from to : Names) (n : Node) (t : Option (Bor Expr)) → stood_seen from n.stood ≡ stood_seen to n.stood → n.stood ≡ F.Test t
    → option_map (λ (e : Bor Expr). expr_of from e.now) t ≡ option_map (λ (e : Bor Expr). expr_of to e.now) t
test_read from to n t same is =
    let e : A.AtStatement (P.Test (option_map (λ (x : Bor Expr). expr_of from x.now) t)) ≡ A.AtStatement (P.Test (option_map (λ (x : Bor Expr). expr_of to x.now) t)) = ap (stood_seen from) (sym is) ∙ (same ∙ ap (stood_seen to) is) in
    cc
