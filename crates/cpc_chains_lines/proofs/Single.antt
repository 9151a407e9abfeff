-- One statement that is written, by equal parts.
use Rattle.std.proofs.Common.{◌≡◌, [], ◌∷◌, Option, None, ap, ◌∙◌}
use Rattle.cpc_base.specs.Bytes.{Text}
use Rattle.cpc_tree.specs.Syntax.{Ty, Expr, ENamed, NoExpr, AndExpr, Declare, Assign, Call}
use Rattle.cpc_chains_lines.specs.Written.{Written, puts}

-- an assignment
abbrev pub assigned : Written → Expr → Expr → Written
assigned u x y = puts u (Assign x None y ∷ [])

pub assigned_so : (u w : Written) (x a y b : Expr) → x ≡ a → y ≡ b → w ≡ assigned u x y → w ≡ assigned u a b
assigned_so u w x a y b is_x is_y e = e ∙ (ap (λ (z : Expr). assigned u z y) is_x ∙ ap (λ (z : Expr). assigned u a z) is_y)

-- a call with one argument
abbrev pub asked : Written → Option Expr → Text → Expr → Written
asked u o f x = puts u (Call o (ENamed f) (AndExpr x NoExpr) ∷ [])

pub asked_so : (u w : Written) (o p : Option Expr) (f g : Text) (x y : Expr) → o ≡ p → f ≡ g → x ≡ y → w ≡ asked u o f x → w ≡ asked u p g y
asked_so u w o p f g x y is_o is_f is_x e = e ∙ (ap (λ (z : Option Expr). asked u z f x) is_o ∙ (ap (λ (z : Text). asked u p z x) is_f ∙ ap (λ (z : Expr). asked u p g z) is_x))

-- a declaration without a start
abbrev pub declared : Written → Text → Ty → Written
declared u x t = puts u (Declare x t None ∷ [])

pub declared_so : (u w : Written) (x y : Text) (t s : Ty) → x ≡ y → t ≡ s → w ≡ declared u x t → w ≡ declared u y s
declared_so u w x y t s is_x is_t e = e ∙ (ap (λ (z : Text). declared u z t) is_x ∙ ap (λ (z : Ty). declared u y z) is_t)
