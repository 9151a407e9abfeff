-- Where a goto leads in a flat block: to the first statement with its label.
use Rattle.std.proofs.Common.{◌≡◌, ℕ, zero, suc, ◌+◌, Bool, true, false, cond, List, [], ◌∷◌, length, Option, Some, None, option_map, refl, sym, ◌∙◌, ap, subst, arith}
use Rattle.cpc_base.specs.Bytes.{Text}
use Rattle.cpc_base.proofs.Truth.{and_both}
use Rattle.cpc_tree.specs.Syntax.{Stmt, Stmts, NoStmt, AndStmt}
use Rattle.cpc_tree.specs.Points.{Nth, enter, labelled_in, path_under, path_later, or_else}
use Rattle.cpc_convert_flat_laws.specs.Flat.{before, dropped, is_flat, are_flat, has_label, label_in}
use Rattle.cpc_convert_flat_laws.proofs.Rows.{label_here}

-- the k-th statement is the first with the label, and a goto leads to it
pub record LabelAt (l : Text) (ss : Stmts) (k : ℕ) : Type 0 where
  pub statement : Stmt
  pub rest : Stmts
  pub here : dropped k ss ≡ AndStmt statement rest
  pub has : has_label l statement ≡ true
  pub leads : labelled_in l ss ≡ Some (Nth k ∷ enter statement)

some_suc : (o : Option ℕ) (k : ℕ) → option_map suc o ≡ Some k → (j : ℕ) × (o ≡ Some j) × (k ≡ suc j)
some_suc None k e = absurd (cc)
some_suc (Some j) k e = (j, refl, cc)

pub label_at : (l : Text) (ss : Stmts) (k : ℕ) → are_flat ss ≡ true → label_in l ss ≡ Some k → LabelAt l ss k
label_at l NoStmt k f e = absurd (cc)
label_at l (AndStmt t ss) k f e = go (has_label l t) refl e (λ j i. label_at l ss j (and_both (is_flat t) (are_flat ss) f).1 i)
  where
    parts : (is_flat t ≡ true) × (are_flat ss ≡ true)
    parts = and_both (is_flat t) (are_flat ss) f

    go : (b : Bool) → has_label l t ≡ b → cond b (Some 0) (option_map suc (label_in l ss)) ≡ Some k → ((j : ℕ) → label_in l ss ≡ Some j → LabelAt l ss j) → LabelAt l (AndStmt t ss) k
    go true h g deeper =
        let z : 0 ≡ k = cc in
        subst (LabelAt l (AndStmt t ss)) z (record {
          statement = t;
          rest = ss;
          here = refl;
          has = h;
          leads = ap (λ o. or_else (path_under (Nth 0) o) (path_later (labelled_in l ss))) (label_here t parts.0 l ∙ ap (λ b. cond b (Some (enter t)) None) h);
        })
    go false h g deeper =
        let j = some_suc (label_in l ss) k g in
        let m = deeper j.0 j.1 in
        subst (LabelAt l (AndStmt t ss)) (sym j.2) (record {
          statement = m.statement;
          rest = m.rest;
          here = m.here;
          has = m.has;
          leads = ap (λ o. or_else (path_under (Nth 0) o) (path_later (labelled_in l ss))) (label_here t parts.0 l ∙ ap (λ b. cond b (Some (enter t)) None) h) ∙ ap path_later m.leads;
        })

-- ---- the number of a label

-- none of these has it
pub data NoLabel (l : Text) : List Stmt → Type 0 where
  NoneLeft : NoLabel l []
  NotHere : (s : Stmt) (ss : List Stmt) → has_label l s ≡ false → NoLabel l ss → NoLabel l (s ∷ ss)

-- behind statements without it
pub label_behind : (l : Text) (front : List Stmt) (rest : Stmts) (j : ℕ) → NoLabel l front → label_in l rest ≡ Some j → label_in l (before front rest) ≡ Some (length front + j)
label_behind l _ rest j NoneLeft e = e ∙ ap Some (let f : j ≡ 0 + j = omega arith in f)
label_behind l _ rest j (NotHere s ss n h) e =
    ap (λ b. cond b (Some 0) (option_map suc (label_in l (before ss rest)))) n ∙ ap (option_map suc) (label_behind l ss rest j h e)
    ∙ ap Some (let f : suc (length ss + j) ≡ suc (length ss) + j = omega arith in f)

-- at a statement that has it
pub label_first : (l : Text) (s : Stmt) (rest : Stmts) → has_label l s ≡ true → label_in l (AndStmt s rest) ≡ Some 0
label_first l s rest h = ap (λ b. cond b (Some 0) (option_map suc (label_in l rest))) h

-- where it stands once
pub label_once : (l : Text) (ss : Stmts) (k : ℕ) (s : Stmt) (rest : Stmts) → dropped k ss ≡ AndStmt s rest → has_label l s ≡ true
    → ((j : ℕ) (t : Stmt) (others : Stmts) → dropped j ss ≡ AndStmt t others → has_label l t ≡ true → j ≡ k) → label_in l ss ≡ Some k
label_once l NoStmt zero s rest e h one = absurd (cc)
label_once l NoStmt (suc k) s rest e h one = absurd (cc)
label_once l (AndStmt t ss) zero s rest e h one = let f : t ≡ s = cc in label_first l t ss (ap (has_label l) f ∙ h)
label_once l (AndStmt t ss) (suc k) s rest e h one =
    go (has_label l t) refl (label_once l ss k s rest e h (λ j u others d i. let z : suc j ≡ suc k = one (suc j) u others d i in omega (arith, z)))
  where
    go : (b : Bool) → has_label l t ≡ b → label_in l ss ≡ Some k → cond b (Some 0) (option_map suc (label_in l ss)) ≡ Some (suc k)
    go true g i = let z : 0 ≡ suc k = one 0 t ss refl g in absurd (omega (arith, z))
    go false g i = ap (option_map suc) i
