-- How a walk goes on, piece by piece.
use Rattle.std.proofs.Common.{◌≡◌, ℕ, suc, ◌+◌, Bool, true, false, List, [], ◌∷◌, ◌++◌, length, map, slice_get, Option, Some, None, refl, sym, ap, ◌∙◌, subst, append_assoc, length-append, arith, bytes_eq}
use Rattle.std.proofs.lemmas.List.{length-map, map-append}
use Rattle.cpc_base.specs.Bytes.{Text}
use Rattle.cpc_base.specs.declared.names.Name.{Name}
use Rattle.cpc_base.proofs.Lists.{appended_empty, get_last}
use Rattle.cpc_tree.specs.Erase.{Names}
use Rattle.cpc_tree.specs.Syntax as S
use Rattle.cpc_tree.specs.Typing as T
use Rattle.cpc_eval_locals.specs.declared.variables.Variable as V
use Rattle.cpc_forms_code.specs.declared.boxed.Variable.{Variable}
use Rattle.cpc_forms_code.specs.declared.boxed.BoxedPoint as B
use Rattle.cpc_forms_code.specs.Seen.{AreNamed, local_seen}
use Rattle.cpc_forms_code.specs.Points.{Marked, BoxedPoint, variable_seen}
use Rattle.cpc_box.specs.declared.walk.Walk.{Walk}
use Rattle.cpc_tree.specs.Points.{Test}
use Rattle.cpc_box.specs.Outline.{declares, declares_in, declares_arm, behind_all, here, outline, outline_in, outline_arm}
use Rattle.cpc_box.specs.Walked.{Chain, Inner, IsSeen, AreSeen, marked_by, mark_of, Walked, Stands, Came}
use Rattle.cpc_box.proofs.Scopes.{get_either, chain_more, chain_before, seen_more, seen_last}

module _ (names : Names) (ms : List V.Variable) where
  abbrev marked : S.Variable → Bool → Marked
  marked x r = record { called = x; register = r }

  marked_length : (n : ℕ) (xs : List S.Variable) → length (marked_by ms n xs) ≡ length xs
  marked_length n [] = refl
  marked_length n (x ∷ xs) = let h = marked_length (suc n) xs in omega arith

  marked_both : (n m : ℕ) (xs ys : List S.Variable) → m ≡ n + length xs → marked_by ms n (xs ++ ys) ≡ marked_by ms n xs ++ marked_by ms m ys
  marked_both n m [] ys e = ap (λ k. marked_by ms k ys) (let h : n ≡ m = omega arith in h)
  marked_both n m (x ∷ xs) ys e = ap (λ l. marked x (mark_of (slice_get ms n)) ∷ l) (marked_both (suc n) m xs ys (let h : m ≡ n + suc (length xs) = e in omega arith))

  -- how many variables there are then
  pub walk_length : (a b : Walk) (xs : List S.Variable) (ps : List BoxedPoint) → Walked names ms a b xs ps → length b.variables.items ≡ length a.variables.items + length xs
  walk_length a b xs ps w =
      let h = ap length w.variables in
      let i = length-append (map (variable_seen names) a.variables.items) (marked_by ms (length a.variables.items) xs) in
      let j = marked_length (length a.variables.items) xs in
      let k = length-map a.variables.items (variable_seen names) in
      let l = length-map b.variables.items (variable_seen names) in
      omega arith

  -- one piece after the other
  pub both : (a b c : Walk) (xs ys : List S.Variable) (ps qs : List BoxedPoint) → Walked names ms a b xs ps → Walked names ms b c ys qs → Walked names ms a c (xs ++ ys) (ps ++ qs)
  both a b c xs ys ps qs w v = record {
    variables = v.variables
        ∙ (ap (λ l. l ++ marked_by ms (length b.variables.items) ys) w.variables
        ∙ (append_assoc (map (variable_seen names) a.variables.items) (marked_by ms (length a.variables.items) xs) (marked_by ms (length b.variables.items) ys)
        ∙ ap (λ l. map (variable_seen names) a.variables.items ++ l) (sym (marked_both (length a.variables.items) (length b.variables.items) xs ys (walk_length a b xs ps w)))));
    named = λ n. v.named (w.named n);
    grows = λ o sc ch. v.grows o sc (w.grows o sc ch);
    points = λ rs s.
        let P : List BoxedPoint → Type 0 = AreSeen names c.variables.items c.points.items in
        subst P (append_assoc rs ps qs) (v.points (rs ++ ps) (w.points rs s));
  }

  -- nothing happened
  pub none : (a b : Walk) → b ≡ a → Walked names ms a b [] []
  none a b e = let P : Walk → Type 0 = λ c. Walked names ms a c [] [] in subst P (sym e) (record {
    variables = appended_empty (map (variable_seen names) a.variables.items);
    named = λ n. n;
    grows = λ o sc c. c;
    points = λ ps s. let Q : List BoxedPoint → Type 0 = AreSeen names a.variables.items a.points.items in subst Q (appended_empty ps) s;
  })

  -- a point is pushed
  pub pushed : (a b : Walk) (x : B.BoxedPoint) (p : BoxedPoint) → b.variables.items ≡ a.variables.items → b.points.items ≡ a.points.items ++ x ∷ [] → IsSeen names a.variables.items x p → Walked names ms a b [] (p ∷ [])
  pushed a b x p e f i = record {
    variables = ap (map (variable_seen names)) e ∙ appended_empty (map (variable_seen names) a.variables.items);
    named = λ n. let P : List Variable → Type 0 = AreNamed names in subst P (sym e) n;
    grows = λ o sc c. let P : List Variable → Type 0 = λ vs. Chain names vs o sc in subst P (sym e) c;
    points = λ ps s.
        let P : List Variable → Type 0 = λ vs. AreSeen names vs b.points.items (ps ++ p ∷ []) in
        let Q : List B.BoxedPoint → Type 0 = λ bs. AreSeen names a.variables.items bs (ps ++ p ∷ []) in
        subst P (sym e) (subst Q (sym f) (seen_last names a.variables.items a.points.items ps x p s i));
  }

  named_more : (vs : List Variable) (v : Variable) → AreNamed names vs → (v.name ≡ None → (x : Name) → bytes_eq [] (names x) ≡ false) → AreNamed names (vs ++ v ∷ [])
  named_more vs v n h = record { each = get_either (λ u. u.name ≡ None → (x : Name) → bytes_eq [] (names x) ≡ false) vs v n.each h }

  -- a variable is declared
  pub declared : (a b : Walk) (v : Variable) (n : ℕ) (sc : T.Scope) → n ≡ length a.variables.items → b.variables.items ≡ a.variables.items ++ v ∷ [] → b.points.items ≡ a.points.items → v.is_register ≡ mark_of (slice_get ms n)
      → Chain names a.variables.items v.outer sc → (v.name ≡ None → (x : Name) → bytes_eq [] (names x) ≡ false)
      → Came names ms a b ((variable_seen names v).called ∷ []) [] (Some n) (local_seen names (length a.variables.items) v ∷ sc)
  declared a b v n sc i e f m c h =
      let vs = a.variables.items in
      record {
        walked = record {
          variables = ap (map (variable_seen names)) e
              ∙ (map-append (variable_seen names) vs (v ∷ [])
              ∙ ap (λ r. map (variable_seen names) vs ++ (marked (variable_seen names v).called r ∷ [])) (m ∙ ap (λ k. mark_of (slice_get ms k)) i));
          named = λ n. let P : List Variable → Type 0 = AreNamed names in subst P (sym e) (named_more vs v n h);
          grows = λ o s d. let P : List Variable → Type 0 = λ us. Chain names us o s in subst P (sym e) (chain_more names vs (v ∷ []) o s d);
          points = λ ps s.
              let P : List Variable → Type 0 = λ us. AreSeen names us b.points.items (ps ++ []) in
              let Q : List B.BoxedPoint → Type 0 = λ bs. AreSeen names (vs ++ v ∷ []) bs (ps ++ []) in
              let R : List BoxedPoint → Type 0 = AreSeen names (vs ++ v ∷ []) a.points.items in
              subst P (sym e) (subst Q (sym f) (subst R (appended_empty ps) (seen_more names vs (v ∷ []) a.points.items ps s)));
        };
        scope =
            let P : List Variable → Type 0 = λ us. Chain names us (Some (length vs)) (local_seen names (length vs) v ∷ sc) in
            let N : ℕ → Type 0 = λ k. Chain names b.variables.items (Some k) (local_seen names (length vs) v ∷ sc) in
            subst N (sym i) (subst P (sym e) (Inner (length vs) v sc (get_last vs (length vs) v refl) (chain_before names vs v.outer sc c) (chain_more names vs (v ∷ []) v.outer sc c)));
      }

  -- ---- what is asked afterwards

  pub stands_on : (texts : List Text) (a b : Walk) (xs : List S.Variable) (ps : List BoxedPoint) (o : Option ℕ) (sc : T.Scope) → Stands names texts a o sc → Walked names ms a b xs ps → Stands names texts b o sc
  stands_on texts a b xs ps o sc s w = record { spells = s.spells; named = w.named s.named; scope = w.grows o sc s.scope }

  pub stands_in : (texts : List Text) (a b : Walk) (xs : List S.Variable) (ps : List BoxedPoint) (o q : Option ℕ) (sc sd : T.Scope) → Stands names texts a o sc → Came names ms a b xs ps q sd → Stands names texts b q sd
  stands_in texts a b xs ps o q sc sd s w = record { spells = s.spells; named = w.walked.named s.named; scope = w.scope }

  -- ---- the same by equations

  pub walked_as : (a b : Walk) (xs ys : List S.Variable) (ps qs : List BoxedPoint) → xs ≡ ys → ps ≡ qs → Walked names ms a b xs ps → Walked names ms a b ys qs
  walked_as a b xs ys ps qs e f w =
      let P : List S.Variable → Type 0 = λ zs. Walked names ms a b zs qs in
      let Q : List BoxedPoint → Type 0 = λ rs. Walked names ms a b xs rs in
      subst P e (subst Q f w)

  pub came_as : (a b : Walk) (xs ys : List S.Variable) (ps qs : List BoxedPoint) (o : Option ℕ) (sc sd : T.Scope) → xs ≡ ys → ps ≡ qs → sc ≡ sd → Came names ms a b xs ps o sc → Came names ms a b ys qs o sd
  came_as a b xs ys ps qs o sc sd e f g w =
      let P : T.Scope → Type 0 = Chain names b.variables.items o in
      record { walked = walked_as a b xs ys ps qs e f w.walked; scope = subst P g w.scope }

  -- ---- by the statement

  module _ (p : S.Program) (fixed : Bool) (sc : T.Scope) (n : ℕ) (a b : Walk) where
    pub by_stmt : (s t : S.Stmt) → s ≡ t → Walked names ms a b (declares fixed s) (outline p fixed sc n s) → Walked names ms a b (declares fixed t) (outline p fixed sc n t)
    by_stmt s t e w = let P : S.Stmt → Type 0 = λ u. Walked names ms a b (declares fixed u) (outline p fixed sc n u) in subst P e w

-- ---- where the scope is fixed nothing is declared

mutual
  declares_fixed : (s : S.Stmt) → declares true s ≡ []
  declares_fixed (S.Block ss) = declares_in_fixed ss
  declares_fixed S.Empty = refl
  declares_fixed (S.Declare x t start) = refl
  declares_fixed (S.Assign e op v) = refl
  declares_fixed (S.Call e f es) = refl
  declares_fixed (S.Detach e f es) = refl
  declares_fixed (S.Spawn f es) = refl
  declares_fixed (S.If t a b) = ap (λ l. l ++ declares_arm true b) (declares_fixed a) ∙ declares_arm_fixed b
  declares_fixed (S.While t s) = declares_fixed s
  declares_fixed (S.DoWhile s t) = declares_fixed s
  declares_fixed (S.For first t step s) = ap (λ l. l ++ declares true s) (declares_in_fixed first) ∙ declares_fixed s
  declares_fixed (S.Goto l) = refl
  declares_fixed (S.Label l s) = declares_fixed s
  declares_fixed S.Break = refl
  declares_fixed S.Continue = refl
  declares_fixed (S.Return v) = refl

  declares_in_fixed : (ss : S.Stmts) → declares_in true ss ≡ []
  declares_in_fixed S.NoStmt = refl
  declares_in_fixed (S.AndStmt s ss) = ap (λ l. l ++ declares_in true ss) (declares_fixed s) ∙ declares_in_fixed ss

  pub declares_arm_fixed : (b : S.MaybeStmt) → declares_arm true b ≡ []
  declares_arm_fixed S.Absent = refl
  declares_arm_fixed (S.Present s) = declares_fixed s

-- ---- statements, from their parts

module _ (names : Names) (ms : List V.Variable) (p : S.Program) (fixed : Bool) (sc : T.Scope) where
  abbrev count : Walk → ℕ
  count w = length w.variables.items

  same_count : (a b : Walk) (ps : List BoxedPoint) → Walked names ms a b [] ps → count b ≡ count a
  same_count a b ps w = let h = walk_length names ms a b [] ps w in let i : length {A = S.Variable} [] ≡ 0 = refl in omega arith

  pub if_walked : (t : S.Expr) (s : S.Stmt) (arm : S.MaybeStmt) (a b c d : Walk) → Walked names ms a b [] (here p sc (Test (Some t)) ∷ []) → Walked names ms b c (declares fixed s) (outline p fixed sc (count b) s)
      → Walked names ms c d (declares_arm fixed arm) (outline_arm p fixed sc (count c) arm) → Walked names ms a d (declares fixed (S.If t s arm)) (outline p fixed sc (count a) (S.If t s arm))
  if_walked t s arm a b c d w v u =
      let n = same_count a b (here p sc (Test (Some t)) ∷ []) w in
      let m = walk_length names ms b c (declares fixed s) (outline p fixed sc (count b) s) v ∙ ap (λ k. k + length (declares fixed s)) n in
      walked_as names ms a d (declares fixed s ++ declares_arm fixed arm) (declares fixed s ++ declares_arm fixed arm)
      (here p sc (Test (Some t)) ∷ (outline p fixed sc (count b) s ++ outline_arm p fixed sc (count c) arm)) (outline p fixed sc (count a) (S.If t s arm)) refl
      (ap (λ k. here p sc (Test (Some t)) ∷ (outline p fixed sc k s ++ outline_arm p fixed sc (count c) arm)) n
      ∙ ap (λ k. here p sc (Test (Some t)) ∷ (outline p fixed sc (count a) s ++ outline_arm p fixed sc k arm)) m)
      (both names ms a b d [] (declares fixed s ++ declares_arm fixed arm) (here p sc (Test (Some t)) ∷ []) (outline p fixed sc (count b) s ++ outline_arm p fixed sc (count c) arm) w
      (both names ms b c d (declares fixed s) (declares_arm fixed arm) (outline p fixed sc (count b) s) (outline_arm p fixed sc (count c) arm) v u))

  pub while_walked : (t : S.Expr) (s : S.Stmt) (a b c : Walk) → Walked names ms a b [] (here p sc (Test (Some t)) ∷ []) → Walked names ms b c (declares fixed s) (outline p fixed sc (count b) s)
      → Walked names ms a c (declares fixed (S.While t s)) (outline p fixed sc (count a) (S.While t s))
  while_walked t s a b c w v =
      walked_as names ms a c (declares fixed s) (declares fixed s) (here p sc (Test (Some t)) ∷ outline p fixed sc (count b) s) (outline p fixed sc (count a) (S.While t s)) refl
      (ap (λ k. here p sc (Test (Some t)) ∷ outline p fixed sc k s) (same_count a b (here p sc (Test (Some t)) ∷ []) w))
      (both names ms a b c [] (declares fixed s) (here p sc (Test (Some t)) ∷ []) (outline p fixed sc (count b) s) w v)

  pub do_walked : (t : S.Expr) (s : S.Stmt) (a b c : Walk) → Walked names ms a b (declares fixed s) (outline p fixed sc (count a) s) → Walked names ms b c [] (here p sc (Test (Some t)) ∷ [])
      → Walked names ms a c (declares fixed (S.DoWhile s t)) (outline p fixed sc (count a) (S.DoWhile s t))
  do_walked t s a b c w v =
      walked_as names ms a c (declares fixed s ++ []) (declares fixed s) (outline p fixed sc (count a) s ++ (here p sc (Test (Some t)) ∷ [])) (outline p fixed sc (count a) (S.DoWhile s t)) (sym (appended_empty (declares fixed s))) refl
      (both names ms a b c (declares fixed s) [] (outline p fixed sc (count a) s) (here p sc (Test (Some t)) ∷ []) w v)

  pub for_walked : (first : S.Stmts) (t : Option S.Expr) (step : S.MaybeStmt) (s : S.Stmt) (a b c d e : Walk)
      → Walked names ms a b (declares_in fixed first) (outline_in p fixed sc (count a) first)
      → Walked names ms b c [] (here p (behind_all fixed sc (count a) first) (Test t) ∷ [])
      → Walked names ms c d (declares_arm true step) (outline_arm p true (behind_all fixed sc (count a) first) (count c) step)
      → Walked names ms d e (declares fixed s) (outline p fixed (behind_all fixed sc (count a) first) (count d) s)
      → Walked names ms a e (declares fixed (S.For first t step s)) (outline p fixed sc (count a) (S.For first t step s))
  for_walked first t step s a b c d e w v u r =
      let inner = behind_all fixed sc (count a) first in
      let m : count b ≡ count a + length (declares_in fixed first) = walk_length names ms a b (declares_in fixed first) (outline_in p fixed sc (count a) first) w in
      let n = same_count b c (here p inner (Test t) ∷ []) v ∙ m in
      let u0 : Walked names ms c d [] (outline_arm p true inner (count c) step) = walked_as names ms c d (declares_arm true step) [] (outline_arm p true inner (count c) step) (outline_arm p true inner (count c) step) (declares_arm_fixed step) refl u in
      let o = same_count c d (outline_arm p true inner (count c) step) u0 ∙ n in
      walked_as names ms a e (declares_in fixed first ++ declares fixed s) (declares_in fixed first ++ declares fixed s)
      (outline_in p fixed sc (count a) first ++ (here p inner (Test t) ∷ (outline_arm p true inner (count c) step ++ outline p fixed inner (count d) s))) (outline p fixed sc (count a) (S.For first t step s)) refl
      (ap (λ k. outline_in p fixed sc (count a) first ++ (here p inner (Test t) ∷ (outline_arm p true inner k step ++ outline p fixed inner (count d) s))) n
      ∙ ap (λ k. outline_in p fixed sc (count a) first ++ (here p inner (Test t) ∷ (outline_arm p true inner (count a + length (declares_in fixed first)) step ++ outline p fixed inner k s))) o)
      (both names ms a b e (declares_in fixed first) (declares fixed s) (outline_in p fixed sc (count a) first) (here p inner (Test t) ∷ (outline_arm p true inner (count c) step ++ outline p fixed inner (count d) s)) w
      (both names ms b c e [] (declares fixed s) (here p inner (Test t) ∷ []) (outline_arm p true inner (count c) step ++ outline p fixed inner (count d) s) v
      (both names ms c d e [] (declares fixed s) (outline_arm p true inner (count c) step) (outline p fixed inner (count d) s) u0 r)))
