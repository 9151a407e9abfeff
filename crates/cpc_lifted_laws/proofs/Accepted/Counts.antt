-- How many points and variables the functions of an accepted program have.
use Rattle.std.proofs.Common.{◌≡◌, ℕ, suc, ◌+◌, ◌*◌, ◌≤◌, Bool, true, false, List, [], ◌∷◌, ◌++◌, cond, map, length, drop, nat_lt, refl, sym, ◌∙◌, ap, arith}
use Rattle.std.proofs.lemmas.List.{length-map, length-append, length-drop}
use Rattle.std.proofs.Math.Nat.{mul-suc}
use Rattle.cpc_base.specs.declared.stop.Dialect.TheVariants as D
use Rattle.cpc_base.specs.declared.stop.Place.{Place}
use Rattle.cpc_base.proofs.Truth.{lt_not_means}
use Rattle.cpc_tree.specs.Located.{LStmt, Block, If, While, DoWhile, For, Label, LStmts, NoLStmt, AndLStmt, MaybeLStmt, NoneLStmt, SomeLStmt, LParameter, LItem, LStruct, LGlobal, LPrototype, LFunctionItem, bare_stmt, bare_stmts, bare_maybe, bare_item}
use Rattle.cpc_tree.specs.Points.{Point, Here, End, Part, Nth, TheTest, TheYes, TheNo, TheStep, TheBody}
use Rattle.cpc_tree.specs.Syntax.{Function, FunctionItem}
use Rattle.cpc_tree.specs.declared.program.Mode.{Mode}
use Rattle.cpc_tree.specs.declared.program.Mode.TheVariants.{Extern, Native, Cps, Detached}
use Rattle.cpc_check_rules.specs.declared.rule.Rule.{Rule}
use Rattle.cpc_check_rules.specs.declared.rule.Rule.TheVariants.{TooBroad}
use Rattle.cpc_check_rules.specs.FunctionRules.{statements, statements_in, statements_maybe, variables, many_breaks}
use Rattle.cpc_check_rules.specs.Operators.{is_cps}
use Rattle.cpc_check_rules.specs.Rule.{Broken}
use Rattle.cpc_check_rules.specs.Rules.{breadth, breadth_limit, broad_breaks}
use Rattle.cpc_meaning.specs.Threads.{is_cps_mode}
use Rattle.cpc_convert_common.specs.Members.{Has, OnTop, Below}
use Rattle.cpc_check_laws.proofs.Native.NativeItems.{none_first}
use Rattle.cpc_forms.specs.Order.{within, one_later, points_of, points_in, points_arm, points}

-- ---- points

-- the points of a part are as many
pub same_many : (part : Part) (xs : List Point) → length (within part xs) ≡ length xs
same_many part xs = length-map xs _

mutual
  few_points : (s : LStmt) → length (points_of (bare_stmt s)) ≤ 2 * statements s
  few_points (Block q NoLStmt) = omega arith
  few_points (Block q (AndLStmt s ss)) = let h = few_in (AndLStmt s ss) in omega (arith, h)
  few_points (If q c a b) =
      let h = few_points a in let k = few_maybe b in
      let e = length-append (within TheYes (points_of (bare_stmt a))) (within TheNo (points_arm (bare_maybe b))) in
      let i = same_many TheYes (points_of (bare_stmt a)) in let j = same_many TheNo (points_arm (bare_maybe b)) in
      omega (arith, h, k, e, i, j)
  few_points (While q c s) = let h = few_points s in let i = same_many TheBody (points_of (bare_stmt s)) in omega (arith, h, i)
  few_points (DoWhile q s c) =
      let h = few_points s in let i = same_many TheBody (points_of (bare_stmt s)) in
      let e = length-append (within TheBody (points_of (bare_stmt s))) (Here (TheTest ∷ []) ∷ []) in
      omega (arith, h, i, e)
  few_points (For q ss c r s) =
      let h = few_in ss in let k = few_maybe r in let l = few_points s in
      let e = length-append (points_in (bare_stmts ss)) (Here (TheTest ∷ []) ∷ (within TheStep (points_arm (bare_maybe r)) ++ within TheBody (points_of (bare_stmt s)))) in
      let d = length-append (within TheStep (points_arm (bare_maybe r))) (within TheBody (points_of (bare_stmt s))) in
      let i = same_many TheStep (points_arm (bare_maybe r)) in let j = same_many TheBody (points_of (bare_stmt s)) in
      omega (arith, h, k, l, e, d, i, j)
  few_points (Label x s) = let h = few_points s in let i = same_many TheBody (points_of (bare_stmt s)) in omega (arith, h, i)
  few_points _ = omega arith

  few_in : (ss : LStmts) → length (points_in (bare_stmts ss)) ≤ 2 * statements_in ss
  few_in NoLStmt = omega arith
  few_in (AndLStmt s ss) =
      let h = few_points s in let k = few_in ss in
      let e = length-append (within (Nth 0) (points_of (bare_stmt s))) (map one_later (points_in (bare_stmts ss))) in
      let i = same_many (Nth 0) (points_of (bare_stmt s)) in let j = length-map (points_in (bare_stmts ss)) one_later in
      omega (arith, h, k, e, i, j)

  few_maybe : (r : MaybeLStmt) → length (points_arm (bare_maybe r)) ≤ 2 * statements_maybe r
  few_maybe NoneLStmt = omega arith
  few_maybe (SomeLStmt s) = few_points s

body_points : (s : LStmt) → length (points (bare_stmt s)) ≤ 2 * statements s + 1
body_points s = let h = few_points s in let e = length-append (points_of (bare_stmt s)) (End ∷ []) in omega (arith, h, e)

-- ---- breadth

-- a cps function by which the limit is kept, and what comes after
broad_row : (c b : Bool) (x : Place × Rule) (more rest : Broken) → c ≡ true → cond c (cond b (x ∷ []) more) rest ≡ [] → (b ≡ false) × (more ≡ [])
broad_row false b x more rest c h = absurd (cc)
broad_row true true x more rest c h = absurd (cc)
broad_row true false x more rest c h = (refl, h)

-- so its points are so few
within_limit : (n a v k : ℕ) → nat_lt breadth_limit (n + a * suc v) ≡ false → k ≤ 2 * a + 1 → k ≤ 1000001
within_limit n a v k h le =
    let top = lt_not_means breadth_limit (n + a * suc v) h in
    let wide = mul-suc a v in
    omega (arith, top, wide, le)

-- what is cps for the meaning is so for the rules
pub cps_same : (m : Mode) → is_cps_mode m ≡ is_cps m
cps_same Extern = refl
cps_same Native = refl
cps_same Cps = refl
cps_same Detached = refl

-- and what is not is not
pub not_cps : (m : Mode) → is_cps_mode m ≡ false → is_cps m ≡ false
not_cps m e = sym (cps_same m) ∙ e

-- cps functions by which the limit is kept have few points
pub points_within : (n : ℕ) (xs : List LItem) → broad_breaks n xs ≡ [] → (f : Function) → Has (FunctionItem f) (map bare_item xs) → is_cps_mode f.mode ≡ true → length (points f.body) ≤ 1000001
points_within n [] h f has c = elim has [ ]
points_within n (LStruct tag fs ∷ xs) h f (Below _ _ _ has) c = points_within n xs h f has c
points_within n (LGlobal x t start ∷ xs) h f (Below _ _ _ has) c = points_within n xs h f has c
points_within n (LPrototype q m x r ps ∷ xs) h f (Below _ _ _ has) c = points_within n xs h f has c
points_within n (LFunctionItem g ∷ xs) h _ (OnTop _ _) c =
    let row = broad_row (is_cps g.mode) (nat_lt breadth_limit (n + breadth g)) _ (broad_breaks (n + breadth g) xs) (broad_breaks n xs) (sym (cps_same g.mode) ∙ c) h in
    within_limit n (statements g.body) (length (variables g.parameters g.body)) (length (points (bare_stmt g.body))) row.0 (body_points g.body)
points_within n (LFunctionItem g ∷ xs) h f (Below _ _ _ has) c =
    behind (is_cps g.mode) (nat_lt breadth_limit (n + breadth g)) h (λ e. points_within n xs e f has c) (λ e. points_within (n + breadth g) xs e f has c)
  where
    behind : (b d : Bool) → cond b (cond d ((g.called.place, TooBroad) ∷ []) (broad_breaks (n + breadth g) xs)) (broad_breaks n xs) ≡ []
        → (broad_breaks n xs ≡ [] → length (points f.body) ≤ 1000001) → (broad_breaks (n + breadth g) xs ≡ [] → length (points f.body) ≤ 1000001) → length (points f.body) ≤ 1000001
    behind false d e out rest = out e
    behind true true e out rest = absurd (cc)
    behind true false e out rest = rest e

-- ---- variables

pub few_variables : (ps : List LParameter) (body : LStmt) → many_breaks D.Cpc ps body ≡ [] → length (variables ps body) ≤ 255
few_variables ps body h =
    let e = ap length (none_first (drop 255 (variables ps body)) h) in
    let k = length-drop 255 (variables ps body) in
    omega (arith, e, k)
