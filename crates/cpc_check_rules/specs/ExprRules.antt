-- The rules that expressions and calls break.
use Rattle.std.specs.Prelude.{◌&&◌, List, [], ◌∷◌, ◌++◌, is_some}
use Rattle.std.specs.Option.{is_none}
use Rattle.cpc_tree.specs.OpVariants.{Add}
use Rattle.cpc_tree.specs.declared.program.UnaryOp.TheVariants.{AddressOf}
use Rattle.cpc_tree.specs.Located.{LExpr, LNamed, LInteger, LCharacter, LText, LUnary, LBinary, LAnd, LOr, LChoose, LCast, LSizeOf, LIndex, LMember, LArrow, LCall, LExprs, NoLExpr, AndLExpr}
use Rattle.cpc_tree.specs.Primitives.{primitive_named}
use Rattle.cpc_check_rules.specs.declared.rule.Rule.TheVariants.{Disagree, Incomplete, CallInside}
use Rattle.cpc_check_rules.specs.Rule.{Broken, at_if}
use Rattle.cpc_check_rules.specs.Scopes.{meant, measured}
use Rattle.cpc_check_rules.specs.Operators.{Where, typed_at, first, name_breaks, no_rule, binary_breaks, address_breaks, member_breaks, arrow_breaks}
use Rattle.cpc_check_rules.specs.Calls.{Wanted, String, wanted, callee, pointer_breaks, named_breaks, number_breaks, suit_breaks}

-- what is called, which as a value would break these
abbrev pub called_breaks : Where → LExpr → Broken → Broken
called_breaks w (LNamed x) parts = named_breaks w (LNamed x) x.place parts (meant w.scope x.text) (primitive_named x.text)
called_breaks w f parts = pointer_breaks w f parts

-- an argument, which as a value would break these; a string is an argument where one is wanted, and nowhere else
abbrev pub arg_breaks : Where → Wanted → LExpr → Broken → Broken
arg_breaks w String (LText q bytes) parts = []
arg_breaks w t e parts = parts ++ suit_breaks w.scope t e (typed_at w e)

abbrev mutual
  -- what an expression breaks that is used as a value or a place
  pub expr_breaks : Where → LExpr → Broken
  expr_breaks w (LNamed x) = name_breaks w.mode x.place (meant w.scope x.text)
  expr_breaks w (LInteger q kind z) = []
  expr_breaks w (LCharacter q z) = []
  expr_breaks w (LText q bytes) = (q, Disagree) ∷ []
  expr_breaks w (LUnary q AddressOf v) = expr_breaks w v ++ address_breaks (typed_at w v) (typed_at w (LUnary q AddressOf v)) (first v)
  expr_breaks w (LUnary q op v) = expr_breaks w v ++ no_rule (is_some (typed_at w v)) (typed_at w (LUnary q op v)) q
  expr_breaks w (LBinary q op v u) = expr_breaks w v ++ (expr_breaks w u ++ binary_breaks w.scope op (typed_at w v) (typed_at w u) (typed_at w (LBinary q op v u)) q)
  expr_breaks w (LAnd q v u) = expr_breaks w v ++ (expr_breaks w u ++ no_rule (is_some (typed_at w v) && is_some (typed_at w u)) (typed_at w (LAnd q v u)) q)
  expr_breaks w (LOr q v u) = expr_breaks w v ++ (expr_breaks w u ++ no_rule (is_some (typed_at w v) && is_some (typed_at w u)) (typed_at w (LOr q v u)) q)
  expr_breaks w (LChoose q c v u) = expr_breaks w c ++ (expr_breaks w v ++ (expr_breaks w u
      ++ no_rule (is_some (typed_at w c) && (is_some (typed_at w v) && is_some (typed_at w u))) (typed_at w (LChoose q c v u)) q))
  expr_breaks w (LCast q t v) = expr_breaks w v ++ no_rule (is_some (typed_at w v)) (typed_at w (LCast q t v)) q
  expr_breaks w (LSizeOf q t) = at_if (is_none (measured w.scope t)) q Incomplete
  expr_breaks w (LIndex q v u) = expr_breaks w v ++ (expr_breaks w u ++ binary_breaks w.scope Add (typed_at w v) (typed_at w u) (typed_at w (LIndex q v u)) q)
  expr_breaks w (LMember q v x) = expr_breaks w v ++ member_breaks w.scope (typed_at w v) q x (typed_at w (LMember q v x))
  expr_breaks w (LArrow q v x) = expr_breaks w v ++ arrow_breaks w.scope (typed_at w v) q x (typed_at w (LArrow q v x))
  expr_breaks w (LCall q f vs) = (first f, CallInside) ∷ (called_breaks w f (expr_breaks w f) ++ (number_breaks (callee w f vs) vs (first f) ++ args_breaks w (wanted (callee w f vs)) vs))

  -- arguments, each beside what is wanted
  pub args_breaks : Where → List Wanted → LExprs → Broken
  args_breaks w ws NoLExpr = []
  args_breaks w [] (AndLExpr e es) = expr_breaks w e ++ args_breaks w [] es
  args_breaks w (t ∷ ts) (AndLExpr e es) = arg_breaks w t e (expr_breaks w e) ++ args_breaks w ts es

-- a call: what is called, and its arguments
abbrev pub call_breaks : Where → LExpr → LExprs → Broken
call_breaks w f es = called_breaks w f (expr_breaks w f) ++ (number_breaks (callee w f es) es (first f) ++ args_breaks w (wanted (callee w f es)) es)
