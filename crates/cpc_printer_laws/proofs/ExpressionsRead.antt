-- A printed expression is read as the expression.
use Rattle.std.proofs.Common.{◌≡◌, ℕ, zero, suc, ◌+◌, ◌-◌, ◌≤◌, Bool, true, false, List, Some, refl, subst, arith}
use Rattle.std.proofs.lemmas.Bool.Decides.{nat_tests}
use Rattle.cpc_num.specs.declared.kinds.Op.{Op}
use Rattle.cpc_num.specs.declared.kinds.Op.TheVariants as O
use Rattle.cpc_tree.specs.declared.program.UnaryOp.{UnaryOp}
use Rattle.cpc_tree.specs.declared.program.UnaryOp.TheVariants as U
use Rattle.cpc_tree.specs.declared.token.Punctuator.TheVariants as P
use Rattle.cpc_tree.specs.Tokens.{Lexeme}
use Rattle.cpc_tree.specs.Syntax.{Expr, ENamed, EInteger, ECharacter, EText, EUnary, EBinary, EAnd, EOr, EChoose, ECast, ESizeOf, EIndex, EMember, EArrow, ECall, Exprs, NoExpr, AndExpr}
use Rattle.cpc_tree.specs.ExprGrammar.{Rank, Primary, Postfix, Unary, Tier, Whole, Binary, And, Or, operator, unary_operator}
use Rattle.cpc_printer_laws.proofs.ExprRows.{Reads, a_name, an_integer, a_character, a_text, parens, a_primary, indexed, called, member, arrow, a_postfix, signed, size, a_unary, cast, an_operand, applied, unchosen, chosen, ReadsArgs, no_args, last_arg, more_args}
use Rattle.cpc_tree.specs.ExprPrint.{level, tier_below, mark_of, unary_mark, round, deeper_if, is_loose, expr_row, expr_depth, args_row, args_depth, PrintableExpr, PrintableExprs}
use Rattle.cpc_printer_laws.proofs.TypesRead.{type_reads}

marked : (op : Op) → operator (mark_of op) ≡ Some (suc (tier_below op), Binary op)
marked O.Mul = refl
marked O.Div = refl
marked O.Rem = refl
marked O.Add = refl
marked O.Sub = refl
marked O.Shl = refl
marked O.Shr = refl
marked O.Lt = refl
marked O.Le = refl
marked O.Gt = refl
marked O.Ge = refl
marked O.Eq = refl
marked O.Ne = refl
marked O.BitAnd = refl
marked O.BitXor = refl
marked O.BitOr = refl

unary_marked : (op : UnaryOp) → unary_operator (unary_mark op) ≡ Some op
unary_marked U.Minus = refl
unary_marked U.Plus = refl
unary_marked U.Not = refl
unary_marked U.Complement = refl
unary_marked U.Dereference = refl
unary_marked U.AddressOf = refl

tier_low : (op : Op) → tier_below op ≤ 9
tier_low O.Mul = omega arith
tier_low O.Div = omega arith
tier_low O.Rem = omega arith
tier_low O.Add = omega arith
tier_low O.Sub = omega arith
tier_low O.Shl = omega arith
tier_low O.Shr = omega arith
tier_low O.Lt = omega arith
tier_low O.Le = omega arith
tier_low O.Gt = omega arith
tier_low O.Ge = omega arith
tier_low O.Eq = omega arith
tier_low O.Ne = omega arith
tier_low O.BitAnd = omega arith
tier_low O.BitXor = omega arith
tier_low O.BitOr = omega arith

-- an expression of a tier is one of each tier above
climbed : (d n : ℕ) (f : List Lexeme) (v : Expr) (h : ℕ) → Reads (Tier n) f v h → Reads (Tier (d + n)) f v h
climbed zero n f v h r = subst (λ j. Reads (Tier j) f v h) (omega arith) r
climbed (suc d) n f v h r = subst (λ j. Reads (Tier j) f v h) (omega arith) (an_operand (d + n) f v h (climbed d n f v h r))

in_tier : (n m : ℕ) (f : List Lexeme) (v : Expr) (h : ℕ) → n ≤ m → Reads (Tier n) f v h → Reads (Tier m) f v h
in_tier n m f v h le r = subst (λ j. Reads (Tier j) f v h) (omega arith) (climbed (m - n) n f v h r)

of_unary : (k : Rank) (f : List Lexeme) (v : Expr) (h : ℕ) → 2 ≤ level k → Reads Unary f v h → Reads k f v h
of_unary Primary f v h le r = absurd (omega arith)
of_unary Postfix f v h le r = absurd (omega arith)
of_unary Unary f v h le r = r
of_unary (Tier n) f v h le r = in_tier 0 n f v h (omega arith) (a_unary f v h r)
of_unary Whole f v h le r = unchosen f v h (in_tier 0 10 f v h (omega arith) (a_unary f v h r))

of_postfix : (k : Rank) (f : List Lexeme) (v : Expr) (h : ℕ) → 1 ≤ level k → Reads Postfix f v h → Reads k f v h
of_postfix Primary f v h le r = absurd (omega arith)
of_postfix Postfix f v h le r = r
of_postfix Unary f v h le r = a_postfix f v h r
of_postfix (Tier n) f v h le r = of_unary (Tier n) f v h (omega arith) (a_postfix f v h r)
of_postfix Whole f v h le r = of_unary Whole f v h (omega arith) (a_postfix f v h r)

of_primary : (k : Rank) (f : List Lexeme) (v : Expr) (h : ℕ) → Reads Primary f v h → Reads k f v h
of_primary Primary f v h r = r
of_primary Postfix f v h r = a_primary f v h r
of_primary Unary f v h r = of_postfix Unary f v h (omega arith) (a_primary f v h r)
of_primary (Tier n) f v h r = of_postfix (Tier n) f v h (omega arith) (a_primary f v h r)
of_primary Whole f v h r = of_postfix Whole f v h (omega arith) (a_primary f v h r)

of_tier : (k : Rank) (m : ℕ) (f : List Lexeme) (v : Expr) (h : ℕ) → m ≤ 10 → 3 + m ≤ level k → Reads (Tier m) f v h → Reads k f v h
of_tier Primary m f v h low le r = absurd (omega arith)
of_tier Postfix m f v h low le r = absurd (omega arith)
of_tier Unary m f v h low le r = absurd (omega arith)
of_tier (Tier n) m f v h low le r = in_tier m n f v h (omega arith) r
of_tier Whole m f v h low le r = unchosen f v h (in_tier m 10 f v h low r)

-- one production, at its own rank, printed where another is asked for
postfix_round : (b : Bool) (k : Rank) (f : List Lexeme) (v : Expr) (h : ℕ) → is_loose k Postfix ≡ b → Reads Postfix f v h → Reads k (round b f) v (deeper_if b h)
postfix_round true k f v h e r = of_primary k _ v (h + 1) (parens f v h (of_postfix Whole f v h (omega arith) r))
postfix_round false k f v h e r = of_postfix k f v h (grind (arith, nat_tests)) r

unary_round : (b : Bool) (k : Rank) (f : List Lexeme) (v : Expr) (h : ℕ) → is_loose k Unary ≡ b → Reads Unary f v h → Reads k (round b f) v (deeper_if b h)
unary_round true k f v h e r = of_primary k _ v (h + 1) (parens f v h (of_unary Whole f v h (omega arith) r))
unary_round false k f v h e r = of_unary k f v h (grind (arith, nat_tests)) r

tier_round : (b : Bool) (k : Rank) (m : ℕ) (f : List Lexeme) (v : Expr) (h : ℕ) → m ≤ 10 → is_loose k (Tier m) ≡ b → Reads (Tier m) f v h → Reads k (round b f) v (deeper_if b h)
tier_round true k m f v h low e r = of_primary k _ v (h + 1) (parens f v h (of_tier Whole m f v h low (omega arith) r))
tier_round false k m f v h low e r = of_tier k m f v h low (grind (arith, nat_tests)) r

-- a rank of the grammar
abbrev pub IsRank : Rank → Type 0
IsRank (Tier n) = n ≤ 10
IsRank k = Unit {0}

of_whole : (k : Rank) (f : List Lexeme) (v : Expr) (h : ℕ) → IsRank k → is_loose k Whole ≡ false → Reads Whole f v h → Reads k f v h
of_whole Whole f v h i e r = r
of_whole k f v h i e r = absurd (grind (arith, nat_tests))

whole_round : (b : Bool) (k : Rank) (f : List Lexeme) (v : Expr) (h : ℕ) → IsRank k → is_loose k Whole ≡ b → Reads Whole f v h → Reads k (round b f) v (deeper_if b h)
whole_round true k f v h i e r = of_primary k _ v (h + 1) (parens f v h r)
whole_round false k f v h i e r = of_whole k f v h i e r

mutual
  unfolding expr_row expr_depth PrintableExpr args_row args_depth PrintableExprs

  pub expr_reads : (tight : Bool) (k : Rank) (v : Expr) → IsRank k → PrintableExpr v → Reads k (expr_row tight k v) v (expr_depth tight k v)
  expr_reads tight k (ENamed x) i s = of_primary k _ _ _ (a_name x)
  expr_reads tight k (EInteger kind z) i s = of_primary k _ _ _ (an_integer kind z)
  expr_reads tight k (ECharacter z) i s = of_primary k _ _ _ (a_character z)
  expr_reads tight k (EText bytes) i s = of_primary k _ _ _ (a_text bytes)
  expr_reads tight k (EUnary op v) i s = unary_round (is_loose k Unary) k _ _ _ refl (signed _ (unary_mark op) op v _ (unary_marked op) (expr_reads tight (Tier 0) v (omega arith) s))
  expr_reads tight k (EBinary op v w) i (a, b) =
      tier_round (is_loose k (Tier (suc (tier_below op)))) k (suc (tier_below op)) _ _ _ (omega (arith, tier_low op)) refl
      (applied (tier_below op) _ _ (mark_of op) (Binary op) v w _ _ (expr_reads tight (Tier (suc (tier_below op))) v (omega (arith, tier_low op)) a) (marked op) (expr_reads tight (Tier (tier_below op)) w (omega (arith, tier_low op)) b))
  expr_reads tight k (EAnd v w) i (a, b) = tier_round (is_loose k (Tier 9)) k 9 _ _ _ (omega arith) refl (applied 8 _ _ P.AndAnd And v w _ _ (expr_reads tight (Tier 9) v (omega arith) a) refl (expr_reads tight (Tier 8) w (omega arith) b))
  expr_reads tight k (EOr v w) i (a, b) = tier_round (is_loose k (Tier 10)) k 10 _ _ _ (omega arith) refl (applied 9 _ _ P.OrOr Or v w _ _ (expr_reads tight (Tier 10) v (omega arith) a) refl (expr_reads tight (Tier 9) w (omega arith) b))
  expr_reads tight k (EChoose c v w) i (a, b, d) = whole_round (is_loose k Whole) k _ _ _ i refl (chosen _ _ _ c v w _ _ _ (expr_reads tight (Tier 10) c (omega arith) a) (expr_reads tight Whole v tt b) (expr_reads tight Whole w tt d))
  expr_reads tight k (ECast t v) i (a, b) = tier_round (is_loose k (Tier 0)) k 0 _ _ _ (omega arith) refl (cast _ _ t v _ _ (type_reads tight t a) (expr_reads tight (Tier 0) v (omega arith) b))
  expr_reads tight k (ESizeOf t) i s = unary_round (is_loose k Unary) k _ _ _ refl (size _ t _ (type_reads tight t s))
  expr_reads tight k (EIndex v w) i (a, b) = postfix_round (is_loose k Postfix) k _ _ _ refl (indexed _ _ v w _ _ (expr_reads tight Postfix v tt a) (expr_reads tight Whole w tt b))
  expr_reads tight k (EMember v x) i s = postfix_round (is_loose k Postfix) k _ _ _ refl (member _ v x _ (expr_reads tight Postfix v tt s))
  expr_reads tight k (EArrow v x) i s = postfix_round (is_loose k Postfix) k _ _ _ refl (arrow _ v x _ (expr_reads tight Postfix v tt s))
  expr_reads tight k (ECall v vs) i (a, b) = postfix_round (is_loose k Postfix) k _ _ _ refl (called _ _ v vs _ _ (expr_reads tight Postfix v tt a) (args_read tight vs b))

  pub args_read : (tight : Bool) (vs : Exprs) → PrintableExprs vs → ReadsArgs (args_row tight vs) vs (args_depth tight vs)
  args_read tight NoExpr s = no_args
  args_read tight (AndExpr v NoExpr) (a, b) = last_arg _ v _ (expr_reads tight Whole v tt a)
  args_read tight (AndExpr v (AndExpr w vs)) (a, b) = more_args _ _ v w vs _ _ (expr_reads tight Whole v tt a) (args_read tight (AndExpr w vs) b)
