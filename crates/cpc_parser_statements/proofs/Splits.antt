-- An expression is a postfix expression or another one.
use Rattle.std.proofs.Common.{ℕ, zero, suc, List, inl, inr, ◌⊎◌, arith}
use Rattle.cpc_tree.specs.Tokens.{Placed}
use Rattle.cpc_tree.specs.Located.{LExpr}
use Rattle.cpc_tree.specs.ExprGrammar.{Postfix, Unary, Tier, Whole, top_tier, Reads}
use Rattle.cpc_tree.specs.ExprGrammar as X
use Rattle.cpc_parser_expressions.proofs.Sorts.{tier_up}
use Rattle.cpc_parser_expressions.specs.Shapes.{ReadsOther}
use Rattle.cpc_parser_expressions.specs.Shapes as S

pub unary_whole : (f : List Placed) (v : LExpr) (h : ℕ) → Reads Unary f v h → Reads Whole f v h
unary_whole f v h r = X.unchosen f v h (tier_up 0 top_tier f v h (omega arith) (X.a_unary f v h r))

pub unary_kind : (f : List Placed) (v : LExpr) (h : ℕ) → Reads Unary f v h → Reads Postfix f v h ⊎ ReadsOther Unary f v h
unary_kind f v h (X.a_postfix g w i x) = inl x
unary_kind f v h (X.signed g q p op w i e x) = inr (S.signed g q p op w i e x)
unary_kind f v h (X.size g q o s t i x) = inr (S.size g q o s t i x)

first_kind : (f : List Placed) (v : LExpr) (h : ℕ) → Reads (Tier 0) f v h → Reads Postfix f v h ⊎ ReadsOther (Tier 0) f v h
first_kind f v h (X.a_unary g w i x) = elim (unary_kind g w i x) [ inl a ↦ inl a | inr a ↦ inr (S.a_unary g w i a) ]
first_kind f v h (X.cast g k q o t w i j x y) = inr (S.cast g k q o t w i j x y)

tier_kind : (n : ℕ) (f : List Placed) (v : LExpr) (h : ℕ) → Reads (Tier n) f v h → Reads Postfix f v h ⊎ ReadsOther (Tier n) f v h
tier_kind zero f v h r = first_kind f v h r
tier_kind (suc n) f v h (X.an_operand m g w i x) = elim (tier_kind n g w i x) [ inl a ↦ inl a | inr a ↦ inr (S.an_operand n g w i a) ]
tier_kind (suc n) f v h (X.applied m g k q p op w u i j x e y) = inr (S.applied n g k q p op w u i j x e y)

pub whole_kind : (f : List Placed) (v : LExpr) (h : ℕ) → Reads Whole f v h → Reads Postfix f v h ⊎ ReadsOther Whole f v h
whole_kind f v h (X.unchosen g w i x) = elim (tier_kind top_tier g w i x) [ inl a ↦ inl a | inr a ↦ inr (S.unchosen g w i a) ]
whole_kind f v h (X.chosen g k l q o c w u i j m x y z) = inr (S.chosen g k l q o c w u i j m x y z)
