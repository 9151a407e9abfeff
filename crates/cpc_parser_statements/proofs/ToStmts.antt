-- What the grammar says of a statement is what the readers' words say.
use Rattle.std.proofs.Common.{ℕ, ◌+◌, List, [], ◌∷◌, ◌++◌, Option, Some, None, max, refl, sym, ap, append_assoc, arith, inl, inr}
use Rattle.cpc_base.specs.declared.stop.Place.{Place}
use Rattle.cpc_tree.specs.declared.token.Keyword.TheVariants as K
use Rattle.cpc_tree.specs.declared.token.Punctuator.TheVariants as P
use Rattle.cpc_tree.specs.Tokens.{Placed}
use Rattle.cpc_tree.specs.Located.{Ident, LExpr, LExprs, LStmt}
use Rattle.cpc_tree.specs.Located as L
use Rattle.cpc_tree.specs.TypeGrammar.{word, mark, named}
use Rattle.cpc_tree.specs.ExprGrammar.{Whole, Reads, ReadsArgs}
use Rattle.cpc_tree.specs.StmtGrammar.{ReadsFirst, ReadsMaybe, ReadsStep, ReadsStmt}
use Rattle.cpc_tree.specs.StmtGrammar as G
use Rattle.cpc_parser_reading.specs.Phrase.{Both, OneOf}
use Rattle.cpc_parser_reading.specs.Operators.{bare, tailed}
use Rattle.cpc_parser_statements.specs.StmtReaders.{Braced, Blank, IfWord, WhileWord, DoWord, ForWord, GotoWord, BreakWord, ContinueWord, ReturnWord, SpawnWord, Sentence}
use Rattle.cpc_parser_statements.proofs.Parts.{Tested}
use Rattle.cpc_parser_statements.proofs.Stmts.{Dos, Fors, Spawns, Labels, Stmts}

-- a test in its parentheses
abbrev enclosed : Place → List Placed → Place → List Placed
enclosed q f r = mark q P.LeftParen ∷ (f ++ mark r P.RightParen ∷ [])

tested : (q r : Place) (f : List Placed) (c : LExpr) (h : ℕ) → Reads Whole f c h → Tested (enclosed q f r) c h
tested q r f c h x = (q, f, r, refl, x)

-- a test and what follows it
to_both : {A : Type 0} (S : List Placed → A → ℕ → Type 0) (q r : Place) (f g : List Placed) (c : LExpr) (v : A) (h i : ℕ) → Reads Whole f c h → S g v i
    → Both Tested S (mark q P.LeftParen ∷ (f ++ mark r P.RightParen ∷ g)) (c, v) (max h i)
to_both S q r f g c v h i x y = record {
  left = enclosed q f r;
  right = g;
  i = h;
  j = i;
  whole = ap (λ z. mark q P.LeftParen ∷ z) (sym (append_assoc f (mark r P.RightParen ∷ []) g));
  nest = refl;
  first = tested q r f c h x;
  second = y;
}

-- the body of a do, and its test
to_do : (f g : List Placed) (r t u w : Place) (s : LStmt) (c : LExpr) (h i : ℕ) → ReadsStmt f s h → Reads Whole g c i
    → Dos (f ++ word r K.While ∷ mark t P.LeftParen ∷ (g ++ mark u P.RightParen ∷ mark w P.Semicolon ∷ [])) (s, c) (max h i)
to_do f g r t u w s c h i x y = record {
  left = f;
  right = word r K.While ∷ mark t P.LeftParen ∷ (g ++ mark u P.RightParen ∷ mark w P.Semicolon ∷ []);
  i = h;
  j = i;
  whole = refl;
  nest = refl;
  first = x;
  second = (
    word r K.While,
    mark t P.LeftParen ∷ (g ++ mark u P.RightParen ∷ mark w P.Semicolon ∷ []),
    refl,
    refl,
    (enclosed t g u, w, ap (λ z. mark t P.LeftParen ∷ z) (sym (append_assoc g (mark u P.RightParen ∷ []) (mark w P.Semicolon ∷ []))), tested t u g c i y),
  );
}

to_for : (f g k l : List Placed) (r t u w : Place) (ss : List LStmt) (o : Option LExpr) (p : Option LStmt) (s : LStmt) (h i j m : ℕ) → ReadsFirst f ss h → ReadsMaybe g o i → ReadsStep k p j → ReadsStmt l s m
    → Fors (mark r P.LeftParen ∷ (f ++ mark t P.Semicolon ∷ (g ++ mark u P.Semicolon ∷ (k ++ mark w P.RightParen ∷ l)))) (ss, (o, (p, s))) (max h (max i (max j m)))
to_for f g k l r t u w ss o p s h i j m x y z b = (
  mark r P.LeftParen,
  f ++ mark t P.Semicolon ∷ (g ++ mark u P.Semicolon ∷ (k ++ mark w P.RightParen ∷ l)),
  refl,
  refl,
  record {
    left = f ++ mark t P.Semicolon ∷ [];
    right = g ++ mark u P.Semicolon ∷ (k ++ mark w P.RightParen ∷ l);
    i = h;
    j = max i (max j m);
    whole = sym (append_assoc f (mark t P.Semicolon ∷ []) (g ++ mark u P.Semicolon ∷ (k ++ mark w P.RightParen ∷ l)));
    nest = refl;
    first = (f, t, refl, x);
    second = record {
      left = g ++ mark u P.Semicolon ∷ [];
      right = k ++ mark w P.RightParen ∷ l;
      i = i;
      j = max j m;
      whole = sym (append_assoc g (mark u P.Semicolon ∷ []) (k ++ mark w P.RightParen ∷ l));
      nest = refl;
      first = (g, u, refl, y);
      second = record { left = k ++ mark w P.RightParen ∷ []; right = l; i = j; j = m; whole = sym (append_assoc k (mark w P.RightParen ∷ []) l); nest = refl; first = (k, w, refl, z); second = b };
    };
  },
)

to_spawn : (g : List Placed) (r s t : Place) (x : Ident) (vs : LExprs) (h : ℕ) → ReadsArgs g vs h → Spawns (named x ∷ mark r P.LeftParen ∷ (g ++ mark s P.RightParen ∷ mark t P.Semicolon ∷ [])) (x, vs) h
to_spawn g r s t x vs h a = record {
  left = named x ∷ [];
  right = mark r P.LeftParen ∷ (g ++ mark s P.RightParen ∷ mark t P.Semicolon ∷ []);
  i = 0;
  j = h;
  whole = refl;
  nest = omega arith;
  first = (named x, refl, refl, refl);
  second = (mark r P.LeftParen, g ++ mark s P.RightParen ∷ mark t P.Semicolon ∷ [], refl, refl, (g ++ mark s P.RightParen ∷ [], t, sym (append_assoc g (mark s P.RightParen ∷ []) (mark t P.Semicolon ∷ [])), (g, s, refl, a)));
}

to_label : (f : List Placed) (q : Place) (x : Ident) (s : LStmt) (h : ℕ) → ReadsStmt f s h → Labels (named x ∷ mark q P.Colon ∷ f) (L.Label x s) (h + 1)
to_label f q x s h r = ((x, s), h, refl, refl, record { left = named x ∷ mark q P.Colon ∷ []; right = f; i = 0; j = h; whole = refl; nest = omega arith; first = (named x ∷ [], q, refl, (named x, refl, refl, refl)); second = r })

pub to_stmts : (f : List Placed) (v : LStmt) (h : ℕ) → ReadsStmt f v h → OneOf Stmts f v h
to_stmts f v h (G.block g q r ss i x) = (Braced, (mark q P.LeftBrace, g ++ mark r P.RightBrace ∷ [], refl, refl, (ss, i, refl, refl, (g, r, refl, x))))
to_stmts f v h (G.empty q) = (Blank, (mark q P.Semicolon, [], refl, refl, (tt, 0, refl, refl, (refl, refl))))
to_stmts f v h (G.simple g q s i r) = (Sentence, inr (g, q, refl, r))
to_stmts f v h (G.labelled g q x s i r) = (Sentence, inl (to_label g q x s i r))
to_stmts f v h (G.if_alone g k q r t c s i j x y) =
    (IfWord, (word q K.If, mark r P.LeftParen ∷ (g ++ mark t P.RightParen ∷ k), refl, refl, ((c, (s, None)), max i j, refl, refl, to_both _ r t g k c (s, None) i j x (bare k s j y))))
to_stmts f v h (G.if_else g k l q r t u c s y i j m x z d b) = (
  IfWord,
  (
    word q K.If,
    mark r P.LeftParen ∷ (g ++ mark t P.RightParen ∷ (k ++ word u K.Else ∷ l)),
    refl,
    refl,
    (
      (c, (s, Some y)),
      max i (max j m),
      refl,
      refl,
      to_both _ r t g (k ++ word u K.Else ∷ l) c (s, Some y) i (max j m) x (tailed k (word u K.Else ∷ l) s y j m z d (word u K.Else, l, refl, refl, b)),
    ),
  ),
)
to_stmts f v h (G.while g k q r t c s i j x y) = (WhileWord, (word q K.While, mark r P.LeftParen ∷ (g ++ mark t P.RightParen ∷ k), refl, refl, ((c, s), max i j, refl, refl, to_both ReadsStmt r t g k c s i j x y)))
to_stmts f v h (G.do_while g k q r t u w s c i j x y) = (DoWord, (word q K.Do, _, refl, refl, ((s, c), max i j, refl, refl, to_do g k r t u w s c i j x y)))
to_stmts f v h (G.for g k l m q r t u w ss o p s a b c d x y z e) = (ForWord, (word q K.For, _, refl, refl, ((ss, (o, (p, s))), max a (max b (max c d)), refl, refl, to_for g k l m r t u w ss o p s a b c d x y z e)))
to_stmts f v h (G.goto q r x) = (GotoWord, (word q K.Goto, named x ∷ mark r P.Semicolon ∷ [], refl, refl, (x, 0, refl, refl, (named x ∷ [], r, refl, (named x, refl, refl, refl)))))
to_stmts f v h (G.break q r) = (BreakWord, (word q K.Break, mark r P.Semicolon ∷ [], refl, refl, (tt, 0, refl, refl, (mark r P.Semicolon, refl, refl, refl))))
to_stmts f v h (G.continue q r) = (ContinueWord, (word q K.Continue, mark r P.Semicolon ∷ [], refl, refl, (tt, 0, refl, refl, (mark r P.Semicolon, refl, refl, refl))))
to_stmts f v h (G.return g q r o i x) = (ReturnWord, (word q K.Return, g ++ mark r P.Semicolon ∷ [], refl, refl, (o, i, refl, refl, (g, r, refl, x))))
to_stmts f v h (G.spawn g q r s t x vs i a) = (SpawnWord, (word q K.CpcSpawn, _, refl, refl, ((x, vs), i, refl, refl, to_spawn g r s t x vs i a)))
