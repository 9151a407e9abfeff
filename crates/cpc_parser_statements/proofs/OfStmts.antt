-- What the readers' words say of a statement is what the grammar says.
use Rattle.std.proofs.Common.{◌≡◌, ℕ, ◌+◌, List, [], ◌∷◌, ◌++◌, Option, max, append_assoc, arith, inl, inr, true}
use Rattle.cpc_base.specs.declared.stop.Place.{Place}
use Rattle.cpc_tree.specs.declared.token.Keyword.TheVariants as K
use Rattle.cpc_tree.specs.declared.token.Punctuator.TheVariants as P
use Rattle.cpc_tree.specs.Tokens.{Placed}
use Rattle.cpc_tree.specs.Located.{Ident, LExpr, LExprs, LStmt, Goto}
use Rattle.cpc_tree.specs.TypeGrammar.{word, mark}
use Rattle.cpc_tree.specs.StmtGrammar.{stmts, ReadsStmt}
use Rattle.cpc_tree.specs.StmtGrammar as G
use Rattle.cpc_parser_reading.specs.Phrase.{One, After, Both, OneOf}
use Rattle.cpc_parser_reading.specs.Operators.{Tailed, bare, tailed}
use Rattle.cpc_parser_types.specs.TypeReaders.{ident_of}
use Rattle.cpc_parser_statements.specs.StmtReaders.{Braced, Blank, IfWord, WhileWord, DoWord, ForWord, GotoWord, BreakWord, ContinueWord, ReturnWord, SpawnWord, Sentence, if_of, while_of, do_of, for_of, spawn_of}
use Rattle.cpc_parser_statements.proofs.Marks.{as_mark, as_word, mark_is, word_is}
use Rattle.cpc_parser_statements.proofs.Ended.{Ended}
use Rattle.cpc_parser_statements.proofs.Parts.{Tested}
use Rattle.cpc_parser_statements.proofs.Classes.{class_is}
use Rattle.cpc_parser_statements.proofs.Stmts.{Closed, Ifs, Dos, Fors, Spawns, Labels, Stmts}
use Rattle.cpc_parser_types.specs.Begins.{is_mark, is_word}
use Rattle.cpc_parser_types.proofs.BaseWords.{named_is}

-- a token of the test is the semicolon
semicolon_token : (t : Placed) → is_mark P.Semicolon t.lexeme ≡ true → t ≡ mark t.place P.Semicolon
semicolon_token t e = as_mark t P.Semicolon (mark_is P.Semicolon t.lexeme e)

of_tailed : (q : Place) (c : LExpr) (u : LStmt × Option LStmt) (i j : ℕ) (left right : List Placed) → Tested left c i → Tailed (λ h j. max h j) ReadsStmt Closed (After (λ t. is_word K.Else t.lexeme) ReadsStmt) right u j
    → ReadsStmt (word q K.If ∷ (left ++ right)) (if_of q (c, u)) (max i j + 1)
of_tailed q c u i j left right (o, k, r, e, x) (bare g s h m) =
    rw (e, append_assoc k (mark r P.RightParen ∷ []) g) (G.if_alone k g q o r c s i h x m)
of_tailed q c u i j left right (o, k, r, e, x) (tailed g l s y h m d ok (t, b, e1, p, z)) =
    rw (e, e1, append_assoc k (mark r P.RightParen ∷ []) (g ++ t ∷ b), as_word t K.Else (word_is K.Else t.lexeme p)) (G.if_else k g b q o r t.place c s y i h m x d ok z)

of_if : (q : Place) (g : List Placed) (v : LExpr × (LStmt × Option LStmt)) (h : ℕ) → Ifs g v h → ReadsStmt (word q K.If ∷ g) (if_of q v) (h + 1)
of_if q g v h b = rw (b.whole, b.nest) (of_tailed q v.0 v.1 b.i b.j b.left b.right b.first b.second)

of_while : (q : Place) (g : List Placed) (v : LExpr × LStmt) (h : ℕ) → Both Tested ReadsStmt g v h → ReadsStmt (word q K.While ∷ g) (while_of q v) (h + 1)
of_while q g v h b =
    let (o, k, r, e, x) = b.first in
    rw (b.whole, b.nest, e, append_assoc k (mark r P.RightParen ∷ []) b.right) (G.while k b.right q o r v.0 v.1 b.i b.j x b.second)

of_do : (q : Place) (g : List Placed) (v : LStmt × LExpr) (h : ℕ) → Dos g v h → ReadsStmt (word q K.Do ∷ g) (do_of q v) (h + 1)
of_do q g v h b =
    let (t, k, e, p, (l, w, e1, (o, m, r, e2, x))) = b.second in
    rw (b.whole, b.nest, e, e1, e2, append_assoc m (mark r P.RightParen ∷ []) (mark w P.Semicolon ∷ []), as_word t K.While (word_is K.While t.lexeme p)) (G.do_while b.left m q t.place o r w v.0 v.1 b.i b.j b.first x)

of_for : (q : Place) (g : List Placed) (v : List LStmt × (Option LExpr × (Option LStmt × LStmt))) (h : ℕ) → Fors g v h → ReadsStmt (word q K.For ∷ g) (for_of q v) (h + 1)
of_for q g v h (t, k, e, p, b) =
    let (f1, r1, e1, x1) = b.first in
    let c = b.second in
    let (f2, r2, e2, x2) = c.first in
    let d = c.second in
    let (f3, r3, e3, x3) = d.first in
    let n : h ≡ max b.i (max c.i (max d.i d.j)) = omega (arith, b.nest, c.nest, d.nest) in
    rw (
      e,
      n,
      b.whole,
      e1,
      append_assoc f1 (mark r1 P.Semicolon ∷ []) b.right,
      c.whole,
      e2,
      append_assoc f2 (mark r2 P.Semicolon ∷ []) c.right,
      d.whole,
      e3,
      append_assoc f3 (mark r3 P.RightParen ∷ []) d.right,
      as_mark t P.LeftParen (mark_is P.LeftParen t.lexeme p),
    ) (G.for f1 f2 f3 d.right q t.place r1 r2 r3 v.0 v.1.0 v.1.1.0 v.1.1.1 b.i c.i d.i d.j x1 x2 x3 d.second)

of_goto : (q : Place) (g : List Placed) (x : Ident) (h : ℕ) → Ended P.Semicolon (One ident_of) g x h → ReadsStmt (word q K.Goto ∷ g) (Goto q x) (h + 1)
of_goto q g x h (k, r, e, (t, e1, p, z)) =
    rw (e, e1, z, named_is t x p) (G.goto q r x)

of_spawn : (q : Place) (g : List Placed) (v : Ident × LExprs) (h : ℕ) → Spawns g v h → ReadsStmt (word q K.CpcSpawn ∷ g) (spawn_of q v) (h + 1)
of_spawn q g v h b =
    let (t, e, p, z) = b.first in
    let (u, k, e1, i, (l, w, e2, (m, s, e3, x))) = b.second in
    let n : h ≡ b.j = omega (arith, b.nest, z) in
    rw (b.whole, n, e, e1, e2, e3, append_assoc m (mark s P.RightParen ∷ []) (mark w P.Semicolon ∷ []), named_is t v.0 p, as_mark u P.LeftParen (mark_is P.LeftParen u.lexeme i)) (G.spawn m q u.place s w v.0 v.1 b.j x)

of_label : (f : List Placed) (v : LStmt) (h : ℕ) → Labels f v h → ReadsStmt f v h
of_label f v h (w, i, e, n, b) =
    let (g, r, e1, (t, e2, p, z)) = b.first in
    let m : i ≡ b.j = omega (arith, b.nest, z) in
    rw (e, n, m, b.whole, e1, e2, named_is t w.0 p) (G.labelled b.right r w.0 w.1 b.j b.second)

pub of_stmts : (f : List Placed) (v : LStmt) (h : ℕ) → OneOf Stmts f v h → ReadsStmt f v h
of_stmts f v h (Braced, (t, g, e, p, (ss, i, e1, n, (k, r, e2, x)))) = rw (e, e1, n, e2, as_mark t P.LeftBrace (class_is t.lexeme Braced p)) (G.block k t.place r ss i x)
of_stmts f v h (Blank, (t, g, e, p, (u, i, e1, n, (none, z)))) = rw (e, e1, n, none, z, as_mark t P.Semicolon (class_is t.lexeme Blank p)) (G.empty t.place)
of_stmts f v h (IfWord, (t, g, e, p, (w, i, e1, n, x))) = rw (e, e1, n, as_word t K.If (class_is t.lexeme IfWord p)) (of_if t.place g w i x)
of_stmts f v h (WhileWord, (t, g, e, p, (w, i, e1, n, x))) = rw (e, e1, n, as_word t K.While (class_is t.lexeme WhileWord p)) (of_while t.place g w i x)
of_stmts f v h (DoWord, (t, g, e, p, (w, i, e1, n, x))) = rw (e, e1, n, as_word t K.Do (class_is t.lexeme DoWord p)) (of_do t.place g w i x)
of_stmts f v h (ForWord, (t, g, e, p, (w, i, e1, n, x))) = rw (e, e1, n, as_word t K.For (class_is t.lexeme ForWord p)) (of_for t.place g w i x)
of_stmts f v h (GotoWord, (t, g, e, p, (w, i, e1, n, x))) = rw (e, e1, n, as_word t K.Goto (class_is t.lexeme GotoWord p)) (of_goto t.place g w i x)
of_stmts f v h (BreakWord, (t, g, e, p, (w, i, e1, n, (u, e2, s, z)))) = rw (e, e1, n, e2, z, as_word t K.Break (class_is t.lexeme BreakWord p), semicolon_token u s) (G.break t.place u.place)
of_stmts f v h (ContinueWord, (t, g, e, p, (w, i, e1, n, (u, e2, s, z)))) = rw (e, e1, n, e2, z, as_word t K.Continue (class_is t.lexeme ContinueWord p), semicolon_token u s) (G.continue t.place u.place)
of_stmts f v h (ReturnWord, (t, g, e, p, (o, i, e1, n, (k, r, e2, x)))) = rw (e, e1, n, e2, as_word t K.Return (class_is t.lexeme ReturnWord p)) (G.return k t.place r o i x)
of_stmts f v h (SpawnWord, (t, g, e, p, (w, i, e1, n, x))) = rw (e, e1, n, as_word t K.CpcSpawn (class_is t.lexeme SpawnWord p)) (of_spawn t.place g w i x)
of_stmts f v h (Sentence, inl x) = of_label f v h x
of_stmts f v h (Sentence, inr (g, r, e, x)) = rw e (G.simple g r v h x)
