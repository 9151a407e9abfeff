-- Statements in the readers' words and in those of the grammar.
use Rattle.std.proofs.Common.{◌≡◌, ℕ, false, List, [], ◌∷◌, ◌++◌, Option, Some, max, refl, ap, ◌∙◌, append_assoc, inl, inr}
use Rattle.cpc_base.specs.declared.stop.Place.{Place}
use Rattle.cpc_tree.specs.declared.token.Keyword.TheVariants as K
use Rattle.cpc_tree.specs.declared.token.Punctuator.TheVariants as P
use Rattle.cpc_tree.specs.Tokens.{Placed}
use Rattle.cpc_tree.specs.Located.{Ident, LExpr, LExprs, LStmt, Goto, Return, bare_stmt}
use Rattle.cpc_tree.specs.TypeGrammar.{mark}
use Rattle.cpc_tree.specs.StmtGrammar.{stmts, dangles, ReadsSimple, ReadsMaybe, ReadsFirst, ReadsStep, ReadsStmt, ReadsBlock}
use Rattle.cpc_tree.specs.StmtGrammar as G
use Rattle.cpc_parser_reading.specs.Phrase.{Nothing, One, Expect, After, Headed, Both, Mapped, Made, Either}
use Rattle.cpc_parser_reading.specs.Lists.{Many, no_more, one_more}
use Rattle.cpc_parser_reading.specs.Operators.{Tailed}
use Rattle.cpc_parser_types.specs.Views.{lexeme}
use Rattle.cpc_parser_types.specs.TypeReaders.{ident_of}
use Rattle.cpc_parser_statements.specs.LocalReaders.{declared}
use Rattle.cpc_parser_statements.specs.StmtReaders.{Class, Braced, Blank, IfWord, WhileWord, DoWord, ForWord, GotoWord, BreakWord, ContinueWord, ReturnWord, SpawnWord, Sentence, stmt_class, Entry, Stated, Declares, entries_of, block_of, empty_of, break_of, continue_of, if_of, while_of, do_of, for_of, spawn_of, label_of}
use Rattle.cpc_parser_expressions.proofs.PostfixWords.{Arguments}
use Rattle.cpc_parser_statements.proofs.Locals.{Declared, of_declared, to_declared}
use Rattle.cpc_parser_statements.proofs.Ended.{Ended}
use Rattle.cpc_parser_statements.proofs.Parts.{Tested}
use Rattle.cpc_parser_types.specs.Begins.{is_mark, is_word}

-- what stands in a block
abbrev pub Entries : List Placed → Entry → ℕ → Type 0
Entries = Either (Mapped Declares (Ended P.Semicolon Declared)) (Mapped Stated ReadsStmt)

of_entry : (f b : List Placed) (e : Entry) (es : List Entry) (i j : ℕ) → Entries f e i → ReadsBlock b (entries_of es) j → ReadsBlock (f ++ b) (entries_of (e ∷ es)) (max i j)
of_entry f b e es i j (inl (v, e1, (g, r, e2, d))) m =
    rw (e1, e2, append_assoc g (mark r P.Semicolon ∷ []) b) (G.a_local g b r (declared v) (entries_of es) i j (of_declared g v i d) m)
of_entry f b e es i j (inr (s, e1, x)) m = rw e1 (G.a_stmt f b s (entries_of es) i j x m)

pub of_entries : (f : List Placed) (es : List Entry) (h : ℕ) → Many Entries f es h → ReadsBlock f (entries_of es) h
of_entries f es h no_more = G.no_part
of_entries f es h (one_more a b e us i j r m) = of_entry a b e us i j r (of_entries b us j m)

pub to_entries : (f : List Placed) (ss : List LStmt) (h : ℕ) → ReadsBlock f ss h → (es : List Entry) × (ss ≡ entries_of es) × Many Entries f es h
to_entries f ss h G.no_part = ([], refl, no_more)
to_entries f ss h (G.a_stmt a b s us i j r m) =
    let k = to_entries b us j m in
    (Stated s ∷ k.0, ap (λ z. s ∷ z) k.1, one_more a b (Stated s) k.0 i j (inr (s, refl, r)) k.2)
to_entries f ss h (G.a_local a b q rs us i j r m) =
    let d = to_declared a rs i r in
    let k = to_entries b us j m in
    let e : (a ++ mark q P.Semicolon ∷ []) ++ b ≡ a ++ mark q P.Semicolon ∷ b = append_assoc a (mark q P.Semicolon ∷ []) b in
    (Declares d.0 ∷ k.0, ap (λ z. z ++ us) d.1 ∙ ap (λ z. declared d.0 ++ z) k.1, rw (← e) (one_more (a ++ mark q P.Semicolon ∷ []) b (Declares d.0) k.0 i j (inl (d.0, refl, (a, q, refl, d.2))) k.2))

-- what stands between the braces of a block, and the closing one
abbrev pub Blocked : List Placed → List LStmt → ℕ → Type 0
Blocked f ss h = (g : List Placed) × (r : Place) × (f ≡ g ++ mark r P.RightBrace ∷ []) × ReadsBlock g ss h

-- an else belongs to no if inside
abbrev pub Closed : LStmt → Type 0
Closed s = dangles (bare_stmt s) ≡ false

-- what follows each word
abbrev pub Ifs : List Placed → LExpr × (LStmt × Option LStmt) → ℕ → Type 0
Ifs = Both Tested (Tailed (λ h j. max h j) ReadsStmt Closed (After (λ t. is_word K.Else t.lexeme) ReadsStmt))

abbrev pub Dos : List Placed → LStmt × LExpr → ℕ → Type 0
Dos = Both ReadsStmt (After (λ t. is_word K.While t.lexeme) (Ended P.Semicolon Tested))

abbrev pub Fors : List Placed → List LStmt × (Option LExpr × (Option LStmt × LStmt)) → ℕ → Type 0
Fors = After (λ t. is_mark P.LeftParen t.lexeme) (Both (Ended P.Semicolon ReadsFirst) (Both (Ended P.Semicolon ReadsMaybe) (Both (Ended P.RightParen ReadsStep) ReadsStmt)))

abbrev pub Spawns : List Placed → Ident × LExprs → ℕ → Type 0
Spawns = Both (One ident_of) (After (λ t. is_mark P.LeftParen t.lexeme) (Ended P.Semicolon Arguments))

abbrev pub Labels : List Placed → LStmt → ℕ → Type 0
Labels = Made label_of (Both (Ended P.Colon (One ident_of)) ReadsStmt)

-- behind a first token of the class, a node over the part
abbrev pub Behind : {A : Type 0} → Class → (Place → A → LStmt) → (List Placed → A → ℕ → Type 0) → List Placed → LStmt → ℕ → Type 0
Behind c make R = Headed lexeme (λ k. stmt_class k ≡ Some c) (λ t. Made (make t.place) R)

-- the statements of each class
abbrev pub Stmts : Class → List Placed → LStmt → ℕ → Type 0
Stmts Braced = Behind Braced block_of Blocked
Stmts Blank = Behind Blank empty_of Nothing
Stmts IfWord = Behind IfWord if_of Ifs
Stmts WhileWord = Behind WhileWord while_of (Both Tested ReadsStmt)
Stmts DoWord = Behind DoWord do_of Dos
Stmts ForWord = Behind ForWord for_of Fors
Stmts GotoWord = Behind GotoWord Goto (Ended P.Semicolon (One ident_of))
Stmts BreakWord = Behind BreakWord break_of (Expect (λ t. is_mark P.Semicolon t.lexeme))
Stmts ContinueWord = Behind ContinueWord continue_of (Expect (λ t. is_mark P.Semicolon t.lexeme))
Stmts ReturnWord = Behind ReturnWord Return (Ended P.Semicolon ReadsMaybe)
Stmts SpawnWord = Behind SpawnWord spawn_of Spawns
Stmts Sentence = Either Labels (Ended P.Semicolon ReadsSimple)
