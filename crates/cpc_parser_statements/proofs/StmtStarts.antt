-- How statements and the parts of a block begin.
use Rattle.std.proofs.Common.{◌≡◌, ℕ, ◌≤◌, true, List, [], ◌∷◌, ◌++◌, None, refl, ap, ◌∙◌, arith}
use Rattle.cpc_base.specs.declared.stop.Place.{Place}
use Rattle.cpc_base.proofs.Truth.{or_by_either, or_either}
use Rattle.cpc_tree.specs.declared.token.Keyword.TheVariants as K
use Rattle.cpc_tree.specs.declared.token.Punctuator.{Punctuator}
use Rattle.cpc_tree.specs.declared.token.Punctuator.TheVariants as P
use Rattle.cpc_tree.specs.Tokens.{Lexeme, Placed}
use Rattle.cpc_tree.specs.Located.{Ident, LNamed, NoLExpr, LStmt, Block, Empty, NoLStmt}
use Rattle.cpc_tree.specs.TypeGrammar.{word, mark, named}
use Rattle.cpc_tree.specs.ExprGrammar.{Whole, Postfix, Reads, no_args}
use Rattle.cpc_tree.specs.ExprGrammar as X
use Rattle.cpc_tree.specs.StmtGrammar.{ReadsSimple, ReadsStmt}
use Rattle.cpc_tree.specs.StmtGrammar as G
use Rattle.cpc_parser_reading.specs.Exact.{Opens, Starts}
use Rattle.cpc_parser_reading.proofs.Readers.{starts_as, starts_either, starts_mapped}
use Rattle.cpc_parser_types.specs.Views.{lexeme}
use Rattle.cpc_parser_types.specs.TypeReaders.{starts_base}
use Rattle.cpc_parser_statements.specs.SimpleReaders.{stmt_of}
use Rattle.cpc_parser_statements.specs.StmtReaders.{Class, Braced, Blank, IfWord, WhileWord, DoWord, ForWord, GotoWord, BreakWord, ContinueWord, ReturnWord, SpawnWord, Sentence, starts_stmt, Stated, Declares, starts_entry}
use Rattle.cpc_parser_statements.proofs.Marks.{here}
use Rattle.cpc_parser_expressions.proofs.Sorts.{from_postfix}
use Rattle.cpc_parser_statements.proofs.SimpleExact.{starts_simply, of_simply, to_simply, simple_exact}
use Rattle.cpc_parser_statements.proofs.LocalExact.{starts_local}
use Rattle.cpc_parser_statements.proofs.Ended.{Ended}
use Rattle.cpc_parser_statements.proofs.Classes.{Is, class_is, class_sentence, class_of, starts_of}
use Rattle.cpc_parser_statements.proofs.Stmts.{Entries}

-- a part with its mark begins as the part does
pub starts_ended : {A : Type 0} {Q : Lexeme → Type 0} {R : List Placed → A → ℕ → Type 0} (p : Punctuator) → Starts lexeme Q R → Starts lexeme Q (Ended p R)
starts_ended p s = record {
  head = λ f v h (g, r, e, x). let b = s.head g v h x in (b.0, b.1 ++ mark r p ∷ [], e ∙ ap (λ u. u ++ mark r p ∷ []) b.2, b.3);
  each = λ t e. let k = s.each t e in let o = k.1 in (k.0, record { rest = o.rest ++ mark here p ∷ []; value = o.value; nest = o.nest; reads = (t ∷ o.rest, here, refl, o.reads); fits = o.fits });
}

simple_head : (f : List Placed) (v : LStmt) (h : ℕ) → ReadsSimple f v h → (t : Placed) × (g : List Placed) × (f ≡ t ∷ g) × (starts_stmt t.lexeme ≡ true)
simple_head f v h r = let s = to_simply f v h r in let b = starts_simply.head f s.0 h s.2 in (b.0, b.1, b.2, starts_of b.0.lexeme Sentence (class_sentence b.0.lexeme b.3))

pub stmt_head : (f : List Placed) (v : LStmt) (h : ℕ) → ReadsStmt f v h → (t : Placed) × (g : List Placed) × (f ≡ t ∷ g) × (starts_stmt t.lexeme ≡ true)
stmt_head f v h (G.block g q r ss i x) = (mark q P.LeftBrace, _, refl, refl)
stmt_head f v h (G.empty q) = (mark q P.Semicolon, [], refl, refl)
stmt_head f v h (G.simple g q s i r) = let b = simple_head g s i r in (b.0, b.1 ++ mark q P.Semicolon ∷ [], ap (λ u. u ++ mark q P.Semicolon ∷ []) b.2, b.3)
stmt_head f v h (G.labelled g q x s i r) = (named x, _, refl, refl)
stmt_head f v h (G.if_alone g k q r t c s i j x y) = (word q K.If, _, refl, refl)
stmt_head f v h (G.if_else g k l q r t u c s y i j m x z d b) = (word q K.If, _, refl, refl)
stmt_head f v h (G.while g k q r t c s i j x y) = (word q K.While, _, refl, refl)
stmt_head f v h (G.do_while g k q r t u w s c i j x y) = (word q K.Do, _, refl, refl)
stmt_head f v h (G.for g k l m q r t u w ss o p s a b c d x y z e) = (word q K.For, _, refl, refl)
stmt_head f v h (G.goto q r x) = (word q K.Goto, _, refl, refl)
stmt_head f v h (G.break q r) = (word q K.Break, _, refl, refl)
stmt_head f v h (G.continue q r) = (word q K.Continue, _, refl, refl)
stmt_head f v h (G.return g q r o i x) = (word q K.Return, _, refl, refl)
stmt_head f v h (G.spawn g q r s t x vs i a) = (word q K.CpcSpawn, _, refl, refl)

pub stmt_least : (f : List Placed) (v : LStmt) (h : ℕ) → ReadsStmt f v h → 1 ≤ h
stmt_least f v h (G.block g q r ss i x) = omega arith
stmt_least f v h (G.empty q) = omega arith
stmt_least f v h (G.simple g q s i r) = let k = to_simply g s i r in (simple_exact 0).least g k.0 i k.2
stmt_least f v h (G.labelled g q x s i r) = omega arith
stmt_least f v h (G.if_alone g k q r t c s i j x y) = omega arith
stmt_least f v h (G.if_else g k l q r t u c s y i j m x z d b) = omega arith
stmt_least f v h (G.while g k q r t c s i j x y) = omega arith
stmt_least f v h (G.do_while g k q r t u w s c i j x y) = omega arith
stmt_least f v h (G.for g k l m q r t u w ss o p s a b c d x y z e) = omega arith
stmt_least f v h (G.goto q r x) = omega arith
stmt_least f v h (G.break q r) = omega arith
stmt_least f v h (G.continue q r) = omega arith
stmt_least f v h (G.return g q r o i x) = omega arith
stmt_least f v h (G.spawn g q r s t x vs i a) = omega arith

-- short texts of each class: a name, a semicolon
abbrev pub some_name : Ident
some_name = record { place = here; text = [] }

pub name_reads : Reads Whole (named some_name ∷ []) (LNamed some_name) 1
name_reads = from_postfix Whole (named some_name ∷ []) (LNamed some_name) 1 tt (X.a_primary (named some_name ∷ []) (LNamed some_name) 1 (X.a_name some_name))

abbrev stop : List Placed
stop = mark here P.Semicolon ∷ []

stop_reads : ReadsStmt stop (Empty here) 1
stop_reads = G.empty here

pub stmt_opens : Opens ReadsStmt 1 []
stmt_opens = record { rest = stop; value = Empty here; nest = 1; reads = stop_reads; fits = omega arith }

-- a statement of this list
starting : (t : Placed) (g : List Placed) (v : LStmt) (h : ℕ) → ReadsStmt (t ∷ g) v h → (m : ℕ) × Opens ReadsStmt m (t ∷ [])
starting t g v h r = (h, record { rest = g; value = v; nest = h; reads = r; fits = omega arith })

sentence_each : (t : Placed) → Is Sentence t.lexeme → (m : ℕ) × Opens ReadsStmt m (t ∷ [])
sentence_each t e =
    let k = starts_simply.each t e in
    let o = k.1 in
    starting t (o.rest ++ stop) (stmt_of o.value) o.nest (G.simple (t ∷ o.rest) here (stmt_of o.value) o.nest (of_simply (t ∷ o.rest) o.value o.nest o.reads))

class_each : (q : Place) (k : Lexeme) (c : Class) → Is c k → (m : ℕ) × Opens ReadsStmt m (record { place = q; lexeme = k } ∷ [])
class_each q k Braced e = rw e (starting (mark q P.LeftBrace) (mark here P.RightBrace ∷ []) (Block q NoLStmt) 1 (G.block [] q here [] 0 G.no_part))
class_each q k Blank e = rw e (starting (mark q P.Semicolon) [] (Empty q) 1 (G.empty q))
class_each q k IfWord e = rw e (starting (word q K.If) _ _ 2 (G.if_alone (named some_name ∷ []) stop q here here (LNamed some_name) (Empty here) 1 1 name_reads stop_reads))
class_each q k WhileWord e = rw e (starting (word q K.While) _ _ 2 (G.while (named some_name ∷ []) stop q here here (LNamed some_name) (Empty here) 1 1 name_reads stop_reads))
class_each q k DoWord e = rw e (starting (word q K.Do) _ _ 2 (G.do_while stop (named some_name ∷ []) q here here here here (Empty here) (LNamed some_name) 1 1 stop_reads name_reads))
class_each q k ForWord e = rw e (starting (word q K.For) _ _ 2 (G.for [] [] [] stop q here here here here [] None None (Empty here) 0 0 0 1 G.no_first G.no_value G.no_step stop_reads))
class_each q k GotoWord e = rw e (starting (word q K.Goto) _ _ 1 (G.goto q here some_name))
class_each q k BreakWord e = rw e (starting (word q K.Break) _ _ 1 (G.break q here))
class_each q k ContinueWord e = rw e (starting (word q K.Continue) _ _ 1 (G.continue q here))
class_each q k ReturnWord e = rw e (starting (word q K.Return) _ _ 1 (G.return [] q here None 0 G.no_value))
class_each q k SpawnWord e = rw e (starting (word q K.CpcSpawn) _ _ 1 (G.spawn [] q here here here some_name NoLExpr 0 no_args))
class_each q k Sentence e = sentence_each (record { place = q; lexeme = k }) e

stmt_each : (t : Placed) → starts_stmt t.lexeme ≡ true → (m : ℕ) × Opens ReadsStmt m (t ∷ [])
stmt_each t e = let c = class_of t.lexeme e in class_each t.place t.lexeme c.0 (class_is t.lexeme c.0 c.1)

pub starts_stmts : Starts lexeme (λ k. starts_stmt k ≡ true) ReadsStmt
starts_stmts = record { head = stmt_head; each = stmt_each }

-- what stands in a block begins with a type or a statement
pub starts_entries : Starts lexeme (λ k. starts_entry k ≡ true) Entries
starts_entries = starts_as (starts_either (starts_mapped (starts_ended P.Semicolon starts_local) Declares) (starts_mapped starts_stmts Stated)) (λ k e. or_by_either (starts_base k) (starts_stmt k) e)
    (λ k e. or_either (starts_base k) (starts_stmt k) e) (λ f v h q. q) (λ f v h q. q)
