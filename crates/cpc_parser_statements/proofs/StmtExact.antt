-- Statements are read exactly.
use Rattle.std.proofs.Common.{◌≡◌, ℕ, zero, suc, ◌≤◌, Bool, true, false, List, [], ◌∷◌, ◌++◌, Option, Some, None, max, refl, ap, ◌∙◌, arith, inl, inr}
use Rattle.cpc_num.specs.declared.kinds.Op.TheVariants as O
use Rattle.cpc_tree.specs.declared.token.Keyword.TheVariants as K
use Rattle.cpc_tree.specs.declared.token.Punctuator.TheVariants as P
use Rattle.cpc_tree.specs.Tokens.{Lexeme, Word, Mark, Named, Placed}
use Rattle.cpc_tree.specs.Located.{Ident, LExpr, LNamed, LStmt, Empty, Goto, Return, bare_stmt}
use Rattle.cpc_tree.specs.TypeGrammar.{mark, named}
use Rattle.cpc_tree.specs.ExprGrammar.{Postfix}
use Rattle.cpc_tree.specs.ExprGrammar as X
use Rattle.cpc_tree.specs.StmtGrammar.{dangles, stepped, ReadsSimple, ReadsFirst, ReadsMaybe, ReadsStep, ReadsStmt}
use Rattle.cpc_tree.specs.StmtGrammar as G
use Rattle.cpc_parser_reading.specs.Reading.{Reader, one, before, after, pair, either_two, below}
use Rattle.cpc_parser_reading.specs.Phrase.{One, After, Both, Mapped, Either}
use Rattle.cpc_parser_reading.specs.Operators.{Tailed, Trails}
use Rattle.cpc_parser_reading.specs.Exact.{Any, Stops, Opens, Exact, Branch}
use Rattle.cpc_parser_reading.proofs.Readers.{Apart, Over, after_branch, branch, exact_after, exact_as, exact_either, exact_expect, exact_made, exact_many, exact_mapped, exact_nothing, exact_one_of, exact_pair, exact_start, exact_tail, exact_two, headed_branch, last_all, opens_as, starts_mapped}
use Rattle.cpc_parser_types.specs.Views.{lexeme}
use Rattle.cpc_parser_types.specs.TypeReaders.{ident_of, is_name, starts_base}
use Rattle.cpc_parser_expressions.specs.ExprReaders.{args_at}
use Rattle.cpc_parser_statements.specs.StmtReaders.{test_at, Class, Braced, Blank, IfWord, WhileWord, DoWord, ForWord, GotoWord, BreakWord, ContinueWord, ReturnWord, SpawnWord, Sentence, stmt_class, stmt_low, Entry, Stated, Declares, entries_of, starts_entry, entry_by, block_by, block_of, empty_of, break_of, continue_of, if_of, while_of, do_of, for_of, spawn_of, label_of, sentence_at, label_by, if_by, for_by, stmt_part, stmt_by, statement_at, block_at, StmtEnd}
use Rattle.cpc_parser_expressions.proofs.ExprExact.{args_exact, any_joins}
use Rattle.cpc_parser_statements.proofs.Marks.{here, is_named, marks, words}
use Rattle.cpc_parser_statements.proofs.Ended.{Ended, exact_ended}
use Rattle.cpc_parser_statements.proofs.SimpleExact.{simply_solid, to_simply}
use Rattle.cpc_parser_statements.proofs.LocalExact.{local_exact, starts_local}
use Rattle.cpc_parser_statements.proofs.Parts.{Tested, local_semicolon, test_exact, maybe_exact, first_exact, last_exact, sentence_exact, starts_sentence}
use Rattle.cpc_parser_statements.proofs.Classes.{class_is, class_sentence, name_class, not_base, not_else}
use Rattle.cpc_parser_statements.proofs.Plain.{plain_simple, plain_apart}
use Rattle.cpc_parser_statements.proofs.Stmts.{Entries, of_entries, to_entries, Blocked, Closed, Ifs, Dos, Fors, Spawns, Labels, Stmts}
use Rattle.cpc_parser_statements.proofs.OfStmts.{of_stmts}
use Rattle.cpc_parser_statements.proofs.ToStmts.{to_stmts}
use Rattle.cpc_parser_statements.proofs.StmtStarts.{starts_ended, stmt_head, stmt_least, stmt_opens, starts_entries}
use Rattle.cpc_parser_types.specs.Begins.{is_mark, is_word}
use Rattle.cpc_parser_types.proofs.Bases.{name_exact}

-- what may stand behind what stands in a block
abbrev pub EntryEnd : Entry → Lexeme → Type 0
EntryEnd (Stated s) k = StmtEnd s k
EntryEnd (Declares v) k = Unit {0}

pub entry_next : (e : Entry) (k : Lexeme) → starts_entry k ≡ true → EntryEnd e k
entry_next (Stated s) k e = λ d. not_else k e
entry_next (Declares v) k e = tt

entry_ends : (e : Entry) → EntryEnd e (Mark P.RightBrace)
entry_ends (Stated s) = λ d. refl
entry_ends (Declares v) = tt

entries_end : (es : List Entry) → Over starts_entry EntryEnd es (Mark P.RightBrace)
entries_end es = (last_all EntryEnd es (Mark P.RightBrace) entry_ends, refl)

-- a statement begins with no type
stated_apart : (f : List Placed) (e : Entry) (h : ℕ) (rest : List Placed) → Mapped Stated ReadsStmt f e h → Stops lexeme (EntryEnd e) rest → Stops lexeme (λ k. starts_base k ≡ false) (f ++ rest)
stated_apart f e h rest (s, e1, r) q = let b = stmt_head f s h r in rw b.2 (not_base b.0.lexeme b.3)

-- an else behind an if belongs to it, if to none inside
closed_of : (b : Bool) (k : Lexeme) → is_word K.Else k ≡ true → (b ≡ true → is_word K.Else k ≡ false) → b ≡ false
closed_of false k e q = refl
closed_of true k e q = let n = q refl in absurd cc

open_else : (s : LStmt) (k : Lexeme) → Closed s → StmtEnd s k
open_else s k c d = absurd cc

if_to : (q : _) (w : LExpr × (LStmt × Option LStmt)) (k : Lexeme) → Trails (is_word K.Else) StmtEnd StmtEnd w.1 k → StmtEnd (if_of q w) k
if_to q (c, (s, None)) k t = λ d. t.1
if_to q (c, (s, Some l)) k t = t

if_from : (q : _) (w : LExpr × (LStmt × Option LStmt)) (k : Lexeme) → StmtEnd (if_of q w) k → Trails (is_word K.Else) StmtEnd StmtEnd w.1 k
if_from q (c, (s, None)) k t = (λ d. t refl, t refl)
if_from q (c, (s, Some l)) k t = t

-- a label and a sentence, told apart
label_begins : (f : List Placed) (v : LStmt) (h : ℕ) → Labels f v h → (t : Placed) × (u : Placed) × (g : List Placed) × (f ≡ t ∷ u ∷ g) × (is_name t.lexeme ≡ true) × (is_mark P.Colon u.lexeme ≡ true)
label_begins f v h (w, i, e, n, b) =
    let (g, r, e1, (t, e2, p, z)) = b.first in
    (t, mark r P.Colon, b.right, b.whole ∙ ap (λ u. u ++ b.right) (e1 ∙ ap (λ u. u ++ mark r P.Colon ∷ []) e2), is_named t w.0 p, refl)

sentence_apart : (f : List Placed) (v : LStmt) (h : ℕ) (rest : List Placed) → Ended P.Semicolon ReadsSimple f v h → Apart lexeme is_name (λ k l. is_mark P.Colon l) (f ++ rest)
sentence_apart f v h rest (g, r, e, x) = rw e (plain_apart g rest (mark r P.Semicolon) (plain_simple g v h x) refl)

sentence_solid : (f : List Placed) (v : LStmt) (h : ℕ) → Ended P.Semicolon ReadsSimple f v h → (t : Placed) × (g : List Placed) × (f ≡ t ∷ g) × (is_name t.lexeme ≡ true → 2 ≤ h)
sentence_solid f v h (g, r, e, x) =
    let s = to_simply g v h x in
    let b = simply_solid g s.0 h s.2 in
    (b.0, b.1 ++ mark r P.Semicolon ∷ [], e ∙ ap (λ u. u ++ mark r P.Semicolon ∷ []) b.2, b.3)

named_label : (q : _) (k : Lexeme) → is_name k ≡ true → Opens Labels 2 (record { place = q; lexeme = k } ∷ [])
named_label q (Named x) e = let y : Ident = record { place = q; text = x } in record {
  rest = mark here P.Colon ∷ mark here P.Semicolon ∷ [];
  value = label_of (y, Empty here);
  nest = 2;
  reads = ((y, Empty here), 1, refl, refl, record { left = named y ∷ mark here P.Colon ∷ []; right = mark here P.Semicolon ∷ []; i = 0; j = 1; whole = refl; nest = refl; first = (named y ∷ [], here, refl, (named y, refl, refl, refl)); second = G.empty here });
  fits = omega arith;
}
named_label q k e = absurd cc

named_sentence : (q : _) (k : Lexeme) → is_name k ≡ true → Opens (Ended P.Semicolon ReadsSimple) 2 (record { place = q; lexeme = k } ∷ [])
named_sentence q (Named x) e = let y : Ident = record { place = q; text = x } in record {
  rest = mark here P.Increment ∷ mark here P.Semicolon ∷ [];
  value = stepped q here (LNamed y) O.Add;
  nest = 2;
  reads = (named y ∷ mark here P.Increment ∷ [], here, refl, G.stepped_behind (named y ∷ []) here P.Increment O.Add (LNamed y) 1 (X.a_primary (named y ∷ []) (LNamed y) 1 (X.a_name y)) refl);
  fits = omega arith;
}
named_sentence q k e = absurd cc

-- either begins a sentence's class
either_head : (f : List Placed) (v : LStmt) (h : ℕ) → Either Labels (Ended P.Semicolon ReadsSimple) f v h → (t : Placed) × (g : List Placed) × (f ≡ t ∷ g) × (stmt_class t.lexeme ≡ Some Sentence)
either_head f v h (inl r) = let b = label_begins f v h r in (b.0, b.1 ∷ b.2, b.3, name_class b.0.lexeme b.4)
either_head f v h (inr r) = let b = starts_sentence.head f v h r in (b.0, b.1, b.2, class_sentence b.0.lexeme b.3)

either_each : (t : Placed) → stmt_class t.lexeme ≡ Some Sentence → (m : ℕ) × Opens (Either Labels (Ended P.Semicolon ReadsSimple)) m (t ∷ [])
either_each t e = let k = starts_sentence.each t (class_is t.lexeme Sentence e) in (k.0, opens_as (λ f v h r. inr r) k.1)

lowest : (c : Class) → 1 ≤ stmt_low c
lowest Braced = omega arith
lowest Blank = omega arith
lowest IfWord = omega arith
lowest WhileWord = omega arith
lowest DoWord = omega arith
lowest ForWord = omega arith
lowest GotoWord = omega arith
lowest BreakWord = omega arith
lowest ContinueWord = omega arith
lowest ReturnWord = omega arith
lowest SpawnWord = omega arith
lowest Sentence = omega arith

while_no_else : (k : Lexeme) → is_word K.While k ≡ true → is_word K.Else k ≡ false
while_no_else (Word K.While) e = refl
while_no_else k e = absurd cc

-- while may stand behind each statement
while_joins : {B : Type 0} (S : List Placed → B → ℕ → Type 0) (P : B → Lexeme → Type 0) (u : LStmt) (g : List Placed) (v : B) (h : ℕ) (rest : List Placed) → After (λ t. is_word K.While t.lexeme) S g v h → Stops lexeme (P v) rest
    → Stops lexeme (StmtEnd u) (g ++ rest)
while_joins S P u g v h rest (t, k, e, p, r) s = rw e (λ d. while_no_else t.lexeme p)

module _ (n : ℕ) (z : Exact lexeme n 1 (λ d. statement_at d) ReadsStmt StmtEnd) where
  abbrev pub stm : ℕ → Reader Placed LStmt
  stm d ts = statement_at d ts

  pub entry_exact : Exact lexeme n 1 (λ d. entry_by (stm d) d) Entries EntryEnd
  entry_exact = exact_either
      (branch (starts_mapped (starts_ended P.Semicolon starts_local) Declares) (exact_mapped Declares EntryEnd (exact_ended (local_exact n) P.Semicolon local_semicolon) (λ w k q. tt) (λ w k q. tt)))
      (exact_mapped Stated EntryEnd z (λ w k q. q) (λ w k q. q)) (omega arith) stated_apart

  block_some : Exact lexeme n 0 (λ d. block_by (stm d) d) Blocked Any
  block_some = exact_as (exact_mapped entries_of Any (exact_ended (exact_many (branch starts_entries entry_exact) entry_next) P.RightBrace entries_end) (λ w k q. tt) (λ w k q. tt)) (λ d ts a b. refl)
      (λ f v h (es, e, (g, r, e1, x)). (g, r, e1, rw e (of_entries g es h x)))
      (λ f v h (g, r, e, x). let k = to_entries g v h x in (k.0, k.1, (g, r, e, k.2)))

  if_exact : Exact lexeme n 1 (λ d. if_by (stm d) d) Ifs (λ w. Trails (is_word K.Else) StmtEnd StmtEnd w.1)
  if_exact = exact_pair (test_exact n) (exact_tail Closed z (after_branch (words K.Else) z) (omega arith) (λ s k e c. open_else s k c) (λ s k e q. closed_of (dangles (bare_stmt s)) k e q))
      (any_joins (Tailed (λ h j. max h j) ReadsStmt Closed (After (λ t. is_word K.Else t.lexeme) ReadsStmt)) (Trails (is_word K.Else) StmtEnd StmtEnd))

  while_exact : Exact lexeme n 1 (λ d. pair (test_at d) (stm d)) (Both Tested ReadsStmt) (λ w. StmtEnd w.1)
  while_exact = exact_pair (test_exact n) z (any_joins ReadsStmt StmtEnd)

  do_exact : Exact lexeme n 1 (λ d. pair (stm d) (after (λ u. is_word K.While u.lexeme) (before (test_at d) (λ u. is_mark P.Semicolon u.lexeme)))) Dos (λ w. Any w.1)
  do_exact = exact_pair z (exact_after (words K.While) (exact_ended (test_exact n) P.Semicolon (λ v. tt))) (while_joins (Ended P.Semicolon Tested) Any)

  for_exact : Exact lexeme n 1 (λ d. for_by (stm d) d) Fors (λ w. StmtEnd w.1.1.1)
  for_exact = exact_after (marks P.LeftParen) (exact_pair (first_exact n) (exact_pair (maybe_exact n) (exact_pair (last_exact n) z (any_joins ReadsStmt StmtEnd)) (any_joins _ (λ w. StmtEnd w.1))) (any_joins _ (λ w. StmtEnd w.1.1)))

  goto_exact : Exact lexeme n 0 (λ d. before (one ident_of) (λ u. is_mark P.Semicolon u.lexeme)) (Ended P.Semicolon (One ident_of)) Any
  goto_exact = exact_ended (name_exact n) P.Semicolon (λ v. tt)

  spawn_exact : Exact lexeme n 0 (λ d. pair (one ident_of) (after (λ u. is_mark P.LeftParen u.lexeme) (before (args_at d) (λ u. is_mark P.Semicolon u.lexeme)))) Spawns (λ w. Any w.1)
  spawn_exact = exact_pair (name_exact n) (exact_after (marks P.LeftParen) (exact_ended (args_exact n) P.Semicolon (λ v. tt))) (any_joins _ Any)

  label_exact : Exact lexeme (suc n) 2 (λ d. label_by (stm (below d))) Labels StmtEnd
  label_exact = exact_made label_of StmtEnd (exact_pair (exact_ended (name_exact n) P.Colon (λ v. tt)) z (any_joins ReadsStmt StmtEnd)) (λ w k q. q) (λ w k q. q)

  either_exact : Exact lexeme (suc n) 1 (λ d. either_two (λ t. is_name t.lexeme) (λ t u. is_mark P.Colon u.lexeme) 2 d (label_by (stm (below d))) (sentence_at d)) (Either Labels (Ended P.Semicolon ReadsSimple)) StmtEnd
  either_exact = exact_two is_name (λ k l. is_mark P.Colon l) label_exact (sentence_exact (suc n)) (omega arith) label_begins (λ f v h rest r s. sentence_apart f v h rest r)
      (λ t e. named_label t.place t.lexeme e) (λ t e. named_sentence t.place t.lexeme e) sentence_solid

  stmt_branches : (c : Class) → Branch lexeme (λ k. stmt_class k ≡ Some c) (suc n) (stmt_low c) (λ d. stmt_part (stm (below d)) d c) (Stmts c) StmtEnd
  stmt_branches Braced = headed_branch (λ t e. exact_made (block_of t.place) StmtEnd block_some (λ w k q d. absurd cc) (λ w k q. tt))
  stmt_branches Blank = headed_branch (λ t e. exact_made (empty_of t.place) StmtEnd (exact_nothing n) (λ w k q d. absurd cc) (λ w k q. tt))
  stmt_branches IfWord = headed_branch (λ t e. exact_made (if_of t.place) StmtEnd if_exact (if_to t.place) (if_from t.place))
  stmt_branches WhileWord = headed_branch (λ t e. exact_made (while_of t.place) StmtEnd while_exact (λ w k q. q) (λ w k q. q))
  stmt_branches DoWord = headed_branch (λ t e. exact_made (do_of t.place) StmtEnd do_exact (λ w k q d. absurd cc) (λ w k q. tt))
  stmt_branches ForWord = headed_branch (λ t e. exact_made (for_of t.place) StmtEnd for_exact (λ w k q. q) (λ w k q. q))
  stmt_branches GotoWord = headed_branch (λ t e. exact_made (Goto t.place) StmtEnd goto_exact (λ w k q d. absurd cc) (λ w k q. tt))
  stmt_branches BreakWord = headed_branch (λ t e. exact_made (break_of t.place) StmtEnd (exact_expect n (marks P.Semicolon)) (λ w k q d. absurd cc) (λ w k q. tt))
  stmt_branches ContinueWord = headed_branch (λ t e. exact_made (continue_of t.place) StmtEnd (exact_expect n (marks P.Semicolon)) (λ w k q d. absurd cc) (λ w k q. tt))
  stmt_branches ReturnWord = headed_branch (λ t e. exact_made (Return t.place) StmtEnd (maybe_exact n) (λ w k q d. absurd cc) (λ w k q. tt))
  stmt_branches SpawnWord = headed_branch (λ t e. exact_made (spawn_of t.place) StmtEnd spawn_exact (λ w k q d. absurd cc) (λ w k q. tt))
  stmt_branches Sentence = branch (record { head = either_head; each = either_each }) either_exact

  stmt_some : Exact lexeme (suc n) 1 (λ d. stmt_by (stm (below d)) d) ReadsStmt StmtEnd
  stmt_some = exact_as (exact_one_of stmt_class stmt_branches lowest (opens_as to_stmts stmt_opens)) (λ d ts a b. refl) of_stmts to_stmts

statement_is : (d : ℕ) (ts : List Placed) → 1 ≤ d → stmt_by (λ us. statement_at (below d) us) d ts ≡ statement_at d ts
unfolding statement_at
statement_is zero ts a = absurd (omega arith)
statement_is (suc d) ts a = refl

-- Statements are read exactly, with any room.
pub statement_exact : (n : ℕ) → Exact lexeme n 1 (λ d. statement_at d) ReadsStmt StmtEnd
statement_exact zero = exact_start (λ d. statement_at d) StmtEnd (omega arith) stmt_opens stmt_least
statement_exact (suc n) = exact_as (stmt_some n (statement_exact n)) (λ d ts a b. statement_is d ts a) (λ f v h q. q) (λ f v h q. q)

-- What stands between the braces of a block is read exactly, and the closing one.
pub block_exact : (n : ℕ) → Exact lexeme n 0 (λ d. block_at d) Blocked Any
block_exact n = block_some n (statement_exact n)
