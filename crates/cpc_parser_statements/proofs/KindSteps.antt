-- How the code of each kind of statement follows its reader, part behind part.
use Rattle.std.proofs.Common.{◌≡◌, ℕ, ◌+◌, ◌-◌, ◌≤◌, true, false, List, [], ◌∷◌, Option, Some, None, max, Result, refl, ap, ◌∙◌}
use Rattle.std.specs.Result.{IsErrAnd}
use Rattle.std.proofs.lemmas.Result.{err_from_is_err_and}
use Rattle.cpc_base.specs.declared.stop.Place.{Place}
use Rattle.cpc_tree.specs.declared.token.Keyword.TheVariants as K
use Rattle.cpc_tree.specs.declared.token.Punctuator.TheVariants as P
use Rattle.cpc_tree.specs.Tokens.{Placed}
use Rattle.cpc_tree.specs.Located.{Ident, LExpr, LStmt}
use Rattle.cpc_parser_reading.specs.Reading.{Reading, Read, Fault, Deep, ◌>>=◌, after, before, expect, one}
use Rattle.cpc_parser_reading.specs.Lists.{many}
use Rattle.cpc_parser_reading.specs.Operators.{tail_from}
use Rattle.cpc_parser_types.specs.declared.refusal.Refusal as GRefusal
use Rattle.cpc_parser_types.specs.declared.refusal.Refusal.TheVariants as R
use Rattle.cpc_parser_types.specs.Views.{Gives}
use Rattle.cpc_parser_types.specs.TypeReaders.{ident_of}
use Rattle.cpc_parser_types.specs.Begins.{is_mark, is_word, begins_name, begins_word}
use Rattle.cpc_parser_statements.specs.StmtReaders.{test_at, maybe_at, first_at, last_at, starts_entry, entries_of, entry_by, block_of, if_of, while_of, do_of, for_of, label_of, sentence_at, statement_at}
use Rattle.cpc_parser_statements.specs.CodeViews.{block_in, if_in, while_in, do_in, for_in, labelled_at, begins_label, entries_at}
use Rattle.cpc_parser_statements.proofs.StmtSteps.{mapped_before, labelled_label, no_else, an_else}

-- want of memory that came through an early return
pub memory_through : {Y A : Type 0} (view : Y → A × ℕ × List Placed) (x : Result Y GRefusal.Refusal) (e : GRefusal.Refusal) (s : Reading Placed A) → IsErrAnd x (λ y. y ≡ e) → e ≡ R.Memory → Gives view x s
memory_through view x e s i m = let p = err_from_is_err_and x i in rw (p.1, p.2, m) tt

-- what was read, by the names that the code has for it
pub read_as : {A : Type 0} (s : Reading Placed A) (v w : A) (h k : ℕ) (ts : List Placed) → s ≡ Read (v, h, ts) → w ≡ v → k ≡ h → s ≡ Read (w, k, ts)
read_as s v w h k ts e i j = rw (i, j) e

-- A while: its test and its body.
abbrev pub while_body : Place → ℕ → LExpr × ℕ × List Placed → Reading Placed LStmt
while_body q d x = statement_at d x.2 >>= λ y. Read (while_of q (x.0, y.0), max x.1 y.1 + 1, y.2)

module _ (q : Place) (d : ℕ) where
  while_by_body : (v : LExpr) (h : ℕ) (r : Reading Placed LStmt) → ((r >>= λ y. Read ((v, y.0), max h y.1, y.2)) >>= λ z. Read (while_of q z.0, z.1 + 1, z.2)) ≡ (r >>= λ y. Read (while_of q (v, y.0), max h y.1 + 1, y.2))
  while_by_body v h (Read y) = refl
  while_by_body v h (Fault left) = refl
  while_by_body v h (Deep left) = refl

  while_by_test : (r : Reading Placed LExpr) → ((r >>= λ x. statement_at d x.2 >>= λ y. Read ((x.0, y.0), max x.1 y.1, y.2)) >>= λ z. Read (while_of q z.0, z.1 + 1, z.2)) ≡ (r >>= λ x. while_body q d x)
  while_by_test (Read x) = while_by_body x.0 x.1 (statement_at d x.2)
  while_by_test (Fault left) = refl
  while_by_test (Deep left) = refl

  pub while_steps : (ts : List Placed) → while_in q d ts ≡ (test_at d ts >>= λ x. while_body q d x)
  while_steps ts = while_by_test (test_at d ts)

-- A do: its body, its word, its test and its semicolon.
abbrev pub do_end : Place → LStmt × ℕ × List Placed → LExpr × ℕ × List Placed → Reading Placed LStmt
do_end q x v = expect (λ t. is_mark P.Semicolon t.lexeme) v.2 >>= λ e. Read (do_of q (x.0, v.0), max x.1 v.1 + 1, e.2)

abbrev pub do_test : Place → ℕ → LStmt × ℕ × List Placed → Unit {0} × ℕ × List Placed → Reading Placed LStmt
do_test q d x a = test_at d a.2 >>= λ v. do_end q x v

abbrev pub do_word : Place → ℕ → LStmt × ℕ × List Placed → Reading Placed LStmt
do_word q d x = expect (λ t. is_word K.While t.lexeme) x.2 >>= λ a. do_test q d x a

module _ (q : Place) (d : ℕ) where
  do_by_end : (x : LStmt × ℕ × List Placed) (v : LExpr) (h : ℕ) (r : Reading Placed (Unit {0}))
      → (((r >>= λ e. Read (v, h, e.2)) >>= λ y. Read ((x.0, y.0), max x.1 y.1, y.2)) >>= λ z. Read (do_of q z.0, z.1 + 1, z.2)) ≡ (r >>= λ e. Read (do_of q (x.0, v), max x.1 h + 1, e.2))
  do_by_end x v h (Read e) = refl
  do_by_end x v h (Fault left) = refl
  do_by_end x v h (Deep left) = refl

  do_by_test : (x : LStmt × ℕ × List Placed) (r : Reading Placed LExpr)
      → (((r >>= λ v. expect (λ t. is_mark P.Semicolon t.lexeme) v.2 >>= λ e. Read (v.0, v.1, e.2)) >>= λ y. Read ((x.0, y.0), max x.1 y.1, y.2)) >>= λ z. Read (do_of q z.0, z.1 + 1, z.2)) ≡ (r >>= λ v. do_end q x v)
  do_by_test x (Read v) = do_by_end x v.0 v.1 (expect (λ t. is_mark P.Semicolon t.lexeme) v.2)
  do_by_test x (Fault left) = refl
  do_by_test x (Deep left) = refl

  do_by_word : (x : LStmt × ℕ × List Placed) (r : Reading Placed (Unit {0}))
      → (((r >>= λ a. before (test_at d) (λ t. is_mark P.Semicolon t.lexeme) a.2) >>= λ y. Read ((x.0, y.0), max x.1 y.1, y.2)) >>= λ z. Read (do_of q z.0, z.1 + 1, z.2)) ≡ (r >>= λ a. do_test q d x a)
  do_by_word x (Read a) = do_by_test x (test_at d a.2)
  do_by_word x (Fault left) = refl
  do_by_word x (Deep left) = refl

  do_by_body : (r : Reading Placed LStmt)
      → ((r >>= λ x. after (λ t. is_word K.While t.lexeme) (before (test_at d) (λ t. is_mark P.Semicolon t.lexeme)) x.2 >>= λ y. Read ((x.0, y.0), max x.1 y.1, y.2)) >>= λ z. Read (do_of q z.0, z.1 + 1, z.2)) ≡ (r >>= λ x. do_word q d x)
  do_by_body (Read x) = do_by_word x (expect (λ t. is_word K.While t.lexeme) x.2)
  do_by_body (Fault left) = refl
  do_by_body (Deep left) = refl

  pub do_steps : (ts : List Placed) → do_in q d ts ≡ (statement_at d ts >>= λ x. do_word q d x)
  do_steps ts = do_by_body (statement_at d ts)

-- An if: its test, its statement, and what may follow.
abbrev pub if_else : Place → ℕ → LExpr × ℕ × List Placed → LStmt × ℕ × List Placed → Unit {0} × ℕ × List Placed → Reading Placed LStmt
if_else q d x s a = statement_at d a.2 >>= λ y. Read (if_of q (x.0, (s.0, Some y.0)), max x.1 (max s.1 y.1) + 1, y.2)

abbrev pub if_behind : Place → ℕ → LExpr × ℕ × List Placed → LStmt × ℕ × List Placed → Reading Placed LStmt
if_behind q d x s = tail_from (λ t. is_word K.Else t.lexeme) (λ h. false) (λ h j. max h j) (after (λ t. is_word K.Else t.lexeme) (λ us. statement_at d us)) s.0 s.1 s.2 >>= λ y. Read (if_of q (x.0, y.0), max x.1 y.1 + 1, y.2)

abbrev pub if_yes : Place → ℕ → LExpr × ℕ × List Placed → Reading Placed LStmt
if_yes q d x = statement_at d x.2 >>= λ s. if_behind q d x s

module _ (q : Place) (d : ℕ) where
  if_by_behind : (v : LExpr) (h : ℕ) (r : Reading Placed (LStmt × Option LStmt))
      → ((r >>= λ y. Read ((v, y.0), max h y.1, y.2)) >>= λ z. Read (if_of q z.0, z.1 + 1, z.2)) ≡ (r >>= λ y. Read (if_of q (v, y.0), max h y.1 + 1, y.2))
  if_by_behind v h (Read y) = refl
  if_by_behind v h (Fault left) = refl
  if_by_behind v h (Deep left) = refl

  if_by_yes : (x : LExpr × ℕ × List Placed) (r : Reading Placed LStmt)
      → (((r >>= λ s. tail_from (λ t. is_word K.Else t.lexeme) (λ h. false) (λ h j. max h j) (after (λ t. is_word K.Else t.lexeme) (λ us. statement_at d us)) s.0 s.1 s.2) >>= λ y. Read ((x.0, y.0), max x.1 y.1, y.2)) >>= λ z. Read (if_of q z.0, z.1 + 1, z.2)) ≡ (r >>= λ s. if_behind q d x s)
  if_by_yes x (Read s) = if_by_behind x.0 x.1 (tail_from (λ t. is_word K.Else t.lexeme) (λ h. false) (λ h j. max h j) (after (λ t. is_word K.Else t.lexeme) (λ us. statement_at d us)) s.0 s.1 s.2)
  if_by_yes x (Fault left) = refl
  if_by_yes x (Deep left) = refl

  if_by_test : (r : Reading Placed LExpr)
      → ((r >>= λ x. (statement_at d x.2 >>= λ s. tail_from (λ t. is_word K.Else t.lexeme) (λ h. false) (λ h j. max h j) (after (λ t. is_word K.Else t.lexeme) (λ us. statement_at d us)) s.0 s.1 s.2) >>= λ y. Read ((x.0, y.0), max x.1 y.1, y.2)) >>= λ z. Read (if_of q z.0, z.1 + 1, z.2)) ≡ (r >>= λ x. if_yes q d x)
  if_by_test (Read x) = if_by_yes x (statement_at d x.2)
  if_by_test (Fault left) = refl
  if_by_test (Deep left) = refl

  pub if_steps : (ts : List Placed) → if_in q d ts ≡ (test_at d ts >>= λ x. if_yes q d x)
  if_steps ts = if_by_test (test_at d ts)

  pub if_alone : (x : LExpr × ℕ × List Placed) (s : LStmt × ℕ × List Placed) (r : Reading Placed LStmt) → r ≡ if_behind q d x s → begins_word K.Else s.2 ≡ false → r ≡ Read (if_of q (x.0, (s.0, None)), max x.1 s.1 + 1, s.2)
  if_alone x s r e i = e ∙ ap (λ u. u >>= λ y. Read (if_of q (x.0, y.0), max x.1 y.1 + 1, y.2)) (no_else d s.0 s.1 s.2 i)

  if_by_no : (x : LExpr × ℕ × List Placed) (s : LStmt × ℕ × List Placed) (r : Reading Placed LStmt)
      → ((r >>= λ y. Read ((s.0, Some y.0), max s.1 y.1, y.2)) >>= λ y. Read (if_of q (x.0, y.0), max x.1 y.1 + 1, y.2)) ≡ (r >>= λ y. Read (if_of q (x.0, (s.0, Some y.0)), max x.1 (max s.1 y.1) + 1, y.2))
  if_by_no x s (Read y) = refl
  if_by_no x s (Fault left) = refl
  if_by_no x s (Deep left) = refl

  if_by_word : (x : LExpr × ℕ × List Placed) (s : LStmt × ℕ × List Placed) (r : Reading Placed (Unit {0}))
      → (((r >>= λ a. statement_at d a.2) >>= λ y. Read ((s.0, Some y.0), max s.1 y.1, y.2)) >>= λ y. Read (if_of q (x.0, y.0), max x.1 y.1 + 1, y.2)) ≡ (r >>= λ a. if_else q d x s a)
  if_by_word x s (Read a) = if_by_no x s (statement_at d a.2)
  if_by_word x s (Fault left) = refl
  if_by_word x s (Deep left) = refl

  pub if_on : (x : LExpr × ℕ × List Placed) (s : LStmt × ℕ × List Placed) (r : Reading Placed LStmt) → r ≡ if_behind q d x s → begins_word K.Else s.2 ≡ true → r ≡ (expect (λ t. is_word K.Else t.lexeme) s.2 >>= λ a. if_else q d x s a)
  if_on x s r e i = e ∙ (ap (λ u. u >>= λ y. Read (if_of q (x.0, y.0), max x.1 y.1 + 1, y.2)) (an_else d s.0 s.1 s.2 i) ∙ if_by_word x s (expect (λ t. is_word K.Else t.lexeme) s.2))

-- A for: its parenthesis, its three parts and its body.
abbrev pub for_body : Place → ℕ → List LStmt × ℕ × List Placed → Option LExpr × ℕ × List Placed → Option LStmt × ℕ × List Placed → Reading Placed LStmt
for_body q d a b c = statement_at d c.2 >>= λ s. Read (for_of q (a.0, (b.0, (c.0, s.0))), max a.1 (max b.1 (max c.1 s.1)) + 1, s.2)

abbrev pub for_last : Place → ℕ → List LStmt × ℕ × List Placed → Option LExpr × ℕ × List Placed → Reading Placed LStmt
for_last q d a b = last_at d b.2 >>= λ c. for_body q d a b c

abbrev pub for_test : Place → ℕ → List LStmt × ℕ × List Placed → Reading Placed LStmt
for_test q d a = maybe_at d a.2 >>= λ b. for_last q d a b

abbrev pub for_first : Place → ℕ → Unit {0} × ℕ × List Placed → Reading Placed LStmt
for_first q d p = first_at d p.2 >>= λ a. for_test q d a

module _ (q : Place) (d : ℕ) where
  for_by_body : (a : List LStmt × ℕ × List Placed) (b : Option LExpr × ℕ × List Placed) (c : Option LStmt × ℕ × List Placed) (r : Reading Placed LStmt)
      → ((((r >>= λ s. Read ((c.0, s.0), max c.1 s.1, s.2)) >>= λ y. Read ((b.0, y.0), max b.1 y.1, y.2)) >>= λ y. Read ((a.0, y.0), max a.1 y.1, y.2)) >>= λ z. Read (for_of q z.0, z.1 + 1, z.2))
      ≡ (r >>= λ s. Read (for_of q (a.0, (b.0, (c.0, s.0))), max a.1 (max b.1 (max c.1 s.1)) + 1, s.2))
  for_by_body a b c (Read s) = refl
  for_by_body a b c (Fault left) = refl
  for_by_body a b c (Deep left) = refl

  for_by_last : (a : List LStmt × ℕ × List Placed) (b : Option LExpr × ℕ × List Placed) (r : Reading Placed (Option LStmt))
      → ((((r >>= λ c. statement_at d c.2 >>= λ s. Read ((c.0, s.0), max c.1 s.1, s.2)) >>= λ y. Read ((b.0, y.0), max b.1 y.1, y.2)) >>= λ y. Read ((a.0, y.0), max a.1 y.1, y.2)) >>= λ z. Read (for_of q z.0, z.1 + 1, z.2)) ≡ (r >>= λ c. for_body q d a b c)
  for_by_last a b (Read c) = for_by_body a b c (statement_at d c.2)
  for_by_last a b (Fault left) = refl
  for_by_last a b (Deep left) = refl

  for_by_test : (a : List LStmt × ℕ × List Placed) (r : Reading Placed (Option LExpr))
      → (((r >>= λ b. (last_at d b.2 >>= λ c. statement_at d c.2 >>= λ s. Read ((c.0, s.0), max c.1 s.1, s.2)) >>= λ y. Read ((b.0, y.0), max b.1 y.1, y.2)) >>= λ y. Read ((a.0, y.0), max a.1 y.1, y.2)) >>= λ z. Read (for_of q z.0, z.1 + 1, z.2)) ≡ (r >>= λ b. for_last q d a b)
  for_by_test a (Read b) = for_by_last a b (last_at d b.2)
  for_by_test a (Fault left) = refl
  for_by_test a (Deep left) = refl

  for_by_first : (r : Reading Placed (List LStmt))
      → ((r >>= λ a. (maybe_at d a.2 >>= λ b. (last_at d b.2 >>= λ c. statement_at d c.2 >>= λ s. Read ((c.0, s.0), max c.1 s.1, s.2)) >>= λ y. Read ((b.0, y.0), max b.1 y.1, y.2)) >>= λ y. Read ((a.0, y.0), max a.1 y.1, y.2)) >>= λ z. Read (for_of q z.0, z.1 + 1, z.2))
      ≡ (r >>= λ a. for_test q d a)
  for_by_first (Read a) = for_by_test a (maybe_at d a.2)
  for_by_first (Fault left) = refl
  for_by_first (Deep left) = refl

  for_by_mark : (r : Reading Placed (Unit {0}))
      → ((r >>= λ p. first_at d p.2 >>= λ a. (maybe_at d a.2 >>= λ b. (last_at d b.2 >>= λ c. statement_at d c.2 >>= λ s. Read ((c.0, s.0), max c.1 s.1, s.2)) >>= λ y. Read ((b.0, y.0), max b.1 y.1, y.2)) >>= λ y. Read ((a.0, y.0), max a.1 y.1, y.2)) >>= λ z. Read (for_of q z.0, z.1 + 1, z.2))
      ≡ (r >>= λ p. for_first q d p)
  for_by_mark (Read p) = for_by_first (first_at d p.2)
  for_by_mark (Fault left) = refl
  for_by_mark (Deep left) = refl

  pub for_steps : (ts : List Placed) → for_in q d ts ≡ (expect (λ t. is_mark P.LeftParen t.lexeme) ts >>= λ p. for_first q d p)
  for_steps ts = for_by_mark (expect (λ t. is_mark P.LeftParen t.lexeme) ts)

-- A label: its name, its colon and its statement.
abbrev pub label_inner : ℕ → Ident × ℕ × List Placed → Unit {0} × ℕ × List Placed → Reading Placed LStmt
label_inner d x a = statement_at (d - 1) a.2 >>= λ y. Read (label_of (x.0, y.0), max x.1 y.1 + 1, y.2)

abbrev pub label_colon : ℕ → Ident × ℕ × List Placed → Reading Placed LStmt
label_colon d x = expect (λ t. is_mark P.Colon t.lexeme) x.2 >>= λ a. label_inner d x a

module _ (d : ℕ) where
  label_by_inner : (v : Ident) (h : ℕ) (r : Reading Placed LStmt) → ((r >>= λ y. Read ((v, y.0), max h y.1, y.2)) >>= λ z. Read (label_of z.0, z.1 + 1, z.2)) ≡ (r >>= λ y. Read (label_of (v, y.0), max h y.1 + 1, y.2))
  label_by_inner v h (Read y) = refl
  label_by_inner v h (Fault left) = refl
  label_by_inner v h (Deep left) = refl

  label_by_colon : (x : Ident × ℕ × List Placed) (r : Reading Placed (Unit {0}))
      → (((r >>= λ a. Read (x.0, x.1, a.2)) >>= λ x. statement_at (d - 1) x.2 >>= λ y. Read ((x.0, y.0), max x.1 y.1, y.2)) >>= λ z. Read (label_of z.0, z.1 + 1, z.2)) ≡ (r >>= λ a. label_inner d x a)
  label_by_colon x (Read a) = label_by_inner x.0 x.1 (statement_at (d - 1) a.2)
  label_by_colon x (Fault left) = refl
  label_by_colon x (Deep left) = refl

  label_by_name : (r : Reading Placed Ident)
      → (((r >>= λ x. expect (λ t. is_mark P.Colon t.lexeme) x.2 >>= λ a. Read (x.0, x.1, a.2)) >>= λ x. statement_at (d - 1) x.2 >>= λ y. Read ((x.0, y.0), max x.1 y.1, y.2)) >>= λ z. Read (label_of z.0, z.1 + 1, z.2)) ≡ (r >>= λ x. label_colon d x)
  label_by_name (Read x) = label_by_colon x (expect (λ t. is_mark P.Colon t.lexeme) x.2)
  label_by_name (Fault left) = refl
  label_by_name (Deep left) = refl

  pub label_steps : (ts : List Placed) → begins_label ts ≡ true → 2 ≤ d → labelled_at d ts ≡ (one ident_of ts >>= λ x. label_colon d x)
  label_steps ts e le = labelled_label d ts e le ∙ label_by_name (one ident_of ts)

-- A sentence where no name comes first.
pub labelled_unnamed : (d : ℕ) (ts : List Placed) → begins_name ts ≡ false → labelled_at d ts ≡ sentence_at d ts
labelled_unnamed d [] e = refl
labelled_unnamed d (t ∷ rest) e = rw e refl

-- A block: what stands in it and its brace.
abbrev pub block_end : Place → List LStmt × ℕ × List Placed → Reading Placed LStmt
block_end q x = expect (λ t. is_mark P.RightBrace t.lexeme) x.2 >>= λ e. Read (block_of q x.0, x.1 + 1, e.2)

module _ (q : Place) (d : ℕ) where
  block_by_end : (x : List LStmt × ℕ × List Placed) (r : Reading Placed (Unit {0})) → ((r >>= λ e. Read (x.0, x.1, e.2)) >>= λ z. Read (block_of q z.0, z.1 + 1, z.2)) ≡ (r >>= λ e. Read (block_of q x.0, x.1 + 1, e.2))
  block_by_end x (Read e) = refl
  block_by_end x (Fault left) = refl
  block_by_end x (Deep left) = refl

  block_by_entries : (r : Reading Placed (List LStmt))
      → ((r >>= λ x. expect (λ t. is_mark P.RightBrace t.lexeme) x.2 >>= λ e. Read (x.0, x.1, e.2)) >>= λ z. Read (block_of q z.0, z.1 + 1, z.2)) ≡ (r >>= λ x. block_end q x)
  block_by_entries (Read x) = block_by_end x (expect (λ t. is_mark P.RightBrace t.lexeme) x.2)
  block_by_entries (Fault left) = refl
  block_by_entries (Deep left) = refl

  pub block_steps : (ts : List Placed) → block_in q d ts ≡ (entries_at d ts >>= λ x. block_end q x)
  block_steps ts = ap (λ r. r >>= λ z. Read (block_of q z.0, z.1 + 1, z.2)) (mapped_before entries_of (many (λ t. starts_entry t.lexeme) 1 d (entry_by (λ us. statement_at d us) d)) (λ t. is_mark P.RightBrace t.lexeme) ts) ∙ block_by_entries (entries_at d ts)
