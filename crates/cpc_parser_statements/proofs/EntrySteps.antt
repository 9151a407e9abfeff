-- How the code of blocks follows their reader.
use Rattle.std.proofs.Common.{◌≡◌, ℕ, ◌≤◌, ◌<◌, true, false, List, [], ◌∷◌, ◌++◌, max, refl, sym, ap, subst, ◌∙◌, append_assoc, arith, nat_lt}
use Rattle.std.proofs.lemmas.List.{append-nil}
use Rattle.cpc_base.proofs.Truth.{lt_fails}
use Rattle.cpc_tree.specs.declared.token.Punctuator.TheVariants as P
use Rattle.cpc_tree.specs.Tokens.{Placed}
use Rattle.cpc_tree.specs.Located.{LStmt}
use Rattle.cpc_parser_reading.specs.Reading.{Reading, Read, Fault, Deep, ◌>>=◌, before}
use Rattle.cpc_parser_reading.specs.Chain.{Linking, links}
use Rattle.cpc_parser_reading.specs.Lists.{several}
use Rattle.cpc_parser_reading.proofs.Readers.{branch, links_end, links_stop, links_deep, many_on}
use Rattle.cpc_parser_types.specs.declared.refusal.Refusal as GRefusal
use Rattle.cpc_parser_types.specs.Begins.{is_mark}
use Rattle.cpc_parser_types.specs.TypeViews.{begins_base}
use Rattle.cpc_parser_statements.specs.LocalReaders.{Locals, local_at}
use Rattle.cpc_parser_statements.specs.StmtReaders.{Entry, Stated, Declares, entry_of, entries_of, starts_entry, entry_by, statement_at}
use Rattle.cpc_parser_statements.specs.CodeViews.{with_locals, with_entry, entry_at, declaration_at, entries_at, more_entries_at, begins_entry}
use Rattle.cpc_parser_statements.proofs.StmtStarts.{starts_entries}
use Rattle.cpc_parser_statements.proofs.StmtExact.{entry_exact, entry_next, statement_exact}
use Rattle.cpc_parser_statements.proofs.LocalSteps.{Refused, refused_then, bind_refused, read_is}

-- One entry: a declaration,
declares : (ss : List LStmt) (r : Reading Placed Locals) → ((r >>= λ x. Read (Declares x.0, x.1, x.2)) >>= λ x. Read (with_entry ss x.0, x.1, x.2)) ≡ (r >>= λ x. Read (with_locals ss x.0, x.1, x.2))
declares ss (Read z) = refl
declares ss (Fault left) = refl
declares ss (Deep left) = refl

pub one_local : (ss : List LStmt) (d : ℕ) (ts : List Placed) → 0 < d → begins_base ts ≡ true → entry_at ss d ts ≡ declaration_at ss d ts
one_local ss d [] le e = absurd cc
one_local ss d (t ∷ rest) le e = rw (e, lt_fails d 1 le) (declares ss (before (local_at d) (λ t. is_mark P.Semicolon t.lexeme) (t ∷ rest)))

-- or a statement
states : (ss : List LStmt) (r : Reading Placed LStmt) → ((r >>= λ x. Read (Stated x.0, x.1, x.2)) >>= λ x. Read (with_entry ss x.0, x.1, x.2)) ≡ (r >>= λ x. Read (ss ++ x.0 ∷ [], x.1, x.2))
states ss (Read z) = refl
states ss (Fault left) = refl
states ss (Deep left) = refl

pub one_stated : (ss : List LStmt) (d : ℕ) (ts : List Placed) → begins_base ts ≡ false → entry_at ss d ts ≡ (statement_at d ts >>= λ x. Read (ss ++ x.0 ∷ [], x.1, x.2))
one_stated ss d [] e = states ss (statement_at d [])
one_stated ss d (t ∷ rest) e = rw e (states ss (statement_at d (t ∷ rest)))

-- How entries go on.
abbrev entry_links : ℕ → Linking Placed (Unit {0}) (List Entry) Entry
entry_links d = several (λ t. starts_entry t.lexeme) (nat_lt d 1) (entry_by (λ us. statement_at d us) d)

-- what the loop has read of the tokens
abbrev pub Reads : ℕ → List Placed → List LStmt → ℕ → List Placed → Type 0
Reads d ts ms h rest = (es : List Entry) × (ms ≡ entries_of es) × (entries_at d ts ≡ more_entries_at d es h rest)

pub entries_first : (d : ℕ) (ts : List Placed) → Reads d ts [] 0 ts
entries_first d ts = ([], refl, refl)

on_entry : (d : ℕ) (es : List Entry) (h : ℕ) (t : Placed) (rest : List Placed) → 1 ≤ d → h ≤ d → starts_entry t.lexeme ≡ true
    → links (entry_links d) es h (t ∷ rest) ≡ (entry_by (λ us. statement_at d us) d (t ∷ rest) >>= λ z. links (entry_links d) (es ++ z.0 ∷ []) (max h z.1) z.2)
on_entry d es h t rest lo hi e = many_on (branch starts_entries (entry_exact d (statement_exact d))) entry_next d lo (omega arith) es h t rest hi e

with_one : (ss ms : List LStmt) (h : ℕ) (rest : List Placed) (r : Reading Placed Entry) → (r >>= λ y. Read (with_entry ss y.0, y.1, y.2)) ≡ Read (ms, h, rest) → (x : Entry) × (r ≡ Read (x, h, rest)) × (ms ≡ ss ++ entry_of x)
with_one ss ms h rest (Read z) e =
    let i = read_is (with_entry ss z.0, z.1, z.2) (ms, h, rest) e in
    (z.0, ap (λ y. Read (z.0, y.1, y.2)) i, sym (ap (λ y. y.0) i))
with_one ss ms h rest (Fault left) e = absurd cc
with_one ss ms h rest (Deep left) e = absurd cc

last_entry : (es : List Entry) (x : Entry) → entries_of (es ++ x ∷ []) ≡ entries_of es ++ entry_of x
last_entry [] x = append-nil (entry_of x)
last_entry (y ∷ es) x = ap (λ z. entry_of y ++ z) (last_entry es x) ∙ sym (append_assoc (entry_of y) (entries_of es) (entry_of x))

-- the loop's step, where there is room
seen_on : (d : ℕ) (es : List Entry) (h : ℕ) (left : List Placed) → 1 ≤ d → h ≤ d → begins_entry left ≡ true
    → more_entries_at d es h left ≡ ((entry_by (λ us. statement_at d us) d left >>= λ z. links (entry_links d) (es ++ z.0 ∷ []) (max h z.1) z.2) >>= λ x. Read (entries_of x.0, x.1, x.2))
seen_on d es h [] lo hi e = absurd cc
seen_on d es h (t ∷ rest) lo hi e = ap (λ r. r >>= λ x. Read (entries_of x.0, x.1, x.2)) (on_entry d es h t rest lo hi e)

pub entries_next : (d : ℕ) (ms ns : List LStmt) (h j : ℕ) (left rest ts : List Placed) → 0 < d → h ≤ d → begins_entry left ≡ true → entry_at ms d left ≡ Read (ns, j, rest) → Reads d ts ms h left → Reads d ts ns (max h j) rest
entries_next d ms ns h j left rest ts lo hi b e (es, m, r) =
    let k = with_one ms ns j rest (entry_by (λ us. statement_at d us) d left) e in (
      es ++ k.0 ∷ [],
      k.2 ∙ (ap (λ z. z ++ entry_of k.0) m ∙ sym (last_entry es k.0)),
      r ∙ (seen_on d es h left lo hi b ∙ ap (λ z. (z >>= λ y. links (entry_links d) (es ++ y.0 ∷ []) (max h y.1) y.2) >>= λ x. Read (entries_of x.0, x.1, x.2)) k.1),
    )

-- no room for an entry
crowded : (d : ℕ) → d ≡ 0 → nat_lt d 1 ≡ true
crowded d e = grind arith

full : (d : ℕ) (es : List Entry) (h : ℕ) (left : List Placed) → d ≡ 0 → begins_entry left ≡ true → links (entry_links d) es h left ≡ Deep left
full d es h [] z e = absurd cc
full d es h (t ∷ rest) z e = links_deep (entry_links d) es h t rest tt (rw e refl) (crowded d z)

pub entries_deep : (d : ℕ) (ms : List LStmt) (h : ℕ) (left ts : List Placed) → d ≡ 0 → begins_entry left ≡ true → Reads d ts ms h left → entries_at d ts ≡ Deep left
entries_deep d ms h left ts z b (es, m, r) = r ∙ ap (λ y. y >>= λ x. Read (entries_of x.0, x.1, x.2)) (full d es h left z b)

-- the end of the loop
stops : (d : ℕ) (es : List Entry) (h : ℕ) (left : List Placed) → begins_entry left ≡ false → links (entry_links d) es h left ≡ Read (es, h, left)
stops d es h [] e = links_end (entry_links d) es h
stops d es h (t ∷ rest) e = links_stop (entry_links d) es h t rest (rw e refl)

pub entries_end : (d : ℕ) (ms : List LStmt) (h : ℕ) (left ts : List Placed) → begins_entry left ≡ false → Reads d ts ms h left → entries_at d ts ≡ Read (ms, h, left)
entries_end d ms h left ts b (es, m, r) = r ∙ (ap (λ y. y >>= λ x. Read (entries_of x.0, x.1, x.2)) (stops d es h left b) ∙ ap (λ z. Read (z, h, left)) (sym m))

-- what was refused of an entry is refused
pub entries_fail : (e : GRefusal.Refusal) (d : ℕ) (ms : List LStmt) (h : ℕ) (left ts : List Placed) → 0 < d → h ≤ d → begins_entry left ≡ true → Refused e (entry_at ms d left) → Reads d ts ms h left → Refused e (entries_at d ts)
entries_fail e d ms h left ts lo hi b g (es, m, r) =
    subst (λ z. Refused e z) (sym (r ∙ seen_on d es h left lo hi b))
    (refused_then e (entry_by (λ us. statement_at d us) d left >>= λ y. links (entry_links d) (es ++ y.0 ∷ []) (max h y.1) y.2) (λ x. Read (entries_of x.0, x.1, x.2))
    (bind_refused e (entry_by (λ us. statement_at d us) d left) (with_entry ms) (λ y. links (entry_links d) (es ++ y.0 ∷ []) (max h y.1) y.2) g))
