-- How the code of statements follows their reader.
use Rattle.std.proofs.Common.{◌≡◌, ℕ, zero, suc, ◌-◌, ◌≤◌, ◌<◌, true, false, Bool, ◌&&◌, if◌then◌else◌, is_some, List, [], ◌∷◌, length, Option, Some, None, max, refl, ap, subst, ◌∙◌, arith, nat_lt}
use Rattle.std.proofs.lemmas.List.{length-map}
use Rattle.cpc_base.proofs.Truth.{lt_fails, and_both}
use Rattle.cpc_tree.specs.declared.token.Keyword.TheVariants as K
use Rattle.cpc_tree.specs.declared.token.Punctuator.TheVariants as P
use Rattle.cpc_tree.specs.declared.token.Token.{Token}
use Rattle.cpc_tree.specs.Erase.{Names}
use Rattle.cpc_tree.specs.Tokens.{Placed, placed_of}
use Rattle.cpc_tree.specs.Located.{LStmt}
use Rattle.cpc_parser_reading.specs.Reading.{Reading, Read, Fault, Deep, Reader, ◌>>=◌, after, before, expect, mapped}
use Rattle.cpc_parser_reading.specs.Operators.{tail_from}
use Rattle.cpc_parser_types.specs.Views.{placed}
use Rattle.cpc_parser_types.specs.TypeReaders.{is_name}
use Rattle.cpc_parser_types.specs.Begins.{is_mark, is_word, begins_name, begins_word}
use Rattle.cpc_parser_types.specs.TypeViews.{begins_base}
use Rattle.cpc_parser_statements.specs.SimpleReaders as R
use Rattle.cpc_parser_statements.specs.SimpleReaders.{Simple, stmt_of, simple_class, simple_at}
use Rattle.cpc_parser_statements.specs.LocalReaders.{Locals, local_at}
use Rattle.cpc_parser_statements.specs.StmtReaders.{Class, Braced, Blank, IfWord, WhileWord, DoWord, ForWord, GotoWord, BreakWord, ContinueWord, ReturnWord, SpawnWord, Sentence, stmt_class, stmt_low, stmt_part, stmt_by, Stating, Declaring, opening_of, last_of, sentence_at, statement_at}
use Rattle.cpc_parser_statements.specs.CodeViews.{of_first, plain_at, with_locals, opening_at, step_at, class_in, label_at, labelled_at, begins_label, is_sentence}
use Rattle.cpc_parser_statements.proofs.Steps.{below_is, choice_none, choice_deep, choice_some}
use Rattle.cpc_parser_statements.proofs.LocalSteps.{crowded}

-- A fault where the code stands.
pub fault_at : {A : Type 0} (names : Names) (ts : List Token) (r : Reading Placed A) → r ≡ Fault (placed names ts) → (left : List Placed) × (length left ≡ length ts) × (r ≡ Fault left)
fault_at names ts r e = (placed names ts, length-map ts (placed_of names), e)

-- The first part of a for: a declaration,
opened : (r : Reading Placed Locals) → (((r >>= λ x. Read (Declaring x.0, x.1, x.2)) >>= λ x. Read (Some x.0, x.1, x.2)) >>= λ x. Read (opening_of x.0, x.1, x.2)) ≡ (r >>= λ x. Read (with_locals [] x.0, x.1, x.2))
opened (Read z) = refl
opened (Fault left) = refl
opened (Deep left) = refl

pub opening_local : (d : ℕ) (ts : List Placed) → 0 < d → begins_base ts ≡ true → opening_at d ts ≡ mapped (with_locals []) (local_at d) ts
opening_local d [] le e = absurd cc
opening_local d (t ∷ rest) le e = rw (e, lt_fails d 1 le) (opened (local_at d (t ∷ rest)))

-- a simple statement,
stated : (r : Reading Placed Simple) → (((r >>= λ x. Read (Stating x.0, x.1, x.2)) >>= λ x. Read (Some x.0, x.1, x.2)) >>= λ x. Read (opening_of x.0, x.1, x.2)) ≡ ((r >>= λ x. Read (stmt_of x.0, x.1, x.2)) >>= λ x. Read (x.0 ∷ [], x.1, x.2))
stated (Read z) = refl
stated (Fault left) = refl
stated (Deep left) = refl

pub opening_simple : (d : ℕ) (ts : List Placed) (f : R.First) → 0 < d → begins_base ts ≡ false → of_first simple_class ts ≡ Some f → opening_at d ts ≡ (plain_at d ts >>= λ x. Read (x.0 ∷ [], x.1, x.2))
opening_simple d [] f le e i = absurd cc
opening_simple d (t ∷ rest) f le e i = let s : is_some (simple_class t.lexeme) ≡ true = rw i refl in rw (e, s, lt_fails d 1 le) (stated (simple_at d (t ∷ rest)))

-- or nothing
pub opening_none : (d : ℕ) (ts : List Placed) → begins_base ts ≡ false → of_first simple_class ts ≡ None → opening_at d ts ≡ Read ([], 0, ts)
opening_none d [] e i = refl
opening_none d (t ∷ rest) e i = rw (e, i) refl

-- The last part: a simple statement or nothing.
stepped : (r : Reading Placed Simple) → ((r >>= λ x. Read (Some x.0, x.1, x.2)) >>= λ x. Read (last_of x.0, x.1, x.2)) ≡ ((r >>= λ x. Read (stmt_of x.0, x.1, x.2)) >>= λ x. Read (Some x.0, x.1, x.2))
stepped (Read z) = refl
stepped (Fault left) = refl
stepped (Deep left) = refl

pub step_simple : (d : ℕ) (ts : List Placed) (f : R.First) → 0 < d → of_first simple_class ts ≡ Some f → step_at d ts ≡ (plain_at d ts >>= λ x. Read (Some x.0, x.1, x.2))
step_simple d [] f le i = absurd cc
step_simple d (t ∷ rest) f le i = let s : is_some (simple_class t.lexeme) ≡ true = rw i refl in rw (s, lt_fails d 1 le) (stepped (simple_at d (t ∷ rest)))

pub step_none : (d : ℕ) (ts : List Placed) → of_first simple_class ts ≡ None → step_at d ts ≡ Read (None, 0, ts)
step_none d [] i = refl
step_none d (t ∷ rest) i = rw i refl

-- A mark behind what is seen as another value.
past_mark : {A B : Type 0} (make : A → B) (p : Placed → Bool) (z : A × ℕ × List Placed) (r : Reading Placed (Unit {0})) → ((r >>= λ y. Read (z.0, z.1, y.2)) >>= λ x. Read (make x.0, x.1, x.2)) ≡ (r >>= λ y. Read (make z.0, z.1, y.2))
past_mark make p z (Read y) = refl
past_mark make p z (Fault left) = refl
past_mark make p z (Deep left) = refl

mapped_past : {A B : Type 0} (make : A → B) (p : Placed → Bool) (r : Reading Placed A)
    → ((r >>= λ x. expect p x.2 >>= λ y. Read (x.0, x.1, y.2)) >>= λ x. Read (make x.0, x.1, x.2)) ≡ ((r >>= λ x. Read (make x.0, x.1, x.2)) >>= λ x. expect p x.2 >>= λ y. Read (x.0, x.1, y.2))
mapped_past make p (Read z) = past_mark make p z (expect p z.2)
mapped_past make p (Fault left) = refl
mapped_past make p (Deep left) = refl

pub mapped_before : {A B : Type 0} (make : A → B) (F : Reader Placed A) (p : Placed → Bool) (ts : List Placed) → mapped make (before F p) ts ≡ before (mapped make F) p ts
mapped_before make F p ts = mapped_past make p (F ts)

-- The knot of statements.
step_up : (n : ℕ) (ts : List Placed) → statement_at (suc n) ts ≡ stmt_by (λ us. statement_at n us) (suc n) ts
unfolding statement_at
step_up n ts = refl

knot : (d : ℕ) (ts : List Placed) → 0 < d → statement_at d ts ≡ stmt_by (λ us. statement_at (d - 1) us) d ts
knot zero ts le = absurd (omega arith)
knot (suc n) ts le = subst (λ x. statement_at (suc n) ts ≡ stmt_by (λ us. statement_at x us) (suc n) ts) (below_is (suc n)) (step_up n ts)

pub statement_none : (d : ℕ) (ts : List Placed) → 0 < d → of_first stmt_class ts ≡ None → statement_at d ts ≡ Fault ts
statement_none d ts le e = knot d ts le ∙ choice_none stmt_class stmt_low d (stmt_part (λ us. statement_at (d - 1) us) d) ts e

pub statement_deep : (d : ℕ) (ts : List Placed) (c : Class) → 0 < d → of_first stmt_class ts ≡ Some c → d < stmt_low c → statement_at d ts ≡ Deep ts
statement_deep d ts c le e hi = knot d ts le ∙ choice_deep stmt_class stmt_low d (stmt_part (λ us. statement_at (d - 1) us) d) ts c e hi

statement_some : (d : ℕ) (ts : List Placed) (c : Class) → 0 < d → of_first stmt_class ts ≡ Some c → stmt_low c ≤ d → statement_at d ts ≡ stmt_part (λ us. statement_at (d - 1) us) d c ts
statement_some d ts c le e lo = knot d ts le ∙ choice_some stmt_class stmt_low d (stmt_part (λ us. statement_at (d - 1) us) d) ts c e lo

sentence_is : (c : Class) → is_sentence c ≡ true → c ≡ Sentence
sentence_is Sentence e = refl
sentence_is c e = absurd cc

-- a sentence or a label
pub statement_simple : (d : ℕ) (ts : List Placed) (c : Class) → 0 < d → of_first stmt_class ts ≡ Some c → is_sentence c ≡ true → statement_at d ts ≡ labelled_at d ts
statement_simple d ts c le e s = statement_some d ts Sentence le (e ∙ ap Some (sentence_is c s)) le

-- one of another class
part_in : (d : ℕ) (c : Class) (t : Placed) (rest : List Placed) → is_sentence c ≡ false → stmt_part (λ us. statement_at (d - 1) us) d c (t ∷ rest) ≡ class_in t.place (d - 1) c rest
part_in d Braced t rest e = rw (below_is d) refl
part_in d Blank t rest e = refl
part_in d IfWord t rest e = rw (below_is d) refl
part_in d WhileWord t rest e = rw (below_is d) refl
part_in d DoWord t rest e = rw (below_is d) refl
part_in d ForWord t rest e = rw (below_is d) refl
part_in d GotoWord t rest e = refl
part_in d BreakWord t rest e = refl
part_in d ContinueWord t rest e = refl
part_in d ReturnWord t rest e = rw (below_is d) refl
part_in d SpawnWord t rest e = rw (below_is d) refl
part_in d Sentence t rest e = absurd cc

pub statement_in : (names : Names) (d : ℕ) (ts : List Token) (t : Token) (rest : List Token) (c : Class) → ts ≡ t ∷ rest → 0 < d → of_first stmt_class (placed names ts) ≡ Some c → stmt_low c ≤ d → is_sentence c ≡ false
    → statement_at d (placed names ts) ≡ class_in t.place (d - 1) c (placed names rest)
statement_in names d ts t rest c i le e lo s =
    statement_some d (placed names ts) c le e lo
    ∙ (ap (λ u. stmt_part (λ us. statement_at (d - 1) us) d c (placed names u)) i ∙ part_in d c (placed_of names t) (placed names rest) s)

pub labelled_deep : (d : ℕ) (ts : List Placed) → begins_name ts ≡ true → d < 2 → labelled_at d ts ≡ Deep ts
labelled_deep d [] e le = absurd cc
labelled_deep d (t ∷ rest) e le = rw (e, crowded d le) refl

-- a label,

pub labelled_label : (d : ℕ) (ts : List Placed) → begins_label ts ≡ true → 2 ≤ d → labelled_at d ts ≡ label_at d ts
labelled_label d [] e le = absurd cc
labelled_label d (t ∷ []) e le = absurd cc
labelled_label d (t ∷ (u ∷ rest)) e le = let b = and_both (is_name t.lexeme) (is_mark P.Colon u.lexeme) e in rw (b.0, lt_fails d 2 le, b.1) refl

-- and a sentence
other : (d : ℕ) (t u : Placed) (rest : List Placed) (a b : Bool) → (a && b) ≡ false → (a ≡ true → 2 ≤ d)
    → (if a then (if nat_lt d 2 then Deep (t ∷ u ∷ rest) else (if b then label_at d (t ∷ u ∷ rest) else sentence_at d (t ∷ u ∷ rest))) else sentence_at d (t ∷ u ∷ rest)) ≡ sentence_at d (t ∷ u ∷ rest)
other d t u rest false b e le = refl
other d t u rest true false e le = rw (lt_fails d 2 (le refl)) refl
other d t u rest true true e le = absurd cc

alone : (d : ℕ) (t : Placed) (a : Bool) → (a ≡ true → 2 ≤ d) → (if a then (if nat_lt d 2 then Deep (t ∷ []) else sentence_at d (t ∷ [])) else sentence_at d (t ∷ [])) ≡ sentence_at d (t ∷ [])
alone d t false le = refl
alone d t true le = rw (lt_fails d 2 (le refl)) refl

pub labelled_sentence : (d : ℕ) (ts : List Placed) → begins_label ts ≡ false → (begins_name ts ≡ true → 2 ≤ d) → labelled_at d ts ≡ sentence_at d ts
labelled_sentence d [] e le = refl
labelled_sentence d (t ∷ []) e le = alone d t _ le
labelled_sentence d (t ∷ (u ∷ rest)) e le = other d t u rest _ _ e le

-- An if without an else, and with one.
abbrev behind_if : ℕ → LStmt → ℕ → Reader Placed (LStmt × Option LStmt)
behind_if d s h ts = tail_from (λ t. is_word K.Else t.lexeme) (λ h. false) (λ h j. max h j) (after (λ t. is_word K.Else t.lexeme) (λ us. statement_at d us)) s h ts

pub no_else : (d : ℕ) (s : LStmt) (h : ℕ) (ts : List Placed) → begins_word K.Else ts ≡ false → behind_if d s h ts ≡ Read ((s, None), h, ts)
no_else d s h [] e = refl
no_else d s h (t ∷ rest) e = rw e refl

pub an_else : (d : ℕ) (s : LStmt) (h : ℕ) (ts : List Placed) → begins_word K.Else ts ≡ true → behind_if d s h ts ≡ (after (λ t. is_word K.Else t.lexeme) (λ us. statement_at d us) ts >>= λ y. Read ((s, Some y.0), max h y.1, y.2))
an_else d s h [] e = absurd cc
an_else d s h (t ∷ rest) e = rw e refl
