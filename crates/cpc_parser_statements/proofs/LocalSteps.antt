-- How the code of declarations follows their reader.
use Rattle.std.proofs.Common.{◌≡◌, ℕ, ◌+◌, ◌-◌, ◌≤◌, ◌<◌, true, false, List, [], ◌∷◌, ◌++◌, length, Some, None, max, refl, sym, ap, subst, ◌∙◌, append_assoc, arith, nat_lt}
use Rattle.std.proofs.lemmas.List.{append-nil}
use Rattle.cpc_base.specs.declared.stop.Place.{Place}
use Rattle.cpc_tree.specs.declared.token.Punctuator.TheVariants as P
use Rattle.cpc_tree.specs.declared.token.Token.{Token}
use Rattle.cpc_tree.specs.declared.token.TokenKind.TheVariants as T
use Rattle.cpc_tree.specs.TypeGrammar.{mark}
use Rattle.cpc_tree.specs.Erase.{Names}
use Rattle.cpc_tree.specs.Tokens.{Placed}
use Rattle.cpc_tree.specs.Syntax.{Ty}
use Rattle.cpc_tree.specs.Located.{LStmt, LVariable}
use Rattle.cpc_tree.specs.StmtGrammar.{Right, begin, begun}
use Rattle.cpc_parser_reading.specs.Reading.{Reading, Read, Fault, Deep, Reader, ◌>>=◌, after, below, bind, mapped}
use Rattle.cpc_parser_reading.specs.Chain.{Linking, links}
use Rattle.cpc_parser_reading.specs.Lists.{separated, several}
use Rattle.cpc_parser_reading.specs.Operators.{tail_from}
use Rattle.cpc_parser_reading.proofs.Readers.{links_end, links_stop, separated_on, read_nest}
use Rattle.cpc_parser_types.specs.Views.{placed}
use Rattle.cpc_parser_types.specs.declared.refusal.Refusal as GRefusal
use Rattle.cpc_parser_types.specs.declared.refusal.Refusal.TheVariants as R
use Rattle.cpc_parser_types.specs.Begins.{is_mark, begins}
use Rattle.cpc_parser_types.specs.Declarators.{declarator_at}
use Rattle.cpc_parser_statements.specs.SimpleReaders.{standing, right_at}
use Rattle.cpc_parser_types.specs.TypeViews.{base_reader, only_type}
use Rattle.cpc_parser_types.specs.TypeReaders.{Ending, base_at}
use Rattle.cpc_parser_statements.specs.LocalReaders.{Local, local_at, local_of, locals_of, behind_of, start_at, part_at}
use Rattle.cpc_parser_statements.specs.CodeViews.{with_local, with_locals, started_at, locals_at, more_locals_at}
use Rattle.cpc_parser_statements.proofs.Steps.{below_is}
use Rattle.cpc_parser_statements.proofs.Marks.{marks}
use Rattle.cpc_parser_statements.proofs.LocalExact.{part_exact, comma_after, part_free}

-- what stands behind a declarator
abbrev behind_part : ℕ → LVariable → ℕ → Reader Placed Local
behind_part d x h ts = tail_from (λ t. is_mark P.Equal t.lexeme) (λ h. nat_lt d 2) (λ h j. max h (j + 1)) (after (λ t. is_mark P.Equal t.lexeme) (start_at (below d))) x h ts

part_reads : (base : Ty) (d : ℕ) (ts rest : List Placed) (x : LVariable) (h : ℕ) → declarator_at base (d - 1) ts ≡ Read (x, h, rest) → part_at base d ts ≡ behind_part d x (h + 1) rest
part_reads base d ts rest x h e =
    let i : declarator_at base (below d) ts ≡ Read (x, h, rest) = subst (λ z. declarator_at base z ts ≡ Read (x, h, rest)) (sym (below_is d)) e in
    ap (λ r. (r >>= λ y. Read (y.0, y.1 + 1, y.2)) >>= λ y. behind_part d y.0 y.1 y.2) i

no_equal : (d : ℕ) (x : LVariable) (h : ℕ) (ts : List Placed) → begins P.Equal ts ≡ false → behind_part d x h ts ≡ Read ((x, None), h, ts)
no_equal d x h [] e = refl
no_equal d x h (t ∷ rest) e = rw e refl

pub crowded : (d : ℕ) → d < 2 → nat_lt d 2 ≡ true
crowded d le = grind arith

no_room : (d : ℕ) (x : LVariable) (h : ℕ) (ts : List Placed) → begins P.Equal ts ≡ true → d < 2 → behind_part d x h ts ≡ Deep ts
no_room d x h [] e le = absurd cc
no_room d x h (t ∷ rest) e le = rw (e, crowded d le) refl

-- a local without an initialiser
pub part_plain : (base : Ty) (d : ℕ) (q : Place) (ss ms : List LStmt) (ts rest : List Placed) (x : LVariable) (h : ℕ) → declarator_at base (d - 1) ts ≡ Read (x, h, rest) → begins P.Equal rest ≡ false → ms ≡ ss ++ local_of q (x, None)
    → mapped (with_local ss q) (part_at base d) ts ≡ Read (ms, h + 1, rest)
part_plain base d q ss ms ts rest x h e b m = ap (λ r. r >>= λ y. Read (with_local ss q y.0, y.1, y.2)) (part_reads base d ts rest x h e ∙ no_equal d x (h + 1) rest b) ∙ ap (λ z. Read (z, h + 1, rest)) (sym m)

pub part_deep : (base : Ty) (d : ℕ) (q : Place) (ss : List LStmt) (ts rest : List Placed) (x : LVariable) (h : ℕ) → declarator_at base (d - 1) ts ≡ Read (x, h, rest) → begins P.Equal rest ≡ true → d < 2
    → mapped (with_local ss q) (part_at base d) ts ≡ Deep rest
part_deep base d q ss ts rest x h e b le = ap (λ r. r >>= λ y. Read (with_local ss q y.0, y.1, y.2)) (part_reads base d ts rest x h e ∙ no_room d x (h + 1) rest b le)

set_nest : (h j : ℕ) → max (h + 1) (max 1 j + 1) ≡ max h (max 1 j) + 1
set_nest h j = omega arith

after_start : (q : Place) (ss : List LStmt) (x : LVariable) (h : ℕ) (r : Reading Placed Right)
    → (((((r >>= λ y. Read ((tt, y.0), max 1 y.1, y.2)) >>= λ y. Read (behind_of y.0, y.1, y.2)) >>= λ y. Read ((x, Some y.0), max (h + 1) (y.1 + 1), y.2))) >>= λ y. Read (with_local ss q y.0, y.1, y.2))
    ≡ (r >>= λ z. Read (ss ++ begun q x z.0, max h (max 1 z.1) + 1, z.2))
after_start q ss x h (Read z) = rw (set_nest h z.1) refl
after_start q ss x h (Fault left) = refl
after_start q ss x h (Deep left) = refl

with_room : (d : ℕ) (x : LVariable) (h : ℕ) (t : Placed) (rest : List Placed) → is_mark P.Equal t.lexeme ≡ true → 2 ≤ d
    → behind_part d x h (t ∷ rest) ≡ (start_at (below d) rest >>= λ y. Read ((x, Some y.0), max h (y.1 + 1), y.2))
with_room d x h t rest e le = rw (e, part_free d le) refl

-- a local with one
pub part_set : (base : Ty) (d : ℕ) (q : Place) (ss : List LStmt) (ts : List Placed) (t : Placed) (rest : List Placed) (x : LVariable) (h : ℕ) → declarator_at base (d - 1) ts ≡ Read (x, h, t ∷ rest) → is_mark P.Equal t.lexeme ≡ true → 2 ≤ d
    → mapped (with_local ss q) (part_at base d) ts ≡ started_at ss q x h (d - 1) rest
part_set base d q ss ts t rest x h e b le =
    subst (λ z. mapped (with_local ss q) (part_at base d) ts ≡ started_at ss q x h z rest) (below_is d)
    (ap (λ r. r >>= λ y. Read (with_local ss q y.0, y.1, y.2)) (part_reads base d ts (t ∷ rest) x h e ∙ with_room d x (h + 1) t rest b le) ∙ after_start q ss x h (right_at (below d) rest))

-- with the mark in the code's tokens
pub part_set_at : (names : Names) (base : Ty) (d : ℕ) (q : Place) (ss : List LStmt) (ts : List Placed) (left : List Token) (p : Place) (behind : List Token) (x : LVariable) (h : ℕ) → declarator_at base (d - 1) ts ≡ Read (x, h, placed names left)
    → left ≡ record { place = p; kind = T.Punctuator P.Equal } ∷ behind → 2 ≤ d → mapped (with_local ss q) (part_at base d) ts ≡ started_at ss q x h (d - 1) (placed names behind)
part_set_at names base d q ss ts left p behind x h e i le = part_set base d q ss ts (mark p P.Equal) (placed names behind) x h (e ∙ ap (λ z. Read (x, h, placed names z)) i) refl le

-- how they go on
abbrev locals_links : Ty → ℕ → Linking Placed (Unit {0}) (List Local) Local
locals_links base d = several (λ t. is_mark P.Comma t.lexeme) false (after (λ t. is_mark P.Comma t.lexeme) (part_at base d))

-- The locals of a declaration.
pub read_is : {A : Type 0} (x y : A × ℕ × List Placed) → Read x ≡ Read y → x ≡ y
read_is x y e = cc

with_part : (q : Place) (ss ms : List LStmt) (h : ℕ) (rest : List Placed) (r : Reading Placed Local) → (r >>= λ y. Read (with_local ss q y.0, y.1, y.2)) ≡ Read (ms, h, rest) → (x : Local) × (r ≡ Read (x, h, rest)) × (ms ≡ ss ++ local_of q x)
with_part q ss ms h rest (Read z) e =
    let i = read_is (with_local ss q z.0, z.1, z.2) (ms, h, rest) e in
    (z.0, ap (λ y. Read (z.0, y.1, y.2)) i, sym (ap (λ y. y.0) i))
with_part q ss ms h rest (Fault left) e = absurd cc
with_part q ss ms h rest (Deep left) e = absurd cc

pub parts_first : (base : Ty) (d : ℕ) (q : Place) (ss ms : List LStmt) (ts : List Placed) (h : ℕ) (rest : List Placed) → 1 ≤ d → mapped (with_local ss q) (part_at base d) ts ≡ Read (ms, h, rest)
    → ((xs : List Local) × (ms ≡ ss ++ locals_of q xs) × (locals_at ss q base d ts ≡ more_locals_at ss q base d xs h rest)) × (1 ≤ h)
parts_first base d q ss ms ts h rest le e =
    let k = with_part q ss ms h rest (part_at base d ts) e in (
      (k.0 ∷ [], k.2 ∙ ap (λ z. ss ++ z) (sym (append-nil (local_of q k.0))), ap (λ r. ((r >>= λ y. Read (y.0 ∷ [], y.1, y.2)) >>= λ y. links (locals_links base d) y.0 y.1 y.2) >>= λ y. Read (ss ++ locals_of q y.0, y.1, y.2)) k.1),
      (read_nest (part_exact d base) d le (omega arith) ts (k.0, h, rest) k.1).0,
    )

locals_end : (q : Place) (xs : List Local) (x : Local) → locals_of q (xs ++ x ∷ []) ≡ locals_of q xs ++ local_of q x
locals_end q [] x = append-nil (local_of q x)
locals_end q (y ∷ xs) x = ap (λ z. local_of q y ++ z) (locals_end q xs x) ∙ sym (append_assoc (local_of q y) (locals_of q xs) (local_of q x))

on_comma : (base : Ty) (d : ℕ) (xs : List Local) (h : ℕ) (t : Placed) (rest : List Placed) → 1 ≤ h → h ≤ d → is_mark P.Comma t.lexeme ≡ true
    → links (locals_links base d) xs h (t ∷ rest) ≡ (part_at base d rest >>= λ z. links (locals_links base d) (xs ++ z.0 ∷ []) (max h z.1) z.2)
on_comma base d xs h t rest lo hi e = separated_on (marks P.Comma) (part_exact d base) (comma_after base) d (omega arith) xs h t rest lo hi e

pub parts_next : (names : Names) (base : Ty) (d : ℕ) (q : Place) (ss ms ns : List LStmt) (h j : ℕ) (left : List Token) (p : Place) (behind : List Token) (rest ts : List Placed) → 1 ≤ h → h ≤ d
    → left ≡ record { place = p; kind = T.Punctuator P.Comma } ∷ behind → mapped (with_local ms q) (part_at base d) (placed names behind) ≡ Read (ns, j, rest)
    → ((xs : List Local) × (ms ≡ ss ++ locals_of q xs) × (locals_at ss q base d ts ≡ more_locals_at ss q base d xs h (placed names left)))
    → ((xs : List Local) × (ns ≡ ss ++ locals_of q xs) × (locals_at ss q base d ts ≡ more_locals_at ss q base d xs (max h j) rest))
parts_next names base d q ss ms ns h j left p behind rest ts lo hi i e (xs, m, r) =
    let k = with_part q ms ns j rest (part_at base d (placed names behind)) e in (
      xs ++ k.0 ∷ [],
      k.2 ∙ (ap (λ z. z ++ local_of q k.0) m ∙ (append_assoc ss (locals_of q xs) (local_of q k.0) ∙ ap (λ z. ss ++ z) (sym (locals_end q xs k.0)))),
      r ∙ (ap (λ z. more_locals_at ss q base d xs h (placed names z)) i ∙ ap (λ z. z >>= λ y. Read (ss ++ locals_of q y.0, y.1, y.2)) (on_comma base d xs h (mark p P.Comma) (placed names behind) lo hi refl ∙ ap (λ z. z >>= λ y. links (locals_links base d) (xs ++ y.0 ∷ []) (max h y.1) y.2) k.1)),
    )

stops_here : (base : Ty) (d : ℕ) (xs : List Local) (h : ℕ) (ts : List Placed) → begins P.Comma ts ≡ false → links (locals_links base d) xs h ts ≡ Read (xs, h, ts)
stops_here base d xs h [] e = links_end (locals_links base d) xs h
stops_here base d xs h (t ∷ rest) e = links_stop (locals_links base d) xs h t rest (rw e refl)

pub parts_end : (base : Ty) (d : ℕ) (q : Place) (ss ms : List LStmt) (h : ℕ) (rest ts : List Placed) → begins P.Comma rest ≡ false
    → ((xs : List Local) × (ms ≡ ss ++ locals_of q xs) × (locals_at ss q base d ts ≡ more_locals_at ss q base d xs h rest)) → locals_at ss q base d ts ≡ Read (ms, h, rest)
parts_end base d q ss ms h rest ts e (xs, m, r) = r ∙ (ap (λ z. z >>= λ y. Read (ss ++ locals_of q y.0, y.1, y.2)) (stops_here base d xs h rest e) ∙ ap (λ z. Read (z, h, rest)) (sym m))

-- a refusal says nothing of what was read
abbrev pub Refused : {A : Type 0} → GRefusal.Refusal → Reading Placed A → Type 0
Refused R.Memory r = Unit {0}
Refused (R.Syntax n) r = (left : List Placed) × (length left ≡ n) × (r ≡ Fault left)
Refused (R.Deep n) r = (left : List Placed) × (length left ≡ n) × (r ≡ Deep left)

pub refused_then : {A B : Type 0} (e : GRefusal.Refusal) (r : Reading Placed A) (f : A × ℕ × List Placed → Reading Placed B) → Refused e r → Refused e (r >>= f)
refused_then R.Memory r f g = tt
refused_then (R.Syntax n) r f g = (g.0, g.1, rw g.2 refl)
refused_then (R.Deep n) r f g = (g.0, g.1, rw g.2 refl)

-- what was refused of a local is refused of the declaration
with_refusal_list : {B : Type 0} (e : GRefusal.Refusal) (q : Place) (ss : List LStmt) (r : Reading Placed Local) (f : Local × ℕ × List Placed → Reading Placed B)
    → Refused e (r >>= λ y. Read (with_local ss q y.0, y.1, y.2)) → Refused e (r >>= f)
with_refusal_list R.Memory q ss r f g = tt
with_refusal_list (R.Syntax n) q ss (Read z) f g = let i = g.2 in absurd cc
with_refusal_list (R.Syntax n) q ss (Fault left) f g = let i = g.2 in (g.0, g.1, cc)
with_refusal_list (R.Syntax n) q ss (Deep left) f g = let i = g.2 in absurd cc
with_refusal_list (R.Deep n) q ss (Read z) f g = let i = g.2 in absurd cc
with_refusal_list (R.Deep n) q ss (Fault left) f g = let i = g.2 in absurd cc
with_refusal_list (R.Deep n) q ss (Deep left) f g = let i = g.2 in (g.0, g.1, cc)

pub parts_fail : (e : GRefusal.Refusal) (names : Names) (base : Ty) (d : ℕ) (q : Place) (ss ms : List LStmt) (h : ℕ) (left : List Token) (p : Place) (behind : List Token)
    (ts : List Placed) → 1 ≤ h → h ≤ d → left ≡ record { place = p; kind = T.Punctuator P.Comma } ∷ behind → Refused e (mapped (with_local ms q) (part_at base d) (placed names behind))
    → ((xs : List Local) × (ms ≡ ss ++ locals_of q xs) × (locals_at ss q base d ts ≡ more_locals_at ss q base d xs h (placed names left))) → Refused e (locals_at ss q base d ts)
parts_fail e names base d q ss ms h left p behind ts lo hi i g (xs, m, r) =
    let all : locals_at ss q base d ts ≡ ((part_at base d (placed names behind) >>= λ y. links (locals_links base d) (xs ++ y.0 ∷ []) (max h y.1) y.2) >>= λ y. Read (ss ++ locals_of q y.0, y.1, y.2)) =
    r ∙ (ap (λ z. more_locals_at ss q base d xs h (placed names z)) i ∙ ap (λ z. z >>= λ y. Read (ss ++ locals_of q y.0, y.1, y.2)) (on_comma base d xs h (mark p P.Comma) (placed names behind) lo hi refl)) in
    subst (λ z. Refused e z) (sym all)
    (refused_then e (part_at base d (placed names behind) >>= λ y. links (locals_links base d) (xs ++ y.0 ∷ []) (max h y.1) y.2) (λ y. Read (ss ++ locals_of q y.0, y.1, y.2))
    (with_refusal_list e q ms (part_at base d (placed names behind)) (λ y. links (locals_links base d) (xs ++ y.0 ∷ []) (max h y.1) y.2) g))

-- an end begins with no mark
pub empty_begins : (names : Names) (ts : List Token) → length ts ≡ 0 → begins P.Comma (placed names ts) ≡ false
empty_begins names [] e = refl
empty_begins names (t ∷ rest) e = absurd (omega arith)

-- The first token's place, and the type of a declaration.
with_type : (ty : Ty) (rest : List Placed) (r : Reading Placed (Ty × Ending)) → (r >>= λ x. Read (only_type x.0, x.1, x.2)) ≡ Read (ty, 0, rest) → (e : Ending) × (r ≡ Read ((ty, e), 0, rest))
with_type ty rest (Read z) i =
    let k = read_is (only_type z.0, z.1, z.2) (ty, 0, rest) i in
    (z.0.1, ap (λ y. Read ((y.0, z.0.1), y.1, y.2)) k)
with_type ty rest (Fault left) i = absurd cc
with_type ty rest (Deep left) i = absurd cc

with_zero : (q : Place) (ss : List LStmt) (t : Ty × Ending) (r : Reading Placed (List Local))
    → ((r >>= λ y. Read (((q, t), y.0), max 0 y.1, y.2)) >>= λ y. Read (with_locals ss y.0, y.1, y.2)) ≡ (r >>= λ y. Read (ss ++ locals_of q y.0, y.1, y.2))
with_zero q ss t (Read z) = let m : max 0 z.1 ≡ z.1 = omega arith in rw m refl
with_zero q ss t (Fault left) = refl
with_zero q ss t (Deep left) = refl

pub begin_at : (names : Names) (ts : List Token) (t : Token) (rest : List Token) → ts ≡ t ∷ rest → begin (placed names ts) ≡ t.place
begin_at names ts t rest e = rw e refl

pub local_is : (names : Names) (ss : List LStmt) (d : ℕ) (ts : List Token) (t : Token) (more : List Token) (ty : Ty) (rest : List Placed) → ts ≡ t ∷ more → base_reader d (placed names ts) ≡ Read (ty, 0, rest)
    → mapped (with_locals ss) (local_at d) (placed names ts) ≡ locals_at ss t.place ty d rest
local_is names ss d ts t more ty rest e i =
    let k = with_type ty rest (base_at d (placed names ts)) i in
    ap (λ r. ((r >>= λ x. Read ((begin (placed names ts), x.0), x.1, x.2)) >>= λ x. separated (λ t. is_mark P.Comma t.lexeme) (part_at x.0.1.0 d) x.2 >>= λ y. Read ((x.0, y.0), max x.1 y.1, y.2)) >>= λ y. Read (with_locals ss y.0, y.1, y.2)) k.1
    ∙ (with_zero (begin (placed names ts)) ss (ty, k.0) (separated (λ t. is_mark P.Comma t.lexeme) (part_at ty d) rest) ∙ ap (λ q. locals_at ss q ty d rest) (begin_at names ts t more e))

pub bind_refused : {A B C : Type 0} (e : GRefusal.Refusal) (r : Reading Placed A) (make : A → C) (f : A × ℕ × List Placed → Reading Placed B) → Refused e (r >>= λ x. Read (make x.0, x.1, x.2)) → Refused e (r >>= f)
bind_refused R.Memory r make f g = tt
bind_refused (R.Syntax n) (Read z) make f g = let i = g.2 in absurd cc
bind_refused (R.Syntax n) (Fault left) make f g = let i = g.2 in (g.0, g.1, cc)
bind_refused (R.Syntax n) (Deep left) make f g = let i = g.2 in absurd cc
bind_refused (R.Deep n) (Read z) make f g = let i = g.2 in absurd cc
bind_refused (R.Deep n) (Fault left) make f g = let i = g.2 in absurd cc
bind_refused (R.Deep n) (Deep left) make f g = let i = g.2 in (g.0, g.1, cc)

pub local_fails : (e : GRefusal.Refusal) (ss : List LStmt) (d : ℕ) (ts : List Placed) → Refused e (base_reader d ts) → Refused e (mapped (with_locals ss) (local_at d) ts)
local_fails e ss d ts g =
    refused_then e (bind (standing (base_at d)) (λ v. separated (λ t. is_mark P.Comma t.lexeme) (part_at v.1.0 d)) ts) (λ y. Read (with_locals ss y.0, y.1, y.2))
    (refused_then e (standing (base_at d) ts) (λ x. separated (λ t. is_mark P.Comma t.lexeme) (part_at x.0.1.0 d) x.2 >>= λ y. Read ((x.0, y.0), max x.1 y.1, y.2))
    (bind_refused e (base_at d ts) only_type (λ x. Read ((begin ts, x.0), x.1, x.2)) g))
