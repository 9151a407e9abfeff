-- Declarations of locals in the words of the grammar.
use Rattle.std.proofs.Common.{◌≡◌, ℕ, ◌+◌, true, List, [], ◌∷◌, ◌++◌, Some, None, max, refl, sym, ap, ◌∙◌, arith}
use Rattle.std.proofs.lemmas.List.{append-nil}
use Rattle.cpc_base.specs.declared.stop.Place.{Place}
use Rattle.cpc_tree.specs.declared.token.Punctuator.TheVariants as P
use Rattle.cpc_tree.specs.Tokens.{Placed}
use Rattle.cpc_tree.specs.Syntax.{Ty}
use Rattle.cpc_tree.specs.Located.{LStmt, LVariable}
use Rattle.cpc_tree.specs.TypeGrammar.{mark, ReadsDeclarator}
use Rattle.cpc_tree.specs.StmtGrammar.{begin, Right, ReadsRight, ReadsLocalPart, unset, set, ReadsLocalRow, last_local, more_locals, ReadsLocal, local}
use Rattle.cpc_parser_reading.specs.Phrase.{Nothing, After, Both, Bound, Mapped, Made}
use Rattle.cpc_parser_reading.specs.Lists.{Separated, alone, and_more}
use Rattle.cpc_parser_reading.specs.Operators.{Tailed, bare, tailed}
use Rattle.cpc_parser_statements.specs.LocalReaders.{Local, local_of, locals_of, itself, behind_of, Locals, declared}
use Rattle.cpc_parser_types.proofs.Bases.{Words}
use Rattle.cpc_parser_types.proofs.BaseWords.{of_base, to_base}
use Rattle.cpc_parser_statements.proofs.Standing.{Standing}
use Rattle.cpc_parser_statements.proofs.Marks.{as_mark, mark_is}
use Rattle.cpc_parser_types.specs.Begins.{is_mark}

-- an initialiser, in the readers' words
abbrev pub Start : List Placed → Right → ℕ → Type 0
Start = Mapped behind_of (Both (Made itself Nothing) ReadsRight)

of_start : (f : List Placed) (r : Right) (h : ℕ) → Start f r h → (j : ℕ) × (h ≡ max 1 j) × ReadsRight f r j
of_start f r h (v, e, b) =
    let (u, i, e1, n, (none, z)) = b.first in
    let m : h ≡ max 1 b.j = omega (arith, b.nest, n, z) in
    (b.j, m, rw (b.whole, none, e) b.second)

to_start : (f : List Placed) (r : Right) (j : ℕ) → ReadsRight f r j → Start f r (max 1 j)
to_start f r j x = ((tt, r), refl, record { left = []; right = f; i = 1; j = j; whole = refl; nest = refl; first = (tt, 0, refl, refl, (refl, refl)); second = x })

-- an initialiser may follow any declarator
abbrev pub Any' : LVariable → Type 0
Any' x = Unit {0}

-- a declared local
abbrev pub Part : Ty → List Placed → Local → ℕ → Type 0
Part base = Tailed (λ h j. max h (j + 1)) (Made itself (ReadsDeclarator base)) Any' (After (λ t. is_mark P.Equal t.lexeme) Start)

of_set : (q : Place) (base : Ty) (f k : List Placed) (t : Placed) (x : LVariable) (r : Right) (i j m : ℕ) → ReadsDeclarator base f x i → is_mark P.Equal t.lexeme ≡ true → m ≡ max 1 j → ReadsRight k r j
    → ReadsLocalPart q base (f ++ t ∷ k) (local_of q (x, Some r)) (max (i + 1) (m + 1))
of_set q base f k t x r i j m d e n y =
    let h : max (i + 1) (m + 1) ≡ max i (max 1 j) + 1 = omega (arith, n) in
    rw (h, as_mark t P.Equal (mark_is P.Equal t.lexeme e)) (set f k t.place x r i j d y)

of_part : (q : Place) (base : Ty) (f : List Placed) (x : Local) (h : ℕ) → Part base f x h → ReadsLocalPart q base f (local_of q x) h
of_part q base f x h (bare g a i (w, j, e, n, r)) = rw (e, n) (unset g w j r)
of_part q base f x h (tailed g k a b i j (w, u, e, n, r) ok (t, l, e1, p, s)) =
    let k = of_start l b j s in
    rw (e, n, e1) (of_set q base g l t w b u k.0 j r p k.1 k.2)

to_part : (q : Place) (base : Ty) (f : List Placed) (ss : List LStmt) (h : ℕ) → ReadsLocalPart q base f ss h → (x : Local) × (ss ≡ local_of q x) × Part base f x h
to_part q base f ss h (unset g x i r) = ((x, None), refl, bare g x (i + 1) (x, i, refl, refl, r))
to_part q base f ss h (set g k o x r i j d y) =
    let m : max i (max 1 j) + 1 ≡ max (i + 1) (max 1 j + 1) = omega arith in
    ((x, Some r), refl, rw m (tailed g (mark o P.Equal ∷ k) x r (i + 1) (max 1 j) (x, i, refl, refl, d) tt (mark o P.Equal, k, refl, refl, to_start k r j y)))

-- locals with (marks P.Comma) between them
abbrev pub Parts : Ty → List Placed → List Local → ℕ → Type 0
Parts base = Separated (λ t. is_mark P.Comma t.lexeme) (Part base)

of_parts : (q : Place) (base : Ty) (f : List Placed) (xs : List Local) (h : ℕ) → Parts base f xs h → ReadsLocalRow q base f (locals_of q xs) h
of_parts q base f xs h (alone g x i r) = rw (append-nil (local_of q x)) (last_local g (local_of q x) i (of_part q base g x i r))
of_parts q base f xs h (and_more g k t x ys i j r p m) =
    rw (as_mark t P.Comma (mark_is P.Comma t.lexeme p)) (more_locals g k t.place (local_of q x) (locals_of q ys) i j (of_part q base g x i r) (of_parts q base k ys j m))

to_parts : (q : Place) (base : Ty) (f : List Placed) (ss : List LStmt) (h : ℕ) → ReadsLocalRow q base f ss h → (xs : List Local) × (ss ≡ locals_of q xs) × Parts base f xs h
to_parts q base f ss h (last_local g rs i r) =
    let k = to_part q base g rs i r in
    (k.0 ∷ [], k.1 ∙ sym (append-nil (local_of q k.0)), alone g k.0 i k.2)
to_parts q base f ss h (more_locals g l o rs us i j r m) =
    let k = to_part q base g rs i r in
    let ks = to_parts q base l us j m in
    (k.0 ∷ ks.0, ap (λ z. z ++ us) k.1 ∙ ap (λ z. local_of q k.0 ++ z) ks.1, and_more g l (mark o P.Comma) k.0 ks.0 i j k.2 refl ks.2)

-- a declaration, in the readers' words
abbrev pub Declared : List Placed → Locals → ℕ → Type 0
Declared = Bound (Standing Words) (λ v. Parts v.1.0)

-- A declaration in the words of the grammar, and back.
pub of_declared : (f : List Placed) (v : Locals) (h : ℕ) → Declared f v h → ReadsLocal f (declared v) h
of_declared f v h b =
    let k = of_base b.left v.0.1 b.i b.first.1 in
    let m : h ≡ b.j = omega (arith, b.nest, k.1) in
    rw (b.whole, m, b.first.0) (local b.left b.right v.0.1.0 (locals_of (begin b.left) v.1) 0 b.j k.0 (of_parts (begin b.left) v.0.1.0 b.right v.1 b.j b.second))

pub to_declared : (f : List Placed) (ss : List LStmt) (h : ℕ) → ReadsLocal f ss h → (v : Locals) × (ss ≡ declared v) × Declared f v h
to_declared f ss h (local a g base rs i j r m) =
    let e = to_base a base i r in
    let k = to_parts (begin a) base g rs j m in
    (((begin a, (base, e.0)), k.0), k.1, record { left = a; right = g; i = 0; j = j; whole = refl; nest = omega arith; first = (refl, e.1); second = k.2 })
