-- How code goes along the readers of items.
use Rattle.std.proofs.Common.{◌≡◌, ℕ, ◌<◌, Bool, true, false, List, [], ◌∷◌, ◌++◌, map, max, Option, Some, None, if◌then◌else◌, ◌+◌, Result, refl, sym, ap, subst, append_assoc, ◌∙◌, nat_lt, arith}
use Rattle.cpc_base.specs.declared.stop.Place.{Place}
use Rattle.cpc_base.proofs.Truth.{lt_zero}
use Rattle.cpc_tree.specs.declared.program.Mode.{Mode}
use Rattle.cpc_tree.specs.declared.program.Mode.TheVariants as M
use Rattle.cpc_tree.specs.declared.token.Punctuator.TheVariants as P
use Rattle.cpc_tree.specs.Tokens.{Lexeme, Mark, Placed}
use Rattle.cpc_tree.specs.Syntax.{Ty, TyStruct}
use Rattle.cpc_tree.specs.StmtGrammar.{begin}
use Rattle.cpc_parser_types.specs.Views.{Gives}
use Rattle.cpc_parser_types.specs.declared.refusal.Refusal.{Refusal}
use Rattle.cpc_tree.specs.Located.{Ident, LExpr, LVariable, LParameter, LItem, LFunctionItem, LStmt}
use Rattle.cpc_tree.specs.ItemGrammar.{Head}
use Rattle.cpc_parser_reading.specs.Reading.{Reading, Read, Fault, Deep, ◌>>=◌, one, after, before, below, either}
use Rattle.cpc_parser_reading.specs.Lists.{many}
use Rattle.cpc_parser_types.specs.TypeReaders.{Ending, ident_of, base_at, is_comma}
use Rattle.cpc_parser_types.specs.TypeViews.{base_reader}
use Rattle.cpc_parser_types.specs.Begins.{is_mark, begins}
use Rattle.cpc_parser_statements.specs.StmtReaders.{block_at, block_of}
use Rattle.cpc_parser_statements.proofs.Braced.{braced_is}
use Rattle.cpc_parser_types.specs.Declarators.{stars_at}
use Rattle.cpc_parser_statements.specs.CodeViews.{braced_at}
use Rattle.cpc_parser.specs.ItemReaders.{head_of, head_at, Begins, behind_class, has_body, behind_at, function_of, second, moded_at, tagged_at, based_at, structure_at, plain_at, further_at, is_brace, is_semicolon, First, Seen, Function, seen, first_at, global_of, global_at, globals_of, globals_at}
use Rattle.cpc_parser.specs.ItemViews.{flat, onto, seen_at, row_at, starting_at, signature_at}

-- behind a part that was read
pub onward : {A B : Type 0} (s : Reading Placed B) (r : Reading Placed A) (k : A × ℕ × List Placed → Reading Placed B) (x : A × ℕ × List Placed) → s ≡ (r >>= k) → r ≡ Read x → s ≡ k x
onward s r k x e g = e ∙ ap (λ u. u >>= k) g

-- what is given of one reading is given of the same
pub gives_as : {X A : Type 0} (view : X → A × ℕ × List Placed) (x : Result X Refusal) (r s : Reading Placed A) → r ≡ s → Gives view x s → Gives view x r
gives_as view x r s e g = subst (λ u. Gives view x u) (sym e) g

-- a head from its parts
abbrev pub made_head : Ty → Ident → List LParameter → Head
made_head t x ps = record { called = x; result = t; parameters = ps }

-- the parameters of a head, its name, its type, and its base, one behind another
abbrev pub with_signature : ℕ → Ty → Ident × ℕ × List Placed → Reading Placed Head
with_signature d t x = flat (signature_at d) x.2 >>= λ p. Read (made_head t x.0 p.0, 0, p.2)

abbrev pub with_name : ℕ → Ty × ℕ × List Placed → Reading Placed Head
with_name d t = one ident_of t.2 >>= λ x. with_signature d t.0 x

abbrev pub with_stars : ℕ → Ty × ℕ × List Placed → Reading Placed Head
with_stars d b = stars_at b.0 d b.2 >>= λ t. with_name d t

module _ (d : ℕ) where
  by_signature : (v : Ty × Ending) (t : Ty) (x : Ident) (i j k : ℕ) (r : Reading Placed (List LParameter))
      → (((((r >>= λ y. Read ((x, y.0), max k y.1, y.2)) >>= λ y. Read ((t, y.0), max j y.1, y.2)) >>= λ y. Read ((v, y.0), max i y.1, y.2)) >>= λ u. Read (head_of u.0, u.1, u.2)) >>= λ u. Read (u.0, 0, u.2))
      ≡ ((r >>= λ y. Read (y.0, 0, y.2)) >>= λ p. Read (made_head t x p.0, 0, p.2))
  by_signature v t x i j k (Read y) = refl
  by_signature v t x i j k (Fault left) = refl
  by_signature v t x i j k (Deep left) = refl

  by_name : (v : Ty × Ending) (t : Ty) (i j : ℕ) (r : Reading Placed Ident)
      → (((((r >>= λ x. signature_at d x.2 >>= λ y. Read ((x.0, y.0), max x.1 y.1, y.2)) >>= λ y. Read ((t, y.0), max j y.1, y.2)) >>= λ y. Read ((v, y.0), max i y.1, y.2)) >>= λ u. Read (head_of u.0, u.1, u.2)) >>= λ u. Read (u.0, 0, u.2))
      ≡ (r >>= λ x. with_signature d t x)
  by_name v t i j (Read x) = by_signature v t x.0 i j x.1 (signature_at d x.2)
  by_name v t i j (Fault left) = refl
  by_name v t i j (Deep left) = refl

  by_stars : (v : Ty × Ending) (i : ℕ) (r : Reading Placed Ty)
      → ((((r >>= λ t. (one ident_of t.2 >>= λ x. signature_at d x.2 >>= λ y. Read ((x.0, y.0), max x.1 y.1, y.2)) >>= λ y. Read ((t.0, y.0), max t.1 y.1, y.2)) >>= λ y. Read ((v, y.0), max i y.1, y.2)) >>= λ u. Read (head_of u.0, u.1, u.2)) >>= λ u. Read (u.0, 0, u.2))
      ≡ (r >>= λ t. with_name d t)
  by_stars v i (Read t) = by_name v t.0 i t.1 (one ident_of t.2)
  by_stars v i (Fault left) = refl
  by_stars v i (Deep left) = refl

  by_base : (r : Reading Placed (Ty × Ending))
      → (((r >>= λ v. (stars_at v.0.0 d v.2 >>= λ t. (one ident_of t.2 >>= λ x. signature_at d x.2 >>= λ y. Read ((x.0, y.0), max x.1 y.1, y.2)) >>= λ y. Read ((t.0, y.0), max t.1 y.1, y.2)) >>= λ y. Read ((v.0, y.0), max v.1 y.1, y.2)) >>= λ u. Read (head_of u.0, u.1, u.2)) >>= λ u. Read (u.0, 0, u.2))
      ≡ ((r >>= λ v. Read (v.0.0, v.1, v.2)) >>= λ b. with_stars d b)
  by_base (Read v) = by_stars v.0 v.1 (stars_at v.0.0 d v.2)
  by_base (Fault left) = refl
  by_base (Deep left) = refl

  -- the head of a function, part behind part
  pub head_steps : (ts : List Placed) → flat (head_at d) ts ≡ (base_reader d ts >>= λ b. with_stars d b)
  head_steps ts = by_base (base_at d ts)

-- the item of a function with a block as its body
abbrev pub function_with : Place → Mode → Head → LStmt → List LItem
function_with q mode x s = LFunctionItem (record { place = q; mode = mode; called = x.called; result = x.result; parameters = x.parameters; body = s }) ∷ []

brace_class : (b : Bool) (k : Lexeme) → is_mark P.LeftBrace k ≡ true → behind_class b k ≡ (if b then Some Begins else None)
brace_class b (Mark P.LeftBrace) e = refl
brace_class b k e = absurd cc

no_body_class : (k : Lexeme) → is_mark P.LeftBrace k ≡ true → behind_class false k ≡ None
no_body_class k e = brace_class false k e

body_class : (k : Lexeme) → is_mark P.LeftBrace k ≡ true → behind_class true k ≡ Some Begins
body_class k e = brace_class true k e

module _ (q : Place) (mode : Mode) (x : Head) (d : ℕ) where
  -- no body may stand there
  pub no_body : (ts : List Placed) → begins P.LeftBrace ts ≡ true → has_body mode x ≡ false → flat (behind_at q mode x d) ts ≡ Fault ts
  no_body [] b e = absurd cc
  no_body (t ∷ ts) b e = rw (e, no_body_class t.lexeme b) refl

  -- there is no room for a body
  pub no_room : (ts : List Placed) → begins P.LeftBrace ts ≡ true → has_body mode x ≡ true → d ≡ 0 → flat (behind_at q mode x d) ts ≡ Deep ts
  no_room [] b e z = absurd cc
  no_room (t ∷ ts) b e z = rw (e, body_class t.lexeme b, z) refl

  with_block : (r : Place) (s : Reading Placed (List LStmt)) → ((s >>= λ y. Read (function_of q mode x r y.0, y.1 + 1, y.2)) >>= λ y. Read (y.0, 0, y.2)) ≡ ((s >>= λ y. Read (block_of r y.0, y.1 + 1, y.2)) >>= λ y. Read (function_with q mode x y.0, 0, y.2))
  with_block r (Read y) = refl
  with_block r (Fault left) = refl
  with_block r (Deep left) = refl

  has_room : (d : ℕ) → 0 < d → nat_lt d 1 ≡ false
  has_room d l = grind arith

  -- a body
  pub with_body : (ts : List Placed) → begins P.LeftBrace ts ≡ true → has_body mode x ≡ true → 0 < d → flat (behind_at q mode x d) ts ≡ (braced_at d ts >>= λ y. Read (function_with q mode x y.0, 0, y.2))
  with_body [] b e l = absurd cc
  with_body (t ∷ ts) b e l = rw (e, body_class t.lexeme b, has_room d l, braced_is d t ts b) (with_block t.place (block_at (below d) ts))

-- A function or prototype behind its word: the head, and what stands behind it.
abbrev pub pushed : List LItem → List LItem × ℕ × List Placed → Reading Placed (List LItem)
pushed old y = Read (old ++ y.0, 0, y.2)

abbrev pub with_behind : List LItem → Place → Mode → ℕ → Head × ℕ × List Placed → Reading Placed (List LItem)
with_behind old q mode d x = flat (behind_at q mode x.0 d) x.2 >>= λ y. pushed old y

module _ (old : List LItem) (q : Place) (mode : Mode) (d : ℕ) where
  by_behind : (x : Head) (h : ℕ) (r : Reading Placed (List LItem))
      → (((r >>= λ y. Read ((x, y.0), max h y.1, y.2)) >>= λ u. Read (second u.0, u.1, u.2)) >>= λ y. Read (old ++ y.0, 0, y.2)) ≡ ((r >>= λ y. Read (y.0, 0, y.2)) >>= λ y. pushed old y)
  by_behind x h (Read y) = refl
  by_behind x h (Fault left) = refl
  by_behind x h (Deep left) = refl

  by_head : (r : Reading Placed Head)
      → (((r >>= λ x. behind_at q mode x.0 d x.2 >>= λ y. Read ((x.0, y.0), max x.1 y.1, y.2)) >>= λ u. Read (second u.0, u.1, u.2)) >>= λ y. Read (old ++ y.0, 0, y.2)) ≡ ((r >>= λ x. Read (x.0, 0, x.2)) >>= λ x. with_behind old q mode d x)
  by_head (Read x) = by_behind x.0 x.1 (behind_at q mode x.0 d x.2)
  by_head (Fault left) = refl
  by_head (Deep left) = refl

  pub moded_steps : (ts : List Placed) → onto old (moded_at q mode d) ts ≡ (flat (head_at d) ts >>= λ x. with_behind old q mode d x)
  moded_steps ts = by_head (head_at d ts)

-- what is put behind other items, without the part before it
kept : {A : Type 0} (old : List LItem) (x : A) (h : ℕ) (r : Reading Placed (List LItem)) → (((r >>= λ y. Read ((x, y.0), max h y.1, y.2)) >>= λ u. Read (second u.0, u.1, u.2)) >>= λ y. Read (old ++ y.0, 0, y.2)) ≡ (r >>= λ y. Read (old ++ y.0, 0, y.2))
kept old x h (Read y) = refl
kept old x h (Fault left) = refl
kept old x h (Deep left) = refl

module _ (old : List LItem) (q : Place) (d : ℕ) where
  -- what stands behind a tag
  abbrev pub behind_tag : Ident → List Placed → Reading Placed (List LItem)
  behind_tag tag = onto old (either (λ t. is_brace t.lexeme) 0 d (structure_at tag d) (plain_at q (TyStruct tag.text) d))

  by_tag : (r : Reading Placed Ident)
      → (((r >>= λ x. either (λ t. is_brace t.lexeme) 0 d (structure_at x.0 d) (plain_at q (TyStruct x.0.text) d) x.2 >>= λ y. Read ((x.0, y.0), max x.1 y.1, y.2)) >>= λ u. Read (second u.0, u.1, u.2)) >>= λ y. Read (old ++ y.0, 0, y.2))
      ≡ (r >>= λ x. behind_tag x.0 x.2)
  by_tag (Read x) = kept old x.0 x.1 (either (λ t. is_brace t.lexeme) 0 d (structure_at x.0 d) (plain_at q (TyStruct x.0.text) d) x.2)
  by_tag (Fault left) = refl
  by_tag (Deep left) = refl

  pub tagged_steps : (ts : List Placed) → onto old (tagged_at q d) ts ≡ (one ident_of ts >>= λ x. behind_tag x.0 x.2)
  tagged_steps ts = by_tag (one ident_of ts)

  pub brace_so : (tag : Ident) (ts : List Placed) → begins P.LeftBrace ts ≡ true → behind_tag tag ts ≡ onto old (structure_at tag d) ts
  brace_so tag [] e = absurd cc
  brace_so tag (t ∷ ts) e = rw (e, lt_zero d) refl

  pub brace_not : (tag : Ident) (ts : List Placed) → begins P.LeftBrace ts ≡ false → behind_tag tag ts ≡ onto old (plain_at q (TyStruct tag.text) d) ts
  brace_not tag [] e = refl
  brace_not tag (t ∷ ts) e = rw e refl

  abbrev with_place : (Ty × Ending) × ℕ × List Placed → Reading Placed (Place × (Ty × Ending))
  with_place x = Read ((q, x.0), x.1, x.2)

  by_base_word : (r : Reading Placed (Ty × Ending))
      → ((((r >>= λ x. with_place x) >>= λ v. plain_at v.0.0 v.0.1.0 d v.2 >>= λ y. Read ((v.0, y.0), max v.1 y.1, y.2)) >>= λ u. Read (second u.0, u.1, u.2)) >>= λ y. Read (old ++ y.0, 0, y.2))
      ≡ ((r >>= λ v. Read (v.0.0, v.1, v.2)) >>= λ b. onto old (plain_at q b.0 d) b.2)
  by_base_word (Read v) = kept old (q, v.0) v.1 (plain_at q v.0.0 d v.2)
  by_base_word (Fault left) = refl
  by_base_word (Deep left) = refl

  pub based_steps : (ts : List Placed) → begin ts ≡ q → onto old (based_at d) ts ≡ (base_reader d ts >>= λ b. onto old (plain_at q b.0 d) b.2)
  based_steps ts e = rw e (by_base_word (base_at d ts))

-- A declaration behind its base type: what stands first, and what stands behind it.
module _ (old : List LItem) (q : Place) (b : Ty) (d : ℕ) where
  abbrev pub behind_seen : Seen → List Placed → Reading Placed (List LItem)
  behind_seen s = onto old (further_at q b s d)

  by_first : (r : Reading Placed First)
      → (((r >>= λ v. further_at q b (seen v.0) d v.2 >>= λ y. Read ((v.0, y.0), max v.1 y.1, y.2)) >>= λ u. Read (second u.0, u.1, u.2)) >>= λ y. Read (old ++ y.0, 0, y.2))
      ≡ (((r >>= λ v. Read (seen v.0, v.1, v.2)) >>= λ v. Read (v.0, 0, v.2)) >>= λ s. behind_seen s.0 s.2)
  by_first (Read v) = kept old v.0 v.1 (further_at q b (seen v.0) d v.2)
  by_first (Fault left) = refl
  by_first (Deep left) = refl

  pub plain_steps : (ts : List Placed) → onto old (plain_at q b d) ts ≡ (flat (seen_at b d) ts >>= λ s. behind_seen s.0 s.2)
  plain_steps ts = by_first (first_at b d ts)

  by_native : (x : Head) (r : Reading Placed (List LItem)) → (r >>= λ y. Read (old ++ y.0, 0, y.2)) ≡ ((r >>= λ y. Read (y.0, 0, y.2)) >>= λ y. pushed old y)
  by_native x (Read y) = refl
  by_native x (Fault left) = refl
  by_native x (Deep left) = refl

  pub native_steps : (x : Head) (ts : List Placed) → behind_seen (Function x) ts ≡ (flat (behind_at q M.Native x d) ts >>= λ y. pushed old y)
  native_steps x ts = by_native x (behind_at q M.Native x d ts)

-- What stands behind the first variable: what it starts with, and further globals.
module _ (old : List LItem) (b : Ty) (x : LVariable) (d : ℕ) where
  -- the row of further globals, with the first before it
  abbrev pub behind_start : Option LExpr → List Placed → Reading Placed (List LItem)
  behind_start o = onto (old ++ global_of (x, o) ∷ []) (row_at b d)

  by_row : (o : Option LExpr) (h : ℕ) (r : Reading Placed (List (LVariable × Option LExpr)))
      → (((r >>= λ y. Read ((o, y.0), max h y.1, y.2)) >>= λ u. Read (globals_of x u.0, u.1, u.2)) >>= λ y. Read (old ++ y.0, 0, y.2))
      ≡ ((r >>= λ y. Read (map global_of y.0, y.1, y.2)) >>= λ y. Read (old ++ global_of (x, o) ∷ [] ++ y.0, 0, y.2))
  by_row o h (Read y) = ap (λ u. Read (u, 0, y.2)) (sym (append_assoc old (global_of (x, o) ∷ []) (map global_of y.0)))
  by_row o h (Fault left) = refl
  by_row o h (Deep left) = refl

  by_start : (r : Reading Placed (Option LExpr))
      → (((r >>= λ o. before (many (λ t. is_comma t.lexeme) 0 d (after (λ t. is_comma t.lexeme) (global_at b d))) (λ t. is_semicolon t.lexeme) o.2 >>= λ y. Read ((o.0, y.0), max o.1 y.1, y.2)) >>= λ u. Read (globals_of x u.0, u.1, u.2)) >>= λ y. Read (old ++ y.0, 0, y.2))
      ≡ ((r >>= λ o. Read (o.0, 0, o.2)) >>= λ o. behind_start o.0 o.2)
  by_start (Read o) = by_row o.0 o.1 (before (many (λ t. is_comma t.lexeme) 0 d (after (λ t. is_comma t.lexeme) (global_at b d))) (λ t. is_semicolon t.lexeme) o.2)
  by_start (Fault left) = refl
  by_start (Deep left) = refl

  pub globals_steps : (ts : List Placed) → onto old (globals_at b x d) ts ≡ (flat (starting_at d) ts >>= λ o. behind_start o.0 o.2)
  globals_steps ts = by_start (starting_at d ts)
