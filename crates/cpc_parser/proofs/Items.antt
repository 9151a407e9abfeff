-- Items are read exactly, and so is a whole program.
use Rattle.std.proofs.Common.{◌≡◌, ℕ, ◌+◌, true, false, is_some, List, [], ◌∷◌, ◌++◌, Option, Some, None, max, refl, sym, ap, subst, ◌∙◌, append_assoc, arith, inl, inr}
use Rattle.cpc_base.specs.declared.stop.Place.{Place}
use Rattle.cpc_num.specs.declared.kinds.Kind.TheVariants as N
use Rattle.cpc_tree.specs.declared.program.Mode.{Mode}
use Rattle.cpc_tree.specs.declared.program.Mode.TheVariants as M
use Rattle.cpc_tree.specs.declared.token.Keyword.TheVariants as K
use Rattle.cpc_tree.specs.declared.token.Punctuator.TheVariants as P
use Rattle.cpc_tree.specs.Tokens.{Lexeme, Word, Mark, Named, Placed}
use Rattle.cpc_tree.specs.Syntax.{Ty, TyInt, TyStruct}
use Rattle.cpc_tree.specs.Located.{Ident, LParameter, LItem, LGlobal}
use Rattle.cpc_tree.specs.TypeGrammar.{word, mark, named, plain, no_star, ReadsKind, char, signed_char, unsigned_char, int, signed, signed_int, unsigned, unsigned_int, long, long_int, signed_long, signed_long_int, unsigned_long, unsigned_long_int, ReadsBase, void_base, kind_base, condvar_base, struct_base}
use Rattle.cpc_tree.specs.StmtGrammar.{begin}
use Rattle.cpc_tree.specs.ItemGrammar.{Head, ReadsMode, native, cps, detached, ReadsPrototypeMode, extern, of_function, ReadsHead, head, all_named, defined, ReadsItem, struct, globals, prototype, ReadsGlobals, last_global, unset, ReadsItems, no_item, items}
use Rattle.cpc_tree.specs.ItemGrammar as I
use Rattle.cpc_parser_reading.specs.Phrase.{One, Mapped, Bound, Either, Headed, OneOf}
use Rattle.cpc_parser_reading.specs.Reading.{mapped}
use Rattle.cpc_parser_reading.specs.Lists.{many, Many, no_more, one_more}
use Rattle.cpc_parser_reading.specs.Exact.{Any, Stops, Opens, Exact, Branch, Starts}
use Rattle.cpc_parser_reading.proofs.Readers.{any_stops, branch, exact_as, exact_bind, exact_either, exact_many, exact_mapped, last_all, exact_one_of, headed_branch, starts_as, starts_bind, starts_mapped, starts_one_of}
use Rattle.cpc_parser_types.specs.Views.{lexeme}
use Rattle.cpc_parser_types.specs.TypeReaders.{Ending, ident_of, starts_base}
use Rattle.cpc_parser_types.proofs.Bases.{Words, WordsEnd, words_exact, name_exact, token, nobody, spot}
use Rattle.cpc_parser_types.proofs.BaseWords.{at, of_base, to_base, named_is}
use Rattle.cpc_parser_statements.proofs.LocalExact.{starts_words}
use Rattle.cpc_parser.specs.ItemReaders.{second, Class, Moded, Tagged, Based, item_class, item_part, item_at, starts_item, declared, has_body, moded_at, tagged_at, based_at, structure_at, is_brace, rows, program_at}
use Rattle.cpc_parser.proofs.Places.{Led, Narrow, Noted, Some_token, narrow_branch, exact_noted, starts_noted}
use Rattle.cpc_parser.proofs.Globals.{led_stops}
use Rattle.cpc_parser.proofs.Fields.{Structure, starts_structure, begins_behind, behind_words, structure_exact}
use Rattle.cpc_parser.proofs.Behinds.{ReadsBehind, ends, begins, behind_exact}
use Rattle.cpc_parser.proofs.Firsts.{function}
use Rattle.cpc_parser.proofs.Plain.{ReadsPlain, variables, called, head_exact, plain_exact, plain_led}

-- The items of each class, in the readers' words.
abbrev TaggedWords : Place → List Placed → List LItem → ℕ → Type 0
TaggedWords q = Mapped second (Bound (One ident_of) (λ tag. Either (Structure tag) (ReadsPlain q (TyStruct tag.text))))

abbrev BasedWords : List Placed → List LItem → ℕ → Type 0
BasedWords = Mapped second (Bound (Noted Words) (λ v. ReadsPlain v.0 v.1.0))

abbrev IsClass : Class → Lexeme → Type 0
IsClass c k = item_class k ≡ Some c

abbrev Parts : Class → List Placed → List LItem → ℕ → Type 0
Parts (Moded mode) = Headed lexeme (IsClass (Moded mode)) (λ t. Mapped second (Bound ReadsHead (λ x. ReadsBehind t.place mode x)))
Parts Tagged = Headed lexeme (IsClass Tagged) (λ t. TaggedWords t.place)
Parts Based = Narrow (IsClass Based) BasedWords

-- the word of a mode
data ModeWord : Lexeme → Mode → Type 0 where
  is_extern : ModeWord (Word K.Extern) M.Extern
  is_cps : ModeWord (Word K.Cps) M.Cps
  is_detached : ModeWord (Word K.Detached) M.Detached

moded_word : (k : Lexeme) (mode : Mode) → item_class k ≡ Some (Moded mode) → ModeWord k mode
moded_word (Word K.Extern) M.Extern e = is_extern
moded_word (Word K.Cps) M.Cps e = is_cps
moded_word (Word K.Detached) M.Detached e = is_detached
moded_word (Word K.Struct) mode e = absurd cc
moded_word k mode e = absurd cc

tagged_word : (k : Lexeme) → item_class k ≡ Some Tagged → k ≡ Word K.Struct
tagged_word (Word K.Struct) e = refl
tagged_word k e = absurd cc

begin_of : (f g : List Placed) → Led (λ k. Unit {0}) f → begin (f ++ g) ≡ begin f
begin_of f g (t, k, e, p) = rw e refl

kind_led : (a : List Placed) (kind : _) → ReadsKind a kind → Led (IsClass Based) a
kind_led a kind (char q) = (_, _, refl, refl)
kind_led a kind (signed_char q r) = (_, _, refl, refl)
kind_led a kind (unsigned_char q r) = (_, _, refl, refl)
kind_led a kind (int q) = (_, _, refl, refl)
kind_led a kind (signed q) = (_, _, refl, refl)
kind_led a kind (signed_int q r) = (_, _, refl, refl)
kind_led a kind (unsigned q) = (_, _, refl, refl)
kind_led a kind (unsigned_int q r) = (_, _, refl, refl)
kind_led a kind (long q) = (_, _, refl, refl)
kind_led a kind (long_int q r) = (_, _, refl, refl)
kind_led a kind (signed_long q r) = (_, _, refl, refl)
kind_led a kind (signed_long_int q r s) = (_, _, refl, refl)
kind_led a kind (unsigned_long q r) = (_, _, refl, refl)
kind_led a kind (unsigned_long_int q r s) = (_, _, refl, refl)

-- how a base type begins
any_led : (a : List Placed) (b : Ty) (i : ℕ) → ReadsBase a b i → Led (λ k. Unit {0}) a
any_led a b i (void_base q) = (_, _, refl, tt)
any_led a b i (condvar_base q) = (_, _, refl, tt)
any_led a b i (struct_base q tag) = (_, _, refl, tt)
any_led a b i (kind_base _ kind r) = let k = kind_led a kind r in (k.0, k.1, k.2, tt)

bodied : (m : List Placed) (mode : Mode) (x : Head) → ReadsPrototypeMode m mode → has_body mode x ≡ true → ReadsMode m mode × (all_named (λ (p : LParameter). p.called) x.parameters ≡ true)
bodied m mode x (extern q) e = absurd cc
bodied m mode x (of_function _ _ native) e = (native, e)
bodied m mode x (of_function _ _ (cps q)) e = (cps q, e)
bodied m mode x (of_function _ _ (detached q)) e = (detached q, e)

of_called : (m f l : List Placed) (q : Place) (mode : Mode) (x : Head) (v : List LItem) (h j : ℕ) → ReadsPrototypeMode m mode → ReadsHead f x h → begin (m ++ f) ≡ q → ReadsBehind q mode x l v j → ReadsItem (m ++ (f ++ l)) v (max h j)
of_called m f l q mode x v h j pm hd e (ends r) = let n : max h 0 ≡ h = omega arith in rw (n, ← e) (prototype m f r mode x h pm hd)
of_called m f l q mode x v h j pm hd e (begins r s g ss i hb blk) = let b = bodied m mode x pm hb in rw (← e) (I.function m f g r s mode x ss h i b.0 hd b.1 blk)

of_plain : (a f : List Placed) (q : Place) (b : Ty) (v : List LItem) (h : ℕ) → ReadsBase a b 0 → begin a ≡ q → ReadsPlain q b f v h → ReadsItem (a ++ f) v h
of_plain a f q b v h base e (variables k r _ _ m) = globals a k r b v 0 h base m
of_plain a f q b v h base e (called k g x _ i j (function k1 l p r t y ps h1 j1 row list) m) =
    let z : List Placed = k1 ++ named y ∷ mark p P.LeftParen ∷ (l ++ mark r P.RightParen ∷ []) in
    rw (← append_assoc a z g) (of_called [] (a ++ z) g q M.Native x v i j (of_function [] M.Native native) (head a k1 l p r b t y ps 0 h1 j1 base row list) (begin_of a z (any_led a b 0 base) ∙ e) m)

mode_of : (q : Place) (k : Lexeme) (mode : Mode) → ModeWord k mode → ReadsPrototypeMode (at q k ∷ []) mode
mode_of q k mode is_extern = extern q
mode_of q k mode is_cps = of_function _ _ (cps q)
mode_of q k mode is_detached = of_function _ _ (detached q)

of_tagged : (q : Place) (f : List Placed) (v : List LItem) (h : ℕ) → TaggedWords q f v h → ReadsItem (word q K.Struct ∷ f) v h
of_tagged q f v h (w, e, y) =
    let o = y.first in
    let m : h ≡ y.j = let n = y.nest in omega (arith, n, o.3) in
    let l : f ≡ named w.0 ∷ y.right = y.whole ∙ ap (λ u. u ++ y.right) (o.1 ∙ ap (λ u. u ∷ []) (named_is o.0 w.0 o.2)) in
    rw (e, m, l) (by_kind w.0 w.1 y.right y.j y.second) where
      by_kind : (tag : Ident) (v : List LItem) (g : List Placed) (j : ℕ) → Either (Structure tag) (ReadsPlain q (TyStruct tag.text)) g v j → ReadsItem (word q K.Struct ∷ named tag ∷ g) v j
      by_kind tag v g j (inl (k, r, s, t, xs, e2, i, m)) = rw (e2, i) (struct k q r s t tag xs j m)
      by_kind tag v g j (inr p) = of_plain (word q K.Struct ∷ named tag ∷ []) g q (TyStruct tag.text) v j (struct_base q tag) refl p

of_item : (f : List Placed) (v : List LItem) (h : ℕ) → OneOf Parts f v h → ReadsItem f v h
of_item f v h (Moded mode, (t, g, e, p, (w, e1, y))) =
    rw (e, e1, y.whole, y.nest) (of_called (t ∷ []) y.left y.right t.place mode w.0 w.1 y.i y.j (mode_of t.place t.lexeme mode (moded_word t.lexeme mode p)) y.first refl y.second)
of_item f v h (Tagged, (t, g, e, p, r)) =
    let i : t ≡ word t.place K.Struct = ap (at t.place) (tagged_word t.lexeme p) in
    rw e (subst (λ u. ReadsItem (u ∷ g) v h) (sym i) (of_tagged t.place g v h r))
of_item f v h (Based, ((w, e, y), l)) =
    let o = y.first in
    let b = of_base y.left w.0.1 y.i o.1 in
    let m : h ≡ y.j = let n = y.nest in omega (arith, n, b.1) in
    rw (e, m, y.whole) (of_plain y.left y.right w.0.0 w.0.1.0 w.1 y.j b.0 (sym o.0) y.second)

to_based : (a f : List Placed) (b : Ty) (i : ℕ) → ReadsBase a b i → Led (IsClass Based) a → (v : List LItem) (h : ℕ) → ReadsPlain (begin a) b f v h → OneOf Parts (a ++ f) v h
to_based a f b i base l v h r =
    let w = to_base a b i base in
    (Based, ((((begin a, (b, w.0)), v), refl, record { left = a; right = f; i = 0; j = h; whole = refl; nest = omega arith; first = (refl, w.1); second = r }), (l.0, l.1 ++ f, ap (λ u. u ++ f) l.2, l.3)))

to_tagged : (q : Place) (tag : Ident) (f : List Placed) (v : List LItem) (h : ℕ) → Either (Structure tag) (ReadsPlain q (TyStruct tag.text)) f v h → OneOf Parts (word q K.Struct ∷ named tag ∷ f) v h
to_tagged q tag f v h r = (Tagged, (word q K.Struct, named tag ∷ f, refl, refl, ((tag, v), refl, record { left = named tag ∷ []; right = f; i = 0; j = h; whole = refl; nest = omega arith; first = (named tag, refl, refl, refl); second = r })))

to_plain : (a f : List Placed) (b : Ty) (i : ℕ) → ReadsBase a b i → (v : List LItem) (h : ℕ) → ReadsPlain (begin a) b f v h → OneOf Parts (a ++ f) v h
to_plain a f b i (void_base q) v h r = to_based a f b i (void_base q) (_, _, refl, refl) v h r
to_plain a f b i (condvar_base q) v h r = to_based a f b i (condvar_base q) (_, _, refl, refl) v h r
to_plain a f b i (kind_base _ kind k) v h r = to_based a f b i (kind_base a kind k) (kind_led a kind k) v h r
to_plain a f b i (struct_base q tag) v h r = to_tagged q tag f v h (inr r)

to_native : (f g : List Placed) (x : Head) (v : List LItem) (h j : ℕ) → ReadsHead f x h → ReadsBehind (begin f) M.Native x g v j → OneOf Parts (f ++ g) v (max h j)
to_native f g x v h j (head a k l p r base t y ps i h1 j1 b row list) m =
    let z : List Placed = k ++ named y ∷ mark p P.LeftParen ∷ (l ++ mark r P.RightParen ∷ []) in
    let e : begin (a ++ z) ≡ begin a = begin_of a z (any_led a base i b) in
    rw (append_assoc a z g) (to_plain a (z ++ g) base i b v (max h j) (called z g x v h j (function k l p r t y ps h1 j1 row list) (subst (λ u. ReadsBehind u M.Native x g v j) e m)))

to_moded : (t : Placed) (mode : Mode) → item_class t.lexeme ≡ Some (Moded mode) → (f g : List Placed) (x : Head) (v : List LItem) (h j : ℕ) → ReadsHead f x h → ReadsBehind t.place mode x g v j → OneOf Parts (t ∷ (f ++ g)) v (max h j)
to_moded t mode e f g x v h j hd m = (Moded mode, (t, f ++ g, refl, e, ((x, v), refl, record { left = f; right = g; i = h; j = j; whole = refl; nest = refl; first = hd; second = m })))

to_prototype : (m k : List Placed) (q : Place) (mode : Mode) (x : Head) (h : ℕ) → ReadsPrototypeMode m mode → ReadsHead k x h → OneOf Parts (m ++ (k ++ mark q P.Semicolon ∷ [])) (declared (begin (m ++ k)) mode x tt) (max h 0)
to_prototype m k q mode x h (extern p) hd = to_moded (word p K.Extern) M.Extern refl k _ x _ h 0 hd (ends q)
to_prototype m k q mode x h (of_function _ _ native) hd = to_native k _ x _ h 0 hd (ends q)
to_prototype m k q mode x h (of_function _ _ (cps p)) hd = to_moded (word p K.Cps) M.Cps refl k _ x _ h 0 hd (ends q)
to_prototype m k q mode x h (of_function _ _ (detached p)) hd = to_moded (word p K.Detached) M.Detached refl k _ x _ h 0 hd (ends q)

to_item : (f : List Placed) (v : List LItem) (h : ℕ) → ReadsItem f v h → OneOf Parts f v h
to_item f v h (struct g q r s t tag xs _ m) = to_tagged q tag (mark r P.LeftBrace ∷ (g ++ mark s P.RightBrace ∷ mark t P.Semicolon ∷ [])) v h (inl (g, r, s, t, xs, refl, refl, m))
to_item f v h (globals a k q b _ i _ base m) = to_plain a (k ++ mark q P.Semicolon ∷ []) b i base v h (variables k q v h m)
to_item f v h (I.function m k g q r mode x ss i j native hd an blk) = to_native k _ x v i (j + 1) hd (begins q r g ss j an blk)
to_item f v h (I.function m k g q r mode x ss i j (cps p) hd an blk) = to_moded (word p K.Cps) mode refl k _ x v i (j + 1) hd (begins q r g ss j an blk)
to_item f v h (I.function m k g q r mode x ss i j (detached p) hd an blk) = to_moded (word p K.Detached) mode refl k _ x v i (j + 1) hd (begins q r g ss j an blk)
to_item f v h (prototype m k q mode x _ pm hd) = let n : max h 0 ≡ h = omega arith in subst (λ u. OneOf Parts f v u) n (to_prototype m k q mode x h pm hd)

-- how an item begins
item_starts : (c : Class) (k : Lexeme) → item_class k ≡ Some c → starts_item k ≡ true
item_starts c k e = rw e refl

class_by : (o : Option Class) → is_some o ≡ true → (c : Class) × (o ≡ Some c)
class_by (Some c) e = (c, refl)
class_by None e = absurd cc

words_solid : (f : List Placed) (v : Ty × Ending) (h : ℕ) → Words f v h → Led Some_token f
words_solid f v h r = let b = (starts_words.head f v h r) in (b.0, b.1, b.2, tt)

based_solid : (f : List Placed) (v : List LItem) (h : ℕ) → BasedWords f v h → Led Some_token f
based_solid f v h (w, e, y) =
    let b = words_solid y.left w.0.1 y.i y.first.1 in
    (b.0, b.1 ++ y.right, y.whole ∙ ap (λ u. u ++ y.right) b.2, tt)

based_starts : (k : Lexeme) → item_class k ≡ Some Based → starts_base k ≡ true
based_starts (Word K.Void) e = refl
based_starts (Word K.CpcCondvar) e = refl
based_starts (Word K.Char) e = refl
based_starts (Word K.Int) e = refl
based_starts (Word K.Long) e = refl
based_starts (Word K.Signed) e = refl
based_starts (Word K.Unsigned) e = refl
based_starts k e = absurd cc

base_joins : (u : Place × (Ty × Ending)) (g : List Placed) (v : List LItem) (h : ℕ) (rest : List Placed) → ReadsPlain u.0 u.1.0 g v h → Stops lexeme (WordsEnd u.1) (g ++ rest)
base_joins u g v h rest r = led_stops g rest (plain_led u.0 u.1.0 g v h r) (behind_words u.1)

structure_apart : (k : Lexeme) → begins_behind k ≡ true → is_brace k ≡ false
structure_apart (Mark P.Star) e = refl
structure_apart (Mark P.LeftParen) e = refl
structure_apart (Named x) e = refl
structure_apart k e = absurd cc

-- a simple declaration
abbrev int_word : Placed
int_word = token (Word K.Int)

int_base : ReadsBase (int_word ∷ []) (TyInt N.Int) 0
int_base = kind_base _ N.Int (int spot)

no_name : ReadsGlobals (TyInt N.Int) (named nobody ∷ []) (LGlobal nobody (TyInt N.Int) None ∷ []) 0
no_name = last_global _ _ 0 (unset _ _ 0 (plain [] (TyInt N.Int) nobody 0 no_star))

simple : Parts Based (int_word ∷ named nobody ∷ mark spot P.Semicolon ∷ []) (LGlobal nobody (TyInt N.Int) None ∷ []) 0
unfolding to_based
simple = (to_based (int_word ∷ []) (named nobody ∷ mark spot P.Semicolon ∷ []) (TyInt N.Int) 0 int_base (_, _, refl, refl) _ 0 (variables (named nobody ∷ []) spot _ 0 no_name)).1

module _ (n : ℕ) where
  moded_exact : (q : Place) (mode : Mode) → Exact lexeme n 0 (λ d. moded_at q mode d) (Mapped second (Bound ReadsHead (λ x. ReadsBehind q mode x))) Any
  moded_exact q mode = exact_mapped second Any (exact_bind (head_exact n) (λ x. behind_exact n q mode x) (λ u g v h rest r s. any_stops lexeme u (g ++ rest))) (λ w k q. tt) (λ w k q. tt)

  structure_branch : (tag : Ident) → Branch lexeme (λ k. is_brace k ≡ true) n 0 (λ d. structure_at tag d) (Structure tag) Any
  structure_branch tag = branch (starts_structure tag) (structure_exact n tag)

  tagged_exact : (q : Place) → Exact lexeme n 0 (λ d. tagged_at q d) (TaggedWords q) Any
  tagged_exact q = exact_mapped second Any
      (exact_bind (name_exact n) (λ tag. exact_either (structure_branch tag) (plain_exact n q (TyStruct tag.text)) (omega arith)
      (λ f v h rest r s. led_stops f rest (plain_led q (TyStruct tag.text) f v h r) structure_apart)) (λ u g v h rest r s. any_stops lexeme u (g ++ rest)))
      (λ w k q. tt) (λ w k q. tt)

  based_exact : Exact lexeme n 0 (λ d. based_at d) BasedWords Any
  based_exact = exact_mapped second Any (exact_bind (exact_noted (words_exact n) words_solid) (λ v. plain_exact n v.0 v.1.0) (λ u g v h rest r s. base_joins u g v h rest r)) (λ w k q. tt) (λ w k q. tt)

  based_each : (t : Placed) → IsClass Based t.lexeme → (m : ℕ) × Opens BasedWords m (t ∷ [])
  based_each t e = (starts_mapped (starts_bind (starts_noted starts_words) (λ v. (plain_exact n v.0 v.1.0).sample)) second).each t (based_starts t.lexeme e)

  based_sample : Opens (Narrow (IsClass Based) BasedWords) 0 []
  based_sample = record { rest = int_word ∷ named nobody ∷ mark spot P.Semicolon ∷ []; value = LGlobal nobody (TyInt N.Int) None ∷ []; nest = 0; reads = simple; fits = omega arith }

  part_exact : (c : Class) → Branch lexeme (IsClass c) n 0 (λ d. item_part d c) (Parts c) Any
  part_exact (Moded mode) = headed_branch (λ t e. moded_exact t.place mode)
  part_exact Tagged = headed_branch (λ t e. tagged_exact t.place)
  part_exact Based = narrow_branch based_exact based_solid based_each based_sample

  item_sample : Opens (OneOf Parts) 0 []
  item_sample = record { rest = int_word ∷ named nobody ∷ mark spot P.Semicolon ∷ []; value = LGlobal nobody (TyInt N.Int) None ∷ []; nest = 0; reads = (Based, simple); fits = omega arith }

  -- an item is read exactly
  pub item_exact : Exact lexeme n 0 (λ d. item_at d) ReadsItem Any
  item_exact = exact_as (exact_one_of item_class part_exact (λ c. omega arith) item_sample) (λ d ts a b. refl) of_item to_item

  pub starts : Starts lexeme (λ k. starts_item k ≡ true) ReadsItem
  starts = starts_as (starts_one_of item_class (λ c. (part_exact c).starts)) (λ k e. item_starts e.0 k e.1) (λ k e. class_by (item_class k) e) of_item to_item

of_many : (f : List Placed) (vs : List (List LItem)) (h : ℕ) → Many ReadsItem f vs h → ReadsItems f (rows vs) h
of_many f vs h no_more = no_item
of_many f vs h (one_more a b v ws i j r m) = items a b v (rows ws) i j r (of_many b ws j m)

-- items as a list of the items of each declaration
to_many : (f : List Placed) (v : List LItem) (h : ℕ) → ReadsItems f v h → (vs : List (List LItem)) × (v ≡ rows vs) × Many ReadsItem f vs h
to_many f v h no_item = ([], refl, no_more)
to_many f v h (items a b xs ys i j r m) = let k = to_many b ys j m in (xs ∷ k.0, ap (λ u. xs ++ u) k.1, one_more a b xs k.0 i j r k.2)

program_is : (d : ℕ) (ts : List Placed) → mapped rows (many (λ t. starts_item t.lexeme) 0 d (item_at d)) ts ≡ program_at d ts
unfolding program_at
program_is d ts = refl

-- what may stand behind a program: nothing that begins an item
abbrev pub ItemsEnd : List LItem → Lexeme → Type 0
ItemsEnd v k = starts_item k ≡ false

module _ (n : ℕ) where
  -- as many items as begin are read exactly
  pub items_exact : Exact lexeme n 0 (λ d. program_at d) ReadsItems ItemsEnd
  items_exact = exact_as (exact_mapped rows ItemsEnd (exact_many (branch (starts n) (item_exact n)) (λ v k e. tt)) (λ w k q. q.1) (λ w k q. (last_all Any w k (λ v. tt), q)))
      (λ d ts a b. program_is d ts)
      (λ f v h r. subst (λ u. ReadsItems f u h) (sym r.1) (of_many f r.0 h r.2))
      (λ f v h r. let k = to_many f v h r in (k.0, k.1, k.2))
