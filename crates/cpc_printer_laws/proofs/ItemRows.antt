-- The rows of lexemes that are items wherever they stand: the productions of programs that are printed, without places.
use Rattle.std.proofs.Common.{◌≡◌, ℕ, ◌+◌, true, List, [], ◌∷◌, ◌++◌, map, Option, Some, None, option_map, is_some, max, ℤ, refl, sym, ap, ◌∙◌}
use Rattle.std.proofs.lemmas.List.{map-append}
use Rattle.cpc_base.specs.Bytes.{Text}
use Rattle.cpc_num.specs.declared.kinds.Kind.{Kind}
use Rattle.cpc_tree.specs.declared.program.Mode.{Mode}
use Rattle.cpc_tree.specs.declared.program.Mode.TheVariants as M
use Rattle.cpc_tree.specs.declared.program.UnaryOp.TheVariants as U
use Rattle.cpc_tree.specs.declared.token.Keyword.TheVariants as K
use Rattle.cpc_tree.specs.declared.token.Punctuator.TheVariants as P
use Rattle.cpc_tree.specs.Tokens.{Lexeme, Word, Mark, Named, Number, Character, Quoted}
use Rattle.cpc_tree.specs.Syntax.{Ty, Expr, EInteger, ECharacter, EText, EUnary, Stmt, Block, Variable, Parameter, Item, StructItem, GlobalItem, PrototypeItem, FunctionItem}
use Rattle.cpc_tree.specs.Located.{Ident, LExpr, LInteger, LCharacter, LText, LUnary, LVariable, LItem, LStruct, LGlobal, LPrototype, bare_expr, bare_variable, bare_parameter, bare_item}
use Rattle.cpc_tree.specs.StmtGrammar.{begin}
use Rattle.cpc_tree.specs.ItemGrammar as G
use Rattle.cpc_tree.specs.ItemGrammar.{all_named}
use Rattle.cpc_tree.proofs.Options.{named_bare}
use Rattle.cpc_printer_laws.proofs.Standing.{Everywhere, Read, on_none, on_token, on_last, on_both, on_between, on_closed}
use Rattle.cpc_printer_laws.proofs.TypeRows.{ReadsBase, ReadsStars, ReadsParams, ReadsDeclarator}
use Rattle.cpc_printer_laws.proofs.StmtRows.{stmts, stmts_bare, ReadsBlock}

abbrev pub ReadsMode : List Lexeme → Mode → Type 0
ReadsMode f mode = Everywhere f (λ ts. G.ReadsMode ts mode)

abbrev pub ReadsPrototypeMode : List Lexeme → Mode → Type 0
ReadsPrototypeMode f mode = Everywhere f (λ ts. G.ReadsPrototypeMode ts mode)

abbrev pub ReadsVariables : Ty → List Lexeme → List Variable → ℕ → Type 0
ReadsVariables base f xs h = Everywhere f (λ ts. Read (map bare_variable) (λ (ws : List LVariable). G.ReadsVariables base ts ws h) xs)

abbrev pub ReadsFields : List Lexeme → List Variable → ℕ → Type 0
ReadsFields f xs h = Everywhere f (λ ts. Read (map bare_variable) (λ (ws : List LVariable). G.ReadsFields ts ws h) xs)

abbrev pub ReadsInitial : List Lexeme → Expr → ℕ → Type 0
ReadsInitial f v h = Everywhere f (λ ts. Read bare_expr (λ (w : LExpr). G.ReadsInitial ts w h) v)

abbrev pub ReadsGlobal : Ty → List Lexeme → Item → ℕ → Type 0
ReadsGlobal base f x h = Everywhere f (λ ts. Read bare_item (λ (w : LItem). G.ReadsGlobal base ts w h) x)

abbrev pub ReadsGlobals : Ty → List Lexeme → List Item → ℕ → Type 0
ReadsGlobals base f xs h = Everywhere f (λ ts. Read (map bare_item) (λ (ws : List LItem). G.ReadsGlobals base ts ws h) xs)

-- the head of a function
pub record Head : Type 0 where
  pub called : Text
  pub result : Ty
  pub parameters : List Parameter

abbrev pub bare_head : G.Head → Head
bare_head x = record { called = x.called.text; result = x.result; parameters = map bare_parameter x.parameters }

abbrev pub ReadsHead : List Lexeme → Head → ℕ → Type 0
ReadsHead f x h = Everywhere f (λ ts. Read bare_head (λ (w : G.Head). G.ReadsHead ts w h) x)

abbrev pub ReadsItem : List Lexeme → List Item → ℕ → Type 0
ReadsItem f xs h = Everywhere f (λ ts. Read (map bare_item) (λ (ws : List LItem). G.ReadsItem ts ws h) xs)

abbrev pub ReadsItems : List Lexeme → List Item → ℕ → Type 0
ReadsItems f xs h = Everywhere f (λ ts. Read (map bare_item) (λ (ws : List LItem). G.ReadsItems ts ws h) xs)

some_bare : (o : Option Ident) → is_some (option_map (λ (x : Ident). x.text) o) ≡ is_some o
some_bare None = refl
some_bare (Some x) = refl

pub native : ReadsMode [] M.Native
native = on_none _ G.native

pub cps : ReadsMode (Word K.Cps ∷ []) M.Cps
cps = on_last _ _ (λ q. G.cps q)

pub detached : ReadsMode (Word K.Detached ∷ []) M.Detached
detached = on_last _ _ (λ q. G.detached q)

pub extern : ReadsPrototypeMode (Word K.Extern ∷ []) M.Extern
extern = on_last _ _ (λ q. G.extern q)

pub of_function : (f : List Lexeme) (mode : Mode) → ReadsMode f mode → ReadsPrototypeMode f mode
of_function f mode r ts m = G.of_function ts mode (r ts m)

pub last_variable : {base : Ty} (f : List Lexeme) (x : Variable) (h : ℕ) → ReadsDeclarator base f x h → ReadsVariables base f (x ∷ []) h
last_variable f x h r ts m = let (w, e, y) = r ts m in (w ∷ [], rw e refl, G.last_variable ts w h y)

pub last_fields : (a f : List Lexeme) (base : Ty) (xs : List Variable) (i h : ℕ) → ReadsBase a base i → ReadsVariables base f xs h → ReadsFields (a ++ (f ++ Mark P.Semicolon ∷ [])) xs h
last_fields a f base xs i h b r = on_both _ _ _ (λ c m. on_closed _ _ _ (λ d l q. let (ws, e, y) = r d l in (ws, e, G.last_fields c d q base ws i h (b c m) y)))

pub more_fields : (a f g : List Lexeme) (base : Ty) (xs ys : List Variable) (i h j : ℕ) → ReadsBase a base i → ReadsVariables base f xs h → ReadsFields g ys j → ReadsFields (a ++ (f ++ Mark P.Semicolon ∷ g)) (xs ++ ys) (max h j)
more_fields a f g base xs ys i h j b r s =
    on_both _ _ _ (λ c m. on_between _ _ _ _ (λ d l q k n. let (ws, e, y) = r d l in let (vs, o, z) = s k n in (ws ++ vs, rw (map-append, e, o) refl, G.more_fields c d k q base ws vs i h j (b c m) y z)))

pub an_integer : (kind : Kind) (z : ℤ) → ReadsInitial (Number kind z ∷ []) (EInteger kind z) 1
an_integer kind z = on_last _ _ (λ q. (LInteger q kind z, refl, G.an_integer q kind z))

pub a_negative : (kind : Kind) (z : ℤ) → ReadsInitial (Mark P.Minus ∷ Number kind z ∷ []) (EUnary U.Minus (EInteger kind z)) 2
a_negative kind z = on_token _ _ _ (λ q. on_last _ _ (λ r. (LUnary q U.Minus (LInteger r kind z), refl, G.a_negative q r kind z)))

pub a_character : (z : ℤ) → ReadsInitial (Character z ∷ []) (ECharacter z) 1
a_character z = on_last _ _ (λ q. (LCharacter q z, refl, G.a_character q z))

pub a_text : (bytes : Text) → ReadsInitial (Quoted bytes ∷ []) (EText bytes) 1
a_text bytes = on_last _ _ (λ q. (LText q bytes, refl, G.a_text q bytes))

pub unset : {base : Ty} (f : List Lexeme) (x : Variable) (h : ℕ) → ReadsDeclarator base f x h → ReadsGlobal base f (GlobalItem x.called x.type None) h
unset f x h r ts m = let (w, e, y) = r ts m in (LGlobal w.called w.type None, rw (← e) refl, G.unset ts w h y)

pub set : {base : Ty} (f g : List Lexeme) (x : Variable) (v : Expr) (h j : ℕ) → ReadsDeclarator base f x h → ReadsInitial g v j → ReadsGlobal base (f ++ Mark P.Equal ∷ g) (GlobalItem x.called x.type (Some v)) (max h j)
set f g x v h j r s = on_between _ _ _ _ (λ a m q b l. let (w, c, y) = r a m in let (z, d, t) = s b l in (LGlobal w.called w.type (Some z), rw (← c, d) refl, G.set a b q w z h j y t))

pub last_global : {base : Ty} (f : List Lexeme) (x : Item) (h : ℕ) → ReadsGlobal base f x h → ReadsGlobals base f (x ∷ []) h
last_global f x h r ts m = let (w, e, y) = r ts m in (w ∷ [], cc, G.last_global ts w h y)

pub head : (a f g : List Lexeme) (base t : Ty) (x : Text) (ps : List Parameter) (i h j : ℕ) → ReadsBase a base i → ReadsStars base f t h → ReadsParams g ps j
    → ReadsHead (a ++ (f ++ Named x ∷ Mark P.LeftParen ∷ (g ++ Mark P.RightParen ∷ []))) (record { called = x; result = t; parameters = ps }) (max h j)
head a f g base t x ps i h j b r s =
    on_both _ _ _ (λ c m. on_between _ _ _ _ (λ d l n. on_token _ _ _ (λ q. on_closed _ _ _ (λ k o u.
    let (ws, e, y) = s k o in (record { called = record { place = n; text = x }; result = t; parameters = ws }, rw e refl, G.head c d k q u base t (record { place = n; text = x }) ws i h j (b c m) (r d l) y)))))

pub struct : (f : List Lexeme) (tag : Text) (xs : List Variable) (h : ℕ) → ReadsFields f xs h
    → ReadsItem (Word K.Struct ∷ Named tag ∷ Mark P.LeftBrace ∷ (f ++ Mark P.RightBrace ∷ Mark P.Semicolon ∷ [])) (StructItem tag xs ∷ []) h
struct f tag xs h r =
    on_token _ _ _ (λ q. on_token _ _ _ (λ n. on_token _ _ _ (λ o. on_between _ _ _ _ (λ a m s. on_last _ _ (λ t.
    let (ws, e, y) = r a m in (LStruct (record { place = n; text = tag }) ws ∷ [], rw e refl, G.struct a q o s t (record { place = n; text = tag }) ws h y))))))

pub globals : (a f : List Lexeme) (base : Ty) (xs : List Item) (i h : ℕ) → ReadsBase a base i → ReadsGlobals base f xs h → ReadsItem (a ++ (f ++ Mark P.Semicolon ∷ [])) xs h
globals a f base xs i h b r = on_both _ _ _ (λ c m. on_closed _ _ _ (λ d l q. let (ws, e, y) = r d l in (ws, e, G.globals c d q base ws i h (b c m) y)))

-- the item of a function
abbrev pub defined : Mode → Head → List Stmt → Item
defined mode x ss = FunctionItem (record { mode = mode; called = x.called; result = x.result; parameters = x.parameters; body = Block (stmts ss) })

pub function : (m f g : List Lexeme) (mode : Mode) (x : Head) (ss : List Stmt) (h j : ℕ) → ReadsMode m mode → ReadsHead f x h → all_named (λ (p : Parameter). p.called) x.parameters ≡ true → ReadsBlock g ss j
    → ReadsItem (m ++ (f ++ Mark P.LeftBrace ∷ (g ++ Mark P.RightBrace ∷ []))) (defined mode x ss ∷ []) (max h (j + 1))
function m f g mode x ss h j k r n s =
    on_both _ _ _ (λ a ma. on_between _ _ _ _ (λ b mb q. on_closed _ _ _ (λ c mc t.
    let (w, e, y) = r b mb in let (ws, d, z) = s c mc in
    let all = ap (λ (o : Head). all_named (λ (p : Parameter). p.called) o.parameters) e ∙ n in
    (G.defined (begin (a ++ b)) q mode w ws ∷ [], rw (stmts_bare ws, d, ← e) refl, G.function a b c q t mode w ws h j (k a ma) y (sym (named_bare w.parameters) ∙ all) z))))

pub prototype : (m f : List Lexeme) (mode : Mode) (x : Head) (h : ℕ) → ReadsPrototypeMode m mode → ReadsHead f x h → ReadsItem (m ++ (f ++ Mark P.Semicolon ∷ [])) (PrototypeItem mode x.called x.result x.parameters ∷ []) h
prototype m f mode x h k r = on_both _ _ _ (λ a ma. on_closed _ _ _ (λ b mb q. let (w, e, y) = r b mb in (LPrototype (begin (a ++ b)) mode w.called w.result w.parameters ∷ [], rw (← e) refl, G.prototype a b q mode w h (k a ma) y)))

pub no_item : ReadsItems [] [] 0
no_item = on_none _ ([], refl, G.no_item)

pub items : (f g : List Lexeme) (xs ys : List Item) (h j : ℕ) → ReadsItem f xs h → ReadsItems g ys j → ReadsItems (f ++ g) (xs ++ ys) (max h j)
items f g xs ys h j r s = on_both _ _ _ (λ a m b l. let (w, c, y) = r a m in let (z, d, t) = s b l in (w ++ z, rw (map-append, c, d) refl, G.items a b w z h j y t))
