-- The rows of lexemes that are types wherever they stand: the productions of types that are printed, without places.
use Rattle.std.proofs.Common.{◌≡◌, ℕ, ◌+◌, ◌<◌, ◌^◌, Bool, true, false, List, [], ◌∷◌, ◌++◌, map, Option, None, Some, option_map, max, pos, refl, subst, if◌then◌else◌}
use Rattle.cpc_base.specs.Bytes.{Text}
use Rattle.cpc_num.specs.declared.kinds.Kind.{Kind}
use Rattle.cpc_num.specs.declared.kinds.Kind.TheVariants as N
use Rattle.cpc_tree.specs.declared.token.Keyword.TheVariants as K
use Rattle.cpc_tree.specs.declared.token.Punctuator.TheVariants as P
use Rattle.cpc_tree.specs.Tokens.{Lexeme, Word, Mark, Named, Number}
use Rattle.cpc_tree.specs.Syntax.{Ty, TyVoid, TyInt, TyCondvar, TyPointer, TyCode, TyStruct, TyArray, Tys, NoTy, AndTy, Variable, Parameter}
use Rattle.cpc_tree.specs.Located.{Ident, LParameter, LVariable, bare_parameter, bare_variable}
use Rattle.cpc_tree.specs.TypeGrammar as G
use Rattle.cpc_tree.specs.TypeGrammar.{is_void, without}
use Rattle.cpc_tree.specs.TypePrint.{name_row}
use Rattle.cpc_printer_laws.proofs.Standing.{Everywhere, Read, on_none, on_token, on_last, on_both, on_between, on_closed, on_name, on_last_name}

abbrev pub ReadsKind : List Lexeme → Kind → Type 0
ReadsKind f kind = Everywhere f (λ ts. G.ReadsKind ts kind)

abbrev pub ReadsBase : List Lexeme → Ty → ℕ → Type 0
ReadsBase f t i = Everywhere f (λ ts. G.ReadsBase ts t i)

abbrev pub ReadsStars : Ty → List Lexeme → Ty → ℕ → Type 0
ReadsStars base f t h = Everywhere f (λ ts. G.ReadsStars base ts t h)

abbrev pub ReadsParam : List Lexeme → Parameter → ℕ → Type 0
ReadsParam f p h = Everywhere f (λ ts. Read bare_parameter (λ (w : LParameter). G.ReadsParam ts w h) p)

abbrev pub ReadsParamRow : List Lexeme → List Parameter → ℕ → Type 0
ReadsParamRow f ps h = Everywhere f (λ ts. Read (map bare_parameter) (λ (ws : List LParameter). G.ReadsParamRow ts ws h) ps)

abbrev pub ReadsParams : List Lexeme → List Parameter → ℕ → Type 0
ReadsParams f ps h = Everywhere f (λ ts. Read (map bare_parameter) (λ (ws : List LParameter). G.ReadsParams ts ws h) ps)

abbrev pub ReadsDeclarator : Ty → List Lexeme → Variable → ℕ → Type 0
ReadsDeclarator base f x h = Everywhere f (λ ts. Read bare_variable (λ (w : LVariable). G.ReadsDeclarator base ts w h) x)

abbrev pub ReadsTypeName : List Lexeme → Ty → ℕ → Type 0
ReadsTypeName f t h = Everywhere f (λ ts. G.ReadsTypeName ts t h)

pub char : ReadsKind (Word K.Char ∷ []) N.Char
char = on_last _ _ (λ q. G.char q)

pub unsigned_char : ReadsKind (Word K.Unsigned ∷ Word K.Char ∷ []) N.UChar
unsigned_char = on_token _ _ _ (λ q. on_last _ _ (λ r. G.unsigned_char q r))

pub int : ReadsKind (Word K.Int ∷ []) N.Int
int = on_last _ _ (λ q. G.int q)

pub unsigned : ReadsKind (Word K.Unsigned ∷ []) N.UInt
unsigned = on_last _ _ (λ q. G.unsigned q)

pub long : ReadsKind (Word K.Long ∷ []) N.Long
long = on_last _ _ (λ q. G.long q)

pub unsigned_long : ReadsKind (Word K.Unsigned ∷ Word K.Long ∷ []) N.ULong
unsigned_long = on_token _ _ _ (λ q. on_last _ _ (λ r. G.unsigned_long q r))

pub void_base : ReadsBase (Word K.Void ∷ []) TyVoid 0
void_base = on_last _ _ (λ q. G.void_base q)

pub kind_base : (f : List Lexeme) (kind : Kind) → ReadsKind f kind → ReadsBase f (TyInt kind) 0
kind_base f kind r ts m = G.kind_base ts kind (r ts m)

pub condvar_base : ReadsBase (Word K.CpcCondvar ∷ []) TyCondvar 0
condvar_base = on_last _ _ (λ q. G.condvar_base q)

pub struct_base : (tag : Text) → ReadsBase (Word K.Struct ∷ Named tag ∷ []) (TyStruct tag) 0
struct_base tag = on_token _ _ _ (λ q. on_last _ _ (λ r. G.struct_base q (record { place = r; text = tag })))

pub no_star : {base : Ty} → ReadsStars base [] base 0
no_star {base} = on_none _ G.no_star

pub a_star : {base : Ty} (f : List Lexeme) (t : Ty) (h : ℕ) → ReadsStars base f t h → ReadsStars base (f ++ Mark P.Star ∷ []) (TyPointer t) (h + 1)
a_star f t h r = on_closed _ _ _ (λ a m q. G.a_star a q t h (r a m))

-- the types of parameters
abbrev pub types : List Parameter → Tys
types [] = NoTy
types (p ∷ ps) = AndTy p.type (types ps)

pub types_bare : (ws : List LParameter) → G.types ws ≡ types (map bare_parameter ws)
types_bare [] = refl
types_bare (w ∷ ws) = rw (types_bare ws) refl

-- a list that is the word void alone has no parameter
abbrev pub without_void : List Parameter → List Parameter
without_void = without (λ (p : Parameter). is_void p.called p.type)

void_bare : (o : Option Ident) (t : Ty) → is_void o t ≡ is_void (option_map (λ (x : Ident). x.text) o) t
void_bare None TyVoid = refl
void_bare None t = refl
void_bare (Some x) t = refl

map_if : (b : Bool) (w : LParameter) → map bare_parameter (if b then [] else w ∷ []) ≡ if b then [] else map bare_parameter (w ∷ [])
map_if true w = refl
map_if false w = refl

pub without_bare : (ws : List LParameter) → map bare_parameter (G.without_void ws) ≡ without_void (map bare_parameter ws)
without_bare [] = refl
without_bare (w ∷ []) = rw (map_if, void_bare w.called w.type) refl
without_bare (w ∷ (v ∷ ws)) = refl

pub plain_param : (a f : List Lexeme) (base t : Ty) (o : Option Text) (i h : ℕ) → ReadsBase a base i → ReadsStars base f t h → ReadsParam (a ++ (f ++ name_row o)) (record { called = o; type = t }) h
plain_param a f base t o i h b r = on_both _ _ _ (λ c m. on_both _ _ _ (λ d l. on_last_name _ _ (λ w e. (record { called = w; type = t }, cc, G.plain_param c d base t w i h (b c m) (r d l)))))

pub array_param : (a f : List Lexeme) (base t : Ty) (o : Option Text) (i h : ℕ) → ReadsBase a base i → ReadsStars base f t h
    → ReadsParam (a ++ (f ++ (name_row o ++ Mark P.LeftBracket ∷ Mark P.RightBracket ∷ []))) (record { called = o; type = TyPointer t }) h
array_param a f base t o i h b r = on_both _ _ _ (λ c m. on_both _ _ _ (λ d l. on_name _ _ _ (λ w e. on_token _ _ _ (λ q. on_last _ _ (λ s. (record { called = w; type = TyPointer t }, cc, G.array_param c d base t w q s i h (b c m) (r d l)))))))

pub code_param : (a f g : List Lexeme) (base t : Ty) (o : Option Text) (ps : List Parameter) (i h j : ℕ) → ReadsBase a base i → ReadsStars base f t h → ReadsParams g ps j
    → ReadsParam (a ++ (f ++ Mark P.LeftParen ∷ Mark P.Star ∷ (name_row o ++ Mark P.RightParen ∷ Mark P.LeftParen ∷ (g ++ Mark P.RightParen ∷ [])))) (record { called = o; type = TyCode t (types ps) }) (max h (j + 1))
code_param a f g base t o ps i h j b r z =
    on_both _ _ _ (λ c m. on_between _ _ _ _ (λ d l q. on_token _ _ _ (λ s. on_name _ _ _ (λ w e. on_token _ _ _ (λ u. on_token _ _ _ (λ v. on_closed _ _ _ (λ k n x.
    let (ws, same, y) = z k n in (record { called = w; type = TyCode t (G.types ws) }, cc (types_bare ws), G.code_param c d k base t w q s u v x ws i h j (b c m) (r d l) y))))))))

pub last_param : (f : List Lexeme) (p : Parameter) (h : ℕ) → ReadsParam f p h → ReadsParamRow f (p ∷ []) h
last_param f p h r ts m = let (w, e, y) = r ts m in (w ∷ [], cc, G.last_param ts w h y)

pub more_params : (f g : List Lexeme) (p : Parameter) (ps : List Parameter) (h j : ℕ) → ReadsParam f p h → ReadsParamRow g ps j → ReadsParamRow (f ++ Mark P.Comma ∷ g) (p ∷ ps) (max h j)
more_params f g p ps h j r s = on_between _ _ _ _ (λ a m q b l. let (w, e, y) = r a m in let (ws, d, z) = s b l in (w ∷ ws, cc, G.more_params a b q w ws h j y z))

pub some_params : (f : List Lexeme) (ps : List Parameter) (h : ℕ) → ReadsParamRow f ps h → ReadsParams f (without_void ps) h
some_params f ps h r ts m = let (ws, e, y) = r ts m in (G.without_void ws, rw (without_bare ws, e) refl, G.some_params ts ws h y)

pub plain : {base : Ty} (f : List Lexeme) (t : Ty) (x : Text) (h : ℕ) → ReadsStars base f t h → ReadsDeclarator base (f ++ Named x ∷ []) (record { called = x; type = t }) h
plain f t x h r = on_closed _ _ _ (λ a m q. (record { called = record { place = q; text = x }; type = t }, refl, G.plain a t (record { place = q; text = x }) h (r a m)))

pub array : {base : Ty} (f : List Lexeme) (t : Ty) (x : Text) (kind : Kind) (n h : ℕ) → ReadsStars base f t h → n < 2 ^ 64
    → ReadsDeclarator base (f ++ Named x ∷ Mark P.LeftBracket ∷ Number kind (pos n) ∷ Mark P.RightBracket ∷ []) (record { called = x; type = TyArray t n }) h
array f t x kind n h r le =
    on_between _ _ _ _ (λ a m q. on_token _ _ _ (λ s. on_token _ _ _ (λ u. on_last _ _ (λ v. (record { called = record { place = q; text = x }; type = TyArray t n }, refl, G.array a t (record { place = q; text = x }) s v u kind n h (r a m) le)))))

pub code : {base : Ty} (f g : List Lexeme) (t : Ty) (x : Text) (ps : List Parameter) (h j : ℕ) → ReadsStars base f t h → ReadsParams g ps j
    → ReadsDeclarator base (f ++ Mark P.LeftParen ∷ Mark P.Star ∷ Named x ∷ Mark P.RightParen ∷ Mark P.LeftParen ∷ (g ++ Mark P.RightParen ∷ [])) (record { called = x; type = TyCode t (types ps) }) (max h (j + 1))
code f g t x ps h j r z =
    on_between _ _ _ _ (λ a m q. on_token _ _ _ (λ s. on_token _ _ _ (λ n. on_token _ _ _ (λ u. on_token _ _ _ (λ v. on_closed _ _ _ (λ k l w.
    let (ws, same, y) = z k l in (record { called = record { place = n; text = x }; type = TyCode t (G.types ws) }, cc (types_bare ws), G.code a k t (record { place = n; text = x }) q s u v w ws h j (r a m) y)))))))

pub plain_type : (a f : List Lexeme) (base t : Ty) (i h : ℕ) → ReadsBase a base i → ReadsStars base f t h → ReadsTypeName (a ++ f) t h
plain_type a f base t i h b r = on_both _ _ _ (λ c m d l. G.plain_type c d base t i h (b c m) (r d l))

pub code_type : (a f g : List Lexeme) (base t : Ty) (ps : List Parameter) (i h j : ℕ) → ReadsBase a base i → ReadsStars base f t h → ReadsParams g ps j
    → ReadsTypeName (a ++ (f ++ Mark P.LeftParen ∷ Mark P.Star ∷ Mark P.RightParen ∷ Mark P.LeftParen ∷ (g ++ Mark P.RightParen ∷ []))) (TyCode t (types ps)) (max h (j + 1))
code_type a f g base t ps i h j b r z =
    on_both _ _ _ (λ c m. on_between _ _ _ _ (λ d l q. on_token _ _ _ (λ s. on_token _ _ _ (λ u. on_token _ _ _ (λ v. on_closed _ _ _ (λ k n x.
    let (ws, same, y) = z k n in subst (λ us. G.ReadsTypeName (c ++ (d ++ G.mark q P.LeftParen ∷ G.mark s P.Star ∷ G.mark u P.RightParen ∷ G.mark v P.LeftParen ∷ (k ++ G.mark x P.RightParen ∷ []))) (TyCode t us) (max h (j + 1)))
    (cc (types_bare ws)) (G.code_type c d k base t q s u v x ws i h j (b c m) (r d l) y)))))))
