-- Names of code that stays mean the same in both programs.
use Rattle.std.proofs.Common.{◌≡◌, ℕ, Bool, true, false, cond, List, [], ◌∷◌, Option, Some, None, bytes_eq, refl, sym, ◌∙◌, ap, subst}
use Rattle.cpc_base.specs.Bytes.{Text}
use Rattle.cpc_tree.specs.Points.{Found, Simple, Test, Nothing}
use Rattle.cpc_tree.specs.Syntax.{Ty, Expr, ENamed, EInteger, ECharacter, EText, EUnary, EBinary, EAnd, EOr, EChoose, ECast, ESizeOf, EIndex, EMember, EArrow, ECall, Exprs, NoExpr, AndExpr, Stmt, Block, Empty, Declare, Assign, Call, Detach, Spawn, If, While, DoWhile, For, Goto, Label, Break, Continue, Return, Program}
use Rattle.cpc_tree.specs.Typing.{Scope, Meant, ALocal, AGlobal, AFunction, NotMeant, named, item_named}
use Rattle.cpc_tree.specs.declared.program.Mode.{Mode}
use Rattle.cpc_meaning.specs.Names.{AllNames, AllNamesIf, AllNamesAmong, AllNamesOf, AllNamesFound}
use Rattle.cpc_convert_image_laws.specs.Native.{KeptItem, KeptGlobal, KeptFunction, KeptNothing, KeptName, KeptLocal, KeptAsItem}
use Rattle.cpc_convert_image_laws.proofs.Names.{names_more_if, names_more_of}
use Rattle.cpc_chains_event.specs.Converted.{converted}
use Rattle.cpc_convert_routines.specs.Named.{IsNamed}
use Rattle.cpc_chains_event.proofs.Meanings.{items_meant}
use Rattle.cpc_lifted_laws.specs.Accepted.Known.{Stays}
use Rattle.cpc_lifted_laws.specs.Accepted.Points.{UsedName, IsVariable, IsItem}
use Rattle.cpc_lifted_laws.proofs.Accepted.Scoped.{is_local, item_no_local}

-- ---- items

no_local : {A : Type 0} (p : Program) (x : Text) (k : ℕ) (t : Ty) → item_named 0 p x ≡ ALocal k t → A
no_local p x k t e = absurd (let i : true ≡ false = sym (ap is_local e) ∙ item_no_local 0 p x in cc)

-- an item that stays means what it meant
pub item_kept : (C : Text → Type 0) (p : Program) → IsNamed p → (x : Text) → Stays p x → ((mode : Mode) (r : Ty) (ps : List Ty) → item_named 0 p x ≡ AFunction mode r ps → C x) → KeptItem C x (item_named 0 p x) (item_named 0 (converted p) x)
item_kept C p ok x s code = subst (λ m. KeptItem C x (item_named 0 p x) m) (sym ((items_meant p ok).kept x s.unmarked s.not_cps)) (go (item_named 0 p x) refl)
  where
    go : (m : Meant) → item_named 0 p x ≡ m → KeptItem C x m m
    go (ALocal k t) e = no_local p x k t e
    go (AGlobal n t) e = KeptGlobal n t
    go (AFunction mode r ps) e = KeptFunction mode r ps (code mode r ps e)
    go NotMeant e = KeptNothing

-- ---- names in scope

-- where items mean the same, names do
name_kept : (C : Text → Type 0) (p q : Program) (scope : Scope) (x : Text) → KeptItem C x (item_named 0 p x) (item_named 0 q x) → KeptName C x (named p scope x) (named q scope x)
name_kept C p q [] x h = KeptAsItem _ _ h
name_kept C p q (l ∷ scope) x h = go (bytes_eq l.called x) (name_kept C p q scope x h)
  where
    go : (b : Bool) → KeptName C x (named p scope x) (named q scope x) → KeptName C x (cond b (ALocal l.slot l.type) (named p scope x)) (cond b (ALocal l.slot l.type) (named q scope x))
    go true k = KeptLocal l.slot l.type
    go false k = k

-- a variable is a variable
local_kept : (C : Text → Type 0) (p q : Program) (scope : Scope) (x : Text) (k : ℕ) (t : Ty) → named p scope x ≡ ALocal k t → KeptName C x (named p scope x) (named q scope x)
local_kept C p q [] x k t e = no_local p x k t e
local_kept C p q (l ∷ scope) x k t e = go (bytes_eq l.called x) e (local_kept C p q scope x k t)
  where
    go : (b : Bool) → cond b (ALocal l.slot l.type) (named p scope x) ≡ ALocal k t → (named p scope x ≡ ALocal k t → KeptName C x (named p scope x) (named q scope x))
        → KeptName C x (cond b (ALocal l.slot l.type) (named p scope x)) (cond b (ALocal l.slot l.type) (named q scope x))
    go true e rest = KeptLocal l.slot l.type
    go false e rest = rest e

-- a name that is used means what it meant; where it is that of a function, it is one of these codes
pub used_kept : (C : Text → Type 0) (p : Program) → IsNamed p → (scope : Scope) (x : Text) → UsedName p scope x → ((mode : Mode) (r : Ty) (ps : List Ty) → Stays p x → named p scope x ≡ AFunction mode r ps → C x)
    → KeptName C x (named p scope x) (named (converted p) scope x)
used_kept C p ok scope x (IsVariable k t e) code = local_kept C p (converted p) scope x k t e
used_kept C p ok scope x (IsItem e s) code = name_kept C p (converted p) scope x (item_kept C p ok x s (λ mode r ps i. code mode r ps s (e ∙ i)))

-- ---- two families of names

module _ (L M : Text → Type 0) where
  abbrev Both : Text → Type 0
  Both x = L x × M x

  names_both : (e : Expr) → AllNames L e → AllNames M e → AllNames Both e
  names_both (ENamed x) h k = (h, k)
  names_both (EInteger kind z) h k = h
  names_both (ECharacter z) h k = h
  names_both (EText bytes) h k = h
  names_both (EUnary sign e) h k = names_both e h k
  names_both (EBinary op a b) h k = (names_both a h.0 k.0, names_both b h.1 k.1)
  names_both (EAnd a b) h k = (names_both a h.0 k.0, names_both b h.1 k.1)
  names_both (EOr a b) h k = (names_both a h.0 k.0, names_both b h.1 k.1)
  names_both (EChoose c a b) h k = (names_both c h.0 k.0, names_both a h.1 k.1, names_both b h.2 k.2)
  names_both (ECast t e) h k = names_both e h k
  names_both (ESizeOf t) h k = h
  names_both (EIndex a i) h k = (names_both a h.0 k.0, names_both i h.1 k.1)
  names_both (EMember e x) h k = names_both e h k
  names_both (EArrow e x) h k = names_both e h k
  names_both (ECall f es) h k = h

  names_both_if : (o : Option Expr) → AllNamesIf L o → AllNamesIf M o → AllNamesIf Both o
  names_both_if None h k = h
  names_both_if (Some e) h k = names_both e h k

  names_both_among : (es : Exprs) → AllNamesAmong L es → AllNamesAmong M es → AllNamesAmong Both es
  names_both_among NoExpr h k = h
  names_both_among (AndExpr e es) h k = (names_both e h.0 k.0, names_both_among es h.1 k.1)

  names_both_of : (s : Stmt) → AllNamesOf L s → AllNamesOf M s → AllNamesOf Both s
  names_both_of (Declare x t (Some v)) h k = ((h.0, k.0), names_both v h.1 k.1)
  names_both_of (Declare x t None) h k = h
  names_both_of (Assign e op v) h k = (names_both e h.0 k.0, names_both v h.1 k.1)
  names_both_of (Call to f es) h k = (names_both_if to h.0 k.0, names_both f h.1 k.1, names_both_among es h.2 k.2)
  names_both_of (Detach to f es) h k = (names_both_if to h.0 k.0, (h.1, k.1), names_both_among es h.2 k.2)
  names_both_of (Spawn f es) h k = ((h.0, k.0), names_both_among es h.1 k.1)
  names_both_of (Return v) h k = names_both_if v h k
  names_both_of (Block ss) h k = h
  names_both_of Empty h k = h
  names_both_of (If t a b) h k = h
  names_both_of (While t s) h k = h
  names_both_of (DoWhile s t) h k = h
  names_both_of (For first t step s) h k = h
  names_both_of (Goto l) h k = h
  names_both_of (Label l s) h k = h
  names_both_of Break h k = h
  names_both_of Continue h k = h

  -- names of both families are of a third one
  pub names_join : (N : Text → Type 0) → ((x : Text) → L x → M x → N x) → (s : Found) → AllNamesFound L s → AllNamesFound M s → AllNamesFound N s
  names_join N join (Simple s) h k = names_more_of Both N (λ x l. join x l.0 l.1) s (names_both_of s h k)
  names_join N join (Test t) h k = names_more_if Both N (λ x l. join x l.0 l.1) t (names_both_if t h k)
  names_join N join Nothing h k = h

-- names of a family are of a larger one
pub names_grow : (L N : Text → Type 0) → ((x : Text) → L x → N x) → (s : Found) → AllNamesFound L s → AllNamesFound N s
names_grow L N more (Simple s) h = names_more_of L N more s h
names_grow L N more (Test t) h = names_more_if L N more t h
names_grow L N more Nothing h = h
