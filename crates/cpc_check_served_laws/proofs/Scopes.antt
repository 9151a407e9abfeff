-- No name that the language keeps for itself stands for anything in an event program that breaks no rule.
use Rattle.std.proofs.Common.{◌≡◌, ◌∙◌, Bool, true, false, cond, List, [], ◌∷◌, ◌++◌, reverse, Option, Some, None, bytes_eq, refl, ap}
use Rattle.cpc_base.specs.Bytes.{Text}
use Rattle.cpc_base.specs.declared.stop.Dialect.TheVariants as D
use Rattle.cpc_tree.specs.Syntax.{Ty, Variable, Item, Program}
use Rattle.cpc_tree.specs.Located.{Ident, LStmt, Block, Empty, Declare, Assign, Call, Detach, Spawn, If, While, DoWhile, For, Goto, Label, Break, Continue, Return, LStmts, NoLStmt, AndLStmt, LParameter, LItem, LStruct, LGlobal, LPrototype, LFunctionItem, bare_item}
use Rattle.cpc_tree.specs.Typing.{Meant, NotMeant}
use Rattle.cpc_check_rules.specs.declared.rule.Rule.TheVariants.{Reserved}
use Rattle.cpc_check_rules.specs.Rule.{at_if}
use Rattle.cpc_check_rules.specs.Scopes as S
use Rattle.cpc_check_rules.specs.Scopes.{in_block, in_items, meant}
use Rattle.cpc_check_rules.specs.Operators.{Where}
use Rattle.cpc_check_rules.specs.Calls.{is_event}
use Rattle.cpc_check_rules.specs.FunctionRules.{is_kept, locals, locals_in, parameter_names, reserved_breaks}
use Rattle.cpc_check_rules.specs.ItemRules.{item_breaks, parameter_block}
use Rattle.cpc_check_rules.specs.StmtRules.{all_behind, behind, inner, variable}
use Rattle.cpc_check_rules.proofs.Scopes.{meant_before}
use Rattle.cpc_check_laws.proofs.Sound.Items.{last_first}
use Rattle.cpc_check_laws.proofs.Sound.Unbroken.{split}
use Rattle.cpc_check_laws.proofs.Native.NativeValues.{unbroken}
use Rattle.cpc_check_laws.proofs.Run.Names.{NoneDeclared, other_name}

-- ---- names that are not kept

abbrev pub AreFree : List Ident → Type 0
AreFree [] = Unit {0}
AreFree (x ∷ xs) = (is_kept x.text ≡ false) × AreFree xs

pub free_names : (xs : List Ident) → reserved_breaks D.Event xs ≡ [] → AreFree xs
free_names [] h = tt
free_names (x ∷ xs) h =
    let k = split (at_if (is_kept x.text) x.place Reserved) _ h in
    (unbroken (is_kept x.text) x.place Reserved k.0, free_names xs k.1)

pub first_free : (xs ys : List Ident) → AreFree (xs ++ ys) → AreFree xs
first_free [] ys h = tt
first_free (x ∷ xs) ys h = (h.0, first_free xs ys h.1)

pub last_free : (xs ys : List Ident) → AreFree (xs ++ ys) → AreFree ys
last_free [] ys h = h
last_free (x ∷ xs) ys h = last_free xs ys h.1

-- ---- items

passed : (b : Bool) (m n : Meant) → b ≡ false → n ≡ NotMeant → cond b m n ≡ NotMeant
passed true m n e h = absurd cc
passed false m n e h = h

one_more : (before : Program) (i : Item) → ((x : Text) → is_kept x ≡ true → in_items (i ∷ reverse before) x ≡ NotMeant) → NoneDeclared (before ++ i ∷ [])
one_more before i h x kept = ap (λ q. in_items q x) (last_first before i) ∙ h x kept

pub item_free : (program before : Program) (x : LItem) → NoneDeclared before → item_breaks D.Event program before x ≡ [] → NoneDeclared (before ++ bare_item x ∷ [])
item_free program before (LStruct tag fs) free h = one_more before (bare_item (LStruct tag fs)) free
item_free program before (LGlobal y t start) free h =
    let own = (free_names (y ∷ []) (split (reserved_breaks D.Event (y ∷ [])) _ h).0).0 in
    one_more before (bare_item (LGlobal y t start)) (λ x kept. passed (bytes_eq y.text x) _ _ (other_name y.text x own kept) (free x kept))
item_free program before (LPrototype q mode y r ps) free h =
    let own = (free_names (y ∷ []) (split (reserved_breaks D.Event (y ∷ [])) _ h).0).0 in
    one_more before (bare_item (LPrototype q mode y r ps)) (λ x kept. passed (bytes_eq y.text x) _ _ (other_name y.text x own kept) (free x kept))
item_free program before (LFunctionItem f) free h =
    let own = (free_names (f.called ∷ []) (split (reserved_breaks D.Event (f.called ∷ [])) _ h).0).0 in
    one_more before (bare_item (LFunctionItem f)) (λ x kept. passed (bytes_eq f.called.text x) _ _ (other_name f.called.text x own kept) (free x kept))

-- ---- blocks

abbrev BlockFree : S.Block → Type 0
BlockFree block = (x : Text) → is_kept x ≡ true → in_block block x ≡ None

with_free : (v : Variable) (block : S.Block) → is_kept v.called ≡ false → BlockFree block → BlockFree (v ∷ block)
with_free v block own free x kept = go (bytes_eq v.called x) (other_name v.called x own kept)
  where
    go : (b : Bool) → b ≡ false → cond b (Some v.type) (in_block block x) ≡ None
    go true e = absurd cc
    go false e = free x kept

pub parameters_free : (block : S.Block) (ps : List LParameter) → BlockFree block → AreFree (parameter_names ps) → BlockFree (parameter_block block ps)
parameters_free block [] free h = free
parameters_free block (p ∷ ps) free h = one p.called p.type h (λ block free h. parameters_free block ps free h)
  where
    one : (o : Option Ident) (t : Ty) → AreFree (parameter_names (record { called = o; type = t } ∷ ps))
        → ((block : S.Block) → BlockFree block → AreFree (parameter_names ps) → BlockFree (parameter_block block ps))
        → BlockFree (parameter_block block (record { called = o; type = t } ∷ ps))
    one None t h rest = rest block free h
    one (Some x) t h rest = rest (record { called = x.text; type = t } ∷ block) (with_free (record { called = x.text; type = t }) block h.0 free) h.1

-- a name that a block does not have stands for the item
pub block_passed : (items : Program) (block : S.Block) (x : Text) → in_block block x ≡ None → meant (record { items = items; blocks = block ∷ [] }) x ≡ in_items (reverse items) x
block_passed items block x e = simp (e) refl

-- ---- places in an event program

-- no kept name stands for anything here, and here is an event program
pub record Inside (w : Where) : Type 0 where
  pub free : (x : Text) → is_kept x ≡ true → meant w.scope x ≡ NotMeant
  pub event : is_event w.dialect ≡ true

pub inside_inner : (w : Where) → Inside w → Inside (inner w)
inside_inner w i = record { free = i.free; event = i.event }

pub inside_behind : (w : Where) (s : LStmt) → AreFree (locals s) → Inside w → Inside (behind w s)
inside_behind w (Declare q y t start) own i = record { free = λ x kept. meant_before w.scope.items w.scope.blocks (variable y t) x (other_name y.text x own.0 kept) ∙ i.free x kept; event = i.event }
inside_behind w (Block q ss) own i = i
inside_behind w (Empty q) own i = i
inside_behind w (Assign q o v op e) own i = i
inside_behind w (Call q o to f es) own i = i
inside_behind w (Detach q o k to f es) own i = i
inside_behind w (Spawn q f es) own i = i
inside_behind w (If q c s r) own i = i
inside_behind w (While q c s) own i = i
inside_behind w (DoWhile q s c) own i = i
inside_behind w (For q ss c r s) own i = i
inside_behind w (Goto q x) own i = i
inside_behind w (Label x s) own i = i
inside_behind w (Break q) own i = i
inside_behind w (Continue q) own i = i
inside_behind w (Return q e) own i = i

pub inside_all_behind : (w : Where) (ss : LStmts) → AreFree (locals_in ss) → Inside w → Inside (all_behind w ss)
inside_all_behind w NoLStmt own i = i
inside_all_behind w (AndLStmt s ss) own i =
    inside_all_behind (behind w s) ss (last_free (locals s) (locals_in ss) own) (inside_behind w s (first_free (locals s) (locals_in ss) own) i)
