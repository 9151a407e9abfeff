-- The types of an accepted program's globals are complete.
use Rattle.std.proofs.Common.{◌≡◌, ◌⊎◌, inl, inr, not, List, [], ◌∷◌, ◌++◌, map, Option, Some, refl, sym, ◌∙◌, ap, subst}
use Rattle.std.proofs.lemmas.List.{append-nil}
use Rattle.cpc_base.specs.Bytes.{Text}
use Rattle.cpc_base.specs.declared.stop.Dialect.TheVariants as D
use Rattle.cpc_base.specs.declared.stop.Place.{Place}
use Rattle.cpc_check_rules.specs.declared.rule.Rule.TheVariants.{Twice, Incomplete}
use Rattle.cpc_check_rules.specs.FunctionRules.{reserved_breaks}
use Rattle.cpc_check_rules.specs.ItemRules.{outside, is_struct, is_item, item_breaks, items_breaks}
use Rattle.cpc_check_rules.specs.Rule.{at_if}
use Rattle.cpc_check_rules.specs.Rules.{breaks}
use Rattle.cpc_check_rules.specs.Scopes.{is_sized}
use Rattle.cpc_check_laws.proofs.Sound.Agreement.{Grows}
use Rattle.cpc_check_laws.proofs.Sound.Bodies.{size_of}
use Rattle.cpc_check_laws.proofs.Sound.Growing.{IsFresh, grows_step, grows_same, grows_on}
use Rattle.cpc_check_laws.proofs.Sound.Unbroken.{split, holds_then}
use Rattle.cpc_check_laws.proofs.Native.NativeValues.{unbroken as holds_not}
use Rattle.cpc_tree.specs.Grammar.{IsProgram}
use Rattle.cpc_tree.specs.Tokens.{Placed}
use Rattle.cpc_tree.specs.Located.{LProgram, LItem, LStruct, LGlobal, LPrototype, LFunctionItem, bare_item, bare}
use Rattle.cpc_tree.specs.Syntax.{Ty, Expr, Item, GlobalItem, Program}
use Rattle.cpc_tree.specs.Typing.{cells}
use Rattle.cpc_tree.proofs.Options.{then_some}
use Rattle.cpc_convert_common.specs.Members.{Has, OnTop, Below}
use Rattle.cpc_lifted_laws.specs.Native.Convertible.{GlobalsComplete}

-- ---- items so far

pub one_more : (before xs : List Item) (i : Item) → (before ++ i ∷ []) ++ xs ≡ before ++ i ∷ xs
one_more [] xs i = refl
one_more (y ∷ ys) xs i = ap (λ zs. y ∷ zs) (one_more ys xs i)

fresh_item : (program before : Program) (x : LItem) → item_breaks D.Cpc program before x ≡ [] → IsFresh before (bare_item x)
fresh_item program before (LStruct tag fs) h =
    let k = split (reserved_breaks D.Cpc (tag ∷ [])) _ h in
    holds_not (is_struct tag.text before) tag.place Twice (split (at_if (is_struct tag.text before) tag.place Twice) _ k.1).0
fresh_item program before (LGlobal x t start) h = tt
fresh_item program before (LPrototype q mode x r ps) h = tt
fresh_item program before (LFunctionItem f) h = tt

-- they grow to the whole program
pub grown : (program before : Program) (xs : List LItem) → items_breaks D.Cpc program before xs ≡ [] → Grows before (before ++ map bare_item xs)
grown program before [] h = subst (Grows before) (sym (append-nil before)) (grows_same before)
grown program before (x ∷ xs) h =
    let k = split (item_breaks D.Cpc program before x) (items_breaks D.Cpc program (before ++ bare_item x ∷ []) xs) h in
    subst (Grows before) (one_more before (map bare_item xs) (bare_item x))
    (grows_on before (before ++ bare_item x ∷ []) ((before ++ bare_item x ∷ []) ++ map bare_item xs) (grows_step before (bare_item x) (fresh_item program before x k.0)) (grown program (before ++ bare_item x ∷ []) xs k.1))

-- ---- globals

on_top : {A : Type 0} (x y : A) (xs : List A) → Has x (y ∷ xs) → (x ≡ y) ⊎ Has x xs
on_top _ _ _ (OnTop _ _) = inl refl
on_top _ _ _ (Below _ _ _ h) = inr h

module _ (program : Program) where
  -- the type of a global is complete where it is declared, and so in the whole program
  here_complete : (before : Program) (x : LItem) (xs : List LItem) → items_breaks D.Cpc program before (x ∷ xs) ≡ [] → (y : Text) (t : Ty) (start : Option Expr) → GlobalItem y t start ≡ bare_item x
      → (ts : List Ty) × (cells (before ++ bare_item x ∷ map bare_item xs) t ≡ Some ts)
  here_complete before (LGlobal x u o) xs h y t start e =
      let k = split (item_breaks D.Cpc program before (LGlobal x u o)) (items_breaks D.Cpc program (before ++ bare_item (LGlobal x u o) ∷ []) xs) h in
      let a = split (reserved_breaks D.Cpc (x ∷ [])) _ k.0 in
      let b = split (at_if (is_item x.text before) x.place Twice) _ a.1 in
      let c = split (at_if (not (is_sized (outside D.Cpc before).scope u)) x.place Incomplete) _ b.1 in
      let n = size_of (outside D.Cpc before).scope u (holds_then (is_sized (outside D.Cpc before).scope u) x.place Incomplete c.0) in
      let ts = then_some (cells before u) _ n.0 n.1 in
      let same : t ≡ u = cc in
      (ts.0, ap (cells (before ++ bare_item (LGlobal x u o) ∷ map bare_item xs)) same ∙ (grown program before (LGlobal x u o ∷ xs) h).cells u ts.0 ts.1)
  here_complete before (LStruct tag fs) xs h y t start e = absurd (cc)
  here_complete before (LPrototype q mode x r ps) xs h y t start e = absurd (cc)
  here_complete before (LFunctionItem f) xs h y t start e = absurd (cc)

  globals_complete : (before : Program) (xs : List LItem) → items_breaks D.Cpc program before xs ≡ [] → (y : Text) (t : Ty) (start : Option Expr) → Has (GlobalItem y t start) (map bare_item xs)
      → (ts : List Ty) × (cells (before ++ map bare_item xs) t ≡ Some ts)
  globals_complete before [] h y t start has = elim has [ ]
  globals_complete before (x ∷ xs) h y t start has = go (on_top _ _ _ has) (globals_complete (before ++ bare_item x ∷ []) xs (split (item_breaks D.Cpc program before x) _ h).1 y t start)
    where
      go : (GlobalItem y t start ≡ bare_item x) ⊎ Has (GlobalItem y t start) (map bare_item xs) → (Has (GlobalItem y t start) (map bare_item xs) → (ts : List Ty) × (cells ((before ++ bare_item x ∷ []) ++ map bare_item xs) t ≡ Some ts))
          → (ts : List Ty) × (cells (before ++ bare_item x ∷ map bare_item xs) t ≡ Some ts)
      go (inl e) rest = here_complete before x xs h y t start e
      go (inr i) rest = let w = rest i in (w.0, ap (λ items. cells items t) (sym (one_more before (map bare_item xs) (bare_item x))) ∙ w.1)

pub accepted_globals : (list : List Placed) (end : Place) (p : LProgram) → IsProgram D.Cpc list end p → breaks D.Cpc p ≡ [] → GlobalsComplete (bare p)
accepted_globals list end p read unbroken = globals_complete (bare p) [] p.items (split (items_breaks D.Cpc (bare p) [] p.items) _ unbroken).0
