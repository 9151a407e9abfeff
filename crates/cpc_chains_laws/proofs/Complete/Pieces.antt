-- Where a source function's point stands, and where its image stands in a piece: names, openings, arrivals.
use Rattle.std.proofs.Common.{◌≡◌, ℕ, suc, ◌+◌, Bool, true, false, cond, List, [], ◌∷◌, length, map, reverse, Option, Some, None, bytes_eq, refl, sym, ◌∙◌, ap, subst}
use Rattle.cpc_base.specs.Bytes.{Text}
use Rattle.cpc_base.proofs.Truth.{by_false_true}
use Rattle.cpc_tree.specs.declared.program.Mode.{Mode}
use Rattle.cpc_tree.specs.declared.program.Mode.TheVariants.{Native}
use Rattle.cpc_tree.specs.Syntax.{Ty, TyVoid, TyInt, TyCondvar, TyPointer, TyCode, TyStruct, TyArray, Expr, ENamed, Assign, Variable, StructItem, GlobalItem, PrototypeItem, FunctionItem, Program}
use Rattle.cpc_tree.specs.Typing.{Meant, ALocal, AGlobal, AFunction, NotMeant, APlace, same_type, is_scalar, is_reference, named, item_named, parameter_type}
use Rattle.cpc_tree.specs.Typing as T
use Rattle.cpc_check_rules.specs.Scopes as S
use Rattle.cpc_check_rules.specs.Scopes.{in_blocks, in_items, meant, takes_value}
use Rattle.cpc_check_rules.specs.Operators.{Where, is_detached}
use Rattle.cpc_check_rules.specs.StmtRules.{stmt_breaks}
use Rattle.cpc_check_laws.proofs.Native.NativeValues.{cpc, event}
use Rattle.cpc_check_laws.proofs.Native.OnePlace.{stmt_here}
use Rattle.cpc_check_laws.specs.Sound.Suits.{converts}
use Rattle.cpc_check_laws.proofs.Sound.Agreement.{takes_converts}
use Rattle.cpc_convert_image_laws.specs.Images.{Readings}
use Rattle.cpc_convert_flat_laws.specs.Locals.{Load, loaded_scope, declared_scope}
use Rattle.cpc_chains_store_laws.specs.Frames.{taken_scope}
use Rattle.cpc_lifted_laws.specs.Complete.Reads.{Reads, Carries}
use Rattle.cpc_lifted_laws.specs.Complete.Sets.{Sets, Gives}
use Rattle.cpc_lifted_laws.specs.Complete.Kept.{KeptName, KeepsItems}
use Rattle.cpc_lifted_laws.specs.Complete.Standing.{local_named, local_or, Tells}
use Rattle.cpc_chains_laws.specs.Complete.Flat.{named_at, all_named_at, called, loaded}
use Rattle.cpc_lifted_laws.proofs.Complete.Names.{stays}
use Rattle.cpc_lifted_laws.proofs.Complete.Kept.{over}
use Rattle.cpc_lifted_laws.proofs.Complete.Standing.{tells_more}
use Rattle.cpc_chains_laws.proofs.Complete.Flat.{named_both, opened}
use Rattle.cpc_lifted_laws.proofs.Complete.Makers.{scalar_used, local_has}
use Rattle.cpc_lifted_laws.proofs.Complete.Rows.{assign_fine}

-- ---- names in a scope

-- no item is a local
item_no_local : (p : Program) (n : ℕ) (x : Text) (k : ℕ) (t : Ty) → item_named n p x ≡ ALocal k t → ⊥
item_no_local [] n x k t e = absurd cc
item_no_local (StructItem tag fs ∷ p) n x k t e = item_no_local p n x k t e
item_no_local (GlobalItem g u start ∷ p) n x k t e = go (bytes_eq g x) e (λ e. item_no_local p (suc n) x k t e)
  where
    go : (b : Bool) → cond b (AGlobal n u) (item_named (suc n) p x) ≡ ALocal k t → (item_named (suc n) p x ≡ ALocal k t → ⊥) → ⊥
    go true e rest = absurd cc
    go false e rest = rest e
item_no_local (PrototypeItem mode f r ps ∷ p) n x k t e = go (bytes_eq f x) e (λ e. item_no_local p n x k t e)
  where
    go : (b : Bool) → cond b (AFunction mode r (map parameter_type ps)) (item_named n p x) ≡ ALocal k t → (item_named n p x ≡ ALocal k t → ⊥) → ⊥
    go true e rest = absurd cc
    go false e rest = rest e
item_no_local (FunctionItem f ∷ p) n x k t e = go (bytes_eq f.called x) e (λ e. item_no_local p n x k t e)
  where
    go : (b : Bool) → cond b (AFunction f.mode f.result (map parameter_type f.parameters)) (item_named n p x) ≡ ALocal k t → (item_named n p x ≡ ALocal k t → ⊥) → ⊥
    go true e rest = absurd cc
    go false e rest = rest e

-- a name that means a local is that of a variable in scope
pub local_is : (q : Program) (scope : T.Scope) (x : Text) (k : ℕ) (t : Ty) → named q scope x ≡ ALocal k t → (l : T.Local) × (local_named scope x ≡ Some l) × (l.type ≡ t)
local_is q [] x k t e = absurd (item_no_local q 0 x k t e)
local_is q (l ∷ scope) x k t e = go (bytes_eq l.called x) e (λ e. local_is q scope x k t e)
  where
    go : (b : Bool) → cond b (ALocal l.slot l.type) (named q scope x) ≡ ALocal k t → (named q scope x ≡ ALocal k t → (m : T.Local) × (local_named scope x ≡ Some m) × (m.type ≡ t))
        → (m : T.Local) × (cond b (Some l) (local_named scope x) ≡ Some m) × (m.type ≡ t)
    go true e rest = (l, refl, cc)
    go false e rest = rest e

-- so it means one where blocks tell the scope
pub told_local : (q : Program) (scope : T.Scope) (blocks : List S.Block) → Tells scope blocks → (x : Text) (k : ℕ) (t : Ty) → named q scope x ≡ ALocal k t → (m : Meant) → in_blocks blocks m x ≡ ALocal 0 t
told_local q scope blocks tells x k t e m = let l = local_is q scope x k t e in tells x m ∙ ap (λ o. local_or o m) l.1 ∙ ap (λ t. ALocal 0 t) l.2

-- a name that no variable hides, whatever the items are
pub no_local : (scope : T.Scope) (x : Text) → ((q : Program) → named q scope x ≡ item_named 0 q x) → local_named scope x ≡ None
no_local [] x h = refl
no_local (l ∷ scope) x h = go (bytes_eq l.called x) h (λ h. no_local scope x h)
  where
    go : (b : Bool) → ((q : Program) → cond b (ALocal l.slot l.type) (named q scope x) ≡ item_named 0 q x) → (((q : Program) → named q scope x ≡ item_named 0 q x) → local_named scope x ≡ None) → cond b (Some l) (local_named scope x) ≡ None
    go true h rest = absurd (item_no_local [] 0 x l.slot l.type (sym (h [])))
    go false h rest = rest h

pub told_free : (scope : T.Scope) (blocks : List S.Block) → Tells scope blocks → (x : Text) → local_named scope x ≡ None → (m : Meant) → in_blocks blocks m x ≡ m
told_free scope blocks tells x e m = tells x m ∙ ap (λ o. local_or o m) e

-- ---- the scope behind an opening

loads_told : (v : Where) (ls : List Load) (scope : T.Scope) (n : ℕ) → Tells scope v.scope.blocks → Tells (loaded_scope scope n ls) (all_named_at v (map loaded ls)).scope.blocks
loads_told v [] scope n h = h
loads_told v (l ∷ ls) scope n h = loads_told (named_at v (loaded l)) ls (record { called = l.variable; type = l.type; slot = n } ∷ scope) (suc n) (tells_more scope v.scope.blocks (loaded l) n h)

declares_told : (v : Where) (xs : List Variable) (scope : T.Scope) (n : ℕ) → Tells scope v.scope.blocks → Tells (declared_scope scope n xs) (all_named_at v xs).scope.blocks
declares_told v [] scope n h = h
declares_told v (x ∷ xs) scope n h = declares_told (named_at v x) xs (record { called = x.called; type = x.type; slot = n } ∷ scope) (suc n) (tells_more scope v.scope.blocks x n h)

-- behind an opening the blocks tell the scope of what is taken
pub opened_told : (v : Where) (e tag : Text) (ls : List Load) (ds : List Variable) (scope : T.Scope) (n : ℕ) → Tells scope v.scope.blocks → Tells (taken_scope scope n e tag ls ds) (all_named_at v (opened e tag ls ds)).scope.blocks
opened_told v e tag ls ds scope n h =
    let x = called e (TyPointer (TyStruct tag)) in
    let taken : T.Scope = record { called = e; type = TyPointer (TyStruct tag); slot = n } ∷ scope in
    let first : Tells taken (named_at v x).scope.blocks = tells_more scope v.scope.blocks x n h in
    let second = loads_told (named_at v x) ls taken (suc n) first in
    let third = declares_told (all_named_at (named_at v x) (map loaded ls)) ds (loaded_scope taken (suc n) ls) (suc n + length ls) second in
    subst (λ w. Tells (taken_scope scope n e tag ls ds) w.scope.blocks) (sym (named_both (named_at v x) (map loaded ls) ds)) third

-- ---- a point of the source and a piece

-- the names of a point of a source function are read so in a piece
pub piece_carries : (before after : Program) → KeepsItems before after → (m : Mode) (u t : Ty) (scope : T.Scope) (blocks others : List S.Block) (r : Readings) → is_detached m ≡ false → Tells scope blocks
    → ((x : Text) (l : T.Local) → local_named scope x ≡ Some l → Reads (over after others) x (r x) (ALocal 0 l.type))
    → ((x : Text) → local_named scope x ≡ None → (r x ≡ None) × KeptName x (in_items (reverse before) x) (meant (over after others) x))
    → Carries (cpc (over before blocks) m u) (event (over after others) Native t) r
piece_carries before after keeps m u t scope blocks others r closed tells variables items = record {
  names = λ x. names x (local_named scope x) refl;
  cells = keeps.cells;
  fields = keeps.fields;
  closed = sym closed;
  source = refl;
  target = refl;
}
  where
    names : (x : Text) (o : Option T.Local) → local_named scope x ≡ o → Reads (over after others) x (r x) (meant (over before blocks) x)
    names x (Some l) e = subst (Reads (over after others) x (r x)) (sym (tells x (in_items (reverse before) x) ∙ ap (λ o. local_or o (in_items (reverse before) x)) e)) (variables x l e)
    names x None e =
        let k = items x e in
        let there : meant (over before blocks) x ≡ in_items (reverse before) x = tells x (in_items (reverse before) x) ∙ ap (λ o. local_or o (in_items (reverse before) x)) e in
        subst (λ o. Reads (over after others) x o (meant (over before blocks) x)) (sym k.0)
        (subst (Reads (over after others) x None) (sym there) (stays (over after others) x (in_items (reverse before) x) k.1))

-- ---- arrivals

-- what a value of a type can be given to has a scalar type, and so has the value
pub given_scalar : (t u : Ty) → takes_value t false u ≡ true → is_scalar u ≡ true
given_scalar t u h = converted_scalar t u (takes_converts t u false h (λ e. by_false_true e))
  where
    converted_scalar : (t u : Ty) → converts t u ≡ true → is_scalar u ≡ true
    converted_scalar t (TyInt k) h = refl
    converted_scalar t TyCondvar h = refl
    converted_scalar t (TyPointer u) h = refl
    converted_scalar t (TyCode r ps) h = refl
    converted_scalar (TyInt j) _ h = by_false_true h
    converted_scalar TyCondvar _ h = by_false_true h
    converted_scalar (TyPointer t) _ h = by_false_true h
    converted_scalar (TyCode r ps) _ h = by_false_true h
    converted_scalar TyVoid _ h = by_false_true h
    converted_scalar (TyStruct tag) _ h = by_false_true h
    converted_scalar (TyArray t n) _ h = by_false_true h

-- the value that arrived goes to its place
pub arrival_fine : (v : Where) (e : Expr) (x : Text) (k : ℕ) (u : Ty) → meant v.scope x ≡ ALocal k u → Gives v (Some e) u → stmt_breaks v (stmt_here (Assign e None (ENamed x))) ≡ []
arrival_fine v e x k u i h =
    let sets : Sets v h.0 (ENamed x) = record { type = APlace u; has = local_has v x k u i; takes = rw (scalar_used u (given_scalar h.0 u h.2)) h.2 } in
    assign_fine v h.0 e (ENamed x) h.1 sets
