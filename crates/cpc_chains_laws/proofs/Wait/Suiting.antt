-- Each argument of a call where a frame stands has a value that can be converted to the type of its parameter: what the frame keeps fits.
use Rattle.std.proofs.Common.{◌≡◌, ℕ, zero, suc, ◌+◌, Bool, true, false, not, ◌&&◌, cond, List, [], ◌∷◌, ◌++◌, map, bytes_eq, slice_get, Option, Some, refl, sym, ◌∙◌, ap, subst, arith}
use Rattle.cpc_base.specs.Bytes.{Text}
use Rattle.cpc_base.proofs.Truth.{and_both}
use Rattle.cpc_num.specs.declared.kinds.Fault.{Fault}
use Rattle.cpc_check_laws.specs.Sound.Suits.{Comes, Suits, SuitsSlot, SuitSlots, ScopeOf, IsBoxed, AllBoxed}
use Rattle.cpc_check_laws.specs.Sound.Typed.{Gets, AllGet}
use Rattle.cpc_check_laws.proofs.Sound.Conversions.{assigned_comes}
use Rattle.cpc_check_laws.proofs.Sound.Lookups.{boxed_left, boxed_right}
use Rattle.cpc_check_laws.proofs.Sound.Paths.{types_of, function_scope}
use Rattle.cpc_check_laws.proofs.Sound.Requests.{Becomes, got_comes}
use Rattle.cpc_tree.specs.declared.program.UnaryOp.TheVariants.{AddressOf}
use Rattle.cpc_tree.specs.Lists.{holds_number}
use Rattle.cpc_tree.specs.Points.{Point, Here, Arrival, End, Found}
use Rattle.cpc_tree.specs.Registers.{slot_of, addresses, addresses_all, variables}
use Rattle.cpc_tree.specs.Syntax.{Ty, TyInt, TyCondvar, TyPointer, TyCode, Expr, ENamed, EInteger, ECharacter, EText, EUnary, EBinary, EAnd, EOr, EChoose, ECast, ESizeOf, EIndex, EMember, EArrow, ECall, Exprs, NoExpr, AndExpr, Variable, Function, Program}
use Rattle.cpc_tree.specs.Typing.{Scope, Meant, ALocal, AGlobal, AFunction, NotMeant, named, is_scalar}
use Rattle.cpc_store.specs.Store.{Value, Unset, Whole, Null, At as Pointer, Code, Cond, Store}
use Rattle.cpc_meaning.specs.Act.{AtStatement}
use Rattle.cpc_meaning.specs.Answer.{Answer, Gives, Faults, NoAnswer}
use Rattle.cpc_meaning.specs.Eval.{Slot, Boxed, Context, value, assigned}
use Rattle.cpc_meaning.proofs.SameValues as S
use Rattle.cpc_convert_image_laws.specs.Locals.{Stands, AsValue, AsBlock, FitsAt, readings_in, reading_of, local_type}
use Rattle.cpc_meaning.specs.Names.{AllNames, AllNamesAmong}
use Rattle.cpc_convert_image_laws.specs.OneByOne.{AllConvert}
use Rattle.cpc_forms.specs.Flow.{Place}
use Rattle.cpc_forms.specs.Graph.{Node, node_of, graph_of}
use Rattle.cpc_forms.specs.Split.{InGraph}
use Rattle.cpc_graph_laws.proofs.Formed.{node_comes}
use Rattle.cpc_convert_flat_laws.specs.Addresses.{avoids, avoids_all}
use Rattle.cpc_convert_flat_laws.specs.Locals.{at as Here_at, Scalars, NoScalars, AndScalar}
use Rattle.cpc_convert_routines.specs.Addressed.{bars}
use Rattle.cpc_chains_event.specs.LocalLaws.{piece_locals}
use Rattle.cpc_convert_routines.specs.Named.{IsOwner}
use Rattle.cpc_convert_routines.specs.Names.{box_tag, variable_name}
use Rattle.cpc_convert_routines.specs.Routines.{Routine, routine_of, closure_of, is_plain, variable_of, variable_or, local_of, readings_of}
use Rattle.cpc_lifted_laws.proofs.Accepted.Functions.{scopes_mean_variables}
use Rattle.cpc_lifted_laws.specs.Piece.Known.{CpsKnown}
use Rattle.cpc_chains_laws.specs.Piece.Stood.{NodeAt, LocalsStand}
use Rattle.cpc_chains_laws.proofs.Piece.Environment.{Used, scope_is}
use Rattle.cpc_chains_laws.proofs.Piece.Scopes.{meant}

-- ---- values

-- a value that fits a type suits it
fits_suit : (t : Ty) (v : Value) → assigned t v ≡ Gives v → Suits t v
fits_suit t Unset e = tt
fits_suit (TyInt kind) (Whole j z) e = cc
fits_suit (TyPointer t) (Whole j z) e = absurd (cc)
fits_suit (TyPointer t) Null e = tt
fits_suit (TyPointer t) (Pointer c n k) e = tt
fits_suit (TyCode r ps) (Whole j z) e = absurd (cc)
fits_suit (TyCode r ps) Null e = tt
fits_suit (TyCode r ps) (Code g) e = tt
fits_suit TyCondvar (Cond n) e = tt
fits_suit _ _ e = absurd (cc)

-- a conversion does not fault
no_fault : (t : Ty) (v : Value) (fault : Fault) → assigned t v ≡ Faults fault → ⊥
no_fault t Unset fault e = absurd (cc)
no_fault (TyInt kind) (Whole j z) fault e = absurd (cc)
no_fault (TyPointer t) (Whole j z) fault e = absurd (cc)
no_fault (TyPointer t) Null fault e = absurd (cc)
no_fault (TyPointer t) (Pointer c n k) fault e = absurd (cc)
no_fault (TyCode r ps) (Whole j z) fault e = absurd (cc)
no_fault (TyCode r ps) Null fault e = absurd (cc)
no_fault (TyCode r ps) (Code g) fault e = absurd (cc)
no_fault TyCondvar (Cond n) fault e = absurd (cc)
no_fault _ _ fault e = absurd (cc)

-- so a value that comes is there
it_comes : (t : Ty) (v : Value) (a : Answer Value) → assigned t v ≡ a → Comes (Suits t) a → (w : Value) × (assigned t v ≡ Gives w)
it_comes t v (Gives w) e h = (w, e)
it_comes t v (Faults fault) e h = absurd (no_fault t v fault e)
it_comes t v NoAnswer e h = absurd h

scalar_at : (xs : List Variable) (i : ℕ) (x : Variable) → Scalars xs → slice_get xs i ≡ Some x → is_scalar x.type ≡ true
scalar_at _ i x NoScalars e = absurd (cc)
scalar_at _ zero x (AndScalar y ys s more) e = let z : y ≡ x = cc in ap (λ (v : Variable). is_scalar v.type) (sym z) ∙ s
scalar_at _ (suc i) x (AndScalar y ys s more) e = scalar_at ys i x more e

-- ---- slots

-- a slot that is kept, or else a box
abbrev slot_or : (is_kept : Bool) → Option Slot → Slot
slot_or true (Some slot) = slot
slot_or kept slot = Boxed 0

module _ (kept : ℕ → Bool) (slots : List Slot) where
  -- the slots of these variables, from the k-th on, where each that is not kept is a box
  abbrev boxed_from : ℕ → List Variable → List Slot
  boxed_from k [] = []
  boxed_from k (x ∷ xs) = slot_or (kept k) (slice_get slots k) ∷ boxed_from (suc k) xs

  boxed_at : (k i : ℕ) (x : Variable) (xs : List Variable) → slice_get xs i ≡ Some x → slice_get (boxed_from k xs) i ≡ Some (slot_or (kept (k + i)) (slice_get slots (k + i)))
  boxed_at k i x [] e = absurd (cc)
  boxed_at k zero x (y ∷ xs) e = ap (λ j. Some (slot_or (kept j) (slice_get slots j))) (let z : k ≡ k + 0 = omega arith in z)
  boxed_at k (suc i) x (y ∷ xs) e = boxed_at (suc k) i x xs e ∙ ap (λ j. Some (slot_or (kept j) (slice_get slots j))) (let z : suc k + i ≡ k + suc i = omega arith in z)

  boxed_past : (k i : ℕ) (xs : List Variable) → IsBoxed (Some (slot_or (kept (k + i)) (slice_get slots (k + i)))) → IsBoxed (slice_get (boxed_from k xs) i)
  boxed_past k i [] h = tt
  boxed_past k zero (x ∷ xs) h = subst (λ j. IsBoxed (Some (slot_or (kept j) (slice_get slots j)))) (let z : k + 0 ≡ k = omega arith in z) h
  boxed_past k (suc i) (x ∷ xs) h = boxed_past (suc k) i xs (subst (λ j. IsBoxed (Some (slot_or (kept j) (slice_get slots j)))) (let z : k + suc i ≡ suc k + i = omega arith in z) h)

  suits_from : (k : ℕ) (xs : List Variable) → ((i : ℕ) (x : Variable) → slice_get xs i ≡ Some x → SuitsSlot x.type (slot_or (kept (k + i)) (slice_get slots (k + i)))) → SuitSlots (map (λ (x : Variable). x.type) xs) (boxed_from k xs)
  suits_from k [] h = tt
  suits_from k (x ∷ xs) h = (
    subst (λ j. SuitsSlot x.type (slot_or (kept j) (slice_get slots j))) (let z : k + 0 ≡ k = omega arith in z) (h 0 x refl),
    suits_from (suc k) xs (λ i y e. subst (λ j. SuitsSlot y.type (slot_or (kept j) (slice_get slots j))) (let z : k + suc i ≡ suc k + i = omega arith in z) (h (suc i) y e)),
  )

-- ---- addresses

all_append : (slots : List Slot) (ks ls : List ℕ) → AllBoxed slots ks → AllBoxed slots ls → AllBoxed slots (ks ++ ls)
all_append slots [] ls h g = g
all_append slots (k ∷ ks) ls h g = (h.0, all_append slots ks ls h.1 g)

-- a name that may have its address taken is no register's
barred_not : (marks : ℕ → Bool) (spelled : ℕ → Text → Text) (slots : List Slot) → ((k : ℕ) → marks k ≡ false → IsBoxed (slice_get slots k)) → (scope : Scope) (x : Text) → not (bars (readings_in marks spelled scope x) x) ≡ true → AllBoxed slots (slot_of scope x)
barred_not marks spelled slots boxed [] x h = tt
barred_not marks spelled slots boxed (l ∷ scope) x h = go (bytes_eq l.called x) h (λ i. barred_not marks spelled slots boxed scope x i)
  where
    its : (m : Bool) → marks l.slot ≡ m → not (bars (Some (reading_of m (spelled l.slot x) x)) x) ≡ true → IsBoxed (slice_get slots l.slot)
    its true e i = absurd (cc)
    its false e i = boxed l.slot e

    go : (b : Bool) → not (bars (cond b (Some (reading_of (marks l.slot) (spelled l.slot x) x)) (readings_in marks spelled scope x)) x) ≡ true
        → (not (bars (readings_in marks spelled scope x) x) ≡ true → AllBoxed slots (slot_of scope x)) → AllBoxed slots (cond b (l.slot ∷ []) (slot_of scope x))
    go true i deeper = (its (marks l.slot) refl i, tt)
    go false i deeper = deeper i

module _ (slots : List Slot) (scope : Scope) (L : Text → Bool) (named_boxed : (x : Text) → not (L x) ≡ true → AllBoxed slots (slot_of scope x)) where
  mutual
    avoided : (e : Expr) → avoids L e ≡ true → AllBoxed slots (addresses scope e)
    avoided (ENamed x) h = tt
    avoided (EInteger kind z) h = tt
    avoided (ECharacter z) h = tt
    avoided (EText bytes) h = tt
    avoided (EUnary AddressOf (ENamed x)) h = named_boxed x h
    avoided (EUnary sign e) h = avoided e h
    avoided (EBinary op a b) h = let i = and_both (avoids L a) (avoids L b) h in all_append slots (addresses scope a) (addresses scope b) (avoided a i.0) (avoided b i.1)
    avoided (EAnd a b) h = let i = and_both (avoids L a) (avoids L b) h in all_append slots (addresses scope a) (addresses scope b) (avoided a i.0) (avoided b i.1)
    avoided (EOr a b) h = let i = and_both (avoids L a) (avoids L b) h in all_append slots (addresses scope a) (addresses scope b) (avoided a i.0) (avoided b i.1)
    avoided (EChoose t a b) h =
        let i = and_both (avoids L t) (avoids L a && avoids L b) h in
        let j = and_both (avoids L a) (avoids L b) i.1 in
        all_append slots (addresses scope t ++ addresses scope a) (addresses scope b) (all_append slots (addresses scope t) (addresses scope a) (avoided t i.0) (avoided a j.0)) (avoided b j.1)
    avoided (ECast t e) h = avoided e h
    avoided (ESizeOf t) h = tt
    avoided (EIndex a i) h = let j = and_both (avoids L a) (avoids L i) h in all_append slots (addresses scope a) (addresses scope i) (avoided a j.0) (avoided i j.1)
    avoided (EMember e x) h = avoided e h
    avoided (EArrow e x) h = avoided e h
    avoided (ECall f es) h = let i = and_both (avoids L f) (avoids_all L es) h in all_append slots (addresses scope f) (addresses_all scope es) (avoided f i.0) (avoided_all es i.1)

    avoided_all : (es : Exprs) → avoids_all L es ≡ true → AllBoxed slots (addresses_all scope es)
    avoided_all NoExpr h = tt
    avoided_all (AndExpr e es) h = let i = and_both (avoids L e) (avoids_all L es) h in all_append slots (addresses scope e) (addresses_all scope es) (avoided e i.0) (avoided_all es i.1)

-- the names of an expression, as the law of same values says it
same_names : (L : Text → Type 0) (e : Expr) → AllNames L e → S.AllNames L e
same_names L (ENamed x) h = h
same_names L (EInteger kind z) h = tt
same_names L (ECharacter z) h = tt
same_names L (EText bytes) h = tt
same_names L (EUnary sign e) h = same_names L e h
same_names L (EBinary op a b) h = (same_names L a h.0, same_names L b h.1)
same_names L (EAnd a b) h = (same_names L a h.0, same_names L b h.1)
same_names L (EOr a b) h = (same_names L a h.0, same_names L b h.1)
same_names L (EChoose t a b) h = (same_names L t h.0, same_names L a h.1, same_names L b h.2)
same_names L (ECast t e) h = same_names L e h
same_names L (ESizeOf t) h = tt
same_names L (EIndex a i) h = (same_names L a h.0, same_names L i h.1)
same_names L (EMember e x) h = same_names L e h
same_names L (EArrow e x) h = same_names L e h
same_names L (ECall f es) h = tt

-- the scope of a statement's node is one of the function
module _ (p : Program) (f : Function) (x : Found) where
  point_scope : (point : Point) → (node_of p f point).stood ≡ AtStatement x → ScopeOf (types_of f) (node_of p f point).scope
  point_scope (Here path) e = function_scope f path
  point_scope (Arrival path) e = function_scope f path
  point_scope End e = tt

  node_scope : (n : ℕ) (node : Node) → slice_get (graph_of p f).nodes n ≡ Some node → node.stood ≡ AtStatement x → ScopeOf (types_of f) node.scope
  node_scope n node e stood =
      let from = node_comes p f n node e in
      subst (λ (k : Node). k.stood ≡ AtStatement x → ScopeOf (types_of f) k.scope) from.2 (point_scope from.0) stood

-- ---- where a frame stands

module _ (p : Program) (f : Function) (known : CpsKnown p f) (l : Place) (owner : IsOwner (routine_of p f) l) (n : ℕ) (at : NodeAt p f l n) (slots slots' : List Slot) (lower : Value) (stands : LocalsStand p (routine_of p f) l slots slots' lower) (x : Found) (stood : at.node.stood ≡ AtStatement x) where
  abbrev r : Routine
  r = routine_of p f

  abbrev keeps : ℕ → Bool
  keeps k = holds_number (closure_of r l) k

  abbrev Names : Text → Type 0
  Names = Used p f known l owner n at slots slots' lower stands

  -- the slots in which what is not kept is a box
  abbrev full : List Slot
  full = boxed_from keeps slots 0 (variables f)

  kept_suits : (k : ℕ) (y : Variable) → slice_get (variables f) k ≡ Some y → (b : Bool) → keeps k ≡ b → SuitsSlot y.type (slot_or b (slice_get slots k))
  kept_suits k y e false h = tt
  kept_suits k y e true h =
      let there = (meant p f known l owner).kept k h in
      let scalar = scalar_at (piece_locals p r l) there.0 (local_of r k) ((meant p f known l owner).scalar (known.results l)) there.1 in
      go k there.0 (is_plain r k) refl (stands.kept k there.0 h there.1) (ap (λ (v : Variable). v.type) (ap variable_or e)) (stands.fits k h) scalar
    where
      go : (k i : ℕ) (m : Bool) → is_plain r k ≡ m → Stands slots slots' m k i → (variable_of r k).type ≡ y.type → FitsAt slots (variable_of r k).type k → is_scalar (local_of r k).type ≡ true → SuitsSlot y.type (slot_or true (slice_get slots k))
      go _ _ _ plain (AsValue k i v a b) same fits scalar =
          subst (λ o. SuitsSlot y.type (slot_or true o)) (sym a)
          (ap is_scalar (sym same) ∙ (ap (λ m. is_scalar (local_type m (variable_of r k).type (box_tag f.called k))) (sym plain) ∙ scalar), fits_suit y.type v (subst (λ t. assigned t v ≡ Gives v) same (fits v a)))
      go _ _ _ plain (AsBlock k i m a b) same fits scalar = subst (λ o. SuitsSlot y.type (slot_or true o)) (sym a) tt

  -- a box is no register
  not_plain_boxed : (k : ℕ) → is_plain r k ≡ false → IsBoxed (slice_get full k)
  not_plain_boxed k plain = boxed_past keeps slots 0 k (variables f) (subst (λ j. IsBoxed (Some (slot_or (keeps j) (slice_get slots j)))) (let z : k ≡ 0 + k = omega arith in z) (by (keeps k) refl))
    where
      go : (k i : ℕ) (m : Bool) → m ≡ false → Stands slots slots' m k i → IsBoxed (Some (slot_or true (slice_get slots k)))
      go _ _ _ plain (AsValue k i v a b) = absurd (cc)
      go _ _ _ plain (AsBlock k i m a b) = subst (λ o. IsBoxed (Some (slot_or true o))) (sym a) tt

      by : (b : Bool) → keeps k ≡ b → IsBoxed (Some (slot_or b (slice_get slots k)))
      by false h = tt
      by true h = let there = (meant p f known l owner).kept k h in go k there.0 (is_plain r k) plain (stands.kept k there.0 h there.1)

  -- names mean the same there
  same_meant : (y : Text) → Names y → S.SameMeant slots full (named p at.node.scope y) (named p at.node.scope y)
  same_meant y u = by (named p at.node.scope y) refl u.kept
    where
      at_slot : (k i : ℕ) (t : Ty) (m : Bool) → Stands slots slots' m k i → slice_get full k ≡ Some (slot_or true (slice_get slots k)) → S.SameMeant slots full (ALocal k t) (ALocal k t)
      at_slot _ _ t _ (AsValue k i v a b) e = S.SameRegister k k t v a (e ∙ ap (λ o. Some (slot_or true o)) a)
      at_slot _ _ t _ (AsBlock k i m a b) e = S.SameBox k k t m a (e ∙ ap (λ o. Some (slot_or true o)) a)

      by : (m : Meant) → named p at.node.scope y ≡ m → ((k : ℕ) (t : Ty) → m ≡ ALocal k t → keeps k ≡ true) → S.SameMeant slots full m m
      by (ALocal k t) e kept =
          let h = kept k t refl in
          let there = (meant p f known l owner).kept k h in
          let is = scopes_mean_variables p f.called f (InGraph l n) known.found.named y k t (ap (λ s. named p s y) (scope_is p f known l owner n at slots slots' lower stands) ∙ e) in
          at_slot k there.0 t (is_plain r k) (stands.kept k there.0 h there.1)
          (boxed_at keeps slots 0 k _ (variables f) is ∙ (ap (λ j. Some (slot_or (keeps j) (slice_get slots j))) (let z : 0 + k ≡ k = omega arith in z) ∙ ap (λ b. Some (slot_or b (slice_get slots k))) h))
      by (AGlobal k t) e kept = S.SameGlobal k t
      by (AFunction mode t ts) e kept = S.SameFunction mode t ts
      by NotMeant e kept = S.SameNothing

  module _ (t : Store) where
    abbrev here : Context
    here = Here_at p at.node.scope slots t

    abbrev there : Context
    there = Here_at p at.node.scope full t

    it_converts : (u : Ty) (e : Expr) → Gets p at.node.scope u e → AllNames Names e → AllBoxed full (addresses at.node.scope e) → (v : Value) → value here e ≡ Gives v → (w : Value) × (assigned u v ≡ Gives w)
    it_converts u e gets names boxed v is =
        let same = S.same_value p p (record { cells = record { cells = λ t. refl }; fields = λ a b. refl }) Names at.node.scope at.node.scope slots full t same_meant e (same_names Names e names) in
        let comes = got_comes there (types_of f) (node_scope p f x n at.node at.is_node stood)
        (suits_from keeps slots 0 (variables f) (λ i y e. kept_suits (0 + i) y (ap (slice_get (variables f)) (let z : 0 + i ≡ i = omega arith in z) ∙ e) (keeps (0 + i)) refl)) u e gets boxed in
        let becomes : Becomes u v = subst (Comes (Becomes u)) (sym same ∙ is) comes in
        it_comes u v (assigned u v) refl (assigned_comes u becomes.0 v becomes.1 becomes.2)

    all_convert : (us : List Ty) (es : Exprs) → AllGet p at.node.scope us es → AllNamesAmong Names es → AllBoxed full (addresses_all at.node.scope es) → AllConvert here us es
    all_convert [] NoExpr gets names boxed = tt
    all_convert (u ∷ us) (AndExpr e es) gets names boxed = (
      it_converts u e gets.0 names.0 (boxed_left full (addresses at.node.scope e) (addresses_all at.node.scope es) boxed),
      all_convert us es gets.1 names.1 (boxed_right full (addresses at.node.scope e) (addresses_all at.node.scope es) boxed),
    )
    all_convert [] (AndExpr e es) gets names boxed = absurd gets
    all_convert (u ∷ us) NoExpr gets names boxed = absurd gets

    -- each argument can be converted
    pub arguments_convert : (us : List Ty) (es : Exprs) → AllGet p at.node.scope us es → AllNamesAmong Names es → avoids_all (λ y. bars (readings_of r at.node.scope y) y) es ≡ true → AllConvert here us es
    arguments_convert us es gets names apart =
        all_convert us es gets names
        (avoided_all full at.node.scope (λ y. bars (readings_of r at.node.scope y) y) (λ y h. barred_not (is_plain r) variable_name full not_plain_boxed at.node.scope y h) es apart)
