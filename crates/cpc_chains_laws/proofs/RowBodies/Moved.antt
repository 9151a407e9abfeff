-- What stands at a point of a source is moved into a piece, where the names that occur in it are those of variables that are kept there, or of items.
use Rattle.std.proofs.Common.{◌≡◌, ℕ, true, List, [], ◌++◌, Option, Some, None, refl, sym, ◌∙◌, ap, ap₂, subst}
use Rattle.cpc_base.specs.Bytes.{Text}
use Rattle.cpc_base.specs.declared.stop.Dialect.TheVariants as D
use Rattle.cpc_num.specs.declared.kinds.Op.{Op}
use Rattle.cpc_tree.specs.declared.program.Mode.{Mode}
use Rattle.cpc_tree.specs.Lists.{holds_number}
use Rattle.cpc_tree.specs.Registers.{slot_of}
use Rattle.cpc_tree.specs.Syntax.{Ty, Expr, ENamed, EInteger, ECharacter, EText, EUnary, EBinary, EAnd, EOr, EChoose, ECast, ESizeOf, EIndex, EMember, EArrow, ECall, Exprs, NoExpr, AndExpr, Assign, Call, Program}
use Rattle.cpc_tree.specs.Typing as T
use Rattle.cpc_check_rules.specs.Scopes as S
use Rattle.cpc_check_rules.specs.Operators.{Where}
use Rattle.cpc_check_rules.specs.Calls.{Wanted}
use Rattle.cpc_check_rules.specs.StmtRules.{test_breaks, stmt_breaks}
use Rattle.cpc_check_laws.proofs.Native.NativeValues.{cpc}
use Rattle.cpc_check_laws.proofs.Native.OnePlace.{expr_here, stmt_here}
use Rattle.cpc_lifted_laws.specs.Complete.Reads.{Carries, stays_called}
use Rattle.cpc_lifted_laws.specs.Complete.Sets.{Sets, Writes, AllSet, Gives, AllSuit}
use Rattle.cpc_lifted_laws.proofs.Complete.Acts.{sets_carried, writes_carried, all_carried, gives_carried, all_suit_carried, assign_carried, call_carried, test_carried}
use Rattle.cpc_lifted_laws.proofs.Complete.Kept.{over}
use Rattle.cpc_convert_image_laws.specs.Images.{Readings, image_named, image, images, image_if}
use Rattle.cpc_meaning.specs.Names.{AllNames, AllNamesIf, AllNamesAmong}
use Rattle.cpc_graph_laws.proofs.Formed.{in_left, in_right}
use Rattle.cpc_lift_laws.specs.Used.{used_in, used_among, used_if}
use Rattle.cpc_chains_laws.proofs.Piece.Uses.{names_kept, names_kept_if, names_kept_among}
use Rattle.cpc_lifted_laws.proofs.RowBodies.Occurring.{Same, sets_same, writes_same, gives_same, all_set_same, all_suit_same, assign_same, call_same, test_same}

-- ---- names of which nothing is asked

abbrev Any : Text → Type 0
Any x = Unit {0}

any_names : (e : Expr) → AllNames Any e
any_names (ENamed x) = tt
any_names (EInteger kind z) = tt
any_names (ECharacter z) = tt
any_names (EText bytes) = tt
any_names (EUnary sign e) = any_names e
any_names (EBinary op a b) = (any_names a, any_names b)
any_names (EAnd a b) = (any_names a, any_names b)
any_names (EOr a b) = (any_names a, any_names b)
any_names (EChoose c a b) = (any_names c, any_names a, any_names b)
any_names (ECast t e) = any_names e
any_names (ESizeOf t) = tt
any_names (EIndex a i) = (any_names a, any_names i)
any_names (EMember e x) = any_names e
any_names (EArrow e x) = any_names e
any_names (ECall f es) = tt

any_if : (o : Option Expr) → AllNamesIf Any o
any_if None = tt
any_if (Some e) = any_names e

any_among : (es : Exprs) → AllNamesAmong Any es
any_among NoExpr = tt
any_among (AndExpr e es) = (any_names e, any_among es)

-- ---- readings that agree

module _ (scope : T.Scope) (K : ℕ → Type 0) where
  -- all of these numbers are so
  abbrev pub AllHeld : List ℕ → Type 0
  AllHeld js = (j : ℕ) → holds_number js j ≡ true → K j

  pub held_left : (xs ys : List ℕ) → AllHeld (xs ++ ys) → AllHeld xs
  held_left xs ys h j e = h j (in_left j xs ys e)

  pub held_right : (xs ys : List ℕ) → AllHeld (xs ++ ys) → AllHeld ys
  held_right xs ys h j e = h j (in_right j xs ys e)

  module _ (r s : Readings) (agree : (x : Text) → AllHeld (slot_of scope x) → r x ≡ s x) where
    mutual
      pub image_agrees : (e : Expr) → AllHeld (used_in scope e) → image r e ≡ image s e
      image_agrees (ENamed x) h = ap (λ o. image_named o x) (agree x h)
      image_agrees (EInteger kind z) h = refl
      image_agrees (ECharacter z) h = refl
      image_agrees (EText bytes) h = refl
      image_agrees (EUnary sign e) h = ap (EUnary sign) (image_agrees e h)
      image_agrees (EBinary op a b) h = ap₂ (EBinary op) (image_agrees a (held_left (used_in scope a) (used_in scope b) h)) (image_agrees b (held_right (used_in scope a) (used_in scope b) h))
      image_agrees (EAnd a b) h = ap₂ EAnd (image_agrees a (held_left (used_in scope a) (used_in scope b) h)) (image_agrees b (held_right (used_in scope a) (used_in scope b) h))
      image_agrees (EOr a b) h = ap₂ EOr (image_agrees a (held_left (used_in scope a) (used_in scope b) h)) (image_agrees b (held_right (used_in scope a) (used_in scope b) h))
      image_agrees (EChoose c a b) h =
          let rest = held_right (used_in scope c) (used_in scope a ++ used_in scope b) h in
          ap₂ (λ x y. EChoose x y (image r b)) (image_agrees c (held_left (used_in scope c) (used_in scope a ++ used_in scope b) h)) (image_agrees a (held_left (used_in scope a) (used_in scope b) rest))
          ∙ ap (EChoose (image s c) (image s a)) (image_agrees b (held_right (used_in scope a) (used_in scope b) rest))
      image_agrees (ECast t e) h = ap (ECast t) (image_agrees e h)
      image_agrees (ESizeOf t) h = refl
      image_agrees (EIndex a i) h = ap₂ EIndex (image_agrees a (held_left (used_in scope a) (used_in scope i) h)) (image_agrees i (held_right (used_in scope a) (used_in scope i) h))
      image_agrees (EMember e x) h = ap (λ y. EMember y x) (image_agrees e h)
      image_agrees (EArrow e x) h = ap (λ y. EArrow y x) (image_agrees e h)
      image_agrees (ECall f es) h = ap₂ ECall (image_agrees f (held_left (used_in scope f) (used_among scope es) h)) (images_agree es (held_right (used_in scope f) (used_among scope es) h))

      pub images_agree : (es : Exprs) → AllHeld (used_among scope es) → images r es ≡ images s es
      images_agree NoExpr h = refl
      images_agree (AndExpr e es) h = ap₂ AndExpr (image_agrees e (held_left (used_in scope e) (used_among scope es) h)) (images_agree es (held_right (used_in scope e) (used_among scope es) h))

    pub image_if_agrees : (o : Option Expr) → AllHeld (used_if scope o) → image_if r o ≡ image_if s o
    image_if_agrees None h = refl
    image_if_agrees (Some e) h = ap Some (image_agrees e h)

-- ---- a point and a piece

module _ (before : Program) (bs cs : List S.Block) (mode : Mode) (u : Ty) (v : Where) (r s : Readings) (scope : T.Scope) (K : ℕ → Type 0) (c : Carries (cpc (over before cs) mode u) v s)
    (same : (x : Text) → AllHeld scope K (slot_of scope x) → Same before bs cs mode u D.Cpc x) (agree : (x : Text) → AllHeld scope K (slot_of scope x) → r x ≡ s x) where
  abbrev w : Where
  w = cpc (over before bs) mode u

  abbrev M : Text → Type 0
  M = Same before bs cs mode u D.Cpc

  more : (x : Text) → Any x → ((j : ℕ) → holds_number (slot_of scope x) j ≡ true → K j) → M x
  more x a h = same x h

  named : (e : Expr) → AllHeld scope K (used_in scope e) → AllNames M e
  named e h = names_kept Any M scope K more e (any_names e) h

  named_if : (o : Option Expr) → AllHeld scope K (used_if scope o) → AllNamesIf M o
  named_if o h = names_kept_if Any M scope K more o (any_if o) h

  named_among : (es : Exprs) → AllHeld scope K (used_among scope es) → AllNamesAmong M es
  named_among es h = names_kept_among Any M scope K more es (any_among es) h

  pub sets_there : (t : Ty) (e : Expr) → AllHeld scope K (used_in scope e) → Sets w t e → Sets v t (image r e)
  sets_there t e h i = subst (Sets v t) (sym (image_agrees scope K r s agree e h)) (sets_carried _ v s c t e (sets_same before bs cs mode u D.Cpc t e (named e h) i))

  pub writes_there : (t : Ty) (e : Expr) → AllHeld scope K (used_in scope e) → Writes w t e → Writes v t (image r e)
  writes_there t e h i = subst (Writes v t) (sym (image_agrees scope K r s agree e h)) (writes_carried _ v s c t e (writes_same before bs cs mode u D.Cpc t e (named e h) i))

  pub gives_there : (o : Option Expr) (t : Ty) → AllHeld scope K (used_if scope o) → Gives w o t → Gives v (image_if r o) t
  gives_there o t h i = subst (λ x. Gives v x t) (sym (image_if_agrees scope K r s agree o h)) (gives_carried _ v s c o t (gives_same before bs cs mode u D.Cpc o t (named_if o h) i))

  pub all_there : (ts : List Ty) (es : Exprs) → AllHeld scope K (used_among scope es) → AllSet w ts es → AllSet v ts (images r es)
  all_there ts es h i = subst (AllSet v ts) (sym (images_agree scope K r s agree es h)) (all_carried _ v s c ts es (all_set_same before bs cs mode u D.Cpc ts es (named_among es h) i))

  pub all_suit_there : (ts : List Wanted) (es : Exprs) → AllHeld scope K (used_among scope es) → AllSuit w ts es → AllSuit v ts (images r es)
  all_suit_there ts es h i = subst (AllSuit v ts) (sym (images_agree scope K r s agree es h)) (all_suit_carried _ v s c ts es (all_suit_same before bs cs mode u D.Cpc ts es (named_among es h) i))

  pub assign_there : (e : Expr) (op : Option Op) (a : Expr) → AllHeld scope K (used_in scope e ++ used_in scope a) → stmt_breaks w (stmt_here (Assign e op a)) ≡ [] → stmt_breaks v (stmt_here (Assign (image r e) op (image r a))) ≡ []
  assign_there e op a h i =
      let he = held_left scope K (used_in scope e) (used_in scope a) h in
      let ha = held_right scope K (used_in scope e) (used_in scope a) h in
      subst (λ x. stmt_breaks v (stmt_here (Assign x op (image r a))) ≡ []) (sym (image_agrees scope K r s agree e he))
      (subst (λ y. stmt_breaks v (stmt_here (Assign (image s e) op y)) ≡ []) (sym (image_agrees scope K r s agree a ha))
      (assign_carried _ v s c e op a (assign_same before bs cs mode u D.Cpc e op a (named e he) (named a ha) i)))

  pub call_there : (to : Option Expr) (f : Expr) (es : Exprs) → AllHeld scope K (used_if scope to ++ (used_in scope f ++ used_among scope es)) → stays_called (over before cs) f ≡ true → stmt_breaks w (stmt_here (Call to f es)) ≡ []
      → stmt_breaks v (stmt_here (Call (image_if r to) (image r f) (images r es))) ≡ []
  call_there to f es h st i =
      let ho = held_left scope K (used_if scope to) (used_in scope f ++ used_among scope es) h in
      let rest = held_right scope K (used_if scope to) (used_in scope f ++ used_among scope es) h in
      let hf = held_left scope K (used_in scope f) (used_among scope es) rest in
      let ha = held_right scope K (used_in scope f) (used_among scope es) rest in
      subst (λ x. stmt_breaks v (stmt_here (Call x (image r f) (images r es))) ≡ []) (sym (image_if_agrees scope K r s agree to ho))
      (subst (λ x. stmt_breaks v (stmt_here (Call (image_if s to) x (images r es))) ≡ []) (sym (image_agrees scope K r s agree f hf))
      (subst (λ x. stmt_breaks v (stmt_here (Call (image_if s to) (image s f) x)) ≡ []) (sym (images_agree scope K r s agree es ha))
      (call_carried _ v s c to f es st (call_same before bs cs mode u D.Cpc to f es (named_if to ho) (named f hf) (named_among es ha) i))))

  pub test_there : (e : Expr) → AllHeld scope K (used_in scope e) → test_breaks w (expr_here e) ≡ [] → test_breaks v (expr_here (image r e)) ≡ []
  test_there e h i = subst (λ x. test_breaks v (expr_here x) ≡ []) (sym (image_agrees scope K r s agree e h)) (test_carried _ v s c e (test_same before bs cs mode u D.Cpc e (named e h) i))
