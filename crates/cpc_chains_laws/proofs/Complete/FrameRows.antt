-- Rows of statements that make and fill frames, and the bodies of spawners and of the driver.
use Rattle.std.proofs.Common.{◌≡◌, Bool, true, false, ◌∙◌, ℕ, List, [], ◌∷◌, ◌++◌, bytes_eq, map, codes, pos, Option, Some, None, refl, sym, ap, subst}
use Rattle.std.specs.Prelude.{option_map}
use Rattle.cpc_base.specs.Bytes.{Text}
use Rattle.cpc_base.specs.declared.stop.Dialect.TheVariants as D
use Rattle.cpc_num.specs.declared.kinds.Kind.TheVariants.{Int}
use Rattle.cpc_tree.specs.declared.program.Mode.TheVariants.{Native}
use Rattle.cpc_tree.specs.Syntax.{Ty, TyVoid, TyInt, TyPointer, TyStruct, Expr, ENamed, EInteger, EArrow, Exprs, Stmt, Assign, Call, Variable}
use Rattle.cpc_tree.specs.Typing.{ALocal, AFunction, NotMeant, Typed, AValue, APlace, used, field}
use Rattle.cpc_tree.specs.Primitives.{Primitive, primitive_named, any_pointer}
use Rattle.cpc_check_rules.specs.declared.rule.Rule.TheVariants.{NotClosed}
use Rattle.cpc_check_rules.specs.Rule.{at_if}
use Rattle.cpc_check_rules.specs.Scopes.{meant, measured}
use Rattle.cpc_check_rules.specs.Operators.{Where, first, is_detached, used_of}
use Rattle.cpc_check_rules.specs.Calls.{Of, Takes, code_callee, no_code, callee, number_breaks, wanted, result}
use Rattle.cpc_check_rules.specs.ExprRules.{args_breaks}
use Rattle.cpc_check_rules.specs.StmtRules.{to_breaks, stmt_breaks}
use Rattle.cpc_check_laws.proofs.Sound.Answers.{no_some}
use Rattle.cpc_meaning.proofs.Functions.{same_text}
use Rattle.cpc_check_laws.proofs.Native.NativeValues.{both_none}
use Rattle.cpc_check_laws.proofs.Native.OnePlace.{here, expr_here, exprs_here, stmt_here}
use Rattle.cpc_convert_flat_laws.specs.Locals.{Save, saves_one}
use Rattle.cpc_chains_store_laws.specs.Frames.{frame_through, asks_block, fills_frame, Give, gives_one, fills_call}
use Rattle.cpc_convert_flat_laws.specs.Boxes.{unboxes_one}
use Rattle.cpc_chains_store_laws.specs.Driver.{code_field, next_field, piece_type, frame_tag, readies}
use Rattle.cpc_lifted_laws.specs.Complete.Sets.{Has, Sets, Gives, AllSet}
use Rattle.cpc_chains_laws.specs.Complete.Flat.{named_at, Runs, NoRow, AndLine, Savable, NoSave, AndSave, Givable, NoGive, AndGive, Unboxable, NoUnbox, AndUnbox, BeginsAsFrame}
use Rattle.cpc_lifted_laws.proofs.Complete.Makers.{type_here, local_has, arrow_has, null_sets, to_fine, all_sets_suit, args_fine, number_fine}
use Rattle.cpc_chains_laws.proofs.Complete.Flat.{later_meant, runs_both}
use Rattle.cpc_chains_laws.proofs.Complete.Frames.{pointer_sets, through_has, asks_fine, unboxes_fine, gives_fine, saves_fine, code_fine, next_fine, readies_fine}

-- names of primitives stand for nothing else
abbrev pub PrimitivesFree : Where → Type 0
PrimitivesFree v = (x : Text) (prim : Primitive) → primitive_named x ≡ Some prim → meant v.scope x ≡ NotMeant

-- also where one more variable is declared that is not called as a primitive
pub free_more : (v : Where) (y : Variable) → primitive_named y.called ≡ None → PrimitivesFree v → PrimitivesFree (named_at v y)
free_more v y none free x prim i = go (bytes_eq y.called x) refl
  where
    go : (b : Bool) → bytes_eq y.called x ≡ b → meant (named_at v y).scope x ≡ NotMeant
    go true e = no_some prim (sym none ∙ ap primitive_named (same_text y.called x e) ∙ i)
    go false e = later_meant v y x e ∙ free x prim i

module _ (v : Where) (dialect : v.dialect ≡ D.Event) (closed : is_detached v.mode ≡ false) (free : PrimitivesFree v) where
  saves_run : (f : Expr) (d : Typed) (tag : Text) (ps : List Save) → Has v f d → used d ≡ Some (TyPointer (TyStruct tag)) → Savable v tag ps → Runs v (map (saves_one f) ps) v
  saves_run f d tag _ h i NoSave = NoRow v
  saves_run f d tag _ h i (AndSave p ps n k t j s e more) = AndLine v v (saves_one f p) (map (saves_one f) ps) refl (saves_fine v dialect closed free f d tag p n k t h i j s e) (saves_run f d tag ps h i more)

  gives_run : (f : Expr) (d : Typed) (tag : Text) (gs : List Give) → Has v f d → used d ≡ Some (TyPointer (TyStruct tag)) → Givable v tag gs → Runs v (map (gives_one f) gs) v
  gives_run f d tag _ h i NoGive = NoRow v
  gives_run f d tag _ h i (AndGive g gs n t j s k more) = AndLine v v (gives_one f g) (map (gives_one f) gs) refl (gives_fine v dialect closed free f d tag g n t h i j s k) (gives_run f d tag gs h i more)

  pub unboxes_run : (xs : List Text) → Unboxable v xs → Runs v (map unboxes_one xs) v
  unboxes_run _ NoUnbox = NoRow v
  unboxes_run _ (AndUnbox x xs k u e more) = AndLine v v (unboxes_one x) (map unboxes_one xs) refl (unboxes_fine v dialect closed free x k u e) (unboxes_run xs more)

  head_run : (start : Expr) (d : Typed) (tag piece : Text) (below : Expr) (rest : List Stmt) → Has v start d → used d ≡ Some (TyPointer (TyStruct tag)) → BeginsAsFrame v.scope.items tag → meant v.scope piece ≡ AFunction Native any_pointer (any_pointer ∷ []) → Sets v any_pointer below
      → Runs v rest v → Runs v (Assign (EArrow start code_field) None (ENamed piece) ∷ Assign (EArrow start next_field) None below ∷ rest) v
  head_run start d tag piece below rest h i begins e k more =
      AndLine v v _ _ refl (code_fine v dialect closed free start d tag piece begins.code.0 h i begins.code.1 e) (AndLine v v _ _ refl (next_fine v dialect closed free start d tag below begins.next.0 h i begins.next.1 k) more)

  -- a frame of a leader, over the frame below
  pub frame_run : (to tag next : Text) (j k n : ℕ) (u : Ty) (ps : List Save) → meant v.scope to ≡ ALocal j (TyPointer (TyStruct frame_tag)) → measured v.scope (TyStruct tag) ≡ Some n → BeginsAsFrame v.scope.items frame_tag
      → meant v.scope tag ≡ AFunction Native any_pointer (any_pointer ∷ []) → meant v.scope next ≡ ALocal k (TyPointer u) → Savable v tag ps
      → Runs v (asks_block to tag ∷ fills_frame (ENamed to) (frame_through to tag) code_field next_field tag (ENamed next) ps) v
  frame_run to tag next j k n u ps e m begins piece below saves =
      AndLine v v (asks_block to tag) _ refl (asks_fine v dialect closed free to tag j n (TyStruct frame_tag) e m)
      (head_run (ENamed to) (APlace (TyPointer (TyStruct frame_tag))) frame_tag tag (ENamed next) _ (local_has v to j (TyPointer (TyStruct frame_tag)) e) refl begins piece (pointer_sets v dialect closed free next k u below)
      (saves_run (frame_through to tag) (AValue (TyPointer (TyStruct tag))) tag ps (through_has v dialect closed free to tag j (TyStruct frame_tag) e) refl saves))

  -- the first frame of a call, with its arguments
  pub call_run : (to tag under : Text) (j k n : ℕ) (u : Ty) (gs : List Give) → meant v.scope to ≡ ALocal j (TyPointer (TyStruct frame_tag)) → measured v.scope (TyStruct tag) ≡ Some n → BeginsAsFrame v.scope.items frame_tag
      → meant v.scope tag ≡ AFunction Native any_pointer (any_pointer ∷ []) → meant v.scope under ≡ ALocal k (TyPointer u) → Givable v tag gs
      → Runs v (asks_block to tag ∷ fills_call (ENamed to) (frame_through to tag) code_field next_field tag (ENamed under) gs) v
  call_run to tag under j k n u gs e m begins piece below gives =
      AndLine v v (asks_block to tag) _ refl (asks_fine v dialect closed free to tag j n (TyStruct frame_tag) e m)
      (head_run (ENamed to) (APlace (TyPointer (TyStruct frame_tag))) frame_tag tag (ENamed under) _ (local_has v to j (TyPointer (TyStruct frame_tag)) e) refl begins piece (pointer_sets v dialect closed free under k u below)
      (gives_run (frame_through to tag) (AValue (TyPointer (TyStruct tag))) tag gs (through_has v dialect closed free to tag j (TyStruct frame_tag) e) refl gives))

  -- the lines of a spawner behind its declaration: its frame, made ready
  pub spawner_run : (e tag : Text) (k n : ℕ) (ps : List Save) → meant v.scope e ≡ ALocal k (TyPointer (TyStruct tag)) → measured v.scope (TyStruct tag) ≡ Some n → BeginsAsFrame v.scope.items tag
      → meant v.scope tag ≡ AFunction Native any_pointer (any_pointer ∷ []) → meant v.scope (codes "drive__") ≡ AFunction Native TyVoid (any_pointer ∷ TyInt Int ∷ []) → Savable v tag ps
      → Runs v (asks_block e tag ∷ (fills_frame (ENamed e) (ENamed e) code_field next_field tag (EInteger Int (pos 0)) ps ++ readies e ∷ [])) v
  spawner_run e tag k n ps i m begins piece drive saves =
      let has = local_has v e k (TyPointer (TyStruct tag)) i in
      let ready : Runs v (readies e ∷ []) v = AndLine v v (readies e) [] refl (readies_fine v dialect closed free e k (TyStruct tag) drive i) (NoRow v) in
      AndLine v v (asks_block e tag) _ refl (asks_fine v dialect closed free e tag k n (TyStruct tag) i m)
      (runs_both v v v (fills_frame (ENamed e) (ENamed e) code_field next_field tag (EInteger Int (pos 0)) ps) (readies e ∷ [])
      (head_run (ENamed e) (APlace (TyPointer (TyStruct tag))) tag tag (EInteger Int (pos 0)) _ has refl begins piece (null_sets v any_pointer refl) (saves_run (ENamed e) (APlace (TyPointer (TyStruct tag))) tag ps has refl saves)) ready)

  -- ---- calls of values

  -- the code in a field is called
  pub field_call : (to : Option Expr) (e : Expr) (d : Typed) (tag x : Text) (n : ℕ) (es : Exprs) → Has v e d → used d ≡ Some (TyPointer (TyStruct tag)) → field v.scope.items tag x ≡ Some (n, piece_type) → AllSet v (any_pointer ∷ []) es → Gives v to any_pointer
      → stmt_breaks v (stmt_here (Call to (EArrow e x) es)) ≡ []
  field_call to e d tag x n es h i f a g =
      let has = arrow_has v e d tag x n piece_type h i f in
      let l = expr_here (EArrow e x) in
      let is : callee v l (exprs_here es) ≡ Takes (Of any_pointer ∷ []) any_pointer = ap (λ o. code_callee (used_of o)) (type_here v (EArrow e x) (APlace piece_type) has) in
      let suit = all_sets_suit v (any_pointer ∷ []) es a in
      both_none _ _ (subst (λ c. to_breaks v (option_map expr_here to) here (result c) ≡ []) (sym is) (to_fine v to any_pointer g))
      (both_none _ _ (both_none _ _ has.fine (both_none _ _ (ap (λ b. at_if b (first l) NotClosed) closed) (ap (λ o. no_code o (first l)) (type_here v (EArrow e x) (APlace piece_type) has))))
      (both_none _ _ (subst (λ c. number_breaks c (exprs_here es) (first l) ≡ []) (sym is) (number_fine v (Of any_pointer ∷ []) es any_pointer (first l) suit)) (subst (λ c. args_breaks v (wanted c) (exprs_here es) ≡ []) (sym is) (args_fine v (Of any_pointer ∷ []) es suit))))
