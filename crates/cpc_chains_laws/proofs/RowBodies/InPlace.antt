-- The rows of the nodes of a piece that are left in place, over a frame, or at an end break no rule.
use Rattle.std.proofs.Common.{◌≡◌, ℕ, Bool, true, false, not, ◌&&◌, ◌||◌, ◌==◌, cond, List, [], ◌∷◌, map, reverse, bytes_eq, Option, Some, None, refl, sym, ◌∙◌, ap, subst}
use Rattle.cpc_base.specs.Bytes.{Text}
use Rattle.cpc_base.proofs.Truth.{eq_reflexive, or_by_second}
use Rattle.cpc_tree.specs.declared.program.Mode.{Mode}
use Rattle.cpc_tree.specs.declared.program.Mode.TheVariants.{Extern, Native, Cps, Detached}
use Rattle.cpc_tree.specs.Lists.{holds_number}
use Rattle.cpc_tree.specs.Points.{Path, Simple, Test}
use Rattle.cpc_tree.specs.Primitives.{Primitive, primitive_named}
use Rattle.cpc_tree.specs.Primitives as Prims
use Rattle.cpc_tree.specs.Registers.{slot_of}
use Rattle.cpc_tree.specs.Syntax.{Ty, TyVoid, TyPointer, TyStruct, Expr, ENamed, EInteger, ECharacter, EText, EUnary, EBinary, EAnd, EOr, EChoose, ECast, ESizeOf, EIndex, EMember, EArrow, ECall, Exprs, Stmt, Block, Empty, Declare, Assign, Call, Detach, Spawn, If, While, DoWhile, For, Goto, Label, Break, Continue, Return, Function, Program}
use Rattle.cpc_tree.specs.Typing as T
use Rattle.cpc_tree.specs.Typing.{Meant, ALocal, AGlobal, AFunction, NotMeant, APlace, named, item_named, function_named, is_scalar, parameter_types}
use Rattle.cpc_check_rules.specs.Scopes as S
use Rattle.cpc_check_rules.specs.Scopes.{in_items, meant}
use Rattle.cpc_check_rules.specs.Operators.{Where}
use Rattle.cpc_check_rules.specs.Calls.{Wanted, gives_up}
use Rattle.cpc_check_rules.specs.StmtRules.{stmt_breaks}
use Rattle.cpc_check_laws.proofs.Native.OnePlace.{stmt_here}
use Rattle.cpc_check_laws.proofs.Sound.Items.{named_more, is_defined}
use Rattle.cpc_check_laws.proofs.Sound.Knowing.{Same}
use Rattle.cpc_meaning.specs.Ways.{AsCps, primitive_manner, meant_manner, manner_of}
use Rattle.cpc_meaning.specs.Threads.{is_cps_mode}
use Rattle.cpc_chains_laws.specs.Complete.Flat.{Runs, NoRow, AndLine, Unboxable, NoUnbox, AndUnbox}
use Rattle.cpc_lifted_laws.specs.Complete.Kept.{all_scalar}
use Rattle.cpc_lifted_laws.specs.Complete.Reads.{stays_meant, stays_called}
use Rattle.cpc_lifted_laws.specs.Complete.Sets.{Sets, Writes, AllSet, NoneSet, AndSet, Gives, AllSuit}
use Rattle.cpc_lifted_laws.specs.Complete.Standing.{simple_breaks, found_breaks, local_named, local_or, Tells}
use Rattle.cpc_chains_laws.proofs.Complete.Flat.{runs_both}
use Rattle.cpc_chains_laws.proofs.Complete.FrameRows.{unboxes_run}
use Rattle.cpc_chains_laws.proofs.Complete.Frames.{writable_scalar, local_writes, patches_fine, hands_fine}
use Rattle.cpc_lifted_laws.proofs.Complete.Kept.{over, typed_scalar}
use Rattle.cpc_lifted_laws.proofs.Complete.Makers.{local_has, local_sets}
use Rattle.cpc_lifted_laws.proofs.Complete.Parts.{start_sets, return_sets, spawn_parts}
use Rattle.cpc_lifted_laws.proofs.Complete.Rows.{assign_fine, function_fine}
use Rattle.cpc_convert_common.specs.Converted.{spawner_name}
use Rattle.cpc_convert_image_laws.specs.Images.{Readings, image, images, image_if, image_stmt}
use Rattle.cpc_convert_image_laws.specs.Locals.{local_type}
use Rattle.cpc_forms.specs.Flow.{Place}
use Rattle.cpc_lift_laws.specs.Used.{used_in, used_among, used_if, used_by}
use Rattle.cpc_convert_flat_laws.specs.Boxes.{unboxes_one}
use Rattle.cpc_chains_store_laws.specs.Driver.{value_field, head_fields, patches}
use Rattle.cpc_chains_event.specs.Lines.{unbox_lines, leave_lines, simple_lines, test_lines, framed_lines, behind_arrival, hands_over}
use Rattle.cpc_chains_event.specs.LocalLaws.{piece_locals, StandsIn}
use Rattle.cpc_convert_routines.specs.Named.{IsOwner, IsCps}
use Rattle.cpc_convert_routines.specs.Names.{value_tag, box_tag, next_name, result_name}
use Rattle.cpc_chains_event.specs.Pieces.{called_so, below_if}
use Rattle.cpc_convert_routines.specs.Routines.{Routine, routine_of, closure_of, is_plain, variable_of, local_of, readings_of}
use Rattle.cpc_chains_event.proofs.BoxesThere.{structs_there}
use Rattle.cpc_chains_event.proofs.Fields.{frame_fields, NoneRises}
use Rattle.cpc_lifted_laws.specs.Piece.Known.{CpsKnown}
use Rattle.cpc_chains_laws.proofs.Piece.Scopes as scopes
use Rattle.cpc_chains_laws.specs.Rules.Laws.{Knows}
use Rattle.cpc_chains_laws.proofs.Rules.KeptRows.{Source}
use Rattle.cpc_lifted_laws.proofs.Rules.Source.{known_at, known_whole}
use Rattle.cpc_chains_laws.proofs.Bodies.Spawners.{struct_there}
use Rattle.cpc_chains_laws.proofs.RowBodies.Inside.{inside, local, free, spawner}
use Rattle.cpc_chains_laws.proofs.RowBodies.Moved.{held_left, held_right, sets_there, writes_there, gives_there, all_there, all_suit_there, assign_there, call_there, test_there}
use Rattle.cpc_chains_laws.proofs.RowBodies.Nodes.{IsFormed, told_block, narrow_one, is_narrow, frame_type, held, before, keeps, source_at, scope, narrow_blocks, narrow_reading, narrow_scope, carries, same_name, same_reading, is_part, row}
use Rattle.cpc_lifted_laws.proofs.RowBodies.Starts.{InScope}
use Rattle.cpc_chains_laws.proofs.RowBodies.Rowing.{LinesRun, passes_run, does_run, all_run, tests_run}

set_scalars : (w : Where) (ts : List Ty) (es : Exprs) → AllSet w ts es → all_scalar ts ≡ true
set_scalars w _ _ NoneSet = refl
set_scalars w _ _ (AndSet t ts e es h k) = ap (λ b. b && all_scalar ts) (typed_scalar t e h.type h.takes) ∙ set_scalars w ts es k

-- a name that no variable in scope has means an item
pub none_hides : (p : Program) (xs : T.Scope) (x : Text) → local_named xs x ≡ None → named p xs x ≡ item_named 0 p x
none_hides p [] x e = refl
none_hides p (y ∷ ys) x e = go (bytes_eq y.called x) refl e (λ i. none_hides p ys x i)
  where
    go : (b : Bool) → bytes_eq y.called x ≡ b → cond b (Some y) (local_named ys x) ≡ None → (local_named ys x ≡ None → named p ys x ≡ item_named 0 p x) → named p (y ∷ ys) x ≡ item_named 0 p x
    go true b i rest = absurd (cc)
    go false b i rest = ap (λ c. cond c (ALocal y.slot y.type) (named p ys x)) b ∙ rest i

waits_not : (prim : Primitive) → (primitive_manner (Some prim) ≡ AsCps → ⊥) → not (gives_up prim) ≡ true
waits_not Prims.Yield h = absurd (h refl)
waits_not Prims.Sleep h = absurd (h refl)
waits_not Prims.IoWait h = absurd (h refl)
waits_not Prims.Wait h = absurd (h refl)
waits_not prim h = refl

module _ (p : Program) (source : Source p) (f : Function) (known : CpsKnown p f) (formed : IsFormed f) (l : Place) (owner : IsOwner (routine_of p f) l) (all : Program) (k : Knows p all) where
  abbrev r : Routine
  r = routine_of p f

  abbrev pub v : Where
  v = inside p f known l owner all k

  -- these variables are kept
  abbrev pub Kept : List ℕ → Type 0
  Kept js = (j : ℕ) → holds_number js j ≡ true → holds_number (closure_of r l) j ≡ true

  -- ---- leaving

  kept_local : (j : ℕ) → holds_number (closure_of r l) j ≡ true → meant v.scope (local_of r j).called ≡ ALocal 0 (local_of r j).type
  kept_local j h = local p f known l owner all k (local_of r j) ((scopes.meant p f known l owner).kept j h)

  unboxable : (js : List ℕ) → Kept js → ((j : ℕ) → holds_number js j ≡ true → holds_number r.boxes j ≡ true) → Unboxable v (map (λ (j : ℕ). (local_of r j).called) js)
  unboxable [] h b = NoUnbox
  unboxable (j ∷ js) h b =
      AndUnbox (local_of r j).called (map (λ (j : ℕ). (local_of r j).called) js) 0 (TyStruct (box_tag f.called j))
      (kept_local j (h j (ap (λ c. c || holds_number js j) (eq_reflexive j))) ∙ ap (λ c. ALocal 0 (local_type (not c) (variable_of r j).type (box_tag f.called j))) (b j (ap (λ c. c || holds_number js j) (eq_reflexive j))))
      (unboxable js (λ i e. h i (or_by_second (j == i) (holds_number js i) e)) (λ i e. b i (or_by_second (j == i) (holds_number js i) e)))

  unbox_map : (js : List ℕ) → map unboxes_one (map (λ (j : ℕ). (local_of r j).called) js) ≡ map (λ j. unboxes_one (local_of r j).called) js
  unbox_map [] = refl
  unbox_map (j ∷ js) = ap (λ ss. unboxes_one (local_of r j).called ∷ ss) (unbox_map js)

  unbox_run : Kept r.boxes → Runs v (unbox_lines r) v
  unbox_run h = subst (λ ss. Runs v ss v) (unbox_map r.boxes) (unboxes_run v refl refl (free p f known l owner all k) (map (λ (j : ℕ). (local_of r j).called) r.boxes) (unboxable r.boxes h (λ j e. e)))

  pub next_local : meant v.scope next_name ≡ ALocal 0 (below_if (is_scalar f.result) f.called)
  next_local = local p f known l owner all k (called_so next_name (below_if (is_scalar f.result) f.called)) (2, refl)

  pub pointed : (b : Bool) → (u : Ty) × (below_if b f.called ≡ TyPointer u)
  pointed true = (TyStruct (value_tag f.called), refl)
  pointed false = (TyVoid, refl)

  hands_next : Runs v (hands_over next_name ∷ []) v
  hands_next = let u = pointed (is_scalar f.result) in AndLine v v _ [] refl (hands_fine v refl refl (free p f known l owner all k) next_name 0 u.0 refl (next_local ∙ ap (λ t. ALocal 0 t) u.1)) (NoRow v)

  pub leave_none : (names : Readings) → Kept r.boxes → Runs v (leave_lines r names None) v
  leave_none names h = runs_both v v v (unbox_lines r) (hands_over next_name ∷ []) (unbox_run h) hands_next

  patch_run : is_scalar f.result ≡ true → Sets v f.result (ENamed result_name) → stmt_breaks v (stmt_here (patches next_name (ENamed result_name))) ≡ []
  patch_run s h =
      let struct = struct_there p all k (value_tag f.called) (head_fields f.result []) (frame_fields f.result 0 [] s (NoneRises 0)) ((structs_there p known.names).value f known.found.cps s) in
      patches_fine v refl refl (free p f known l owner all k) next_name (value_tag f.called) 0 2 f.result (ENamed result_name) (next_local ∙ ap (λ b. ALocal 0 (below_if b f.called)) s) (struct.field 2 (called_so value_field f.result) refl) s h

  pub leave_some : (names : Readings) (e : Expr) → Kept r.boxes → StandsIn (called_so result_name f.result) (piece_locals p r l) → Sets v f.result (image names e) → is_scalar f.result ≡ true → Runs v (leave_lines r names (Some e)) v
  leave_some names e h word sets s =
      let there = local p f known l owner all k (called_so result_name f.result) word in
      AndLine v v _ _ refl (assign_fine v f.result (ENamed result_name) (image names e) (local_writes v refl refl (free p f known l owner all k) result_name 0 f.result s there) sets)
      (runs_both v v v (unbox_lines r) (patches next_name (ENamed result_name) ∷ hands_over next_name ∷ []) (unbox_run h)
      (AndLine v v _ _ refl (patch_run s (local_sets v result_name 0 f.result s there)) hands_next))

  -- ---- what stands at a path

  module _ (path : Path) where
    abbrev sc : T.Scope
    sc = scope p source f known formed l owner all k path

    abbrev names : Readings
    names = readings_of r sc

    abbrev its : Program
    its = before p source f known formed l owner all k

    -- a function that is named there is no variable
    pub function_named_there : (bs : List S.Block) → Tells sc bs → (x : Text) (m : Mode) (u : Ty) (ts : List Ty) → meant (over its bs) x ≡ AFunction m u ts → in_items (reverse its) x ≡ AFunction m u ts
    function_named_there bs tells x m u ts e = go (local_named sc x) (sym (tells x (in_items (reverse its) x)) ∙ e)
      where
        go : (o : Option T.Local) → local_or o (in_items (reverse its) x) ≡ AFunction m u ts → in_items (reverse its) x ≡ AFunction m u ts
        go None i = i
        go (Some y) i = absurd (cc)

    pub named_whole : (x : Text) (m : Mode) (u : Ty) (ts : List Ty) → in_items (reverse its) x ≡ AFunction m u ts → item_named 0 p x ≡ AFunction m u ts
    named_whole x m u ts e =
        let rest = (row p source f known formed l owner all k).rest in
        let part = is_part p source f known formed l owner all k in
        let first : item_named 0 its x ≡ AFunction m u ts = subst (λ z. Same z (item_named 0 its x)) e ((known_at p source.own source.fine its rest part).same x) in
        subst (λ ys. item_named 0 ys x ≡ AFunction m u ts) (sym part) (named_more 0 its rest x (AFunction m u ts) tt first)

    -- what is spawned there is a cps function
    pub spawned : (x : Text) (u : Ty) (ts : List Ty) → in_items (reverse its) x ≡ AFunction Cps u ts → (g : Function) × IsCps p g × (g.called ≡ x)
    spawned x u ts e =
        let rest = (row p source f known formed l owner all k).rest in
        let part = is_part p source f known formed l owner all k in
        let first : item_named 0 its x ≡ AFunction Cps u ts = subst (λ z. Same z (item_named 0 its x)) e ((known_at p source.own source.fine its rest part).same x) in
        let g = is_defined x p ((known_at p source.own source.fine its rest part).promised x Cps u ts first refl) in
        let there = source.names.there x g.0 g.1 in
        let is : AFunction g.0.mode g.0.result (parameter_types g.0) ≡ AFunction Cps u ts = sym ((known_whole p source.own source.fine).defined x g.0 g.1) ∙ named_whole x Cps u ts e in
        let mode : g.0.mode ≡ Cps = cc in
        (g.0, record { has = there.0; mode = ap is_cps_mode mode }, there.1)

    -- what is left in place, or over a frame, is neither a cps function nor a primitive that waits
    stays_there : (x : Text) → (meant_manner (named p sc x) (primitive_named x) ≡ AsCps → ⊥) → stays_meant (meant (over its (narrow_blocks p source f known formed l owner all k path)) x) (primitive_named x) ≡ true
    stays_there x h = ap (λ m. stays_meant m (primitive_named x)) (told_block (narrow_scope p source f known formed l owner all k path) x (in_items (reverse its) x)) ∙ by (local_named (narrow_scope p source f known formed l owner all k path) x) refl
      where
        is_item : local_named (narrow_scope p source f known formed l owner all k path) x ≡ None → named p sc x ≡ item_named 0 p x
        is_item e = unhidden (local_named sc x) refl
          where
            unhidden : (o : Option T.Local) → local_named sc x ≡ o → named p sc x ≡ item_named 0 p x
            unhidden None i = none_hides p sc x i
            unhidden (Some y) i = absurd (let w : Some (narrow_one p (held p source f known formed l owner all k) (is_plain r) (frame_type p source f known formed l owner all k) y) ≡ None = sym (is_narrow p (held p source f known formed l owner all k) (is_plain r) (frame_type p source f known formed l owner all k) sc x y i).narrow_local ∙ e in cc)

        item : named p sc x ≡ item_named 0 p x → (m : Meant) → in_items (reverse its) x ≡ m → (o : Option Primitive) → primitive_named x ≡ o → stays_meant m o ≡ true
        item i (AFunction Cps u ts) e o g = absurd (h (ap (λ m. meant_manner m (primitive_named x)) (i ∙ named_whole x Cps u ts e)))
        item i (AFunction Native u ts) e o g = refl
        item i (AFunction Extern u ts) e o g = refl
        item i (AFunction Detached u ts) e o g = refl
        item i NotMeant e None g = refl
        item i NotMeant e (Some prim) g = waits_not prim (λ c. h (ap (λ m. meant_manner m (primitive_named x)) (i ∙ known.primitives x prim g) ∙ (ap primitive_manner g ∙ c)))
        item i (ALocal j t) e o g = refl
        item i (AGlobal j t) e o g = refl

        by : (o : Option T.Local) → local_named (narrow_scope p source f known formed l owner all k path) x ≡ o → stays_meant (local_or o (in_items (reverse its) x)) (primitive_named x) ≡ true
        by (Some y) e = refl
        by None e = item (is_item e) (in_items (reverse its) x) refl (primitive_named x) refl

    stays_call : (to : Option Expr) (g : Expr) (es : Exprs) → (manner_of p sc (Simple (Call to g es)) ≡ AsCps → ⊥) → stays_called (over its (narrow_blocks p source f known formed l owner all k path)) g ≡ true
    stays_call to (ENamed x) es h = stays_there x h
    stays_call to (EInteger kind z) es h = refl
    stays_call to (ECharacter z) es h = refl
    stays_call to (EText bytes) es h = refl
    stays_call to (EUnary op e) es h = refl
    stays_call to (EBinary op a b) es h = refl
    stays_call to (EAnd a b) es h = refl
    stays_call to (EOr a b) es h = refl
    stays_call to (EChoose e a b) es h = refl
    stays_call to (ECast t e) es h = refl
    stays_call to (ESizeOf t) es h = refl
    stays_call to (EIndex a b) es h = refl
    stays_call to (EMember e x) es h = refl
    stays_call to (EArrow e x) es h = refl
    stays_call to (ECall e vs) es h = refl

    module _ (bs : List S.Block) (tells : Tells sc bs) where
      abbrev pub w : Where
      w = source_at p source f known formed l owner all k bs

      abbrev K : ℕ → Type 0
      K j = holds_number (closure_of r l) j ≡ true

      abbrev nb : List S.Block
      nb = narrow_blocks p source f known formed l owner all k path

      abbrev nr : Readings
      nr = narrow_reading p source f known formed l owner all k path

      moved_sets : (t : Ty) (e : Expr) → Kept (used_in sc e) → Sets w t e → Sets v t (image names e)
      moved_sets = sets_there its bs nb f.mode f.result v names nr sc K (carries p source f known formed l owner all k path) (same_name p source f known formed l owner all k path bs tells) (same_reading p source f known formed l owner all k path)

      moved_writes : (t : Ty) (e : Expr) → Kept (used_in sc e) → Writes w t e → Writes v t (image names e)
      moved_writes = writes_there its bs nb f.mode f.result v names nr sc K (carries p source f known formed l owner all k path) (same_name p source f known formed l owner all k path bs tells) (same_reading p source f known formed l owner all k path)

      pub moved_gives : (o : Option Expr) (t : Ty) → Kept (used_if sc o) → Gives w o t → Gives v (image_if names o) t
      moved_gives = gives_there its bs nb f.mode f.result v names nr sc K (carries p source f known formed l owner all k path) (same_name p source f known formed l owner all k path bs tells) (same_reading p source f known formed l owner all k path)

      pub moved_all : (ts : List Ty) (es : Exprs) → Kept (used_among sc es) → AllSet w ts es → AllSet v ts (images names es)
      moved_all = all_there its bs nb f.mode f.result v names nr sc K (carries p source f known formed l owner all k path) (same_name p source f known formed l owner all k path bs tells) (same_reading p source f known formed l owner all k path)

      pub moved_suits : (ts : List Wanted) (es : Exprs) → Kept (used_among sc es) → AllSuit w ts es → AllSuit v ts (images names es)
      moved_suits = all_suit_there its bs nb f.mode f.result v names nr sc K (carries p source f known formed l owner all k path) (same_name p source f known formed l owner all k path bs tells) (same_reading p source f known formed l owner all k path)

      -- ---- a call

      call_fine : (to : Option Expr) (g : Expr) (es : Exprs) → Kept (used_by sc (Call to g es)) → (manner_of p sc (Simple (Call to g es)) ≡ AsCps → ⊥) → stmt_breaks w (stmt_here (Call to g es)) ≡ [] → stmt_breaks v (stmt_here (image_stmt names (Call to g es))) ≡ []
      call_fine to g es h m i =
          call_there its bs nb f.mode f.result v names nr sc K (carries p source f known formed l owner all k path) (same_name p source f known formed l owner all k path bs tells) (same_reading p source f known formed l owner all k path) to g es h (stays_call to g es m) i

      -- a spawn
      spawn_fine : (x : Text) (es : Exprs) → Kept (used_by sc (Spawn x es)) → stmt_breaks w (stmt_here (Spawn x es)) ≡ [] → stmt_breaks v (stmt_here (Call None (ENamed (spawner_name x)) (images names es))) ≡ []
      spawn_fine x es h i =
          let parts = spawn_parts w x es i in
          let item = function_named_there bs tells x Cps parts.0 parts.1 parts.2 in
          let g = spawned x parts.0 parts.1 item in
          let there : in_items (reverse all) (spawner_name x) ≡ AFunction Native TyVoid parts.1 = (keeps p source f known formed l owner all k).spawners x parts.0 parts.1 item (set_scalars w parts.1 es parts.3) in
          let means : meant v.scope (spawner_name x) ≡ AFunction Native TyVoid parts.1 =
          subst (λ y. meant v.scope (spawner_name y) ≡ in_items (reverse all) (spawner_name y)) g.2 (spawner p f known l owner all k g.0 g.1 ∙ sym (k.spawners g.0 g.1)) ∙ there in
          function_fine v None (spawner_name x) (images names es) Native TyVoid parts.1 means refl refl (moved_all parts.1 es h parts.3) tt

      -- a variable and what it starts with
      start_fine : (x : Text) (t : Ty) (e : Expr) → Kept (used_by sc (Declare x t (Some e))) → InScope sc (Simple (Declare x t (Some e))) → simple_breaks w (Declare x t (Some e)) ≡ [] → stmt_breaks v (stmt_here (image_stmt names (Declare x t (Some e)))) ≡ []
      start_fine x t e h y i =
          let sets = start_sets w x t e i in
          let means : meant w.scope x ≡ ALocal 0 t = tells x (in_items (reverse its) x) ∙ (ap (λ o. local_or o (in_items (reverse its) x)) y.1 ∙ ap (λ u. ALocal 0 u) y.2) in
          let writes : Writes w t (ENamed x) = record { has = local_has w x 0 t means; writable = writable_scalar t (typed_scalar t e sets.type sets.takes) } in
          assign_fine v t (image names (ENamed x)) (image names e) (moved_writes t (ENamed x) (held_left sc K (slot_of sc x) (used_in sc e) h) writes) (moved_sets t e (held_right sc K (slot_of sc x) (used_in sc e) h) sets)

      -- what a return asks of the piece: the boxes, and where a value is given, the word for it
      abbrev pub Returns : Stmt → Type 0
      Returns (Return None) = Kept r.boxes
      Returns (Return (Some e)) = Kept r.boxes × StandsIn (called_so result_name f.result) (piece_locals p r l)
      Returns s = Unit {0}

      -- a simple statement that is left in place
      pub simple_run : (s : Stmt) → (manner_of p sc (Simple s) ≡ AsCps → ⊥) → simple_breaks w s ≡ [] → InScope sc (Simple s) → Kept (used_by sc s) → Returns s → (n : Option ℕ) → LinesRun v (simple_lines r names s n)
      simple_run (Return None) m i y h g n = all_run v (leave_lines r names None) (leave_none names g)
      simple_run (Return (Some e)) m i y h g n =
          let parts = return_sets w e i in
          all_run v (leave_lines r names (Some e)) (leave_some names e g.0 g.1 (moved_sets f.result e h parts.1) (typed_scalar f.result e parts.1.type parts.1.takes))
      simple_run (Spawn x es) m i y h g n = does_run v _ n refl (spawn_fine x es h i)
      simple_run (Declare x t None) m i y h g n = passes_run v n
      simple_run (Declare x t (Some e)) m i y h g n = does_run v _ n refl (start_fine x t e h y i)
      simple_run (Assign e op a) m i y h g n =
          does_run v _ n refl
          (assign_there its bs nb f.mode f.result v names nr sc K (carries p source f known formed l owner all k path) (same_name p source f known formed l owner all k path bs tells) (same_reading p source f known formed l owner all k path) e op a h i)
      simple_run (Call to e es) m i y h g n = does_run v _ n refl (call_fine to e es h m i)
      simple_run (Block ss) m i y h g n = passes_run v n
      simple_run Empty m i y h g n = passes_run v n
      simple_run (Detach to e es) m i y h g n = passes_run v n
      simple_run (If t a b) m i y h g n = passes_run v n
      simple_run (While t s) m i y h g n = passes_run v n
      simple_run (DoWhile s t) m i y h g n = passes_run v n
      simple_run (For a t b s) m i y h g n = passes_run v n
      simple_run (Goto x) m i y h g n = passes_run v n
      simple_run (Label x s) m i y h g n = passes_run v n
      simple_run Break m i y h g n = passes_run v n
      simple_run Continue m i y h g n = passes_run v n

      -- one that is left over a frame
      pub framed_run : (s : Stmt) → (manner_of p sc (Simple s) ≡ AsCps → ⊥) → simple_breaks w s ≡ [] → Kept (used_by sc s) → (a : Option ℕ) → LinesRun v (framed_lines r names s a)
      framed_run (Call to e es) m i h a = does_run v _ (behind_arrival r a) refl (call_fine to e es h m i)
      framed_run (Return o) m i h a = passes_run v (behind_arrival r a)
      framed_run (Spawn x es) m i h a = passes_run v (behind_arrival r a)
      framed_run (Declare x t o) m i h a = passes_run v (behind_arrival r a)
      framed_run (Assign e op u) m i h a = passes_run v (behind_arrival r a)
      framed_run (Block ss) m i h a = passes_run v (behind_arrival r a)
      framed_run Empty m i h a = passes_run v (behind_arrival r a)
      framed_run (Detach to e es) m i h a = passes_run v (behind_arrival r a)
      framed_run (If t x b) m i h a = passes_run v (behind_arrival r a)
      framed_run (While t s) m i h a = passes_run v (behind_arrival r a)
      framed_run (DoWhile s t) m i h a = passes_run v (behind_arrival r a)
      framed_run (For x t b s) m i h a = passes_run v (behind_arrival r a)
      framed_run (Goto x) m i h a = passes_run v (behind_arrival r a)
      framed_run (Label x s) m i h a = passes_run v (behind_arrival r a)
      framed_run Break m i h a = passes_run v (behind_arrival r a)
      framed_run Continue m i h a = passes_run v (behind_arrival r a)

      -- a test
      pub test_run : (t : Option Expr) → found_breaks w (Test t) ≡ [] → Kept (used_if sc t) → (n m : Option ℕ) → LinesRun v (test_lines names t n m)
      test_run None i h n m = passes_run v n
      test_run (Some e) i h n m =
          tests_run v names e n m
          (test_there its bs nb f.mode f.result v names nr sc K (carries p source f known formed l owner all k path) (same_name p source f known formed l owner all k path bs tells) (same_reading p source f known formed l owner all k path) e h i)
