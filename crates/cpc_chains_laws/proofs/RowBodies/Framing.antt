-- Frames that a piece makes for a leader, and those that it makes for a call, break no rule.
use Rattle.std.proofs.Common.{◌≡◌, ℕ, zero, suc, ◌+◌, ◌<◌, ◌≤◌, ◌^◌, true, ◌||◌, ◌==◌, List, [], ◌∷◌, ◌++◌, map, length, slice_get, Some, refl, ◌∙◌, ap, subst, arith}
use Rattle.cpc_base.specs.Bytes.{Text}
use Rattle.cpc_base.proofs.Truth.{eq_reflexive, or_by_second}
use Rattle.cpc_base.proofs.Lists.{length_of_map}
use Rattle.cpc_num.specs.declared.kinds.Kind.TheVariants.{Int}
use Rattle.cpc_tree.specs.Lists.{holds_number}
use Rattle.cpc_tree.specs.Registers.{variables, as_variable}
use Rattle.cpc_tree.specs.Points.{locals}
use Rattle.cpc_tree.specs.Syntax.{TyInt, TyStruct, Exprs, NoExpr, AndExpr, Variable, Parameter, Function, Program}
use Rattle.cpc_tree.specs.Typing.{ALocal, field, is_scalar, parameter_type, parameter_types}
use Rattle.cpc_check_rules.specs.Scopes.{measured}
use Rattle.cpc_check_rules.specs.Operators.{Where}
use Rattle.cpc_chains_laws.specs.Complete.Flat.{Runs, NoRow, AndLine, Savable, NoSave, AndSave, Givable, NoGive, AndGive, BeginsAsFrame}
use Rattle.cpc_lifted_laws.specs.Complete.Sets.{AllSet, AndSet}
use Rattle.cpc_chains_laws.proofs.Complete.Flat.{runs_both}
use Rattle.cpc_chains_laws.proofs.Complete.FrameRows.{frame_run, call_run}
use Rattle.cpc_chains_laws.proofs.Complete.Frames.{hands_fine}
use Rattle.cpc_lifted_laws.proofs.Complete.Kept.{typed_scalar}
use Rattle.cpc_convert_common.specs.Members.{Has}
use Rattle.cpc_convert_image_laws.specs.Images.{Readings, image, images}
use Rattle.cpc_forms.specs.Flow.{Place, At}
use Rattle.cpc_chains_store_laws.specs.Driver.{frame_tag, head_fields}
use Rattle.cpc_convert_flat_laws.specs.Locals.{Scalars, AndScalar}
use Rattle.cpc_convert_flat_laws.specs.Structs.{IsStruct}
use Rattle.cpc_convert_routines.specs.Arriving.{arriving_type}
use Rattle.cpc_chains_event.specs.Lines.{save_of, frame_lines, gives_from, call_lines, hands_over}
use Rattle.cpc_chains_event.specs.LocalLaws.{piece_locals, StandsIn}
use Rattle.cpc_convert_routines.specs.Named.{IsOwner, ALeader, IsCps}
use Rattle.cpc_convert_routines.specs.Names.{start_name, piece_name, variable_name, next_name, to_name, under_name}
use Rattle.cpc_chains_event.specs.Pieces.{called_so, to_frame}
use Rattle.cpc_convert_routines.specs.Routines.{Routine, routine_of, closure_of, local_of, locals_of, passed}
use Rattle.cpc_chains_event.specs.Rows.{stub_lines}
use Rattle.cpc_chains_event.proofs.BoxesThere.{structs_there}
use Rattle.cpc_chains_event.proofs.Fields.{frame_fields, NoneRises, passed_rise}
use Rattle.cpc_chains_event.proofs.Locals.{closure_rise, locals_scalar, in_locals}
use Rattle.cpc_convert_routines.proofs.Numbers.{rises_below}
use Rattle.cpc_chains_laws.proofs.Native.SpawnerCall.{passed_few}
use Rattle.cpc_lifted_laws.specs.Piece.Known.{CpsKnown}
use Rattle.cpc_chains_laws.proofs.Piece.Frames.{kept_number}
use Rattle.cpc_chains_laws.proofs.Piece.Scopes as scopes
use Rattle.cpc_chains_laws.specs.Rules.Laws.{Knows}
use Rattle.cpc_chains_laws.proofs.Rules.KeptRows.{Source}
use Rattle.cpc_chains_laws.proofs.Bodies.Spawners.{struct_there}
use Rattle.cpc_chains_laws.proofs.RowBodies.InPlace.{v, next_local, pointed}
use Rattle.cpc_chains_laws.proofs.RowBodies.Inside.{local, free, piece, start}
use Rattle.cpc_chains_laws.proofs.RowBodies.Nodes.{IsFormed}
use Rattle.cpc_chains_laws.proofs.RowBodies.Opening.{struct, kept, measured_is, passed_has}
use Rattle.cpc_chains_laws.proofs.RowBodies.Rowing.{LinesRun, all_run}

-- a parameter of a function stands first among its variables
parameter_there : (ps : List Parameter) (rest : List Variable) (i : ℕ) (q : Parameter) → slice_get ps i ≡ Some q → slice_get (map as_variable ps ++ rest) i ≡ Some (as_variable q)
parameter_there [] rest i q e = absurd (cc)
parameter_there (x ∷ ps) rest zero q e = let same : x ≡ q = cc in ap (λ w. Some (as_variable w)) same
parameter_there (x ∷ ps) rest (suc i) q e = parameter_there ps rest i q e

parameter_below : (ps : List Parameter) (i : ℕ) (q : Parameter) → slice_get ps i ≡ Some q → i < length ps
parameter_below [] i q e = absurd (cc)
parameter_below (x ∷ ps) zero q e = omega arith
parameter_below (x ∷ ps) (suc i) q e = let d = parameter_below ps i q e in omega (arith, d)

module _ (p : Program) (source : Source p) (f : Function) (known : CpsKnown p f) (formed : IsFormed f) (l : Place) (owner : IsOwner (routine_of p f) l) (all : Program) (k : Knows p all) where
  abbrev r : Routine
  r = routine_of p f

  abbrev at : Where
  at = v p source f known formed l owner all k

  any_begins : BeginsAsFrame all frame_tag
  any_begins =
      let any = struct_there p all k frame_tag (head_fields (TyInt Int) []) (frame_fields (TyInt Int) 0 [] refl (NoneRises 0)) ((structs_there p known.names).any f known.found.cps) in
      record { code = (0, any.field 0 _ refl); next = (1, any.field 1 _ refl) }

  -- ---- the frame of a leader

  module _ (n : ℕ) (has : Has n r.split.leaders) (keeps : (j : ℕ) → holds_number (closure_of r (At n)) j ≡ true → holds_number (closure_of r l) j ≡ true) where
    abbrev tag : Text
    tag = piece_name f.called (At n)

    its : IsStruct all tag (head_fields (arriving_type p r (At n)) (kept p f known all k (At n)))
    its = struct p f known all k (At n) (ALeader n has)

    leader_size : measured at.scope (TyStruct tag) ≡ Some (length (head_fields (arriving_type p r (At n)) (kept p f known all k (At n))))
    leader_size =
        let few = known.few_variables in
        let kept_few = kept_number p f known l owner (At n) in
        let counted = length_of_map (local_of r) (closure_of r (At n)) in
        measured_is at.scope (TyStruct tag) (length (head_fields (arriving_type p r (At n)) (kept p f known all k (At n)))) its.size
        (let z : suc (suc (suc (length (locals_of r (closure_of r (At n)))))) ≤ 2 ^ 16 = omega (arith, few, kept_few, counted) in z)

    saves : (js : List ℕ) → Scalars (locals_of r js) → ((j : ℕ) → holds_number js j ≡ true → holds_number (closure_of r (At n)) j ≡ true) → Savable at tag (map (λ j. save_of (local_of r j)) js)
    saves [] s h = NoSave
    saves (j ∷ js) (AndScalar _ _ e s) h =
        let here = h j (ap (λ b. b || holds_number js j) (eq_reflexive j)) in
        let stands = in_locals r j (closure_of r (At n)) here in
        AndSave (save_of (local_of r j)) (map (λ j. save_of (local_of r j)) js) (suc (suc (suc stands.0))) 0 (local_of r j).type (its.field (suc (suc (suc stands.0))) (local_of r j) stands.1) e
        (local p f known l owner all k (local_of r j) ((scopes.meant p f known l owner).kept j (keeps j here))) (saves js s (λ i g. h i (or_by_second (j == i) (holds_number js i) g)))

    all_scalars : Scalars (locals_of r (closure_of r (At n)))
    all_scalars = locals_scalar p known.names f known.found.cps (closure_of r (At n)) (rises_below (length (variables f)) 0 (closure_of r (At n)) (closure_rise p known.names f known.found.cps (At n)))

    -- the frame, which a word points to
    pub frame_fine : (to : Text) → StandsIn (called_so to to_frame) (piece_locals p r l) → Runs at (frame_lines r to (At n)) at
    frame_fine to word =
        let u = pointed p source f known formed l owner all k (is_scalar f.result) in
        frame_run at refl refl (free p f known l owner all k) to tag next_name 0 0 (length (head_fields (arriving_type p r (At n)) (kept p f known all k (At n)))) u.0 (map (λ j. save_of (local_of r j)) (closure_of r (At n)))
        (local p f known l owner all k (called_so to to_frame) word) leader_size any_begins (piece p f known l owner all k (At n) (ALeader n has))
        (next_local p source f known formed l owner all k ∙ ap (λ t. ALocal 0 t) u.1) (saves (closure_of r (At n)) all_scalars (λ j h. h))

  -- a frame is given to the driver
  pub hands_run : (to : Text) → StandsIn (called_so to to_frame) (piece_locals p r l) → Runs at (hands_over to ∷ []) at
  hands_run to word = AndLine at at _ [] refl (hands_fine at refl refl (free p f known l owner all k) to 0 (TyStruct frame_tag) refl (local p f known l owner all k (called_so to to_frame) word)) (NoRow at)

  -- the lines that go to another leader
  pub stub_run : (n : ℕ) → Has n r.split.leaders → ((j : ℕ) → holds_number (closure_of r (At n)) j ≡ true → holds_number (closure_of r l) j ≡ true) → StandsIn (called_so to_name to_frame) (piece_locals p r l) → LinesRun at (stub_lines r n)
  stub_run n has keeps word = all_run at _ (runs_both at at at (frame_lines r to_name (At n)) (hands_over to_name ∷ []) (frame_fine n has keeps to_name word) (hands_run to_name word))

  -- ---- the first frame of a call

  module _ (g : Function) (cps : IsCps p g) (few : length (variables g) ≤ 255) where
    first : IsStruct all (start_name g.called) (head_fields (TyInt Int) (passed g))
    first = struct_there p all k (start_name g.called) (head_fields (TyInt Int) (passed g)) (frame_fields (TyInt Int) 0 (passed g) refl (passed_rise p known.names g cps)) ((structs_there p known.names).start g cps)

    first_size : measured at.scope (TyStruct (start_name g.called)) ≡ Some (length (head_fields (TyInt Int) (passed g)))
    first_size =
        let c = passed_few g in
        measured_is at.scope (TyStruct (start_name g.called)) (length (head_fields (TyInt Int) (passed g))) first.size (let z : suc (suc (suc (length (passed g)))) ≤ 2 ^ 16 = omega (arith, c, few) in z)

    -- the argument of a parameter has its field
    gives_there : (names : Readings) (base : ℕ) (ps : List Parameter) (rest : List Variable) (es : Exprs)
        → ((i : ℕ) (q : Parameter) → slice_get ps i ≡ Some q → is_scalar q.type ≡ true → (m : ℕ) × (field all (start_name g.called) (variable_name (base + i) (as_variable q).called) ≡ Some (m, q.type)))
        → AllSet at (map parameter_type ps) (images names es) → Givable at (start_name g.called) (gives_from base (map as_variable ps ++ rest) names es)
    gives_there names base [] [] es h s = NoGive
    gives_there names base [] (x ∷ rest) NoExpr h s = NoGive
    gives_there names base [] (x ∷ rest) (AndExpr e es) h s = absurd (elim s [ ])
    gives_there names base (q ∷ ps) rest NoExpr h s = NoGive
    gives_there names base (q ∷ ps) rest (AndExpr e es) h (AndSet _ _ _ _ t s) =
        let scalar = typed_scalar q.type (image names e) t.type t.takes in
        let there = h 0 q refl scalar in
        AndGive (record { field = variable_name base (as_variable q).called; expression = image names e }) (gives_from (suc base) (map as_variable ps ++ rest) names es) there.0 q.type
        (ap (λ m. field all (start_name g.called) (variable_name m (as_variable q).called)) (let z : base ≡ base + 0 = omega arith in z) ∙ there.1) scalar t
        (gives_there names (suc base) ps rest es (λ i x e d. subst (λ m. (j : ℕ) × (field all (start_name g.called) (variable_name m (as_variable x).called) ≡ Some (j, x.type))) (let z : base + suc i ≡ suc base + i = omega arith in z) (h (suc i) x e d)) s)

    argument_field : (i : ℕ) (q : Parameter) → slice_get g.parameters i ≡ Some q → is_scalar q.type ≡ true → (m : ℕ) × (field all (start_name g.called) (variable_name (0 + i) (as_variable q).called) ≡ Some (m, q.type))
    argument_field i q e s =
        let at_passed = passed_has 0 (length g.parameters) (variables g) i (as_variable q) (parameter_below g.parameters i q e) (parameter_there g.parameters (locals g.body) i q e) s in
        (suc (suc (suc at_passed.0)), first.field (suc (suc (suc at_passed.0))) (record { called = variable_name (0 + i) (as_variable q).called; type = q.type }) at_passed.1)

    pub call_fine : (names : Readings) (es : Exprs) → StandsIn (called_so to_name to_frame) (piece_locals p r l) → StandsIn (called_so under_name to_frame) (piece_locals p r l) → AllSet at (parameter_types g) (images names es) → Runs at (call_lines g names es) at
    call_fine names es to under s =
        call_run at refl refl (free p f known l owner all k) to_name (start_name g.called) under_name 0 0 (length (head_fields (TyInt Int) (passed g))) (TyStruct frame_tag) (gives_from 0 (variables g) names es) (local p f known l owner all k (called_so to_name to_frame) to) first_size any_begins
        (start p f known l owner all k g cps) (local p f known l owner all k (called_so under_name to_frame) under) (gives_there names 0 g.parameters (locals g.body) es argument_field s)
