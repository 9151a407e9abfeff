-- Where control goes on in a piece: to the row of a node of its own, or through the row of another leader to the driver.
use Rattle.std.proofs.Common.{◌≡◌, ℕ, suc, ◌+◌, ◌≤◌, Bool, true, false, List, [], ◌∷◌, ◌++◌, length, Option, Some, None, refl, sym, ◌∙◌, ap, subst, arith}
use Rattle.cpc_base.specs.Bytes.{Text}
use Rattle.cpc_base.proofs.Lists.{length_of_map}
use Rattle.cpc_tree.specs.Points.{Point}
use Rattle.cpc_tree.specs.Registers.{variables}
use Rattle.cpc_tree.specs.Syntax.{Function, Program}
use Rattle.cpc_store.specs.declared.values.Class.TheVariants.{Frame}
use Rattle.cpc_store.specs.Store.{Value, Unset, At as Pointer, Blocks, Store}
use Rattle.cpc_meaning.specs.Eval.{Slot}
use Rattle.cpc_meaning.specs.Plain.{Frame as CallFrame}
use Rattle.cpc_forms.specs.Flow.{Place, At, is_leader, owner_by}
use Rattle.cpc_forms.specs.Graph.{graph_of, way}
use Rattle.cpc_forms.specs.Split.{Position, InGraph}
use Rattle.cpc_graph_laws.specs.Laws.{flow_in}
use Rattle.cpc_graph_laws.proofs.Splits.{owner_there}
use Rattle.cpc_convert_image_laws.specs.Held.{beside}
use Rattle.cpc_chains_store_laws.specs.Chains.{frame_cells}
use Rattle.cpc_chains_store_laws.specs.Driver.{driving}
use Rattle.cpc_convert_flat_laws.specs.Walks.{Walk, running, frame_at}
use Rattle.cpc_convert_flat_laws.proofs.Walks.{walk_append}
use Rattle.cpc_convert_routines.specs.Named.{IsOwner}
use Rattle.cpc_convert_routines.specs.Names.{piece_name}
use Rattle.cpc_tree.specs.Typing.{function_named}
use Rattle.cpc_chains_event.specs.Lines.{save_of}
use Rattle.cpc_convert_routines.specs.Routines.{Routine, routine_of, closure_of, local_of}
use Rattle.cpc_convert_routines.specs.Nodes.{is_own, has_row}
use Rattle.cpc_lifted_laws.specs.Related.Bounds.{Bounds}
use Rattle.cpc_lifted_laws.specs.Related.Cut.{copied}
use Rattle.cpc_chains_laws.proofs.Related.Inside.{Onward, Stays, Jumps}
use Rattle.cpc_chains_laws.proofs.Related.Setting.{Setting}
use Rattle.cpc_lifted_laws.specs.Native.Instance.{keeps_in}
use Rattle.cpc_chains_laws.proofs.Native.Instance.{setting_of}
use Rattle.cpc_lifted_laws.specs.Piece.Known.{CpsKnown}
use Rattle.cpc_chains_laws.specs.Piece.Rows.{RowAt, row_point}
use Rattle.cpc_chains_laws.specs.Piece.Stood.{NodeAt, LocalsStand, NoneArrives, Stood, AtRow}
use Rattle.cpc_chains_laws.proofs.Piece.Frames.{Target, is_code, saves_of, with_frame, kept_number}
use Rattle.cpc_chains_laws.proofs.Piece.Places.{ToRow}
use Rattle.cpc_chains_laws.proofs.Piece.Stubs.{stub_walk}
use Rattle.cpc_chains_laws.proofs.Piece.Ways.{Next, way_next, onwards_way, own_stays, other_leads, stub_there, keeps_along}

module _ (p : Program) (fine : CallFrame Position → Option Value → Type 0) (given : Text → List Value → Type 0) (bounds : Bounds) where
  -- the setting
  abbrev pub z : Setting
  z = setting_of p (Stood p) fine given

  module _ (f : Function) (known : CpsKnown p f) (enough : 5 + length (variables f) ≤ bounds.onward) (l : Place) (owner : IsOwner (routine_of p f) l) (lower pointer result frame : Value) where
    abbrev r : Routine
    r = routine_of p f

    -- a node where a way leads that stays
    next_at : (n : ℕ) → NodeAt p f l n → (m : ℕ) → Next p f l m → is_own r.split l m ≡ true → NodeAt p f l m
    next_at n at m next own = record { owner = owner; keeps = at.keeps; owned = owner_there (graph_of p f) m next.node next.is_node ∙ ap Some (own_stays p f l m next own); node = next.node; is_node = next.is_node }

    -- control goes on behind a node, and then comes to the row where the way leads
    module _ (n : ℕ) (at : NodeAt p f l n) (has : has_row r.split n ≡ true) (h : Bool) (m : ℕ) (goes : way at.node h ≡ Some m) (b : RowAt p r l m) (from : Point) (to : ToRow p f l (Target p f known l owner) (is_code p f known l owner) known.few_nodes m b 1 from)
        (slots slots' : List Slot) (stands : LocalsStand p r l slots slots' lower) (bs : Blocks) (t : Store) where
      abbrev To : Position → Type 0
      To = Onward z bounds f.called l lower pointer result frame bs t slots (frame_at (piece_name f.called l) from slots')

      next : Next p f l m
      next = way_next p f l n at h m goes

      stays : is_own r.split l m ≡ true → To (InGraph l m)
      stays own =
          Stays m (frame_at (piece_name f.called l) (row_point p r l m b) slots') to.steps (let within = to.within in omega (arith, within, enough)) (λ w. to.walk w (driving pointer result frame ∷ []) slots' (beside bs t))
          (AtRow f l m slots None lower slots' known.found (next_at n at m next own) next.has b stands NoneArrives)

      blocks_are : with_frame p f known l owner bs slots lower m ≡ bs ++ Some (frame_cells (record { piece = piece_name f.called (At m); values = copied slots (keeps_in p (function_named p f.called) (At m)) }) lower Unset) ∷ []
      blocks_are = ap (λ o. bs ++ Some (frame_cells (record { piece = piece_name f.called (At m); values = copied slots (keeps_in p o (At m)) }) lower Unset) ∷ []) (sym known.found.named)

      jumps : is_own r.split l m ≡ false → To (InGraph (At m) m)
      jumps other =
          let leads = other_leads p f l m next other in
          let few = kept_number p f known l owner (At m) in
          let counted = length_of_map (λ i. save_of (local_of r i)) (closure_of r (At m)) in
          let within = to.within in
          Jumps m (to.steps + (suc (suc (suc (length (saves_of p f known l owner m)))) + 1)) (omega (arith, within, few, counted, enough))
          (λ w. walk_append to.steps (suc (suc (suc (length (saves_of p f known l owner m)))) + 1) _ _ _ (to.walk w (driving pointer result frame ∷ []) slots' (beside bs t))
          (subst (λ cs. Walk (Target p f known l owner) w.trace (suc (suc (suc (length (saves_of p f known l owner m)))) + 1) (running w (beside bs t) (frame_at (piece_name f.called l) (row_point p r l m b) slots' ∷ driving pointer result frame ∷ []) None)
          (running w (beside cs t) (driving pointer result frame ∷ []) (Some (Pointer Frame (length bs) 0)))) blocks_are
          (stub_walk p f known l owner m (stub_there p f l n at has m (onwards_way p f at.node h m goes) next other) b (keeps_along p f known l n at h m goes (ap (λ c. owner_by c l m) leads.0)) slots slots' lower stands w bs t pointer result frame)))

      pub goes_onward : To (InGraph (owner_by (is_leader (flow_in p f) m) l m) m)
      goes_onward = go (is_own r.split l m) refl
        where
          own_is : is_own r.split l m ≡ true → owner_by (is_leader (flow_in p f) m) l m ≡ l
          own_is own = let e : Some (owner_by (is_leader (flow_in p f) m) l m) ≡ Some l = sym next.owned ∙ own_stays p f l m next own in cc

          go : (c : Bool) → is_own r.split l m ≡ c → To (InGraph (owner_by (is_leader (flow_in p f) m) l m) m)
          go true e = subst (λ a. To (InGraph a m)) (sym (own_is e)) (stays e)
          go false e = subst (λ c. To (InGraph (owner_by c l m) m)) (sym (other_leads p f l m next e).0) (jumps e)
