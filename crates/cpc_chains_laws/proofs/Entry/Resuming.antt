-- A leader takes up a frame: its locals stand for the frame that was saved, and its piece stands before its row.
use Rattle.std.proofs.Common.{◌≡◌, ◌⊎◌, inl, inr, ℕ, suc, ◌+◌, ◌*◌, ◌≤◌, Bool, true, false, cond, List, [], ◌∷◌, ◌++◌, map, length, slice_get, Option, Some, None, refl, sym, ◌∙◌, ap, subst, codes, arith}
use Rattle.cpc_base.specs.Bytes.{Text}
use Rattle.cpc_base.proofs.Lists.{length_of_map, length_of_append, item_in_front}
use Rattle.cpc_tree.specs.Lists.{holds_number}
use Rattle.cpc_tree.specs.Registers.{variables}
use Rattle.cpc_tree.specs.Syntax.{Stmts, NoStmt, AndStmt, Function, Program}
use Rattle.cpc_store.specs.declared.values.Class.TheVariants.{Frame}
use Rattle.cpc_store.specs.Store.{Value, Blocks, Store, cells_of}
use Rattle.cpc_meaning.specs.Eval.{Slot, Register}
use Rattle.cpc_meaning.specs.Plain.{Frame as CallFrame}
use Rattle.cpc_convert_common.specs.Members.{Has}
use Rattle.cpc_forms.specs.Flow.{Place, At}
use Rattle.cpc_forms.specs.Split.{Position}
use Rattle.cpc_convert_image_laws.specs.Held.{beside}
use Rattle.cpc_convert_flat_laws.specs.Boxes.{AndSlot}
use Rattle.cpc_chains_store_laws.specs.Chains.{Saved, frame_cells, Chain, NoChain, AndChain, Top}
use Rattle.cpc_chains_store_laws.specs.Driver.{any_pointer}
use Rattle.cpc_meaning.specs.Eval.{Fits}
use Rattle.cpc_convert_flat_laws.specs.Flat.{before}
use Rattle.cpc_convert_flat_laws.specs.Locals.{Loading, blank}
use Rattle.cpc_chains_store_laws.specs.Frames.{frees_frame}
use Rattle.cpc_convert_flat_laws.proofs.Walks.{swell_stay}
use Rattle.cpc_convert_flat_laws.specs.Walks.{World, Swell, at_line, frame_at}
use Rattle.cpc_convert_routines.specs.Given.{value_before}
use Rattle.cpc_convert_routines.specs.Arriving.{arriving_type}
use Rattle.cpc_chains_event.specs.LocalLaws.{piece_locals}
use Rattle.cpc_convert_routines.specs.Named.{IsOwner, ALeader}
use Rattle.cpc_convert_routines.specs.Names.{piece_name, pointer_name, frame_name, value_name}
use Rattle.cpc_chains_event.specs.Pieces.{called_so, load_of, loads_of, words_of, declares_of}
use Rattle.cpc_convert_routines.specs.Taken.{takes_value}
use Rattle.cpc_convert_routines.specs.Routines.{Routine, routine_of, closure_of, local_of, locals_of}
use Rattle.cpc_chains_event.specs.Rows.{piece_statements}
use Rattle.cpc_chains_event.proofs.Filling.{frames_filled}
use Rattle.cpc_chains_event.proofs.Heads.{pieces_begin}
use Rattle.cpc_lifted_laws.specs.Related.Cut.{value_in, copied}
use Rattle.cpc_chains_laws.specs.Related.Items.{saved_at}
use Rattle.cpc_chains_laws.proofs.Related.Entry.{Opens}
use Rattle.cpc_chains_laws.proofs.Related.Setting.{Setting}
use Rattle.cpc_lifted_laws.specs.Native.Instance.{keeps_in, cut_of}
use Rattle.cpc_chains_laws.proofs.Native.Instance.{setting_of}
use Rattle.cpc_lifted_laws.specs.Piece.Known.{CpsKnown}
use Rattle.cpc_chains_laws.specs.Piece.Rows.{row_point}
use Rattle.cpc_chains_laws.specs.Piece.Stood.{LocalsStand, Arrives, NoneArrives, OneArrives, Stood, AtRow}
use Rattle.cpc_chains_laws.proofs.Piece.Arrivals.{value_index}
use Rattle.cpc_chains_laws.proofs.Piece.Frames.{code, kept_number}
use Rattle.cpc_chains_laws.proofs.Piece.Scopes.{q}
use Rattle.cpc_chains_laws.proofs.Piece.Words.{words_few}
use Rattle.cpc_chains_laws.specs.Entry.Taken.{FrameTaken}
use Rattle.cpc_chains_laws.proofs.Entry.Leaders.{LeaderAt, leader_at}
use Rattle.cpc_chains_laws.proofs.Entry.Opening.{call_number, FirstRow, first_row, is_piece, locals_number, called_locals, is_called, opened, before_boxes, opening_steps, under, opening_walk}
use Rattle.cpc_chains_laws.proofs.Entry.Standing.{got_register, got_behind, all_registers, registers_number, loading_number, KeptOf, copies_fit, value_at, same_index, HasValue, locals_stand}

-- the pointer of a chain is one of any type
pub chain_fits : (bs : Blocks) (fs : List Saved) (next : Value) (owned : List ℕ) → Chain bs fs next owned → Fits any_pointer next
chain_fits bs _ _ _ NoChain = refl
chain_fits bs _ _ _ (AndChain f fs b next v owned live apart more) = refl

pub words_of_number : (p : Program) (r : Routine) (l : Place) → length (words_of p r l) ≤ 3
words_of_number p r l = words_few _ _ _ r.function.result

module _ (p : Program) (f : Function) (known : CpsKnown p f) (n : ℕ) (leads : Has n (routine_of p f).split.leaders) where
  abbrev r : Routine
  r = routine_of p f

  abbrev l : Place
  l = At n

  abbrev owner : IsOwner r l
  owner = ALeader n leads

  abbrev kept : List ℕ
  kept = closure_of r l

  -- how many variables are loaded and declared
  loads_number : length (loads_of p r l) ≤ 2 + length (variables f)
  loads_number = go (takes_value r l)
    where
      few : length (map load_of (locals_of r kept)) ≤ length (variables f)
      few = let e = length_of_map load_of (locals_of r kept) in let g = length_of_map (local_of r) kept in let h = kept_number p f known l owner l in omega (arith, e, g, h)

      go : (b : Bool) → suc (length (cond b (record { variable = value_name; type = arriving_type p r l; field = codes "value__" } ∷ []) [] ++ map load_of (locals_of r kept))) ≤ 2 + length (variables f)
      go true = let h = few in omega (arith, h)
      go false = let h = few in omega (arith, h)

  declares_number : length (declares_of p r l) ≤ 3
  declares_number = let e = length_of_append (words_of p r l) [] in let h = words_of_number p r l in omega (arith, e, h)

  module _ (slots : List Slot) (next v : Value) where
    -- the values of its frame
    abbrev values : List Value
    values = copied slots kept

    abbrev loaded_values : List Value
    loaded_values = next ∷ value_before (takes_value r l) v values

    abbrev cells : List Value
    cells = frame_cells (record { piece = piece_name f.called l; values = values }) next v

    -- its locals, with the pointer to block b
    abbrev locals : ℕ → List Slot
    locals b = opened p f known l owner b loaded_values

    loading : Fits any_pointer next → (takes_value r l ≡ true → Fits (arriving_type p r l) v) → ((k : ℕ) → holds_number kept k ≡ true → KeptOf r slots k) → Loading (q p f known) (piece_name f.called l) frame_name cells (loads_of p r l) loaded_values
    loading fits fits' all = (frames_filled p known.names f known.found.cps).loads n leads next v values fits fits' (copies_fit r slots kept all)

    values_there : (b k : ℕ) → holds_number kept k ≡ true → HasValue p f known l owner slots (locals b) k
    values_there b k h =
        let at = value_at r (λ j. value_in (slice_get slots j)) kept k h in
        let there = got_behind (takes_value r l) (called_so value_name (arriving_type p r l)) (locals_of r kept ++ declares_of p r l) v values _ at.0 (local_of r k) _ (item_in_front (locals_of r kept) (declares_of p r l) at.0 (local_of r k) at.1) (got_register values _ at.0 _ at.2) in
        (suc (suc (suc there.0)), there.1, there.2)

    stands : (b : ℕ) → length loaded_values ≡ length (loads_of p r l) → Fits any_pointer next → ((k : ℕ) → holds_number kept k ≡ true → KeptOf r slots k) → LocalsStand p r l slots (locals b) next
    stands b number fits all =
        locals_stand p f known l owner slots (locals b) next
        (let e = registers_number loaded_values (length (declares_of p r l)) in let g = locals_number p f known l owner in omega (arith, e, g, number))
        (AndSlot _ _ (AndSlot _ _ (all_registers loaded_values (length (declares_of p r l))))) refl fits all (values_there b)

    -- where a value arrives that is put somewhere, it stands in its local
    value_there : (b : ℕ) → takes_value r l ≡ true → (i : ℕ) → slice_get (piece_locals p r l) i ≡ Some (called_so value_name (arriving_type p r l)) → slice_get (locals b) i ≡ Some (Register v)
    value_there b takes i e =
        let same = same_index p f known l owner 3 i (called_so value_name (arriving_type p r l)) (value_index p r l takes) e in
        subst (λ j. slice_get (locals b) j ≡ Some (Register v)) same (ap (λ (c : Bool). slice_get (map Register (value_before c v values) ++ more) 0) takes)
      where
        more : List Slot
        more = blank (length (declares_of p r l)) []

    arrives : (b : ℕ) (o : Option Value) → (o ≡ None) ⊎ (o ≡ Some v) → Arrives p r l n (locals b) o
    arrives b o (inl e) = subst (Arrives p r l n (locals b)) (sym e) NoneArrives
    arrives b o (inr e) = subst (Arrives p r l n (locals b)) (sym e) (OneArrives v refl (value_there b))

-- ---- a leader takes up its frame

module _ (p : Program) (fine : CallFrame Position → Option Value → Type 0) (given : Text → List Value → Type 0) (f : Function) (known : CpsKnown p f) where
  abbrev pub z : Setting
  z = setting_of p (Stood p) fine given

  abbrev rout : Routine
  rout = routine_of p f

  -- the frame that is saved, by the variables of the function
  pub saved_is : (slots : List Slot) (n : ℕ) → saved_at (cut_of p) f.called slots n ≡ record { piece = piece_name f.called (At n); values = copied slots (closure_of rout (At n)) }
  saved_is slots n = ap (λ o. record { piece = piece_name f.called (At n); values = copied slots (keeps_in p o (At n)) }) known.found.named

  pub leader_opens : (bound rise : ℕ) → 8 + length (variables f) ≤ bound → 10 + 2 * length (variables f) ≤ rise → (w : World) (bs : Blocks) (s : Store) (n : ℕ) (slots : List Slot) (o : Option Value) (v : Value) (below : List Saved) (b : ℕ) (next : Value) (owned : List ℕ)
      → FrameTaken p f n slots o → (o ≡ None) ⊎ (o ≡ Some v) → (takes_value rout (At n) ≡ true → Fits (arriving_type p rout (At n)) v) → Top bs (saved_at (cut_of p) f.called slots n) below b next v owned
      → Opens z bound rise (piece_name f.called (At n)) w bs s b f.called (At n) n slots o next s
  leader_opens bound rise wide high w bs s n slots o v below b next owned taken is fits top = record {
    function = code p f known (At n) owner;
    is_piece = is_piece p f known (At n) owner;
    locals = called_locals p f known (At n) owner b;
    called = is_called p f known (At n) owner b (beside bs s);
    steps = opening_steps p f known (At n) owner;
    within = let a = loads_number p f known n at.leads in let c = declares_number p f known n at.leads in omega (arith, wide, a, c);
    piece = frame_at (piece_name f.called (At n)) (row_point p rout (At n) n first.row) there;
    more = 0;
    taken = λ k. k;
    grown = length (cells p f known n at.leads slots next v);
    few =
        let a = loads_number p f known n at.leads in
        let c = declares_number p f known n at.leads in
        let d = call_number p f known (At n) owner in
        let e = kept_number p f known (At n) owner (At n) in
        let g = length_of_map (λ (k : ℕ). value_in (slice_get slots k)) (closure_of rout (At n)) in
        omega (arith, a, c, d, e, g, high);
    leads = λ pointer result frame.
        opening_walk p f known (At n) owner w pointer result frame (beside bs s) b (cells p f known n at.leads slots next v) live (loaded_values p f known n at.leads slots next v) load there (beside bs s)
        (subst (λ j. Swell (q p f known) w.trace 0 (at_line w (piece_name f.called (At n)) (under p f known (At n) owner w pointer result frame) (before_boxes p f known (At n) owner) left there (beside bs s)) (at_line w (piece_name f.called (At n)) (under p f known (At n) owner w pointer result frame) j left there (beside bs s)))
        (let y : before_boxes p f known (At n) owner ≡ before_boxes p f known (At n) owner + 0 = omega arith in y) (swell_stay _)) live refl n first;
    stands =
        AtRow f (At n) n slots o next there known.found at.node at.has first.row
        (stands p f known n at.leads slots next v b (loading_number (q p f known) (piece_name f.called (At n)) frame_name (cells p f known n at.leads slots next v) (loads_of p rout (At n)) (loaded_values p f known n at.leads slots next v) load) pointer_fits taken.kept)
        (arrives p f known n at.leads slots next v b o is);
  }
    where
      at : LeaderAt p f n
      at = leader_at p f n taken.there

      owner : IsOwner rout (At n)
      owner = ALeader n at.leads

      first : FirstRow p rout (At n) n
      first = let begins = (pieces_begin p f).own (At n) taken.there at.has in first_row p rout (At n) n begins.0 begins.1

      left : Stmts
      left = AndStmt (frees_frame pointer_name) (before (piece_statements p rout (At n)) NoStmt)

      there : List Slot
      there = locals p f known n at.leads slots next v b

      live : cells_of Frame b (beside bs s) ≡ Some (cells p f known n at.leads slots next v)
      live = top.cells ∙ ap (λ x. Some (frame_cells x next v)) (saved_is slots n)

      pointer_fits : Fits any_pointer next
      pointer_fits = chain_fits bs below next owned top.below

      load : Loading (q p f known) (piece_name f.called (At n)) frame_name (cells p f known n at.leads slots next v) (loads_of p rout (At n)) (loaded_values p f known n at.leads slots next v)
      load = loading p f known n at.leads slots next v pointer_fits fits taken.kept
