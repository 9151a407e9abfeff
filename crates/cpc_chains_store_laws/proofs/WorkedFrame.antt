-- The law of frames speaks of the worked program: the frame that g's first piece makes before it waits.
use Rattle.std.specs.Prelude.{[], ◌∷◌, Some, pos, codes, refl}
use Rattle.std.proofs.Common.{arith}
use Rattle.cpc_num.specs.declared.kinds.Kind.TheVariants.{Int}
use Rattle.cpc_tree.specs.declared.program.Mode.TheVariants.{Native}
use Rattle.cpc_tree.specs.Syntax.{TyStruct, NoTy, AndTy, ENamed, Block, Stmts, Function}
use Rattle.cpc_tree.specs.Typing.{Scope}
use Rattle.cpc_store.specs.declared.values.Class.TheVariants.{Frame}
use Rattle.cpc_store.specs.Store.{Unset, Whole, At, next_block}
use Rattle.cpc_meaning.specs.Eval.{Register}
use Rattle.cpc_chains_store_laws.specs.Driver.{frame_tag, any_pointer, code_field, next_field}
use Rattle.cpc_convert_flat_laws.specs.Flat.{before, LineAt}
use Rattle.cpc_convert_flat_laws.specs.Locals.{NoSaving, AndSaving, Holds}
use Rattle.cpc_chains_store_laws.specs.Frames.{asks_block, fills_frame, frame_through, takes_frame, taken_scope}
use Rattle.cpc_chains_store_laws.specs.Worked.{int, to_frame, to_value, field_of, load_of, save_of, frame_lines, a, to, program, behind, slots, FrameIsMade}
use Rattle.cpc_convert_flat_laws.proofs.Fields.{named_pointer, cast_pointer}
use Rattle.cpc_chains_store_laws.proofs.Making.{makes_frame, holds_new}

abbrev body : Stmts
body = takes_frame (codes "k__") (codes "e__") (codes "g__start") (load_of next_field to_value ∷ load_of a int ∷ []) (field_of to to_frame ∷ []) (frame_lines to (codes "g__at1") (codes "g__at1") (ENamed next_field) (save_of a ∷ []) behind)

abbrev piece : Function
piece = record { mode = Native; called = codes "g__start"; result = any_pointer; parameters = record { called = Some (codes "k__"); type = any_pointer } ∷ []; body = Block body }

abbrev scope : Scope
scope = taken_scope (record { called = codes "k__"; type = any_pointer; slot = 0 } ∷ []) 1 (codes "e__") (codes "g__start") (load_of next_field to_value ∷ load_of a int ∷ []) (field_of to to_frame ∷ [])

pub worked_frame : FrameIsMade
worked_frame w below s =
    let b = next_block Frame s in
    let f = frame_through to (codes "g__at1") in
    let l : LineAt piece body 5 scope 5 (asks_block to (codes "g__at1")) (before (fills_frame (ENamed to) f code_field next_field (codes "g__at1") (ENamed next_field) (save_of a ∷ [])) behind) = record {
      statement = asks_block to (codes "g__at1");
      stands = record { is_body = refl; flat = refl; is_left = refl; is_scope = refl; is_count = refl };
      is_bare = refl;
      is_line = refl;
    } in
    let h : Holds program scope (slots (Register Unset)) to to_frame Unset = record { slot = 4; is_local = refl; is_slot = refl } in
    let h' = holds_new program scope (slots (Register Unset)) to to_frame Unset (At Frame b 0) h in
    makes_frame program w (codes "g__start") piece body below refl 5 scope 5 behind (slots (Register Unset)) s to (codes "g__at1") frame_tag code_field next_field (codes "g__at1") (ENamed to) f (ENamed next_field) (save_of a ∷ []) (Whole Int (pos 6) ∷ []) l refl refl (omega arith) (TyStruct frame_tag) Unset h
    (λ u. named_pointer program scope (slots (Register (At Frame b 0))) u to frame_tag b h') (λ u. cast_pointer program scope (slots (Register (At Frame b 0))) u to (codes "g__at1") (TyStruct frame_tag) b h') any_pointer any_pointer (any_pointer ∷ []) (AndTy any_pointer NoTy) refl refl any_pointer (At Frame 1 0) (At Frame 1 0) refl (λ u. refl) refl
    (AndSaving 3 (save_of a) int int (Whole Int (pos 6)) [] [] refl (record { slot = 3; is_local = refl; is_slot = refl }) refl (NoSaving 4))
