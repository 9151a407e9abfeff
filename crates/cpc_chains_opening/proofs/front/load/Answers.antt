use Rattle.std.proofs.Common.{ap, sym, subst, map, All, Some, ◌∙◌, ◌∷◌, []}
use Rattle.cpc_tree.specs.Syntax.{Declare, TyPointer, TyStruct, ENamed}
use Rattle.cpc_forms_code.specs.Splits.{place_of}
use Rattle.cpc_convert_flat_laws.specs.Locals.{loads_one}
use Rattle.cpc_convert_routines.specs.Names.{frame_name, pointer_name, piece_name}
use Rattle.cpc_chains_event.specs.Pieces as P
use Rattle.cpc_convert_routines.specs.Routines.{locals_of}
use Rattle.cpc_chains_lines.specs.Written.{written, puts}
use Rattle.cpc_chains_lines.specs.Around.{IsVariable}
use Rattle.cpc_chains_opening.proofs.Written.{four_written, map_both}
use Rattle.cpc_chains_opening.proofs.front.load.Goals as goal

pub returns : goal.returns
returns c = λ source from to p r st name all here k.
    let l = place_of c.args.owner in
    let old = written to c.args.out.now in
    let e = c.deref.ensures.value ∙ c.in_ok-loaded.ensures source from to p r st all k in
    four_written old (written to c.take_frame.new.out) (written to c.load_next.new.out) (written to c.load_value.new.out) (written to c.load_variables.new.out)
    (Declare frame_name (TyPointer (TyStruct (piece_name r.function.called l))) (Some (ENamed pointer_name)) ∷ []) (loads_one frame_name (P.next_load r.function) ∷ [])
    (map (loads_one frame_name) (P.value_load p r l)) (map (loads_one frame_name) (map P.load_of (locals_of r (P.loaded r l))))
    (c.in_ok-take_frame.ensures source from to p r st ∙ ap (λ t. puts old (Declare frame_name (TyPointer (TyStruct t)) (Some (ENamed pointer_name)) ∷ [])) name)
    (c.in_ok-load_next.ensures source from to p r st) (c.in_ok-load_value.ensures source from to p r st)
    (c.in_ok-load_variables.ensures source from to p r st (subst (All (IsVariable c.args.around)) (sym e) here)
    ∙ ap (λ ks. puts (written to c.load_value.new.out) (map (loads_one frame_name) (map P.load_of (locals_of r ks)))) e)
    ∙ ap (λ xs. puts old (Declare frame_name (TyPointer (TyStruct (piece_name r.function.called l))) (Some (ENamed pointer_name)) ∷ (loads_one frame_name (P.next_load r.function) ∷ xs)))
    (sym (map_both (loads_one frame_name) (P.value_load p r l) (map P.load_of (locals_of r (P.loaded r l)))))
