-- The worked program runs, by computing; and what the laws ask for holds of it.
use Rattle.std.specs.Prelude.{◌≡◌, [], ◌∷◌, None, refl}
use Rattle.std.specs.Fmt.{digits}
use Rattle.cpc_num.specs.Number.{settle, divided}
use Rattle.cpc_tree.specs.Trace.{Output, Ended}
use Rattle.cpc_meaning.specs.Events.{event}
use Rattle.cpc_convert_flat_laws.specs.Structs.{NoStruct, NoneHere, NotThis, NoneSo, NotSo, ScalarFields, NoFields, AndField}
use Rattle.cpc_chains_store_laws.specs.Driver.{frame_tag, head_fields, DriverFacts}
use Rattle.cpc_chains_store_laws.specs.Worked.{int, others, program, quiet}
use Rattle.cpc_convert_flat_laws.proofs.Structs.{is_struct}

-- it prints 7
pub worked_trace : (event program quiet 120).trace ≡ Output (55 ∷ 10 ∷ []) ∷ []
unfolding digits settle divided
worked_trace = refl

-- and ends, with nothing that waits
pub worked_end : (event program quiet 120).outcome ≡ Ended 0
unfolding digits settle divided
worked_end = refl

-- each frame block was freed
pub worked_frames : (event program quiet 120).store.frames ≡ None ∷ None ∷ None ∷ None ∷ []
unfolding digits settle divided
worked_frames = refl

-- its driver is the driver
pub worked_driver : DriverFacts program
worked_driver = record { function = refl; struct = is_struct [] others frame_tag (head_fields int []) apart fields }
  where
    apart : NoStruct frame_tag others
    apart = NotThis _ _ refl (NotThis _ _ refl (NotThis _ _ refl (NotThis _ _ refl (NotThis _ _ refl (NotThis _ _ refl (NotThis _ _ refl (NotThis _ _ refl (NotThis _ _ refl (NotThis _ _ refl (NotThis _ _ refl (NotThis _ _ refl NoneHere)))))))))))

    fields : ScalarFields (head_fields int [])
    fields = AndField _ _ refl (NotSo _ _ refl (NotSo _ _ refl NoneSo)) (AndField _ _ refl (NotSo _ _ refl NoneSo) (AndField _ _ refl NoneSo NoFields))
