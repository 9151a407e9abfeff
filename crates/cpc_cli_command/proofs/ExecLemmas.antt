-- What clap makes of the words that ask for `exec`.
use Rattle.std.proofs.Common.{[], ◌∷◌, ◌++◌, None, Some, refl, codes}
use Rattle.clap.proofs.OnLiterals.{clap_on_literals}
use Rattle.cpc_base.specs.Bytes.{Text}
use Rattle.cpc_cli_command.specs.Commands.{Exec, cpc_app}
use Rattle.cpc_cli_command.specs.Usage.{Means, cells_by, defaults, exec_by, section_steps_by, steps_by, told_by, traced, workers_by}
use Rattle.cpc_cli_command.proofs.UsageLemmas.{IsValue}

pub exec_is : (file : Text) → IsValue file → Means (codes "exec" ∷ file ∷ []) (Some (Exec file defaults))
unfolding cpc_app clap_on_literals
exec_is file f = rw (f.no_long, f.no_short, f.no_end) (refl {a = Some (Exec file defaults)})

pub exec_steps_is : (file number : Text) → IsValue file → Means (codes "exec" ∷ file ∷ (codes "--steps=" ++ number) ∷ []) (exec_by file (steps_by number))
unfolding cpc_app clap_on_literals
exec_steps_is file number f = rw (f.no_long, f.no_short, f.no_end) (refl {a = exec_by file (steps_by number)})

pub exec_cells_is : (file number : Text) → IsValue file → Means (codes "exec" ∷ file ∷ (codes "--cells=" ++ number) ∷ []) (exec_by file (cells_by number))
unfolding cpc_app clap_on_literals
exec_cells_is file number f = rw (f.no_long, f.no_short, f.no_end) (refl {a = exec_by file (cells_by number)})

pub exec_section_steps_is : (file number : Text) → IsValue file
    → Means (codes "exec" ∷ file ∷ (codes "--section-steps=" ++ number) ∷ []) (exec_by file (section_steps_by number))
unfolding cpc_app clap_on_literals
exec_section_steps_is file number f = rw (f.no_long, f.no_short, f.no_end) (refl {a = exec_by file (section_steps_by number)})

pub exec_workers_is : (file number : Text) → IsValue file → Means (codes "exec" ∷ file ∷ (codes "--workers=" ++ number) ∷ []) (exec_by file (workers_by number))
unfolding cpc_app clap_on_literals
exec_workers_is file number f = rw (f.no_long, f.no_short, f.no_end) (refl {a = exec_by file (workers_by number)})

pub exec_history_is : (file history : Text) → IsValue file → IsValue history
    → Means (codes "exec" ∷ file ∷ codes "--history" ∷ history ∷ []) (Some (Exec file (told_by history)))
unfolding cpc_app clap_on_literals
exec_history_is file history f h = rw (f.no_long, f.no_short, f.no_end, h.no_long, h.no_short, h.no_end) (refl {a = Some (Exec file (told_by history))})

pub exec_history_joined_is : (file history : Text) → IsValue file → Means (codes "exec" ∷ file ∷ (codes "--history=" ++ history) ∷ []) (Some (Exec file (told_by history)))
unfolding cpc_app clap_on_literals
exec_history_joined_is file history f = rw (f.no_long, f.no_short, f.no_end) (refl {a = Some (Exec file (told_by history))})

pub exec_trace_is : (file : Text) → IsValue file → Means (codes "exec" ∷ file ∷ codes "--trace" ∷ []) (Some (Exec file traced))
unfolding cpc_app clap_on_literals
exec_trace_is file f = rw (f.no_long, f.no_short, f.no_end) (refl {a = Some (Exec file traced)})

-- `exec` has no flag for the text
pub exec_text_is : (file : Text) → IsValue file → Means (codes "exec" ∷ file ∷ codes "--text" ∷ []) None
unfolding cpc_app clap_on_literals
exec_text_is file f = rw (f.no_long, f.no_short, f.no_end) refl
