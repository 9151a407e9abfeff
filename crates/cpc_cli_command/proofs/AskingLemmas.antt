-- What clap makes of the words that ask for `check`, `translate`, `run` and `sample`.
use Rattle.std.proofs.Common.{true, false, [], ◌∷◌, ◌++◌, Some, refl, codes}
use Rattle.clap.proofs.OnLiterals.{clap_on_literals}
use Rattle.cpc_base.specs.Bytes.{Text}
use Rattle.cpc_cli_command.specs.Commands.{Check, Run, Translate, cpc_app}
use Rattle.cpc_cli_command.specs.Usage.{Means, cells_by, defaults, run_by, sample_by, section_steps_by, steps_by, told_by, traced, workers_by}
use Rattle.cpc_cli_command.proofs.UsageLemmas.{IsValue}

pub check_is : (file : Text) → IsValue file → Means (codes "check" ∷ file ∷ []) (Some (Check file))
unfolding cpc_app clap_on_literals
check_is file f = rw (f.no_long, f.no_short, f.no_end) (refl {a = Some (Check file)})

pub translate_is : (file : Text) → IsValue file → Means (codes "translate" ∷ file ∷ []) (Some (Translate file))
unfolding cpc_app clap_on_literals
translate_is file f = rw (f.no_long, f.no_short, f.no_end) (refl {a = Some (Translate file)})

pub run_is : (file : Text) → IsValue file → Means (codes "run" ∷ file ∷ []) (Some (Run file defaults false))
unfolding cpc_app clap_on_literals
run_is file f = rw (f.no_long, f.no_short, f.no_end) (refl {a = Some (Run file defaults false)})

pub text_is : (file : Text) → IsValue file → Means (codes "run" ∷ file ∷ codes "--text" ∷ []) (Some (Run file defaults true))
unfolding cpc_app clap_on_literals
text_is file f = rw (f.no_long, f.no_short, f.no_end) (refl {a = Some (Run file defaults true)})

pub trace_is : (file : Text) → IsValue file → Means (codes "run" ∷ file ∷ codes "--trace" ∷ []) (Some (Run file traced false))
unfolding cpc_app clap_on_literals
trace_is file f = rw (f.no_long, f.no_short, f.no_end) (refl {a = Some (Run file traced false)})

pub sample_is : (number : Text) → IsValue number → Means (codes "sample" ∷ number ∷ []) (sample_by number)
unfolding cpc_app clap_on_literals
sample_is number n = rw (n.no_long, n.no_short, n.no_end) (refl {a = sample_by number})

pub any_file_is : (file : Text) → Means (codes "check" ∷ codes "--" ∷ file ∷ []) (Some (Check file))
unfolding cpc_app clap_on_literals
any_file_is file = refl

pub steps_is : (file number : Text) → IsValue file → IsValue number → Means (codes "run" ∷ file ∷ codes "--steps" ∷ number ∷ []) (run_by file (steps_by number))
unfolding cpc_app clap_on_literals
steps_is file number f n = rw (f.no_long, f.no_short, f.no_end, n.no_long, n.no_short, n.no_end) (refl {a = run_by file (steps_by number)})

pub joined_is : (file number : Text) → IsValue file → Means (codes "run" ∷ file ∷ (codes "--steps=" ++ number) ∷ []) (run_by file (steps_by number))
unfolding cpc_app clap_on_literals
joined_is file number f = rw (f.no_long, f.no_short, f.no_end) (refl {a = run_by file (steps_by number)})

pub before_is : (file number : Text) → IsValue file → IsValue number → Means (codes "run" ∷ codes "--steps" ∷ number ∷ file ∷ []) (run_by file (steps_by number))
unfolding cpc_app clap_on_literals
before_is file number f n = rw (n.no_long, n.no_short, n.no_end, f.no_long, f.no_short, f.no_end) (refl {a = run_by file (steps_by number)})

pub cells_is : (file number : Text) → IsValue file → IsValue number → Means (codes "run" ∷ file ∷ codes "--cells" ∷ number ∷ []) (run_by file (cells_by number))
unfolding cpc_app clap_on_literals
cells_is file number f n = rw (f.no_long, f.no_short, f.no_end, n.no_long, n.no_short, n.no_end) (refl {a = run_by file (cells_by number)})

pub cells_joined_is : (file number : Text) → IsValue file → Means (codes "run" ∷ file ∷ (codes "--cells=" ++ number) ∷ []) (run_by file (cells_by number))
unfolding cpc_app clap_on_literals
cells_joined_is file number f = rw (f.no_long, f.no_short, f.no_end) (refl {a = run_by file (cells_by number)})

pub section_steps_is : (file number : Text) → IsValue file → IsValue number
    → Means (codes "run" ∷ file ∷ codes "--section-steps" ∷ number ∷ []) (run_by file (section_steps_by number))
unfolding cpc_app clap_on_literals
section_steps_is file number f n = rw (f.no_long, f.no_short, f.no_end, n.no_long, n.no_short, n.no_end) (refl {a = run_by file (section_steps_by number)})

pub section_steps_joined_is : (file number : Text) → IsValue file
    → Means (codes "run" ∷ file ∷ (codes "--section-steps=" ++ number) ∷ []) (run_by file (section_steps_by number))
unfolding cpc_app clap_on_literals
section_steps_joined_is file number f = rw (f.no_long, f.no_short, f.no_end) (refl {a = run_by file (section_steps_by number)})

pub workers_is : (file number : Text) → IsValue file → IsValue number
    → Means (codes "run" ∷ file ∷ codes "--workers" ∷ number ∷ []) (run_by file (workers_by number))
unfolding cpc_app clap_on_literals
workers_is file number f n = rw (f.no_long, f.no_short, f.no_end, n.no_long, n.no_short, n.no_end) (refl {a = run_by file (workers_by number)})

pub workers_joined_is : (file number : Text) → IsValue file
    → Means (codes "run" ∷ file ∷ (codes "--workers=" ++ number) ∷ []) (run_by file (workers_by number))
unfolding cpc_app clap_on_literals
workers_joined_is file number f = rw (f.no_long, f.no_short, f.no_end) (refl {a = run_by file (workers_by number)})

pub history_is : (file history : Text) → IsValue file → IsValue history
    → Means (codes "run" ∷ file ∷ codes "--history" ∷ history ∷ []) (Some (Run file (told_by history) false))
unfolding cpc_app clap_on_literals
history_is file history f h = rw (f.no_long, f.no_short, f.no_end, h.no_long, h.no_short, h.no_end) (refl {a = Some (Run file (told_by history) false)})

pub history_joined_is : (file history : Text) → IsValue file → Means (codes "run" ∷ file ∷ (codes "--history=" ++ history) ∷ []) (Some (Run file (told_by history) false))
unfolding cpc_app clap_on_literals
history_joined_is file history f = rw (f.no_long, f.no_short, f.no_end) (refl {a = Some (Run file (told_by history) false)})
