-- Words of which clap makes no command.
use Rattle.std.proofs.Common.{◌≡◌, false, List, [], ◌∷◌, ◌++◌, None, refl, codes}
use Rattle.std.specs.Prelude.{bytes_eq}
use Rattle.clap.proofs.OnLiterals.{clap_on_literals}
use Rattle.cpc_base.specs.Bytes.{Text}
use Rattle.cpc_cli_command.specs.Commands.{cpc_app}
use Rattle.cpc_cli_command.specs.Usage.{Means}
use Rattle.cpc_cli_command.proofs.UsageLemmas.{IsValue}

pub nothing_is : Means [] None
unfolding cpc_app clap_on_literals
nothing_is = refl

pub no_check_is : Means (codes "check" ∷ []) None
unfolding cpc_app clap_on_literals
no_check_is = refl

pub no_translate_is : Means (codes "translate" ∷ []) None
unfolding cpc_app clap_on_literals
no_translate_is = refl

pub no_run_is : Means (codes "run" ∷ []) None
unfolding cpc_app clap_on_literals
no_run_is = refl

pub no_exec_is : Means (codes "exec" ∷ []) None
unfolding cpc_app clap_on_literals
no_exec_is = refl

pub no_number_is : Means (codes "sample" ∷ []) None
unfolding cpc_app clap_on_literals
no_number_is = refl

pub two_numbers_is : (one two : Text) → IsValue one → IsValue two → Means (codes "sample" ∷ one ∷ two ∷ []) None
unfolding cpc_app clap_on_literals
two_numbers_is one two a b = rw (a.no_long, a.no_short, a.no_end, b.no_long, b.no_short, b.no_end) refl

pub no_options_is : (number steps : Text) → IsValue number → Means (codes "sample" ∷ number ∷ (codes "--steps=" ++ steps) ∷ []) None
unfolding cpc_app clap_on_literals
no_options_is number steps n = rw (n.no_long, n.no_short, n.no_end) refl

pub verb_is : (verb : Text) (rest : List Text) → IsValue verb → bytes_eq (codes "check") verb ≡ false → bytes_eq (codes "translate") verb ≡ false
    → bytes_eq (codes "run") verb ≡ false → bytes_eq (codes "exec") verb ≡ false → bytes_eq (codes "sample") verb ≡ false → Means (verb ∷ rest) None
unfolding cpc_app clap_on_literals
verb_is verb rest v c t r x s = rw (c, t, r, x, s, v.no_long, v.no_short, v.no_end) refl

pub two_files_is : (one two : Text) → IsValue one → IsValue two → Means (codes "check" ∷ one ∷ two ∷ []) None
unfolding cpc_app clap_on_literals
two_files_is one two a b = rw (a.no_long, a.no_short, a.no_end, b.no_long, b.no_short, b.no_end) refl

pub twice_is : (one two file : Text) → Means (codes "run" ∷ (codes "--steps=" ++ one) ∷ (codes "--steps=" ++ two) ∷ file ∷ []) None
unfolding cpc_app clap_on_literals
twice_is one two file = refl

pub cells_twice_is : (one two file : Text) → Means (codes "run" ∷ (codes "--cells=" ++ one) ∷ (codes "--cells=" ++ two) ∷ file ∷ []) None
unfolding cpc_app clap_on_literals
cells_twice_is one two file = refl

pub section_steps_twice_is : (one two file : Text)
    → Means (codes "run" ∷ (codes "--section-steps=" ++ one) ∷ (codes "--section-steps=" ++ two) ∷ file ∷ []) None
unfolding cpc_app clap_on_literals
section_steps_twice_is one two file = refl

pub workers_twice_is : (one two file : Text) → Means (codes "run" ∷ (codes "--workers=" ++ one) ∷ (codes "--workers=" ++ two) ∷ file ∷ []) None
unfolding cpc_app clap_on_literals
workers_twice_is one two file = refl

pub no_workers_is : (number file : Text) → Means (codes "check" ∷ (codes "--workers=" ++ number) ∷ file ∷ []) None
unfolding cpc_app clap_on_literals
no_workers_is number file = refl

pub history_twice_is : (one two file : Text) → Means (codes "run" ∷ (codes "--history=" ++ one) ∷ (codes "--history=" ++ two) ∷ file ∷ []) None
unfolding cpc_app clap_on_literals
history_twice_is one two file = refl

pub trace_twice_is : (file : Text) → Means (codes "run" ∷ codes "--trace" ∷ codes "--trace" ∷ file ∷ []) None
unfolding cpc_app clap_on_literals
trace_twice_is file = refl
