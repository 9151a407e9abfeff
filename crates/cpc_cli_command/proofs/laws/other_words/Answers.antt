use Rattle.cpc_cli_command.proofs.OtherLemmas.{cells_twice_is, history_twice_is, no_check_is, no_exec_is, no_number_is, no_options_is, no_run_is, no_translate_is, no_workers_is, nothing_is, section_steps_twice_is, trace_twice_is, twice_is, two_files_is, two_numbers_is, verb_is, workers_twice_is}
use Rattle.cpc_cli_command.proofs.UsageLemmas.{unnamed, value_of}
use Rattle.cpc_cli_command.proofs.laws.other_words.Goals as goal

pub returns : goal.returns
returns c = record {
  nothing = nothing_is;
  verb = λ verb rest v other. let names = unnamed verb other in verb_is verb rest (value_of verb v) names.0 names.1 names.2 names.3 names.4;
  no_file = (no_check_is, no_translate_is, no_run_is, no_exec_is);
  no_number = no_number_is;
  two_numbers = λ one two a b. two_numbers_is one two (value_of one a) (value_of two b);
  no_options = λ number steps n. no_options_is number steps (value_of number n);
  two_files = λ one two a b. two_files_is one two (value_of one a) (value_of two b);
  twice = twice_is;
  cells_twice = cells_twice_is;
  section_steps_twice = section_steps_twice_is;
  workers_twice = workers_twice_is;
  no_workers = no_workers_is;
  history_twice = history_twice_is;
  trace_twice = trace_twice_is;
}
