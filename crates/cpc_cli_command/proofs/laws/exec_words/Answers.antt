use Rattle.cpc_cli_command.proofs.ExecLemmas.{exec_cells_is, exec_history_is, exec_history_joined_is, exec_is, exec_section_steps_is, exec_steps_is, exec_text_is, exec_trace_is, exec_workers_is}
use Rattle.cpc_cli_command.proofs.UsageLemmas.{value_of}
use Rattle.cpc_cli_command.proofs.laws.exec_words.Goals as goal

pub returns : goal.returns
returns c = record {
  plain = λ file f. exec_is file (value_of file f);
  steps = λ file number f. exec_steps_is file number (value_of file f);
  cells = λ file number f. exec_cells_is file number (value_of file f);
  section_steps = λ file number f. exec_section_steps_is file number (value_of file f);
  workers = λ file number f. exec_workers_is file number (value_of file f);
  history = λ file history f h. exec_history_is file history (value_of file f) (value_of history h);
  history_joined = λ file history f. exec_history_joined_is file history (value_of file f);
  trace = λ file f. exec_trace_is file (value_of file f);
  no_text = λ file f. exec_text_is file (value_of file f);
}
