use Rattle.cpc_cli_command.proofs.AskingLemmas.{any_file_is, before_is, cells_is, cells_joined_is, check_is, history_is, history_joined_is, joined_is, run_is, sample_is, section_steps_is, section_steps_joined_is, steps_is, text_is, trace_is, translate_is, workers_is, workers_joined_is}
use Rattle.cpc_cli_command.proofs.UsageLemmas.{value_of}
use Rattle.cpc_cli_command.proofs.laws.asking_words.Goals as goal

pub returns : goal.returns
returns c = record {
  check = λ file f. check_is file (value_of file f);
  translate = λ file f. translate_is file (value_of file f);
  run = λ file f. run_is file (value_of file f);
  text = λ file f. text_is file (value_of file f);
  steps = λ file number f n. steps_is file number (value_of file f) (value_of number n);
  joined = λ file number f. joined_is file number (value_of file f);
  before = λ file number f n. before_is file number (value_of file f) (value_of number n);
  cells = λ file number f n. cells_is file number (value_of file f) (value_of number n);
  cells_joined = λ file number f. cells_joined_is file number (value_of file f);
  section_steps = λ file number f n. section_steps_is file number (value_of file f) (value_of number n);
  section_steps_joined = λ file number f. section_steps_joined_is file number (value_of file f);
  workers = λ file number f n. workers_is file number (value_of file f) (value_of number n);
  workers_joined = λ file number f. workers_joined_is file number (value_of file f);
  history = λ file history f h. history_is file history (value_of file f) (value_of history h);
  history_joined = λ file history f. history_joined_is file history (value_of file f);
  trace = λ file f. trace_is file (value_of file f);
  sample = λ number n. sample_is number (value_of number n);
  any_file = any_file_is;
}
