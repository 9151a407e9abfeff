-- How many steps a run may take, how many cells, how many steps a section, and how many workers run sections.
use Rattle.std.specs.Prelude.{ℕ, Bool, ◌&&◌, Option, Some, None, length, if◌then◌else◌, nat_le}
use Rattle.std.specs.Char.{is_ascii_digit}
use Rattle.std.specs.List.{list_all}
use Rattle.std.specs.Str.Parse.{digits_value}
use Rattle.cpc_base.specs.Bytes.{Text}

-- where the words give no number
abbrev pub default_steps : ℕ
default_steps = 100000000

abbrev pub most_steps : ℕ
most_steps = 1000000000000

-- where the words give no number
abbrev pub default_cells : ℕ
default_cells = 4000000

abbrev pub most_cells : ℕ
most_cells = 50000000

-- where the words give no number
abbrev pub default_section_steps : ℕ
default_section_steps = 10000000

abbrev pub most_section_steps : ℕ
most_section_steps = 1000000000000

-- where the words give no number
abbrev pub default_workers : ℕ
default_workers = 2

abbrev pub most_workers : ℕ
most_workers = 64

-- the most threads of a sample
abbrev pub most_threads : ℕ
most_threads = 1000

-- 1 to 18 decimal digits
abbrev pub is_numeral : Text → Bool
is_numeral text = nat_le 1 (length text) && (nat_le (length text) 18 && list_all is_ascii_digit text)

-- a number from 1 to the most
abbrev pub is_within : (most n : ℕ) → Bool
is_within most n = nat_le 1 n && nat_le n most

-- the number from 1 to the most that a text writes
abbrev pub number_of : (most : ℕ) → Text → Option ℕ
number_of most text = if is_numeral text && is_within most (digits_value 10 text) then Some (digits_value 10 text) else None

-- the number from 0 to the most that a text writes
abbrev pub number_up_to : (most : ℕ) → Text → Option ℕ
number_up_to most text = if is_numeral text && nat_le (digits_value 10 text) most then Some (digits_value 10 text) else None

-- the number of steps that a text writes
abbrev pub steps_of : Text → Option ℕ
steps_of text = number_of most_steps text

-- the number of cells that a text writes
abbrev pub cells_of : Text → Option ℕ
cells_of text = number_of most_cells text

-- the number of steps of a section that a text writes
abbrev pub section_steps_of : Text → Option ℕ
section_steps_of text = number_of most_section_steps text

-- the number of workers that a text writes
abbrev pub workers_of : Text → Option ℕ
workers_of text = number_up_to most_workers text

-- the number of threads that a text writes
abbrev pub threads_of : Text → Option ℕ
threads_of text = number_of most_threads text
