-- The texts of a run: its trace, its output and its history.
use Rattle.std.specs.Prelude.{ℕ, zero, suc, ◌+◌, ◌-◌, ◌*◌, ◌/◌, ◌%◌, nat_lt, nat_le, ◌==◌, Bool, true, false, ◌&&◌, ◌||◌, not, if◌then◌else◌, ℤ, pos, List, [], ◌∷◌, ◌++◌, filter, Option, Some, None, Result, Ok, Err, bytes_eq, codes}
use Rattle.std.specs.Fmt.{decimal, signed_decimal}
use Rattle.cpc_base.specs.Bytes.{Text}
use Rattle.cpc_num.specs.declared.kinds.Fault.{Fault}
use Rattle.cpc_num.specs.declared.kinds.Fault.TheVariants as F
use Rattle.cpc_tree.specs.Lists.{is_empty}
use Rattle.cpc_base.specs.declared.poll.Direction.{Direction}
use Rattle.cpc_base.specs.declared.poll.Direction.TheVariants.{Read, Write}
use Rattle.cpc_base.specs.declared.poll.Event.{Event}
use Rattle.cpc_base.specs.declared.poll.Event.TheVariants.{Done, Ready}
use Rattle.cpc_tree.specs.Trace.{Told, Mark, Output, HostCall, Sleeping, Waiting, Awaiting, Submitted, Polled, Outcome, Going, Ended, Exited, Failed, HistoryEnded, BadHistory, clock_limit, descriptor_limit, section_limit}

-- ---- a history as it is printed

-- the letter of a direction
abbrev pub letter : Direction → ℕ
letter Read = 114
letter Write = 119

-- the word of an event
abbrev pub event_text : Event → Text
event_text (Done n) = 100 ∷ decimal n
event_text (Ready fd way) = letter way ∷ signed_decimal fd

-- the words of events, each after a space
abbrev pub events_text : List Event → Text
events_text [] = []
events_text (e ∷ es) = 32 ∷ event_text e ++ events_text es

-- the line of a poll, without its line feed
abbrev pub poll_text : Told → Text
poll_text told = codes "poll " ++ decimal told.clock ++ events_text told.events

-- each poll on a line
abbrev pub history_text : List Told → Text
history_text [] = []
history_text (told ∷ polls) = poll_text told ++ 10 ∷ history_text polls

-- ---- marks and outcomes

-- a digit of 0 to 15
abbrev pub hexadecimal_digit : ℕ → ℕ
hexadecimal_digit n = if nat_lt n 10 then 48 + n else 87 + n

-- bytes, each as two digits
abbrev pub hexadecimal : Text → Text
hexadecimal [] = []
hexadecimal (b ∷ bs) = hexadecimal_digit (b / 16) ∷ hexadecimal_digit (b % 16) ∷ hexadecimal bs

-- the bytes of an output, if any, after a space
abbrev pub output_text : Text → Text
output_text [] = []
output_text (b ∷ bs) = 32 ∷ hexadecimal (b ∷ bs)

-- each number after a space
abbrev pub numbers_text : List ℤ → Text
numbers_text [] = []
numbers_text (z ∷ zs) = 32 ∷ signed_decimal z ++ numbers_text zs

-- the line of a mark, without its line feed
abbrev pub mark_text : Mark → Text
mark_text (Output bytes) = codes "out" ++ output_text bytes
mark_text (HostCall x zs z) = codes "host " ++ x ++ numbers_text zs ++ codes " = " ++ signed_decimal z
mark_text (Sleeping z) = codes "sleep " ++ signed_decimal z
mark_text (Waiting c) = codes "wait " ++ decimal c
mark_text (Awaiting fd way) = codes "io " ++ signed_decimal fd ++ 32 ∷ letter way ∷ []
mark_text (Submitted n x) = codes "section " ++ decimal n ++ 32 ∷ x
mark_text (Polled told) = poll_text told

-- the name of a fault
abbrev pub fault_text : Fault → Text
fault_text F.Overflow = codes "overflow"
fault_text F.Divide = codes "divide"
fault_text F.Shift = codes "shift"
fault_text F.Unset = codes "unset"
fault_text F.Kind = codes "kind"
fault_text F.Null = codes "null"
fault_text F.Bounds = codes "bounds"
fault_text F.Freed = codes "freed"
fault_text F.Compare = codes "compare"
fault_text F.Code = codes "code"
fault_text F.SectionSteps = codes "section steps"
fault_text F.Sections = codes "sections"
fault_text F.BadFree = codes "badfree"
fault_text F.CondVar = codes "condvar"
fault_text F.Length = codes "length"

-- why a run was left: its outcome, the bound on steps, or the cap on cells
pub data Stop : Type 0 where
  Over : Outcome → Stop
  AtSteps : Stop
  AtCells : Stop

-- the last line of a run that ended with so many waiters
abbrev pub ended_text : ℕ → Text
ended_text zero = codes "done"
ended_text (suc n) = codes "waiting " ++ decimal (suc n)

-- the last line of a trace, without its line feed
abbrev pub last_text : Stop → Text
last_text (Over Going) = []
last_text (Over (Ended n)) = ended_text n
last_text (Over (Exited z)) = codes "exit " ++ signed_decimal z
last_text (Over (Failed fault f)) = codes "fault " ++ fault_text fault ++ codes " in " ++ f
last_text (Over HistoryEnded) = codes "history ended"
last_text (Over (BadHistory n)) = codes "bad history"
last_text AtSteps = codes "steps"
last_text AtCells = codes "full"

-- the lines of the marks, and the last line
abbrev pub trace_text : List Mark → Stop → Text
trace_text [] stop = last_text stop ++ 10 ∷ []
trace_text (m ∷ ms) stop = mark_text m ++ 10 ∷ trace_text ms stop

-- the bytes that a mark outputs
abbrev pub output_of : Mark → Text
output_of (Output bytes) = bytes
output_of _ = []

-- the bytes of the output marks
abbrev pub output : List Mark → Text
output [] = []
output (m ∷ ms) = output_of m ++ output ms

-- ---- the reading of a history

-- what is wrong with a line
pub data LineFault : Type 0 where
  BadForm : LineFault
  BadNumber : LineFault

-- the first bad word decides
infixl 1 ◌>>=◌
abbrev pub ◌>>=◌ : {A B : Type 0} → Result A LineFault → (A → Result B LineFault) → Result B LineFault
Ok x >>= f = f x
Err e >>= f = Err e

-- a byte before the first of these pieces
abbrev pub before_first : ℕ → List Text → List Text
before_first b [] = (b ∷ []) ∷ []
before_first b (w ∷ ws) = (b ∷ w) ∷ ws

-- a byte before these pieces, or the end of a piece
abbrev pub cut_after : (ends : Bool) → ℕ → List Text → List Text
cut_after true b ws = [] ∷ ws
cut_after false b ws = before_first b ws

-- what stands between the bytes that end a piece
abbrev pub pieces : (ends : ℕ → Bool) → Text → List Text
pieces ends [] = [] ∷ []
pieces ends (b ∷ bs) = cut_after (ends b) b (pieces ends bs)

-- the lines of a text
abbrev pub lines : Text → List Text
lines bs = pieces (λ b. b == 10) bs

-- the words between spaces and tabs
abbrev pub words : Text → List Text
words bs = filter (λ w. not (is_empty w)) (pieces (λ b. (b == 32) || (b == 9)) bs)

-- the number n followed by these digits
abbrev pub number_after : ℕ → Text → Option ℕ
number_after n [] = Some n
number_after n (b ∷ bs) = if nat_le 48 b && nat_le b 57 then number_after (10 * n + (b - 48)) bs else None

-- the number of one or more digits
abbrev pub number_of : Text → Option ℕ
number_of [] = None
number_of (b ∷ bs) = number_after 0 (b ∷ bs)

-- a number within a limit
abbrev pub at_most : ℕ → Option ℕ → Result ℕ LineFault
at_most limit None = Err BadForm
at_most limit (Some n) = if nat_le n limit then Ok n else Err BadNumber

-- one or more digits, of a number within a limit
abbrev pub number_word : (limit : ℕ) → Text → Result ℕ LineFault
number_word limit w = at_most limit (number_of w)

-- a descriptor that can be read or written
abbrev pub descriptor_word : Direction → Text → Result Event LineFault
descriptor_word way w = do
  n ← number_word descriptor_limit w
  Ok (Ready (pos n) way)

-- a section that has completed
abbrev pub section_word : Text → Result Event LineFault
section_word w = do
  n ← number_word section_limit w
  Ok (Done n)

-- `dN`, `rF` or `wF`
abbrev pub event_word : Text → Result Event LineFault
event_word [] = Err BadForm
event_word (b ∷ w) =
    if b == 100 then section_word w else (if b == 114 then descriptor_word Read w else (if b == 119 then descriptor_word Write w else Err BadForm))

-- the words after the clock
abbrev pub event_words : List Text → Result (List Event) LineFault
event_words [] = Ok []
event_words (w ∷ ws) = do
  e ← event_word w
  es ← event_words ws
  Ok (e ∷ es)

-- a clock and events
abbrev pub poll_words : List Text → Result (Option Told) LineFault
poll_words [] = Err BadForm
poll_words (w ∷ ws) = do
  n ← number_word clock_limit w
  es ← event_words ws
  Ok (Some (record { clock = n; events = es }))

-- whether a word begins with `#`
abbrev pub is_comment : Text → Bool
is_comment [] = false
is_comment (b ∷ bs) = b == 35

-- a line without words or with a comment is skipped, any other is a poll
abbrev pub line_words : List Text → Result (Option Told) LineFault
line_words [] = Ok None
line_words (w ∷ ws) = if is_comment w then Ok None else (if bytes_eq w (codes "poll") then poll_words ws else Err BadForm)

-- the polls of a text, or its first bad line
pub data HistoryRead : Type 0 where
  Polls : List Told → HistoryRead
  BadLine : (line : ℕ) → LineFault → HistoryRead

-- one more poll
abbrev pub and_poll : Told → HistoryRead → HistoryRead
and_poll told (Polls polls) = Polls (told ∷ polls)
and_poll told (BadLine n fault) = BadLine n fault

-- a line, and then the others
abbrev pub and_line : Result (Option Told) LineFault → (line : ℕ) → (rest : HistoryRead) → HistoryRead
and_line (Ok None) n rest = rest
and_line (Ok (Some told)) n rest = and_poll told rest
and_line (Err fault) n rest = BadLine n fault

-- lines from the n-th on
abbrev pub read_lines : ℕ → List Text → HistoryRead
read_lines n [] = Polls []
read_lines n (l ∷ ls) = and_line (line_words (words l)) n (read_lines (suc n) ls)

-- what a history's text is read as
abbrev pub read_history : Text → HistoryRead
read_history text = read_lines 1 (lines text)
