-- What hosts answer in a step, and what it leaves of the answers of a history.
use Rattle.std.specs.Prelude.{◌≡◌, ℤ, List, [], ◌++◌, Option, Some, None}
use Rattle.cpc_base.specs.Bytes.{Text}
use Rattle.cpc_tree.specs.Erase.{Names}
use Rattle.cpc_run.specs.declared.looped.Loop.{Loop}
use Rattle.cpc_run.specs.declared.made.Made.{Made}
use Rattle.cpc_run.specs.declared.made.Made.TheVariants as M
use Rattle.cpc_run_shown.specs.declared.outcome.Outcome.{Outcome}
use Rattle.cpc_run.specs.Hosts.{answers_of, HostsMeet}
use Rattle.cpc_run.specs.States.{States, Came}

-- which answers hosts may give: by name and arguments
abbrev pub Allows : Type 1
Allows = Text → List ℤ → ℤ → Type 0

-- t shows these answers behind those that s shows, each of which may be given, and leaves the rest
pub record HasAnswers (allows : Allows) (said rest : List ℤ) (s t : States) : Type 0 where
  pub said_so : answers_of t.trace ≡ answers_of s.trace ++ said
  pub left : t.history.answers ≡ rest
  pub meets : HostsMeet allows s.trace → HostsMeet allows t.trace

-- the same of what a step comes to; nothing is said where no rule fits
abbrev pub Answered : Allows → (said rest : List ℤ) → States → Option States → Type 0
Answered allows said rest s None = Unit {0}
Answered allows said rest s (Some t) = HasAnswers allows said rest s t

-- what a step came to that was answered so
abbrev pub CameAnswered : Names → Allows → (said rest : List ℤ) → Option Outcome → Loop → Text → States → Option States → Type 0
CameAnswered names allows said rest r l printed s o = Came names r l printed s o × Answered allows said rest s o

-- these marks answer a state's run so far, and leave the rest
pub record HasSaid (allows : Allows) (given rest : List ℤ) (s : States) : Type 0 where
  pub answered : answers_of s.trace ≡ given
  pub left : s.history.answers ≡ rest
  pub meets : HostsMeet allows s.trace

-- a step that was not made gives no answers
abbrev pub MadeAnswered : Allows → (said rest : List ℤ) → Made → States → Option States → Type 0
MadeAnswered allows said rest (M.Full cells) s o = said ≡ []
MadeAnswered allows said rest m s o = Answered allows said rest s o
