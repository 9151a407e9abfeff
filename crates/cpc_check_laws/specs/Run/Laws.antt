-- Laws of plain programs, as statements.
use Rattle.std.specs.Prelude.{◌≡◌, true, []}
use Rattle.cpc_base.specs.Bytes.{Text}
use Rattle.cpc_base.specs.declared.stop.Dialect.{Dialect}
use Rattle.cpc_base.specs.declared.stop.Dialect.TheVariants as D
use Rattle.cpc_tree.specs.Syntax.{Program}
use Rattle.cpc_tree.specs.Located.{LProgram, bare}
use Rattle.cpc_tree.specs.Grammar.{Parses}
use Rattle.cpc_tree.specs.Trace.{is_over}
use Rattle.cpc_meaning_matching.specs.Simulation.{one, Follows}
use Rattle.cpc_meaning.specs.Trees.{trees}
use Rattle.cpc_meaning.specs.Runs.{SameRuns, Within}
use Rattle.cpc_meaning.specs.Matching.{thread_system, event_system, RunsNeverStuck}
use Rattle.cpc_check_rules.specs.Rules.{breaks}
use Rattle.cpc_check_laws.specs.Native.Native.{are_native}
use Rattle.cpc_check_laws.specs.Run.Plain.{is_plain}
use Rattle.cpc_check_laws.specs.Run.Shape.{are_shaped}

-- a plain program is its own event program: each step of its threads is one step of its callbacks
abbrev pub PlainRunsAlike : Type 0
PlainRunsAlike = (p : Program) → is_plain p ≡ true → Follows is_over (thread_system (trees p)) (event_system (trees p)) one one

-- so its threaded and its event runs show the same
abbrev pub PlainRunsSame : Type 0
PlainRunsSame = (p : Program) → is_plain p ≡ true → RunsNeverStuck p → SameRuns p p

-- within the cost
abbrev pub PlainRunsWithin : Type 0
PlainRunsWithin = (p : Program) → is_plain p ≡ true → RunsNeverStuck p → Within p p

-- ---- where programs are plain

-- a program of native code that breaks no rule of the dialect Cpc is plain, where it has the shape that texts give trees
abbrev pub NativeIsPlain : Type 0
NativeIsPlain = (p : LProgram) → are_shaped p.items ≡ true → breaks D.Cpc p ≡ [] → are_native p.items ≡ true → is_plain (bare p) ≡ true

-- a text gives trees of that shape
abbrev pub TextsAreShaped : Type 0
TextsAreShaped = (dialect : Dialect) (text : Text) (p : LProgram) → Parses dialect text p → are_shaped p.items ≡ true

-- so a text of native code that breaks no rule of the dialect Cpc gives a plain program
abbrev pub NativeTextIsPlain : Type 0
NativeTextIsPlain = (text : Text) (p : LProgram) → Parses D.Cpc text p → breaks D.Cpc p ≡ [] → are_native p.items ≡ true → is_plain (bare p) ≡ true
