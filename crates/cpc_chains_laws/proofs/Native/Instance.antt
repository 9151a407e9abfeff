-- The setting of a program and its event program: where pieces stand for frames, and what is known of frames and of calls, is left open.
use Rattle.cpc_base.specs.Bytes.{Text}
use Rattle.std.proofs.Common.{List, Option}
use Rattle.cpc_store.specs.Store.{Value}
use Rattle.cpc_tree.specs.Syntax.{Program}
use Rattle.cpc_meaning.specs.Plain.{Frame}
use Rattle.cpc_forms.specs.Split.{Position}
use Rattle.cpc_chains_event.specs.Converted.{converted}
use Rattle.cpc_chains_laws.specs.Related.Running.{Places}
use Rattle.cpc_chains_laws.proofs.Related.Setting.{Setting}
use Rattle.cpc_lifted_laws.specs.Accepted.Known.{Stays}
use Rattle.cpc_lifted_laws.specs.Accepted.Lifted.{kept_of}
use Rattle.cpc_lifted_laws.specs.Native.Instance.{StaysAs, NamesDetached, cut_of, UsedAt}

-- a program and its event program; codes are names that stay, and sections run detached functions
abbrev pub setting_of : Program → Places → (fine : Frame Position → Option Value → Type 0) → (given : Text → List Value → Type 0) → Setting
setting_of p there fine given = record {
  source = p;
  target = converted p;
  codes = Stays p;
  sections = NamesDetached p;
  pairs = StaysAs p;
  cut = cut_of p;
  kept = kept_of p;
  there = there;
  used = UsedAt p;
  fine = fine;
  given = given;
}
