-- Native and detached functions are found by their names in both programs.
use Rattle.std.proofs.Common.{◌≡◌, true, false, Option, Some, None, refl, sym, ◌∙◌, ap}
use Rattle.cpc_base.specs.Bytes.{Text}
use Rattle.cpc_base.proofs.Truth.{not_holds}
use Rattle.cpc_tree.specs.Syntax.{Function, Program}
use Rattle.cpc_tree.specs.Typing.{function_named}
use Rattle.cpc_meaning.specs.Threads.{is_cps_mode}
use Rattle.cpc_convert_routines.specs.Kept.{kept_function}
use Rattle.cpc_chains_event.specs.Converted.{converted}
use Rattle.cpc_convert_routines.specs.Named.{IsNamed, IsKept}
use Rattle.cpc_chains_event.proofs.Lookups.{functions_found}
use Rattle.cpc_lifted_laws.specs.Accepted.Names.{HasNames}
use Rattle.cpc_lifted_laws.specs.Native.Instance.{stays_whole}
use Rattle.cpc_chains_laws.specs.Native.Laws.{IsWhole, WholesAreFound}

-- a function that is there and not cps stays
pub kept_there : (p : Program) → HasNames p → (x : Text) (f : Function) → function_named p x ≡ Some f → is_cps_mode f.mode ≡ false → IsKept p f
kept_there p names x f e c = record { has = (names.there x f e).0; mode = c }

-- and is found
pub kept_named : (p : Program) → HasNames p → IsNamed p → (x : Text) (f : Function) → function_named p x ≡ Some f → is_cps_mode f.mode ≡ false → function_named (converted p) x ≡ Some (kept_function f)
kept_named p names ok x f e c = ap (function_named (converted p)) (sym (names.there x f e).1) ∙ (functions_found p ok).kept f (kept_there p names x f e c)

pub wholes_are_found : WholesAreFound
wholes_are_found p names ok x h = go (function_named p x) refl h
  where
    go : (o : Option Function) → function_named p x ≡ o → stays_whole o ≡ true → IsWhole p x
    go None e h = absurd (cc)
    go (Some f) e h =
        let c = not_holds (is_cps_mode f.mode) h in
        record { function = f; named = e; kept = kept_there p names x f e c; called = (names.there x f e).1; stays = kept_named p names ok x f e c }
