-- What building steps come to.
use Rattle.std.proofs.Common.{◌≡◌, ◌∙◌, ap, ap₂, false, true, Option, option_map}
use Rattle.std.specs.Prelude.{◌||◌}
use Rattle.clap.specs.Built.{AddsArg}
use Rattle.clap.specs.Simple.{App, app_of, with_rule}
use Rattle.clap.specs.Walk.{Rule, rule_of}
use Rattle.clap.specs.declared.builder.action.ArgAction.{ArgAction}
use Rattle.clap.specs.declared.builder.arg.Arg.{Arg}
use Rattle.clap.specs.declared.builder.command.Command.{Command as Built}
use Rattle.cpc_cli_command.specs.Commands.{IsLocal}

pub required_is : (a b : Arg) (r : Rule) → b ≡ record a { required = true } → rule_of a ≡ r → rule_of b ≡ record r { required = true }
required_is a b r e h = ap rule_of e ∙ ap (λ (z : Rule). record z { required = true }) h

pub named_is : (a b c : Arg) (long : _) (action : Option ArgAction) (r : Rule) → b ≡ record a { long = long } → c ≡ record b { action = action } → rule_of a ≡ r → rule_of c ≡ record r { long = option_map (λ s. s.now) long; action = action }
named_is a b c long action r e f h =
    ap rule_of (f ∙ ap (λ (z : Arg). record z { action = action }) e) ∙ ap (λ (z : Rule). record z { long = option_map (λ s. s.now) long; action = action }) h

-- an argument that a command was given
pub app_is : (old new : Built) (a : Arg) (app : App) (rule : Rule) → AddsArg old a new → app_of old ≡ app → rule_of a ≡ rule → a.global ≡ false → app_of new ≡ with_rule app rule
app_is old new a app rule added e r l = added.shape l ∙ ap₂ with_rule e r

pub local_is : (old new : Built) (a : Arg) → AddsArg old a new → IsLocal old → a.global ≡ false → IsLocal new
local_is old new a added o l = added.globals ∙ ap₂ (◌||◌) o l
