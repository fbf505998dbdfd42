-- What building a command comes to.
use Rattle.std.proofs.Common.{◌≡◌, ◌∙◌, ◌||◌, true, false, ap, ap₂}
use Rattle.clap.specs.Built.{AddsArg}
use Rattle.clap.specs.Simple.{App, app_of, app_of_fields, with_rule}
use Rattle.clap.specs.Walk.{Rule, rule_of}
use Rattle.clap.specs.declared.builder.arg.Arg.{Arg}
use Rattle.clap.specs.declared.builder.command.Command.{Command}
use Rattle.clap.specs.declared.builder.command.Command.TheOpen.{Command-F}
use Rattle.clap.specs.declared.builder.command.Command.TheViews.{out-Command}

-- clap reads of a command what this says, and no argument of it is global
pub record IsMade (c : Command) (a : App) : Type 0 where
  pub app : app_of c ≡ a
  pub local : (out-Command c).has_globals ≡ false

pub with_arg : (old new : Command) (arg : Arg) (a : App) (r : Rule) → IsMade old a → rule_of arg ≡ r → arg.global ≡ false → AddsArg old arg new → IsMade new (with_rule a r)
with_arg old new arg a r made rule local added = record {
  app = added.shape local ∙ ap₂ with_rule made.app rule;
  local = added.globals ∙ ap₂ (λ x y. x || y) made.local local;
}

-- the settings of the program
abbrev with_settings : App → App
with_settings a = record a {
  top = record a.top { no_binary_name = true; disable_help_flag = true; disable_version_flag = true };
}

pub set_up : (c c1 c2 c3 : Command) (a : App) → IsMade c a
    → out-Command c1 ≡ record (out-Command c) { no_binary_name = true } → out-Command c2 ≡ record (out-Command c1) { disable_help_flag = true }
    → out-Command c3 ≡ record (out-Command c2) { disable_version_flag = true } → IsMade c3 (with_settings a)
set_up c c1 c2 c3 a made e1 e2 e3 =
    let all : out-Command c3 ≡ record (out-Command c) { no_binary_name = true; disable_help_flag = true; disable_version_flag = true } =
    e3 ∙ ap (λ (f : Command-F Command). record f { disable_version_flag = true }) (e2 ∙ ap (λ (f : Command-F Command). record f { disable_help_flag = true }) e1) in
    record { app = ap app_of_fields all ∙ ap with_settings made.app; local = ap (λ (f : Command-F Command). f.has_globals) all ∙ made.local }
