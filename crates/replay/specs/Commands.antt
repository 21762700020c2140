-- The commands of a script, each by its word. Assumes nothing.
use Rattle.std.specs.Prelude.{Err, List, Ok, Result, [], ◌∷◌, ℕ, codes, if◌then◌else◌}
use Rattle.replay.specs.declared.command.Command.{Command}
use Rattle.replay.specs.declared.command.Command.TheVariants.{Add, Ask, BareAsk, BareContext, BareStages, Context, Forget, Line, Load, Member, Open, Plain, PlainContext, Rule, Season, Stages, Withdraw, Write}
use Rattle.replay.specs.declared.command.Command.TheVariants.{List as Lists}
use Rattle.telling.specs.declared.Fault.{Fault}
use Rattle.telling.specs.declared.Fault.TheVariants.{Bad}
use Rattle.theory.specs.Judge.{same_sets}

-- the first of some whose word it is; any other word makes the line bad
abbrev pub among : List (List ℕ × Command) → List ℕ → Result Command Fault
among [] word = Err Bad
among (p ∷ more) word = if same_sets word p.0 then Ok p.1 else among more word

-- the command of a word
unfoldable pub command_of : List ℕ → Result Command Fault
command_of =
    among
    ((codes "open", Open)
    ∷ (codes "load", Load)
    ∷ (codes "add", Add)
    ∷ (codes "withdraw", Withdraw)
    ∷ (codes "rule", Rule)
    ∷ (codes "forget", Forget)
    ∷ (codes "season", Season)
    ∷ (codes "ask", Ask)
    ∷ (codes "context", Context)
    ∷ (codes "member", Member)
    ∷ (codes "line", Line)
    ∷ (codes "list", Lists)
    ∷ (codes "write", Write)
    ∷ (codes "plain", Plain)
    ∷ (codes "plaincontext", PlainContext)
    ∷ (codes "stages", Stages)
    ∷ (codes "bareask", BareAsk)
    ∷ (codes "barecontext", BareContext)
    ∷ (codes "barestages", BareStages)
    ∷ [])
