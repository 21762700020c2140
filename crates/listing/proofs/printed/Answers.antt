-- `printed` meets its contract. Assumes nothing.
use mathlib.Core.Path.{ap}
use Rattle.listing.proofs.Laws.{print_done, print_long, print_refused, print_right}
use Rattle.replies.proofs.Laws.{zero_done}
use Rattle.replies.specs.Replies.{number_of}
use Rattle.listing.proofs.printed.Goals as goal

pub returns-then-bytes-gt-FILE : goal.returns-then-bytes-gt-FILE
returns-then-bytes-gt-FILE c = print_long _ _ c.if-bytes-gt-FILE.true c.refusal.ensures

pub returns-in_default : goal.returns-in_default
returns-in_default c =
    print_refused _ _ c.if-bytes-gt-FILE.false _ c.load-loaded.ensures (λ e. c.in_default.not-Done (zero_done _ e)) c.refusal-in_default.ensures

pub listed-requires : goal.listed-requires
listed-requires c = print_right _ c.args.out.now c.if-bytes-gt-FILE.false _ c.load-loaded.ensures (ap number_of c.in-Done.is)

pub returns : goal.returns
returns c = print_done _ _ c.if-bytes-gt-FILE.false _ c.load-loaded.ensures (ap number_of c.in-Done.is) c.listed.ensures
