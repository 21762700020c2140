-- `following::all` meets its contract. Assumes nothing.
use Rattle.std.proofs.Common.{◌≡◌, replicate, rules}
use Rattle.following.proofs.Sowing.{sown_filled}
use Rattle.following.proofs.all.Goals as goal

pub returns : goal.returns
returns c =
    let e : c.fill.new.self ≡ replicate c.args.a 0 = search rules in
    sown_filled c.args.a c.requires c.fill.new.self e
