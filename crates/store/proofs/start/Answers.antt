-- `start` meets its contract: nothing held, and the lists of nothing. Assumes nothing.
use Rattle.store.proofs.Judging.{start_store_lem}
use Rattle.store.proofs.start.Goals as goal

pub returns : goal.returns
returns c = let a = c.args in start_store_lem a.a a.m _ _ c.nothing.ensures c.start.ensures
