-- `load` meets its contract: the file's fault, else the answer of the stages. Assumes nothing.
use Rattle.casefile.proofs.Loading.{load_judged, load_refused, open_nothing}
use Rattle.casefile.proofs.load.Goals as goal

pub returns-in-Ok : goal.returns-in-Ok
returns-in-Ok c = load_judged _ _ c.in-Ok.ensures _ c.judged-told.ensures

pub returns-in-Err : goal.returns-in-Err
returns-in-Err c = load_refused _ _ c.in-Err.ensures _ (open_nothing _ c.open.ensures)
