-- Demand 1 of our calls. Assumes nothing.
use Rattle.promises.proofs.Coded.{coded}
use Rattle.promises.proofs.Keeping.{add_keeps, all_bytes, all_keeps, bare_keeps, judge_keeps, load_keeps, open_keeps, printing_keeps, read_keeps, read_store, refusal_keeps, withdraw_keeps}
use Rattle.promises.proofs.Table.{bare_done, bare_kind, bare_said, reply_table}
use Rattle.promises.specs.Calls.{ours}
use Rattle.promises.specs.Demand1.{Demand1, Refusals}

pub refusals : Refusals ours
refusals = record {
  table = reply_table;
  opening = open_keeps;
  loading = load_keeps;
  judging = judge_keeps;
  adding = add_keeps;
  adding_all = all_keeps;
  adding_bytes = all_bytes;
  withdrawing = withdraw_keeps;
  reading = read_store;
  bytes = read_keeps;
  refusal_bytes = refusal_keeps;
  bare_bytes = bare_keeps;
  bare_kind = bare_kind;
  bare_done = bare_done;
  bare_said = bare_said;
  printing_bytes = printing_keeps;
}

pub demand_1 : Demand1 ours
demand_1 = record { ends = coded; refusals = refusals }
