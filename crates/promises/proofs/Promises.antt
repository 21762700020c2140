-- The product keeps its promises. Assumes nothing.
use Rattle.promises.proofs.Files.{files}
use Rattle.promises.proofs.Form.{made_holds}
use Rattle.promises.proofs.Meaning.{meaning}
use Rattle.promises.proofs.Plain.{plain_path}
use Rattle.promises.proofs.Refusals.{demand_1}
use Rattle.promises.proofs.Right.{made_no_own, made_right, own_shape}
use Rattle.promises.proofs.Sameness.{demand_3}
use Rattle.promises.proofs.Season.{one_by_one}
use Rattle.promises.proofs.Shortest.{nothing_shorter}
use Rattle.promises.proofs.Standing.{as_they_stand}
use Rattle.promises.proofs.Truth.{demand_2}
use Rattle.promises.proofs.Words.{words}
use Rattle.promises.specs.Calls.{ours}
use Rattle.promises.specs.Made.{Stores}
use Rattle.promises.specs.Promises.{Promises}

pub stores : Stores ours
stores = record { holds = made_holds; no_own = made_no_own; own_wrong = own_shape; right = made_right }

pub promises : Promises ours
promises = record { demand1 = demand_1; demand2 = demand_2; demand3 = demand_3; stores = stores; standing = as_they_stand; meaning = meaning; words = words; shortest = nothing_shorter; season = one_by_one; files = files; plain = plain_path }
