-- When loading a file gives each reply. Assumes nothing.
use mathlib.Core.List.{List}
use mathlib.Core.Logic.{◌↔◌}
use mathlib.Core.Path.{◌≡◌, ap, refl, subst, sym}
use Prim.Native.Nat.{◌+◌, ℕ}
use Rattle.casefile.proofs.Whole.{Sound}
use Rattle.casefile.specs.Case.{Case, case_of, held_by, whole}
use Rattle.casefile.specs.Load.{load_of}
use Rattle.casefile.specs.declared.Loaded.{Loaded}
use Rattle.promises.proofs.Form.{case_loaded, case_members, case_ranged, case_sound}
use Rattle.promises.proofs.Full.{VerdictSays, judge_says, says_same}
use Rattle.promises.proofs.Rows.{exactly, say_one, stages_say}
use Rattle.promises.specs.Made.{put_in}
use Rattle.promises.specs.Room.{StagesSay}
use Rattle.replies.specs.declared.Reply.{Reply}
use Rattle.rules.specs.Held.{held_of}
use Rattle.store.specs.Calls.{no_store, store_of}
use Rattle.theory.specs.Judge.{judge}
use Rattle.theory.specs.Limits.{limits}

-- the stages of what a case without fault puts in
module _ (c : Case) (sound : Sound c) where
  abbrev A : ℕ
  A = c.header.assumptions

  abbrev N : ℕ
  N = c.header.assumptions + c.header.claims

  pub case_judged : VerdictSays A N (put_in c) (judge limits A N (held_by c))
  case_judged =
      says_same A N (case_members c sound) (judge limits A N (held_by c))
      (judge_says A N (held_by c) (λ j m t k. ((case_ranged c sound j m).between t k).1) (judge limits A N (held_by c)) refl)

module _ (bytes : List ℕ) (c : Case) (spells : case_of bytes ≡ whole c) where
  abbrev A' : ℕ
  A' = c.header.assumptions

  abbrev N' : ℕ
  N' = c.header.assumptions + c.header.claims

  pub load_says : (r : Reply) → ((load_of bytes).reply ≡ r) ↔ StagesSay A' N' (put_in c) r
  unfolding store_of
  load_says r =
      let e = ap (λ (o : Loaded). o.reply) (case_loaded bytes c spells) in
      let w = stages_say A' N' (put_in c) no_store (held_of A' c.header.claims (held_by c)) (judge limits A' N' (held_by c)) (case_judged c (case_sound bytes c spells)) in
      exactly (StagesSay A' N' (put_in c)) (load_of bytes).reply (say_one A' N' (put_in c)) (subst (StagesSay A' N' (put_in c)) (sym e) w) r
