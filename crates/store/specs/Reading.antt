-- The lists of a store as they stand, what its justifications say of an empty one, and when a call that reads is refused. Assumes nothing.
use Rattle.std.specs.Prelude.{Bool, ◌&&◌, ◌||◌, false, not, List, [], ◌*◌, suc, zero, ℕ, eqb, ltb, drop, get_or, length, take}
use Rattle.replies.specs.declared.Reply.{Reply}
use Rattle.replies.specs.declared.Reply.TheVariants.{Done, Number, Shape}
use Rattle.rules.specs.Held.{said_by}
use Rattle.stages.specs.declared.Lists.{Lists}
use Rattle.store.specs.Shape.{right_shape, top}
use Rattle.store.specs.declared.Store.{Store}
use Rattle.theory.specs.Demands.{follows_from_all}
use Rattle.theory.specs.Limits.{limits}
use Rattle.theory.specs.Lists.{choose}
use Rattle.theory.specs.Sets.{in_range}

abbrev pub nogoods_held : Lists → List ℕ
nogoods_held l = take l.count l.nogoods

-- the label of n; falsity has none
abbrev pub label_held : Lists → ℕ → List ℕ
label_held l zero = []
label_held l (suc i) = take (get_or l.sizes i 0) (drop (limits.label * i) l.members)

-- for n = 0 the nogoods, else the label
abbrev pub list_held : Lists → ℕ → List ℕ
list_held l zero = nogoods_held l
list_held l (suc i) = label_held l (suc i)

-- n follows from all assumptions together by the justifications held
abbrev pub held_from_all : Store → ℕ → Bool
held_from_all s n = follows_from_all s.held.assumptions (said_by s.held) n

-- the label of n, from 1 on, is empty
abbrev pub unlabelled : Lists → ℕ → Bool
unlabelled l zero = false
unlabelled l (suc i) = eqb (length (label_held l (suc i))) 0

-- .. and n follows from all assumptions together by the justifications held
abbrev pub contradicted_in : Store → ℕ → Bool
contradicted_in s n = unlabelled s.lists n && held_from_all s n

-- a call that reads the number n and the set E: 2, then 4, a number above A + M or an assumption above A in the set; else done
unfoldable pub refusal_of : Store → ℕ → ℕ → Reply
refusal_of s n E =
    choose (not (right_shape s)) Shape
    (choose (ltb (top s.held) n || not (in_range s.held.assumptions E)) Number
    Done)
