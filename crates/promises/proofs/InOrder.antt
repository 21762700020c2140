-- The justifications of a list in held order, each once: the same members, in order, settled by the members alone. Assumes nothing.
use mathlib.Core.Bool.{Bool, false, true}
use mathlib.Core.List.Memᴰ.{head as here}
use mathlib.Core.List.Memᴰ.{tail as there}
use mathlib.Core.List.{List, Memᴰ as Mem, [], ◌∷◌}
use mathlib.Core.Logic.{◌⊎◌, inr, ⊎_elim}
use mathlib.Core.Path.{◌∙◌, ◌≡◌, ap, refl, subst, sym}
use Rattle.promises.specs.Made.{SameMembers, in_order}
use Rattle.holding.proofs.Dropping.{dropped_members, dropped_ordered}
use Rattle.rules.proofs.Order.{ordered_unique, same_mem}
use Rattle.holding.proofs.Putting.{put_ordered, put_cases, put_new, put_old}
use Rattle.rules.specs.Held.{dropped, ordered, put}
use Rattle.rules.specs.Items.{same_justification}
use Rattle.theory.specs.Lists.{choose, some_of}
use Rattle.theory.specs.Stages.{Justification}

-- i with those of J, each once
module _ (i : Justification) (J : List Justification) where
  abbrev pub with_it : Bool → List Justification
  with_it b = choose b J (put i J)

  pub with_old : (b : Bool) {j : Justification} → Mem j J → Mem j (with_it b)
  with_old true m = m
  with_old false m = put_old i m

  pub with_new : (b : Bool) → some_of (same_justification i) J ≡ b → Mem i (with_it b)
  with_new true e = same_mem i J e
  with_new false e = put_new i J

  pub with_cases : (b : Bool) {j : Justification} → Mem j (with_it b) → (j ≡ i) ⊎ Mem j J
  with_cases true m = inr m
  with_cases false m = put_cases i J m

  pub with_ordered : (b : Bool) → some_of (same_justification i) J ≡ b → ordered J ≡ true → ordered (with_it b) ≡ true
  with_ordered true e o = o
  with_ordered false e o = put_ordered i J o e

pub in_order_to : {j : Justification} {H : List Justification} → Mem j H → Mem j (in_order H)
unfolding in_order
in_order_to {j = j} (here {x = i} {xs = H} e) =
    let b : Bool = some_of (same_justification i) (in_order H) in
    subst (λ (k : Justification). Mem k (with_it i (in_order H) b)) (sym e) (with_new i (in_order H) b refl)
in_order_to {j = j} (there {x = i} {xs = H} m) = with_old i (in_order H) (some_of (same_justification i) (in_order H)) (in_order_to {j = j} m)

pub in_order_from : (H : List Justification) {j : Justification} → Mem j (in_order H) → Mem j H
unfolding in_order
in_order_from [] m = m
in_order_from (i ∷ H) m =
    ⊎_elim (λ e. here e) (λ n. there (in_order_from H n)) (with_cases i (in_order H) (some_of (same_justification i) (in_order H)) m)

pub in_order_members : (H : List Justification) → SameMembers (in_order H) H
in_order_members H j = (λ m. in_order_from H m, λ m. in_order_to m)

pub in_order_ordered : (H : List Justification) → ordered (in_order H) ≡ true
unfolding in_order ordered
in_order_ordered [] = refl
in_order_ordered (i ∷ H) = with_ordered i (in_order H) (some_of (same_justification i) (in_order H)) refl (in_order_ordered H)

-- a new one is put in its place
pub in_order_new : (i : Justification) (H : List Justification) → some_of (same_justification i) (in_order H) ≡ false → in_order (i ∷ H) ≡ put i (in_order H)
unfolding in_order
in_order_new i H e = rw e

-- a list in order with the members of H is H in order
pub in_order_is : (J H : List Justification) → ordered J ≡ true → SameMembers J H → J ≡ in_order H
in_order_is J H o f =
    ordered_unique J (in_order H) o (in_order_ordered H) (λ j m. in_order_to ((f j).0 m)) (λ j m. (f j).1 (in_order_from H m))

-- .. to those in order already
pub in_order_put : (i : Justification) (J : List Justification) → ordered J ≡ true → some_of (same_justification i) J ≡ false → in_order (i ∷ J) ≡ put i J
in_order_put i J o e =
    let k : J ≡ in_order J = in_order_is J J o (λ j. (λ m. m, λ m. m)) in
    in_order_new i J (ap (λ (K : List Justification). some_of (same_justification i) K) (sym k) ∙ e) ∙ ap (put i) (sym k)

pub in_order_same : (H K : List Justification) → SameMembers H K → in_order H ≡ in_order K
in_order_same H K f = in_order_is (in_order H) K (in_order_ordered H) (λ j. (λ m. (f j).0 (in_order_from H m), λ m. in_order_to ((f j).1 m)))

-- one taken out is taken out of those in order
pub in_order_dropped : (i : Justification) (H : List Justification) → in_order (dropped i H) ≡ dropped i (in_order H)
in_order_dropped i H =
    sym (in_order_is (dropped i (in_order H)) (dropped i H) (dropped_ordered i (in_order H) (in_order_ordered H))
    (λ j. (dropped_members i (in_order H) H (λ k m. in_order_from H m) j, dropped_members i H (in_order H) (λ k m. in_order_to m) j)))
