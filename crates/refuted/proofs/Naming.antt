-- Naming the set asked, and naming the last member within it, are refuted where the label of 1 is {1} {2} and {1,2} is asked. Assumes nothing.
use Rattle.replies.specs.declared.Reply.{Reply}
use Rattle.std.specs.Prelude.{Result, Ok}
use mathlib.Core.Bool.{false, true}
use mathlib.Core.List.Memᴰ.{head as here}
use mathlib.Core.List.{List, Memᴰ as Mem, [], ◌∷◌, reverse}
use mathlib.Core.Logic.{⊎_elim}
use mathlib.Core.Path.{◌∙◌, ◌≡◌, ap, ap₂, refl, subst, sym}
use Prim.Native.Nat.{ℕ}
use native.Mathlib.Omega.{arith}
use lib.Count.{ones}
use lib.Dec.{eqb}
use lib.ListN.{get_or}
use Rattle.asking.specs.Asking.{answer_number, first_in, question_of, reasoned}
use Rattle.asking.specs.declared.Answer.{Answer}
use Rattle.asking.specs.declared.Answer.TheVariants.{Supported}
use Rattle.promises.proofs.Form.{made_form}
use Rattle.promises.proofs.Truth.{demand_2}
use Rattle.promises.specs.Calls.{ours, question}
use Rattle.promises.specs.Demand2.{Demand2, QuestionSays, Smallest}
use Rattle.promises.specs.Made.{Made, added, opened}
use Rattle.refuted.proofs.Cases.{answers, p_cases}
use Rattle.refuted.proofs.Small.{done_with}
use Rattle.refuted.specs.Cases.{assumed}
use Rattle.refuted.specs.Exchange.{with_question}
use Rattle.refuted.specs.Wrong.{echo, echoing, last_named, lasting}
use Rattle.rules.specs.Items.{set_of}
use Rattle.store.specs.Calls.{add_of, open_of}
use Rattle.store.specs.Reading.{label_held}
use Rattle.store.specs.declared.Store.{Store}
use Rattle.theory.proofs.Lists.{clash}
use Rattle.theory.specs.Cases.{from}
use Rattle.theory.specs.Demands.{carries, contradicts}
use Rattle.theory.specs.Lists.{all_of, choose, numbers_below, numbers_to, some_of, those}
use Rattle.theory.specs.Sets.{among, before, digit, within}
use Rattle.theory.specs.Stages.{Justification, follows, gives}

abbrev H : List Justification
H = from 1 (2 ∷ []) ∷ []

abbrev s : Store
s = assumed ours

-- whatever it answers to a question, a program makes this store as ours does
made_by : (f : Store → ℕ → ℕ → Result Answer Reply) → Made (with_question f ours) 2 0 H s
unfolding set_of those numbers_below some_of
made_by f = added 1 (2 ∷ []) (opened (done_with (open_of 2 0) (demand_2.opens 2 0 (omega arith) (omega arith)))) (done_with (add_of (open_of 2 0).store 1 (2 ∷ [])) p_cases.assumed_done)

label : label_held s.lists 1 ≡ 1 ∷ 2 ∷ []
unfolding numbers_to numbers_below
label = ap (λ (x : List (List ℕ)). get_or x 0 []) p_cases.assumed_lists.labels

firsts : (reasoned (first_in [] 3) (first_in (1 ∷ 2 ∷ []) 3) ≡ Supported 1) × (reasoned (first_in [] 3) (first_in (2 ∷ 1 ∷ []) 3) ≡ Supported 2)
unfolding first_in within
firsts = (refl, refl)

first_named : question_of s 1 3 ≡ Ok (Supported 1)
first_named = answers (made_form p_cases.assumed_made) 1 3 (omega arith) (omega arith) [] (1 ∷ 2 ∷ []) p_cases.assumed_lists.nogoods label ∙ ap Ok firsts.0

last_named_lem : last_named s.lists 1 3 ≡ Supported 2
last_named_lem = ap₂ (λ (bad own : List ℕ). reasoned (first_in (reverse bad) 3) (first_in (reverse own) 3)) p_cases.assumed_lists.nogoods label ∙ firsts.1

inside : (within 1 3 ≡ true) × (before 2 1 ≡ false)
unfolding within before ones
inside = (refl, refl)

carried : carries H 1 1 ≡ true
unfolding carries contradicts follows among digit some_of gives all_of
carried = refl

-- {1} carries 1 and lies inside {1,2}, which so is no smallest set
pub names_the_asked : Demand2 echoing → ⊥
names_the_asked d =
    let q : QuestionSays 2 H 1 3 (Ok (Supported 3)) = ((d.tells (made_by _)).question 1 3 (omega arith) (omega arith) (Ok (Supported 3))).0 (ap (echo 3) first_named) in
    let z : ◌≡◌ {A = ℕ} 1 3 = q.1.smallest.no_smaller 1 inside.0 carried in omega arith

-- {1} is a smallest set too, and {2} does not stand before it
pub names_the_last : Demand2 lasting → ⊥
names_the_last d =
    let e : (lasting.reading s (question 1 3)).said ≡ Ok (Supported 2) = ap (λ (a : Result Answer Reply). choose (eqb (answer_number a) 0) (Ok (last_named s.lists 1 3)) a) first_named ∙ ap Ok last_named_lem in
    let q : QuestionSays 2 H 1 3 (Ok (Supported 2)) = ((d.tells (made_by _)).question 1 3 (omega arith) (omega arith) (Ok (Supported 2))).0 e in
    let one : Smallest 2 (λ D. carries H D 1) 1 = (((demand_2.tells p_cases.assumed_made).label 1 (omega arith)).exactly 1).0 (subst (Mem 1) (sym label) (here refl)) in
    ⊎_elim (λ (z : ◌≡◌ {A = ℕ} 1 2). omega arith) (λ b. clash b inside.1) (q.1.first 1 one inside.0)
