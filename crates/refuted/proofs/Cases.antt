-- Every case of the table holds of our calls: the answers by the demands, the lists by computing the judgement of what was put in. Assumes nothing.
use Rattle.std.specs.Prelude.{Ok}
use mathlib.Core.Bool.{Bool, false}
use mathlib.Core.List.Memᴰ
use mathlib.Core.List.Memᴰ.{head as here}
use mathlib.Core.List.Memᴰ.{tail as there}
use mathlib.Core.List.{List, Memᴰ as Mem, [], ◌∷◌, map}
use mathlib.Core.Path.{◌∙◌, ◌≡◌, ap, ap₂, refl, sym}
use Prim.Native.Nat.{◌+◌, ◌<◌, ◌^◌, ◌≤◌, suc, zero, ℕ}
use native.Mathlib.Omega.{arith}
use Prim.Native.String.{String}
use lib.ListN.{get_or, length}
use Rattle.asking.specs.Asking.{first_in, member_number, member_of, member_set, question_of, reasoned, standing}
use Rattle.asking.specs.declared.Answer.TheVariants.{Unsupported}
use Rattle.casefile.proofs.Cases.{listed as spells, listed_case}
use Rattle.casefile.specs.Load.{load_of}
use Rattle.lines.specs.Lines.{line_text}
use Rattle.wording.specs.Wording.{line_with, word_of}
use Rattle.numbers.specs.Numbers.{number_at, number_from, replied, second_from}
use Rattle.promises.proofs.Answers.{line_by, line_text_lem, member_by, question_by}
use Rattle.promises.proofs.Form.{Form, form_settled, made_form}
use Rattle.promises.proofs.Right.{form_stage}
use Rattle.refuted.proofs.Absurdity.{absurdity_depth, absurdity_done, absurdity_labels, absurdity_made, absurdity_nogoods}
use Rattle.refuted.proofs.Small.{add_done, few_room, made_add, made_open, one_done, one_made}
use Rattle.promises.proofs.Rows.{room_says}
use Rattle.promises.proofs.Sameness.{demand_3}
use Rattle.promises.proofs.Telling.{form_from_all, held_label_at, held_nogoods_at}
use Rattle.promises.proofs.Truth.{demand_2}
use Rattle.promises.specs.Calls.{line, ours, over, reads, written}
use Rattle.refuted.specs.Cases.{Decodes, ListsAre, PCases, Prints, assumed, each_other, listed, listed_bytes, one_way, struck, with_one}
use Rattle.promises.specs.Demand2.{at_place, text_of}
use Rattle.promises.specs.Made.{Made, in_order, loaded, put_in}
use Rattle.promises.specs.Room.{Reaches}
use Rattle.replies.specs.declared.Reply.TheVariants.{Done}
use Rattle.rules.specs.Held.{put}
use Rattle.rules.specs.Items.{fault_of, justification_of, same_justification, set_of}
use Rattle.stages.specs.Lists.{lists_of}
use Rattle.stages.specs.declared.Lists.{Lists}
use Rattle.store.specs.Reading.{label_held, list_held, nogoods_held}
use Rattle.store.specs.declared.Outcome.{Outcome}
use Rattle.store.specs.declared.Store.{Store}
use Rattle.text.specs.Texts.{digits, digits_in, row, spaced, word}
use Rattle.theory.proofs.Judgement.{stage_length, stage_nogoods}
use Rattle.theory.proofs.Listing.{below_elim}
use Rattle.theory.specs.Cases.{at, from, verdict, worked}
use Rattle.theory.specs.Demands.{carries, contradicts, follows_from_all}
use Rattle.theory.specs.Judge.{Stage, Verdict, judge, label_over, nogoods_over, settled, stage_at, stage_of}
use Rattle.theory.specs.Limits.{limits}
use Rattle.theory.specs.Lists.{all_of, each, numbers_below, numbers_to, some_of, those}
use Rattle.theory.specs.Sets.{among, digit, together}
use Rattle.theory.specs.Stages.{Justification, ahead, follows, gives, label_at, lesser}

-- ---- the lists of a made store are those of the judgement of what was put in

abbrev depth_in : Verdict → ℕ
depth_in (settled d g) = d
depth_in nogoods_over = 0
depth_in (label_over n) = 0

abbrev stage_in : Verdict → Stage
stage_in (settled d g) = g
stage_in nogoods_over = record { nogoods = []; labels = [] }
stage_in (label_over n) = record { nogoods = []; labels = [] }

map_same : {X : Type 0} (f g : ℕ → X) (l : List ℕ) → ((i : ℕ) → Mem i l → f (suc i) ≡ g (suc i)) → map f (map suc l) ≡ map g (map suc l)
map_same f g [] h = refl
map_same {X} f g (x ∷ l) h = ap₂ (λ (a : X) (b : List X). a ∷ b) (h x (here refl)) (map_same f g l (λ i m. h i (there m)))

module _ {A M : ℕ} {H : List Justification} {s : Store} (f : Form A M H s) (d : ℕ) (g : Stage) (e : judge limits A (A + M) (in_order H) ≡ settled d g) where
  one_verdict : settled (form_settled f).depth (form_settled f).stage ≡ settled d g
  one_verdict = sym (form_settled f).verdict ∙ e

  depth_is : (form_settled f).depth ≡ d
  depth_is = ap depth_in one_verdict

  stage_is : stage_at A (A + M) (in_order H) (form_settled f).depth ≡ g
  stage_is = sym (form_stage f) ∙ ap stage_in one_verdict

  labels_are : map (label_held s.lists) (numbers_to (A + M)) ≡ (stage_at A (A + M) (in_order H) (form_settled f).depth).labels
  unfolding numbers_to stage_at stage_of label_at
  labels_are = map_same (label_held s.lists) (label_at A (in_order H) (form_settled f).depth) (numbers_below (A + M)) (λ i k. held_label_at f (suc i) (below_elim (A + M) k))

  form_are : ListsAre s d g.nogoods g.labels
  unfolding lists_of
  form_are = record {
    depth = ap (λ (x : Store). x.lists.depth) (form_settled f).is ∙ depth_is;
    nogoods = held_nogoods_at f ∙ sym (stage_nogoods A (A + M) (in_order H) (form_settled f).depth) ∙ ap (λ (x : Stage). x.nogoods) stage_is;
    labels =
        ap (λ (n : ℕ). map (label_held s.lists) (numbers_to n)) (sym (ap (λ (x : Stage). length x.labels) stage_is) ∙ stage_length A (A + M) (in_order H) (form_settled f).depth)
        ∙ labels_are ∙ ap (λ (x : Stage). x.labels) stage_is;
  }

pub made_are : {A M : ℕ} {H : List Justification} {s : Store} → Made ours A M H s → {d : ℕ} {g : Stage} → judge limits A (A + M) (in_order H) ≡ settled d g → ListsAre s d g.nogoods g.labels
made_are m {d} {g} e = form_are (made_form m) d g e

-- ---- nothing held

nothing_verdict : judge limits 0 0 (in_order []) ≡ at 0 [] []
unfolding verdict in_order
nothing_verdict = refl

-- ---- the listed case

listed_verdict : judge limits 3 5 (in_order worked) ≡ at 2 (3 ∷ []) ((1 ∷ []) ∷ (2 ∷ []) ∷ (4 ∷ []) ∷ (1 ∷ 6 ∷ []) ∷ (6 ∷ []) ∷ [])
unfolding verdict in_order put set_of same_justification ahead lesser
listed_verdict = refl

listed_done : (load_of listed_bytes).reply ≡ Done
listed_done = (demand_2.loads listed_bytes listed_case spells Done).1 (room_says 3 5 (put_in listed_case) (few_room 3 5 (put_in listed_case) (omega arith)))

made_listed : Made ours 3 2 worked (listed ours)
unfolding set_of those numbers_below some_of
made_listed = loaded listed_bytes listed_case spells refl refl listed_done refl

listed_are : ListsAre (listed ours) 2 (3 ∷ []) ((1 ∷ []) ∷ (2 ∷ []) ∷ (4 ∷ []) ∷ (1 ∷ 6 ∷ []) ∷ (6 ∷ []) ∷ [])
listed_are = made_are made_listed listed_verdict

-- the fifth of five labels
fifth : (l : Lists) (a b c d e : List ℕ) → map (label_held l) (numbers_to 5) ≡ a ∷ b ∷ c ∷ d ∷ e ∷ [] → label_held l 5 ≡ e
unfolding numbers_to numbers_below
fifth l a b c d e p = ap (λ (x : List (List ℕ)). get_or x 4 []) p

five : label_held (listed ours).lists 5 ≡ 6 ∷ []
five = fifth (listed ours).lists (1 ∷ []) (2 ∷ []) (4 ∷ []) (1 ∷ 6 ∷ []) (6 ∷ []) listed_are.labels

member_five : (place : ℕ) → member_of (listed ours) 5 place ≡ at_place (6 ∷ []) place
member_five place =
    let f : Form 3 2 worked (listed ours) = made_form made_listed in
    member_by f 5 place (omega arith) ∙ ap (λ (l : List ℕ). at_place l place) five

-- ---- claims 2 and 3 support each other

sounds : (fault_of 3 2 (3 ∷ []) ≡ Done) × (fault_of 3 3 (2 ∷ []) ≡ Done)
unfolding fault_of some_of
sounds = (refl, refl)

made_one_way : Made ours 1 2 (from 2 (3 ∷ []) ∷ []) (one_way ours)
unfolding set_of those numbers_below some_of
made_one_way = one_made 1 2 2 (3 ∷ []) (omega arith) (omega arith) sounds.0

reaches_other : Reaches 1 2 (from 2 (3 ∷ []) ∷ []) 3 (2 ∷ [])
unfolding in_order some_of put
reaches_other = record {
  sound = sounds.1;
  new = λ m. let z : ◌≡◌ {A = ℕ} 3 2 = ap (λ (j : Justification). j.consequent) (Memᴰ.eq_of_singleton m) in omega arith;
  room = omega arith;
}

made_each_other : Made ours 1 2 (from 3 (2 ∷ []) ∷ from 2 (3 ∷ []) ∷ []) (each_other ours)
unfolding set_of those numbers_below some_of
made_each_other = made_add made_one_way 3 (2 ∷ []) reaches_other (omega arith)

each_other_verdict : judge limits 1 3 (in_order (from 3 (2 ∷ []) ∷ from 2 (3 ∷ []) ∷ [])) ≡ at 0 [] ((1 ∷ []) ∷ [] ∷ [] ∷ [])
unfolding verdict in_order put same_justification ahead lesser
each_other_verdict = refl

-- .. both unsupported

each_other_carry : (n E : ℕ) → 2 ≤ n → n ≤ 3 → E < 2 → (contradicts (from 3 (2 ∷ []) ∷ from 2 (3 ∷ []) ∷ []) E ≡ false) × (carries (from 3 (2 ∷ []) ∷ from 2 (3 ∷ []) ∷ []) E n ≡ false)
unfolding carries contradicts follows among digit some_of gives all_of
each_other_carry zero E p q r = absurd (omega arith)
each_other_carry (suc zero) E p q r = absurd (omega arith)
each_other_carry (suc (suc zero)) zero p q r = (refl, refl)
each_other_carry (suc (suc zero)) (suc zero) p q r = (refl, refl)
each_other_carry (suc (suc (suc zero))) zero p q r = (refl, refl)
each_other_carry (suc (suc (suc zero))) (suc zero) p q r = (refl, refl)
each_other_carry (suc (suc zero)) (suc (suc E)) p q r = absurd (omega arith)
each_other_carry (suc (suc (suc zero))) (suc (suc E)) p q r = absurd (omega arith)
each_other_carry (suc (suc (suc (suc n)))) E p q r = absurd (omega arith)

each_other_texts : (row limits.assumptions 2 (word_of 2 [] false) [] ≡ word "2 unsupported\n") × (row limits.assumptions 3 (word_of 3 [] false) [] ≡ word "3 unsupported\n")
unfolding row word_of digits digits_in spaced each word
each_other_texts = (refl, refl)

each_other_follow : (follows_from_all 1 (from 3 (2 ∷ []) ∷ from 2 (3 ∷ []) ∷ []) 2 ≡ false) × (follows_from_all 1 (from 3 (2 ∷ []) ∷ from 2 (3 ∷ []) ∷ []) 3 ≡ false)
unfolding follows_from_all together follows among digit some_of gives all_of
each_other_follow = (refl, refl)

-- the line of a number whose list is known, c telling whether it follows from all assumptions together
pub prints : {A M : ℕ} {H : List Justification} {s : Store} (f : Form A M H s) (n : ℕ) → n ≤ A + M → (l : List ℕ) (c : Bool) (t : String)
    → list_held s.lists n ≡ l → follows_from_all A H n ≡ c → row limits.assumptions n (word_of n l c) l ≡ word t → Prints ours s n t
unfolding line_text line_with
prints {A} {H = H} {s = s} f n h l c t e k u out w =
    let x : text_of A H n (list_held s.lists n) ≡ word t =
    sym (line_text_lem f n h) ∙ ap₂ (λ (y : List ℕ) (b : Bool). row limits.assumptions n (word_of n y b) y) e (form_from_all f n ∙ k) ∙ u in
    line_by f n h out (omega (arith, ap length x)) ∙ ap (λ (y : List ℕ). reads (line n out) (written y) s (over y out)) x

-- the answer where the nogoods and the label are known
pub answers : {A M : ℕ} {H : List Justification} {s : Store} (f : Form A M H s) (n E : ℕ) → n ≤ A + M → E < 2 ^ A
    → (bad own : List ℕ) → nogoods_held s.lists ≡ bad → label_held s.lists n ≡ own → question_of s n E ≡ Ok (reasoned (first_in bad E) (first_in own E))
unfolding standing
answers f n E l h bad own p q = question_by f n E l h ∙ ap₂ (λ (g m : List ℕ). Ok (reasoned (first_in g E) (first_in m E))) p q

-- the second and the third of three labels
second_third : (l : Lists) (a b c : List ℕ) → map (label_held l) (numbers_to 3) ≡ a ∷ b ∷ c ∷ [] → (label_held l 2 ≡ b) × (label_held l 3 ≡ c)
unfolding numbers_to numbers_below
second_third l a b c p = (ap (λ (x : List (List ℕ)). get_or x 1 []) p, ap (λ (x : List (List ℕ)). get_or x 2 []) p)

-- ---- assumption 1 justified by assumption 2

assumed_sound : fault_of 2 1 (2 ∷ []) ≡ Done
unfolding fault_of some_of
assumed_sound = refl

made_assumed : Made ours 2 0 (from 1 (2 ∷ []) ∷ []) (assumed ours)
unfolding set_of those numbers_below some_of
made_assumed = one_made 2 0 1 (2 ∷ []) (omega arith) (omega arith) assumed_sound

assumed_verdict : judge limits 2 2 (in_order (from 1 (2 ∷ []) ∷ [])) ≡ at 1 [] ((1 ∷ 2 ∷ []) ∷ (2 ∷ []) ∷ [])
unfolding verdict in_order put
assumed_verdict = refl

-- ---- supports 2, 1, 2 and supports 1, 2

one_sounds : (fault_of 3 3 (2 ∷ 1 ∷ 2 ∷ []) ≡ Done) × (fault_of 3 3 (1 ∷ 2 ∷ []) ≡ Done)
unfolding fault_of some_of
one_sounds = (refl, refl)

made_with_one : Made ours 2 1 (from 3 (1 ∷ 2 ∷ []) ∷ []) (with_one ours)
unfolding set_of those numbers_below some_of
made_with_one = one_made 2 1 3 (2 ∷ 1 ∷ 2 ∷ []) (omega arith) (omega arith) one_sounds.0

one_set : justification_of 3 3 (1 ∷ 2 ∷ []) ≡ from 3 (1 ∷ 2 ∷ [])
unfolding set_of those numbers_below some_of
one_set = refl

-- ---- nogood {1} with A=1

struck_sound : fault_of 1 0 (1 ∷ []) ≡ Done
unfolding fault_of some_of
struck_sound = refl

made_struck : Made ours 1 0 (from 0 (1 ∷ []) ∷ []) (struck ours)
unfolding set_of those numbers_below some_of
made_struck = one_made 1 0 0 (1 ∷ []) (omega arith) (omega arith) struck_sound

struck_verdict : judge limits 1 1 (in_order (from 0 (1 ∷ []) ∷ [])) ≡ at 1 (1 ∷ []) ([] ∷ [])
unfolding verdict in_order put
struck_verdict = refl

-- ---- numbers

decodes : Decodes ours (127 ∷ []) 127 1 × Decodes ours (128 ∷ 1 ∷ []) 128 2 × Decodes ours (255 ∷ 127 ∷ []) 16383 2 × Decodes ours (172 ∷ 2 ∷ []) 300 2
unfolding number_at number_from second_from
decodes = (record { done = refl; value = refl; past = refl }, record { done = refl; value = refl; past = refl }, record { done = refl; value = refl; past = refl }, record { done = refl; value = refl; past = refl })

undecoded : (replied (number_at (128 ∷ 0 ∷ []) 0) ≡ 12) × (replied (number_at (128 ∷ []) 0) ≡ 11)
unfolding number_at number_from second_from
undecoded = (refl, refl)

-- ---- the table

pub p_cases : PCases ours
p_cases = record {
  nothing_done = demand_2.opens 0 0 (omega arith) (omega arith);
  nothing_made = made_open 0 0 (omega arith) (omega arith);
  nothing_lists = made_are (made_open 0 0 (omega arith) (omega arith)) nothing_verdict;
  listed_done = listed_done;
  listed_made = made_listed;
  listed_lists = listed_are;
  listed_5 = five;
  listed_member = ap member_set (member_five 0);
  listed_last = ap member_number (member_five 1);
  one_way_done = one_done 1 2 2 (3 ∷ []) (omega arith) (omega arith) sounds.0;
  one_way_made = made_one_way;
  each_other_done = add_done made_one_way 3 (2 ∷ []) reaches_other (omega arith);
  each_other_made = made_each_other;
  each_other_lists = made_are made_each_other each_other_verdict;
  each_other_asked = λ n E p q r. ((demand_2.tells made_each_other).question n E (omega arith) (omega arith) (Ok Unsupported)).1 (each_other_carry n E p q r);
  each_other_lines =
      let f = made_form made_each_other in
      let e = second_third (each_other ours).lists (1 ∷ []) [] [] (made_are made_each_other each_other_verdict).labels in
      (prints f 2 (omega arith) [] false "2 unsupported\n" e.0 each_other_follow.0 each_other_texts.0, prints f 3 (omega arith) [] false "3 unsupported\n" e.1 each_other_follow.1 each_other_texts.1);
  absurdity_done = absurdity_done;
  absurdity_made = absurdity_made;
  absurdity_nogoods = absurdity_nogoods;
  absurdity_labels = absurdity_labels;
  absurdity_depth = absurdity_depth;
  assumed_done = one_done 2 0 1 (2 ∷ []) (omega arith) (omega arith) assumed_sound;
  assumed_made = made_assumed;
  assumed_lists = made_are made_assumed assumed_verdict;
  with_one_done = one_done 2 1 3 (2 ∷ 1 ∷ 2 ∷ []) (omega arith) (omega arith) one_sounds.0;
  with_one_made = made_with_one;
  with_one_again = ap (λ (o : Outcome). o.reply) (demand_3.repeated 3 (1 ∷ 2 ∷ []) made_with_one one_sounds.1 (here one_set));
  struck_done = one_done 1 0 0 (1 ∷ []) (omega arith) (omega arith) struck_sound;
  struck_made = made_struck;
  struck_lists = made_are made_struck struck_verdict;
  number_127 = decodes.0;
  number_128 = decodes.1;
  number_16383 = decodes.2;
  number_300 = decodes.3;
  number_80_00 = undecoded.0;
  number_80 = undecoded.1;
}
