-- Every generated contract is an equation. Assumes nothing.
use mathlib.Core.List.{List}
use mathlib.Core.Path.{◌∙◌, ◌≡◌, ap, refl, sym}
use Prim.Native.Nat.{ℕ}
use Rattle.asking.specs.Asking.{Left}
use Rattle.bare.specs.Bare.{Answered}
use Rattle.lent.specs.Lent.{Wrote}
use Rattle.numbers.specs.declared.Reader.{Reader}
use Rattle.promises.specs.Once.{OnceEach}
use Rattle.text.specs.declared.Writer.{Writer}

both : {X Y : Type 0} {x x' : X} {y y' : Y} → ◌≡◌ {A = X × Y} (x, y) (x', y') → (x ≡ x') × (y ≡ y')
both {X} {Y} e = (ap (λ (z : X × Y). z.0) e, ap (λ (z : X × Y). z.1) e)

pub once_each : OnceEach
once_each = record {
  open_one = λ κs a r r' w w' p q. (p ∙ sym q, refl);
  add_one = λ κs a r r' w w' p q. (p ∙ sym q, refl);
  more_one = λ κs a r r' w w' p q. (p ∙ sym q, refl);
  less_one = λ κs a r r' w w' p q. (p ∙ sym q, refl);
  after_one = λ κs a r r' w w' p q. (p ∙ sym q, refl);
  store_refusal_one = λ κs a r r' w w' p q. (p ∙ sym q, refl);
  add_all_one = λ κs a r r' w w' p q. (p.0 ∙ sym q.0, ap (λ (l : List ℕ). (tt, (tt, (l, tt)))) (p.1 ∙ sym q.1));
  add_some_one = λ κs a r r' w w' p q. (p.0 ∙ sym q.0, ap (λ (l : List ℕ). (tt, (tt, (tt, (l, tt))))) (p.1 ∙ sym q.1));
  withdraw_one = λ κs a r r' w w' p q. (p ∙ sym q, refl);
  judged_one = λ κs a r r' w w' p q. (p ∙ sym q, refl);
  shape_one = λ κs a r r' w w' p q. (p ∙ sym q, refl);
  question_one = λ κs a r r' w w' p q. (p ∙ sym q, refl);
  context_one = λ κs a r r' w w' p q. (ap (λ (x : Left). x.outcome) (p ∙ sym q), ap (λ (l : List ℕ). (tt, (tt, (l, tt)))) (ap (λ (x : Left). x.bytes) (p ∙ sym q)));
  member_one = λ κs a r r' w w' p q. (p ∙ sym q, refl);
  line_one = λ κs a r r' w w' p q. (p.0 ∙ sym q.0, ap (λ (l : List ℕ). (tt, (tt, (l, tt)))) (p.1 ∙ sym q.1));
  case_line_one = λ κs a r r' w w' p q. (p.0 ∙ sym q.0, ap (λ (l : List ℕ). (tt, (l, tt))) (p.1 ∙ sym q.1));
  refusal_one = λ κs a r r' w w' p q. (ap (λ (x : Wrote). x.answer) (p ∙ sym q), ap (λ (l : List ℕ). (tt, (tt, (l, tt)))) (ap (λ (x : Wrote). x.bytes) (p ∙ sym q)));
  listing_one = λ κs a r r' w w' p q. (p.0 ∙ sym q.0, ap (λ (l : List ℕ). (tt, (l, tt))) (p.1 ∙ sym q.1));
  printed_one = λ κs a r r' w w' p q. (ap (λ (x : Wrote). x.answer) (p ∙ sym q), ap (λ (l : List ℕ). (tt, (l, tt))) (ap (λ (x : Wrote). x.bytes) (p ∙ sym q)));
  write_one = λ κs a r r' w w' p q. (p.0 ∙ sym q.0, ap (λ (l : List ℕ). (tt, (l, tt))) (p.1 ∙ sym q.1));
  fit_one = λ κs a r r' w w' p q. (ap (λ (x : Wrote). x.answer) (p ∙ sym q), ap (λ (l : List ℕ). (tt, (l, tt))) (ap (λ (x : Wrote). x.bytes) (p ∙ sym q)));
  lined_one = λ κs a r r' w w' p q. (refl, ap (λ (x : Writer). (tt, (tt, (tt, (x, tt))))) (p ∙ sym q));
  load_one = λ κs a r r' w w' p q. (p ∙ sym q, refl);
  number_one = λ κs a r r' w w' p q. (p ∙ sym q, refl);
  union_one = λ κs a r r' w w' p q. (p ∙ sym q, refl);
  within_one = λ κs a r r' w w' p q. (p ∙ sym q, refl);
  meet_one = λ κs a r r' w w' p q. (p ∙ sym q, refl);
  without_one = λ κs a r r' w w' p q. (p ∙ sym q, refl);
  only_one = λ κs a r r' w w' p q. (p ∙ sym q, refl);
  has_one = λ κs a r r' w w' p q. (p ∙ sym q, refl);
  before_one = λ κs a r r' w w' p q. (p ∙ sym q, refl);
  low_one = λ κs a r r' w w' p q. (p ∙ sym q, refl);
  has_number_one = λ κs a r r' w w' p q. (p ∙ sym q, refl);
  over_top_one = λ κs a r r' w w' p q. (p ∙ sym q, refl);
  zeros_one = λ κs a r r' w w' p q. (p ∙ sym q, refl);
  equal_one = λ κs a r r' w w' p q. (p ∙ sym q, refl);
  fault_one = λ κs a r r' w w' p q. (p ∙ sym q, refl);
  canonical_one = λ κs a r r' w w' p q. (p ∙ sym q, refl);
  nothing_one = λ κs a r r' w w' p q. (p ∙ sym q, refl);
  right_one = λ κs a r r' w w' p q. (p ∙ sym q, refl);
  holds_one = λ κs a r r' w w' p q. (p ∙ sym q, refl);
  insert_one = λ κs a r r' w w' p q. (p ∙ sym q, refl);
  remove_one = λ κs a r r' w w' p q. (p ∙ sym q, refl);
  from_all_one = λ κs a r r' w w' p q. (p ∙ sym q, refl);
  first_within_one = λ κs a r r' w w' p q. (p ∙ sym q, refl);
  late_one = λ κs a r r' w w' p q. (p ∙ sym q, refl);
  stirred_one = λ κs a r r' w w' p q. (p ∙ sym q, refl);
  build_one = λ κs a r r' w w' p q. (p ∙ sym q, refl);
  start_one = λ κs a r r' w w' p q. (p ∙ sym q, refl);
  judge_one = λ κs a r r' w w' p q. (p ∙ sym q, refl);
  lists_one = λ κs a r r' w w' p q. (p ∙ sym q, refl);
  copy_one = λ κs a r r' w w' p q. (refl, ap (λ (x : Writer). (x, (tt, tt))) (p ∙ sym q));
  braces_one = λ κs a r r' w w' p q. (refl, ap (λ (x : Writer). (x, (tt, tt))) (p ∙ sym q));
  row_one = λ κs a r r' w w' p q. (refl, ap (λ (x : Writer). (x, (tt, (tt, (tt, tt))))) (p ∙ sym q));
  head_one = λ κs a r r' w w' p q. (refl, ap (λ (x : Writer). (x, (tt, (tt, (tt, (tt, tt)))))) (p ∙ sym q));
  refused_one = λ κs a r r' w w' p q. (refl, ap (λ (x : Writer). (x, (tt, (tt, tt)))) (p ∙ sym q));
  begun_one = λ κs a r r' w w' p q. (p ∙ sym q, refl);
  byte_one = λ κs a r r' w w' p q. (refl, ap (λ (x : Writer). (x, (tt, tt))) (p ∙ sym q));
  text_one = λ κs a r r' w w' p q. p ∙ sym q;
  line_one_one = λ κs a r r' w w' p q. (refl, ap (λ (x : Writer). (tt, (x, tt))) (p ∙ sym q));
  read_one = λ κs a r r' w w' p q. (p ∙ sym q, refl);
  next_number_one = λ κs a r r' w w' p q. (p.answered ∙ sym q.answered, ap (λ (s : Reader). (s, tt)) (p.stands ∙ sym q.stands));
  next_two_one = λ κs a r r' w w' p q. (p.answered ∙ sym q.answered, ap (λ (s : Reader). (s, tt)) (p.stands ∙ sym q.stands));
  two_one = λ κs a r r' w w' p q. (p ∙ sym q, refl);
  header_one = λ κs a r r' w w' p q. (p.answered ∙ sym q.answered, ap (λ (s : Reader). (s, tt)) (p.stands ∙ sym q.stands));
  record_one = λ κs a r r' w w' p q. (p.answered ∙ sym q.answered, ap (λ (s : Reader). (s, (tt, tt))) (p.stands ∙ sym q.stands));
  line_end_one = λ κs a r r' w w' p q. (p ∙ sym q, refl);
  field_one = λ κs a r r' w w' p q. (p ∙ sym q, refl);
  numerals_one = λ κs a r r' w w' p q. ((both (p ∙ sym q)).0, ap (λ (l : List ℕ). (tt, (tt, (l, tt)))) (both (p ∙ sym q)).1);
  bytes_one = λ κs a r r' w w' p q. ((both (p ∙ sym q)).0, ap (λ (l : List ℕ). (tt, (tt, (l, tt)))) (both (p ∙ sym q)).1);
  same_one = λ κs a r r' w w' p q. (p ∙ sym q, refl);
  has_zero_one = λ κs a r r' w w' p q. (p ∙ sym q, refl);
  has_above_one = λ κs a r r' w w' p q. (p ∙ sym q, refl);
  set_of_one = λ κs a r r' w w' p q. (p ∙ sym q, refl);
  following_stages_one = λ κs a r r' w w' p q. (p ∙ sym q, refl);
  following_mark_one = λ κs a r r' w w' p q. (p ∙ sym q, refl);
  sown_one = λ κs a r r' w w' p q. (p ∙ sym q, refl);
  follow_one = λ κs a r r' w w' p q. (p ∙ sym q, refl);
  plain_word_one = λ κs a r r' w w' p q. (p ∙ sym q, refl);
  plain_fill_one = λ κs a r r' w w' p q. (p.0 ∙ sym q.0, ap (λ (l : List ℕ). (tt, (tt, (l, tt)))) (p.1 ∙ sym q.1));
  plainly_one = λ κs a r r' w w' p q. (p ∙ sym q, refl);
  plain_context_one = λ κs a r r' w w' p q. (ap (λ (x : Left). x.outcome) (p ∙ sym q), ap (λ (l : List ℕ). (tt, (tt, (l, tt)))) (ap (λ (x : Left). x.bytes) (p ∙ sym q)));
  put_one = λ κs a r r' w w' p q. (ap (λ (x : Wrote). x.answer) (p ∙ sym q), ap (λ (l : List ℕ). (tt, (tt, (l, tt)))) (ap (λ (x : Wrote). x.bytes) (p ∙ sym q)));
  stage_lines_one = λ κs a r r' w w' p q. (p.0 ∙ sym q.0, ap (λ (l : List ℕ). (tt, (tt, (l, tt)))) (p.1 ∙ sym q.1));
  digits_one = λ κs a r r' w w' p q. (refl, ap (λ (x : Writer). (x, (tt, tt))) (p ∙ sym q));
  spaced_one = λ κs a r r' w w' p q. (refl, ap (λ (x : Writer). (x, (tt, tt))) (p ∙ sym q));
  ask_some_one = λ κs a r r' w w' p q. (ap (λ (x : Answered). x.answer) (p ∙ sym q), ap (λ (l : List ℕ). (tt, (tt, (tt, (l, tt))))) (ap (λ (x : Answered). x.bytes) (p ∙ sym q)));
  bare_one = λ κs a r r' w w' p q. (ap (λ (x : Answered). x.answer) (p ∙ sym q), ap (λ (l : List ℕ). (tt, (tt, (l, tt)))) (ap (λ (x : Answered). x.bytes) (p ∙ sym q)));
}
