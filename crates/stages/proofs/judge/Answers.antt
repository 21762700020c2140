-- `stages::judge` meets its contract. Assumes nothing.
use Rattle.std.proofs.Common.{refl, arith}
use Rattle.std.proofs.lemmas.Result.{err_from_is_err_and}
use Rattle.stages.proofs.Keeps.{marked_all}
use Rattle.stages.proofs.Marks.{fresh_start}
use Rattle.stages.proofs.Walk.{judge_from, judge_reached, walk_fresh, walk_less, walk_next, walk_on, walk_refused, walk_settled}
use Rattle.stages.proofs.judge.Goals as goal

pub loop-lists-init : goal.loop-lists-init
loop-lists-init c = record {
  reached = judge_reached _ c.requires _ c.start-lists.ensures;
  course = judge_from _ c.requires _ c.start-lists.ensures;
  fresh = fresh_start _ _ _ (marked_all 0 (omega arith));
  same = refl;
}

pub returns-in_err-next : goal.returns-in_err-next
returns-in_err-next c =
    let l = c.loop-lists in
    let p = err_from_is_err_and c.from_residual.result c.from_residual.ensures.1 in
    rw (p.1, p.2) (walk_refused _ l.lists l.invariant.reached _ l.invariant.course _ c.in_err-next.ensures)

pub returns-then-branch : goal.returns-then-branch
returns-then-branch c = let l = c.loop-lists in walk_settled _ l.lists l.invariant.reached _ l.invariant.course c.next.new.later c.next.new.marks _ c.in_ok-next.ensures c.if-branch.true

pub loop-lists-smaller : goal.loop-lists-smaller
loop-lists-smaller c = let l = c.loop-lists in walk_less _ l.lists l.invariant.reached _ l.invariant.course c.next.new.later c.next.new.marks _ c.in_ok-next.ensures c.if-branch.false

pub loop-lists-preserved : goal.loop-lists-preserved
loop-lists-preserved c =
    let l = c.loop-lists in
    record {
      reached = walk_next _ l.lists l.invariant.reached _ l.invariant.course c.next.new.later c.next.new.marks _ c.in_ok-next.ensures c.if-branch.false;
      course = walk_on _ l.lists l.invariant.reached _ l.invariant.course c.next.new.later c.next.new.marks _ c.in_ok-next.ensures c.if-branch.false;
      fresh = walk_fresh _ l.lists l.invariant.reached _ l.invariant.course c.next.new.later c.next.new.marks _ c.in_ok-next.ensures;
      same = refl;
    }
