-- `members::first_within` meets its contract. Assumes nothing.
use Rattle.std.proofs.Common.{◌∙◌, ap, sym, arith, below_more}
use Rattle.members.proofs.First.{first_here, first_nowhere, left_at, left_none, none_out, some_out}
use Rattle.sets.specs.Promised.{meet}
use Rattle.theory.specs.Sets.{within}
use Rattle.members.proofs.first_within.Goals as goal

pub loop-member-preserved : goal.loop-member-preserved
loop-member-preserved c =
    let l = c.loop-member in
    let a = c.args in
    let known = c.type_inv.list l.i in
    let at = left_at a.list.now l.i l.invariant.left c.in-Some.ensures.cases.0 in
    record {
      inside = omega (arith, at.0);
      left = at.2;
      passed = below_more _ _ l.invariant.passed
          (sym (ap (λ x. within x a.e) at.1) ∙ some_out c.in-Some.member.now a.e (omega (arith, known, at.1)) (omega arith) (λ z. c.if-meet-eq0.false (c.meet.ensures ∙ ap (meet c.in-Some.member.now) c.without-others.ensures ∙ z)));
    }

pub returns-in_default : goal.returns-in_default
returns-in_default c =
    let l = c.loop-member in
    first_nowhere c.args.list.now c.args.e l.i l.invariant.passed (left_none c.args.list.now l.i l.invariant.left c.in_default.ensures.cases l.invariant.inside)

pub returns-then-meet-eq0 : goal.returns-then-meet-eq0
returns-then-meet-eq0 c =
    let l = c.loop-member in
    let a = c.args in
    let known = c.type_inv.list l.i in
    let at = left_at a.list.now l.i l.invariant.left c.in-Some.ensures.cases.0 in
    first_here a.list.now a.e l.i l.invariant.passed at.0
    (sym (ap (λ x. within x a.e) at.1) ∙ none_out c.in-Some.member.now a.e (omega (arith, known, at.1)) (omega arith) (sym (c.meet.ensures ∙ ap (meet c.in-Some.member.now) c.without-others.ensures) ∙ c.if-meet-eq0.true))
