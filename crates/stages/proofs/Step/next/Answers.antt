-- `stages::next` meets its contract. Assumes nothing.
use Rattle.std.proofs.Common.{◌+◌, sym, ◌∙◌, arith}
use Rattle.rules.proofs.Laws.{right_range}
use Rattle.stages.proofs.Compares.{still_news, still_quiet}
use Rattle.stages.proofs.Keeps.{news_told, told_news}
use Rattle.stages.proofs.Marks.{fresh_on, stale_from, step_agrees}
use Rattle.stages.proofs.Nexts.{built_is, built_over, next_beyond, next_fits, next_over, placed_listed}
use Rattle.stages.proofs.Parts.{wide}
use Rattle.stages.proofs.Stages.{listed_taken, nogoods_few}
use Rattle.stages.proofs.Writing.{lists_made, members_placed, sizes_placed}
use Rattle.stages.specs.Steps.{stage_by}
use Rattle.theory.specs.Limits.{limits}
use Rattle.stages.proofs.Step.next.Goals as goal

pub refuted-requires : goal.refuted-requires
refuted-requires c =
    let p = c.args.self.now in
    let h = c.args.self.now.held.now in
    (stale_from h c.args.self.now.lists.now.depth _ p.fresh (wide h p.reached.judgeable) (λ r m s o. ((right_range h p.reached.judgeable.right r m).between s o).1) c.touched-stale.result c.touched-stale.ensures 0 (omega arith))

pub returns-in_default : goal.returns-in_default
returns-in_default c =
    let h = c.args.self.now.held.now in
    next_over (c.args.self.now.lists.now.depth + 1) _ (built_over limits.nogoods (stage_by h (c.args.self.now.lists.now.depth + 1)).nogoods _ (sym c.in_default.is ∙ c.refuted.ensures))

pub shared_ref_as_front-struck : goal.shared_ref_as_front-struck
shared_ref_as_front-struck c =
    let b = built_is limits.nogoods (stage_by c.args.self.now.held.now (c.args.self.now.lists.now.depth + 1)).nogoods c.in-Ok.built (sym c.in-Ok.is ∙ c.refuted.ensures) in
    (placed_listed _ _ b.1 b.0).few

pub shared_ref_as_front-differs : goal.shared_ref_as_front-differs
shared_ref_as_front-differs c = nogoods_few _ _ c.args.self.now.reached.room c.args.self.now.lists.now c.args.self.now.reached.is

pub relabel-over-requires : goal.relabel-over-requires
relabel-over-requires c =
    let p = c.args.self.now in
    let h = c.args.self.now.held.now in
    let k = c.args.self.now.lists.now.depth in
    let b = built_is limits.nogoods (stage_by h (k + 1)).nogoods c.in-Ok.built (sym c.in-Ok.is ∙ c.refuted.ensures) in
    let n = placed_listed _ _ b.1 b.0 in (
      listed_taken _ _ _ n,
      stale_from h k _ p.fresh (wide h p.reached.judgeable) (λ r m s o. ((right_range h p.reached.judgeable.right r m).between s o).1) c.touched-stale.result c.touched-stale.ensures,
      told_news h p.reached.judgeable k _ (news_told h p.reached.judgeable k c.args.self.now.lists.now p.reached.is p.reached.room _ _ n _ c.differs-news.ensures),
      c.requires.0,
      c.requires.1,
    )

pub returns-in-Some : goal.returns-in-Some
returns-in-Some c =
    let h = c.args.self.now.held.now in
    let k = c.args.self.now.lists.now.depth in
    let b = built_is limits.nogoods (stage_by h (k + 1)).nogoods c.in-Ok.built (sym c.in-Ok.is ∙ c.refuted.ensures) in
    next_beyond (k + 1) (stage_by h (k + 1)) b.0 _ (sym c.in-Some.is ∙ c.relabel-over.ensures.over)

pub returns-then-not-news : goal.returns-then-not-news
returns-then-not-news c =
    let p = c.args.self.now in
    let h = c.args.self.now.held.now in
    let k = c.args.self.now.lists.now.depth in
    let b = built_is limits.nogoods (stage_by h (k + 1)).nogoods c.in-Ok.built (sym c.in-Ok.is ∙ c.refuted.ensures) in
    let n = placed_listed _ _ b.1 b.0 in
    let r = c.relabel-over.ensures in
    let z = c.in_default-over.is in (
      next_fits (k + 1) (stage_by h (k + 1)) b.0 (sym z ∙ r.over) _
          (lists_made (k + 1) (stage_by h (k + 1)) _ _ _ _ (r.sizes_are z ∙ sym (sizes_placed (k + 1) (stage_by h (k + 1)))) (r.members_are z ∙ sym (members_placed (k + 1) (stage_by h (k + 1)))) n),
      fresh_on h k _ (r.marks_are z),
      step_agrees h k _ (r.marks_are z) (wide h p.reached.judgeable) _ (news_told h p.reached.judgeable k c.args.self.now.lists.now p.reached.is p.reached.room _ _ n _ c.differs-news.ensures) _ (still_quiet _ _ c.if-not-news.true _ c.zeros.ensures),
    )

pub returns-else-not-news : goal.returns-else-not-news
returns-else-not-news c =
    let p = c.args.self.now in
    let h = c.args.self.now.held.now in
    let k = c.args.self.now.lists.now.depth in
    let b = built_is limits.nogoods (stage_by h (k + 1)).nogoods c.in-Ok.built (sym c.in-Ok.is ∙ c.refuted.ensures) in
    let n = placed_listed _ _ b.1 b.0 in
    let r = c.relabel-over.ensures in
    let z = c.in_default-over.is in (
      next_fits (k + 1) (stage_by h (k + 1)) b.0 (sym z ∙ r.over) _
          (lists_made (k + 1) (stage_by h (k + 1)) _ _ _ _ (r.sizes_are z ∙ sym (sizes_placed (k + 1) (stage_by h (k + 1)))) (r.members_are z ∙ sym (members_placed (k + 1) (stage_by h (k + 1)))) n),
      fresh_on h k _ (r.marks_are z),
      step_agrees h k _ (r.marks_are z) (wide h p.reached.judgeable) _ (news_told h p.reached.judgeable k c.args.self.now.lists.now p.reached.is p.reached.room _ _ n _ c.differs-news.ensures) _ (still_news _ _ c.if-not-news.false),
    )
