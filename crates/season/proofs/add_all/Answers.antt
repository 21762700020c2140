-- `season::add_all` meets its contract: the shape, the room, then the store and the bytes after the items so far. Assumes nothing.
use Rattle.std.proofs.Common.{◌≡◌, ◌∙◌, ◌<◌, ◌++◌, ap, arith, drop, length, subst, sym, take, true, List, ℕ}
use lib.Seq.{take-length}
use Rattle.handed.specs.declared.Handed.{Handed}
use Rattle.replies.specs.declared.Reply.TheVariants.{Done}
use Rattle.season.proofs.Folds.{all_done, all_right, all_shape, all_short, bytes_next, bytes_none, store_next, store_none}
use Rattle.season.specs.Season.{added_all, replies_of}
use Rattle.store.specs.Calls.{answer}
use Rattle.store.specs.Shape.{right_shape}
use Rattle.store.specs.declared.Store.{Store}
use Rattle.season.proofs.add_all.Goals as goal

pub returns-then-not-shape : goal.returns-then-not-shape
returns-then-not-shape c = all_shape c.args.store c.args.list.now c.args.out.now (sym c.shape.ensures ∙ c.if-not-shape.true)

pub returns-then-out-list : goal.returns-then-out-list
returns-then-out-list c = all_short c.args.store c.args.list.now c.args.out.now (sym c.shape.ensures ∙ c.if-not-shape.false) c.if-out-list.true

pub loop-i-init : goal.loop-i-init
loop-i-init c = (store_none c.args.store c.args.list.now, bytes_none c.args.store c.args.list.now c.args.out.now)

pub give-told-requires : goal.give-told-requires
give-told-requires c = subst (λ (k : Store). right_shape k ≡ true) (sym c.loop-i.invariant.0) (all_right c.args.store (take c.loop-i.i c.args.list.now) (sym c.shape.ensures ∙ c.if-not-shape.false))

pub loop-i-preserved : goal.loop-i-preserved
loop-i-preserved c =
    let l = c.loop-i in
    let inside : l.i < length c.args.list.now = omega (arith, c.loop-i-test.true) in (
      store_next l.i c.args.store c.args.list.now l.after c.give-told.result inside c.give-told.ensures l.invariant.0,
      bytes_next l.i c.args.store c.args.list.now c.args.out.now l.after l.out c.give-told.result c.number.result inside (omega (arith, c.if-out-list.false)) c.give-told.ensures c.number.ensures l.invariant.0 l.invariant.1,
    )

pub returns : goal.returns
returns c =
    let a = c.args in
    let l = c.loop-i in
    let all : l.i ≡ length a.list.now = omega (arith, l.auto.i-end, c.loop-i-test.false) in
    let every : take l.i a.list.now ≡ a.list.now = ap (λ (k : ℕ). take k a.list.now) all ∙ take-length a.list.now in
    let done = all_done a.store a.list.now a.out.now (sym c.shape.ensures ∙ c.if-not-shape.false) c.if-out-list.false in (
      ap (answer Done) (l.invariant.0 ∙ ap (added_all a.store) every) ∙ done.0,
      l.invariant.1 ∙ ap (λ (k : ℕ). replies_of a.store (take l.i a.list.now) ++ drop k a.out.now) all ∙ ap (λ (m : List Handed). replies_of a.store m ++ drop (length a.list.now) a.out.now) every ∙ done.1,
    )
