-- `Page::rows` meets its contract. Assumes nothing.
use Rattle.std.proofs.Common.{◌≡◌, ◌∙◌, ℕ, ◌+◌, List, ap, arith, subst, sym}
use Rattle.listing.proofs.Lines.{below_again, below_space, below_start, number_inside, number_line, number_low, numbered_long}
use Rattle.listing.specs.Listing.{lines_below}
use Rattle.store.specs.Shape.{top}
use Rattle.text.specs.Writer.{Room, added}
use Rattle.listing.proofs.Page.rows.Goals as goal

pub loop-n-init : goal.loop-n-init
loop-n-init c = below_start c.args.self.now.store.now c.args.writer.now

pub lined-requires : goal.lined-requires
lined-requires c =
    let p = c.args.self.now in
    let n = c.loop-n.n in
    let low = number_low p.store.now p.marks _ p.right p.followed c.numbered-mark-items.ensures n c.loop-n-test.true in
    let inside = number_inside p.store.now p.marks _ p.right p.followed c.numbered-mark-items.ensures n c.loop-n-test.true in
    let line = number_line p.store.now p.marks _ p.right p.followed c.numbered-mark-items.ensures n c.loop-n-test.true in
    (p.right, low, subst (λ (t : List ℕ). Room t c.loop-n.writer) (sym line) (below_space p.store.now n _ c.loop-n.invariant (top p.store.now.held + 1) inside c.requires))

pub loop-n-preserved : goal.loop-n-preserved
loop-n-preserved c =
    let p = c.args.self.now in
    let line = number_line p.store.now p.marks _ p.right p.followed c.numbered-mark-items.ensures c.loop-n.n c.loop-n-test.true in
    below_again p.store.now c.loop-n.n _ c.loop-n.invariant (c.lined.ensures ∙ ap (λ (t : List ℕ). added t c.loop-n.writer) line)

pub returns : goal.returns
returns c =
    let p = c.args.self.now in
    let e : c.loop-n.n ≡ top p.store.now.held + 1 = omega (arith, c.loop-n-test.false, c.loop-n.auto.n-end, numbered_long p.store.now p.marks _ p.right p.followed c.numbered-mark-items.ensures) in
    c.loop-n.invariant ∙ ap (λ (k : ℕ). added (lines_below p.store.now k) c.args.writer.now) e
