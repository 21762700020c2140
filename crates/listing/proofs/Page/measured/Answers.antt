-- `Page::measured` meets its contract. Assumes nothing.
use Rattle.std.proofs.Common.{◌≡◌, ◌∙◌, ℕ, ◌+◌, ap, arith, eqb, get_or, length, sym}
use Rattle.lines.proofs.Longest.{line_length}
use Rattle.listing.proofs.Lines.{below_length, below_none, number_line, number_low, numbered_long}
use Rattle.listing.proofs.Longest.{below_few}
use Rattle.listing.specs.Listing.{lines_below}
use Rattle.store.specs.Shape.{top}
use Rattle.text.proofs.Added.{fresh_room, whole_length}
use Rattle.listing.proofs.Page.measured.Goals as goal

pub loop-n-init : goal.loop-n-init
loop-n-init c = sym (ap length (below_none c.args.self.now.store.now))

pub lined-requires : goal.lined-requires
lined-requires c =
    let p = c.args.self.now in
    let n = c.loop-n.n in
    let low = number_low p.store.now p.marks _ p.right p.followed c.numbered-mark-items.ensures n c.loop-n-test.true in
    (p.right, low, fresh_room c.new-writer.ensures _ (omega (arith, line_length p.store.now n (eqb (get_or c.numbered-mark-items.result.now n 0) 0) p.right (omega (arith, p.places)) low, c.loop-n-test.array_long)))

pub overflow_add-sum : goal.overflow_add-sum
overflow_add-sum c =
    let p = c.args.self.now in
    let n = c.loop-n.n in
    let low = number_low p.store.now p.marks _ p.right p.followed c.numbered-mark-items.ensures n c.loop-n-test.true in
    omega (arith, line_length p.store.now n (eqb (get_or c.numbered-mark-items.result.now n 0) 0) p.right (omega (arith, p.places)) low, c.loop-n.invariant, whole_length c.new-writer.ensures _ c.lined.ensures, below_few p.store.now p.right (omega (arith, p.places)) n (omega (arith, low)))

pub loop-n-preserved : goal.loop-n-preserved
loop-n-preserved c =
    let p = c.args.self.now in
    let line = number_line p.store.now p.marks _ p.right p.followed c.numbered-mark-items.ensures c.loop-n.n c.loop-n-test.true in
    omega (arith, below_length p.store.now c.loop-n.n, ap length line, c.loop-n.invariant, whole_length c.new-writer.ensures _ c.lined.ensures)

pub returns : goal.returns
returns c =
    let p = c.args.self.now in
    let e : c.loop-n.n ≡ top p.store.now.held + 1 = omega (arith, c.loop-n-test.false, c.loop-n.auto.n-end, numbered_long p.store.now p.marks _ p.right p.followed c.numbered-mark-items.ensures) in
    c.loop-n.invariant ∙ ap (λ (k : ℕ). length (lines_below p.store.now k)) e
