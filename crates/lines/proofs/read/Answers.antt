-- `lines::read` meets its contract: the refusals, then the text. Assumes nothing.
use Rattle.std.proofs.Common.{◌≡◌, ◌∙◌, ◌≤◌, arith, length, rules, sym}
use Rattle.std.proofs.lemmas.Result.{err_from_is_err_and}
use Rattle.lines.proofs.Fits.{line_refused, line_rest}
use Rattle.lines.proofs.Longest.{line_length}
use Rattle.lines.proofs.Told.{text_told}
use Rattle.store.proofs.Reading.{Readable, readable}
use Rattle.text.proofs.Added.{fresh_room, whole_room, whole_text}
use Rattle.theory.specs.Limits.{limits}
use Rattle.lines.proofs.read.Goals as goal

pub returns-in_err-refusal : goal.returns-in_err-refusal
returns-in_err-refusal c =
    let a = c.args in
    let p = err_from_is_err_and c.from_residual.result c.from_residual.ensures.1 in
    rw (p.1, p.2) (line_refused a.store a.out.now a.n _ c.in_err-refusal.ensures)

pub contradicted-requires : goal.contradicted-requires
contradicted-requires c =
    let known : Readable c.args.store c.args.n 0 = readable c.args.store c.args.n 0 tt c.in_ok-refusal.ensures in
    let low : c.args.n ≤ limits.numbers = let k = known in omega (arith, k.number, k.fit.few, k.fit.claims) in
    (known.right, low)

pub lined-requires : goal.lined-requires
lined-requires c =
    let known : Readable c.args.store c.args.n 0 = readable c.args.store c.args.n 0 tt c.in_ok-refusal.ensures in
    let low : c.args.n ≤ limits.numbers = let k = known in omega (arith, k.number, k.fit.few, k.fit.claims) in
    let nogoods : length c.args.store.lists.nogoods ≤ limits.nogoods = let e : length c.args.store.lists.nogoods ≡ limits.nogoods = search rules in omega arith in
    (known.right, low, fresh_room c.new-writer.ensures _ (line_length c.args.store c.args.n _ known.right nogoods low))

pub text-requires : goal.text-requires
text-requires c =
    let known : Readable c.args.store c.args.n 0 = readable c.args.store c.args.n 0 tt c.in_ok-refusal.ensures in
    let low : c.args.n ≤ limits.numbers = let k = known in omega (arith, k.number, k.fit.few, k.fit.claims) in
    let nogoods : length c.args.store.lists.nogoods ≤ limits.nogoods = let e : length c.args.store.lists.nogoods ≡ limits.nogoods = search rules in omega arith in
    whole_room c.new-writer.ensures _ c.lined.ensures (line_length c.args.store c.args.n _ known.right nogoods low)

pub returns : goal.returns
returns c =
    let known : Readable c.args.store c.args.n 0 = readable c.args.store c.args.n 0 tt c.in_ok-refusal.ensures in
    line_rest c.args.store _ c.args.n known (c.text.ensures ∙ whole_text c.new-writer.ensures _ c.lined.ensures ∙ text_told c.args.store c.args.n _ c.contradicted.ensures) c.fit.ensures
