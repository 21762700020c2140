-- `asking::write` meets its contract: the refusals, then the bytes. Assumes nothing.
use Rattle.std.proofs.Common.{◌+◌, ◌++◌, ◌∙◌, ap, sym, List, ℕ, drop, arith, length-take}
use Rattle.std.proofs.lemmas.Result.{err_from_is_err_and}
use Rattle.asking.proofs.Laws.{done_bytes, refused_reply, room_found, top_found}
use lib.Seq.{length-take-le}
use Rattle.asking.specs.Asking.{byte_of, context_bytes, context_of, standing}
use Rattle.store.specs.Reading.{contradicted_in}
use Rattle.store.specs.Shape.{top}
use Rattle.theory.specs.Places.{table}
use Rattle.asking.proofs.write.Goals as goal

pub returns-in_err-refusal-clause-reply : goal.returns-in_err-refusal-clause-reply
returns-in_err-refusal-clause-reply c =
    let p = err_from_is_err_and c.from_residual.result c.from_residual.ensures.1 in
    rw (p.1, p.2) (refused_reply c.args.store.now c.args.e c.args.out.now _ c.in_err-refusal.ensures)

pub fill-requires : goal.fill-requires
fill-requires c =
    let k = c.in_ok-refusal.ensures in
    (room_found c.args.store.now 0 c.args.e tt k, c.from_all-marks.ensures, simp length-take (omega (arith, top_found c.args.store.now 0 c.args.e tt k)))

pub returns-clause-bytes : goal.returns-clause-bytes
unfolding context_bytes context_of
returns-clause-bytes c =
    let s = c.args.store.now in
    let e = c.args.e in
    let out = c.args.out.now in
    ap (λ (l : List ℕ). l ++ drop (top s.held + 1) out)
    (c.fill.ensures ∙ ap (λ (n : ℕ). table n (λ n. byte_of (contradicted_in s n) (standing s.lists n e))) (length-take-le _ _ c.if-out-end.false))
    ∙ sym (done_bytes s e out tt c.in_ok-refusal.ensures (context_of s e ++ drop (top s.held + 1) out) c.if-out-end.false)
