-- `stagetext::last` meets its contract. Assumes nothing.
use Rattle.std.proofs.Common.{◌≡◌, ◌∙◌, ap, refl, ltb, ℕ, Option, None, Some, rules, tests}
use Prim.Native.Nat.{max}
use Rattle.std.specs.List.{filter, reduce}
use Rattle.std.specs.Option.{option_map, unwrap_or}
use Rattle.std.proofs.lemmas.Iterator.{YieldsList-from_slice}
use Rattle.std.proofs.lemmas.Iterator.Consumers.{YieldsList-at, YieldsList-from_copied, YieldsList-from_filter, max_from_yields_List}
use Rattle.stagetext.proofs.Laws.{latest_is}
use Rattle.stagetext.proofs.last.Goals as goal

kept : (o : Option ℕ) → o ≡ option_map (λ x. x) o
kept None = refl
kept (Some x) = refl

pub returns : goal.returns
returns c =
    let m = c.args.marks.now in
    let best : option_map (λ x. x) c.max.result ≡ reduce max (filter (λ x. ltb x 255) m) = max_from_yields_List _ _ c.max.ensures.ran (YieldsList-from_filter _ (λ x. ltb x 255) (YieldsList-at c.filter.ensures.source (YieldsList-from_copied (YieldsList-from_slice m (cc)))) c.filter.ensures.closure (λ x r q k. search (rules, tests))) in
    c.unwrap_or.ensures ∙ ap (λ (o : Option ℕ). unwrap_or o 0) (kept c.max.result ∙ best) ∙ latest_is m
