use Rattle.std.proofs.Common.{◌≡◌, ◌+◌, ◌<◌, ◌∙◌, ℕ, Option, Some, List, length, refl, sym, ap, arith, get_or}
use Rattle.std.specs.Prelude.{option_and_then, slice_get}
use Rattle.std.proofs.lemmas.Option.{slice_get-get_or}
use Rattle.comtrade_format.specs.Borders.{Seen, border}
use Rattle.comtrade_c.specs.Writing.{stamp_in}
use Rattle.comtrade_c.specs.Times.{stamp_at}
use Rattle.comtrade_c.proofs.times.border_in.Goals as goal

pub loop-k-preserved : goal.loop-k-preserved
loop-k-preserved g c =
    let stamps = c.args.stamps.now in
    let k = c.loop-k.k in
    let is : c.stamp_of.result ≡ stamp_at stamps k =
    c.stamp_of.ensures ∙ ap (λ o. option_and_then stamp_in o) (sym (slice_get-get_or stamps k 0 (omega arith))) in
    c.after-search.ensures c.args.head.now (stamp_at stamps) c.loop-k.invariant is

pub returns : goal.returns
returns g c =
    let stamps = c.args.stamps.now in
    let all : c.loop-k.k ≡ length stamps = omega arith in
    c.border.ensures c.args.head.now (stamp_at stamps) c.loop-k.k c.loop-k.invariant
    ∙ ap (λ n. border c.args.head.now n (stamp_at stamps)) all

pub loop-k-init : goal.loop-k-init
loop-k-init g c = c.search_of-search.ensures (stamp_at c.args.stamps.now)
