use Rattle.std.proofs.Common.{rules, ap, ◌∙◌, pos, get_or, w32}
use Rattle.std.proofs.lemmas.Int.{to_z-of_z}
use Rattle.comtrade_c.specs.Values.{value_of}
use Rattle.comtrade_c.proofs.Laid.{laid_more}
use Rattle.comtrade_c.proofs.values.comtrade_core_values.Goals as goal

pub loop-k-preserved : goal.loop-k-preserved
loop-k-preserved c =
    let f = value_of (record { a = c.args.a; b = c.args.b }) in
    let x = get_or c.args.samples.now c.loop-k.k (pos 0) in
    laid_more f c.args.samples.now c.loop-k.values c.args.values.now c.loop-k.k (pos 0) c.value_of.result (search rules) (search rules)
    c.loop-k.invariant (c.value_of.ensures ∙ ap f (to_z-of_z w32 x (search rules)))
