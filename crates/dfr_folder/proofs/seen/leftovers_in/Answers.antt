use Rattle.std.proofs.Common.{rules, ◌≡◌, ◌<◌, length, sym, ◌∙◌}
use Rattle.std.specs.Prelude.{false}
use Rattle.dfr_folder.proofs.SeenLemmas.{keys_step, keys_skip}
use Rattle.dfr_folder.proofs.seen.leftovers_in.Goals as goal

pub loop-seen-preserved : goal.loop-seen-preserved
loop-seen-preserved c = λ n is there.
    let less : c.loop-seen.seen-index < length c.args.names.now = search rules in
    rw c.in_ok-push.ensures.items (keys_step c.args.names.now c.loop-seen.keys.items n c.loop-seen.seen-index _ less (c.loop-seen.invariant n is there))

pub loop-seen-preserved-then-not-is_leftover : goal.loop-seen-preserved-then-not-is_leftover
loop-seen-preserved-then-not-is_leftover c = λ n is there.
    let less : c.loop-seen.seen-index < length c.args.names.now = search rules in
    let no : c.is_leftover.result ≡ false = search rules in
    keys_skip c.args.names.now c.loop-seen.keys.items n c.loop-seen.seen-index _ less (sym c.is_leftover.ensures ∙ no) is (c.loop-seen.invariant n is there)
