use Rattle.std.proofs.Common.{rules, ◌≡◌, ◌∙◌, ◌++◌, ◌∷◌, [], Some}
use Rattle.std.specs.Prelude.{slice_get}
use Rattle.dfr_recorder.proofs.Copying.{copied_more}
use Rattle.dfr_recorder.proofs.ring.copies.Goals as goal

pub loop-i-preserved : goal.loop-i-preserved
loop-i-preserved g c =
    let got : slice_get c.args.ring.now.items c.loop-i.i ≡ Some c.in_ok-copy.copy = search rules in
    let pushed : c.push.new.self.items ≡ c.loop-i.scans.items ++ c.in_ok-copy.copy ∷ [] = search rules in
    pushed ∙ copied_more _ c.loop-i.i c.args.ring.now.items c.loop-i.scans.items c.in_ok-copy.copy (search rules) got c.loop-i.invariant
