use Rattle.std.proofs.Common.{◌≡◌, false, [], length, drop, ap, ◌∙◌, arith}
use Rattle.std.proofs.lemmas.List.{drop_all}
use Rattle.dfr_station.proofs.Coming.{pieces_first, pieces_on, skips_to}
use Rattle.dfr_station.proofs.intake.cutter.Cutter.skip_on.Goals as goal

pub returns-in-Some-clause-cut : goal.returns-in-Some-clause-cut
returns-in-Some-clause-cut g c =
    let s = c.args.self.now in
    let cut = rw c.waiting.ensures.bytes at c.in-Some.ensures in
    rw c.use_up.ensures (skips_to s (drop c.in-Some.count s.buffer) false c.requires.lines c.requires.skipping
    (λ more. ap (drop 1) (pieces_first s.buffer _ more c.in-Some.count cut)))

pub returns-in-None-clause-cut : goal.returns-in-None-clause-cut
returns-in-None-clause-cut g c =
    let s = c.args.self.now in
    let none = rw c.waiting.ensures.bytes at c.in-None.ensures in
    let count : length c.waiting-count.result.now ≡ length s.buffer = ap length c.waiting-count.ensures.bytes in
    let nothing : c.use_up-in-None.new.self ≡ [] = c.use_up-in-None.ensures ∙ drop_all _ s.buffer (omega arith) in
    rw nothing (skips_to s [] s.is_skipping c.requires.lines c.requires.skipping
    (λ more. rw c.requires.skipping (ap (drop 1) (pieces_on s.buffer more none))))
