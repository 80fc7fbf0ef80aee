use Rattle.std.proofs.Common.{◌≤◌, ◌++◌, false, length, drop, ap, arith, length-append, inr}
use Rattle.dfr_station.specs.Input.{pieces}
use Rattle.dfr_station.proofs.Coming.{pieces_first, takes}
use Rattle.dfr_station.proofs.intake.cutter.Cutter.next_line.Goals as goal

pub returns : goal.returns
returns g c =
    let s = c.args.self.now in
    let done = c.hand_out.ensures in
    let cut = rw c.waiting.ensures.bytes at c.in_ok-text.ensures in
    let parts = simp length-append at (ap length cut.cut) in
    let most : length s.buffer ≤ 65_536 = rw c.waiting.ensures.bytes at c.waiting.ensures.few in
    let means = rw (c.line.ensures, done.given, cut.text) at c.meaning_of-meaning.ensures in
    rw done.state (takes false s c.hand_out.result c.in_ok-text.count _ _ s.is_skipping (λ more. cut.piece) (λ more. pieces (drop c.in_ok-text.count s.buffer ++ more))
    c.requires.ready (omega (arith, cut.counted)) (omega (arith, cut.counted, parts))
    (λ more none. (pieces_first s.buffer _ more _ cut, λ n came xs gives. rw c.requires.ready.begins at gives, inr (omega (arith, cut.counted, parts, most), means)))
    (rw done.given at done.came) done.paid)
