use Rattle.std.proofs.Common.{◌≡◌, false, true, [], ◌++◌, length, drop, ap, arith}
use Rattle.std.proofs.lemmas.List.{drop_all}
use Rattle.dfr_station.specs.Input.{one_more, pieces}
use Rattle.dfr_station.proofs.Coming.{first_of, pieces_on, long_gives, takes}
use Rattle.dfr_station.proofs.intake.cutter.Cutter.long_line.Goals as goal

pub returns : goal.returns
returns g c =
    let s = c.args.self.now in
    let done = c.hand_out.ensures in
    let count : length c.waiting-bytes.result.now ≡ length s.buffer = ap length c.waiting-bytes.ensures.bytes in
    let nothing : drop (length c.waiting-bytes.result.now) s.buffer ≡ [] = drop_all _ s.buffer (omega arith) in
    let means = rw (c.line.ensures, done.given, c.waiting-bytes.ensures.bytes) at c.refused-meaning.ensures in
    rw done.state (takes false s c.hand_out.result (length c.waiting-bytes.result.now) _ _ true (λ more. s.buffer ++ first_of (pieces more)) (λ more. drop 1 (pieces more))
    c.requires.ready (omega arith) (omega arith)
    (λ more none. (
      pieces_on s.buffer more c.requires.long.0,
      λ n came xs gives. rw nothing at gives,
      long_gives s.layout.now (one_more s.lines) s.came s.buffer (first_of (pieces more)) _ c.requires.long.1 means,
    ))
    (rw done.given at done.came) done.paid)
