use Rattle.std.proofs.Common.{◌≡◌, true, [], ◌++◌, length, drop, refl, ap, ◌∙◌, arith, inr}
use Rattle.std.proofs.lemmas.List.{append-nil, drop_all}
use Rattle.std.proofs.lemmas.List.Splits.{slice_split_none}
use Rattle.dfr_station.specs.Lines.{is_feed}
use Rattle.dfr_station.specs.Input.{pieces}
use Rattle.dfr_station.proofs.Coming.{ends_there, takes}
use Rattle.dfr_station.proofs.intake.cutter.Cutter.last_line.Goals as goal

pub returns : goal.returns
returns g c =
    let s = c.args.self.now in
    let done = c.hand_out.ensures in
    let count : length c.waiting-bytes.result.now ≡ length s.buffer = ap length c.waiting-bytes.ensures.bytes in
    let nothing : drop (length c.waiting-bytes.result.now) s.buffer ≡ [] = drop_all _ s.buffer (omega arith) in
    let means = rw (c.line.ensures, done.given, c.without_return.ensures, c.waiting-bytes.ensures.bytes) at c.meaning_of-meaning.ensures in
    rw done.state (takes true s c.hand_out.result (length c.waiting-bytes.result.now) _ _ s.is_skipping (λ more. s.buffer) (λ more. [])
    c.requires.ready (omega arith) (omega arith)
    (λ more none.
    let last : more ≡ [] = none refl in (
      ap (λ m. pieces (s.buffer ++ m)) last ∙ ap pieces (append-nil s.buffer) ∙ slice_split_none is_feed s.buffer c.requires.short.0,
      λ n came xs gives. ends_there s.layout.now n came xs (rw (c.requires.ready.begins, nothing, last) at gives),
      inr (c.requires.short.1, means),
    ))
    (rw done.given at done.came) done.paid)
