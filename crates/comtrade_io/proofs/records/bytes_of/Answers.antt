use Rattle.std.proofs.Common.{◌≡◌, length, decimal, ◌∙◌}
use Rattle.comtrade_io.proofs.Cutting.{sized_found, stripped, not_stripped, split_found}
use Rattle.comtrade_io.proofs.records.bytes_of.Goals as goal

pub returns-in_err-strip_prefix : goal.returns-in_err-strip_prefix
returns-in_err-strip_prefix c = λ bytes after small one e.
    let f = sized_found c.args.word.now bytes after c.args.text.now small one e in
    absurd (not_stripped c.args.word.now (decimal (length bytes)) c.in_ok-line.line.now (c.in_ok-line.ensures.line ∙ f.line) c.in_err-strip_prefix.ensures.cases)

pub returns-in_err-length : goal.returns-in_err-length
returns-in_err-length c = λ bytes after small one e.
    let f = sized_found c.args.word.now bytes after c.args.text.now small one e in
    let s = stripped c.args.word.now (decimal (length bytes)) c.in_ok-line.line.now (c.in_ok-line.ensures.line ∙ f.line) in
    let n = c.number_of.ensures (length bytes) small (c.in_ok-strip_prefix.ensures.cases.1 ∙ s.1) in
    absurd (cc (n, c.in_err-length.was))

pub returns : goal.returns
returns c = λ bytes after small one e.
    let f = sized_found c.args.word.now bytes after c.args.text.now small one e in
    let s = stripped c.args.word.now (decimal (length bytes)) c.in_ok-line.line.now (c.in_ok-line.ensures.line ∙ f.line) in
    let n = c.number_of.ensures (length bytes) small (c.in_ok-strip_prefix.ensures.cases.1 ∙ s.1) in
    let same : c.in_ok-length.length ≡ length bytes = cc (n, c.in_ok-length.was) in
    split_found bytes after c.in_ok-line.rest.now _ c.split_at_checked.result (c.in_ok-line.ensures.rest ∙ f.rest) same c.split_at_checked.ensures.cases
