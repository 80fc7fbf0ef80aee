use Rattle.std.proofs.Common.{◌≡◌, ◌∷◌, [], drop, decimal, ◌∙◌, ap}
use Rattle.std.specs.Prelude.{codes}
use Rattle.std.specs.List.{before_first}
use Rattle.comtrade_io.specs.Pieces.{is_space}
use Rattle.comtrade_io.specs.Replayed.{sized}
use Rattle.comtrade_io.proofs.Cutting.{number_found, not_stripped, one_line_cfg, one_line_dat}
use Rattle.comtrade_io.proofs.records.record_of.Goals as goal

pub returns-in_err-number : goal.returns-in_err-number
returns-in_err-number c = λ r after ok line text.
    let word : c.word_of.result.now ≡ decimal r.number = c.word_of.ensures ∙ ap (before_first is_space) line ∙ number_found r.number r.words ok.number in
    let number = c.number_of.ensures r.number ok.number word in
    absurd (cc (number, c.in_err-number.was))

pub returns-in_err-rest : goal.returns-in_err-rest
returns-in_err-rest c = λ r after ok line text.
    let cfg = c.in_ok-cfg.ensures r.cfg (sized (codes "dat ") r.dat (10 ∷ after)) ok.cfg one_line_cfg text in
    let dat = c.in_ok-dat.ensures r.dat (10 ∷ after) ok.dat one_line_dat cfg.1 in
    absurd (not_stripped (10 ∷ []) after c.in_ok-dat.rest.now dat.1 c.in_err-rest.ensures.cases)

pub returns : goal.returns
returns c = λ r after ok line text.
    let word : c.word_of.result.now ≡ decimal r.number = c.word_of.ensures ∙ ap (before_first is_space) line ∙ number_found r.number r.words ok.number in
    let number = c.number_of.ensures r.number ok.number word in
    let same : c.in_ok-number.number ≡ r.number = cc (number, c.in_ok-number.was) in
    let cfg = c.in_ok-cfg.ensures r.cfg (sized (codes "dat ") r.dat (10 ∷ after)) ok.cfg one_line_cfg text in
    let dat = c.in_ok-dat.ensures r.dat (10 ∷ after) ok.dat one_line_dat cfg.1 in
    ((same, cfg.0, dat.0), c.in_ok-rest.ensures.cases.1 ∙ ap (drop 1) dat.1)
