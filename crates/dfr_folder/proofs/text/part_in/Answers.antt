use Rattle.std.proofs.Common.{sym}
use Rattle.comtrade_values.specs.Written.{padded}
use Rattle.dfr_folder.proofs.SeenLemmas.{Some_not_None}
use Rattle.dfr_folder.proofs.TextLemmas.{digits_lack, few_digits, padded_digits, same_some}
use Rattle.dfr_folder.proofs.text.part_in.Goals as goal

pub returns-in_default-padded_in-clause-reads : goal.returns-in_default-padded_in-clause-reads
returns-in_default-padded_in-clause-reads c = λ n rest small is.
    let w = c.args.width in
    let lacks = digits_lack (padded w n) c.args.mark (padded_digits w n (few_digits n w c.requires.few small)) c.requires.mark in
    let parts = c.in-Some.ensures.reads (padded w n) rest lacks is in
    Some_not_None n (sym (c.in_default-padded_in.ensures.reads n small parts.0))

pub returns-clause-reads : goal.returns-clause-reads
returns-clause-reads c = λ n rest small is.
    let w = c.args.width in
    let lacks = digits_lack (padded w n) c.args.mark (padded_digits w n (few_digits n w c.requires.few small)) c.requires.mark in
    let parts = c.in-Some.ensures.reads (padded w n) rest lacks is in
    (same_some c.in-Some-padded_in.number n (c.in-Some-padded_in.ensures.reads n small parts.0), parts.1)
